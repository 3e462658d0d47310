use Rattle.std.proofs.Common.{ℕ, List, ap, ◌∙◌}
use Rattle.caf_kinds.specs.declared.setup.KindName.TheVariants as name
use Rattle.caf_scenario.specs.Builtin.{plain_setup}
use Rattle.caf_scenario.proofs.BuiltinLemmas.{counters_on}
use Rattle.caf_scenario.proofs.built_in.push_counters.Goals as goal

pub loop-preserved : goal.loop-preserved
loop-preserved c =
    counters_on c.args.collector c.loop.counter c.args.setups.now c.loop.setups c.push.new.self c.setup.result c.in_ok-push.ensures.added
    (c.setup.ensures ∙ ap (λ (peers : List ℕ). plain_setup name.Counter peers) c.in_ok-peers.ensures)
    c.loop.invariant

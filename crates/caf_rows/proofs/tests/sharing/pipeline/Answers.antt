use Rattle.std.proofs.Common.{sym, ◌∙◌, arith}
use Rattle.caf_rows.proofs.ShortLemmas.{all_short}
use Rattle.caf_rows.proofs.tests.sharing.pipeline.Goals as goal

pub opening_actors-requires : goal.opening_actors-requires
opening_actors-requires c =
    c.builtin_opens.ensures 1 c.in_ok-scenario.scenario c.push.new.self (omega arith) (omega arith) c.in_ok-scenario.ensures
    (all_short c.push.new.self (sym c.are_short.ensures ∙ c.if-not-are_short.false))

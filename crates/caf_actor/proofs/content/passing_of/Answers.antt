use Rattle.std.proofs.Common.{◌∙◌, sym, ap}
use Rattle.caf_message.specs.Content.{ids_in}
use Rattle.caf_actor.proofs.InterfaceLemmas.{found_takes}
use Rattle.caf_actor.proofs.content.passing_of.Goals as goal

pub returns-in-Some-clause-passes : goal.returns-in-Some-clause-passes
returns-in-Some-clause-passes g c =
    c.delegates.ensures ∙ ap (g.B.Behavior.rules.delegates c.args.behavior.now) (found_takes (ids_in c.args.message.now.content) c.interface.result.now c.in-Some.signature.now (sym c.in-Some.ensures.found))

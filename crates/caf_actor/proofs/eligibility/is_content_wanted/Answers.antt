use Rattle.std.proofs.Common.{◌∙◌, sym, ap, not}
use Rattle.caf_message.specs.Content.{ids_in}
use Rattle.caf_actor.proofs.InterfaceLemmas.{found_takes}
use Rattle.caf_actor.proofs.eligibility.is_content_wanted.Goals as goal

pub returns-in-Some-clause-wanted : goal.returns-in-Some-clause-wanted
returns-in-Some-clause-wanted g c =
    ap not (c.skips.ensures ∙ ap (g.B.Behavior.rules.skips c.args.behavior.now) (found_takes (ids_in c.args.message.now.content) c.interface.result.now c.in-Some.signature.now (sym c.in-Some.ensures.found)))

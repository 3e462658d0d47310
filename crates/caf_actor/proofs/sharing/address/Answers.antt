use Rattle.std.proofs.Common.{arith, ◌≡◌, ℕ, List, length, sym, subst}
use Rattle.std.proofs.lemmas.Grind.{common_steps}
use Rattle.caf_steps.specs.declared.reference.Reference.{Reference}
use Rattle.caf_actor.specs.Sharing.{IsShared}
use Rattle.caf_actor.proofs.SharingLemmas.{shared_first}
use Rattle.caf_actor.proofs.sharing.address.Goals as goal

pub returns-in-Ok-clause-references : goal.returns-in-Ok-clause-references
returns-in-Ok-clause-references c = grind (arith, common_steps)

pub returns-in-Ok-clause-shared : goal.returns-in-Ok-clause-shared
returns-in-Ok-clause-shared c = λ room some few.
    subst (λ (addressed : List (ℕ × Reference)). IsShared c.args.message (length c.args.places) addressed) (sym (returns-in-Ok-clause-references c room few)) (shared_first c.args.message c.args.places some)

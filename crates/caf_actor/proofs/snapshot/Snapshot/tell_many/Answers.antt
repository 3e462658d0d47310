use Rattle.std.proofs.Common.{◌≡◌, ◌∙◌, ℕ, List, ◌++◌, ap, subst}
use Rattle.std.specs.Prelude.{OnOk}
use Rattle.caf_steps.specs.declared.reference.Reference.{Reference}
use Rattle.caf_actor.specs.Snapshot.{Handled}
use Rattle.caf_actor.specs.PlainForms.{reached}
use Rattle.caf_actor.specs.Sharing.{tell_each, bodies, contents}
use Rattle.caf_actor.proofs.SharingLemmas.{told_each}
use Rattle.caf_actor.proofs.snapshot.Snapshot.tell_many.Goals as goal

pub returns-clause-told : goal.returns-clause-told
returns-clause-told g c =
    let t : Handled g.row.B.Denot = reached c.args.self.now c.args.posts.now in
    let told = ap (λ (addressed : List (ℕ × List ℕ)). tell_each t c.args.priority addressed) c.in_ok-addressed.ensures.contents ∙ told_each t c.args.places c.args.priority c.args.message.content in
    subst (λ u. OnOk c.tell_each.result (u ≡ reached c.tell_each.new.self c.tell_each.new.posts)) told c.tell_each.ensures.told

pub returns-clause-references : goal.returns-clause-references
returns-clause-references g c = λ room few.
    subst (λ (addressed : List (ℕ × Reference)). OnOk c.tell_each.result (bodies c.tell_each.new.posts ≡ bodies c.args.posts.now ++ contents addressed)) (c.in_ok-addressed.ensures.references room few) c.tell_each.ensures.references

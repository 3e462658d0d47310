use Rattle.std.proofs.Common.{◌≡◌, ◌∙◌, sym, ap, subst}
use Rattle.std.specs.List.{AllByRecursion}
use Rattle.caf_mailbox.specs.Arrived.{Arrived, at_arrived, number_taken, is_to}
use Rattle.caf_mailbox.specs.Awaited.{is_awaited}
use Rattle.caf_mailbox.specs.declared.eligible.Awaited.{Awaited}
use Rattle.caf_mailbox.proofs.ResponseLemmas.{none_passes, first_passes, same_picked}
use Rattle.caf_mailbox.proofs.responses.Responses.first.Goals as goal

pub returns-in-Any : goal.returns-in-Any
returns-in-Any c = λ test all.
    let here = c.args.self.now.here in
    c.first_here.ensures ∙ first_passes (at_arrived test) here (subst (λ (a : Awaited). AllByRecursion (λ (z : Arrived). test z.1 ≡ is_awaited a z.1.mid.number) here) c.in-Any.is all)

pub returns-in-Only : goal.returns-in-Only
returns-in-Only c = λ test all.
    let here = c.args.self.now.here in
    c.first_to.ensures
    ∙ ap number_taken
    (sym (same_picked (at_arrived test) (is_to c.in-Only.request) here (subst (λ (a : Awaited). AllByRecursion (λ (z : Arrived). test z.1 ≡ is_awaited a z.1.mid.number) here) c.in-Only.is all)))

pub returns-in-Nothing : goal.returns-in-Nothing
returns-in-Nothing c = λ test all.
    let here = c.args.self.now.here in
    ap number_taken (sym (none_passes (at_arrived test) here (subst (λ (a : Awaited). AllByRecursion (λ (z : Arrived). test z.1 ≡ is_awaited a z.1.mid.number) here) c.in-Nothing.is all)))

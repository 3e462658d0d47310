use Rattle.std.proofs.Common.{sym, ap, subst, ◌∙◌}
use Rattle.std.specs.Prelude.{map}
use Rattle.caf_actor.specs.PlainForms.{plain_output}
use Rattle.caf_kinds.specs.Collector.{is_answerable, delivered}
use Rattle.caf_kinds.specs.Questions.{MayBeHeld}
use Rattle.caf_kinds.proofs.QuestionLemmas.{none_answered, all_kept, none_from, kept_from}
use Rattle.caf_kinds.proofs.questions.HeldQuestions.deliver.Goals as goal

pub returns-then-not-is_any_asked-clause-kept : goal.returns-then-not-is_any_asked-clause-kept
returns-then-not-is_any_asked-clause-kept c =
    let can = is_answerable c.args.tally.now in
    let held = c.self.inside in
    let may : MayBeHeld held.has_index held.has_totals c.args.self.now = subst (MayBeHeld held.has_index held.has_totals) c.self.view_is c.self.invariant in
    let none = none_from can held.has_index held.has_totals _ _ _ c.answers-index_answers.ensures c.answers-totals_answer.ensures c.is_any_asked.ensures c.if-not-is_any_asked.true in
    sym (all_kept can held.has_index held.has_totals c.args.self.now may none)

pub returns-then-not-is_any_asked-clause-outputs : goal.returns-then-not-is_any_asked-clause-outputs
returns-then-not-is_any_asked-clause-outputs c =
    let can = is_answerable c.args.tally.now in
    let held = c.self.inside in
    let may : MayBeHeld held.has_index held.has_totals c.args.self.now = subst (MayBeHeld held.has_index held.has_totals) c.self.view_is c.self.invariant in
    let none = none_from can held.has_index held.has_totals _ _ _ c.answers-index_answers.ensures c.answers-totals_answer.ensures c.is_any_asked.ensures c.if-not-is_any_asked.true in
    ap (map plain_output) c.new.ensures ∙ ap (map (delivered c.args.index.now c.args.tally.now)) (sym (none_answered can held.has_index held.has_totals c.args.self.now may none))

pub invariant_of-self-2 : goal.invariant_of-self-2
invariant_of-self-2 c =
    let can = is_answerable c.args.tally.now in
    let held = c.self.inside in
    let may : MayBeHeld held.has_index held.has_totals c.args.self.now = subst (MayBeHeld held.has_index held.has_totals) c.self.view_is c.self.invariant in
    kept_from can held.has_index held.has_totals _ _ _ _ c.args.self.now _ _ c.answers-index_answers.ensures c.answers-totals_answer.ensures c.stays-self-inside.ensures c.stays-self-inside-2.ensures may
    (c.replace-requests.ensures.value ∙ c.self.view_is) c.in_ok-kept.ensures.kept

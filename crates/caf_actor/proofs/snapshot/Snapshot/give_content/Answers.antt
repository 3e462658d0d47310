use Rattle.std.proofs.Common.{◌≡◌, ◌∙◌, ℕ, List, Bool, true, false, sym, ap, refl, subst}
use Rattle.std.specs.Prelude.{OnOk}
use Rattle.caf_actor.specs.PlainForms.{plain_answer, plain_input, plain_reaction, reached}
use Rattle.caf_actor.specs.PlainInput.{PlainInput}
use Rattle.caf_actor.specs.PlainInput as plain_in
use Rattle.caf_actor.specs.PlainReaction.{PlainAnswer, PlainReaction}
use Rattle.caf_actor.specs.Snapshot.{Handled, with_snapshot}
use Rattle.caf_actor.specs.Sending.{send_outputs}
use Rattle.caf_actor.specs.Answering.{is_delegation, answer, kept_content}
use Rattle.caf_actor.specs.Quitting.{quit_where}
use Rattle.caf_actor.specs.Reacting.{give_content, react}
use Rattle.caf_actor.proofs.AnswerLemmas.{kept_answer, passes_as_told}
use Rattle.caf_actor.proofs.snapshot.Snapshot.give_content.Goals as goal

pub answer-requires : goal.answer-requires
answer-requires g c = λ passing.
    let rules = g.B.Behavior.rules in
    let s = c.args.self.now.behavior in
    let given : plain_input c.in_ok-input.field-0.input ≡ plain_in.Content c.args.origin c.args.message.content = c.in_ok-input.ensures.input in
    let answered : (rules.reaction s (plain_in.Content c.args.origin c.args.message.content)).answer ≡ plain_answer c.in_ok-reaction.reaction.answer =
    ap (λ (i : PlainInput). (rules.reaction s i).answer) (sym given) ∙ ap (λ (r : PlainReaction). r.answer) (sym c.in_ok-reaction.ensures.reaction) in
    c.in_ok-input.ensures.second (c.requires.passes ∙ passes_as_told g.B.Behavior.is_valid rules g.met.B.Behavior.delegates_as_told s c.args.origin c.args.message.content c.requires.valid c.requires.given (plain_answer c.in_ok-reaction.reaction.answer) answered passing)

pub returns : goal.returns
returns g c =
    let rules = g.B.Behavior.rules in
    let s = c.args.self.now.behavior in
    let words : List ℕ = c.args.message.content in
    let t : Handled g.row.B.Denot = reached c.args.self.now c.args.posts.now in
    let i : PlainInput = plain_in.Content c.args.origin words in
    let given : plain_input c.in_ok-input.field-0.input ≡ i = c.in_ok-input.ensures.input in
    let a : PlainAnswer = plain_answer c.in_ok-reaction.reaction.answer in
    let reaction : plain_reaction c.in_ok-reaction.reaction ≡ rules.reaction s i = c.in_ok-reaction.ensures.reaction ∙ ap (rules.reaction s) given in
    let answered : (rules.reaction s i).answer ≡ a = ap (λ (r : PlainReaction). r.answer) (sym reaction) in
    let next : c.react.new.self ≡ rules.next s i = c.in_ok-reaction.ensures.next ∙ ap (rules.next s) given in
    let sent : react rules t i ≡ reached c.send_outputs.new.self c.send_outputs.new.posts =
    (λ k. send_outputs (with_snapshot t (record t.snapshot { behavior = sym next k })) (sym reaction k).outputs) ∙ c.in_ok-send_outputs.ensures in
    let kept : answer (reached c.send_outputs.new.self c.send_outputs.new.posts) c.args.origin words a ≡ answer (reached c.send_outputs.new.self c.send_outputs.new.posts) c.args.origin (kept_content c.in_ok-input.field-0.second) a =
    kept_answer (reached c.send_outputs.new.self c.send_outputs.new.posts) words (kept_content c.in_ok-input.field-0.second) c.args.origin a
    (λ passing. c.in_ok-input.ensures.same (c.requires.passes ∙ passes_as_told g.B.Behavior.is_valid rules g.met.B.Behavior.delegates_as_told s c.args.origin words c.requires.valid c.requires.given a answered passing)) in
    let replied : answer (react rules t i) c.args.origin words (rules.reaction s i).answer ≡ reached c.answer.new.self c.answer.new.posts =
    (λ k. answer (sent k) c.args.origin words (answered k)) ∙ kept ∙ c.in_ok-answer.ensures in
    let all : quit_where (reached c.answer.new.self c.answer.new.posts) c.in_ok-reaction.reaction.quit ≡ give_content rules t c.args.origin words =
    λ k. quit_where (sym replied k) (reaction k).quit in
    subst (λ (u : Handled g.row.B.Denot). OnOk c.quit_where.result (u ≡ reached c.quit_where.new.self c.quit_where.new.posts)) all c.quit_where.ensures

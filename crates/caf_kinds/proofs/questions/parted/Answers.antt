use Rattle.std.specs.Prelude.{not}
use Rattle.caf_actor.specs.PlainForms.{plain_output}
use Rattle.std.specs.Prelude.{map}
use Rattle.caf_kinds.specs.Collector.{is_answerable, delivered}
use Rattle.caf_kinds.specs.declared.questions.HeldQuestion.{HeldQuestion}
use Rattle.caf_kinds.proofs.QuestionLemmas.{part_more, deliver_more}
use Rattle.caf_kinds.proofs.questions.parted.Goals as goal

pub loop-request-preserved : goal.loop-request-preserved
loop-request-preserved c =
    let rest = c.in-Some.ensures.steps.0 in
    let tally = c.args.tally.now in
    record {
      kept = part_more (λ (h : HeldQuestion). not (is_answerable tally h.question)) c.loop-request.kept c.part.new.kept _ c.in-Some.request _ c.next.new.self.rest.items rest c.in_ok-part.ensures.kept c.loop-request.invariant.kept;
      outputs = deliver_more (λ (h : HeldQuestion). is_answerable tally h.question) (delivered c.args.index.now tally) (map plain_output c.loop-request.outputs) (map plain_output c.part.new.outputs) _ c.in-Some.request _ c.next.new.self.rest.items rest c.in_ok-part.ensures.outputs c.loop-request.invariant.outputs;
    }

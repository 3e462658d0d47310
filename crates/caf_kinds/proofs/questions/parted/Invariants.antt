use Rattle.std.proofs.Common.{◌≡◌, ◌++◌, map}
use Rattle.std.specs.Prelude.{not}
use Rattle.std.specs.List.{filter}
use Rattle.caf_actor.specs.PlainForms.{plain_output}
use Rattle.caf_kinds.specs.Collector.{is_answerable, delivered}
use Rattle.caf_kinds.specs.declared.questions.HeldQuestion.{HeldQuestion}
use Rattle.caf_kinds.proofs.questions.parted.Given as goal

-- what was kept and what was delivered, and what is yet to be
abbrev pub invariant-loop-request : goal.invariant-loop-request
invariant-loop-request l = record {
  kept : l.kept ++ filter (λ (h : HeldQuestion). not (is_answerable l.fn.tally h.question)) l.request-iterator.rest.items ≡ filter (λ (h : HeldQuestion). not (is_answerable l.fn.tally h.question)) l.fn.requests;
  outputs : map plain_output l.outputs ++ map (delivered l.fn.index l.fn.tally) (filter (λ (h : HeldQuestion). is_answerable l.fn.tally h.question) l.request-iterator.rest.items) ≡ map (delivered l.fn.index l.fn.tally) (filter (λ (h : HeldQuestion). is_answerable l.fn.tally h.question) l.fn.requests);
}

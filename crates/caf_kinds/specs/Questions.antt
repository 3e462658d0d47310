-- Held requests of a collector, each with what it asks.
use Rattle.std.specs.Prelude.{◌≡◌, true, Bool, List}
use Rattle.std.specs.List.{AllByRecursion}
use Rattle.caf_actor.specs.declared.origin.Origin.{Origin}
use Rattle.caf_kinds.specs.declared.questions.Question.{Question}
use Rattle.caf_kinds.specs.declared.questions.Question.TheVariants as question
use Rattle.caf_kinds.specs.declared.questions.HeldQuestion.{HeldQuestion}

abbrev pub held : Origin → Question → HeldQuestion
held origin asked = record { requester = origin.mid.requester; number = origin.mid.number; question = asked }

-- whether a question is among those that may be held: that of the index, and that of the totals
abbrev pub may_be_held : Bool → Bool → Question → Bool
may_be_held index totals question.Index = index
may_be_held index totals question.Totals = totals

abbrev pub MayBeHeld : Bool → Bool → List HeldQuestion → Type 0
MayBeHeld index totals hs = AllByRecursion (λ (h : HeldQuestion). may_be_held index totals h.question ≡ true) hs

-- Reactions that many kinds have.
use Rattle.std.specs.Prelude.{ℕ, ℤ, List, [], None}
use Rattle.caf_types.specs.declared.sec.Sec.TheVariants as sec
use Rattle.caf_actor.specs.PlainOutput.{PlainOutput}
use Rattle.caf_actor.specs.PlainReaction.{PlainAnswer, PlainReaction}
use Rattle.caf_actor.specs.PlainReaction as answer
use Rattle.caf_kinds.specs.Asking.{unit_content, unsigned_content, signed_content}

-- the value after an input, and the reaction
abbrev pub Reacted : Type 0 → Type 0
Reacted S = S × PlainReaction

-- no effect
abbrev pub quiet : PlainReaction
quiet = record { outputs = []; answer = answer.Nothing; quit = None }

-- an answer, and nothing else
abbrev pub answers : PlainAnswer → PlainReaction
answers a = record { outputs = []; answer = a; quit = None }

-- outputs and an answer
abbrev pub sends : List PlainOutput → PlainAnswer → PlainReaction
sends outputs a = record { outputs = outputs; answer = a; quit = None }

-- unit
abbrev pub done : PlainAnswer
done = answer.Value unit_content

-- numbers
abbrev pub unsigned : ℕ → PlainAnswer
unsigned n = answer.Value (unsigned_content n)

abbrev pub signed : ℤ → PlainAnswer
signed z = answer.Value (signed_content z)

-- the error `failed`
abbrev pub failed : PlainAnswer
failed = answer.Error sec.Failed

-- What a behaviour is given, with contents as words.
use Rattle.std.specs.Prelude.{ℕ, List, Option, Some, None}
use Rattle.caf_types.specs.declared.sec.Sec.{Sec}
use Rattle.caf_types.specs.declared.reason.Reason.{Reason}
use Rattle.caf_actor.specs.declared.origin.Origin.{Origin}

pub data PlainInput : Type 0 where
  Start : PlainInput
  Stop : PlainInput
  Content : Origin → List ℕ → PlainInput
  Response : ℕ → List ℕ → PlainInput
  Failed : ℕ → Sec → PlainInput
  Down : ℕ → Reason → PlainInput
  Tick : PlainInput

-- the content in it, if it has one
abbrev pub content_given : PlainInput → Option (List ℕ)
content_given (Content origin words) = Some words
content_given (Response tag words) = Some words
content_given _ = None

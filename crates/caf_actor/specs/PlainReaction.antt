-- What a behaviour does at an input, with contents as words.
use Rattle.std.specs.Prelude.{ℕ, List, Option, Some, None}
use Rattle.caf_types.specs.declared.sec.Sec.{Sec}
use Rattle.caf_types.specs.declared.reason.Reason.{Reason}
use Rattle.caf_actor.specs.PlainOutput.{PlainOutput}

pub data PlainAnswer : Type 0 where
  Value : List ℕ → PlainAnswer
  Error : Sec → PlainAnswer
  Delegate : ℕ → PlainAnswer
  Hold : PlainAnswer
  Nothing : PlainAnswer

-- the content in it, if it has one
abbrev pub content_answered : PlainAnswer → Option (List ℕ)
content_answered (Value words) = Some words
content_answered _ = None

pub record PlainReaction : Type 0 where
  pub outputs : List PlainOutput
  pub answer : PlainAnswer
  pub quit : Option Reason

-- What a behaviour sends, with contents as words.
use Rattle.std.specs.Prelude.{ℕ, List, Option, Some, None}
use Rattle.caf_types.specs.declared.shape.TypeId.{TypeId}
use Rattle.caf_types.specs.declared.notice.Priority.{Priority}
use Rattle.caf_types.specs.declared.sec.Sec.{Sec}
use Rattle.caf_types.specs.declared.reason.Reason.{Reason}
use Rattle.caf_response.specs.declared.pending.Mode.{Mode}

pub data PlainOutput : Type 0 where
  Tell : ℕ → Priority → List ℕ → PlainOutput
  TellMany : List ℕ → Priority → List ℕ → PlainOutput
  -- to whom, how urgent, how it waits, its tag, the types expected, and the content
  Request : ℕ → Priority → Mode → ℕ → List TypeId → List ℕ → PlainOutput
  Exit : ℕ → Reason → PlainOutput
  Link : ℕ → PlainOutput
  Unlink : ℕ → PlainOutput
  Watch : ℕ → PlainOutput
  Unwatch : ℕ → PlainOutput
  -- requester, number, and what is answered
  Deliver : ℕ → ℕ → List ℕ → PlainOutput
  Break : ℕ → ℕ → Sec → PlainOutput
  -- the place of a child that is to begin
  Spawn : ℕ → PlainOutput
  Tick : ℕ → PlainOutput
  -- after how many ticks, to whom, how urgent, and the content
  Delay : ℕ → ℕ → Priority → List ℕ → PlainOutput
  -- after how many ticks it is too late, and then as a request
  Within : ℕ → ℕ → Priority → Mode → ℕ → List TypeId → List ℕ → PlainOutput

-- the content in it, if it has one
abbrev pub content_sent : PlainOutput → Option (List ℕ)
content_sent (Tell to priority words) = Some words
content_sent (TellMany places priority words) = Some words
content_sent (Request to priority mode tag expected words) = Some words
content_sent (Deliver requester number words) = Some words
content_sent (Delay ticks to priority words) = Some words
content_sent (Within ticks to priority mode tag expected words) = Some words
content_sent _ = None

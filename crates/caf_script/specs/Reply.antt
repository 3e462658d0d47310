-- What became of a script's steps.
use Rattle.std.specs.Prelude.{ℕ, ◌+◌, Bool, true, false, List, length, map, drop, bytes_eq, if◌then◌else◌, Option, Some, None}
use Rattle.caf_types.specs.declared.sec.Sec.{Sec}
use Rattle.caf_types.specs.declared.sec.Sec.TheVariants as sec
use Rattle.caf_types.specs.declared.shape.TypeId.{TypeId}
use Rattle.caf_words.specs.Datum.{data_of}
use Rattle.caf_words.specs.Value.{datum}
use Rattle.caf_words.specs.Spelling.{spellings}
use Rattle.caf_words.specs.Several.{ids_of}
use Rattle.caf_words.specs.declared.value.Value.{Value}
use Rattle.caf_message.specs.Content.{ids_in}
use Rattle.caf_script.specs.declared.replies.StepReply.{StepReply}
use Rattle.caf_script.specs.declared.replies.StepReply.TheVariants as said

pub data Reply : Type 0 where
  -- it was not played, or it is no request
  Unsent : Reply
  -- it was sent, and is not yet resolved
  Open : Reply
  -- it was answered by values with these spellings
  Answered : List ℕ → Reply
  -- it was answered by an error, or its time was over
  Failed : Sec → Reply

-- the words of values, one after the other
abbrev pub words_of : List Value → List ℕ
words_of values = spellings (data_of (map datum values))

abbrev pub plain_reply : StepReply → Reply
plain_reply said.Unsent = Unsent
plain_reply said.Open_ = Open
plain_reply (said.Value values) = Answered (words_of values)
plain_reply (said.Error why) = Failed why

abbrev pub is_open : Reply → Bool
is_open Open = true
is_open _ = false

-- ---- answers

-- the spellings of the values in content of these types; None where it has others
abbrev pub spelled_in : List TypeId → List ℕ → Option (List ℕ)
spelled_in types words = if bytes_eq (ids_of types) (ids_in words) then Some (drop (length types + 1) words) else None

-- content of other types than were expected counts as the error `unexpected_response`
abbrev pub reply_of : Option (List ℕ) → Reply
reply_of (Some words) = Answered words
reply_of None = Failed sec.UnexpectedResponse

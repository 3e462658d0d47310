-- The text of a record.
use Rattle.std.specs.Prelude.{ℕ, ◌+◌, Bool, true, false, List, [], ◌∷◌, ◌++◌, bytes_eq, codes, map, slice_get, Option, Some, None, if◌then◌else◌}
use Rattle.caf_types.specs.TypeTable.{seen}
use Rattle.caf_types.specs.Table.{Table}
use Rattle.caf_types.specs.declared.shape.TypeId.{TypeId}
use Rattle.caf_words.specs.Several.{ids_of}
use Rattle.caf_signature.specs.Interface.{result_for}
use Rattle.caf_index.specs.Index.{Entries}
use Rattle.caf_index.specs.IndexText.{index_text_of}
use Rattle.caf_script.specs.Reply.{Reply, plain_reply, Unsent, Open, Answered, Failed}
use Rattle.caf_kinds.specs.Kinds.{interface, index_of, replies_of}
use Rattle.caf_kinds.specs.declared.kind.Kind.{Kind}
use Rattle.caf_kinds.specs.declared.script.Step.{Step}
use Rattle.caf_kinds.specs.declared.script.Step.TheVariants as step
use Rattle.caf_record.specs.Trace.{trace_of}
use Rattle.caf_record.specs.declared.run_record.RunRecord.{RunRecord}
use Rattle.caf_report.specs.Values.{values_text}
use Rattle.caf_report.specs.Lines.{unsent_line, error_line, value_line}
use Rattle.caf_report.specs.declared.report.Ending.{Ending}

-- how a run ended: the table of its types, the names of its files, its behaviours by place, and what became of
-- each step
pub record End : Type 0 where
  pub table : Table
  pub names : List (List ℕ)
  pub kinds : List Kind
  pub replies : List Reply

abbrev pub end_of : Ending → End
end_of ending = record { table = seen ending.table.now; names = ending.names.now; kinds = ending.kinds.now; replies = map plain_reply ending.replies.now }

-- ---- the actor that was asked

-- the index that it has put together, as text; nothing where it has none
abbrev pub text_of_index : List (List ℕ) → Option Entries → List ℕ
text_of_index names (Some index) = index_text_of names index
text_of_index names None = []

abbrev pub index_at : Option Kind → Option Entries
index_at (Some kind) = index_of kind
index_at None = None

abbrev pub ids_or_none : Option (List TypeId) → List ℕ
ids_or_none (Some types) = ids_of types
ids_or_none None = []

-- the types with which it answers content of these types; none where it takes no such content
abbrev pub answer_ids : Option Kind → List TypeId → List ℕ
answer_ids (Some kind) types = ids_or_none (result_for (interface kind) types)
answer_ids None types = []

-- ---- what became of a request

-- a step of which the conductor knows nothing was not sent
abbrev pub or_unsent : Option Reply → Reply
or_unsent (Some reply) = reply
or_unsent None = Unsent

-- the reply of the step behind so many others
abbrev pub reply_at : End → ℕ → Reply
reply_at end before = or_unsent (slice_get end.replies before)

-- the message is [index]
abbrev pub asks_index : List TypeId → Bool
asks_index types = bytes_eq (208 ∷ []) (ids_of types)

-- an answer to [index] is told by the index as it is at the end, any other by its values
abbrev pub answer_text : End → ℕ → ℕ → List TypeId → List ℕ → List ℕ
answer_text end number to types words =
    if asks_index types then text_of_index end.names (index_at (slice_get end.kinds to))
    else value_line number (values_text end.table (answer_ids (slice_get end.kinds to) types) words)

-- of a request that still waits nothing is told
abbrev pub request_text : End → ℕ → ℕ → List TypeId → Reply → List ℕ
request_text end number to types Unsent = unsent_line number
request_text end number to types Open = []
request_text end number to types (Failed why) = error_line number why
request_text end number to types (Answered words) = answer_text end number to types words

-- ---- the whole text

-- the step behind so many others; its number counts from 1. Steps that are no requests tell nothing
abbrev pub step_text : End → ℕ → Step → List ℕ
step_text end before (step.Request to priority mode types values) = request_text end (before + 1) to types (reply_at end before)
step_text end before (step.Within to priority mode types values ticks) = request_text end (before + 1) to types (reply_at end before)
step_text end before _ = []

-- these steps, which come behind so many others
abbrev pub steps_text : End → ℕ → List Step → List ℕ
steps_text end before [] = []
steps_text end before (s ∷ steps) = step_text end before s ++ steps_text end (before + 1) steps

-- the line `trace` and the trace, where it is wanted
abbrev pub trace_part : Bool → RunRecord → List ℕ
trace_part true kept = codes "trace" ++ 10 ∷ trace_of kept
trace_part false kept = []

abbrev pub or_no_replies : Option (List Reply) → List Reply
or_no_replies (Some replies) = replies
or_no_replies None = []

abbrev pub replies_at : Option Kind → List Reply
replies_at (Some kind) = or_no_replies (replies_of kind)
replies_at None = []

-- the conductor, which has the replies, is the actor at place 0
abbrev pub ended : Table → List (List ℕ) → List Kind → End
ended table names kinds = record { table = table; names = names; kinds = kinds; replies = replies_at (slice_get kinds 0) }

abbrev pub text_of : Table → List Step → List (List ℕ) → List Kind → RunRecord → Bool → List ℕ
text_of table script names kinds kept is_traced = steps_text (ended table names kinds) 0 script ++ trace_part is_traced kept

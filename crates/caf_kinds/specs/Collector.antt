-- A collector puts postings into an index and adds extents up. It answers what it has once all chunks have come.
use Rattle.std.specs.Prelude.{ℕ, ◌+◌, nat_le, not, Bool, false, List, [], ◌∷◌, ◌++◌, map, if◌then◌else◌, Option, Some, None}
use Rattle.std.specs.List.{filter}
use Rattle.std.specs.FinMap as finite
use Rattle.caf_signature.specs.declared.interface.Signature.{Signature}
use Rattle.caf_actor.specs.Answering.{is_asked}
use Rattle.caf_actor.specs.declared.origin.Origin.{Origin}
use Rattle.caf_actor.specs.PlainInput.{PlainInput, Content}
use Rattle.caf_actor.specs.PlainOutput.{PlainOutput}
use Rattle.caf_actor.specs.PlainOutput as output
use Rattle.caf_actor.specs.PlainReaction as answer
use Rattle.caf_index.specs.Index.{Entries, entry_count}
use Rattle.caf_index.specs.Filled.{Entry, with_entries}
use Rattle.caf_kinds.specs.Asking.{Types, atom, of_unit, takes, has, asked}
use Rattle.caf_kinds.specs.Reacting.{Reacted, quiet, answers, failed}
use Rattle.caf_kinds.specs.Pipeline.{of_postings, of_extent, of_finish, of_summary, of_total, postings_in, extent_in, finish_in, summary_content, total_content, stopped, sends}
use Rattle.caf_kinds.specs.Questions.{held}
use Rattle.caf_kinds.specs.declared.contents.Item.{Item}
use Rattle.caf_kinds.specs.declared.contents.Postings.{Postings}
use Rattle.caf_kinds.specs.declared.contents.Extent.{Extent}
use Rattle.caf_kinds.specs.declared.contents.Finish.{Finish}
use Rattle.caf_kinds.specs.declared.contents.Total.{Total}
use Rattle.caf_kinds.specs.declared.questions.Question.{Question}
use Rattle.caf_kinds.specs.declared.questions.Question.TheVariants as question
use Rattle.caf_kinds.specs.declared.questions.HeldQuestion.{HeldQuestion}
use Rattle.caf_kinds.specs.declared.tally.Tally.{Tally}
use Rattle.caf_kinds.specs.declared.collector.Collector.{Collector}

abbrev pub asking_index : Types
asking_index = atom 208 []

abbrev pub asking_totals : Types
asking_totals = atom 209 []

abbrev pub interface : List Signature
interface =
    takes of_postings of_unit ∷ takes of_extent of_unit ∷ takes of_finish of_unit
    ∷ takes asking_index of_summary ∷ takes asking_totals of_total ∷ []

-- ---- what can be answered

-- a [finish] came, and at least as many messages as the numbers of all [finish]es together
abbrev pub is_reached : Option ℕ → ℕ → Bool
is_reached None count = false
is_reached (Some chunks) count = nat_le chunks count

-- [index] by the count of [postings], [totals] by that of [extent]s
abbrev pub is_answerable : Tally → Question → Bool
is_answerable t question.Index = is_reached t.chunks t.postings
is_answerable t question.Totals = is_reached t.chunks t.extents

abbrev pub total_of : ℕ → ℕ → Total
total_of lines bytes = record { lines = stopped lines; bytes = stopped bytes }

-- the numbers of words and of entries of the index; the sums of lines and bytes
abbrev pub reply : Entries → Tally → Question → List ℕ
reply index t question.Index = summary_content (record { words = stopped (finite.len index); postings = stopped (entry_count index) })
reply index t question.Totals = total_content (total_of t.lines t.bytes)

abbrev pub delivered : Entries → Tally → HeldQuestion → PlainOutput
delivered index t h = output.Deliver h.requester h.number (reply index t h.question)

-- the held requests that can be answered are delivered in the order in which they came; the others stay
abbrev pub delivers : Collector → Reacted Collector
delivers s = (
  record s { held = filter (λ (h : HeldQuestion). not (is_answerable s.tally h.question)) s.held },
  sends (map (delivered s.index s.tally) (filter (λ (h : HeldQuestion). is_answerable s.tally h.question) s.held)),
)

-- ---- what comes

abbrev pub entry_of : ℕ → Item → Entry
entry_of file i = record { word = i.word; file = file; line = i.line }

abbrev pub with_items : Entries → Postings → Entries
with_items index p = with_entries index (map (entry_of p.file) p.items)

abbrev pub one_postings_more : Tally → Tally
one_postings_more t = record t { postings = stopped (t.postings + 1) }

abbrev pub with_postings : Collector → Postings → Collector
with_postings s p = record s { index = with_items s.index p; tally = one_postings_more s.tally }

abbrev pub with_extent : Tally → Extent → Tally
with_extent t e = record t { extents = stopped (t.extents + 1); lines = stopped (t.lines + e.lines); bytes = stopped (t.bytes + e.bytes) }

abbrev pub sum_with : Option ℕ → ℕ → ℕ
sum_with None n = n
sum_with (Some chunks) n = stopped (chunks + n)

abbrev pub with_finish : Tally → Finish → Tally
with_finish t f = record t { chunks = Some (sum_with t.chunks f.chunks) }

abbrev pub in_tally : Collector → Tally → Collector
in_tally s t = record s { tally = t }

-- ---- inputs

abbrev pub on_postings : Collector → Option Postings → Reacted Collector
on_postings s (Some p) = delivers (with_postings s p)
on_postings s None = (s, answers failed)

abbrev pub on_extent : Collector → Option Extent → Reacted Collector
on_extent s (Some e) = delivers (in_tally s (with_extent s.tally e))
on_extent s None = (s, answers failed)

abbrev pub on_finish : Collector → Option Finish → Reacted Collector
on_finish s (Some f) = delivers (in_tally s (with_finish s.tally f))
on_finish s None = (s, answers failed)

-- the request is held where it can't be answered yet
abbrev pub on_question : Collector → Origin → Question → Reacted Collector
on_question s origin q =
    if is_answerable s.tally q then (s, answers (answer.Value (reply s.index s.tally q)))
    else if is_asked origin then (record s { held = s.held ++ held origin q ∷ [] }, answers answer.Hold)
    else (s, quiet)

abbrev pub given : Collector → Origin → List ℕ → Reacted Collector
given s origin words =
    if has of_postings words then on_postings s (postings_in (asked of_postings words))
    else if has of_extent words then on_extent s (extent_in (asked of_extent words))
    else if has of_finish words then on_finish s (finish_in (asked of_finish words))
    else if has asking_index words then on_question s origin question.Index
    else if has asking_totals words then on_question s origin question.Totals
    else (s, answers failed)

abbrev pub reacted : Collector → PlainInput → Reacted Collector
reacted s (Content origin words) = given s origin words
reacted s _ = (s, quiet)

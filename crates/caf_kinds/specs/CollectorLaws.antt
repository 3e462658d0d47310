-- A collector keeps the laws.
use Rattle.std.specs.Prelude.{◌≡◌, ℕ, Bool, true, List, [], ◌∷◌, ◌++◌, map, Option, Some, None, refl}
use Rattle.std.proofs.Common.{arith}
use Rattle.std.specs.List.{AllByRecursion, filter}
use Rattle.std.specs.FinMap as finite
use Rattle.caf_actor.specs.Answering.{is_asked}
use Rattle.caf_actor.specs.declared.origin.Origin.{Origin}
use Rattle.caf_actor.specs.PlainInput.{PlainInput, Start, Stop, Content, Response, Failed, Down, Tick}
use Rattle.caf_actor.specs.PlainReaction as answer
use Rattle.caf_actor.specs.Rules.{outputs_count, declared_for}
use Rattle.caf_message.specs.Content.{ids_in}
use Rattle.caf_index.specs.Index.{Entries, entry_count}
use Rattle.caf_kinds.specs.Asking.{Types, type_ids, has, asked}
use Rattle.caf_kinds.specs.Who.{Who, fixed}
use Rattle.caf_kinds.specs.Reacting.{Reacted, answers, failed, quiet}
use Rattle.caf_kinds.specs.Lawful.{IsLawful, IsLawfulOutput, IsSound}
use Rattle.caf_kinds.specs.Keeping.{on_if, unit_sound, answers_by, answer_kept, failed_kept, quiet_kept}
use Rattle.caf_kinds.specs.Pipeline.{of_postings, of_extent, of_finish, postings_in, extent_in, finish_in}
use Rattle.caf_kinds.specs.PipelineLaws.{summary_sound, total_sound}
use Rattle.caf_kinds.specs.Questions.{held}
use Rattle.caf_kinds.specs.Collector.{asking_index, asking_totals, interface, is_answerable, reply, delivered, delivers, with_postings, with_extent, with_finish, in_tally, on_postings, on_extent, on_finish, on_question, given, reacted}
use Rattle.caf_kinds.specs.declared.contents.Postings.{Postings}
use Rattle.caf_kinds.specs.declared.contents.Extent.{Extent}
use Rattle.caf_kinds.specs.declared.contents.Finish.{Finish}
use Rattle.caf_kinds.specs.declared.questions.Question.{Question}
use Rattle.caf_kinds.specs.declared.questions.Question.TheVariants as question
use Rattle.caf_kinds.specs.declared.questions.HeldQuestion.{HeldQuestion}
use Rattle.caf_kinds.specs.declared.tally.Tally.{Tally}
use Rattle.caf_kinds.specs.declared.collector.Collector.{Collector}

reply_sound : (index : Entries) (t : Tally) (q : Question) → IsSound (reply index t q)
reply_sound index t question.Index = summary_sound (finite.len index) (entry_count index)
reply_sound index t question.Totals = total_sound t.lines t.bytes

deliveries : (who : Who) (origin : Origin) (words : List ℕ) (index : Entries) (t : Tally) (hs : List HeldQuestion) → AllByRecursion (IsLawfulOutput who (Content origin words)) (map (delivered index t) hs)
deliveries who origin words index t [] = tt
deliveries who origin words index t (h ∷ hs) = (record { targets = tt; content = reply_sound index t h.question; at_stop = λ e. absurd cc; at_ticks = λ e. tt }, deliveries who origin words index t hs)

deliveries_count : (index : Entries) (t : Tally) (hs : List HeldQuestion) → outputs_count (map (delivered index t) hs) ≡ 0
deliveries_count index t [] = refl
deliveries_count index t (h ∷ hs) = omega (arith, deliveries_count index t hs)

abbrev pub Keeps : (List ℕ → Bool) → Collector → PlainInput → Reacted Collector → Type 0
Keeps d s i r = IsLawful (fixed s.identity interface) (fixed r.0.identity interface) (Unit {0}) d i r.1

-- the types of an input are answered unit
abbrev IsAnsweredByUnit : Types → Type 0
IsAnsweredByUnit types = declared_for interface (type_ids types) ≡ Some (0 ∷ [])

-- a collector with more, which is still the same actor
delivers_keeps : (d : List ℕ → Bool) (s after : Collector) (origin : Origin) (words : List ℕ) (types : Types) → has types words ≡ true → IsAnsweredByUnit types → after.identity ≡ s.identity → Keeps d s (Content origin words) (delivers after)
delivers_keeps d s after origin words types e declares same =
    let can = filter (λ (h : HeldQuestion). is_answerable after.tally h.question) after.held in
    record {
      same = rw same refl;
      valid = tt;
      outputs = deliveries s.identity origin words after.index after.tally can;
      few = omega (arith, deliveries_count after.index after.tally can);
      answer = answers_by interface (type_ids types) origin words _ e declares unit_sound;
    }

postings_keep : (d : List ℕ → Bool) (s : Collector) (origin : Origin) (words : List ℕ) → has of_postings words ≡ true → (o : Option Postings) → Keeps d s (Content origin words) (on_postings s o)
postings_keep d s origin words e (Some p) = delivers_keeps d s (with_postings s p) origin words of_postings e refl refl
postings_keep d s origin words e None = failed_kept (fixed s.identity interface) (Unit {0}) d (Content origin words) tt

extent_keeps : (d : List ℕ → Bool) (s : Collector) (origin : Origin) (words : List ℕ) → has of_extent words ≡ true → (o : Option Extent) → Keeps d s (Content origin words) (on_extent s o)
extent_keeps d s origin words e (Some x) = delivers_keeps d s (in_tally s (with_extent s.tally x)) origin words of_extent e refl refl
extent_keeps d s origin words e None = failed_kept (fixed s.identity interface) (Unit {0}) d (Content origin words) tt

finish_keeps : (d : List ℕ → Bool) (s : Collector) (origin : Origin) (words : List ℕ) → has of_finish words ≡ true → (o : Option Finish) → Keeps d s (Content origin words) (on_finish s o)
finish_keeps d s origin words e (Some f) = delivers_keeps d s (in_tally s (with_finish s.tally f)) origin words of_finish e refl refl
finish_keeps d s origin words e None = failed_kept (fixed s.identity interface) (Unit {0}) d (Content origin words) tt

-- the types of the question are answered by what it asks
question_keeps : (d : List ℕ → Bool) (s : Collector) (origin : Origin) (words : List ℕ) (types : Types) (q : Question) → has types words ≡ true
    → declared_for interface (type_ids types) ≡ Some (ids_in (reply s.index s.tally q)) → Keeps d s (Content origin words) (on_question s origin q)
question_keeps d s origin words types q e declares =
    let me = fixed s.identity interface in
    let i = Content origin words in
    on_if (Keeps d s i) (is_answerable s.tally q) (s, answers (answer.Value (reply s.index s.tally q))) _
    (λ _. answer_kept me me (Unit {0}) d i (answer.Value (reply s.index s.tally q)) refl tt (answers_by interface (type_ids types) origin words (reply s.index s.tally q) e declares (reply_sound s.index s.tally q)))
    (λ _. on_if (Keeps d s i) (is_asked origin) (record s { held = s.held ++ held origin q ∷ [] }, answers answer.Hold) (s, quiet)
    (λ _. answer_kept me me (Unit {0}) d i answer.Hold refl tt tt)
    (λ no. quiet_kept me (Unit {0}) d i tt no))

given_keeps : (d : List ℕ → Bool) (s : Collector) (origin : Origin) (words : List ℕ) → Keeps d s (Content origin words) (given s origin words)
given_keeps d s origin words =
    let i = Content origin words in
    on_if (Keeps d s i) (has of_postings words) (on_postings s (postings_in (asked of_postings words))) _
    (λ e. postings_keep d s origin words e (postings_in (asked of_postings words)))
    (λ _. on_if (Keeps d s i) (has of_extent words) (on_extent s (extent_in (asked of_extent words))) _
    (λ e. extent_keeps d s origin words e (extent_in (asked of_extent words)))
    (λ _. on_if (Keeps d s i) (has of_finish words) (on_finish s (finish_in (asked of_finish words))) _
    (λ e. finish_keeps d s origin words e (finish_in (asked of_finish words)))
    (λ _. on_if (Keeps d s i) (has asking_index words) (on_question s origin question.Index) _
    (λ e. question_keeps d s origin words asking_index question.Index e refl)
    (λ _. on_if (Keeps d s i) (has asking_totals words) (on_question s origin question.Totals) (s, answers failed)
    (λ e. question_keeps d s origin words asking_totals question.Totals e refl)
    (λ _. failed_kept (fixed s.identity interface) (Unit {0}) d i tt)))))

pub keeps : (d : List ℕ → Bool) (s : Collector) (i : PlainInput) → Keeps d s i (reacted s i)
keeps d s (Content origin words) = given_keeps d s origin words
keeps d s Start = quiet_kept (fixed s.identity interface) (Unit {0}) d Start tt tt
keeps d s Stop = quiet_kept (fixed s.identity interface) (Unit {0}) d Stop tt tt
keeps d s (Response tag words) = quiet_kept (fixed s.identity interface) (Unit {0}) d (Response tag words) tt tt
keeps d s (Failed tag why) = quiet_kept (fixed s.identity interface) (Unit {0}) d (Failed tag why) tt tt
keeps d s (Down place why) = quiet_kept (fixed s.identity interface) (Unit {0}) d (Down place why) tt tt
keeps d s Tick = quiet_kept (fixed s.identity interface) (Unit {0}) d Tick tt tt

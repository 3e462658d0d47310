-- A holder and a collector hold requests, and answer them as they were declared.
use Rattle.std.proofs.Common.{◌≡◌, ℕ, true, List, [], ◌∷◌, map, Option, Some, None, refl, ap, sym, subst}
use Rattle.std.specs.Prelude.{not}
use Rattle.std.specs.List.{AllByRecursion}
use Rattle.caf_message.specs.Content.{ids_in}
use Rattle.caf_mailbox.proofs.NextLemmas.{all_append, all_filter}
use Rattle.caf_words.specs.Datum.{Data}
use Rattle.caf_actor.specs.declared.origin.Origin.{Origin}
use Rattle.caf_actor.specs.Answering.{is_asked}
use Rattle.caf_actor.specs.PlainInput.{PlainInput, Start, Stop, Content, Response, Failed, Down, Tick}
use Rattle.caf_actor.specs.Rules.{declared_for}
use Rattle.caf_index.specs.Index.{Entries}
use Rattle.caf_kinds.specs.Asking.{Types, of_text, type_ids, has, asked}
use Rattle.caf_kinds.specs.Collector as collector
use Rattle.caf_kinds.specs.Held.{Held, delivered, AreTexts}
use Rattle.caf_kinds.specs.Holder as holder
use Rattle.caf_kinds.specs.Keeping.{on_if}
use Rattle.caf_kinds.specs.Kinds.{reacted, as_kind}
use Rattle.caf_kinds.specs.Pipeline.{of_postings, of_extent, of_finish, postings_in, extent_in, finish_in}
use Rattle.caf_kinds.specs.Reacting.{Reacted}
use Rattle.caf_kinds.specs.declared.collector.Collector.{Collector}
use Rattle.caf_kinds.specs.declared.contents.Extent.{Extent}
use Rattle.caf_kinds.specs.declared.contents.Finish.{Finish}
use Rattle.caf_kinds.specs.declared.contents.Postings.{Postings}
use Rattle.caf_kinds.specs.declared.holder.Holder.{Holder}
use Rattle.caf_kinds.specs.declared.kind.Kind.TheVariants as kind
use Rattle.caf_kinds.specs.declared.questions.HeldQuestion.{HeldQuestion}
use Rattle.caf_kinds.specs.declared.questions.Question.{Question}
use Rattle.caf_kinds.specs.declared.questions.Question.TheVariants as question
use Rattle.caf_kinds.specs.declared.setup.Setup.{Setup}
use Rattle.caf_kinds.specs.declared.tally.Tally.{Tally}
use Rattle.caf_soundness.specs.Typed.{face}
use Rattle.caf_soundness.proofs.LogLemmas.{Log, Declares}
use Rattle.caf_soundness.proofs.ComesLemmas.{Given, Sends}
use Rattle.caf_soundness.proofs.KindLemmas.{question_ids, IsSet, Acts, quiet_acts, failed_acts, value_acts, was_declared}

module _ (setups : List Setup) (l : Log) (place : ℕ) where
  -- ---- holder

  abbrev HolderActs : PlainInput → Reacted Holder → Type 0
  HolderActs i r = Acts setups l place i (as_kind kind.Holder r)

  texts_sent : (hs : List Held) → AreTexts hs → AllByRecursion (λ (h : Held). Declares l h.requester h.number (type_ids of_text)) hs → AllByRecursion (Sends (face setups) l) (map delivered hs)
  texts_sent [] are all = tt
  texts_sent (h ∷ hs) are all =
      let ids : ids_in h.text ≡ type_ids of_text = ap ids_in are.0.words_are in
      (subst (λ (x : List ℕ). Declares l h.requester h.number x) (sym ids) all.0, texts_sent hs are.1 all.1)

  holds_acts : (s : Holder) (origin : Origin) (words : List ℕ) → IsSet setups l place (kind.Holder s) → Given (face setups) l place (Content origin words) → has of_text words ≡ true → is_asked origin ≡ true → (o : Option Data)
      → HolderActs (Content origin words) (holder.holds s origin o)
  holds_acts s origin words set given e q (Some values) = record {
    outputs = tt;
    answer = tt;
    holds = all_append (λ (h : Held). Declares l h.requester h.number (type_ids of_text)) s.held _ set.holds
        (was_declared setups l place holder.interface origin words (type_ids of_text) (type_ids of_text) set.takes e refl given.1 q, tt);
  }
  holds_acts s origin words set given e q None = failed_acts setups l place origin words (kind.Holder s) set.holds

  holder_given : (s : Holder) (origin : Origin) (words : List ℕ) → IsSet setups l place (kind.Holder s) → Given (face setups) l place (Content origin words) → HolderActs (Content origin words) (holder.given s origin words)
  holder_given s origin words set given =
      let i : PlainInput = Content origin words in
      on_if (HolderActs i) (has of_text words) _ _
      (λ e. on_if (HolderActs i) (is_asked origin) _ _
      (λ q. holds_acts s origin words set given e q (asked of_text words))
      (λ _. quiet_acts setups l place i (kind.Holder s) set.holds))
      (λ _. on_if (HolderActs i) (has holder.settling words) _ _
      (λ e. record { outputs = texts_sent s.held set.usable set.holds; answer = tt; holds = tt })
      (λ _. failed_acts setups l place origin words (kind.Holder s) set.holds))

  pub holder_acts : (s : Holder) (i : PlainInput) → IsSet setups l place (kind.Holder s) → Given (face setups) l place i → Acts setups l place i (reacted (kind.Holder s) i)
  holder_acts s (Content origin words) set given = holder_given s origin words set given
  holder_acts s Start set given = quiet_acts setups l place Start (kind.Holder s) set.holds
  holder_acts s Stop set given = quiet_acts setups l place Stop (kind.Holder s) set.holds
  holder_acts s (Response tag words) set given = quiet_acts setups l place (Response tag words) (kind.Holder s) set.holds
  holder_acts s (Failed tag why) set given = quiet_acts setups l place (Failed tag why) (kind.Holder s) set.holds
  holder_acts s (Down from why) set given = quiet_acts setups l place (Down from why) (kind.Holder s) set.holds
  holder_acts s Tick set given = quiet_acts setups l place Tick (kind.Holder s) set.holds

  -- ---- collector

  abbrev CollectorActs : PlainInput → Reacted Collector → Type 0
  CollectorActs i r = Acts setups l place i (as_kind kind.Collector r)

  abbrev IsOwed : HeldQuestion → Type 0
  IsOwed h = Declares l h.requester h.number (question_ids h.question)

  reply_ids : (index : Entries) (t : Tally) (q : Question) → ids_in (collector.reply index t q) ≡ question_ids q
  reply_ids index t question.Index = refl
  reply_ids index t question.Totals = refl

  replies_sent : (index : Entries) (t : Tally) (hs : List HeldQuestion) → AllByRecursion IsOwed hs → AllByRecursion (Sends (face setups) l) (map (collector.delivered index t) hs)
  replies_sent index t [] all = tt
  replies_sent index t (h ∷ hs) all = (subst (λ (x : List ℕ). Declares l h.requester h.number x) (sym (reply_ids index t h.question)) all.0, replies_sent index t hs all.1)

  delivers_acts : (s : Collector) (origin : Origin) (words : List ℕ) → AllByRecursion IsOwed s.held → CollectorActs (Content origin words) (collector.delivers s)
  delivers_acts s origin words all = record {
    outputs = replies_sent s.index s.tally _ (all_filter (λ (h : HeldQuestion). collector.is_answerable s.tally h.question) IsOwed s.held all);
    answer = tt;
    holds = all_filter (λ (h : HeldQuestion). not (collector.is_answerable s.tally h.question)) IsOwed s.held all;
  }

  postings_act : (s : Collector) (origin : Origin) (words : List ℕ) → AllByRecursion IsOwed s.held → (o : Option Postings) → CollectorActs (Content origin words) (collector.on_postings s o)
  postings_act s origin words all (Some p) = delivers_acts (collector.with_postings s p) origin words all
  postings_act s origin words all None = failed_acts setups l place origin words (kind.Collector s) all

  extent_acts : (s : Collector) (origin : Origin) (words : List ℕ) → AllByRecursion IsOwed s.held → (o : Option Extent) → CollectorActs (Content origin words) (collector.on_extent s o)
  extent_acts s origin words all (Some x) = delivers_acts (collector.in_tally s (collector.with_extent s.tally x)) origin words all
  extent_acts s origin words all None = failed_acts setups l place origin words (kind.Collector s) all

  finish_acts : (s : Collector) (origin : Origin) (words : List ℕ) → AllByRecursion IsOwed s.held → (o : Option Finish) → CollectorActs (Content origin words) (collector.on_finish s o)
  finish_acts s origin words all (Some f) = delivers_acts (collector.in_tally s (collector.with_finish s.tally f)) origin words all
  finish_acts s origin words all None = failed_acts setups l place origin words (kind.Collector s) all

  question_acts : (s : Collector) (origin : Origin) (words : List ℕ) (types : Types) (q : Question) → IsSet setups l place (kind.Collector s) → Given (face setups) l place (Content origin words) → has types words ≡ true
      → declared_for collector.interface (type_ids types) ≡ Some (question_ids q) → CollectorActs (Content origin words) (collector.on_question s origin q)
  question_acts s origin words types q set given e declares =
      let i : PlainInput = Content origin words in
      on_if (CollectorActs i) (collector.is_answerable s.tally q) _ _
      (λ _. value_acts setups l place origin words _ (kind.Collector s) set.holds)
      (λ _. on_if (CollectorActs i) (is_asked origin) _ _
      (λ a. record {
        outputs = tt;
        answer = tt;
        holds = all_append IsOwed s.held _ set.holds (was_declared setups l place collector.interface origin words (type_ids types) (question_ids q) set.takes e declares given.1 a, tt);
      })
      (λ _. quiet_acts setups l place i (kind.Collector s) set.holds))

  collector_given : (s : Collector) (origin : Origin) (words : List ℕ) → IsSet setups l place (kind.Collector s) → Given (face setups) l place (Content origin words)
      → CollectorActs (Content origin words) (collector.given s origin words)
  collector_given s origin words set given =
      let i : PlainInput = Content origin words in
      on_if (CollectorActs i) (has of_postings words) _ _ (λ _. postings_act s origin words set.holds (postings_in (asked of_postings words)))
      (λ _. on_if (CollectorActs i) (has of_extent words) _ _ (λ _. extent_acts s origin words set.holds (extent_in (asked of_extent words)))
      (λ _. on_if (CollectorActs i) (has of_finish words) _ _ (λ _. finish_acts s origin words set.holds (finish_in (asked of_finish words)))
      (λ _. on_if (CollectorActs i) (has collector.asking_index words) _ _ (λ e. question_acts s origin words collector.asking_index question.Index set given e refl)
      (λ _. on_if (CollectorActs i) (has collector.asking_totals words) _ _ (λ e. question_acts s origin words collector.asking_totals question.Totals set given e refl)
      (λ _. failed_acts setups l place origin words (kind.Collector s) set.holds)))))

  pub collector_acts : (s : Collector) (i : PlainInput) → IsSet setups l place (kind.Collector s) → Given (face setups) l place i → Acts setups l place i (reacted (kind.Collector s) i)
  collector_acts s (Content origin words) set given = collector_given s origin words set given
  collector_acts s Start set given = quiet_acts setups l place Start (kind.Collector s) set.holds
  collector_acts s Stop set given = quiet_acts setups l place Stop (kind.Collector s) set.holds
  collector_acts s (Response tag words) set given = quiet_acts setups l place (Response tag words) (kind.Collector s) set.holds
  collector_acts s (Failed tag why) set given = quiet_acts setups l place (Failed tag why) (kind.Collector s) set.holds
  collector_acts s (Down from why) set given = quiet_acts setups l place (Down from why) (kind.Collector s) set.holds
  collector_acts s Tick set given = quiet_acts setups l place Tick (kind.Collector s) set.holds

-- A collector answers every request, and by the final answer.
use Rattle.std.proofs.Common.{◌≡◌, ℕ, ◌<◌, true, false, List, [], ◌∷◌, ◌++◌, length, map, count_by, Option, Some, inl, inr, refl, sym, subst, ap, ◌∙◌, arith}
use Rattle.std.specs.Prelude.{◌^◌, ◌⊎◌, not, Contains}
use Rattle.std.specs.List.{AllByRecursion}
use Rattle.std.proofs.lemmas.List.Elements.{Contains-append_cases}
use Rattle.caf_index.specs.Index.{Entries}
use Rattle.caf_index.proofs.ContainsLemmas.{contains-none, contains-cases, from-map}
use Rattle.caf_message.specs.declared.envelope.Plain.TheVariants as «plain»
use Rattle.caf_message.specs.declared.envelope.Taken.{Taken}
use Rattle.caf_actor.specs.Answering.{is_asked, origin_of}
use Rattle.caf_actor.specs.PlainInput.{PlainInput, Content}
use Rattle.caf_kinds.specs.Collector.{is_answerable, delivers, with_postings, with_extent, with_finish, in_tally, on_question}
use Rattle.caf_kinds.specs.Counter.{postings_at}
use Rattle.caf_kinds.specs.FileChunks.{IsChunk, AreChunks}
use Rattle.caf_kinds.specs.Kinds.{kind_rules, reacted, as_kind}
use Rattle.caf_kinds.specs.Lines.{extent_of}
use Rattle.caf_kinds.specs.Relay.{lowered}
use Rattle.caf_kinds.specs.Setups.{setup_at}
use Rattle.caf_kinds.specs.Source.{finish_of}
use Rattle.caf_kinds.specs.declared.collector.Collector.{Collector}
use Rattle.caf_kinds.specs.declared.contents.Chunk.{Chunk}
use Rattle.caf_kinds.specs.declared.kind.Kind.{Kind}
use Rattle.caf_kinds.specs.declared.kind.Kind.TheVariants as kind
use Rattle.caf_kinds.specs.declared.questions.HeldQuestion.{HeldQuestion}
use Rattle.caf_kinds.specs.declared.questions.Question.{Question}
use Rattle.caf_kinds.specs.declared.questions.Question.TheVariants as question
use Rattle.caf_kinds.specs.declared.setup.KindName.TheVariants as name
use Rattle.caf_kinds.specs.declared.setup.Setup.{Setup}
use Rattle.caf_steady.specs.Outline.{Outline, Outlined, Bare, with_outline, send_outputs}
use Rattle.caf_steady.specs.Outline as outline
use Rattle.caf_steady.specs.Reading.{content, read, read_one}
use Rattle.caf_steady.specs.Steady.{Brings}
use Rattle.caf_pipeline.specs.Parts.{index_content, totals_content, told_extent, told_finish}
use Rattle.caf_pipeline.specs.Contents.{counted, told_to, asked_of, comes_as, comes}
use Rattle.caf_pipeline.proofs.ClassLemmas.{at_content, Goes}
use Rattle.caf_pipeline.proofs.CollectorLemmas.{Collects}
use Rattle.caf_pipeline.proofs.FlowLemmas.{BringsContent, as_content, one_reads}
use Rattle.caf_pipeline.proofs.HoldLemmas.{has_asked}
use Rattle.caf_pipeline.proofs.ListLemmas.{one_of}
use Rattle.caf_pipeline.proofs.PartLemmas.{hands_on}
use Rattle.caf_pipeline.proofs.TallyLemmas.{Tallied, all_answerable, at_nothing, at_postings, at_extent, at_finish}
use Rattle.caf_pipeline.proofs.QuestionLemmas.{content_of_question, IsAskedSo, held_in}
use Rattle.caf_pipeline.proofs.CollectingLemmas as collecting
use Rattle.caf_pipeline.proofs.ToldLemmas.{told_collecting, told_keeps}
use Rattle.caf_pipeline.proofs.HeldLemmas.{question_steps}

module _ (setups : List Setup) (cs : List Chunk) (chunks : AreChunks cs) (few : length cs < 2 ^ 64) (place : ℕ) (s : Setup) (there : setup_at setups place ≡ Some s) (kind_is : s.kind ≡ name.Collector)
    (lines bytes : ℕ) (index : Entries) where
  abbrev Collecting : Outlined Kind → List Taken → Type 0
  Collecting = collecting.Collecting setups cs chunks few place s there kind_is lines bytes index

  abbrev IsRight : Bare → Type 0
  IsRight = collecting.IsRight setups cs chunks few place s there kind_is lines bytes index

  abbrev IsHeldRight : HeldQuestion → Type 0
  IsHeldRight = collecting.IsHeldRight setups cs chunks few place s there kind_is lines bytes index

  abbrev IsReplied : ℕ → List Bare → Type 0
  IsReplied = collecting.IsReplied setups cs chunks few place s there kind_is lines bytes index

  abbrev IsKept : ℕ → Outlined Kind → Type 0
  IsKept = collecting.IsKept setups cs chunks few place s there kind_is lines bytes index

  abbrev Steps : Outlined Kind → Taken → List Taken → Outlined Kind → Type 0
  Steps = collecting.Steps setups cs chunks few place s there kind_is lines bytes index

  abbrev goes : (b : Kind) (i : PlainInput) → Collects b → comes setups cs place i ≡ true → Goes setups cs place Collects b i
  goes = collecting.goes setups cs chunks few place s there kind_is lines bytes index

  -- ---- one envelope

  one_steps : (o : Outlined Kind) (e : Taken) (es : List Taken) → Brings (comes setups cs place) e → IsAskedSo e → Collecting o (e ∷ es) → Steps o e es (read_one kind_rules o e)
  one_steps o e es brings so x = subst (Steps o e es) (sym reads) (go brought)
    where
      inv : Collects o.outline.behavior
      inv = collecting.collects setups cs chunks few place s there kind_is lines bytes index o (e ∷ es) x

      b : BringsContent (comes setups cs place) e
      b = as_content setups cs place s there Collects goes e brings

      reads : read_one kind_rules o e ≡ content kind_rules o (origin_of e) b.words
      reads = one_reads setups cs place s there Collects goes o e b.words b.body_is b.no_reply

      brought : collecting.IsBrought setups cs chunks few place s there kind_is lines bytes index (Content (origin_of e) b.words)
      brought = at_content setups cs place (collecting.IsBrought setups cs chunks few place s there kind_is lines bytes index) s name.Collector kind_is (λ og words told has. inl (told, has)) (λ og words from_0 has. inr (from_0, has)) (Content (origin_of e) b.words)
          (sym (ap (λ (y : Option Setup). comes_as cs place y (Content (origin_of e) b.words)) there) ∙ b.comes)

      told : (after : Collector) (words : List ℕ) → is_asked (origin_of e) ≡ false → b.words ≡ words → after.held ≡ x.collector.held → reacted (kind.Collector x.collector) (Content (origin_of e) words) ≡ as_kind kind.Collector (delivers after)
          → Tallied (length cs) lines bytes index after.tally after.index es → Steps o e es (content kind_rules o (origin_of e) b.words)
      told after words not is same reacts tallied =
          let reacts_so = ap (λ (ws : List ℕ). reacted (kind.Collector x.collector) (Content (origin_of e) ws)) is ∙ reacts in
          subst (Steps o e es) (sym (collecting.told_answers setups cs chunks few place s there kind_is lines bytes index o (origin_of e) b.words x.collector after x.is not reacts_so b.comes inv)) (record {
            collecting = told_collecting setups cs chunks few place s there kind_is lines bytes index o e es x after same tallied;
            keeps = told_keeps setups cs chunks few place s there kind_is lines bytes index o e es x after same tallied;
            asks = λ yes. (let bad : false ≡ true = sym not ∙ yes in absurd cc);
          })

      by_told : is_asked (origin_of e) ≡ false → Contains (told_to cs name.Collector false) b.words → Steps o e es (content kind_rules o (origin_of e) b.words)
      by_told not has = elim (Contains-append_cases (map counted cs) (map told_extent cs ++ told_finish (length cs) ∷ []) b.words has) [
        | inl here ↦
            (let from = from-map counted b.words cs here in
            let chunk = hands_on.lowered_is_chunk from.0 (one_of IsChunk cs from.0 chunks from.1) in
            told (with_postings x.collector (postings_at (lowered from.0))) (counted from.0) not (sym from.2) refl (hands_on.indexes x.collector (origin_of e) (lowered from.0) chunk)
            (at_postings (length cs) lines bytes index few x.collector.tally x.collector.index e es from.0 chunk (b.body_is ∙ ap «plain».Content (sym from.2)) x.tallied))
        | inr more ↦ elim (Contains-append_cases (map told_extent cs) (told_finish (length cs) ∷ []) b.words more) [
          | inl here ↦
              (let from = from-map told_extent b.words cs here in
              let chunk = one_of IsChunk cs from.0 chunks from.1 in
              told (in_tally x.collector (with_extent x.collector.tally (extent_of from.0))) (told_extent from.0) not (sym from.2) refl (hands_on.adds x.collector (origin_of e) from.0 chunk)
              (at_extent (length cs) lines bytes index few x.collector.tally x.collector.index e es from.0 chunk (b.body_is ∙ ap «plain».Content (sym from.2)) x.tallied))
          | inr last ↦ elim (contains-cases (told_finish (length cs)) b.words [] last) [
            | inl is ↦
                told (in_tally x.collector (with_finish x.collector.tally (finish_of (length cs)))) (told_finish (length cs)) not (sym is) refl (hands_on.finishes x.collector (origin_of e) (length cs))
                (at_finish (length cs) lines bytes index few x.collector.tally x.collector.index e es (b.body_is ∙ ap «plain».Content (sym is)) x.tallied)
            | inr none ↦ absurd (contains-none b.words none)
          ]
        ]
      ]

      nothing : (q : Question) → b.words ≡ content_of_question q → Tallied (length cs) lines bytes index x.collector.tally x.collector.index es
      nothing question.Index is =
          at_nothing (length cs) lines bytes index x.collector.tally x.collector.index e es index_content (b.body_is ∙ ap «plain».Content is) refl refl refl refl refl refl x.tallied
      nothing question.Totals is =
          at_nothing (length cs) lines bytes index x.collector.tally x.collector.index e es totals_content (b.body_is ∙ ap «plain».Content is) refl refl refl refl refl refl x.tallied

      reacts_to : (q : Question) → reacted (kind.Collector x.collector) (Content (origin_of e) (content_of_question q)) ≡ as_kind kind.Collector (on_question x.collector (origin_of e) q)
      reacts_to question.Index = hands_on.is_asked_index x.collector (origin_of e)
      reacts_to question.Totals = hands_on.is_asked_totals x.collector (origin_of e)

      asked : (q : Question) → e.mid.requester ≡ 0 → b.words ≡ content_of_question q → Steps o e es (content kind_rules o (origin_of e) b.words)
      asked q from_0 is =
          let reacts_so = ap (λ (ws : List ℕ). reacted (kind.Collector x.collector) (Content (origin_of e) ws)) is ∙ reacts_to q in
          let body : e.body ≡ «plain».Content (content_of_question q) = b.body_is ∙ ap «plain».Content is in
          let end = collecting.question_reads setups cs chunks few place s there kind_is lines bytes index o (origin_of e) b.words q x.collector x.is reacts_so b.comes inv ∙ ap (λ (ws : List ℕ). outline.answer (with_outline o (record o.outline { behavior = kind.Collector (on_question x.collector (origin_of e) q).0 })) (origin_of e) ws (on_question x.collector (origin_of e) q).1.answer) is in
          subst (Steps o e es) (sym end) (question_steps setups cs chunks few place s there kind_is lines bytes index o e es x q body from_0 so (nothing q is))

      go : ((is_asked (origin_of e) ≡ false) × Contains (told_to cs name.Collector false) b.words) ⊎ ((e.mid.requester ≡ 0) × Contains (asked_of name.Collector) b.words) → Steps o e es (content kind_rules o (origin_of e) b.words)
      go (inl told_it) = by_told told_it.0 told_it.1
      go (inr asked_it) = elim (contains-cases index_content b.words (totals_content ∷ []) asked_it.1) [
        | inl is ↦ asked question.Index asked_it.0 (sym is)
        | inr more ↦ elim (contains-cases totals_content b.words [] more) [
          | inl is ↦ asked question.Totals asked_it.0 (sym is)
          | inr none ↦ absurd (contains-none b.words none)
        ]
      ]

  -- ---- all of them

  pub record AllSteps (o : Outlined Kind) (es : List Taken) (end : Outlined Kind) : Type 0 where
    pub collecting : Collecting end []
    pub keeps : (m : ℕ) → IsKept m o → IsKept m end
    pub asks : (e : Taken) → Contains es e → is_asked (origin_of e) ≡ true → IsKept e.mid.number end

  pub all_steps : (o : Outlined Kind) (es : List Taken) → AllByRecursion (Brings (comes setups cs place)) es → AllByRecursion IsAskedSo es → Collecting o es → AllSteps o es (read kind_rules o es)
  all_steps o [] all so x = record { collecting = x; keeps = λ m kept. kept; asks = λ e has. absurd (contains-none e has) }
  all_steps o (e ∷ es) all so x =
      let one = one_steps o e es all.0 so.0 x in
      let rest = all_steps (read_one kind_rules o e) es all.1 so.1 one.collecting in
      record {
        collecting = rest.collecting;
        keeps = λ m kept. rest.keeps m (one.keeps m kept);
        asks = λ y has yes. elim (contains-cases e y es has) [
          | inl is ↦ subst (λ (z : Taken). IsKept z.mid.number (read kind_rules o (e ∷ es))) is (rest.keeps e.mid.number (one.asks (subst (λ (z : Taken). is_asked (origin_of z) ≡ true) (sym is) yes)))
          | inr later ↦ rest.asks y later yes
        ];
      }

  -- with nothing to come none is held, so each was answered
  pub all_replied : (end : Outlined Kind) → Collecting end [] → (m : ℕ) → IsKept m end → IsReplied m end.sent
  all_replied end x m (inr replied) = replied
  all_replied end x m (inl some) = go x.collector.held refl
    where
      held_is : (hs : List HeldQuestion) → x.collector.held ≡ hs → 0 < count_by (has_asked m) hs
      held_is hs q = subst (λ (ys : List HeldQuestion). 0 < count_by (has_asked m) ys) q (subst (λ (b : Kind). 0 < count_by (has_asked m) (held_in b)) x.is some)

      go : (hs : List HeldQuestion) → x.collector.held ≡ hs → IsReplied m end.sent
      go [] q = let none = held_is [] q in absurd (omega (arith, none))
      go (h ∷ hs) q =
          let waits = subst (AllByRecursion (λ y. is_answerable x.collector.tally y.question ≡ false)) q x.waits in
          let can = all_answerable (length cs) lines bytes index h.question x.collector.tally x.collector.index x.tallied in
          let bad : false ≡ true = sym waits.0 ∙ can in absurd cc

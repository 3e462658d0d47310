-- A collector on the way to its final answers, and what content makes of it.
use Rattle.std.proofs.Common.{◌≡◌, ℕ, ◌<◌, true, false, List, [], ◌∷◌, ◌++◌, length, count_by, Option, Some, refl, sym, ap, ◌∙◌}
use Rattle.std.specs.Prelude.{◌^◌, ◌⊎◌, Contains, if◌then◌else◌}
use Rattle.std.specs.List.{AllByRecursion}
use Rattle.caf_index.specs.Index.{Entries}
use Rattle.caf_message.specs.declared.envelope.Plain.TheVariants as «plain»
use Rattle.caf_message.specs.declared.envelope.Taken.{Taken}
use Rattle.caf_response.specs.Holds.{is_of}
use Rattle.caf_actor.specs.Answering.{is_asked, origin_of}
use Rattle.caf_actor.specs.PlainInput.{PlainInput, Content}
use Rattle.caf_actor.specs.PlainReaction as answer
use Rattle.caf_actor.specs.PlainReaction.{PlainAnswer, PlainReaction}
use Rattle.caf_actor.specs.declared.origin.Origin.{Origin}
use Rattle.caf_kinds.specs.Collector.{is_answerable, reply, delivers, on_question}
use Rattle.caf_kinds.specs.FileChunks.{AreChunks}
use Rattle.caf_kinds.specs.Keeping.{on_if}
use Rattle.caf_kinds.specs.Kinds.{kind_rules, reacted, as_kind}
use Rattle.caf_kinds.specs.Questions.{held as held_as}
use Rattle.caf_kinds.specs.Reacting.{Reacted, answers, quiet}
use Rattle.caf_kinds.specs.Setups.{setup_at}
use Rattle.caf_kinds.specs.declared.collector.Collector.{Collector}
use Rattle.caf_kinds.specs.declared.contents.Chunk.{Chunk}
use Rattle.caf_kinds.specs.declared.kind.Kind.{Kind}
use Rattle.caf_kinds.specs.declared.kind.Kind.TheVariants as kind
use Rattle.caf_kinds.specs.declared.questions.HeldQuestion.{HeldQuestion}
use Rattle.caf_kinds.specs.declared.questions.Question.{Question}
use Rattle.caf_kinds.specs.declared.setup.KindName.TheVariants as name
use Rattle.caf_kinds.specs.declared.setup.Setup.{Setup}
use Rattle.caf_steady.specs.Outline.{Outline, Outlined, Bare, with_outline, send_outputs}
use Rattle.caf_steady.specs.Outline as outline
use Rattle.caf_steady.specs.Reading.{react, content}
use Rattle.caf_pipeline.specs.Contents.{told_to, asked_of, comes_as, comes}
use Rattle.caf_pipeline.proofs.ClassLemmas.{Goes}
use Rattle.caf_pipeline.proofs.CollectorLemmas.{Collects, collector_goes}
use Rattle.caf_pipeline.proofs.HoldLemmas.{has_asked}
use Rattle.caf_pipeline.proofs.ListLemmas.{all_of}
use Rattle.caf_pipeline.proofs.TallyLemmas.{Tallied, final_answer}
use Rattle.caf_pipeline.proofs.QuestionLemmas.{IsAsked, held_in}

module _ (setups : List Setup) (cs : List Chunk) (chunks : AreChunks cs) (few : length cs < 2 ^ 64) (place : ℕ) (s : Setup) (there : setup_at setups place ≡ Some s) (kind_is : s.kind ≡ name.Collector)
    (lines bytes : ℕ) (index : Entries) where
  abbrev pub final : Question → List ℕ
  final = final_answer index lines bytes

  -- the response to a request of place 0, by the final answer
  pub record IsRight (b : Bare) : Type 0 where
    pub to : b.to ≡ 0
    pub response : b.mid.response ≡ true
    pub question : Question
    pub asked : IsAsked b.mid.number question
    pub body : b.body ≡ «plain».Content (final question)

  pub record IsHeldRight (h : HeldQuestion) : Type 0 where
    pub of_0 : h.requester ≡ 0
    pub asked : IsAsked h.number h.question

  pub record Collecting (o : Outlined Kind) (es : List Taken) : Type 0 where
    pub collector : Collector
    pub is : o.outline.behavior ≡ kind.Collector collector
    pub matches : (m : ℕ) → count_by (is_of 0 m) o.outline.holds ≡ count_by (has_asked m) collector.held
    pub held : AllByRecursion IsHeldRight collector.held
    pub waits : AllByRecursion (λ h. is_answerable collector.tally h.question ≡ false) collector.held
    pub right : AllByRecursion IsRight o.sent
    pub tallied : Tallied (length cs) lines bytes index collector.tally collector.index es

  -- the request of that number is held, or was answered
  abbrev pub IsReplied : ℕ → List Bare → Type 0
  IsReplied m sent = (b : Bare) × Contains sent b × (b.mid.number ≡ m)

  abbrev pub IsKept : ℕ → Outlined Kind → Type 0
  IsKept m o = (0 < count_by (has_asked m) (held_in o.outline.behavior)) ⊎ IsReplied m o.sent

  pub record Steps (o : Outlined Kind) (e : Taken) (es : List Taken) (end : Outlined Kind) : Type 0 where
    pub collecting : Collecting end es
    pub keeps : (m : ℕ) → IsKept m o → IsKept m end
    pub asks : is_asked (origin_of e) ≡ true → IsKept e.mid.number end

  pub goes : (b : Kind) (i : PlainInput) → Collects b → comes setups cs place i ≡ true → Goes setups cs place Collects b i
  goes b i inv e = collector_goes setups cs chunks place s kind_is b i inv (sym (ap (λ (o : Option Setup). comes_as cs place o i) there) ∙ e)

  pub collects : (o : Outlined Kind) (es : List Taken) → Collecting o es → Collects o.outline.behavior
  collects o es x = record { collector = x.collector; is = x.is; held = all_of IsHeldRight (λ h. h.requester ≡ 0) x.collector.held (λ h r. r.of_0) x.held }

  -- ---- what content makes of it

  abbrev pub IsBrought : PlainInput → Type 0
  IsBrought (Content og words) = ((is_asked og ≡ false) × Contains (told_to cs name.Collector false) words) ⊎ ((og.mid.requester ≡ 0) × Contains (asked_of name.Collector) words)
  IsBrought _ = Unit {0}

  pub told_answers : (o : Outlined Kind) (og : Origin) (words : List ℕ) (c after : Collector) → o.outline.behavior ≡ kind.Collector c → is_asked og ≡ false → reacted (kind.Collector c) (Content og words) ≡ as_kind kind.Collector (delivers after)
      → comes setups cs place (Content og words) ≡ true → Collects o.outline.behavior
      → content kind_rules o og words ≡ send_outputs (with_outline o (record o.outline { behavior = kind.Collector (delivers after).0 })) (delivers after).1.outputs
  told_answers o og words c after is told reacts brings inv =
      let i : PlainInput = Content og words in
      let go = goes o.outline.behavior i inv brings in
      let all : reacted o.outline.behavior i ≡ as_kind kind.Collector (delivers after) = ap (λ (x : Kind). reacted x i) is ∙ reacts in
      let same : content kind_rules o og words ≡ react kind_rules o i =
      rw (go.taken) (ap (λ (x : Reacted Kind). outline.answer (react kind_rules o i) og words x.1.answer) all ∙ rw told refl) in
      same ∙ ap (λ (x : Reacted Kind). send_outputs (with_outline o (record o.outline { behavior = x.0 })) x.1.outputs) all

  pub question_reads : (o : Outlined Kind) (og : Origin) (words : List ℕ) (q : Question) (c : Collector) → o.outline.behavior ≡ kind.Collector c → reacted (kind.Collector c) (Content og words) ≡ as_kind kind.Collector (on_question c og q)
      → comes setups cs place (Content og words) ≡ true → Collects o.outline.behavior
      → content kind_rules o og words ≡ outline.answer (with_outline o (record o.outline { behavior = kind.Collector (on_question c og q).0 })) og words (on_question c og q).1.answer
  question_reads o og words q c is reacts brings inv =
      let i : PlainInput = Content og words in
      let go = goes o.outline.behavior i inv brings in
      let all : reacted o.outline.behavior i ≡ as_kind kind.Collector (on_question c og q) = ap (λ (x : Kind). reacted x i) is ∙ reacts in
      let silent : (on_question c og q).1.outputs ≡ [] = no_outputs in
      let same : content kind_rules o og words ≡ outline.answer (react kind_rules o i) og words (kind_rules.reaction o.outline.behavior i).answer = rw (go.taken) refl in
      same ∙ ap (λ (x : Reacted Kind). outline.answer (send_outputs (with_outline o (record o.outline { behavior = x.0 })) x.1.outputs) og words x.1.answer) all
      ∙ ap (λ os. outline.answer (send_outputs (with_outline o (record o.outline { behavior = kind.Collector (on_question c og q).0 })) os) og words (on_question c og q).1.answer) silent
    where
      no_outputs : (on_question c og q).1.outputs ≡ []
      no_outputs =
          let P : Reacted Collector → Type 0 = λ (r : Reacted Collector). r.1.outputs ≡ [] in
          on_if P (is_answerable c.tally q) (c, answers (answer.Value (reply c.index c.tally q))) (if is_asked og then (record c { held = c.held ++ held_as og q ∷ [] }, answers answer.Hold) else (c, quiet))
          (λ can. refl) (λ cannot. on_if P (is_asked og) (record c { held = c.held ++ held_as og q ∷ [] }, answers answer.Hold) (c, quiet) (λ asked. refl) (λ asked. refl))

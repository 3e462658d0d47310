-- A collector that is asked a question answers it, or holds it.
use Rattle.std.proofs.Common.{◌≡◌, ℕ, ◌+◌, ◌<◌, ◌==◌, ◌&&◌, Bool, true, false, List, [], ◌∷◌, ◌++◌, length, count_by, Some, inl, inr, refl, sym, subst, ap, ◌∙◌, arith}
use Rattle.std.specs.Prelude.{◌^◌, if◌then◌else◌}
use Rattle.std.proofs.lemmas.List.Elements.{Contains-append_left, Contains-push}
use Rattle.caf_index.specs.Index.{Entries}
use Rattle.caf_mailbox.proofs.NextLemmas.{all_append}
use Rattle.caf_message.specs.declared.envelope.Plain.TheVariants as «plain»
use Rattle.caf_message.specs.declared.envelope.Taken.{Taken}
use Rattle.caf_response.specs.Holds.{is_of, is_before, with_hold}
use Rattle.caf_carriers.proofs.CountLemmas.{one, count-cons, count-append, count-put, self_same}
use Rattle.caf_actor.specs.Answering.{is_asked, origin_of, promised_to}
use Rattle.caf_actor.specs.PlainReaction as answer
use Rattle.caf_actor.specs.PlainReaction.{PlainAnswer, PlainReaction}
use Rattle.caf_actor.specs.declared.origin.Origin.{Origin}
use Rattle.caf_kinds.specs.Collector.{is_answerable, reply, on_question}
use Rattle.caf_kinds.specs.FileChunks.{AreChunks}
use Rattle.caf_kinds.specs.Keeping.{on_if}
use Rattle.caf_kinds.specs.Questions.{held as held_as}
use Rattle.caf_kinds.specs.Reacting.{Reacted, answers, quiet}
use Rattle.caf_kinds.specs.Setups.{setup_at}
use Rattle.caf_kinds.specs.declared.collector.Collector.{Collector}
use Rattle.caf_kinds.specs.declared.contents.Chunk.{Chunk}
use Rattle.caf_kinds.specs.declared.kind.Kind.{Kind}
use Rattle.caf_kinds.specs.declared.kind.Kind.TheVariants as kind
use Rattle.caf_kinds.specs.declared.questions.HeldQuestion.{HeldQuestion}
use Rattle.caf_kinds.specs.declared.questions.Question.{Question}
use Rattle.caf_kinds.specs.declared.setup.KindName.TheVariants as name
use Rattle.caf_kinds.specs.declared.setup.Setup.{Setup}
use Rattle.caf_steady.specs.Outline.{Outline, Outlined, Bare, with_outline, send_outputs}
use Rattle.caf_steady.specs.Outline as outline
use Rattle.caf_pipeline.proofs.HoldLemmas.{has_asked}
use Rattle.caf_pipeline.proofs.TallyLemmas.{Tallied, answers_right}
use Rattle.caf_pipeline.proofs.QuestionLemmas.{IsAsked, content_of_question, IsAskedSo, same_question, held_in}
use Rattle.caf_pipeline.proofs.CollectingLemmas as collecting

module _ (setups : List Setup) (cs : List Chunk) (chunks : AreChunks cs) (few : length cs < 2 ^ 64) (place : ℕ) (s : Setup) (there : setup_at setups place ≡ Some s) (kind_is : s.kind ≡ name.Collector)
    (lines bytes : ℕ) (index : Entries) where
  abbrev Collecting : Outlined Kind → List Taken → Type 0
  Collecting = collecting.Collecting setups cs chunks few place s there kind_is lines bytes index

  abbrev IsRight : Bare → Type 0
  IsRight = collecting.IsRight setups cs chunks few place s there kind_is lines bytes index

  abbrev IsHeldRight : HeldQuestion → Type 0
  IsHeldRight = collecting.IsHeldRight setups cs chunks few place s there kind_is lines bytes index

  abbrev IsReplied : ℕ → List Bare → Type 0
  IsReplied = collecting.IsReplied setups cs chunks few place s there kind_is lines bytes index

  abbrev IsKept : ℕ → Outlined Kind → Type 0
  IsKept = collecting.IsKept setups cs chunks few place s there kind_is lines bytes index

  abbrev Steps : Outlined Kind → Taken → List Taken → Outlined Kind → Type 0
  Steps = collecting.Steps setups cs chunks few place s there kind_is lines bytes index

  module _ (o : Outlined Kind) (e : Taken) (es : List Taken) (x : Collecting o (e ∷ es)) (q : Question) (body : e.body ≡ «plain».Content (content_of_question q)) (from_0 : e.mid.requester ≡ 0) (so : IsAskedSo e)
      (tallied : Tallied (length cs) lines bytes index x.collector.tally x.collector.index es) where
    abbrev pub og : Origin
    og = origin_of e

    abbrev pub words : List ℕ
    words = content_of_question q

    number_asks : is_asked og ≡ true → IsAsked e.mid.number q
    number_asks asked =
        let it = so asked in
        let both : «plain».Content (content_of_question it.0) ≡ «plain».Content words = sym it.2 ∙ body in
        let same : content_of_question it.0 ≡ words = cc in
        subst (IsAsked e.mid.number) (same_question it.0 q same) it.1

    abbrev pub with_collector : Collector → Outlined Kind
    with_collector c = with_outline o (record o.outline { behavior = kind.Collector c })

    abbrev pub answered : Reacted Collector → Outlined Kind
    answered r = outline.answer (with_collector r.0) og words r.1.answer

    -- nothing is sent, and nothing else changes
    unchanged : Collecting (with_collector x.collector) es
    unchanged = record { collector = x.collector; is = refl; matches = x.matches; held = x.held; waits = x.waits; right = x.right; tallied = tallied }

    kept_same : (m : ℕ) → IsKept m o → IsKept m (with_collector x.collector)
    kept_same m (inl some) = inl (subst (λ (b : Kind). 0 < count_by (has_asked m) (held_in b)) x.is some)
    kept_same m (inr replied) = inr replied

    value_steps : is_answerable x.collector.tally q ≡ true → (b : Bool) → is_asked og ≡ b → Steps o e es (answered (x.collector, answers (answer.Value (reply x.collector.index x.collector.tally q))))
    value_steps can true asked =
        let now = with_collector x.collector in
        let bare : Bare = record { sender = o.outline.place; to = e.mid.requester; mid = record { requester = e.mid.requester; number = e.mid.number; response = true }; priority = e.priority; body = «plain».Content (reply x.collector.index x.collector.tally q) } in
        let right_one : IsRight bare = record {
          to = from_0;
          response = refl;
          question = q;
          asked = number_asks asked;
          body = ap «plain».Content (answers_right (length cs) lines bytes index q x.collector.tally x.collector.index es tallied can);
        } in
        let end : Outlined Kind = outline.reply now (promised_to og) («plain».Content (reply x.collector.index x.collector.tally q)) in
        let steps : Steps o e es end = record {
          collecting = record { collector = x.collector; is = refl; matches = x.matches; held = x.held; waits = x.waits; right = all_append IsRight o.sent (bare ∷ []) x.right (right_one, tt); tallied = tallied };
          keeps = λ m kept. elim (kept_same m kept) [ inl some ↦ inl some | inr replied ↦ inr (replied.0, Contains-append_left o.sent (bare ∷ []) replied.0 replied.1, replied.2) ];
          asks = λ yes. inr (bare, Contains-push o.sent bare, refl);
        } in
        rw asked steps
    value_steps can false asked =
        rw asked (let steps : Steps o e es (with_collector x.collector) = record { collecting = unchanged; keeps = kept_same; asks = λ yes. (let bad : false ≡ true = sym asked ∙ yes in absurd cc) } in steps)

    quiet_steps : is_asked og ≡ false → Steps o e es (answered (x.collector, quiet))
    quiet_steps asked =
        rw asked (let steps : Steps o e es (with_collector x.collector) = record { collecting = unchanged; keeps = kept_same; asks = λ yes. (let bad : false ≡ true = sym asked ∙ yes in absurd cc) } in steps)

    hold_steps : is_answerable x.collector.tally q ≡ false → is_asked og ≡ true → Steps o e es (answered (record x.collector { held = x.collector.held ++ held_as og q ∷ [] }, answers answer.Hold))
    hold_steps cannot asked =
        let h : HeldQuestion = held_as og q in
        let more : Collector = record x.collector { held = x.collector.held ++ h ∷ [] } in
        let now = with_collector more in
        let p = promised_to og in
        let end : Outlined Kind = with_outline now (record now.outline { holds = with_hold now.outline.holds p }) in
        let counts = λ (m : ℕ). (
        let both = count-append (has_asked m) x.collector.held (h ∷ []) in
        let last = count-cons (has_asked m) h [] in
        let e : count_by (has_asked m) more.held ≡ count_by (has_asked m) x.collector.held + one (has_asked m h) = omega (arith, both, last) in e) in
        let steps : Steps o e es end = record {
          collecting = record {
            collector = more;
            is = refl;
            matches = λ m.
                (let put = count-put (is_of 0 m) is_before o.outline.holds p in
                let same : is_of 0 m p ≡ has_asked m h = ap (λ (r : ℕ). (r == 0) && (e.mid.number == m)) from_0 in
                let ones = ap one same in
                let before = x.matches m in
                let after = counts m in
                omega (arith, put, ones, before, after));
            held = all_append IsHeldRight x.collector.held (h ∷ []) x.held (record { of_0 = from_0; asked = number_asks asked }, tt);
            waits = all_append (λ y. is_answerable x.collector.tally y.question ≡ false) x.collector.held (h ∷ []) x.waits (cannot, tt);
            right = x.right;
            tallied = tallied;
          };
          keeps = λ m kept. elim kept [
            | inl some ↦ inl (let was = ap (λ (b : Kind). count_by (has_asked m) (held_in b)) x.is in let after = counts m in omega (arith, was, after, some))
            | inr replied ↦ inr replied
          ];
          asks = λ yes. inl (let after = counts e.mid.number in let own = ap one (self_same e.mid.number) in omega (arith, after, own));
        } in
        rw asked steps

    pub question_steps : Steps o e es (answered (on_question x.collector og q))
    question_steps =
        let P : Reacted Collector → Type 0 = λ (r : Reacted Collector). Steps o e es (answered r) in
        on_if P (is_answerable x.collector.tally q) (x.collector, answers (answer.Value (reply x.collector.index x.collector.tally q)))
        (if is_asked og then (record x.collector { held = x.collector.held ++ held_as og q ∷ [] }, answers answer.Hold) else (x.collector, quiet))
        (λ can. value_steps can (is_asked og) refl)
        (λ cannot. on_if P (is_asked og) (record x.collector { held = x.collector.held ++ held_as og q ∷ [] }, answers answer.Hold) (x.collector, quiet) (λ asked. hold_steps cannot asked) (λ asked. quiet_steps asked))

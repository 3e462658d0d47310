-- A collector sends replies alone, which weigh nothing.
use Rattle.std.proofs.Common.{◌≡◌, ℕ, ◌<◌, Bool, true, false, List, [], ◌∷◌, ◌++◌, length, map, Option, Some, None, inl, inr, refl, sym, subst, ap, ◌∙◌}
use Rattle.std.specs.Prelude.{◌^◌, ◌⊎◌, Contains, if◌then◌else◌}
use Rattle.std.specs.FinMap as finite
use Rattle.std.specs.List.{AllByRecursion, filter}
use Rattle.std.proofs.lemmas.List.Elements.{Contains-append_cases}
use Rattle.caf_index.specs.Index.{Entries}
use Rattle.caf_index.proofs.ContainsLemmas.{contains-none, contains-cases, from-map}
use Rattle.caf_mailbox.proofs.NextLemmas.{all_append}
use Rattle.caf_message.specs.declared.envelope.Plain.TheVariants as «plain»
use Rattle.caf_message.specs.declared.envelope.Taken.{Taken}
use Rattle.caf_response.specs.Holds.{take_hold}
use Rattle.caf_response.specs.Promised.{Promised}
use Rattle.caf_actor.specs.Answering.{is_asked, origin_of}
use Rattle.caf_actor.specs.PlainInput.{Content}
use Rattle.caf_actor.specs.PlainReaction as answer
use Rattle.caf_kinds.specs.Collector.{is_answerable, reply, delivers, with_postings, with_extent, with_finish, in_tally, on_question}
use Rattle.caf_kinds.specs.Counter.{postings_at}
use Rattle.caf_kinds.specs.FileChunks.{IsChunk, AreChunks}
use Rattle.caf_kinds.specs.Keeping.{on_if}
use Rattle.caf_kinds.specs.Kinds.{kind_rules, reacted, as_kind}
use Rattle.caf_kinds.specs.Lines.{extent_of}
use Rattle.caf_kinds.specs.Questions.{held as held_as}
use Rattle.caf_kinds.specs.Reacting.{Reacted, answers, quiet}
use Rattle.caf_kinds.specs.Relay.{lowered}
use Rattle.caf_kinds.specs.Setups.{setup_at}
use Rattle.caf_kinds.specs.Source.{finish_of}
use Rattle.caf_kinds.specs.declared.collector.Collector.{Collector}
use Rattle.caf_kinds.specs.declared.contents.Chunk.{Chunk}
use Rattle.caf_kinds.specs.declared.kind.Kind.{Kind}
use Rattle.caf_kinds.specs.declared.kind.Kind.TheVariants as kind
use Rattle.caf_kinds.specs.declared.questions.HeldQuestion.{HeldQuestion}
use Rattle.caf_kinds.specs.declared.questions.Question.{Question}
use Rattle.caf_kinds.specs.declared.questions.Question.TheVariants as question
use Rattle.caf_kinds.specs.declared.setup.KindName.TheVariants as name
use Rattle.caf_kinds.specs.declared.setup.Setup.{Setup}
use Rattle.caf_kinds.specs.declared.tally.Tally.{Tally}
use Rattle.caf_steady.specs.Outline.{Outlined, Bare, with_outline, settle_hold, send_output, send_outputs}
use Rattle.caf_steady.specs.Outline as outline
use Rattle.caf_steady.specs.Reading.{content, read, read_one}
use Rattle.caf_steady.specs.Steady.{Brings}
use Rattle.caf_pipeline.specs.Parts.{index_content, totals_content, told_extent, told_finish}
use Rattle.caf_pipeline.specs.Contents.{counted, told_to, asked_of, comes_as, comes}
use Rattle.caf_pipeline.proofs.CollectingLemmas.{IsBrought, goes, told_answers, question_reads}
use Rattle.caf_pipeline.proofs.QuestionLemmas.{content_of_question}
use Rattle.caf_pipeline.proofs.ClassLemmas.{at_content}
use Rattle.caf_pipeline.proofs.CollectorLemmas.{Collects}
use Rattle.caf_pipeline.proofs.FlowLemmas.{BringsContent, as_content, one_reads, one_stays}
use Rattle.caf_pipeline.proofs.HoldLemmas.{delivery}
use Rattle.caf_pipeline.proofs.LightLemmas.{IsLight, reply_light}
use Rattle.caf_pipeline.proofs.ListLemmas.{one_of}
use Rattle.caf_pipeline.proofs.PartLemmas.{hands_on}

-- a response that weighs nothing
pub record IsReply (b : Bare) : Type 0 where
  pub response : b.mid.response ≡ true
  pub words : List ℕ
  pub body : b.body ≡ «plain».Content words
  pub light : IsLight words

module _ (index : Entries) (t : Tally) where
  settled_replies : (o : Outlined Kind) (q : Question) (found : Option (Promised × List Promised)) → AllByRecursion IsReply o.sent → AllByRecursion IsReply (settle_hold o found («plain».Content (reply index t q))).sent
  settled_replies o q None all = all
  settled_replies o q (Some found) all = all_append IsReply o.sent _ all (record { response = refl; words = reply index t q; body = refl; light = reply_light index t q }, tt)

  deliveries_reply : (o : Outlined Kind) (hs : List HeldQuestion) → AllByRecursion IsReply o.sent → AllByRecursion IsReply (send_outputs o (map (delivery (reply index t)) hs)).sent
  deliveries_reply o [] all = all
  deliveries_reply o (h ∷ hs) all = deliveries_reply (send_output o (delivery (reply index t) h)) hs (settled_replies o h.question (take_hold o.outline.holds h.requester h.number) all)

module _ (setups : List Setup) (cs : List Chunk) (chunks : AreChunks cs) (few : length cs < 2 ^ 64) (place : ℕ) (s : Setup) (there : setup_at setups place ≡ Some s) (kind_is : s.kind ≡ name.Collector) where
  abbrev Replies : Outlined Kind → Type 0
  Replies o = AllByRecursion IsReply o.sent

  one_replies : (o : Outlined Kind) (e : Taken) → Collects o.outline.behavior → Brings (comes setups cs place) e → Replies o → Replies (read_one kind_rules o e)
  one_replies o e inv brings all = subst Replies (sym reads) (go brought)
    where
      b : BringsContent (comes setups cs place) e
      b = as_content setups cs place s there Collects (goes setups cs chunks few place s there kind_is 0 0 finite.empty) e brings

      reads : read_one kind_rules o e ≡ content kind_rules o (origin_of e) b.words
      reads = one_reads setups cs place s there Collects (goes setups cs chunks few place s there kind_is 0 0 finite.empty) o e b.words b.body_is b.no_reply

      brought : IsBrought setups cs chunks few place s there kind_is 0 0 finite.empty (Content (origin_of e) b.words)
      brought = at_content setups cs place (IsBrought setups cs chunks few place s there kind_is 0 0 finite.empty) s name.Collector kind_is (λ og words told has. inl (told, has)) (λ og words from_0 has. inr (from_0, has)) (Content (origin_of e) b.words)
          (sym (ap (λ (y : Option Setup). comes_as cs place y (Content (origin_of e) b.words)) there) ∙ b.comes)

      told : (after : Collector) (words : List ℕ) → is_asked (origin_of e) ≡ false → b.words ≡ words → reacted (kind.Collector inv.collector) (Content (origin_of e) words) ≡ as_kind kind.Collector (delivers after)
          → Replies (content kind_rules o (origin_of e) b.words)
      told after words not is reacts =
          let reacts_so = ap (λ (ws : List ℕ). reacted (kind.Collector inv.collector) (Content (origin_of e) ws)) is ∙ reacts in
          let ready = filter (λ (h : HeldQuestion). is_answerable after.tally h.question) after.held in
          subst Replies (sym (told_answers setups cs chunks few place s there kind_is 0 0 finite.empty o (origin_of e) b.words inv.collector after inv.is not reacts_so b.comes inv))
          (deliveries_reply after.index after.tally (with_outline o (record o.outline { behavior = kind.Collector (delivers after).0 })) ready all)

      asked : (q : Question) → b.words ≡ content_of_question q → reacted (kind.Collector inv.collector) (Content (origin_of e) (content_of_question q)) ≡ as_kind kind.Collector (on_question inv.collector (origin_of e) q) → Replies (content kind_rules o (origin_of e) b.words)
      asked q is reacts =
          let og = origin_of e in
          let c = inv.collector in
          let reacts_so = ap (λ (ws : List ℕ). reacted (kind.Collector c) (Content og ws)) is ∙ reacts in
          let P : Reacted Collector → Type 0 = λ (r : Reacted Collector). Replies (outline.answer (with_outline o (record o.outline { behavior = kind.Collector r.0 })) og b.words r.1.answer) in
          subst Replies (sym (question_reads setups cs chunks few place s there kind_is 0 0 finite.empty o og b.words q c inv.is reacts_so b.comes inv))
          (on_if P (is_answerable c.tally q) (c, answers (answer.Value (reply c.index c.tally q))) (if is_asked og then (record c { held = c.held ++ held_as og q ∷ [] }, answers answer.Hold) else (c, quiet))
          (λ can. value c q (is_asked og) refl)
          (λ cannot. on_if P (is_asked og) (record c { held = c.held ++ held_as og q ∷ [] }, answers answer.Hold) (c, quiet) (λ yes. rw yes all) (λ no_request. rw no_request all)))
        where
          value : (c : Collector) (q : Question) (t : Bool) → is_asked (origin_of e) ≡ t
              → Replies (outline.answer (with_outline o (record o.outline { behavior = kind.Collector c })) (origin_of e) b.words (answer.Value (reply c.index c.tally q)))
          value c q true r = rw r (all_append IsReply o.sent _ all (record { response = refl; words = reply c.index c.tally q; body = refl; light = reply_light c.index c.tally q }, tt))
          value c q false r = rw r all

      go : ((is_asked (origin_of e) ≡ false) × Contains (told_to cs name.Collector false) b.words) ⊎ ((e.mid.requester ≡ 0) × Contains (asked_of name.Collector) b.words) → Replies (content kind_rules o (origin_of e) b.words)
      go (inl told_it) = elim (Contains-append_cases (map counted cs) (map told_extent cs ++ told_finish (length cs) ∷ []) b.words told_it.1) [
        | inl here ↦
            (let from = from-map counted b.words cs here in
            told (with_postings inv.collector (postings_at (lowered from.0))) (counted from.0) told_it.0 (sym from.2)
            (hands_on.indexes inv.collector (origin_of e) (lowered from.0) (hands_on.lowered_is_chunk from.0 (one_of IsChunk cs from.0 chunks from.1))))
        | inr more ↦ elim (Contains-append_cases (map told_extent cs) (told_finish (length cs) ∷ []) b.words more) [
          | inl here ↦
              (let from = from-map told_extent b.words cs here in
              told (in_tally inv.collector (with_extent inv.collector.tally (extent_of from.0))) (told_extent from.0) told_it.0 (sym from.2) (hands_on.adds inv.collector (origin_of e) from.0 (one_of IsChunk cs from.0 chunks from.1)))
          | inr last ↦ elim (contains-cases (told_finish (length cs)) b.words [] last) [
            | inl is ↦ told (in_tally inv.collector (with_finish inv.collector.tally (finish_of (length cs)))) (told_finish (length cs)) told_it.0 (sym is) (hands_on.finishes inv.collector (origin_of e) (length cs))
            | inr none ↦ absurd (contains-none b.words none)
          ]
        ]
      ]
      go (inr asked_it) = elim (contains-cases index_content b.words (totals_content ∷ []) asked_it.1) [
        | inl is ↦ asked question.Index (sym is) (hands_on.is_asked_index inv.collector (origin_of e))
        | inr more ↦ elim (contains-cases totals_content b.words [] more) [
          | inl is ↦ asked question.Totals (sym is) (hands_on.is_asked_totals inv.collector (origin_of e))
          | inr none ↦ absurd (contains-none b.words none)
        ]
      ]

  pub all_reply : (o : Outlined Kind) (es : List Taken) → Collects o.outline.behavior → AllByRecursion (Brings (comes setups cs place)) es → Replies o → Replies (read kind_rules o es)
  all_reply o [] inv brings all = all
  all_reply o (e ∷ es) inv brings all =
      all_reply (read_one kind_rules o e) es (one_stays setups cs place s there Collects (goes setups cs chunks few place s there kind_is 0 0 finite.empty) o e inv brings.0) brings.1 (one_replies o e inv brings.0 all)

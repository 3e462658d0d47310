-- The collector pays for its answers: each envelope that it takes brings one, which may be left for later.
use Rattle.std.proofs.Common.{◌≡◌, ℕ, ◌≤◌, Bool, true, false, List, [], ◌∷◌, ◌++◌, length, map, Some, inl, inr, refl, sym, subst, ap, ◌∙◌, arith}
use Rattle.std.specs.Prelude.{not, Contains, if◌then◌else◌}
use Rattle.std.specs.List.{filter}
use Rattle.std.proofs.lemmas.List.Elements.{Contains-append_cases}
use Rattle.caf_index.proofs.ContainsLemmas.{contains-none, contains-cases, from-map}
use Rattle.caf_index.specs.Index.{Entries}
use Rattle.caf_mailbox.proofs.NextLemmas.{all_append, all_filter}
use Rattle.caf_actor.specs.Answering.{is_asked}
use Rattle.caf_actor.specs.PlainInput.{PlainInput, Content}
use Rattle.caf_actor.specs.PlainReaction as answer
use Rattle.caf_actor.specs.Rules.{is_input}
use Rattle.caf_actor.specs.declared.origin.Origin.{Origin}
use Rattle.caf_message.specs.Content.{ids_in}
use Rattle.caf_kinds.specs.FileChunks.{IsChunk, AreChunks}
use Rattle.caf_kinds.specs.Kinds.{reacted, as_kind, interface_of}
use Rattle.caf_kinds.specs.Collector.{is_answerable, reply, delivered, delivers, with_postings, with_extent, with_finish, in_tally, on_question}
use Rattle.caf_kinds.specs.Counter.{postings_at}
use Rattle.caf_kinds.specs.Keeping.{on_if}
use Rattle.caf_kinds.specs.Lines.{extent_of}
use Rattle.caf_kinds.specs.Questions.{held as held_as}
use Rattle.caf_kinds.specs.Reacting.{Reacted, answers, quiet, done}
use Rattle.caf_kinds.specs.Relay.{lowered}
use Rattle.caf_kinds.specs.Setups.{setup_at}
use Rattle.caf_kinds.specs.Source.{finish_of}
use Rattle.caf_kinds.specs.declared.collector.Collector.{Collector}
use Rattle.caf_kinds.specs.declared.contents.Chunk.{Chunk}
use Rattle.caf_kinds.specs.declared.kind.Kind.{Kind}
use Rattle.caf_kinds.specs.declared.kind.Kind.TheVariants as kind
use Rattle.caf_kinds.specs.declared.questions.HeldQuestion.{HeldQuestion}
use Rattle.caf_kinds.specs.declared.questions.Question.{Question}
use Rattle.caf_kinds.specs.declared.questions.Question.TheVariants as question
use Rattle.caf_kinds.specs.declared.setup.KindName.TheVariants as name
use Rattle.caf_kinds.specs.declared.setup.Setup.{Setup}
use Rattle.caf_kinds.specs.declared.tally.Tally.{Tally}
use Rattle.caf_pipeline.specs.Parts.{index_content, totals_content, told_extent, told_finish}
use Rattle.caf_pipeline.specs.Contents.{counted, told_to, asked_of, comes_as}
use Rattle.caf_pipeline.proofs.ListLemmas.{one_of}
use Rattle.caf_pipeline.proofs.PartLemmas.{hands_on}
use Rattle.caf_pipeline.proofs.ClassLemmas.{at_content}
use Rattle.caf_pipeline.proofs.CollectorLemmas.{AreOfPlace0, Collects}
use Rattle.caf_pipeline.proofs.CostLemmas.{costs, answer_cost}
use Rattle.caf_pipeline.proofs.PriceLemmas.{price, price_as, price_of, told_free, PaysFor, pays_as}

module _ (setups : List Setup) (cs : List Chunk) (chunks : AreChunks cs) (place : ℕ) (s : Setup) (there : setup_at setups place ≡ Some s) (is : s.kind ≡ name.Collector) where
  own_price : price setups place ≡ 1
  own_price = ap price_as there ∙ ap price_of is

  abbrev pub Keeps : ℕ → Kind → Type 0
  Keeps n b = Collects b

  -- what was asked by place 0 is held, and each answer is one hold less
  deliveries_free : (index : Entries) (t : Tally) (hs : List HeldQuestion) → AreOfPlace0 hs → costs (price setups) (map (delivered index t) hs) ≡ 0
  deliveries_free index t [] all = refl
  deliveries_free index t (h ∷ hs) all =
      let first : price setups h.requester ≡ 0 = ap (price setups) all.0 in
      let rest = deliveries_free index t hs all.1 in
      omega (arith, first, rest)

  answer_costs : (o : Origin) (words : List ℕ) → o.mid.requester ≡ 0 → (b : Bool) → answer_cost (price setups) b o (answer.Value words) ≤ 1
  answer_costs o words from_0 true = let to : price setups o.mid.requester ≡ 0 = ap (price setups) from_0 in omega (arith, to)
  answer_costs o words from_0 false = omega arith

  hold_costs : (o : Origin) (b : Bool) → answer_cost (price setups) b o answer.Hold ≤ 1
  hold_costs o true = omega arith
  hold_costs o false = omega arith

  nothing_costs : (o : Origin) (b : Bool) → answer_cost (price setups) b o answer.Nothing ≡ 0
  nothing_costs o true = refl
  nothing_costs o false = refl

  module _ (n : ℕ) where
    abbrev PaysAt : Collector → PlainInput → Type 0
    PaysAt c i = PaysFor setups cs place s there Keeps n (kind.Collector c) i

    -- told content: a collector with more delivers what it can
    delivering : (c after : Collector) (o : Origin) (words : List ℕ) → is_asked o ≡ false → AreOfPlace0 after.held → reacted (kind.Collector c) (Content o words) ≡ as_kind kind.Collector (delivers after)
        → is_input (interface_of name.Collector) (ids_in words) ≡ true → PaysAt c (Content o words)
    delivering c after o words told held e taken =
        let can : HeldQuestion → Bool = λ (h : HeldQuestion). is_answerable after.tally h.question in
        let asked0 : HeldQuestion → Type 0 = λ (h : HeldQuestion). h.requester ≡ 0 in
        let out = deliveries_free after.index after.tally (filter can after.held) (all_filter can asked0 after.held held) in
        let free = told_free setups o done 0 told refl in
        pays_as setups cs place s there Keeps n (kind.Collector c) (Content o words) (as_kind kind.Collector (delivers after)) 0 e taken
        (record { collector = (delivers after).0; is = refl; held = all_filter (λ (h : HeldQuestion). not (can h)) asked0 after.held held })
        (omega (arith, out, free))

    -- a question is answered, or held
    asking : (c : Collector) (o : Origin) (words : List ℕ) (q : Question) → o.mid.requester ≡ 0 → AreOfPlace0 c.held → is_input (interface_of name.Collector) (ids_in words) ≡ true
        → reacted (kind.Collector c) (Content o words) ≡ as_kind kind.Collector (on_question c o q) → PaysAt c (Content o words)
    asking c o words q from_0 held taken e =
        let P : Reacted Collector → Type 0 = λ (r : Reacted Collector). reacted (kind.Collector c) (Content o words) ≡ as_kind kind.Collector r → PaysAt c (Content o words) in
        let same : Collects (kind.Collector c) = record { collector = c; is = refl; held = held } in
        let more : Collector = record c { held = c.held ++ held_as o q ∷ [] } in
        let own = own_price in
        let value = answer_costs o (reply c.index c.tally q) from_0 (is_asked o) in
        let hold = hold_costs o (is_asked o) in
        let nothing = nothing_costs o (is_asked o) in
        let go = pays_as setups cs place s there Keeps n (kind.Collector c) (Content o words) in
        on_if P (is_answerable c.tally q) (c, answers (answer.Value (reply c.index c.tally q))) (if is_asked o then (more, answers answer.Hold) else (c, quiet))
        (λ _ e. go _ 0 e taken same (omega (arith, own, value)))
        (λ _. on_if P (is_asked o) (more, answers answer.Hold) (c, quiet)
        (λ _ e. go _ 0 e taken (record { collector = more; is = refl; held = all_append (λ (h : HeldQuestion). h.requester ≡ 0) c.held (held_as o q ∷ []) held (from_0, tt) }) (omega (arith, own, hold)))
        (λ _ e. go _ 0 e taken same (omega (arith, own, nothing)))) e

    told_pays : (c : Collector) (o : Origin) (words : List ℕ) → AreOfPlace0 c.held → is_asked o ≡ false → Contains (told_to cs name.Collector false) words → PaysAt c (Content o words)
    told_pays c o words held told has =
        elim (Contains-append_cases (map counted cs) (map told_extent cs ++ told_finish (length cs) ∷ []) words has) [
          | inl here ↦ (let from = from-map counted words cs here in
              let d = lowered from.0 in
              subst (λ (ws : List ℕ). PaysAt c (Content o ws)) from.2
              (delivering c (with_postings c (postings_at d)) o (counted from.0) told held (hands_on.indexes c o d (hands_on.lowered_is_chunk from.0 (one_of IsChunk cs from.0 chunks from.1))) refl))
          | inr more ↦ elim (Contains-append_cases (map told_extent cs) (told_finish (length cs) ∷ []) words more) [
            | inl here ↦ (let from = from-map told_extent words cs here in
                subst (λ (ws : List ℕ). PaysAt c (Content o ws)) from.2
                (delivering c (in_tally c (with_extent c.tally (extent_of from.0))) o (told_extent from.0) told held (hands_on.adds c o from.0 (one_of IsChunk cs from.0 chunks from.1)) refl))
            | inr last ↦ elim (contains-cases (told_finish (length cs)) words [] last) [
              | inl here ↦ subst (λ (ws : List ℕ). PaysAt c (Content o ws)) here
                  (delivering c (in_tally c (with_finish c.tally (finish_of (length cs)))) o (told_finish (length cs)) told held (hands_on.finishes c o (length cs)) refl)
              | inr none ↦ absurd (contains-none words none)
            ]
          ]
        ]

    asked_pays : (c : Collector) (o : Origin) (words : List ℕ) → AreOfPlace0 c.held → o.mid.requester ≡ 0 → Contains (asked_of name.Collector) words → PaysAt c (Content o words)
    asked_pays c o words held from_0 has =
        elim (contains-cases index_content words (totals_content ∷ []) has) [
          | inl here ↦ subst (λ (ws : List ℕ). PaysAt c (Content o ws)) here (asking c o index_content question.Index from_0 held refl (hands_on.is_asked_index c o))
          | inr more ↦ elim (contains-cases totals_content words [] more) [
            | inl here ↦ subst (λ (ws : List ℕ). PaysAt c (Content o ws)) here (asking c o totals_content question.Totals from_0 held refl (hands_on.is_asked_totals c o))
            | inr none ↦ absurd (contains-none words none)
          ]
        ]

    pub collector_pays : (b : Kind) (i : PlainInput) → Keeps n b → comes_as cs place (Some s) i ≡ true → PaysFor setups cs place s there Keeps n b i
    collector_pays b i inv e =
        subst (λ (k : Kind). PaysFor setups cs place s there Keeps n k i) (sym inv.is)
        (at_content setups cs place (PaysAt inv.collector) s name.Collector is
        (λ o words told has. told_pays inv.collector o words inv.held told has)
        (λ o words from_0 has. asked_pays inv.collector o words inv.held from_0 has) i e)

-- The collector keeps to what may come: it answers place 0 alone.
use Rattle.std.proofs.Common.{◌≡◌, ℕ, Bool, true, false, List, [], ◌∷◌, ◌++◌, length, map, Option, Some, inl, inr, refl, sym, subst, ap, ◌∙◌}
use Rattle.std.specs.Prelude.{not, Contains, if◌then◌else◌}
use Rattle.std.specs.List.{AllByRecursion, filter}
use Rattle.std.proofs.lemmas.List.Elements.{Contains-append_cases}
use Rattle.caf_index.proofs.ContainsLemmas.{contains-none, contains-cases, from-map}
use Rattle.caf_index.specs.Index.{Entries}
use Rattle.caf_mailbox.proofs.NextLemmas.{all_append, all_filter}
use Rattle.caf_actor.specs.declared.origin.Origin.{Origin}
use Rattle.caf_actor.specs.Answering.{is_asked}
use Rattle.caf_actor.specs.PlainInput.{PlainInput, Content}
use Rattle.caf_actor.specs.PlainReaction as answer
use Rattle.caf_actor.specs.Rules.{is_input}
use Rattle.caf_message.specs.Content.{ids_in}
use Rattle.caf_kinds.specs.FileChunks.{IsChunk, AreChunks}
use Rattle.caf_kinds.specs.Kinds.{kind_rules, reacted, as_kind, interface_of}
use Rattle.caf_kinds.specs.Collector.{is_answerable, reply, delivered, delivers, with_postings, with_extent, with_finish, in_tally, on_question}
use Rattle.caf_kinds.specs.Keeping.{on_if}
use Rattle.caf_kinds.specs.Counter.{postings_at}
use Rattle.caf_kinds.specs.Lines.{extent_of}
use Rattle.caf_kinds.specs.Questions.{held as held_as}
use Rattle.caf_kinds.specs.Reacting.{Reacted, answers, quiet}
use Rattle.caf_kinds.specs.Relay.{lowered}
use Rattle.caf_kinds.specs.Setups.{setup_at}
use Rattle.caf_kinds.specs.Source.{finish_of}
use Rattle.caf_kinds.specs.declared.collector.Collector.{Collector}
use Rattle.caf_kinds.specs.declared.contents.Chunk.{Chunk}
use Rattle.caf_kinds.specs.declared.kind.Kind.{Kind}
use Rattle.caf_kinds.specs.declared.kind.Kind.TheVariants as kind
use Rattle.caf_kinds.specs.declared.questions.HeldQuestion.{HeldQuestion}
use Rattle.caf_kinds.specs.declared.questions.Question.{Question}
use Rattle.caf_kinds.specs.declared.questions.Question.TheVariants as question
use Rattle.caf_kinds.specs.declared.setup.KindName.TheVariants as name
use Rattle.caf_kinds.specs.declared.setup.Setup.{Setup}
use Rattle.caf_kinds.specs.declared.tally.Tally.{Tally}
use Rattle.caf_steady.specs.Classes.{AlwaysKeeps, MaySend}
use Rattle.caf_pipeline.specs.Parts.{index_content, totals_content, told_extent, told_finish}
use Rattle.caf_pipeline.specs.Contents.{counted, told_to, asked_of, comes_as, comes}
use Rattle.caf_pipeline.proofs.ListLemmas.{one_of}
use Rattle.caf_pipeline.proofs.PartLemmas.{hands_on}
use Rattle.caf_pipeline.proofs.ClassLemmas.{answered_comes, at_content, Goes, goes_as, always_keeps}

-- all that is held was asked by place 0
abbrev pub AreOfPlace0 : List HeldQuestion → Type 0
AreOfPlace0 hs = AllByRecursion (λ (h : HeldQuestion). h.requester ≡ 0) hs

pub record Collects (b : Kind) : Type 0 where
  pub collector : Collector
  pub is : b ≡ kind.Collector collector
  pub held : AreOfPlace0 collector.held

module _ (setups : List Setup) (cs : List Chunk) (chunks : AreChunks cs) (place : ℕ) where
  not_asked : (o : Origin) → is_asked o ≡ false → is_asked o ≡ true → ⊥
  not_asked o told asked = let both : false ≡ true = sym told ∙ asked in cc

  deliveries : (index : Entries) (t : Tally) (hs : List HeldQuestion) → AreOfPlace0 hs → AllByRecursion (MaySend (comes setups cs) place) (map (delivered index t) hs)
  deliveries index t [] all = tt
  deliveries index t (h ∷ hs) all = (answered_comes setups cs h.requester (reply index t h.question) all.0, deliveries index t hs all.1)

  -- told content: a collector with more delivers what it can
  delivering : (s after : Collector) (o : Origin) (words : List ℕ) → is_asked o ≡ false → AreOfPlace0 after.held → reacted (kind.Collector s) (Content o words) ≡ as_kind kind.Collector (delivers after)
      → is_input (interface_of name.Collector) (ids_in words) ≡ true → Goes setups cs place Collects (kind.Collector s) (Content o words)
  delivering s after o words told held e taken =
      let can : HeldQuestion → Bool = λ (h : HeldQuestion). is_answerable after.tally h.question in
      let asked0 : HeldQuestion → Type 0 = λ (h : HeldQuestion). h.requester ≡ 0 in
      goes_as setups cs place Collects (kind.Collector s) (Content o words) (as_kind kind.Collector (delivers after)) e taken
      (deliveries after.index after.tally (filter can after.held) (all_filter can asked0 after.held held))
      (λ asked. absurd (not_asked o told asked)) refl
      (record { collector = (delivers after).0; is = refl; held = all_filter (λ (h : HeldQuestion). not (can h)) asked0 after.held held })

  -- a question is answered, or held
  asking : (s : Collector) (o : Origin) (words : List ℕ) (q : Question) → o.mid.requester ≡ 0 → AreOfPlace0 s.held → is_input (interface_of name.Collector) (ids_in words) ≡ true
      → reacted (kind.Collector s) (Content o words) ≡ as_kind kind.Collector (on_question s o q) → Goes setups cs place Collects (kind.Collector s) (Content o words)
  asking s o words q from_0 held taken e =
      let P : Reacted Collector → Type 0 = λ (r : Reacted Collector). reacted (kind.Collector s) (Content o words) ≡ as_kind kind.Collector r → Goes setups cs place Collects (kind.Collector s) (Content o words) in
      let same : Collects (kind.Collector s) = record { collector = s; is = refl; held = held } in
      let more : Collector = record s { held = s.held ++ held_as o q ∷ [] } in
      let go = goes_as setups cs place Collects (kind.Collector s) (Content o words) in
      on_if P (is_answerable s.tally q) (s, answers (answer.Value (reply s.index s.tally q))) (if is_asked o then (more, answers answer.Hold) else (s, quiet))
      (λ _ e. go _ e taken tt (λ asked. answered_comes setups cs o.mid.requester (reply s.index s.tally q) from_0) refl same)
      (λ _. on_if P (is_asked o) (more, answers answer.Hold) (s, quiet)
      (λ _ e. go _ e taken tt tt refl (record { collector = more; is = refl; held = all_append (λ (h : HeldQuestion). h.requester ≡ 0) s.held (held_as o q ∷ []) held (from_0, tt) }))
      (λ _ e. go _ e taken tt tt refl same))
      e

  told_goes : (s : Collector) (o : Origin) (words : List ℕ) → AreOfPlace0 s.held → is_asked o ≡ false → Contains (told_to cs name.Collector false) words → Goes setups cs place Collects (kind.Collector s) (Content o words)
  told_goes s o words held told has =
      elim (Contains-append_cases (map counted cs) (map told_extent cs ++ told_finish (length cs) ∷ []) words has) [
        | inl here ↦ (let from = from-map counted words cs here in
            let c = lowered from.0 in
            subst (λ (ws : List ℕ). Goes setups cs place Collects (kind.Collector s) (Content o ws)) from.2
            (delivering s (with_postings s (postings_at c)) o (counted from.0) told held (hands_on.indexes s o c (hands_on.lowered_is_chunk from.0 (one_of IsChunk cs from.0 chunks from.1))) refl))
        | inr more ↦ elim (Contains-append_cases (map told_extent cs) (told_finish (length cs) ∷ []) words more) [
          | inl here ↦ (let from = from-map told_extent words cs here in
              subst (λ (ws : List ℕ). Goes setups cs place Collects (kind.Collector s) (Content o ws)) from.2
              (delivering s (in_tally s (with_extent s.tally (extent_of from.0))) o (told_extent from.0) told held (hands_on.adds s o from.0 (one_of IsChunk cs from.0 chunks from.1)) refl))
          | inr last ↦ elim (contains-cases (told_finish (length cs)) words [] last) [
            | inl is ↦ subst (λ (ws : List ℕ). Goes setups cs place Collects (kind.Collector s) (Content o ws)) is
                (delivering s (in_tally s (with_finish s.tally (finish_of (length cs)))) o (told_finish (length cs)) told held (hands_on.finishes s o (length cs)) refl)
            | inr none ↦ absurd (contains-none words none)
          ]
        ]
      ]

  asked_goes : (s : Collector) (o : Origin) (words : List ℕ) → AreOfPlace0 s.held → o.mid.requester ≡ 0 → Contains (asked_of name.Collector) words → Goes setups cs place Collects (kind.Collector s) (Content o words)
  asked_goes s o words held from_0 has =
      elim (contains-cases index_content words (totals_content ∷ []) has) [
        | inl is ↦ subst (λ (ws : List ℕ). Goes setups cs place Collects (kind.Collector s) (Content o ws)) is (asking s o index_content question.Index from_0 held refl (hands_on.is_asked_index s o))
        | inr more ↦ elim (contains-cases totals_content words [] more) [
          | inl is ↦ subst (λ (ws : List ℕ). Goes setups cs place Collects (kind.Collector s) (Content o ws)) is (asking s o totals_content question.Totals from_0 held refl (hands_on.is_asked_totals s o))
          | inr none ↦ absurd (contains-none words none)
        ]
      ]

  pub collector_goes : (s : Setup) → s.kind ≡ name.Collector → (b : Kind) (i : PlainInput) → Collects b → comes_as cs place (Some s) i ≡ true → Goes setups cs place Collects b i
  collector_goes s is b i inv e =
      subst (λ (k : Kind). Goes setups cs place Collects k i) (sym inv.is)
      (at_content setups cs place (Goes setups cs place Collects (kind.Collector inv.collector)) s name.Collector is
      (λ o words told has. told_goes inv.collector o words inv.held told has)
      (λ o words from_0 has. asked_goes inv.collector o words inv.held from_0 has) i e)

  pub collector_keeps : (s : Setup) → setup_at setups place ≡ Some s → s.kind ≡ name.Collector → (c : Collector) → c.held ≡ [] → AlwaysKeeps (comes setups cs) kind_rules place (kind.Collector c)
  collector_keeps s at is c none =
      always_keeps setups cs place Collects (λ b inv ids. ap (λ (k : Kind). kind_rules.skips k ids) inv.is)
      (λ b i inv e. collector_goes s is b i inv (sym (ap (λ (o : Option Setup). comes_as cs place o i) at) ∙ e)) (kind.Collector c)
      (record { collector = c; is = refl; held = subst AreOfPlace0 (sym none) tt })

-- Lines, relays and counters keep to what may come: each chunk makes them tell one thing to one peer.
use Rattle.std.proofs.Common.{◌≡◌, ℕ, zero, suc, ◌<◌, true, false, List, [], ◌∷◌, ◌++◌, length, map, Option, Some, refl, sym, subst, ap, ◌∙◌, arith}
use Rattle.std.specs.Prelude.{◌%◌, slice_get, Contains}
use Rattle.std.proofs.lemmas.List.Elements.{Contains-append_left, Contains-append_right}
use Rattle.caf_types.specs.declared.notice.Priority.TheVariants as priority
use Rattle.caf_index.proofs.ContainsLemmas.{contains-none, contains-here, contains-later, contains-map, from-map}
use Rattle.caf_actor.specs.declared.origin.Origin.{Origin}
use Rattle.caf_actor.specs.Answering.{is_asked}
use Rattle.caf_actor.specs.PlainInput.{PlainInput, Content}
use Rattle.caf_actor.specs.PlainOutput.{Tell}
use Rattle.caf_kinds.specs.FileChunks.{IsChunk, AreChunks}
use Rattle.caf_kinds.specs.Kinds.{kind_rules}
use Rattle.caf_kinds.specs.Pipeline.{chunk_content, sends}
use Rattle.caf_kinds.specs.Relay.{lowered, peer_for}
use Rattle.caf_kinds.specs.Setups.{setup_at}
use Rattle.caf_kinds.specs.Who.{Who}
use Rattle.caf_kinds.specs.declared.contents.Chunk.{Chunk}
use Rattle.caf_kinds.specs.declared.counter.Counter.{Counter}
use Rattle.caf_kinds.specs.declared.kind.Kind.{Kind}
use Rattle.caf_kinds.specs.declared.kind.Kind.TheVariants as kind
use Rattle.caf_kinds.specs.declared.lines.Lines.{Lines}
use Rattle.caf_kinds.specs.declared.relay.Relay.{Relay}
use Rattle.caf_kinds.specs.declared.setup.KindName.TheVariants as name
use Rattle.caf_kinds.specs.declared.setup.Setup.{Setup}
use Rattle.caf_steady.specs.Classes.{AlwaysKeeps}
use Rattle.caf_pipeline.specs.Undisturbed.{Pipeline, IsSetUp, IsPipeline}
use Rattle.caf_pipeline.specs.Parts.{told_extent, told_finish}
use Rattle.caf_pipeline.specs.Contents.{relayed, counted, told_to, comes_as, comes}
use Rattle.caf_pipeline.proofs.ListLemmas.{one_of}
use Rattle.caf_pipeline.proofs.PartLemmas.{hands_on}
use Rattle.caf_pipeline.proofs.ClassLemmas.{told_comes, at_content, Goes, goes_as, always_keeps}

module _ (setups : List Setup) (cs : List Chunk) (p : Pipeline) (are : IsPipeline setups p) (chunks : AreChunks cs) where
  -- content that is no request is not answered
  pub not_answered : (o : Origin) → is_asked o ≡ false → is_asked o ≡ true → ⊥
  not_answered o told asked = let both : false ≡ true = sym told ∙ asked in cc

  -- ---- what the collector is told

  pub postings_come : (c : Chunk) → Contains cs c → Contains (told_to cs name.Collector false) (counted c)
  postings_come c has = Contains-append_left (map counted cs) (map told_extent cs ++ told_finish (length cs) ∷ []) (counted c) (contains-map counted c cs has)

  pub extents_come : (c : Chunk) → Contains cs c → Contains (told_to cs name.Collector false) (told_extent c)
  extents_come c has =
      Contains-append_right (map counted cs) (map told_extent cs ++ told_finish (length cs) ∷ []) (told_extent c)
      (Contains-append_left (map told_extent cs) (told_finish (length cs) ∷ []) (told_extent c) (contains-map told_extent c cs has))

  pub finish_comes : Contains (told_to cs name.Collector false) (told_finish (length cs))
  finish_comes =
      Contains-append_right (map counted cs) (map told_extent cs ++ told_finish (length cs) ∷ []) (told_finish (length cs))
      (Contains-append_right (map told_extent cs) (told_finish (length cs) ∷ []) (told_finish (length cs)) (contains-here (told_finish (length cs)) []))

  -- ---- lines

  abbrev pub MeasuresFor : Who → Kind → Type 0
  MeasuresFor who b = b ≡ kind.Lines (record { identity = who })

  pub lines_goes : (place : ℕ) (who : Who) (s : Setup) → who.peers ≡ p.collector ∷ [] → s.kind ≡ name.Lines → (b : Kind) (i : PlainInput) → MeasuresFor who b → comes_as cs place (Some s) i ≡ true
      → Goes setups cs place (MeasuresFor who) b i
  lines_goes place who s peers is b i inv e =
      subst (λ (k : Kind). Goes setups cs place (MeasuresFor who) k i) (sym inv)
      (at_content setups cs place (Goes setups cs place (MeasuresFor who) (kind.Lines me)) s name.Lines is told (λ o words zero has. absurd (contains-none words has)) i e)
    where
      me : Lines
      me = record { identity = who }

      one : (o : Origin) (c : Chunk) → is_asked o ≡ false → Contains cs c → Goes setups cs place (MeasuresFor who) (kind.Lines me) (Content o (chunk_content c))
      one o c not has =
          goes_as setups cs place (MeasuresFor who) (kind.Lines me) (Content o (chunk_content c)) (kind.Lines me, sends (Tell p.collector priority.Normal (told_extent c) ∷ []))
          (hands_on.measures me o c p.collector (one_of IsChunk cs c chunks has) peers) refl
          (told_comes setups cs name.Collector [] p.collector place priority.Normal (told_extent c) are.collector (extents_come c has), tt)
          (λ asked. absurd (not_answered o not asked)) refl refl

      told : (o : Origin) (words : List ℕ) → is_asked o ≡ false → Contains (map chunk_content cs) words → Goes setups cs place (MeasuresFor who) (kind.Lines me) (Content o words)
      told o words not has = let from = from-map chunk_content words cs has in
          subst (λ (ws : List ℕ). Goes setups cs place (MeasuresFor who) (kind.Lines me) (Content o ws)) from.2 (one o from.0 not from.1)

  pub lines_keeps : (who : Who) (place : ℕ) (s : Setup) → setup_at setups place ≡ Some s → s.kind ≡ name.Lines → who.peers ≡ p.collector ∷ []
      → AlwaysKeeps (comes setups cs) kind_rules place (kind.Lines (record { identity = who }))
  lines_keeps who place s at is peers =
      always_keeps setups cs place (MeasuresFor who) (λ b inv ids. ap (λ (k : Kind). kind_rules.skips k ids) inv)
      (λ b i inv e. lines_goes place who s peers is b i inv (sym (ap (λ (o : Option Setup). comes_as cs place o i) at) ∙ e)) (kind.Lines (record { identity = who })) refl

  -- ---- the relay

  abbrev pub RelaysFor : Who → Kind → Type 0
  RelaysFor who b = b ≡ kind.Relay (record { identity = who })

  pub got : (xs : List ℕ) (k : ℕ) → k < length xs → (x : ℕ) × (slice_get xs k ≡ Some x) × Contains xs x
  got [] k low = absurd (omega (arith, low))
  got (x ∷ xs) zero low = (x, refl, contains-here x xs)
  got (x ∷ xs) (suc k) low = let rest = got xs k (omega (arith, low)) in (rest.0, rest.1, contains-later x rest.0 xs rest.2)

  pub relay_goes : (place : ℕ) (who : Who) (s : Setup) → who.peers ≡ p.counters → s.kind ≡ name.Relay → (b : Kind) (i : PlainInput) → RelaysFor who b → comes_as cs place (Some s) i ≡ true
      → Goes setups cs place (RelaysFor who) b i
  relay_goes place who s peers is b i inv e =
      subst (λ (k : Kind). Goes setups cs place (RelaysFor who) k i) (sym inv)
      (at_content setups cs place (Goes setups cs place (RelaysFor who) (kind.Relay me)) s name.Relay is told (λ o words zero has. absurd (contains-none words has)) i e)
    where
      me : Relay
      me = record { identity = who }

      one : (o : Origin) (c : Chunk) → is_asked o ≡ false → Contains cs c → Goes setups cs place (RelaysFor who) (kind.Relay me) (Content o (chunk_content c))
      one o c not has =
          let some = are.some in
          let to = got p.counters (c.number % length p.counters) (omega (arith, some)) in
          goes_as setups cs place (RelaysFor who) (kind.Relay me) (Content o (chunk_content c)) (kind.Relay me, sends (Tell to.0 priority.Normal (relayed c) ∷ []))
          (hands_on.relays me o c to.0 (one_of IsChunk cs c chunks has) (ap (λ (ps : List ℕ). peer_for ps c.number) peers ∙ to.1)) refl
          (told_comes setups cs name.Counter (p.collector ∷ []) to.0 place priority.Normal (relayed c) (one_of (IsSetUp setups name.Counter (p.collector ∷ [])) p.counters to.0 are.counters to.2) (contains-map relayed c cs has), tt)
          (λ asked. absurd (not_answered o not asked)) refl refl

      told : (o : Origin) (words : List ℕ) → is_asked o ≡ false → Contains (map chunk_content cs) words → Goes setups cs place (RelaysFor who) (kind.Relay me) (Content o words)
      told o words not has = let from = from-map chunk_content words cs has in
          subst (λ (ws : List ℕ). Goes setups cs place (RelaysFor who) (kind.Relay me) (Content o ws)) from.2 (one o from.0 not from.1)

  pub relay_keeps : (who : Who) (place : ℕ) (s : Setup) → setup_at setups place ≡ Some s → s.kind ≡ name.Relay → who.peers ≡ p.counters
      → AlwaysKeeps (comes setups cs) kind_rules place (kind.Relay (record { identity = who }))
  relay_keeps who place s at is peers =
      always_keeps setups cs place (RelaysFor who) (λ b inv ids. ap (λ (k : Kind). kind_rules.skips k ids) inv)
      (λ b i inv e. relay_goes place who s peers is b i inv (sym (ap (λ (o : Option Setup). comes_as cs place o i) at) ∙ e)) (kind.Relay (record { identity = who })) refl

  -- ---- counters

  -- a counter, however much it has counted
  pub record CountsFor (who : Who) (b : Kind) : Type 0 where
    pub count : ℕ
    pub is : b ≡ kind.Counter (record { identity = who; count = count })

  pub counter_goes : (place : ℕ) (who : Who) (s : Setup) → who.peers ≡ p.collector ∷ [] → s.kind ≡ name.Counter → (b : Kind) (i : PlainInput) → CountsFor who b → comes_as cs place (Some s) i ≡ true
      → Goes setups cs place (CountsFor who) b i
  counter_goes place who s peers is b i inv e =
      subst (λ (k : Kind). Goes setups cs place (CountsFor who) k i) (sym inv.is)
      (at_content setups cs place (Goes setups cs place (CountsFor who) (kind.Counter me)) s name.Counter is told (λ o words zero has. absurd (contains-none words has)) i e)
    where
      me : Counter
      me = record { identity = who; count = inv.count }

      one : (o : Origin) (c : Chunk) → is_asked o ≡ false → Contains cs c → Goes setups cs place (CountsFor who) (kind.Counter me) (Content o (relayed c))
      one o c not has =
          goes_as setups cs place (CountsFor who) (kind.Counter me) (Content o (relayed c)) (kind.Counter _, sends (Tell p.collector priority.Normal (counted c) ∷ []))
          (hands_on.counts me o (lowered c) p.collector (hands_on.lowered_is_chunk c (one_of IsChunk cs c chunks has)) peers) refl
          (told_comes setups cs name.Collector [] p.collector place priority.Normal (counted c) are.collector (postings_come c has), tt)
          (λ asked. absurd (not_answered o not asked)) refl (record { count = _; is = refl })

      told : (o : Origin) (words : List ℕ) → is_asked o ≡ false → Contains (map relayed cs) words → Goes setups cs place (CountsFor who) (kind.Counter me) (Content o words)
      told o words not has = let from = from-map relayed words cs has in
          subst (λ (ws : List ℕ). Goes setups cs place (CountsFor who) (kind.Counter me) (Content o ws)) from.2 (one o from.0 not from.1)

  pub counter_keeps : (who : Who) (place : ℕ) (s : Setup) → setup_at setups place ≡ Some s → s.kind ≡ name.Counter → who.peers ≡ p.collector ∷ []
      → AlwaysKeeps (comes setups cs) kind_rules place (kind.Counter (record { identity = who; count = 0 }))
  counter_keeps who place s at is peers =
      always_keeps setups cs place (CountsFor who) (λ b inv ids. ap (λ (k : Kind). kind_rules.skips k ids) inv.is)
      (λ b i inv e. counter_goes place who s peers is b i inv (sym (ap (λ (o : Option Setup). comes_as cs place o i) at) ∙ e)) (kind.Counter (record { identity = who; count = 0 })) (record { count = 0; is = refl })

-- Lines, relays and counters pay for what they tell: each chunk brings what they tell because of it.
use Rattle.std.proofs.Common.{◌≡◌, ℕ, true, false, List, [], ◌∷◌, map, Some, sym, subst, ap, ◌∙◌, arith, refl}
use Rattle.std.specs.Prelude.{◌%◌, Contains, length}
use Rattle.caf_types.specs.declared.notice.Priority.TheVariants as priority
use Rattle.caf_index.proofs.ContainsLemmas.{contains-none, from-map}
use Rattle.caf_actor.specs.Answering.{is_asked}
use Rattle.caf_actor.specs.PlainInput.{PlainInput, Content}
use Rattle.caf_actor.specs.PlainOutput.{Tell}
use Rattle.caf_actor.specs.declared.origin.Origin.{Origin}
use Rattle.caf_kinds.specs.Counter as counter
use Rattle.caf_kinds.specs.FileChunks.{IsChunk, AreChunks}
use Rattle.caf_kinds.specs.Pipeline.{chunk_content, sends}
use Rattle.caf_kinds.specs.Reacting.{done}
use Rattle.caf_kinds.specs.Relay.{lowered, peer_for}
use Rattle.caf_kinds.specs.Setups.{setup_at}
use Rattle.caf_kinds.specs.Who.{Who}
use Rattle.caf_kinds.specs.declared.contents.Chunk.{Chunk}
use Rattle.caf_kinds.specs.declared.counter.Counter.{Counter}
use Rattle.caf_kinds.specs.declared.kind.Kind.{Kind}
use Rattle.caf_kinds.specs.declared.kind.Kind.TheVariants as kind
use Rattle.caf_kinds.specs.declared.lines.Lines.{Lines}
use Rattle.caf_kinds.specs.declared.relay.Relay.{Relay}
use Rattle.caf_kinds.specs.declared.setup.KindName.{KindName}
use Rattle.caf_kinds.specs.declared.setup.KindName.TheVariants as name
use Rattle.caf_kinds.specs.declared.setup.Setup.{Setup}
use Rattle.caf_pipeline.specs.Undisturbed.{Pipeline, IsSetUp, IsPipeline}
use Rattle.caf_pipeline.specs.Parts.{told_extent}
use Rattle.caf_pipeline.specs.Contents.{relayed, counted, comes_as}
use Rattle.caf_pipeline.proofs.ListLemmas.{one_of}
use Rattle.caf_pipeline.proofs.PartLemmas.{hands_on}
use Rattle.caf_pipeline.proofs.ClassLemmas.{at_content}
use Rattle.caf_pipeline.proofs.TellerLemmas.{MeasuresFor, RelaysFor, CountsFor, got}
use Rattle.caf_pipeline.proofs.PriceLemmas.{price, price_as, price_of, price_at, told_free, PaysFor, pays_as}

module _ (setups : List Setup) (cs : List Chunk) (p : Pipeline) (are : IsPipeline setups p) (chunks : AreChunks cs) (place : ℕ) (who : Who) (s : Setup) (there : setup_at setups place ≡ Some s) where
  -- the place has the price of its kind
  own_price : (kind : KindName) → s.kind ≡ kind → price setups place ≡ price_of kind
  own_price kind e = ap price_as there ∙ ap price_of e

  to_collector : price setups p.collector ≡ 1
  to_collector = price_at setups name.Collector [] p.collector are.collector

  -- ---- lines

  abbrev pub Measures : ℕ → Kind → Type 0
  Measures n b = MeasuresFor setups cs p are chunks who b

  pub lines_pays : who.peers ≡ p.collector ∷ [] → s.kind ≡ name.Lines → (n : ℕ) (b : Kind) (i : PlainInput) → Measures n b → comes_as cs place (Some s) i ≡ true → PaysFor setups cs place s there Measures n b i
  lines_pays peers is n b i inv e =
      subst (λ (k : Kind). PaysFor setups cs place s there Measures n k i) (sym inv)
      (at_content setups cs place (PaysFor setups cs place s there Measures n (kind.Lines me)) s name.Lines is told (λ o words zero has. absurd (contains-none words has)) i e)
    where
      me : Lines
      me = record { identity = who }

      one : (o : Origin) (c : Chunk) → is_asked o ≡ false → Contains cs c → PaysFor setups cs place s there Measures n (kind.Lines me) (Content o (chunk_content c))
      one o c not has =
          let to = to_collector in
          let own = own_price name.Lines is in
          let free = told_free setups o done 0 not refl in
          pays_as setups cs place s there Measures n (kind.Lines me) (Content o (chunk_content c)) (kind.Lines me, sends (Tell p.collector priority.Normal (told_extent c) ∷ [])) 0
          (hands_on.measures me o c p.collector (one_of IsChunk cs c chunks has) peers) refl refl (omega (arith, to, own, free))

      told : (o : Origin) (words : List ℕ) → is_asked o ≡ false → Contains (map chunk_content cs) words → PaysFor setups cs place s there Measures n (kind.Lines me) (Content o words)
      told o words not has = let from = from-map chunk_content words cs has in
          subst (λ (ws : List ℕ). PaysFor setups cs place s there Measures n (kind.Lines me) (Content o ws)) from.2 (one o from.0 not from.1)

  -- ---- the relay

  abbrev pub Relays : ℕ → Kind → Type 0
  Relays n b = RelaysFor setups cs p are chunks who b

  pub relay_pays : who.peers ≡ p.counters → s.kind ≡ name.Relay → (n : ℕ) (b : Kind) (i : PlainInput) → Relays n b → comes_as cs place (Some s) i ≡ true → PaysFor setups cs place s there Relays n b i
  relay_pays peers is n b i inv e =
      subst (λ (k : Kind). PaysFor setups cs place s there Relays n k i) (sym inv)
      (at_content setups cs place (PaysFor setups cs place s there Relays n (kind.Relay me)) s name.Relay is told (λ o words zero has. absurd (contains-none words has)) i e)
    where
      me : Relay
      me = record { identity = who }

      one : (o : Origin) (c : Chunk) → is_asked o ≡ false → Contains cs c → PaysFor setups cs place s there Relays n (kind.Relay me) (Content o (chunk_content c))
      one o c not has =
          let some = are.some in
          let counter = got setups cs p are chunks p.counters (c.number % length p.counters) (omega (arith, some)) in
          let to = price_at setups name.Counter (p.collector ∷ []) counter.0 (one_of (IsSetUp setups name.Counter (p.collector ∷ [])) p.counters counter.0 are.counters counter.2) in
          let own = own_price name.Relay is in
          let free = told_free setups o done 0 not refl in
          pays_as setups cs place s there Relays n (kind.Relay me) (Content o (chunk_content c)) (kind.Relay me, sends (Tell counter.0 priority.Normal (relayed c) ∷ [])) 0
          (hands_on.relays me o c counter.0 (one_of IsChunk cs c chunks has) (ap (λ (ps : List ℕ). peer_for ps c.number) peers ∙ counter.1)) refl refl (omega (arith, to, own, free))

      told : (o : Origin) (words : List ℕ) → is_asked o ≡ false → Contains (map chunk_content cs) words → PaysFor setups cs place s there Relays n (kind.Relay me) (Content o words)
      told o words not has = let from = from-map chunk_content words cs has in
          subst (λ (ws : List ℕ). PaysFor setups cs place s there Relays n (kind.Relay me) (Content o ws)) from.2 (one o from.0 not from.1)

  -- ---- counters

  abbrev pub Counts : ℕ → Kind → Type 0
  Counts n b = CountsFor setups cs p are chunks who b

  pub counter_pays : who.peers ≡ p.collector ∷ [] → s.kind ≡ name.Counter → (n : ℕ) (b : Kind) (i : PlainInput) → Counts n b → comes_as cs place (Some s) i ≡ true → PaysFor setups cs place s there Counts n b i
  counter_pays peers is n b i inv e =
      subst (λ (k : Kind). PaysFor setups cs place s there Counts n k i) (sym inv.is)
      (at_content setups cs place (PaysFor setups cs place s there Counts n (kind.Counter me)) s name.Counter is told (λ o words zero has. absurd (contains-none words has)) i e)
    where
      me : Counter
      me = record { identity = who; count = inv.count }

      one : (o : Origin) (c : Chunk) → is_asked o ≡ false → Contains cs c → PaysFor setups cs place s there Counts n (kind.Counter me) (Content o (relayed c))
      one o c not has =
          let to = to_collector in
          let own = own_price name.Counter is in
          let free = told_free setups o done 0 not refl in
          pays_as setups cs place s there Counts n (kind.Counter me) (Content o (relayed c)) (kind.Counter (counter.counted me), sends (Tell p.collector priority.Normal (counted c) ∷ [])) 0
          (hands_on.counts me o (lowered c) p.collector (hands_on.lowered_is_chunk c (one_of IsChunk cs c chunks has)) peers) refl (record { count = (counter.counted me).count; is = refl }) (omega (arith, to, own, free))

      told : (o : Origin) (words : List ℕ) → is_asked o ≡ false → Contains (map relayed cs) words → PaysFor setups cs place s there Counts n (kind.Counter me) (Content o words)
      told o words not has = let from = from-map relayed words cs has in
          subst (λ (ws : List ℕ). PaysFor setups cs place s there Counts n (kind.Counter me) (Content o ws)) from.2 (one o from.0 not from.1)

-- The source pays for what it tells: for each chunk that is left it has 8, of which it gives 3 to lines and 4 to the
-- relay, and keeps one for telling itself to go on.
use Rattle.std.proofs.Common.{◌≡◌, ℕ, ◌+◌, ◌-◌, ◌*◌, ◌≤◌, ◌==◌, min, Bool, true, false, List, [], ◌∷◌, ◌++◌, length, map, take, drop, Some, inl, inr, refl, sym, subst, ap, ◌∙◌, arith}
use Rattle.std.specs.Prelude.{slice_get, Contains}
use Rattle.std.proofs.lemmas.List.{length-take, length-drop}
use Rattle.caf_index.proofs.ContainsLemmas.{contains-none, contains-cases}
use Rattle.caf_actor.specs.Answering.{is_asked}
use Rattle.caf_actor.specs.PlainInput.{PlainInput, Content}
use Rattle.caf_actor.specs.declared.origin.Origin.{Origin}
use Rattle.caf_kinds.specs.Kinds.{as_kind}
use Rattle.caf_kinds.specs.Pipeline.{finish_content, to_peer}
use Rattle.caf_kinds.specs.Reacting.{answers, done}
use Rattle.caf_kinds.specs.Setups.{setup_at}
use Rattle.caf_kinds.specs.Source.{Sourced, more_content, tells_all, tells_itself, takers, follows, finish_of, next_chunks, chunks_left, stage_with, goes_on, on_start, on_more}
use Rattle.caf_kinds.specs.Who.{Who}
use Rattle.caf_kinds.specs.declared.contents.Chunk.{Chunk}
use Rattle.caf_kinds.specs.declared.kind.Kind.{Kind}
use Rattle.caf_kinds.specs.declared.kind.Kind.TheVariants as kind
use Rattle.caf_kinds.specs.declared.setup.KindName.TheVariants as name
use Rattle.caf_kinds.specs.declared.setup.Setup.{Setup}
use Rattle.caf_kinds.specs.declared.source.Stage.{Stage}
use Rattle.caf_kinds.specs.declared.source.Stage.TheVariants as stage
use Rattle.caf_pipeline.specs.Undisturbed.{Pipeline, IsPipeline}
use Rattle.caf_pipeline.specs.Parts.{start_content}
use Rattle.caf_pipeline.specs.Contents.{told_to, comes_as}
use Rattle.caf_pipeline.proofs.ClassLemmas.{at_content}
use Rattle.caf_pipeline.proofs.CostLemmas.{many, costs, costs_append}
use Rattle.caf_pipeline.proofs.PriceLemmas.{price, price_at, told_free, PaysFor, pays_as}

-- what it has at that stage, with so many chunks left
abbrev pub fund : Stage → ℕ → ℕ
fund stage.Waiting left = 8 * left + 3
fund stage.Telling left = 8 * left + 2
fund stage.Done left = 0

module _ (setups : List Setup) (cs : List Chunk) (p : Pipeline) (are : IsPipeline setups p) (place : ℕ) (who : Who) (at : who.place ≡ p.source) (peers : who.peers ≡ p.lines ∷ p.relay ∷ p.collector ∷ [])
    (s : Setup) (there : setup_at setups place ≡ Some s) (kind_is : s.kind ≡ name.Source) where
  pub record Funds (n : ℕ) (b : Kind) : Type 0 where
    pub source : Sourced
    pub is : b ≡ kind.Source source
    pub identity : source.identity ≡ who
    pub chunks : source.chunks ≡ cs
    pub has : n ≡ fund source.stage (length cs - source.told)

  abbrev PaysAt : ℕ → Sourced → PlainInput → Type 0
  PaysAt n src i = PaysFor setups cs place s there Funds n (kind.Source src) i

  -- ---- what it tells

  mine : (src : Sourced) → src.identity ≡ who → src.identity.peers ≡ p.lines ∷ p.relay ∷ p.collector ∷ []
  mine src same = ap (λ (w : Who). w.peers) same ∙ peers

  -- to lines and to the relay
  takers_cost : (src : Sourced) → src.identity ≡ who → many (price setups) (takers src) ≡ 7
  takers_cost src same =
      let all = ap (λ (ps : List ℕ). many (price setups) (take (length ps - 1) ps)) (mine src same) in
      let lines = price_at setups name.Lines (p.collector ∷ []) p.lines are.lines in
      let relay = price_at setups name.Relay p.counters p.relay are.relay in
      omega (arith, all, lines, relay)

  chunks_cost : (src : Sourced) → src.identity ≡ who → (ds : List Chunk) → costs (price setups) (map (tells_all src) ds) ≡ 7 * length ds
  chunks_cost src same [] = refl
  chunks_cost src same (d ∷ ds) = let first = takers_cost src same in let rest = chunks_cost src same ds in omega (arith, first, rest)

  itself_costs : (src : Sourced) → src.identity ≡ who → costs (price setups) (tells_itself src ∷ []) ≡ 1
  itself_costs src same =
      let to : price setups src.identity.place ≡ price setups p.source = ap (price setups) (ap (λ (w : Who). w.place) same ∙ at) in
      let own = price_at setups name.Source (p.lines ∷ p.relay ∷ p.collector ∷ []) p.source are.source in
      omega (arith, to, own)

  finish_costs : (src : Sourced) → src.identity ≡ who → costs (price setups) (follows src []) ≡ 2
  finish_costs src same =
      let all = ap (λ (ps : List ℕ). costs (price setups) (to_peer (slice_get ps (length ps - 1)) (finish_content (finish_of (length src.chunks))))) (mine src same) in
      let collector = price_at setups name.Collector [] p.collector are.collector in
      omega (arith, all, collector)

  -- ---- what comes

  start_pays : (n : ℕ) (src : Sourced) (o : Origin) (now : Stage) → src.stage ≡ now → src.identity ≡ who → src.chunks ≡ cs → n ≡ fund now (length cs - src.told) → is_asked o ≡ false → PaysAt n src (Content o start_content)
  start_pays n src o stage.Waiting e same chunks has told =
      let one = itself_costs src same in
      let free = told_free setups o done 0 told refl in
      pays_as setups cs place s there Funds n (kind.Source src) (Content o start_content) (as_kind kind.Source (on_start stage.Waiting src)) (fund stage.Telling (length cs - src.told))
      (ap (λ (t : Stage). as_kind kind.Source (on_start t src)) e) refl
      (record { source = record src { stage = stage.Telling }; is = refl; identity = same; chunks = chunks; has = refl }) (omega (arith, one, free, has))
  start_pays n src o stage.Telling e same chunks has told =
      let free = told_free setups o done 0 told refl in
      pays_as setups cs place s there Funds n (kind.Source src) (Content o start_content) (as_kind kind.Source (src, answers done)) n (ap (λ (t : Stage). as_kind kind.Source (on_start t src)) e) refl
      (record { source = src; is = refl; identity = same; chunks = chunks; has = has ∙ ap (λ (t : Stage). fund t (length cs - src.told)) (sym e) }) (omega (arith, free))
  start_pays n src o stage.Done e same chunks has told =
      let free = told_free setups o done 0 told refl in
      pays_as setups cs place s there Funds n (kind.Source src) (Content o start_content) (as_kind kind.Source (src, answers done)) n (ap (λ (t : Stage). as_kind kind.Source (on_start t src)) e) refl
      (record { source = src; is = refl; identity = same; chunks = chunks; has = has ∙ ap (λ (t : Stage). fund t (length cs - src.told)) (sym e) }) (omega (arith, free))

  -- the chunks of this time, and what follows them, are paid by what it had for them
  telling_within : (src : Sourced) → src.identity ≡ who → src.chunks ≡ cs → (left : List Chunk) → chunks_left src ≡ left
      → costs (price setups) (map (tells_all src) (next_chunks src) ++ follows src left) + fund (stage_with left) (length cs - (src.told + length (next_chunks src))) ≤ 8 * (length cs - src.told) + 2
  telling_within src same chunks left e = go left (ap length e)
    where
      long : length (next_chunks src) ≡ min 32 (length cs - src.told)
      long =
          let first = length-take 32 (drop src.told src.chunks) in
          let second = length-drop src.told src.chunks in
          let all = ap length chunks in
          first ∙ ap (min 32) (second ∙ ap (λ (n : ℕ). n - src.told) all)

      short : length (chunks_left src) ≡ length cs - src.told - 32
      short =
          let first = length-drop 32 (drop src.told src.chunks) in
          let second = length-drop src.told src.chunks in
          let all = ap length chunks in
          omega (arith, first, second, all)

      go : (left : List Chunk) → length (chunks_left src) ≡ length left
          → costs (price setups) (map (tells_all src) (next_chunks src) ++ follows src left) + fund (stage_with left) (length cs - (src.told + length (next_chunks src))) ≤ 8 * (length cs - src.told) + 2
      go [] none =
          let parts = costs_append (price setups) (map (tells_all src) (next_chunks src)) (follows src []) in
          let first = chunks_cost src same (next_chunks src) in
          let last = finish_costs src same in
          let few = long in
          omega (arith, parts, first, last, few)
      go (c ∷ ds) some =
          let parts = costs_append (price setups) (map (tells_all src) (next_chunks src)) (tells_itself src ∷ []) in
          let first = chunks_cost src same (next_chunks src) in
          let last = itself_costs src same in
          let few = long in
          let more = short in
          omega (arith, parts, first, last, few, more, some)

  more_pays : (n : ℕ) (src : Sourced) (o : Origin) (now : Stage) → src.stage ≡ now → src.identity ≡ who → src.chunks ≡ cs → n ≡ fund now (length cs - src.told) → is_asked o ≡ false → PaysAt n src (Content o more_content)
  more_pays n src o stage.Telling e same chunks has told =
      let most = telling_within src same chunks (chunks_left src) refl in
      let free = told_free setups o done 0 told refl in
      pays_as setups cs place s there Funds n (kind.Source src) (Content o more_content) (as_kind kind.Source (goes_on src)) (fund (stage_with (chunks_left src)) (length cs - (src.told + length (next_chunks src))))
      (ap (λ (t : Stage). as_kind kind.Source (on_more t src)) e) refl
      (record { source = (goes_on src).0; is = refl; identity = same; chunks = chunks; has = refl }) (omega (arith, most, free, has))
  more_pays n src o stage.Waiting e same chunks has told =
      let free = told_free setups o done 0 told refl in
      pays_as setups cs place s there Funds n (kind.Source src) (Content o more_content) (as_kind kind.Source (src, answers done)) n (ap (λ (t : Stage). as_kind kind.Source (on_more t src)) e) refl
      (record { source = src; is = refl; identity = same; chunks = chunks; has = has ∙ ap (λ (t : Stage). fund t (length cs - src.told)) (sym e) }) (omega (arith, free))
  more_pays n src o stage.Done e same chunks has told =
      let free = told_free setups o done 0 told refl in
      pays_as setups cs place s there Funds n (kind.Source src) (Content o more_content) (as_kind kind.Source (src, answers done)) n (ap (λ (t : Stage). as_kind kind.Source (on_more t src)) e) refl
      (record { source = src; is = refl; identity = same; chunks = chunks; has = has ∙ ap (λ (t : Stage). fund t (length cs - src.told)) (sym e) }) (omega (arith, free))

  told_pays : (n : ℕ) (src : Sourced) (o : Origin) (words : List ℕ) → src.identity ≡ who → src.chunks ≡ cs → n ≡ fund src.stage (length cs - src.told) → is_asked o ≡ false → (own : Bool) → Contains (told_to cs name.Source own) words → PaysAt n src (Content o words)
  told_pays n src o words same chunks has told false may =
      elim (contains-cases start_content words [] may) [
        | inl here ↦ subst (λ (ws : List ℕ). PaysAt n src (Content o ws)) here (start_pays n src o src.stage refl same chunks has told)
        | inr none ↦ absurd (contains-none words none)
      ]
  told_pays n src o words same chunks has told true may =
      elim (contains-cases more_content words [] may) [
        | inl here ↦ subst (λ (ws : List ℕ). PaysAt n src (Content o ws)) here (more_pays n src o src.stage refl same chunks has told)
        | inr none ↦ absurd (contains-none words none)
      ]

  pub source_pays : (n : ℕ) (b : Kind) (i : PlainInput) → Funds n b → comes_as cs place (Some s) i ≡ true → PaysFor setups cs place s there Funds n b i
  source_pays n b i inv e =
      subst (λ (k : Kind). PaysFor setups cs place s there Funds n k i) (sym inv.is)
      (at_content setups cs place (PaysAt n inv.source) s name.Source kind_is
      (λ o words told has. told_pays n inv.source o words inv.identity inv.chunks inv.has told (o.sender == place) has) (λ o words from_0 has. absurd (contains-none words has)) i e)

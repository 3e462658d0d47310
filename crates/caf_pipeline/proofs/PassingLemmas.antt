-- Weights of what is told in a pipeline: lines, the relay and the counters pass on as much as they take.
use Rattle.std.proofs.Common.{◌≡◌, ℕ, ◌+◌, ◌==◌, true, false, List, [], ◌∷◌, ◌++◌, length, map, Option, Some, None, refl, sym, subst, ap, ◌∙◌, arith}
use Rattle.std.specs.Prelude.{◌%◌, Contains, if◌then◌else◌}
use Rattle.std.specs.List.{AllByRecursion}
use Rattle.caf_types.specs.declared.notice.Priority.TheVariants as priority
use Rattle.caf_index.proofs.ContainsLemmas.{contains-none, from-map}
use Rattle.caf_mailbox.proofs.NextLemmas.{all_append}
use Rattle.caf_message.specs.Content.{ids_in}
use Rattle.caf_message.specs.declared.envelope.Plain.{Plain}
use Rattle.caf_message.specs.declared.envelope.Plain.TheVariants as «plain»
use Rattle.caf_message.specs.declared.envelope.Taken.{Taken}
use Rattle.caf_actor.specs.Answering.{is_asked, origin_of}
use Rattle.caf_actor.specs.PlainInput.{PlainInput, Content}
use Rattle.caf_actor.specs.PlainOutput.{PlainOutput, Tell}
use Rattle.caf_actor.specs.Rules.{is_input}
use Rattle.caf_actor.specs.declared.origin.Origin.{Origin}
use Rattle.caf_kinds.specs.Asking.{has, asked}
use Rattle.caf_kinds.specs.FileChunks.{IsChunk, AreChunks}
use Rattle.caf_kinds.specs.Kinds.{kind_rules, interface, reacted}
use Rattle.caf_kinds.specs.Lines.{extent_of}
use Rattle.caf_kinds.specs.Pipeline.{of_chunk, of_postings, of_extent, of_finish, chunk_content, chunk_in, extent_in}
use Rattle.caf_kinds.specs.Reacting.{Reacted, done}
use Rattle.caf_kinds.specs.Relay.{lowered, peer_for}
use Rattle.caf_kinds.specs.Setups.{setup_at}
use Rattle.caf_kinds.specs.Who.{Who}
use Rattle.caf_kinds.specs.declared.contents.Chunk.{Chunk}
use Rattle.caf_kinds.specs.declared.contents.Extent.{Extent}
use Rattle.caf_kinds.specs.declared.kind.Kind.{Kind}
use Rattle.caf_kinds.specs.declared.kind.Kind.TheVariants as kind
use Rattle.caf_kinds.specs.declared.setup.KindName.{KindName}
use Rattle.caf_kinds.specs.declared.setup.KindName.TheVariants as name
use Rattle.caf_kinds.specs.declared.setup.Setup.{Setup}
use Rattle.caf_steady.specs.Outline.{Outlined, Bare}
use Rattle.caf_steady.specs.Reading.{content, read, read_one}
use Rattle.caf_steady.specs.Steady.{Brings}
use Rattle.caf_pipeline.specs.Undisturbed.{Pipeline, IsSetUp, IsPipeline}
use Rattle.caf_pipeline.specs.Parts.{told_extent, told_finish}
use Rattle.caf_pipeline.specs.Contents.{relayed, counted, told_to, asked_of, comes_as, comes}
use Rattle.caf_pipeline.proofs.ClassLemmas.{at_content, Goes}
use Rattle.caf_pipeline.proofs.FlowLemmas.{as_content, one_reads, one_stays}
use Rattle.caf_pipeline.proofs.ListLemmas.{one_of}
use Rattle.caf_pipeline.proofs.PartLemmas.{hands_on, chunk_back, extent_back}
use Rattle.caf_pipeline.proofs.TellerLemmas.{MeasuresFor, RelaysFor, CountsFor, got}
use Rattle.caf_pipeline.proofs.TellingLemmas.{IsTelling, IsToldBare, told_bares, all_told_bares, content_tells}
use Rattle.caf_pipeline.proofs.WeightLemmas.{taken_weight}

-- ---- weights

abbrev pub of_chunk_in : (Chunk → ℕ) → Option Chunk → ℕ
of_chunk_in g None = 0
of_chunk_in g (Some c) = g c

abbrev pub of_extent_in : (Extent → ℕ) → Option Extent → ℕ
of_extent_in h None = 0
of_extent_in h (Some x) = h x

abbrev pub chunk_weight : (Chunk → ℕ) → List ℕ → ℕ
chunk_weight g words = if has of_chunk words then of_chunk_in g (chunk_in (asked of_chunk words)) else 0

-- postings weigh `a`, a finish `f`, and extents what `h` says
module _ (a f : ℕ) (h : Extent → ℕ) where
  abbrev pub collector_weight : List ℕ → ℕ
  collector_weight words =
      if has of_postings words then a
      else if has of_extent words then of_extent_in h (extent_in (asked of_extent words))
      else if has of_finish words then f
      else 0

  -- a chunk weighs what will come of it at the collector
  abbrev pub kind_weight : KindName → List ℕ → ℕ
  kind_weight name.Collector words = collector_weight words
  kind_weight name.Counter words = chunk_weight (λ c. a) words
  kind_weight name.Relay words = chunk_weight (λ c. a) words
  kind_weight name.Lines words = chunk_weight (λ c. h (extent_of c)) words
  kind_weight _ words = 0

  abbrev pub weight_as : Option Setup → Plain → ℕ
  weight_as (Some s) («plain».Content words) = kind_weight s.kind words
  weight_as _ body = 0

  abbrev pub weight_at : List Setup → ℕ → Plain → ℕ
  weight_at setups place body = weight_as (setup_at setups place) body

  pub weighs_as : (setups : List Setup) (place : ℕ) (s : Setup) (k : KindName) (words : List ℕ) → setup_at setups place ≡ Some s → s.kind ≡ k → weight_at setups place («plain».Content words) ≡ kind_weight k words
  weighs_as setups place s k words at is = ap (λ (o : Option Setup). weight_as o («plain».Content words)) at ∙ ap (λ (n : KindName). kind_weight n words) is

pub chunk_weighs : (g : Chunk → ℕ) (c : Chunk) → IsChunk c → chunk_weight g (chunk_content c) ≡ g c
chunk_weighs g c is = ap (of_chunk_in g) (chunk_back c is)

abbrev pub bare_weight : (ℕ → Plain → ℕ) → List Bare → ℕ
bare_weight w [] = 0
bare_weight w (b ∷ bs) = w b.to b.body + bare_weight w bs

pub bare_append : (w : ℕ → Plain → ℕ) (xs ys : List Bare) → bare_weight w (xs ++ ys) ≡ bare_weight w xs + bare_weight w ys
bare_append w [] ys = omega arith
bare_append w (b ∷ xs) ys = let rest = bare_append w xs ys in omega (arith, rest)

-- ---- what content makes a part tell

-- exactly these, which weigh as much as the content
pub record TellsOn (w : ℕ → Plain → ℕ) (place : ℕ) (o : Outlined Kind) (origin : Origin) (words : List ℕ) : Type 0 where
  pub outputs : List PlainOutput
  pub telling : AllByRecursion IsTelling outputs
  pub sent : (content kind_rules o origin words).sent ≡ o.sent ++ told_bares o.outline.place outputs
  pub weighs : bare_weight w (told_bares o.outline.place outputs) ≡ w place («plain».Content words)

pub tells_as : (w : ℕ → Plain → ℕ) (place : ℕ) (o : Outlined Kind) (origin : Origin) (words : List ℕ) (b : Kind) (r : Reacted Kind) → o.outline.behavior ≡ b → reacted b (Content origin words) ≡ r
    → is_input (interface b) (ids_in words) ≡ true → is_asked origin ≡ false → r.1.answer ≡ done → AllByRecursion IsTelling r.1.outputs
    → bare_weight w (told_bares o.outline.place r.1.outputs) ≡ w place («plain».Content words) → TellsOn w place o origin words
tells_as w place o origin words b r is e taken told answered telling weighs =
    let all : reacted o.outline.behavior (Content origin words) ≡ r = ap (λ (x : Kind). reacted x (Content origin words)) is ∙ e in
    record {
      outputs = r.1.outputs;
      telling = telling;
      sent =
          content_tells kind_rules o origin words (ap (λ (x : Kind). is_input (interface x) (ids_in words)) is ∙ taken) told (ap (λ (x : Reacted Kind). x.1.answer) all ∙ answered)
          (subst (λ (x : Reacted Kind). AllByRecursion IsTelling x.1.outputs) (sym all) telling)
          ∙ ap (λ (x : Reacted Kind). o.sent ++ told_bares o.outline.place x.1.outputs) all;
      weighs = weighs;
    }

-- ---- reading

module _ (setups : List Setup) (cs : List Chunk) (place : ℕ) (s : Setup) (there : setup_at setups place ≡ Some s) (Inv : Kind → Type 0)
    (goes : (b : Kind) (i : PlainInput) → Inv b → comes setups cs place i ≡ true → Goes setups cs place Inv b i) (w : ℕ → Plain → ℕ)
    (tells : (o : Outlined Kind) (origin : Origin) (words : List ℕ) → Inv o.outline.behavior → is_asked origin ≡ false → Contains (told_to cs s.kind (origin.sender == place)) words → TellsOn w place o origin words)
    (unasked : asked_of s.kind ≡ []) where
  -- as much weight more, and nothing but what is told
  pub record Passed (o : Outlined Kind) (more : ℕ) (end : Outlined Kind) : Type 0 where
    pub weighs : bare_weight w end.sent ≡ bare_weight w o.sent + more
    pub told : AllByRecursion IsToldBare o.sent → AllByRecursion IsToldBare end.sent

  abbrev P : Outlined Kind → PlainInput → Type 0
  P o (Content origin words) = TellsOn w place o origin words
  P o _ = Unit {0}

  one_passes : (o : Outlined Kind) (e : Taken) → Inv o.outline.behavior → Brings (comes setups cs place) e → Passed o (w place e.body) (read_one kind_rules o e)
  one_passes o e inv brings =
      let b = as_content setups cs place s there Inv goes e brings in
      let one : TellsOn w place o (origin_of e) b.words =
      at_content setups cs place (P o) s s.kind refl (λ origin words told has. tells o origin words inv told has) (λ origin words from_0 has. absurd (contains-none words (subst (λ (ws : List (List ℕ)). Contains ws words) unasked has)))
      (Content (origin_of e) b.words) (sym (ap (λ (x : Option Setup). comes_as cs place x (Content (origin_of e) b.words)) there) ∙ b.comes) in
      let all : (read_one kind_rules o e).sent ≡ o.sent ++ told_bares o.outline.place one.outputs = ap (λ (x : Outlined Kind). x.sent) (one_reads setups cs place s there Inv goes o e b.words b.body_is b.no_reply) ∙ one.sent in
      record {
        weighs = ap (bare_weight w) all ∙ bare_append w o.sent (told_bares o.outline.place one.outputs) ∙ ap (λ n. bare_weight w o.sent + n) (one.weighs ∙ ap (w place) (sym b.body_is));
        told = λ before. subst (AllByRecursion IsToldBare) (sym all) (all_append IsToldBare o.sent (told_bares o.outline.place one.outputs) before (all_told_bares o.outline.place one.outputs));
      }

  pub all_pass : (o : Outlined Kind) (es : List Taken) → Inv o.outline.behavior → AllByRecursion (Brings (comes setups cs place)) es → Passed o (taken_weight w place es) (read kind_rules o es)
  all_pass o [] inv all = record { weighs = omega arith; told = λ before. before }
  all_pass o (e ∷ es) inv all =
      let one = one_passes o e inv all.0 in
      let rest = all_pass (read_one kind_rules o e) es (one_stays setups cs place s there Inv goes o e inv all.0) all.1 in
      record { weighs = (let first = one.weighs in let later = rest.weighs in omega (arith, first, later)); told = λ before. rest.told (one.told before) }

-- ---- the three parts

module _ (setups : List Setup) (cs : List Chunk) (p : Pipeline) (are : IsPipeline setups p) (chunks : AreChunks cs) (a f : ℕ) (h : Extent → ℕ) where
  abbrev w : ℕ → Plain → ℕ
  w = weight_at a f h setups

  -- what comes to the collector
  pub postings_weigh : (c : Chunk) → w p.collector («plain».Content (counted c)) ≡ a
  postings_weigh c = weighs_as a f h setups p.collector are.collector.setup name.Collector (counted c) are.collector.at are.collector.kind_is

  pub extent_weighs : (c : Chunk) → IsChunk c → w p.collector («plain».Content (told_extent c)) ≡ h (extent_of c)
  extent_weighs c is =
      weighs_as a f h setups p.collector are.collector.setup name.Collector (told_extent c) are.collector.at are.collector.kind_is ∙ ap (of_extent_in h) (extent_back c is)

  pub finish_weighs : (n : ℕ) → w p.collector («plain».Content (told_finish n)) ≡ f
  finish_weighs n = weighs_as a f h setups p.collector are.collector.setup name.Collector (told_finish n) are.collector.at are.collector.kind_is

  -- one thing that is told to a place
  abbrev pub one_bare : ℕ → ℕ → List ℕ → List Bare
  one_bare place to words = told_bares place (Tell to priority.Normal words ∷ [])

  one_weighs : (place to x : ℕ) (words : List ℕ) → w to («plain».Content words) ≡ x → bare_weight w (one_bare place to words) ≡ x
  one_weighs place to x words e = ap (λ n. n + 0) e ∙ (let same : x + 0 ≡ x = omega arith in same)

  module _ (place : ℕ) (who : Who) (s : Setup) (there : setup_at setups place ≡ Some s) where
    pub lines_tells : who.peers ≡ p.collector ∷ [] → s.kind ≡ name.Lines → (o : Outlined Kind) (origin : Origin) (words : List ℕ) → MeasuresFor setups cs p are chunks who o.outline.behavior → is_asked origin ≡ false
        → Contains (map chunk_content cs) words → TellsOn w place o origin words
    lines_tells peers is o origin words inv told has =
        let from = from-map chunk_content words cs has in
        let c = from.0 in
        let chunk = one_of IsChunk cs c chunks from.1 in
        subst (TellsOn w place o origin) from.2
        (tells_as w place o origin (chunk_content c) (kind.Lines (record { identity = who })) _ inv (hands_on.measures (record { identity = who }) origin c p.collector chunk peers) refl told refl (tt, tt)
        (one_weighs o.outline.place p.collector (h (extent_of c)) (told_extent c) (extent_weighs c chunk)
        ∙ sym (weighs_as a f h setups place s name.Lines (chunk_content c) there is ∙ chunk_weighs (λ d. h (extent_of d)) c chunk)))

    pub relay_tells : who.peers ≡ p.counters → s.kind ≡ name.Relay → (o : Outlined Kind) (origin : Origin) (words : List ℕ) → RelaysFor setups cs p are chunks who o.outline.behavior → is_asked origin ≡ false
        → Contains (map chunk_content cs) words → TellsOn w place o origin words
    relay_tells peers is o origin words inv told has =
        let from = from-map chunk_content words cs has in
        let c = from.0 in
        let chunk = one_of IsChunk cs c chunks from.1 in
        let some = are.some in
        let to = got setups cs p are chunks p.counters (c.number % length p.counters) (omega (arith, some)) in
        let at = one_of (IsSetUp setups name.Counter (p.collector ∷ [])) p.counters to.0 are.counters to.2 in
        subst (TellsOn w place o origin) from.2
        (tells_as w place o origin (chunk_content c) (kind.Relay (record { identity = who })) _ inv
        (hands_on.relays (record { identity = who }) origin c to.0 chunk (ap (λ (ps : List ℕ). peer_for ps c.number) peers ∙ to.1)) refl told refl (tt, tt)
        (one_weighs o.outline.place to.0 a (relayed c) (weighs_as a f h setups to.0 at.setup name.Counter (relayed c) at.at at.kind_is ∙ chunk_weighs (λ d. a) (lowered c) (hands_on.lowered_is_chunk c chunk))
        ∙ sym (weighs_as a f h setups place s name.Relay (chunk_content c) there is ∙ chunk_weighs (λ d. a) c chunk)))

    pub counter_tells : who.peers ≡ p.collector ∷ [] → s.kind ≡ name.Counter → (o : Outlined Kind) (origin : Origin) (words : List ℕ) → CountsFor setups cs p are chunks who o.outline.behavior → is_asked origin ≡ false
        → Contains (map relayed cs) words → TellsOn w place o origin words
    counter_tells peers is o origin words inv told has =
        let from = from-map relayed words cs has in
        let c = from.0 in
        let chunk = hands_on.lowered_is_chunk c (one_of IsChunk cs c chunks from.1) in
        subst (TellsOn w place o origin) from.2
        (tells_as w place o origin (relayed c) (kind.Counter (record { identity = who; count = inv.count })) _ inv.is
        (hands_on.counts (record { identity = who; count = inv.count }) origin (lowered c) p.collector chunk peers) refl told refl (tt, tt)
        (one_weighs o.outline.place p.collector a (counted c) (postings_weigh c)
        ∙ sym (weighs_as a f h setups place s name.Counter (relayed c) there is ∙ chunk_weighs (λ d. a) (lowered c) chunk)))

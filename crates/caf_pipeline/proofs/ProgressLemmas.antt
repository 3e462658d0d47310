-- What a source has told when it is done: all of its chunks.
use Rattle.std.proofs.Common.{◌≡◌, ℕ, zero, suc, ◌+◌, ◌-◌, ◌≤◌, ◌==◌, Bool, true, false, List, [], ◌∷◌, ◌++◌, length, map, take, drop, Option, Some, inl, inr, refl, sym, subst, ap, ◌∙◌, arith}
use Rattle.std.specs.Prelude.{Contains, ◌⊎◌}
use Rattle.std.specs.List.{AllByRecursion}
use Rattle.std.proofs.lemmas.List.{length-take, length-drop}
use Rattle.std.proofs.lemmas.List.Elements.{Contains-append_left}
use Rattle.caf_index.proofs.ContainsLemmas.{contains-none, contains-here, contains-later, contains-cases, contains-map}
use Rattle.caf_message.specs.declared.envelope.Taken.{Taken}
use Rattle.caf_actor.specs.Answering.{origin_of}
use Rattle.caf_actor.specs.PlainInput.{PlainInput, Content}
use Rattle.caf_actor.specs.PlainOutput.{PlainOutput}
use Rattle.caf_kinds.specs.FileChunks.{AreChunks}
use Rattle.caf_kinds.specs.Kinds.{kind_rules}
use Rattle.caf_kinds.specs.Pipeline.{chunk_content}
use Rattle.caf_kinds.specs.Setups.{setup_at}
use Rattle.caf_kinds.specs.Source.{Sourced, more_content, tells_all, follows, takers, next_chunks, chunks_left, stage_with, goes_on, on_start, on_more}
use Rattle.caf_kinds.specs.Who.{Who}
use Rattle.caf_kinds.specs.declared.contents.Chunk.{Chunk}
use Rattle.caf_kinds.specs.declared.kind.Kind.{Kind}
use Rattle.caf_kinds.specs.declared.kind.Kind.TheVariants as kind
use Rattle.caf_kinds.specs.declared.setup.KindName.TheVariants as name
use Rattle.caf_kinds.specs.declared.setup.Setup.{Setup}
use Rattle.caf_kinds.specs.declared.source.Stage.{Stage}
use Rattle.caf_kinds.specs.declared.source.Stage.TheVariants as stage
use Rattle.caf_steady.specs.Outline.{Outlined}
use Rattle.caf_steady.specs.Reading.{read, read_one}
use Rattle.caf_steady.specs.Steady.{Brings}
use Rattle.caf_pipeline.specs.Undisturbed.{Pipeline, IsPipeline}
use Rattle.caf_pipeline.specs.Parts.{start_content}
use Rattle.caf_pipeline.specs.Contents.{told_to, comes_as, comes}
use Rattle.caf_pipeline.proofs.ClassLemmas.{at_content, Goes}
use Rattle.caf_pipeline.proofs.SourceLemmas.{SourcesFor, source_goes}
use Rattle.caf_pipeline.proofs.ReadLemmas.{HasTold, content_now}
use Rattle.caf_pipeline.proofs.FlowLemmas.{BringsContent, as_content, one_leads, one_reads, one_told}

-- ---- the first of a list

take_parts : {A : Type 0} (a n : ℕ) (xs : List A) (x : A) → Contains (take (a + n) xs) x → Contains (take a xs) x ⊎ Contains (take n (drop a xs)) x
take_parts zero n xs x has = inr (subst (λ (m : ℕ). Contains (take m xs) x) (let same : 0 + n ≡ n = omega arith in same) has)
take_parts (suc a) n [] x has = inl (go (suc a + n) has)
  where
    go : (m : ℕ) → Contains (take m []) x → Contains (take (suc a) []) x
    go zero has = has
    go (suc m) has = has
take_parts (suc a) n (y ∷ ys) x has =
    elim (contains-cases y x (take (a + n) ys) (subst (λ (m : ℕ). Contains (take m (y ∷ ys)) x) (let same : suc a + n ≡ suc (a + n) = omega arith in same) has)) [
      | inl is ↦ inl (subst (Contains (y ∷ take a ys)) is (contains-here y (take a ys)))
      | inr later ↦ elim (take_parts a n ys x later) [ inl front ↦ inl (contains-later y x (take a ys) front) | inr back ↦ inr back ]
    ]

take_more : {A : Type 0} (n m : ℕ) (xs : List A) (x : A) → n ≤ m → Contains (take n xs) x → Contains (take m xs) x
take_more zero m xs x le has = absurd (contains-none x has)
take_more (suc n) zero xs x le has = absurd (omega (arith, le))
take_more (suc n) (suc m) [] x le has = has
take_more (suc n) (suc m) (y ∷ ys) x le has = elim (contains-cases y x (take n ys) has) [
  | inl is ↦ subst (Contains (y ∷ take m ys)) is (contains-here y (take m ys))
  | inr later ↦ contains-later y x (take m ys) (take_more n m ys x (omega (arith, le)) later)
]

done_left : (left : List Chunk) → stage_with left ≡ stage.Done → length left ≡ 0
done_left [] e = refl
done_left (c ∷ left) e = absurd cc

module _ (setups : List Setup) (cs : List Chunk) (p : Pipeline) (are : IsPipeline setups p) (each : AreChunks cs) (place : ℕ) (who : Who) (here : place ≡ p.source) (at : who.place ≡ p.source)
    (peers : who.peers ≡ p.lines ∷ p.relay ∷ p.collector ∷ []) (s : Setup) (there : setup_at setups place ≡ Some s) (kind_is : s.kind ≡ name.Source) where
  pub goes : (b : Kind) (i : PlainInput) → SourcesFor setups cs p are each who b → comes setups cs place i ≡ true → Goes setups cs place (SourcesFor setups cs p are each who) b i
  goes b i inv e = source_goes setups cs p are each place who here at peers s kind_is b i inv (sym (ap (λ (o : Option Setup). comes_as cs place o i) there) ∙ e)

  -- the source has told the relay its first chunks, and when it is done, these are all
  pub record Progress (o : Outlined Kind) : Type 0 where
    pub inv : SourcesFor setups cs p are each who o.outline.behavior
    pub told : (c : Chunk) → Contains (take inv.source.told cs) c → HasTold p.relay (chunk_content c) o.sent
    pub done : inv.source.stage ≡ stage.Done → length cs ≤ inv.source.told

  abbrev IsTold : PlainInput → Type 0
  IsTold (Content o words) = Contains (told_to cs name.Source (o.sender == place)) words
  IsTold _ = Unit {0}

  pub is_told : (e : Taken) → (b : BringsContent (comes setups cs place) e) → Contains (told_to cs name.Source ((origin_of e).sender == place)) b.words
  is_told e b =
      at_content setups cs place IsTold s name.Source kind_is (λ o words told has. has) (λ o words from_0 has. absurd (contains-none words has)) (Content (origin_of e) b.words)
      (sym (ap (λ (o : Option Setup). comes_as cs place o (Content (origin_of e) b.words)) there) ∙ b.comes)

  -- it goes on as another source, which has told no more
  keeps : (o : Outlined Kind) (e : Taken) (b : BringsContent (comes setups cs place) e) (brings : Brings (comes setups cs place) e) (h : Progress o) (after : Sourced)
      → kind_rules.next (kind.Source h.inv.source) (Content (origin_of e) b.words) ≡ kind.Source after → after.identity ≡ who → after.chunks ≡ cs → after.told ≡ h.inv.source.told
      → (after.stage ≡ stage.Done → h.inv.source.stage ≡ stage.Done) → Progress (read_one kind_rules o e)
  keeps o e b brings h after next same chunks told done = record {
    inv = record { source = after; is = one_leads setups cs place s there (SourcesFor setups cs p are each who) goes o e h.inv b ∙ ap (λ (x : Kind). kind_rules.next x (Content (origin_of e) b.words)) h.inv.is ∙ next; identity = same; chunks = chunks };
    told = λ c has. one_told setups cs place s there (SourcesFor setups cs p are each who) goes p.relay (chunk_content c) o e h.inv brings (h.told c (subst (λ (n : ℕ). Contains (take n cs) c) told has));
    done = λ is_done. (let before = h.done (done is_done) in omega (arith, before, told));
  }

  tells_on : (o : Outlined Kind) (e : Taken) (b : BringsContent (comes setups cs place) e) (brings : Brings (comes setups cs place) e) (h : Progress o) → b.words ≡ more_content → h.inv.source.stage ≡ stage.Telling
      → Progress (read_one kind_rules o e)
  tells_on o e b brings h words telling =
      let src = h.inv.source in
      let after = (goes_on src).0 in
      let i : PlainInput = Content (origin_of e) b.words in
      let reacts : (kind_rules.next (kind.Source src) i ≡ kind.Source after) = ap (λ (ws : List ℕ). kind_rules.next (kind.Source src) (Content (origin_of e) ws)) words ∙ ap (λ (t : Stage). kind.Source (on_more t src).0) telling in
      let outputs : (kind_rules.reaction o.outline.behavior i).outputs ≡ map (tells_all src) (next_chunks src) ++ follows src (chunks_left src) =
      ap (λ (x : Kind). (kind_rules.reaction x i).outputs) h.inv.is ∙ ap (λ (ws : List ℕ). (kind_rules.reaction (kind.Source src) (Content (origin_of e) ws)).outputs) words ∙ ap (λ (t : Stage). (on_more t src).1.outputs) telling in
      let mine : src.identity.peers ≡ p.lines ∷ p.relay ∷ p.collector ∷ [] = ap (λ (w : Who). w.peers) h.inv.identity ∙ peers in
      let takes_it : Contains (takers src) p.relay = subst (λ (ps : List ℕ). Contains (take (length ps - 1) ps) p.relay) (sym mine) (contains-later p.lines p.relay (p.relay ∷ []) (contains-here p.relay [])) in
      let long = length-take 32 (drop src.told src.chunks) in
      record {
        inv = record { source = after; is = one_leads setups cs place s there (SourcesFor setups cs p are each who) goes o e h.inv b ∙ ap (λ (x : Kind). kind_rules.next x i) h.inv.is ∙ reacts; identity = h.inv.identity; chunks = h.inv.chunks };
        told = λ c has. elim (take_parts src.told (length (next_chunks src)) cs c has) [
          | inl front ↦ one_told setups cs place s there (SourcesFor setups cs p are each who) goes p.relay (chunk_content c) o e h.inv brings (h.told c front)
          | inr back ↦
              (let now : Contains (next_chunks src) c = take_more (length (next_chunks src)) 32 (drop src.told src.chunks) c (omega (arith, long)) (subst (λ (ds : List Chunk). Contains (take (length (next_chunks src)) (drop src.told ds)) c) (sym h.inv.chunks) back) in
              let there_it : Contains (kind_rules.reaction o.outline.behavior i).outputs (tells_all src c) = subst (λ (os : List PlainOutput). Contains os (tells_all src c)) (sym outputs)
              (Contains-append_left (map (tells_all src) (next_chunks src)) (follows src (chunks_left src)) (tells_all src c) (contains-map (tells_all src) c (next_chunks src) now)) in
              let go = goes o.outline.behavior i h.inv b.comes in
              subst (λ (x : Outlined Kind). HasTold p.relay (chunk_content c) x.sent) (sym (one_reads setups cs place s there (SourcesFor setups cs p are each who) goes o e b.words b.body_is b.no_reply))
              (content_now p.relay (chunk_content c) kind_rules o (origin_of e) b.words go.taken (tells_all src c) there_it (takes_it, refl)))
        ];
        done = λ is_done.
            (let none = done_left (chunks_left src) is_done in
            let first = length-drop 32 (drop src.told src.chunks) in
            let second = length-drop src.told src.chunks in
            let all = ap length h.inv.chunks in
            omega (arith, none, first, second, long, all));
      }

  starts_or_keeps : (o : Outlined Kind) (e : Taken) (b : BringsContent (comes setups cs place) e) (brings : Brings (comes setups cs place) e) (h : Progress o) → b.words ≡ start_content → (t : Stage) → h.inv.source.stage ≡ t
      → Progress (read_one kind_rules o e)
  starts_or_keeps o e b brings h words stage.Waiting q =
      keeps o e b brings h (record h.inv.source { stage = stage.Telling }) (ap (λ (ws : List ℕ). kind_rules.next (kind.Source h.inv.source) (Content (origin_of e) ws)) words ∙ ap (λ (t : Stage). kind.Source (on_start t h.inv.source).0) q) h.inv.identity h.inv.chunks refl (λ d. absurd cc)
  starts_or_keeps o e b brings h words stage.Telling q =
      keeps o e b brings h h.inv.source (ap (λ (ws : List ℕ). kind_rules.next (kind.Source h.inv.source) (Content (origin_of e) ws)) words ∙ ap (λ (t : Stage). kind.Source (on_start t h.inv.source).0) q) h.inv.identity h.inv.chunks refl (λ d. d)
  starts_or_keeps o e b brings h words stage.Done q =
      keeps o e b brings h h.inv.source (ap (λ (ws : List ℕ). kind_rules.next (kind.Source h.inv.source) (Content (origin_of e) ws)) words ∙ ap (λ (t : Stage). kind.Source (on_start t h.inv.source).0) q) h.inv.identity h.inv.chunks refl (λ d. d)

  mores : (o : Outlined Kind) (e : Taken) (b : BringsContent (comes setups cs place) e) (brings : Brings (comes setups cs place) e) (h : Progress o) → b.words ≡ more_content → (t : Stage) → h.inv.source.stage ≡ t
      → Progress (read_one kind_rules o e)
  mores o e b brings h words stage.Telling q = tells_on o e b brings h words q
  mores o e b brings h words stage.Waiting q =
      keeps o e b brings h h.inv.source (ap (λ (ws : List ℕ). kind_rules.next (kind.Source h.inv.source) (Content (origin_of e) ws)) words ∙ ap (λ (t : Stage). kind.Source (on_more t h.inv.source).0) q) h.inv.identity h.inv.chunks refl (λ d. d)
  mores o e b brings h words stage.Done q =
      keeps o e b brings h h.inv.source (ap (λ (ws : List ℕ). kind_rules.next (kind.Source h.inv.source) (Content (origin_of e) ws)) words ∙ ap (λ (t : Stage). kind.Source (on_more t h.inv.source).0) q) h.inv.identity h.inv.chunks refl (λ d. d)

  one_more : (o : Outlined Kind) (e : Taken) → Brings (comes setups cs place) e → Progress o → Progress (read_one kind_rules o e)
  one_more o e brings h = go ((origin_of e).sender == place) (is_told e b)
    where
      b : BringsContent (comes setups cs place) e
      b = as_content setups cs place s there (SourcesFor setups cs p are each who) goes e brings

      go : (own : Bool) → Contains (told_to cs name.Source own) b.words → Progress (read_one kind_rules o e)
      go true has = elim (contains-cases more_content b.words [] has) [
        | inl is ↦ mores o e b brings h (sym is) h.inv.source.stage refl
        | inr none ↦ absurd (contains-none b.words none)
      ]
      go false has = elim (contains-cases start_content b.words [] has) [
        | inl is ↦ starts_or_keeps o e b brings h (sym is) h.inv.source.stage refl
        | inr none ↦ absurd (contains-none b.words none)
      ]

  pub progress : (o : Outlined Kind) (es : List Taken) → AllByRecursion (Brings (comes setups cs place)) es → Progress o → Progress (read kind_rules o es)
  progress o [] all h = h
  progress o (e ∷ es) all h = progress (read_one kind_rules o e) es all.1 (one_more o e all.0 h)

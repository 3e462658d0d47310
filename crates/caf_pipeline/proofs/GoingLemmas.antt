-- A source that is telling has told itself to go on, and hasn't taken that yet; so at rest none is telling.
use Rattle.std.proofs.Common.{◌≡◌, ℕ, ◌==◌, Bool, true, false, List, [], ◌∷◌, ◌++◌, length, map, drop, Some, inl, inr, refl, sym, subst, ap, ◌∙◌}
use Rattle.std.specs.Prelude.{Contains, ◌⊎◌}
use Rattle.std.specs.List.{AllByRecursion}
use Rattle.std.proofs.lemmas.List.Elements.{Contains-append_left, Contains-append_right}
use Rattle.caf_index.proofs.ContainsLemmas.{contains-none, contains-here, contains-cases, from-map}
use Rattle.caf_mailbox.specs.Caches.{nothing_cached}
use Rattle.caf_message.specs.declared.envelope.Taken.{Taken}
use Rattle.caf_actor.specs.Answering.{origin_of}
use Rattle.caf_actor.specs.Drain.{batch_of}
use Rattle.caf_actor.specs.PlainInput.{PlainInput, Content}
use Rattle.caf_actor.specs.PlainOutput.{PlainOutput}
use Rattle.caf_actor.specs.Record.{from_place, to_place}
use Rattle.caf_actor.specs.declared.snapshot.Snapshot.{Snapshot}
use Rattle.caf_kinds.specs.FileChunks.{AreChunks}
use Rattle.caf_kinds.specs.Kinds.{kind_rules}
use Rattle.caf_kinds.specs.Setups.{setup_at}
use Rattle.caf_kinds.specs.Source.{Sourced, more_content, tells_all, tells_itself, follows, next_chunks, chunks_left, stage_with, goes_on, on_start, on_more}
use Rattle.caf_kinds.specs.Who.{Who}
use Rattle.caf_kinds.specs.declared.contents.Chunk.{Chunk}
use Rattle.caf_kinds.specs.declared.kind.Kind.{Kind}
use Rattle.caf_kinds.specs.declared.kind.Kind.TheVariants as kind
use Rattle.caf_kinds.specs.declared.setup.KindName.TheVariants as name
use Rattle.caf_kinds.specs.declared.setup.Setup.{Setup}
use Rattle.caf_kinds.specs.declared.source.Stage.{Stage}
use Rattle.caf_kinds.specs.declared.source.Stage.TheVariants as stage
use Rattle.caf_steady.specs.Outline.{Outlined, Bare, outline_of, bare}
use Rattle.caf_steady.specs.Reading.{read, read_one, in_turn}
use Rattle.caf_steady.specs.Steady.{Brings, IsSteady}
use Rattle.caf_steady.proofs.ReadingLemmas.{batch_read, brought_in_turn}
use Rattle.caf_pipeline.specs.Undisturbed.{Pipeline, IsPipeline}
use Rattle.caf_pipeline.specs.Parts.{start_content}
use Rattle.caf_pipeline.specs.Contents.{told_to, comes}
use Rattle.caf_pipeline.proofs.ClassLemmas.{Goes}
use Rattle.caf_pipeline.proofs.ArrivalLemmas.{to_has, turn_has}
use Rattle.caf_pipeline.proofs.ListLemmas.{one_of}
use Rattle.caf_pipeline.proofs.SourceLemmas.{SourcesFor}
use Rattle.caf_pipeline.proofs.ReadLemmas.{HasTold, content_now}
use Rattle.caf_pipeline.proofs.FlowLemmas.{BringsContent, as_content, one_leads, one_reads, all_told}
use Rattle.caf_pipeline.proofs.ProgressLemmas.{goes, is_told}

left_over : (left : List Chunk) → stage_with left ≡ stage.Telling → (s : Sourced) → Contains (follows s left) (tells_itself s)
left_over [] e s = absurd cc
left_over (c ∷ left) e s = contains-here (tells_itself s) []

-- none of them came from the place
abbrev pub NoneFrom : ℕ → List Taken → Type 0
NoneFrom place es = AllByRecursion (λ e. (e.sender == place) ≡ false) es

none_from : (place : ℕ) (es : List Taken) → ((e : Taken) → Contains es e → (e.sender == place) ≡ false) → from_place place es ≡ []
none_from place [] none = refl
none_from place (e ∷ es) none = rw (none e (contains-here e es)) (none_from place es (λ f has. none f (later f has)))
  where
    later : (f : Taken) → Contains es f → Contains (e ∷ es) f
    later f has = Contains-append_right (e ∷ []) es f has

module _ (setups : List Setup) (cs : List Chunk) (p : Pipeline) (are : IsPipeline setups p) (each : AreChunks cs) (place : ℕ) (who : Who) (here : place ≡ p.source) (at : who.place ≡ p.source)
    (peers : who.peers ≡ p.lines ∷ p.relay ∷ p.collector ∷ []) (s : Setup) (there : setup_at setups place ≡ Some s) (kind_is : s.kind ≡ name.Source) where
  abbrev pub Sources : Kind → Type 0
  Sources = SourcesFor setups cs p are each who

  pub going : (b : Kind) (i : PlainInput) → Sources b → comes setups cs place i ≡ true → Goes setups cs place Sources b i
  going = goes setups cs p are each place who here at peers s there kind_is

  -- where it is telling then, it told itself to go on, or it was telling before and took nothing of its own
  abbrev pub WentOn : Stage → Stage → List Taken → List Bare → Type 0
  WentOn before after es sent = after ≡ stage.Telling → HasTold place more_content sent ⊎ ((before ≡ stage.Telling) × NoneFrom place es)

  pub record Going (o : Outlined Kind) (inv : Sources o.outline.behavior) (es : List Taken) (end : Outlined Kind) : Type 0 where
    pub inv_after : Sources end.outline.behavior
    pub went : WentOn inv.source.stage inv_after.source.stage es end.sent

  -- the value after an envelope is that source, and what it did at it tells itself to go on, where it is telling then
  steps : (o : Outlined Kind) (e : Taken) (inv : Sources o.outline.behavior) (b : BringsContent (comes setups cs place) e) (after : Sourced)
      → kind_rules.next (kind.Source inv.source) (Content (origin_of e) b.words) ≡ kind.Source after → after.identity ≡ who → after.chunks ≡ cs
      → (after.stage ≡ stage.Telling → Contains (kind_rules.reaction (kind.Source inv.source) (Content (origin_of e) b.words)).outputs (tells_itself inv.source) ⊎ ((inv.source.stage ≡ stage.Telling) × ((e.sender == place) ≡ false)))
      → Going o inv (e ∷ []) (read_one kind_rules o e)
  steps o e inv b after next same chunks tells = record {
    inv_after = record { source = after; is = one_leads setups cs place s there Sources going o e inv b ∙ ap (λ (x : Kind). kind_rules.next x (Content (origin_of e) b.words)) inv.is ∙ next; identity = same; chunks = chunks };
    went = λ telling. elim (tells telling) [
      | inl has ↦
          (let i : PlainInput = Content (origin_of e) b.words in
          let go = going o.outline.behavior i inv b.comes in
          let me : inv.source.identity.place ≡ place = ap (λ (w : Who). w.place) inv.identity ∙ at ∙ sym here in
          inl (subst (λ (x : Outlined Kind). HasTold place more_content x.sent) (sym (one_reads setups cs place s there Sources going o e b.words b.body_is b.no_reply))
          (content_now place more_content kind_rules o (origin_of e) b.words go.taken (tells_itself inv.source)
          (subst (λ (x : Kind). Contains (kind_rules.reaction x i).outputs (tells_itself inv.source)) (sym inv.is) has) (me, refl))))
      | inr before ↦ inr (before.0, (before.1, tt))
    ];
  }

  at_start : (o : Outlined Kind) (e : Taken) (inv : Sources o.outline.behavior) (b : BringsContent (comes setups cs place) e) → b.words ≡ start_content → (e.sender == place) ≡ false → (t : Stage) → inv.source.stage ≡ t
      → Going o inv (e ∷ []) (read_one kind_rules o e)
  at_start o e inv b words other stage.Waiting q =
      let src = inv.source in
      steps o e inv b (record src { stage = stage.Telling })
      (ap (λ (ws : List ℕ). kind_rules.next (kind.Source src) (Content (origin_of e) ws)) words ∙ ap (λ (t : Stage). kind.Source (on_start t src).0) q) inv.identity inv.chunks
      (λ d. inl (subst (λ (os : List PlainOutput). Contains os (tells_itself src)) (sym (ap (λ (ws : List ℕ). (kind_rules.reaction (kind.Source src) (Content (origin_of e) ws)).outputs) words ∙ ap (λ (t : Stage). (on_start t src).1.outputs) q)) (contains-here (tells_itself src) [])))
  at_start o e inv b words other stage.Telling q =
      steps o e inv b inv.source (ap (λ (ws : List ℕ). kind_rules.next (kind.Source inv.source) (Content (origin_of e) ws)) words ∙ ap (λ (t : Stage). kind.Source (on_start t inv.source).0) q) inv.identity inv.chunks (λ d. inr (d, other))
  at_start o e inv b words other stage.Done q =
      steps o e inv b inv.source (ap (λ (ws : List ℕ). kind_rules.next (kind.Source inv.source) (Content (origin_of e) ws)) words ∙ ap (λ (t : Stage). kind.Source (on_start t inv.source).0) q) inv.identity inv.chunks (λ d. inr (d, other))

  at_more : (o : Outlined Kind) (e : Taken) (inv : Sources o.outline.behavior) (b : BringsContent (comes setups cs place) e) → b.words ≡ more_content → (t : Stage) → inv.source.stage ≡ t → Going o inv (e ∷ []) (read_one kind_rules o e)
  at_more o e inv b words stage.Telling q =
      let src = inv.source in
      steps o e inv b (goes_on src).0 (ap (λ (ws : List ℕ). kind_rules.next (kind.Source src) (Content (origin_of e) ws)) words ∙ ap (λ (t : Stage). kind.Source (on_more t src).0) q) inv.identity inv.chunks
      (λ d. inl (subst (λ (os : List PlainOutput). Contains os (tells_itself src)) (sym (ap (λ (ws : List ℕ). (kind_rules.reaction (kind.Source src) (Content (origin_of e) ws)).outputs) words ∙ ap (λ (t : Stage). (on_more t src).1.outputs) q))
      (Contains-append_right (map (tells_all src) (next_chunks src)) (follows src (chunks_left src)) (tells_itself src) (left_over (chunks_left src) d src))))
  at_more o e inv b words stage.Waiting q =
      steps o e inv b inv.source (ap (λ (ws : List ℕ). kind_rules.next (kind.Source inv.source) (Content (origin_of e) ws)) words ∙ ap (λ (t : Stage). kind.Source (on_more t inv.source).0) q) inv.identity inv.chunks
      (λ d. (let bad : stage.Waiting ≡ stage.Telling = sym q ∙ d in absurd cc))
  at_more o e inv b words stage.Done q =
      steps o e inv b inv.source (ap (λ (ws : List ℕ). kind_rules.next (kind.Source inv.source) (Content (origin_of e) ws)) words ∙ ap (λ (t : Stage). kind.Source (on_more t inv.source).0) q) inv.identity inv.chunks
      (λ d. (let bad : stage.Done ≡ stage.Telling = sym q ∙ d in absurd cc))

  one_goes : (o : Outlined Kind) (e : Taken) → Brings (comes setups cs place) e → (inv : Sources o.outline.behavior) → Going o inv (e ∷ []) (read_one kind_rules o e)
  one_goes o e brings inv = go (e.sender == place) refl (is_told setups cs p are each place who here at peers s there kind_is e b)
    where
      b : BringsContent (comes setups cs place) e
      b = as_content setups cs place s there Sources going e brings

      go : (own : Bool) → (e.sender == place) ≡ own → Contains (told_to cs name.Source own) b.words → Going o inv (e ∷ []) (read_one kind_rules o e)
      go true q has = elim (contains-cases more_content b.words [] has) [
        | inl is ↦ at_more o e inv b (sym is) inv.source.stage refl
        | inr none ↦ absurd (contains-none b.words none)
      ]
      go false q has = elim (contains-cases start_content b.words [] has) [
        | inl is ↦ at_start o e inv b (sym is) q inv.source.stage refl
        | inr none ↦ absurd (contains-none b.words none)
      ]

  pub all_go : (o : Outlined Kind) (es : List Taken) → AllByRecursion (Brings (comes setups cs place)) es → (inv : Sources o.outline.behavior) → Going o inv es (read kind_rules o es)
  all_go o [] all inv = record { inv_after = inv; went = λ d. inr (d, tt) }
  all_go o (e ∷ es) all inv =
      let one = one_goes o e all.0 inv in
      let rest = all_go (read_one kind_rules o e) es all.1 one.inv_after in
      record {
        inv_after = rest.inv_after;
        went = λ d. elim (rest.went d) [
          | inl told ↦ inl told
          | inr mid ↦ elim (one.went mid.0) [
            | inl told ↦ inl (all_told setups cs place s there Sources going place more_content (read_one kind_rules o e) es one.inv_after all.1 told)
            | inr first ↦ inr (first.0, (first.1.0, mid.1))
          ]
        ];
      }

  -- ---- a batch

  pub record Waits (snapshot : Snapshot Kind) (waiting : List Taken) : Type 0 where
    pub inv : Sources snapshot.behavior
    pub steady : IsSteady kind_rules (comes setups cs place) snapshot
    pub empty : snapshot.caches ≡ nothing_cached
    pub some : inv.source.stage ≡ stage.Telling → (e : Taken) × Contains waiting e

  pub waits_on : (snapshot : Snapshot Kind) (waiting batch : List Taken) → Waits snapshot waiting → AllByRecursion (Brings (comes setups cs place)) batch
      → Waits (batch_of kind_rules snapshot batch).snapshot (drop (length (from_place place batch)) waiting ++ to_place place (batch_of kind_rules snapshot batch).posts)
  waits_on snapshot waiting batch h all =
      let o : Outlined Kind = record { outline = outline_of snapshot; sent = [] } in
      let done = batch_read kind_rules (comes setups cs place) snapshot batch h.steady h.empty all in
      let go = all_go o (in_turn batch) (brought_in_turn kind_rules (comes setups cs place) batch all) h.inv in
      let posts = (batch_of kind_rules snapshot batch).posts in
      let left = drop (length (from_place place batch)) waiting in
      let after : (batch_of kind_rules snapshot batch).snapshot.behavior ≡ (read kind_rules o (in_turn batch)).outline.behavior = ap (λ (x : Outlined Kind). x.outline.behavior) done.told in
      record {
        inv = record { source = go.inv_after.source; is = after ∙ go.inv_after.is; identity = go.inv_after.identity; chunks = go.inv_after.chunks };
        steady = done.steady;
        empty = done.handled;
        some = λ d. elim (go.went d) [
          | inl told ↦
              (let sent = ap (λ (x : Outlined Kind). x.sent) done.told in
              let from = from-map bare told.bare posts (subst (λ (bs : List Bare). Contains bs told.bare) (sym sent) told.is_sent) in
              let to : from.0.to ≡ place = ap (λ (x : Bare). x.to) from.2 ∙ told.to_is in
              (from.0.envelope, Contains-append_right left (to_place place posts) from.0.envelope (subst (λ (q : ℕ). Contains (to_place q posts) from.0.envelope) to (to_has posts from.0 from.1))))
          | inr before ↦
              (let own = none_from place batch (λ e has. one_of (λ (x : Taken). (x.sender == place) ≡ false) (in_turn batch) e before.1 (turn_has batch e has)) in
              let first = h.some before.0 in
              (first.0, Contains-append_left left (to_place place posts) first.0 (subst (λ (es : List Taken). Contains (drop (length es) waiting) first.0) (sym own) first.1)))
        ];
      }

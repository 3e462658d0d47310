-- What a source has told weighs as much as its first chunks do, and when it is done as all of them and a finish.
use Rattle.std.proofs.Common.{◌≡◌, ℕ, ◌+◌, ◌-◌, ◌≤◌, ◌==◌, Bool, true, false, List, [], ◌∷◌, ◌++◌, length, map, take, drop, Option, Some, None, inl, inr, refl, sym, subst, ap, ◌∙◌, arith}
use Rattle.std.specs.Prelude.{Contains, slice_get}
use Rattle.std.specs.List.{AllByRecursion}
use Rattle.std.proofs.lemmas.List.{length-take, length-drop}
use Rattle.caf_index.proofs.ContainsLemmas.{contains-none, contains-cases}
use Rattle.caf_mailbox.proofs.NextLemmas.{all_append}
use Rattle.caf_message.specs.declared.envelope.Plain.{Plain}
use Rattle.caf_message.specs.declared.envelope.Plain.TheVariants as «plain»
use Rattle.caf_message.specs.declared.envelope.Taken.{Taken}
use Rattle.caf_record.proofs.ListLemmas.{all_drop}
use Rattle.caf_types.specs.declared.notice.Priority.TheVariants as priority
use Rattle.caf_actor.specs.Answering.{is_asked, origin_of}
use Rattle.caf_actor.specs.PlainInput.{PlainInput, Content}
use Rattle.caf_actor.specs.PlainOutput.{PlainOutput}
use Rattle.caf_kinds.specs.FileChunks.{IsChunk, AreChunks}
use Rattle.caf_kinds.specs.Kinds.{kind_rules, reacted, as_kind}
use Rattle.caf_kinds.specs.Lines.{extent_of}
use Rattle.caf_kinds.specs.Pipeline.{chunk_content, finish_content, to_peer, sends}
use Rattle.caf_kinds.specs.Reacting.{Reacted, answers, done}
use Rattle.caf_kinds.specs.Setups.{setup_at}
use Rattle.caf_kinds.specs.Source.{Sourced, more_content, finish_of, tells_all, tells_itself, follows, takers, last_peer, next_chunks, chunks_left, stage_with, goes_on, on_start, on_more}
use Rattle.caf_kinds.specs.Who.{Who}
use Rattle.caf_kinds.specs.declared.contents.Chunk.{Chunk}
use Rattle.caf_kinds.specs.declared.contents.Extent.{Extent}
use Rattle.caf_kinds.specs.declared.kind.Kind.{Kind}
use Rattle.caf_kinds.specs.declared.kind.Kind.TheVariants as kind
use Rattle.caf_kinds.specs.declared.setup.KindName.TheVariants as name
use Rattle.caf_kinds.specs.declared.setup.Setup.{Setup}
use Rattle.caf_kinds.specs.declared.source.Stage.{Stage}
use Rattle.caf_kinds.specs.declared.source.Stage.TheVariants as stage
use Rattle.caf_steady.specs.Outline.{Outlined}
use Rattle.caf_steady.specs.Reading.{read, read_one}
use Rattle.caf_steady.specs.Steady.{Brings}
use Rattle.caf_pipeline.specs.Undisturbed.{Pipeline, IsPipeline}
use Rattle.caf_pipeline.specs.Parts.{start_content}
use Rattle.caf_pipeline.specs.Contents.{told_to, comes_as, comes}
use Rattle.caf_pipeline.proofs.ClassLemmas.{at_content, Goes}
use Rattle.caf_pipeline.proofs.CountLemmas.{weigh_all, weigh_append}
use Rattle.caf_pipeline.proofs.FlowLemmas.{BringsContent, as_content, one_leads, one_reads}
use Rattle.caf_pipeline.proofs.PassingLemmas.{weight_at, weighs_as, chunk_weighs, bare_weight, bare_append, finish_weighs}
use Rattle.caf_pipeline.proofs.ListLemmas.{take_add, take_front, all_take}
use Rattle.caf_pipeline.proofs.ProgressLemmas.{goes}
use Rattle.caf_pipeline.proofs.SourceLemmas.{SourcesFor}
use Rattle.caf_pipeline.proofs.TellingLemmas.{IsTelling, IsToldBare, told_bares, told_append, all_told_bares, content_tells}

none_left : (left : List Chunk) → stage_with left ≡ stage.Done → length left ≡ 0
none_left [] e = refl
none_left (c ∷ left) e = absurd cc

module _ (setups : List Setup) (cs : List Chunk) (p : Pipeline) (are : IsPipeline setups p) (each : AreChunks cs) (place : ℕ) (who : Who) (here : place ≡ p.source) (at : who.place ≡ p.source)
    (peers : who.peers ≡ p.lines ∷ p.relay ∷ p.collector ∷ []) (s : Setup) (there : setup_at setups place ≡ Some s) (kind_is : s.kind ≡ name.Source) (a f : ℕ) (h : Extent → ℕ) where
  abbrev w : ℕ → Plain → ℕ
  w = weight_at a f h setups

  abbrev Sources : Kind → Type 0
  Sources = SourcesFor setups cs p are each who

  my_goes : (b : Kind) (i : PlainInput) → Sources b → comes setups cs place i ≡ true → Goes setups cs place Sources b i
  my_goes = goes setups cs p are each place who here at peers s there kind_is

  -- a chunk goes to lines and to the relay
  abbrev pub told_weight : Chunk → ℕ
  told_weight c = h (extent_of c) + a

  abbrev pub done_weight : Stage → ℕ
  done_weight stage.Done = f
  done_weight _ = 0

  -- ---- outputs

  peers_are : (src : Sourced) → src.identity ≡ who → src.identity.peers ≡ p.lines ∷ p.relay ∷ p.collector ∷ []
  peers_are src same = ap (λ (x : Who). x.peers) same ∙ peers

  one_chunk : (src : Sourced) (q : ℕ) (c : Chunk) → src.identity ≡ who → IsChunk c → bare_weight w (told_bares q (tells_all src c ∷ [])) ≡ told_weight c
  one_chunk src q c same is =
      let mine : takers src ≡ p.lines ∷ p.relay ∷ [] = ap (λ (ps : List ℕ). take (length ps - 1) ps) (peers_are src same) in
      let lines = weighs_as a f h setups p.lines are.lines.setup name.Lines (chunk_content c) are.lines.at are.lines.kind_is ∙ chunk_weighs (λ d. h (extent_of d)) c is in
      let relay = weighs_as a f h setups p.relay are.relay.setup name.Relay (chunk_content c) are.relay.at are.relay.kind_is ∙ chunk_weighs (λ d. a) c is in
      ap (λ (ps : List ℕ). bare_weight w (told_bares q (PlainOutput.TellMany ps priority.Normal (chunk_content c) ∷ []))) mine ∙ omega (arith, lines, relay)

  chunks_weigh : (src : Sourced) (q : ℕ) (ds : List Chunk) → src.identity ≡ who → AllByRecursion IsChunk ds → bare_weight w (told_bares q (map (tells_all src) ds)) ≡ weigh_all told_weight ds
  chunks_weigh src q [] same all = refl
  chunks_weigh src q (d ∷ ds) same all =
      ap (bare_weight w) (told_append q (tells_all src d ∷ []) (map (tells_all src) ds) (tt, tt))
      ∙ bare_append w (told_bares q (tells_all src d ∷ [])) (told_bares q (map (tells_all src) ds))
      ∙ (let one = one_chunk src q d same all.0 in let rest = chunks_weigh src q ds same all.1 in omega (arith, one, rest))

  chunks_tell : (src : Sourced) (ds : List Chunk) → AllByRecursion IsTelling (map (tells_all src) ds)
  chunks_tell src [] = tt
  chunks_tell src (d ∷ ds) = (tt, chunks_tell src ds)

  itself_weighs : (src : Sourced) (q : ℕ) → src.identity ≡ who → bare_weight w (told_bares q (tells_itself src ∷ [])) ≡ 0
  itself_weighs src q same =
      let me : src.identity.place ≡ p.source = ap (λ (x : Who). x.place) same ∙ at in
      let none = ap (λ (x : ℕ). w x («plain».Content more_content)) me ∙ weighs_as a f h setups p.source are.source.setup name.Source more_content are.source.at are.source.kind_is in
      omega (arith, none)

  follows_weigh : (src : Sourced) (q : ℕ) (left : List Chunk) → src.identity ≡ who → bare_weight w (told_bares q (follows src left)) ≡ done_weight (stage_with left)
  follows_weigh src q (c ∷ left) same = itself_weighs src q same
  follows_weigh src q [] same =
      let last : last_peer src ≡ Some p.collector = ap (λ (ps : List ℕ). slice_get ps (length ps - 1)) (peers_are src same) in
      let weighs = finish_weighs setups cs p are each a f h (length src.chunks) in
      ap (λ (o : Option ℕ). bare_weight w (told_bares q (to_peer o (finish_content (finish_of (length src.chunks)))))) last ∙ omega (arith, weighs)

  to_peer_tells : (o : Option ℕ) (words : List ℕ) → AllByRecursion IsTelling (to_peer o words)
  to_peer_tells None words = tt
  to_peer_tells (Some q) words = (tt, tt)

  follows_tell : (src : Sourced) (left : List Chunk) → AllByRecursion IsTelling (follows src left)
  follows_tell src (c ∷ left) = (tt, tt)
  follows_tell src [] = to_peer_tells (last_peer src) _

  -- ---- one envelope

  pub record SourceWeighs (o : Outlined Kind) : Type 0 where
    pub inv : Sources o.outline.behavior
    pub weighs : bare_weight w o.sent ≡ weigh_all told_weight (take inv.source.told cs) + done_weight inv.source.stage
    pub told : AllByRecursion IsToldBare o.sent
    pub done_all : inv.source.stage ≡ stage.Done → length cs ≤ inv.source.told

  -- what it tells at the content is what it has told more
  pub record StepsTo (src : Sourced) (q : ℕ) (r : Reacted Sourced) : Type 0 where
    pub identity : r.0.identity ≡ who
    pub chunks : r.0.chunks ≡ cs
    pub answered : r.1.answer ≡ done
    pub telling : AllByRecursion IsTelling r.1.outputs
    pub weighs : bare_weight w (told_bares q r.1.outputs) + (weigh_all told_weight (take src.told cs) + done_weight src.stage) ≡ weigh_all told_weight (take r.0.told cs) + done_weight r.0.stage
    pub done_all : r.0.stage ≡ stage.Done → length cs ≤ r.0.told

  step_on : (o : Outlined Kind) (e : Taken) (b : BringsContent (comes setups cs place) e) (x : SourceWeighs o) (r : Reacted Sourced) → is_asked (origin_of e) ≡ false
      → reacted (kind.Source x.inv.source) (Content (origin_of e) b.words) ≡ as_kind kind.Source r → StepsTo x.inv.source o.outline.place r → SourceWeighs (read_one kind_rules o e)
  step_on o e b x r told reacts steps =
      let i : PlainInput = Content (origin_of e) b.words in
      let all : reacted o.outline.behavior i ≡ as_kind kind.Source r = ap (λ (y : Kind). reacted y i) x.inv.is ∙ reacts in
      let go = my_goes o.outline.behavior i x.inv b.comes in
      let sent : (read_one kind_rules o e).sent ≡ o.sent ++ told_bares o.outline.place r.1.outputs =
      ap (λ (y : Outlined Kind). y.sent) (one_reads setups cs place s there Sources my_goes o e b.words b.body_is b.no_reply)
      ∙ content_tells kind_rules o (origin_of e) b.words go.taken told (ap (λ (y : Reacted Kind). y.1.answer) all ∙ steps.answered) (subst (λ (y : Reacted Kind). AllByRecursion IsTelling y.1.outputs) (sym all) steps.telling)
      ∙ ap (λ (y : Reacted Kind). o.sent ++ told_bares o.outline.place y.1.outputs) all in
      record {
        inv = record { source = r.0; is = one_leads setups cs place s there Sources my_goes o e x.inv b ∙ ap (λ (y : Reacted Kind). y.0) all; identity = steps.identity; chunks = steps.chunks };
        weighs = ap (bare_weight w) sent ∙ bare_append w o.sent (told_bares o.outline.place r.1.outputs) ∙ (let before = x.weighs in let now = steps.weighs in omega (arith, before, now));
        told = subst (AllByRecursion IsToldBare) (sym sent) (all_append IsToldBare o.sent (told_bares o.outline.place r.1.outputs) x.told (all_told_bares o.outline.place r.1.outputs));
        done_all = steps.done_all;
      }

  stays_put : (o : Outlined Kind) (x : SourceWeighs o) → StepsTo x.inv.source o.outline.place (x.inv.source, answers done)
  stays_put o x = record { identity = x.inv.identity; chunks = x.inv.chunks; answered = refl; telling = tt; weighs = omega arith; done_all = x.done_all }

  starts : (o : Outlined Kind) (x : SourceWeighs o) → x.inv.source.stage ≡ stage.Waiting → StepsTo x.inv.source o.outline.place (record x.inv.source { stage = stage.Telling }, sends (tells_itself x.inv.source ∷ []))
  starts o x q = record {
    identity = x.inv.identity;
    chunks = x.inv.chunks;
    answered = refl;
    telling = (tt, tt);
    weighs = (let none = itself_weighs x.inv.source o.outline.place x.inv.identity in let before = ap done_weight q in omega (arith, none, before));
    done_all = λ d. absurd cc;
  }

  goes_further : (o : Outlined Kind) (x : SourceWeighs o) → x.inv.source.stage ≡ stage.Telling → StepsTo x.inv.source o.outline.place (goes_on x.inv.source)
  goes_further o x q =
      let src = x.inv.source in
      let q0 = o.outline.place in
      let next = next_chunks src in
      let all : AllByRecursion IsChunk next = all_take IsChunk 32 (drop src.told src.chunks) (all_drop IsChunk src.told src.chunks (subst (AllByRecursion IsChunk) (sym x.inv.chunks) each)) in
      let same : next ≡ take 32 (drop src.told cs) = ap (λ (ds : List Chunk). take 32 (drop src.told ds)) x.inv.chunks in
      let parts : take (src.told + length next) cs ≡ take src.told cs ++ next =
      take_add src.told (length next) cs ∙ ap (λ (ds : List Chunk). take src.told cs ++ ds) (ap (λ (ds : List Chunk). take (length ds) (drop src.told cs)) same ∙ take_front 32 (drop src.told cs) ∙ sym same) in
      let weighed = ap (weigh_all told_weight) parts ∙ weigh_append told_weight (take src.told cs) next in
      let outputs = ap (bare_weight w) (told_append q0 (map (tells_all src) next) (follows src (chunks_left src)) (chunks_tell src next))
      ∙ bare_append w (told_bares q0 (map (tells_all src) next)) (told_bares q0 (follows src (chunks_left src))) in
      let chunks = chunks_weigh src q0 next x.inv.identity all in
      let after = follows_weigh src q0 (chunks_left src) x.inv.identity in
      let before = ap done_weight q in
      let long = length-take 32 (drop src.told src.chunks) in
      record {
        identity = x.inv.identity;
        chunks = x.inv.chunks;
        answered = refl;
        telling = all_append IsTelling (map (tells_all src) next) (follows src (chunks_left src)) (chunks_tell src next) (follows_tell src (chunks_left src));
        weighs = omega (arith, weighed, outputs, chunks, after, before);
        done_all = λ d.
            (let none = none_left (chunks_left src) d in
            let first = length-drop 32 (drop src.told src.chunks) in
            let second = length-drop src.told src.chunks in
            let whole = ap length x.inv.chunks in
            omega (arith, none, first, second, long, whole));
      }

  at_start : (o : Outlined Kind) (e : Taken) (b : BringsContent (comes setups cs place) e) (x : SourceWeighs o) → is_asked (origin_of e) ≡ false → b.words ≡ start_content → (t : Stage) → x.inv.source.stage ≡ t → SourceWeighs (read_one kind_rules o e)
  at_start o e b x told words stage.Waiting q =
      step_on o e b x (record x.inv.source { stage = stage.Telling }, sends (tells_itself x.inv.source ∷ [])) told
      (ap (λ (ws : List ℕ). reacted (kind.Source x.inv.source) (Content (origin_of e) ws)) words ∙ ap (λ (t : Stage). as_kind kind.Source (on_start t x.inv.source)) q) (starts o x q)
  at_start o e b x told words stage.Telling q =
      step_on o e b x (x.inv.source, answers done) told (ap (λ (ws : List ℕ). reacted (kind.Source x.inv.source) (Content (origin_of e) ws)) words ∙ ap (λ (t : Stage). as_kind kind.Source (on_start t x.inv.source)) q) (stays_put o x)
  at_start o e b x told words stage.Done q =
      step_on o e b x (x.inv.source, answers done) told (ap (λ (ws : List ℕ). reacted (kind.Source x.inv.source) (Content (origin_of e) ws)) words ∙ ap (λ (t : Stage). as_kind kind.Source (on_start t x.inv.source)) q) (stays_put o x)

  at_more : (o : Outlined Kind) (e : Taken) (b : BringsContent (comes setups cs place) e) (x : SourceWeighs o) → is_asked (origin_of e) ≡ false → b.words ≡ more_content → (t : Stage) → x.inv.source.stage ≡ t → SourceWeighs (read_one kind_rules o e)
  at_more o e b x told words stage.Telling q =
      step_on o e b x (goes_on x.inv.source) told (ap (λ (ws : List ℕ). reacted (kind.Source x.inv.source) (Content (origin_of e) ws)) words ∙ ap (λ (t : Stage). as_kind kind.Source (on_more t x.inv.source)) q) (goes_further o x q)
  at_more o e b x told words stage.Waiting q =
      step_on o e b x (x.inv.source, answers done) told (ap (λ (ws : List ℕ). reacted (kind.Source x.inv.source) (Content (origin_of e) ws)) words ∙ ap (λ (t : Stage). as_kind kind.Source (on_more t x.inv.source)) q) (stays_put o x)
  at_more o e b x told words stage.Done q =
      step_on o e b x (x.inv.source, answers done) told (ap (λ (ws : List ℕ). reacted (kind.Source x.inv.source) (Content (origin_of e) ws)) words ∙ ap (λ (t : Stage). as_kind kind.Source (on_more t x.inv.source)) q) (stays_put o x)

  abbrev IsToldIt : PlainInput → Type 0
  IsToldIt (Content origin words) = (is_asked origin ≡ false) × Contains (told_to cs name.Source (origin.sender == place)) words
  IsToldIt _ = Unit {0}

  one_weighs : (o : Outlined Kind) (e : Taken) → Brings (comes setups cs place) e → SourceWeighs o → SourceWeighs (read_one kind_rules o e)
  one_weighs o e brings x = go (e.sender == place) told.1
    where
      b : BringsContent (comes setups cs place) e
      b = as_content setups cs place s there Sources my_goes e brings

      told : IsToldIt (Content (origin_of e) b.words)
      told = at_content setups cs place IsToldIt s name.Source kind_is (λ origin words told has. (told, has)) (λ origin words from_0 has. absurd (contains-none words has)) (Content (origin_of e) b.words)
          (sym (ap (λ (y : Option Setup). comes_as cs place y (Content (origin_of e) b.words)) there) ∙ b.comes)

      go : (own : Bool) → Contains (told_to cs name.Source own) b.words → SourceWeighs (read_one kind_rules o e)
      go true has = elim (contains-cases more_content b.words [] has) [
        | inl is ↦ at_more o e b x told.0 (sym is) x.inv.source.stage refl
        | inr none ↦ absurd (contains-none b.words none)
      ]
      go false has = elim (contains-cases start_content b.words [] has) [
        | inl is ↦ at_start o e b x told.0 (sym is) x.inv.source.stage refl
        | inr none ↦ absurd (contains-none b.words none)
      ]

  pub source_weighs : (o : Outlined Kind) (es : List Taken) → AllByRecursion (Brings (comes setups cs place)) es → SourceWeighs o → SourceWeighs (read kind_rules o es)
  source_weighs o [] all x = x
  source_weighs o (e ∷ es) all x = source_weighs (read_one kind_rules o e) es all.1 (one_weighs o e all.0 x)

-- What a part does with content that it took: what it tells comes to whom it tells it, where all is at rest.
use Rattle.std.proofs.Common.{◌≡◌, ℕ, Bool, true, false, List, [], ◌∷◌, Option, Some, inl, inr, refl, sym, subst, ap, ◌∙◌}
use Rattle.std.specs.Prelude.{Contains}
use Rattle.std.specs.List.{AllByRecursion}
use Rattle.caf_index.proofs.ContainsLemmas.{contains-none, contains-cases, from-map}
use Rattle.caf_mailbox.proofs.NextLemmas.{all_append}
use Rattle.caf_message.specs.declared.envelope.Plain.{Plain}
use Rattle.caf_message.specs.declared.envelope.Plain.TheVariants as «plain»
use Rattle.caf_message.specs.declared.envelope.Taken.{Taken}
use Rattle.caf_types.specs.declared.notice.Notice.TheVariants as notice
use Rattle.caf_record.proofs.ListLemmas.{all_left, all_right}
use Rattle.caf_actor.specs.declared.journal.TakenBatch.{TakenBatch}
use Rattle.caf_actor.specs.declared.snapshot.Snapshot.{Snapshot}
use Rattle.caf_actor.specs.Answering.{origin_of}
use Rattle.caf_actor.specs.PlainInput.{PlainInput, Content}
use Rattle.caf_actor.specs.PlainOutput.{PlainOutput}
use Rattle.caf_actor.specs.Record.{Kept, machine_of, IsLegal, IsAtRest, joined, posted}
use Rattle.caf_kinds.specs.Kinds.{kind_rules}
use Rattle.caf_kinds.specs.Setups.{setup_at}
use Rattle.caf_kinds.specs.declared.contents.Chunk.{Chunk}
use Rattle.caf_kinds.specs.declared.kind.Kind.{Kind}
use Rattle.caf_kinds.specs.declared.setup.Setup.{Setup}
use Rattle.caf_steady.specs.Classes.{BeginsSteady}
use Rattle.caf_steady.specs.Outline.{Outlined, Bare, outline_of, bare}
use Rattle.caf_steady.specs.Reading.{content, read, read_one, read_body, in_turn, all_in_turn}
use Rattle.caf_steady.specs.Steady.{Brings, BodyBrings, IsSteady}
use Rattle.caf_steady.proofs.ClassLemmas.{steady_behavior}
use Rattle.caf_steady.proofs.ReadingLemmas.{brought_in_turn, reads_in_turn}
use Rattle.caf_pipeline.specs.Contents.{comes_as, comes}
use Rattle.caf_pipeline.specs.Flow.{HasTaken}
use Rattle.caf_pipeline.proofs.ArrivalLemmas.{arrives, all_turns_have}
use Rattle.caf_pipeline.proofs.ClassLemmas.{Goes}
use Rattle.caf_pipeline.proofs.ReadLemmas.{HasTold, DoesTell, content_leads, content_on, content_now}

-- ---- what is brought to a part is content

pub record BringsContent (may : PlainInput → Bool) (e : Taken) : Type 0 where
  pub words : List ℕ
  pub body_is : e.body ≡ «plain».Content words
  pub no_reply : e.mid.response ≡ false
  pub comes : may (Content (origin_of e) words) ≡ true

pub brings_content : (cs : List Chunk) (place : ℕ) (s : Setup) (e : Taken) → Brings (comes_as cs place (Some s)) e → BringsContent (comes_as cs place (Some s)) e
brings_content cs place s e brings = go e.body refl brings
  where
    content_is : (words : List ℕ) → e.body ≡ «plain».Content words → (b : Bool) → e.mid.response ≡ b → BodyBrings (comes_as cs place (Some s)) (origin_of e) («plain».Content words) → BringsContent (comes_as cs place (Some s)) e
    content_is words q true r h = let bad = rw r at h in let no_such : false ≡ true = (bad 0).0 in absurd cc
    content_is words q false r h = record { words = words; body_is = q; no_reply = r; comes = rw r at h }

    go : (b : Plain) → e.body ≡ b → BodyBrings (comes_as cs place (Some s)) (origin_of e) b → BringsContent (comes_as cs place (Some s)) e
    go («plain».Content words) q h = content_is words q e.mid.response refl h
    go («plain».Failure sec) q h = let no_such : false ≡ true = h 0 in absurd cc
    go («plain».System notice.Start) q h = absurd cc
    go («plain».System notice.Stop) q h = absurd cc
    go («plain».System (notice.Exit from why)) q h = absurd h
    go («plain».System (notice.Link from)) q h = absurd h
    go («plain».System (notice.Unlink from)) q h = absurd h
    go («plain».System (notice.Watch from)) q h = absurd h
    go («plain».System (notice.Unwatch from)) q h = absurd h
    go («plain».System (notice.Down from why)) q h = absurd h
    go («plain».System (notice.Begin from)) q h = absurd h
    go («plain».System (notice.Tick from)) q h = absurd h

-- ---- reading it

module _ (setups : List Setup) (cs : List Chunk) (place : ℕ) (s : Setup) (there : setup_at setups place ≡ Some s) (Inv : Kind → Type 0)
    (goes : (b : Kind) (i : PlainInput) → Inv b → comes setups cs place i ≡ true → Goes setups cs place Inv b i) where
  pub as_content : (e : Taken) → Brings (comes setups cs place) e → BringsContent (comes setups cs place) e
  as_content e brings =
      subst (λ (o : Option Setup). BringsContent (comes_as cs place o) e) (sym there) (brings_content cs place s e (subst (λ (o : Option Setup). Brings (comes_as cs place o) e) there brings))

  pub one_reads : (o : Outlined Kind) (e : Taken) (words : List ℕ) → e.body ≡ «plain».Content words → e.mid.response ≡ false → read_one kind_rules o e ≡ content kind_rules o (origin_of e) words
  one_reads o e words body told = ap (read_body kind_rules o (origin_of e)) body ∙ rw told refl

  pub one_leads : (o : Outlined Kind) (e : Taken) → Inv o.outline.behavior → (is : BringsContent (comes setups cs place) e) → (read_one kind_rules o e).outline.behavior ≡ kind_rules.next o.outline.behavior (Content (origin_of e) is.words)
  one_leads o e inv is =
      let go = goes o.outline.behavior (Content (origin_of e) is.words) inv is.comes in
      ap (λ (x : Outlined Kind). x.outline.behavior) (one_reads o e is.words is.body_is is.no_reply) ∙ content_leads kind_rules o (origin_of e) is.words go.taken

  pub one_stays : (o : Outlined Kind) (e : Taken) → Inv o.outline.behavior → Brings (comes setups cs place) e → Inv (read_one kind_rules o e).outline.behavior
  one_stays o e inv brings =
      let is = as_content e brings in
      subst Inv (sym (one_leads o e inv is)) (goes o.outline.behavior (Content (origin_of e) is.words) inv is.comes).next

  module _ (to : ℕ) (said : List ℕ) where
    pub one_told : (o : Outlined Kind) (e : Taken) → Inv o.outline.behavior → Brings (comes setups cs place) e → HasTold to said o.sent → HasTold to said (read_one kind_rules o e).sent
    one_told o e inv brings told =
        let is = as_content e brings in
        let go = goes o.outline.behavior (Content (origin_of e) is.words) inv is.comes in
        subst (λ (x : Outlined Kind). HasTold to said x.sent) (sym (one_reads o e is.words is.body_is is.no_reply)) (content_on to said kind_rules o (origin_of e) is.words go.taken told)

    pub all_told : (o : Outlined Kind) (es : List Taken) → Inv o.outline.behavior → AllByRecursion (Brings (comes setups cs place)) es → HasTold to said o.sent → HasTold to said (read kind_rules o es).sent
    all_told o [] inv all told = told
    all_told o (e ∷ es) inv all told = all_told (read_one kind_rules o e) es (one_stays o e inv all.0) all.1 (one_told o e inv all.0 told)

    -- whatever value it has, it tells them at that content
    abbrev pub Tells : Taken → List ℕ → Type 0
    Tells e words = (b : Kind) → Inv b → (one : PlainOutput) × Contains (kind_rules.reaction b (Content (origin_of e) words)).outputs one × DoesTell to said one

    told_at : (o : Outlined Kind) (es : List Taken) (e : Taken) (words : List ℕ) → Inv o.outline.behavior → AllByRecursion (Brings (comes setups cs place)) es → Contains es e → e.body ≡ «plain».Content words → Tells e words
        → HasTold to said (read kind_rules o es).sent
    told_at o [] e words inv all has body tells = absurd (contains-none e has)
    told_at o (x ∷ xs) e words inv all has body tells = elim (contains-cases x e xs has) [
      | inl here ↦
          (let is = as_content x all.0 in
          let go = goes o.outline.behavior (Content (origin_of x) is.words) inv is.comes in
          let both : «plain».Content is.words ≡ «plain».Content words = sym is.body_is ∙ ap (λ (y : Taken). y.body) here ∙ body in
          let same : words ≡ is.words = cc in
          let does = tells o.outline.behavior inv in
          let input : Content (origin_of e) words ≡ Content (origin_of x) is.words = ap (λ (y : Taken). Content (origin_of y) words) (sym here) ∙ ap (Content (origin_of x)) same in
          all_told (read_one kind_rules o x) xs (one_stays o x inv all.0) all.1
          (subst (λ (y : Outlined Kind). HasTold to said y.sent) (sym (one_reads o x is.words is.body_is is.no_reply))
          (content_now to said kind_rules o (origin_of x) is.words go.taken does.0 (subst (λ (i : PlainInput). Contains (kind_rules.reaction o.outline.behavior i).outputs does.0) input does.1) does.2)))
      | inr later ↦ told_at (read_one kind_rules o x) xs e words (one_stays o x inv all.0) all.1 later body tells
    ]

    pub in_turns : (bs : List TakenBatch) → AllByRecursion (Brings (comes setups cs place)) (joined bs) → AllByRecursion (Brings (comes setups cs place)) (all_in_turn bs)
    in_turns [] all = tt
    in_turns (b ∷ bs) all =
        all_append (Brings (comes setups cs place)) (in_turn b.taken) (all_in_turn bs)
        (brought_in_turn kind_rules (comes setups cs place) b.taken (all_left (Brings (comes setups cs place)) b.taken (joined bs) all))
        (in_turns bs (all_right (Brings (comes setups cs place)) b.taken (joined bs) all))

    pub flows : (ticks : ℕ) (k : Kept (Snapshot Kind)) → IsLegal (machine_of kind_rules) ticks k → IsAtRest (machine_of kind_rules) k → BeginsSteady (comes setups cs) kind_rules place (k.start place) → Inv (k.start place).behavior
        → AllByRecursion (Brings (comes setups cs place)) (joined (k.journal place)) → (words : List ℕ) (taken : HasTaken k place words) → Tells taken.envelope words → HasTaken k to said
    flows ticks k legal rest begins inv all words taken tells =
        let steady : IsSteady kind_rules (comes setups cs place) (k.start place) = record { behavior = steady_behavior (comes setups cs) kind_rules place (k.start place).behavior begins.keeps; begun = begins.begun; here = begins.here; awaits = begins.awaits } in
        let has_read = reads_in_turn kind_rules (comes setups cs place) (k.start place) (k.journal place) steady begins.empty all in
        let told = told_at (record { outline = outline_of (k.start place); sent = [] }) (all_in_turn (k.journal place)) taken.envelope words inv (in_turns (k.journal place) all) (all_turns_have (k.journal place) taken.envelope taken.is_taken) taken.body_is tells in
        let there = subst (λ (bs : List Bare). Contains bs told.bare) (sym has_read.sent) told.is_sent in
        let from = from-map bare told.bare (posted (machine_of kind_rules) (k.start place) (k.journal place)) there in
        let post = from.0 in
        let goes_to : post.to ≡ to = ap (λ (b : Bare). b.to) from.2 ∙ told.to_is in
        record {
          envelope = post.envelope;
          is_taken = subst (λ (q : ℕ). Contains (joined (k.journal q)) post.envelope) goes_to (arrives (machine_of kind_rules) ticks k legal rest place post from.1);
          body_is = ap (λ (b : Bare). b.body) from.2 ∙ told.body_is;
        }

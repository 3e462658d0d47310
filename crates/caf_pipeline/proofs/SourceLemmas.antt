-- The source keeps to what may come.
use Rattle.std.proofs.Common.{◌≡◌, ℕ, zero, suc, ◌-◌, Bool, true, false, List, [], ◌∷◌, length, map, take, drop, Option, Some, inl, inr, refl, sym, subst, ap, ◌∙◌}
use Rattle.std.specs.Prelude.{◌==◌, slice_get, Contains}
use Rattle.std.specs.List.{AllByRecursion}
use Rattle.caf_types.specs.declared.notice.Priority.TheVariants as priority
use Rattle.caf_index.proofs.ContainsLemmas.{contains-none, contains-here, contains-later, contains-cases, contains-map}
use Rattle.caf_carriers.proofs.CountLemmas.{self_same}
use Rattle.caf_mailbox.proofs.NextLemmas.{all_append}
use Rattle.caf_actor.specs.declared.origin.Origin.{Origin}
use Rattle.caf_actor.specs.Answering.{is_asked}
use Rattle.caf_actor.specs.PlainInput.{PlainInput, Content}
use Rattle.caf_actor.specs.PlainOutput.{PlainOutput}
use Rattle.caf_actor.specs.PlainOutput as output
use Rattle.caf_kinds.specs.FileChunks.{AreChunks}
use Rattle.caf_kinds.specs.Kinds.{kind_rules, as_kind}
use Rattle.caf_kinds.specs.Pipeline.{chunk_content, finish_content, to_peer}
use Rattle.caf_kinds.specs.Reacting.{answers, done}
use Rattle.caf_kinds.specs.Setups.{setup_at}
use Rattle.caf_kinds.specs.Source.{Sourced, more_content, tells_all, tells_itself, follows, finish_of, next_chunks, chunks_left, goes_on, on_start, on_more, last_peer}
use Rattle.caf_kinds.specs.Who.{Who}
use Rattle.caf_kinds.specs.declared.contents.Chunk.{Chunk}
use Rattle.caf_kinds.specs.declared.kind.Kind.{Kind}
use Rattle.caf_kinds.specs.declared.kind.Kind.TheVariants as kind
use Rattle.caf_kinds.specs.declared.setup.KindName.TheVariants as name
use Rattle.caf_kinds.specs.declared.setup.Setup.{Setup}
use Rattle.caf_kinds.specs.declared.source.Stage.{Stage}
use Rattle.caf_kinds.specs.declared.source.Stage.TheVariants as stage
use Rattle.caf_steady.specs.Classes.{AlwaysKeeps, MaySend}
use Rattle.caf_pipeline.specs.Undisturbed.{Pipeline, IsPipeline}
use Rattle.caf_pipeline.specs.Parts.{start_content, told_finish}
use Rattle.caf_pipeline.specs.Contents.{told_to, comes_as, comes}
use Rattle.caf_pipeline.proofs.ClassLemmas.{told_comes, at_content, Goes, goes_as, always_keeps}
use Rattle.caf_pipeline.proofs.TellerLemmas.{finish_comes}

-- ---- parts of a list

front_has : {A : Type 0} (n : ℕ) (xs : List A) (x : A) → Contains (take n xs) x → Contains xs x
front_has zero xs x has = absurd (contains-none x has)
front_has (suc n) [] x has = absurd (contains-none x has)
front_has (suc n) (y ∷ ys) x has = elim (contains-cases y x (take n ys) has) [
  | inl is ↦ subst (Contains (y ∷ ys)) is (contains-here y ys)
  | inr later ↦ contains-later y x ys (front_has n ys x later)
]

back_has : {A : Type 0} (n : ℕ) (xs : List A) (x : A) → Contains (drop n xs) x → Contains xs x
back_has zero xs x has = has
back_has (suc n) [] x has = absurd (contains-none x has)
back_has (suc n) (y ∷ ys) x has = contains-later y x ys (back_has n ys x has)

module _ (setups : List Setup) (cs : List Chunk) (p : Pipeline) (are : IsPipeline setups p) (each : AreChunks cs) where
  -- ---- the source

  -- a source with these chunks, however many it has told
  pub record SourcesFor (who : Who) (b : Kind) : Type 0 where
    pub source : Sourced
    pub is : b ≡ kind.Source source
    pub identity : source.identity ≡ who
    pub chunks : source.chunks ≡ cs

  module _ (place : ℕ) (who : Who) (here : place ≡ p.source) (at : who.place ≡ p.source) (peers : who.peers ≡ p.lines ∷ p.relay ∷ p.collector ∷ []) where
    abbrev May : PlainOutput → Type 0
    May = MaySend (comes setups cs) place

    own : (place == p.source) ≡ true
    own = ap (λ (q : ℕ). place == q) (sym here) ∙ self_same place

    itself_may : (s : Sourced) → s.identity ≡ who → May (tells_itself s)
    itself_may s same =
        subst (λ (to : ℕ). May (output.Tell to priority.Normal more_content)) (sym (ap (λ (w : Who). w.place) same ∙ at))
        (told_comes setups cs name.Source (p.lines ∷ p.relay ∷ p.collector ∷ []) p.source place priority.Normal more_content are.source (subst (λ (own : Bool). Contains (told_to cs name.Source own) more_content) (sym own) (contains-here more_content [])))

    chunk_may : (s : Sourced) (c : Chunk) → s.identity ≡ who → Contains cs c → May (tells_all s c)
    chunk_may s c same has =
        let all : s.identity.peers ≡ p.lines ∷ p.relay ∷ p.collector ∷ [] = ap (λ (w : Who). w.peers) same ∙ peers in
        subst (λ (ps : List ℕ). May (output.TellMany (take (length ps - 1) ps) priority.Normal (chunk_content c))) (sym all) (
          told_comes setups cs name.Lines (p.collector ∷ []) p.lines place priority.Normal (chunk_content c) are.lines (contains-map chunk_content c cs has),
          (told_comes setups cs name.Relay p.counters p.relay place priority.Normal (chunk_content c) are.relay (contains-map chunk_content c cs has), tt),
        )

    chunks_may : (s : Sourced) (ds : List Chunk) → s.identity ≡ who → ((c : Chunk) → Contains ds c → Contains cs c) → AllByRecursion May (map (tells_all s) ds)
    chunks_may s [] same into = tt
    chunks_may s (d ∷ ds) same into = (chunk_may s d same (into d (contains-here d ds)), chunks_may s ds same (λ c has. into c (contains-later d c ds has)))

    follows_may : (s : Sourced) (left : List Chunk) → s.identity ≡ who → s.chunks ≡ cs → AllByRecursion May (follows s left)
    follows_may s (c ∷ left) same chunks = (itself_may s same, tt)
    follows_may s [] same chunks =
        let all : s.identity.peers ≡ p.lines ∷ p.relay ∷ p.collector ∷ [] = ap (λ (w : Who). w.peers) same ∙ peers in
        subst (λ (ds : List Chunk). AllByRecursion May (to_peer (last_peer s) (finish_content (finish_of (length ds))))) (sym chunks)
        (subst (λ (ps : List ℕ). AllByRecursion May (to_peer (slice_get ps (length ps - 1)) (told_finish (length cs)))) (sym all)
        (told_comes setups cs name.Collector [] p.collector place priority.Normal (told_finish (length cs)) are.collector (finish_comes setups cs p are each), tt))

    not_asked : (o : Origin) → is_asked o ≡ false → is_asked o ≡ true → ⊥
    not_asked o told asked = let both : false ≡ true = sym told ∙ asked in cc

    start_goes : (s : Sourced) (o : Origin) (now : Stage) → s.stage ≡ now → s.identity ≡ who → s.chunks ≡ cs → is_asked o ≡ false → Goes setups cs place (SourcesFor who) (kind.Source s) (Content o start_content)
    start_goes s o stage.Waiting e same chunks told =
        goes_as setups cs place (SourcesFor who) (kind.Source s) (Content o start_content) (as_kind kind.Source (on_start stage.Waiting s)) (ap (λ (t : Stage). as_kind kind.Source (on_start t s)) e) refl
        (itself_may s same, tt) (λ asked. absurd (not_asked o told asked)) refl (record { source = record s { stage = stage.Telling }; is = refl; identity = same; chunks = chunks })
    start_goes s o stage.Telling e same chunks told =
        goes_as setups cs place (SourcesFor who) (kind.Source s) (Content o start_content) (as_kind kind.Source (s, answers done)) (ap (λ (t : Stage). as_kind kind.Source (on_start t s)) e) refl
        tt (λ asked. absurd (not_asked o told asked)) refl (record { source = s; is = refl; identity = same; chunks = chunks })
    start_goes s o stage.Done e same chunks told =
        goes_as setups cs place (SourcesFor who) (kind.Source s) (Content o start_content) (as_kind kind.Source (s, answers done)) (ap (λ (t : Stage). as_kind kind.Source (on_start t s)) e) refl
        tt (λ asked. absurd (not_asked o told asked)) refl (record { source = s; is = refl; identity = same; chunks = chunks })

    more_goes : (s : Sourced) (o : Origin) (now : Stage) → s.stage ≡ now → s.identity ≡ who → s.chunks ≡ cs → is_asked o ≡ false → Goes setups cs place (SourcesFor who) (kind.Source s) (Content o more_content)
    more_goes s o stage.Telling e same chunks told =
        goes_as setups cs place (SourcesFor who) (kind.Source s) (Content o more_content) (as_kind kind.Source (goes_on s)) (ap (λ (t : Stage). as_kind kind.Source (on_more t s)) e) refl
        (all_append May (map (tells_all s) (next_chunks s)) (follows s (chunks_left s))
        (chunks_may s (next_chunks s) same (λ c has. subst (λ (ds : List Chunk). Contains ds c) chunks (back_has s.told s.chunks c (front_has 32 (drop s.told s.chunks) c has))))
        (follows_may s (chunks_left s) same chunks))
        (λ asked. absurd (not_asked o told asked)) refl (record { source = (goes_on s).0; is = refl; identity = same; chunks = chunks })
    more_goes s o stage.Waiting e same chunks told =
        goes_as setups cs place (SourcesFor who) (kind.Source s) (Content o more_content) (as_kind kind.Source (s, answers done)) (ap (λ (t : Stage). as_kind kind.Source (on_more t s)) e) refl
        tt (λ asked. absurd (not_asked o told asked)) refl (record { source = s; is = refl; identity = same; chunks = chunks })
    more_goes s o stage.Done e same chunks told =
        goes_as setups cs place (SourcesFor who) (kind.Source s) (Content o more_content) (as_kind kind.Source (s, answers done)) (ap (λ (t : Stage). as_kind kind.Source (on_more t s)) e) refl
        tt (λ asked. absurd (not_asked o told asked)) refl (record { source = s; is = refl; identity = same; chunks = chunks })

    source_told : (s : Sourced) (o : Origin) (words : List ℕ) → s.identity ≡ who → s.chunks ≡ cs → is_asked o ≡ false → (own : Bool) → Contains (told_to cs name.Source own) words
        → Goes setups cs place (SourcesFor who) (kind.Source s) (Content o words)
    source_told s o words same chunks told false has =
        elim (contains-cases start_content words [] has) [
          | inl is ↦ subst (λ (ws : List ℕ). Goes setups cs place (SourcesFor who) (kind.Source s) (Content o ws)) is (start_goes s o s.stage refl same chunks told)
          | inr none ↦ absurd (contains-none words none)
        ]
    source_told s o words same chunks told true has =
        elim (contains-cases more_content words [] has) [
          | inl is ↦ subst (λ (ws : List ℕ). Goes setups cs place (SourcesFor who) (kind.Source s) (Content o ws)) is (more_goes s o s.stage refl same chunks told)
          | inr none ↦ absurd (contains-none words none)
        ]

    pub source_goes : (s : Setup) → s.kind ≡ name.Source → (b : Kind) (i : PlainInput) → SourcesFor who b → comes_as cs place (Some s) i ≡ true → Goes setups cs place (SourcesFor who) b i
    source_goes s is b i inv e =
        subst (λ (k : Kind). Goes setups cs place (SourcesFor who) k i) (sym inv.is)
        (at_content setups cs place (Goes setups cs place (SourcesFor who) (kind.Source inv.source)) s name.Source is
        (λ o words told has. source_told inv.source o words inv.identity inv.chunks told (o.sender == place) has) (λ o words from_0 has. absurd (contains-none words has)) i e)

    pub source_keeps : (s : Setup) → setup_at setups place ≡ Some s → s.kind ≡ name.Source → (c : Sourced) → c.identity ≡ who → c.chunks ≡ cs → AlwaysKeeps (comes setups cs) kind_rules place (kind.Source c)
    source_keeps s there is c same chunks =
        always_keeps setups cs place (SourcesFor who) (λ b inv ids. ap (λ (k : Kind). kind_rules.skips k ids) inv.is)
        (λ b i inv e. source_goes s is b i inv (sym (ap (λ (o : Option Setup). comes_as cs place o i) there) ∙ e)) (kind.Source c)
        (record { source = c; is = refl; identity = same; chunks = chunks })

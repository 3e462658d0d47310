-- A source that took [start] is past waiting for it, and the conductor tells it that at Start.
use Rattle.std.proofs.Common.{◌≡◌, ℕ, ◌==◌, Bool, true, false, List, [], ◌∷◌, inl, inr, refl, sym, subst, ap, ◌∙◌}
use Rattle.std.specs.Prelude.{Contains, ◌⊎◌}
use Rattle.std.specs.List.{AllByRecursion}
use Rattle.caf_index.proofs.ContainsLemmas.{contains-none, contains-cases}
use Rattle.caf_message.specs.declared.envelope.Plain.TheVariants as «plain»
use Rattle.caf_message.specs.declared.envelope.Taken.{Taken}
use Rattle.caf_actor.specs.Answering.{origin_of}
use Rattle.caf_actor.specs.PlainInput.{PlainInput, Content}
use Rattle.caf_actor.specs.Record.{Kept, machine_of, ends}
use Rattle.caf_actor.specs.Run.{Turn}
use Rattle.caf_actor.specs.declared.snapshot.Snapshot.{Snapshot}
use Rattle.caf_kinds.specs.FileChunks.{all_chunks}
use Rattle.caf_kinds.specs.Kinds.{kind_rules}
use Rattle.caf_kinds.specs.Source.{Sourced, more_content, stage_with, chunks_left, on_start, on_more}
use Rattle.caf_kinds.specs.declared.contents.Chunk.{Chunk}
use Rattle.caf_kinds.specs.declared.kind.Kind.{Kind}
use Rattle.caf_kinds.specs.declared.kind.Kind.TheVariants as kind
use Rattle.caf_kinds.specs.declared.script.Step.{Step}
use Rattle.caf_kinds.specs.declared.setup.KindName.TheVariants as name
use Rattle.caf_kinds.specs.declared.setup.Setup.{Setup}
use Rattle.caf_kinds.specs.declared.source.Stage.{Stage}
use Rattle.caf_kinds.specs.declared.source.Stage.TheVariants as stage
use Rattle.caf_steady.specs.Outline.{Outline, Outlined, outline_of}
use Rattle.caf_steady.specs.Reading.{read, read_one, all_in_turn}
use Rattle.caf_steady.specs.Steady.{Brings}
use Rattle.caf_pipeline.specs.Contents.{told_to, comes}
use Rattle.caf_pipeline.specs.Parts.{start_content}
use Rattle.caf_pipeline.specs.Flow.{HasTaken, IsUndisturbedRecord}
use Rattle.caf_pipeline.specs.Indexed.{HasStarted}
use Rattle.caf_pipeline.proofs.ArrivalLemmas.{all_turns_have}
use Rattle.caf_pipeline.proofs.CollectedLemmas.{chunks, brought}
use Rattle.caf_pipeline.proofs.DoneLemmas.{src, up, who, read_at, begins_source}
use Rattle.caf_pipeline.proofs.ClassLemmas.{Goes}
use Rattle.caf_pipeline.proofs.FlowLemmas.{BringsContent, as_content, one_leads, one_stays, in_turns}
use Rattle.caf_pipeline.proofs.GoingLemmas.{Sources, going}
use Rattle.caf_pipeline.proofs.ProgressLemmas.{is_told}

-- ---- the source

after_start : (s : Sourced) (t : Stage) → s.stage ≡ t → (on_start t s).0.stage ≡ stage.Waiting → ⊥
after_start s stage.Waiting q e = absurd cc
after_start s stage.Telling q e = (let bad : stage.Telling ≡ stage.Waiting = sym q ∙ e in absurd cc)
after_start s stage.Done q e = (let bad : stage.Done ≡ stage.Waiting = sym q ∙ e in absurd cc)

never_waits : (left : List Chunk) → stage_with left ≡ stage.Waiting → ⊥
never_waits [] e = absurd cc
never_waits (c ∷ left) e = absurd cc

after_more : (s : Sourced) (t : Stage) → (s.stage ≡ stage.Waiting → ⊥) → (on_more t s).0.stage ≡ stage.Waiting → ⊥
after_more s stage.Telling begun e = never_waits (chunks_left s) e
after_more s stage.Waiting begun e = begun e
after_more s stage.Done begun e = begun e

module _ (setups : List Setup) (script : List Step) (files : List (List ℕ)) (ticks : ℕ) (k : Kept (Snapshot Kind)) (ts : List Turn) (is : IsUndisturbedRecord setups script files ticks k ts) where
  abbrev cs : List Chunk
  cs = all_chunks files

  abbrev σ : ℕ
  σ = src setups script files ticks k ts is

  abbrev Src : Kind → Type 0
  Src = Sources setups cs is.undisturbed.pipeline is.undisturbed.actors (chunks setups script files ticks k ts is) σ (who setups script files ticks k ts is) refl refl is.undisturbed.actors.source.peers_are
      (up setups script files ticks k ts is) is.undisturbed.actors.source.at is.undisturbed.actors.source.kind_is

  my_goes : (b : Kind) (i : PlainInput) → Src b → comes setups cs σ i ≡ true → Goes setups cs σ Src b i
  my_goes = going setups cs is.undisturbed.pipeline is.undisturbed.actors (chunks setups script files ticks k ts is) σ (who setups script files ticks k ts is) refl refl is.undisturbed.actors.source.peers_are
      (up setups script files ticks k ts is) is.undisturbed.actors.source.at is.undisturbed.actors.source.kind_is

  one_begins : (o : Outlined Kind) (e : Taken) → Brings (comes setups cs σ) e → Src o.outline.behavior → HasStarted o.outline.behavior ⊎ (e.body ≡ «plain».Content start_content) → HasStarted (read_one kind_rules o e).outline.behavior
  one_begins o e brings inv before = go ((origin_of e).sender == σ) told
    where
      b : BringsContent (comes setups cs σ) e
      b = as_content setups cs σ (up setups script files ticks k ts is) is.undisturbed.actors.source.at Src my_goes e brings

      told : Contains (told_to cs name.Source ((origin_of e).sender == σ)) b.words
      told = is_told setups cs is.undisturbed.pipeline is.undisturbed.actors (chunks setups script files ticks k ts is) σ (who setups script files ticks k ts is) refl refl is.undisturbed.actors.source.peers_are
          (up setups script files ticks k ts is) is.undisturbed.actors.source.at is.undisturbed.actors.source.kind_is e b

      leads : (read_one kind_rules o e).outline.behavior ≡ kind_rules.next (kind.Source inv.source) (Content (origin_of e) b.words)
      leads = one_leads setups cs σ (up setups script files ticks k ts is) is.undisturbed.actors.source.at Src my_goes o e inv b ∙ ap (λ (x : Kind). kind_rules.next x (Content (origin_of e) b.words)) inv.is

      as_words : (words : List ℕ) → b.words ≡ words → (read_one kind_rules o e).outline.behavior ≡ kind_rules.next (kind.Source inv.source) (Content (origin_of e) words)
      as_words words q = leads ∙ ap (λ (ws : List ℕ). kind_rules.next (kind.Source inv.source) (Content (origin_of e) ws)) q

      at_start : b.words ≡ start_content → HasStarted (read_one kind_rules o e).outline.behavior
      at_start q = subst HasStarted (sym (as_words start_content q)) (λ w. after_start inv.source inv.source.stage refl w)

      at_more : b.words ≡ more_content → HasStarted o.outline.behavior ⊎ (e.body ≡ «plain».Content start_content) → HasStarted (read_one kind_rules o e).outline.behavior
      at_more q (inl begun) = subst HasStarted (sym (as_words more_content q)) (λ w. after_more inv.source inv.source.stage (subst HasStarted inv.is begun) w)
      at_more q (inr body) = (let both : «plain».Content b.words ≡ «plain».Content start_content = sym b.body_is ∙ body in let same : b.words ≡ start_content = cc in at_start same)

      go : (own : Bool) → Contains (told_to cs name.Source own) b.words → HasStarted (read_one kind_rules o e).outline.behavior
      go true has = elim (contains-cases more_content b.words [] has) [ inl same ↦ at_more (sym same) before | inr none ↦ absurd (contains-none b.words none) ]
      go false has = elim (contains-cases start_content b.words [] has) [ inl same ↦ at_start (sym same) | inr none ↦ absurd (contains-none b.words none) ]

  stays : (o : Outlined Kind) (e : Taken) → Brings (comes setups cs σ) e → Src o.outline.behavior → Src (read_one kind_rules o e).outline.behavior
  stays o e brings inv = one_stays setups cs σ (up setups script files ticks k ts is) is.undisturbed.actors.source.at Src my_goes o e inv brings

  all_begun : (o : Outlined Kind) (es : List Taken) → AllByRecursion (Brings (comes setups cs σ)) es → Src o.outline.behavior → HasStarted o.outline.behavior → HasStarted (read kind_rules o es).outline.behavior
  all_begun o [] all inv begun = begun
  all_begun o (e ∷ es) all inv begun = all_begun (read_one kind_rules o e) es all.1 (stays o e all.0 inv) (one_begins o e all.0 inv (inl begun))

  begins_at : (o : Outlined Kind) (es : List Taken) (e : Taken) → AllByRecursion (Brings (comes setups cs σ)) es → Src o.outline.behavior → Contains es e → e.body ≡ «plain».Content start_content → HasStarted (read kind_rules o es).outline.behavior
  begins_at o [] e all inv has body = absurd (contains-none e has)
  begins_at o (x ∷ xs) e all inv has body = elim (contains-cases x e xs has) [
    | inl same ↦ all_begun (read_one kind_rules o x) xs all.1 (stays o x all.0 inv) (one_begins o x all.0 inv (inr (ap (λ (y : Taken). y.body) same ∙ body)))
    | inr later ↦ begins_at (read_one kind_rules o x) xs e all.1 (stays o x all.0 inv) later body
  ]

  pub started : HasTaken k σ start_content → HasStarted (ends (machine_of kind_rules) k σ).behavior
  started taken =
      let has_read = read_at setups script files ticks k ts is σ (up setups script files ticks k ts is) is.undisturbed.actors.source.at in
      let all = in_turns setups cs σ (up setups script files ticks k ts is) is.undisturbed.actors.source.at Src my_goes σ [] (k.journal σ) (brought setups script files ticks k ts is σ) in
      subst HasStarted (sym (ap (λ (o : Outline Kind). o.behavior) has_read.stands))
      (begins_at (record { outline = outline_of (k.start σ); sent = [] }) (all_in_turn (k.journal σ)) taken.envelope all (begins_source setups script files ticks k ts is)
      (all_turns_have (k.journal σ) taken.envelope taken.is_taken) taken.body_is)

-- A source that has told all leaves the relay with all chunks, where all is at rest.
use Rattle.std.proofs.Common.{◌≡◌, ℕ, List, [], take, Some, refl, sym, subst, ap, ◌∙◌}
use Rattle.std.specs.Prelude.{Contains}
use Rattle.std.proofs.lemmas.List.{take_all}
use Rattle.caf_index.proofs.ContainsLemmas.{contains-none, from-map}
use Rattle.caf_actor.specs.Record.{Kept, machine_of, IsAtRest, ends, joined, posted}
use Rattle.caf_actor.specs.Run.{Turn}
use Rattle.caf_actor.specs.declared.snapshot.Snapshot.{Snapshot}
use Rattle.caf_kinds.specs.FileChunks.{all_chunks}
use Rattle.caf_kinds.specs.Kinds.{kind_rules}
use Rattle.caf_kinds.specs.Pipeline.{chunk_content}
use Rattle.caf_kinds.specs.Setups.{setup_at}
use Rattle.caf_kinds.specs.Source.{Sourced}
use Rattle.caf_kinds.specs.Source as source
use Rattle.caf_kinds.specs.Starting.{who_of}
use Rattle.caf_kinds.specs.Who.{Who}
use Rattle.caf_kinds.specs.declared.contents.Chunk.{Chunk}
use Rattle.caf_kinds.specs.declared.kind.Kind.{Kind}
use Rattle.caf_kinds.specs.declared.kind.Kind.TheVariants as kind
use Rattle.caf_kinds.specs.declared.script.Step.{Step}
use Rattle.caf_kinds.specs.declared.setup.KindName.TheVariants as name
use Rattle.caf_kinds.specs.declared.setup.Setup.{Setup}
use Rattle.caf_kinds.specs.declared.source.Stage.TheVariants as stage
use Rattle.caf_steady.specs.Outline.{Outline, Bare, outline_of, bare}
use Rattle.caf_steady.specs.Reading.{all_in_turn}
use Rattle.caf_steady.specs.Steady.{HasRead, IsSteady, reading}
use Rattle.caf_steady.proofs.ClassLemmas.{steady_behavior}
use Rattle.caf_steady.proofs.ReadingLemmas.{reads_in_turn}
use Rattle.caf_pipeline.specs.Contents.{comes}
use Rattle.caf_pipeline.specs.Flow.{HasTaken, IsUndisturbedRecord}
use Rattle.caf_pipeline.specs.Indexed.{IsRelayed, HasToldAll, ToldFilesAreIndexed}
use Rattle.caf_pipeline.proofs.ArrivalLemmas.{arrives}
use Rattle.caf_pipeline.proofs.CollectedLemmas.{chunks, brought, steady, starts, begins_as}
use Rattle.caf_pipeline.proofs.FlowLemmas.{in_turns}
use Rattle.caf_pipeline.proofs.IndexedLemmas.{files_are_indexed}
use Rattle.caf_pipeline.proofs.ProgressLemmas.{goes, Progress, progress}
use Rattle.caf_pipeline.proofs.ReadLemmas.{HasTold}
use Rattle.caf_pipeline.proofs.SourceLemmas.{SourcesFor}

module _ (setups : List Setup) (script : List Step) (files : List (List ℕ)) (ticks : ℕ) (k : Kept (Snapshot Kind)) (ts : List Turn) (is : IsUndisturbedRecord setups script files ticks k ts) where
  pub read_at : (q : ℕ) (s : Setup) → setup_at setups q ≡ Some s → HasRead kind_rules (comes setups (all_chunks files) q) (k.start q) (k.journal q)
  read_at q s at =
      let begun = steady setups script files ticks k ts is q (starts setups script files ticks k ts is q s at).within in
      let steady_now : IsSteady kind_rules (comes setups (all_chunks files) q) (k.start q) = record { behavior = steady_behavior (comes setups (all_chunks files)) kind_rules q (k.start q).behavior begun.keeps; begun = begun.begun; here = begun.here; awaits = begun.awaits } in
      reads_in_turn kind_rules (comes setups (all_chunks files) q) (k.start q) (k.journal q) steady_now begun.empty (brought setups script files ticks k ts is q)

  -- what reading tells was taken, at rest
  pub told_arrives : (rest : IsAtRest (machine_of kind_rules) k) (q to : ℕ) (said : List ℕ) → HasRead kind_rules (comes setups (all_chunks files) q) (k.start q) (k.journal q)
      → HasTold to said (reading kind_rules (k.start q) (k.journal q)).sent → HasTaken k to said
  told_arrives rest q to said has_read told =
      let there = subst (λ (bs : List Bare). Contains bs told.bare) (sym has_read.sent) told.is_sent in
      let from = from-map bare told.bare (posted (machine_of kind_rules) (k.start q) (k.journal q)) there in
      let post = from.0 in
      let goes_to : post.to ≡ to = ap (λ (b : Bare). b.to) from.2 ∙ told.to_is in
      record {
        envelope = post.envelope;
        is_taken = subst (λ (r : ℕ). Contains (joined (k.journal r)) post.envelope) goes_to (arrives (machine_of kind_rules) ticks k is.legal rest q post from.1);
        body_is = ap (λ (b : Bare). b.body) from.2 ∙ told.body_is;
      }

  -- ---- the source

  abbrev pub src : ℕ
  src = is.undisturbed.pipeline.source

  abbrev pub up : Setup
  up = is.undisturbed.actors.source.setup

  abbrev pub who : Who
  who = who_of src up

  pub begins_source : SourcesFor setups (all_chunks files) is.undisturbed.pipeline is.undisturbed.actors (chunks setups script files ticks k ts is) who (k.start src).behavior
  begins_source =
      let at = is.undisturbed.actors.source.at in
      let as_source = begins_as setups script files ticks k ts is src up name.Source at is.undisturbed.actors.source.kind_is in
      let stand = starts setups script files ticks k ts is src up at in
      record { source = source.started who stand.own; is = as_source; identity = refl; chunks = ap all_chunks (stand.all is.undisturbed.actors.source.kind_is) }

  pub source_waits : begins_source.source.stage ≡ stage.Waiting
  unfolding begins_source
  source_waits = refl

  pub source_told : begins_source.source.told ≡ 0
  unfolding begins_source
  source_told = refl

  pub progress_at_end : Progress setups (all_chunks files) is.undisturbed.pipeline is.undisturbed.actors (chunks setups script files ticks k ts is) src who refl refl is.undisturbed.actors.source.peers_are up is.undisturbed.actors.source.at is.undisturbed.actors.source.kind_is
      (reading kind_rules (k.start src) (k.journal src))
  unfolding begins_source
  progress_at_end =
      let made = is.undisturbed.actors.source in
      let cs = all_chunks files in
      let are = is.undisturbed.actors in
      let each = chunks setups script files ticks k ts is in
      let all = in_turns setups cs src up made.at (SourcesFor setups cs is.undisturbed.pipeline are each who) (goes setups cs is.undisturbed.pipeline are each src who refl refl made.peers_are up made.at made.kind_is) src [] (k.journal src) (brought setups script files ticks k ts is src) in
      progress setups cs is.undisturbed.pipeline are each src who refl refl made.peers_are up made.at made.kind_is (record { outline = outline_of (k.start src); sent = [] }) (all_in_turn (k.journal src)) all
      (record { inv = begins_source; told = λ c has. absurd (contains-none c has); done = λ d. absurd cc })

  pub relayed_all : (rest : IsAtRest (machine_of kind_rules) k) → HasToldAll (ends (machine_of kind_rules) k src).behavior → IsRelayed k is.undisturbed.pipeline files
  relayed_all rest told_all c has =
      let has_read = read_at src up is.undisturbed.actors.source.at in
      let h = progress_at_end in
      let same : (ends (machine_of kind_rules) k src).behavior ≡ kind.Source h.inv.source = ap (λ (o : Outline Kind). o.behavior) has_read.stands ∙ h.inv.is in
      let done : h.inv.source.stage ≡ stage.Done = subst HasToldAll same told_all in
      let whole : take h.inv.source.told (all_chunks files) ≡ all_chunks files = take_all h.inv.source.told (all_chunks files) (h.done done) in
      told_arrives rest src is.undisturbed.pipeline.relay (chunk_content c) has_read (h.told c (subst (λ (ds : List Chunk). Contains ds c) (sym whole) has))

pub told_files_are_indexed : ToldFilesAreIndexed
told_files_are_indexed setups script files ticks k ts is rest told = files_are_indexed setups script files ticks k ts is rest (relayed_all setups script files ticks k ts is rest told)

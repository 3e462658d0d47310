-- At rest no source is telling: what it told itself would wait.
use Rattle.std.proofs.Common.{◌≡◌, ℕ, ◌==◌, ◌&&◌, Bool, true, false, List, [], ◌∷◌, ◌++◌, Some, refl, sym, subst, ap, ◌∙◌}
use Rattle.std.specs.Prelude.{Contains}
use Rattle.std.specs.List.{AllByRecursion}
use Rattle.std.proofs.lemmas.List.Elements.{Contains-append_left}
use Rattle.caf_index.proofs.ContainsLemmas.{contains-none}
use Rattle.caf_record.proofs.ListLemmas.{all_left, all_right}
use Rattle.caf_record.proofs.MergeLemmas.{merge_runs}
use Rattle.caf_record.proofs.StampedLemmas.{has_stamps}
use Rattle.caf_message.specs.declared.envelope.Taken.{Taken}
use Rattle.caf_actor.specs.Merge.{batches_in, steps_of}
use Rattle.caf_actor.specs.Record.{Kept, Machine, machine_of, IsAtRest, ends, heard, holds_notice, joined}
use Rattle.caf_actor.specs.Run.{State, Step, Turn, Take, run, opening_state, take_batch}
use Rattle.caf_actor.specs.declared.journal.TakenBatch.{TakenBatch}
use Rattle.caf_actor.specs.declared.snapshot.Snapshot.{Snapshot}
use Rattle.caf_kinds.specs.FileChunks.{AreChunks, all_chunks}
use Rattle.caf_kinds.specs.Kinds.{kind_rules}
use Rattle.caf_kinds.specs.Setups.{setup_at}
use Rattle.caf_kinds.specs.Who.{Who}
use Rattle.caf_kinds.specs.declared.contents.Chunk.{Chunk}
use Rattle.caf_kinds.specs.declared.kind.Kind.{Kind}
use Rattle.caf_kinds.specs.declared.script.Step.{Step as ScriptStep}
use Rattle.caf_kinds.specs.declared.setup.KindName.TheVariants as name
use Rattle.caf_kinds.specs.declared.setup.Setup.{Setup}
use Rattle.caf_kinds.specs.declared.source.Stage.{Stage}
use Rattle.caf_kinds.specs.declared.source.Stage.TheVariants as stage
use Rattle.caf_steady.specs.Steady.{Brings}
use Rattle.caf_steady.proofs.ClassLemmas.{steady_behavior}
use Rattle.caf_pipeline.specs.Undisturbed.{Pipeline, IsPipeline}
use Rattle.caf_pipeline.specs.Contents.{comes}
use Rattle.caf_pipeline.specs.Flow.{IsUndisturbedRecord}
use Rattle.caf_pipeline.specs.Indexed.{HasToldAll, HasStarted, StartedFilesAreIndexed}
use Rattle.caf_pipeline.proofs.CollectedLemmas.{chunks, brought, steady, starts}
use Rattle.caf_pipeline.proofs.DoneLemmas.{src, up, who, begins_source, source_waits, told_files_are_indexed}
use Rattle.caf_pipeline.proofs.GoingLemmas.{Waits, waits_on}

all_quiet : (ts : List Turn) → heard (batches_in 0 ts) ≡ [] → AllByRecursion (λ (t : Turn). ((0 == t.place) && holds_notice t.batch) ≡ false) ts
all_quiet [] none = tt
all_quiet (t ∷ ts) none = go (all_quiet ts) (0 == t.place) refl (holds_notice t.batch) refl
  where
    go : (heard (batches_in 0 ts) ≡ [] → AllByRecursion (λ (u : Turn). ((0 == u.place) && holds_notice u.batch) ≡ false) ts) → (b : Bool) → (0 == t.place) ≡ b → (c : Bool) → holds_notice t.batch ≡ c
        → AllByRecursion (λ (u : Turn). ((0 == u.place) && holds_notice u.batch) ≡ false) (t ∷ ts)
    go later true q true r = let bad : ◌≡◌ {A = List TakenBatch} (t.batch ∷ heard (batches_in 0 ts)) [] = rw (q, r) at none in cc
    go later true q false r = (rw (q, r) refl, later (rw (q, r) at none))
    go later false q c r = (rw q refl, later (rw q at none))

module _ (setups : List Setup) (cs : List Chunk) (p : Pipeline) (are : IsPipeline setups p) (each : AreChunks cs) (place : ℕ) (who : Who) (here : place ≡ p.source) (at : who.place ≡ p.source)
    (peers : who.peers ≡ p.lines ∷ p.relay ∷ p.collector ∷ []) (s : Setup) (there : setup_at setups place ≡ Some s) (kind_is : s.kind ≡ name.Source) where
  abbrev m : Machine (Snapshot Kind)
  m = machine_of kind_rules

  abbrev pub WaitsIn : State (Snapshot Kind) → Type 0
  WaitsIn x = Waits setups cs p are each place who here at peers s there kind_is (x.snapshot place) (x.waiting place place)

  turn_waits : (x : State (Snapshot Kind)) (t : Turn) → WaitsIn x → (b : Bool) → (place == t.place) ≡ b → (b ≡ true → AllByRecursion (Brings (comes setups cs place)) t.batch.taken) → WaitsIn (take_batch m x t)
  turn_waits x t h true q brings = rw q (waits_on setups cs p are each place who here at peers s there kind_is (x.snapshot place) (x.waiting place place) t.batch.taken h (brings refl))
  turn_waits x t h false q brings = rw q (record { inv = h.inv; steady = h.steady; empty = h.empty; some = λ d. (let e = h.some d in (e.0, Contains-append_left (x.waiting place place) [] e.0 e.1)) })

  pub run_waits : (ticks : ℕ) (ts : List Turn) (x : State (Snapshot Kind)) → WaitsIn x → AllByRecursion (λ t. ((0 == t.place) && holds_notice t.batch) ≡ false) ts
      → AllByRecursion (Brings (comes setups cs place)) (joined (batches_in place ts)) → WaitsIn (run m ticks x (steps_of ts))
  run_waits ticks [] x h quiet all = h
  run_waits ticks (t ∷ ts) x h quiet all =
      let same : steps_of (t ∷ ts) ≡ Take t ∷ steps_of ts = rw quiet.0 refl in
      subst (λ (st : List Step). WaitsIn (run m ticks x st)) (sym same) (go (place == t.place) refl (run_waits ticks ts (take_batch m x t)))
    where
      go : (b : Bool) → (place == t.place) ≡ b
          → (WaitsIn (take_batch m x t) → AllByRecursion (λ u. ((0 == u.place) && holds_notice u.batch) ≡ false) ts → AllByRecursion (Brings (comes setups cs place)) (joined (batches_in place ts)) → WaitsIn (run m ticks (take_batch m x t) (steps_of ts)))
          → WaitsIn (run m ticks (take_batch m x t) (steps_of ts))
      go true q later =
          let both : AllByRecursion (Brings (comes setups cs place)) (t.batch.taken ++ joined (batches_in place ts)) = rw q at all in
          later (turn_waits x t h true q (λ e. all_left (Brings (comes setups cs place)) t.batch.taken (joined (batches_in place ts)) both)) quiet.1
          (all_right (Brings (comes setups cs place)) t.batch.taken (joined (batches_in place ts)) both)
      go false q later = later (turn_waits x t h false q (λ e. absurd cc)) quiet.1 (rw q at all)

module _ (setups : List Setup) (script : List ScriptStep) (files : List (List ℕ)) (ticks : ℕ) (k : Kept (Snapshot Kind)) (ts : List Turn) (is : IsUndisturbedRecord setups script files ticks k ts) where
  abbrev σ : ℕ
  σ = src setups script files ticks k ts is

  abbrev WaitsAt : Snapshot Kind → List Taken → Type 0
  WaitsAt = Waits setups (all_chunks files) is.undisturbed.pipeline is.undisturbed.actors (chunks setups script files ticks k ts is) σ (who setups script files ticks k ts is) refl refl is.undisturbed.actors.source.peers_are
      (up setups script files ticks k ts is) is.undisturbed.actors.source.at is.undisturbed.actors.source.kind_is

  begins_waiting : WaitsAt (k.start σ) ((opening_state k.places k.start).waiting σ σ)
  begins_waiting =
      let begun = steady setups script files ticks k ts is σ (starts setups script files ticks k ts is σ (up setups script files ticks k ts is) is.undisturbed.actors.source.at).within in
      record {
        inv = begins_source setups script files ticks k ts is;
        steady = record { behavior = steady_behavior (comes setups (all_chunks files)) kind_rules σ (k.start σ).behavior begun.keeps; begun = begun.begun; here = begun.here; awaits = begun.awaits };
        empty = begun.empty;
        some = λ d. (let bad : stage.Waiting ≡ stage.Telling = sym (source_waits setups script files ticks k ts is) ∙ d in absurd cc);
      }

  ends_waiting : IsAtRest (machine_of kind_rules) k → WaitsAt (ends (machine_of kind_rules) k σ) []
  ends_waiting rest =
      let merged = merge_runs (machine_of kind_rules) (has_stamps kind_rules) ticks k is.legal ts is.merge in
      let made = is.undisturbed.actors.source in
      let end = run_waits setups (all_chunks files) is.undisturbed.pipeline is.undisturbed.actors (chunks setups script files ticks k ts is) σ (who setups script files ticks k ts is) refl refl made.peers_are
      (up setups script files ticks k ts is) made.at made.kind_is ticks ts (opening_state k.places k.start) begins_waiting (all_quiet ts (ap heard (is.merge.parts 0) ∙ is.silent))
      (subst (λ (bs : List TakenBatch). AllByRecursion (Brings (comes setups (all_chunks files) σ)) (joined bs)) (sym (is.merge.parts σ)) (brought setups script files ticks k ts is σ)) in
      subst (λ (es : List Taken). WaitsAt (ends (machine_of kind_rules) k σ) es) (merged.1.0.waiting σ σ ∙ rest.taken σ σ)
      (subst (λ (x : Snapshot Kind). WaitsAt x ((run (machine_of kind_rules) ticks (opening_state k.places k.start) (steps_of ts)).waiting σ σ)) (merged.1.0.snapshots σ) end)

  pub told_all : IsAtRest (machine_of kind_rules) k → HasStarted (ends (machine_of kind_rules) k σ).behavior → HasToldAll (ends (machine_of kind_rules) k σ).behavior
  told_all rest started =
      let end = ends_waiting rest in
      subst HasToldAll (sym end.inv.is) (go end.inv.source.stage end.inv.source.stage refl (subst HasStarted end.inv.is started) end.some)
    where
      go : (t s : Stage) → t ≡ s → (t ≡ stage.Waiting → ⊥) → (t ≡ stage.Telling → (e : Taken) × Contains [] e) → t ≡ stage.Done
      go t stage.Waiting q started some = absurd (started q)
      go t stage.Telling q started some = let e = some q in absurd (contains-none e.0 e.1)
      go t stage.Done q started some = q

pub started_files_are_indexed : StartedFilesAreIndexed
started_files_are_indexed setups script files ticks k ts is rest started = told_files_are_indexed setups script files ticks k ts is rest (told_all setups script files ticks k ts is rest started)

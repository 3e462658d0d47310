-- What a complete record of opened actors keeps.
use Rattle.std.specs.Prelude.{◌≡◌, ◌≢◌, ℕ, ◌<◌, List, ◌++◌, None}
use Rattle.caf_actor.specs.declared.journal.TakenBatch.{TakenBatch}
use Rattle.caf_actor.specs.declared.snapshot.Snapshot.{Snapshot}
use Rattle.caf_actor.specs.Merge.{IsMerge, steps_of}
use Rattle.caf_actor.specs.Record.{Kept, machine_of, after, ends, IsComplete}
use Rattle.caf_actor.specs.Run.{Turn, IsRun, opening_state, run, EndsAs}
use Rattle.caf_carriers.specs.Delivery.{IsAllTaken, IsAsItQuit}
use Rattle.caf_carriers.specs.Requests.{HasCarriedRequests, HasStandingRequests, resolved_in}
use Rattle.caf_kinds.specs.Kinds.{IsValid, kind_rules}
use Rattle.caf_kinds.specs.declared.kind.Kind.{Kind}
use Rattle.caf_kinds.specs.declared.script.Step.{Step}
use Rattle.caf_kinds.specs.declared.setup.Setup.{Setup}
use Rattle.caf_pipeline.specs.Contents.{AreIndexable, OpensAs}
use Rattle.caf_pipeline.specs.Indexed.{IsIndexed}
use Rattle.caf_pipeline.specs.Undisturbed.{IsUndisturbed}
use Rattle.caf_headline.specs.Fresh.{IsOpening}

-- merged by stamp, its batches are a run of the actor machine on one thread, which ends as the record does
pub record IsARun (ticks : ℕ) (k : Kept (Snapshot Kind)) (ts : List Turn) : Type 0 where
  pub run_is : IsRun (machine_of kind_rules) ticks (opening_state k.places k.start) (steps_of ts)
  pub ends_are : EndsAs (machine_of kind_rules) k (run (machine_of kind_rules) ticks (opening_state k.places k.start) (steps_of ts))

-- whatever batches a place takes after the one in which it quit, none of them reaches its behaviour
abbrev pub NoneAfterQuitting : Kept (Snapshot Kind) → Type 0
NoneAfterQuitting k = (p : ℕ) (early late : List TakenBatch) → k.journal p ≡ early ++ late
    → (after (machine_of kind_rules) (k.start p) early).quit ≢ None → IsAsItQuit (after (machine_of kind_rules) (k.start p) early) (ends (machine_of kind_rules) k p)

-- no request resolves twice, and each of one that hasn't quit did or stands in exactly one place; every place but 0
-- has quit, and every request of place 0 resolved exactly once
pub record RequestsEnd (ticks : ℕ) (k : Kept (Snapshot Kind)) (ts : List Turn) : Type 0 where
  pub carried : HasCarriedRequests IsValid kind_rules ticks k ts
  pub standing : HasStandingRequests IsValid kind_rules ticks k ts
  pub all_quit : (p : ℕ) → 0 < p → p < k.places → (ends (machine_of kind_rules) k p).quit ≢ None
  pub resolved : (n : ℕ) → 0 < n → n < (ends (machine_of kind_rules) k 0).pending.next → resolved_in IsValid kind_rules ticks k ts 0 n ≡ 1

-- ---- all of it

-- of these actors over these files, where the batches are merged so
pub record KeepsPromises (setups : List Setup) (script : List Step) (files : List (List ℕ)) (ticks : ℕ) (k : Kept (Snapshot Kind)) (ts : List Turn) : Type 0 where
  pub is_run : IsARun ticks k ts
  pub all_taken : IsAllTaken (machine_of kind_rules) k
  pub none_after : NoneAfterQuitting k
  pub requests : RequestsEnd ticks k ts
  pub indexed : (is : IsUndisturbed setups script) → AreIndexable files → ticks ≡ 0 → IsIndexed k is.pipeline files

abbrev pub CompleteRunsKeepTheirPromises : Type 0
CompleteRunsKeepTheirPromises = (setups : List Setup) (script : List Step) (files : List (List ℕ)) (ticks : ℕ) (k : Kept (Snapshot Kind)) (ts : List Turn)
    → IsOpening setups script files → OpensAs setups script files k → IsComplete (machine_of kind_rules) ticks k → IsMerge k ts
    → KeepsPromises setups script files ticks k ts

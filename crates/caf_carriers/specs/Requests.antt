-- What is said of the requests of a record.
use Rattle.std.specs.Prelude.{◌≡◌, ℕ, ◌+◌, ◌<◌, ◌≤◌, false, List, ◌++◌, None}
use Rattle.std.specs.List.{AllByRecursion}
use Rattle.caf_response.specs.Pending.{waiting_count}
use Rattle.caf_actor.specs.declared.snapshot.Snapshot.{Snapshot}
use Rattle.caf_actor.specs.Rules.{Rules}
use Rattle.caf_actor.specs.Eligibility.{is_eligible}
use Rattle.caf_actor.specs.Quitting.{all_cached}
use Rattle.caf_actor.specs.Record.{Kept, machine_of, ends, sum_below, IsLegal, IsAtRest}
use Rattle.caf_actor.specs.Run.{Turn, Step}
use Rattle.caf_actor.specs.Merge.{IsMerge, steps_of}
use Rattle.caf_actor.specs.Resolutions.{Ends, times_resolved, times_answered}
use Rattle.caf_actor.specs.Carriers.{carriers_at, IsCarried, AreFresh, end_of, resolutions_of}

module _ {S : Type 0} (valid : S → Type 0) (rules : Rules S) (ticks : ℕ) (k : Kept (Snapshot S)) (ts : List Turn) where
  -- how often request `n` of place `a` is resolved in the run that the merge is
  abbrev pub resolved_in : ℕ → ℕ → ℕ
  resolved_in a n = times_resolved n (resolutions_of valid rules ticks k.places k.start (steps_of ts) a)

  pub record HasCarriedRequests : Type 0 where
    -- in every state of that run each request is carried
    pub carried : (front rest : List Step) → steps_of ts ≡ front ++ rest → (a n : ℕ) → a < k.places → 0 < n
        → IsCarried a n (end_of valid rules ticks k.places k.start front) (times_answered n (resolutions_of valid rules ticks k.places k.start front a))
    -- no request is resolved twice, and each by a value of the declared types or by an error
    pub once : (a n : ℕ) → a < k.places → resolved_in a n ≤ 1
    pub as_declared : (a : ℕ) → AllByRecursion Ends (resolutions_of valid rules ticks k.places k.start (steps_of ts) a)
    -- what an actor issued that hasn't quit waits at the end, or it was resolved
    pub settled : (a n : ℕ) → a < k.places → 0 < n → n < (ends (machine_of rules) k a).pending.next → (ends (machine_of rules) k a).quit ≡ None
        → waiting_count (ends (machine_of rules) k a).pending n + resolved_in a n ≡ 1

  -- an unresolved request of an actor that hasn't quit stands in exactly one place: one hold, or one cached
  -- envelope that isn't eligible
  pub record HasStandingRequests : Type 0 where
    pub one : (a n : ℕ) → a < k.places → 0 < n → n < (ends (machine_of rules) k a).pending.next → (ends (machine_of rules) k a).quit ≡ None → resolved_in a n ≡ 0
        → sum_below k.places (λ p. carriers_at a n (ends (machine_of rules) k p)) ≡ 1
    pub idle : (p : ℕ) → p < k.places → AllByRecursion (λ e. is_eligible rules (ends (machine_of rules) k p) e ≡ false) (all_cached (ends (machine_of rules) k p).caches)

module _ {S : Type 0} (valid : S → Type 0) (rules : Rules S) where
  -- so it is in the run of a legal record
  abbrev pub LegalIsCarried : Type 0
  LegalIsCarried = (ticks : ℕ) (k : Kept (Snapshot S)) (ts : List Turn) → AreFresh valid rules k.places k.start → IsLegal (machine_of rules) ticks k → IsMerge k ts
      → HasCarriedRequests valid rules ticks k ts

  -- and at the end of one that is at rest, as a complete one is
  abbrev pub RestingStands : Type 0
  RestingStands = (ticks : ℕ) (k : Kept (Snapshot S)) (ts : List Turn) → AreFresh valid rules k.places k.start → IsLegal (machine_of rules) ticks k → IsAtRest (machine_of rules) k → IsMerge k ts
      → HasStandingRequests valid rules ticks k ts

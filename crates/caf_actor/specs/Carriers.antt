-- Where a request, or the answer to it, is; and how often requests end.
use Rattle.std.specs.Prelude.{◌≡◌, ◌≢◌, ◌↔◌, ℕ, ◌+◌, ◌≤◌, ◌<◌, ◌==◌, ◌&&◌, ◌||◌, Bool, true, false, if◌then◌else◌, List, [], ◌∷◌, ◌++◌, count_by, Contains, None}
use Rattle.std.specs.List.{AllByRecursion}
use Rattle.caf_types.specs.declared.notice.Mid.{Mid}
use Rattle.caf_message.specs.declared.envelope.Taken.{Taken}
use Rattle.caf_message.specs.Envelope.{is_request, is_response, outside}
use Rattle.caf_response.specs.Pending.{is_waiting, waiting_count}
use Rattle.caf_response.specs.Holds.{is_of}
use Rattle.caf_actor.specs.declared.snapshot.Snapshot.{Snapshot}
use Rattle.caf_actor.specs.Rules.{Rules}
use Rattle.caf_actor.specs.Snapshot.{fresh}
use Rattle.caf_actor.specs.Eligibility.{is_eligible}
use Rattle.caf_actor.specs.Quitting.{all_cached}
use Rattle.caf_actor.specs.Resolutions.{Resolution, Ends, batch_resolves, times_resolved, times_answered, given_between}
use Rattle.caf_actor.specs.Record.{Kept, ends, IsCloser, IsComplete, machine_of, IsStill, sum_below}
use Rattle.caf_actor.specs.Run.{State, Turn, Step, Take, Speak, step, run, IsPossible, IsRun, opening_state}
use Rattle.caf_actor.specs.Merge.{IsMerge, steps_of}

-- ---- carriers of request `n` of place `a`

module _ (a n : ℕ) where
  abbrev pub is_mid : Mid → Bool
  is_mid mid = (mid.requester == a) && (mid.number == n)

  -- the envelope is the request, or a response to it
  abbrev pub carries : Taken → Bool
  carries e = (is_request e || is_response e) && is_mid e.mid

  -- those that a place has cached, and its holds of the request
  abbrev pub carriers_at : {S : Type 0} → Snapshot S → ℕ
  carriers_at s = count_by carries s.caches.urgent + count_by carries s.caches.normal + count_by (is_of a n) s.holds

  -- those that wait for a place: from the places and from the outside
  abbrev pub carriers_to : {S : Type 0} → State S → ℕ → ℕ
  carriers_to s b = sum_below s.places (λ from. count_by carries (s.waiting from b)) + count_by carries (s.waiting outside b)

  -- all of them
  abbrev pub carriers : {S : Type 0} → State (Snapshot S) → ℕ
  carriers s = sum_below s.places (λ p. carriers_at (s.snapshot p)) + sum_below s.places (carriers_to s)

  -- the request waits for its response
  abbrev pub waits : {S : Type 0} → State (Snapshot S) → Bool
  waits s = is_waiting (s.snapshot a).pending n

  -- how many due counts it has; these are no carriers
  abbrev pub due_counts : {S : Type 0} → State (Snapshot S) → ℕ
  due_counts s = count_by (λ (d : ℕ × ℕ). d.1 == n) (s.snapshot a).pending.due

  -- where responses resolved it so many times: none before it is issued, one while it waits, none once a
  -- response resolved it, and never more than one; and only while it waits it may have a due count
  pub record IsCarried {S : Type 0} (s : State (Snapshot S)) (times : ℕ) : Type 0 where
    pub unissued : (s.snapshot a).pending.next ≤ n → carriers s ≡ 0
    pub waiting : waits s ≡ true → carriers s ≡ 1
    pub answered : 0 < times → carriers s ≡ 0
    pub most : carriers s ≤ 1
    pub due : due_counts s ≤ 1
    pub only_waiting : waits s ≡ false → due_counts s ≡ 0

-- ---- the resolutions of a run

-- those of place `a` in a run
abbrev pub step_resolves : {S : Type 0} → Rules S → ℕ → State (Snapshot S) → Step → List Resolution
step_resolves rules a s (Take t) = if a == t.place then batch_resolves rules (s.snapshot a) t.batch.taken else []
step_resolves rules a s Speak = []

abbrev pub run_resolves : {S : Type 0} → Rules S → ℕ → ℕ → State (Snapshot S) → List Step → List Resolution
run_resolves rules ticks a s [] = []
run_resolves rules ticks a s (b ∷ steps) = step_resolves rules a s b ++ run_resolves rules ticks a (step (machine_of rules) ticks s b) steps

-- ---- what is said of them

-- it is the place of a child
abbrev pub IsReserved : {S : Type 0} → Rules S → ℕ → (ℕ → Snapshot S) → ℕ → Type 0
IsReserved rules places start p = (q : ℕ) × (q < places) × Contains (rules.reserve (start q).behavior) p

-- every place starts at its own place, has taken nothing, has peers and children among the places, and
-- has begun unless it is the place of a child
pub record AreFresh {S : Type 0} (valid : S → Type 0) (rules : Rules S) (places : ℕ) (start : ℕ → Snapshot S) : Type 0 where
  pub few : places ≤ outside
  pub fresh : (p : ℕ) → p < places → start p ≡ fresh rules (start p).has_begun p (start p).behavior (start p).stamp
  pub begun : (p : ℕ) → p < places → ((start p).has_begun ≡ false) ↔ IsReserved rules places start p
  pub place : (p : ℕ) → p < places → rules.place (start p).behavior ≡ p
  pub known : (p : ℕ) → p < places → valid (start p).behavior
  pub targets : (p : ℕ) → p < places → AllByRecursion (λ q. q < places) (rules.peers (start p).behavior ++ rules.reserve (start p).behavior)

module _ {S : Type 0} (valid : S → Type 0) (rules : Rules S) where
  abbrev pub end_of : ℕ → ℕ → (ℕ → Snapshot S) → List Step → State (Snapshot S)
  end_of ticks places start steps = run (machine_of rules) ticks (opening_state places start) steps

  -- the resolutions of place `a`
  abbrev pub resolutions_of : ℕ → ℕ → (ℕ → Snapshot S) → List Step → ℕ → List Resolution
  resolutions_of ticks places start steps a = run_resolves rules ticks a (opening_state places start) steps

  -- in every state of a run each request is carried
  abbrev pub OneCarrier : Type 0
  OneCarrier = (ticks places : ℕ) (start : ℕ → Snapshot S) (steps : List Step) → AreFresh valid rules places start
      → IsRun (machine_of rules) ticks (opening_state places start) steps
      → (a n : ℕ) → a < places → 0 < n
      → IsCarried a n (end_of ticks places start steps) (times_answered n (resolutions_of ticks places start steps a))

  -- a carrier arises only when its request is issued, or out of the former one
  abbrev pub CarrierArises : Type 0
  CarrierArises = (ticks places : ℕ) (start : ℕ → Snapshot S) (steps : List Step) (b : Step) → AreFresh valid rules places start
      → IsRun (machine_of rules) ticks (opening_state places start) (steps ++ b ∷ [])
      → (a n : ℕ) → a < places → 0 < n
      → carriers a n (end_of ticks places start (steps ++ b ∷ []))
      ≤ carriers a n (end_of ticks places start steps)
      + given_between ((end_of ticks places start steps).snapshot a).pending.next ((end_of ticks places start (steps ++ b ∷ [])).snapshot a).pending.next n

  -- no request is resolved twice
  abbrev pub ResolvesOnce : Type 0
  ResolvesOnce = (ticks places : ℕ) (start : ℕ → Snapshot S) (steps : List Step) → AreFresh valid rules places start
      → IsRun (machine_of rules) ticks (opening_state places start) steps
      → (a n : ℕ) → a < places → times_resolved n (resolutions_of ticks places start steps a) ≤ 1

  -- each is resolved by a value of the declared types or by an error, and by a tick by the error of ticks
  abbrev pub EndsAsDeclared : Type 0
  EndsAsDeclared = (ticks places : ℕ) (start : ℕ → Snapshot S) (steps : List Step) (a : ℕ)
      → AllByRecursion Ends (resolutions_of ticks places start steps a)

  -- what an actor issued that hasn't quit waits, or it was resolved
  abbrev pub WaitsOrIsResolved : Type 0
  WaitsOrIsResolved = (ticks places : ℕ) (start : ℕ → Snapshot S) (steps : List Step) → AreFresh valid rules places start
      → IsRun (machine_of rules) ticks (opening_state places start) steps
      → (a n : ℕ) → a < places → 0 < n → n < ((end_of ticks places start steps).snapshot a).pending.next
      → ((end_of ticks places start steps).snapshot a).quit ≡ None
      → waiting_count ((end_of ticks places start steps).snapshot a).pending n
      + times_resolved n (resolutions_of ticks places start steps a) ≡ 1

  -- at rest each carrier is a hold or a cached envelope, and no cached envelope is eligible
  abbrev pub CarriersRest : Type 0
  CarriersRest = (s : State (Snapshot S)) → IsStill (machine_of rules) s.places s.snapshot s.waiting
      → ((a n : ℕ) → carriers a n s ≡ sum_below s.places (λ p. carriers_at a n (s.snapshot p)))
      × ((p : ℕ) → p < s.places → AllByRecursion (λ e. is_eligible rules (s.snapshot p) e ≡ false) (all_cached (s.snapshot p).caches))

  -- at a rest, as before each tick and before Stop, an unresolved request of an actor that hasn't quit
  -- stands in exactly one place: one hold, or one cached envelope that isn't eligible
  abbrev pub StandsInOnePlace : Type 0
  StandsInOnePlace = (ticks places : ℕ) (start : ℕ → Snapshot S) (steps : List Step) → AreFresh valid rules places start
      → IsRun (machine_of rules) ticks (opening_state places start) steps
      → IsStill (machine_of rules) places (end_of ticks places start steps).snapshot (end_of ticks places start steps).waiting
      → (a n : ℕ) → a < places → 0 < n → n < ((end_of ticks places start steps).snapshot a).pending.next
      → ((end_of ticks places start steps).snapshot a).quit ≡ None
      → times_resolved n (resolutions_of ticks places start steps a) ≡ 0
      → (sum_below places (λ p. carriers_at a n ((end_of ticks places start steps).snapshot p)) ≡ 1)
      × ((p : ℕ) → p < places → AllByRecursion (λ e. carries a n e ≡ true → is_eligible rules ((end_of ticks places start steps).snapshot p) e ≡ false) (all_cached ((end_of ticks places start steps).snapshot p).caches))

  -- where a closer's record is complete, every other place has quit, and each request of place 0 was
  -- resolved once
  abbrev pub ClosesAll : Type 0
  ClosesAll = (ticks : ℕ) (k : Kept (Snapshot S)) (ts : List Turn) → AreFresh valid rules k.places k.start
      → IsCloser rules k.places (λ p. (k.start p).behavior) → IsComplete (machine_of rules) ticks k → IsMerge k ts
      → ((p : ℕ) → 0 < p → p < k.places → (ends (machine_of rules) k p).quit ≢ None)
      × ((n : ℕ) → 0 < n → n < (ends (machine_of rules) k 0).pending.next
      → times_resolved n (resolutions_of ticks k.places k.start (steps_of ts) 0) ≡ 1)

-- What a driver's record says of requests.
use Rattle.std.specs.Prelude.{◌≡◌, ◌≢◌, ℕ, ◌<◌, List, length, None}
use Rattle.caf_actor.specs.declared.snapshot.Snapshot.{Snapshot}
use Rattle.caf_actor.specs.Rules.{Rules}
use Rattle.caf_actor.specs.Record.{machine_of, ends, IsCloser}
use Rattle.caf_actor.specs.Run.{Turn}
use Rattle.caf_actor.specs.Merge.{IsMerge}
use Rattle.caf_actor.specs.Carriers.{AreFresh}
use Rattle.caf_carriers.specs.Requests.{resolved_in, HasCarriedRequests, HasStandingRequests}
use Rattle.caf_driver.specs.Driver.{DriverState, journals_of, record_in, ticks_in}

module _ {S : Type 0} (valid : S → Type 0) (rules : Rules S) (start : ℕ → Snapshot S) (d : DriverState S) where
  -- in the run that the record's merge is, each request has its one carrier in every state, none is resolved
  -- twice, and what an actor issued that hasn't quit waits or was resolved
  abbrev pub CarriesRequests : Type 0
  CarriesRequests = AreFresh valid rules (length (journals_of d)) start → (ts : List Turn) → IsMerge (record_in start d) ts → HasCarriedRequests valid rules (ticks_in d) (record_in start d) ts

  -- and each unresolved one of an actor that hasn't quit stands in exactly one hold or one cached envelope
  abbrev pub KeepsRequests : Type 0
  KeepsRequests = AreFresh valid rules (length (journals_of d)) start → (ts : List Turn) → IsMerge (record_in start d) ts → HasStandingRequests valid rules (ticks_in d) (record_in start d) ts

  -- where place 0 is a closer and the record is complete, every other place has quit, and each request of
  -- place 0 was resolved once
  abbrev pub ClosesRequests : Type 0
  ClosesRequests = AreFresh valid rules (length (journals_of d)) start → IsCloser rules (length (journals_of d)) (λ p. (start p).behavior) → (ts : List Turn) → IsMerge (record_in start d) ts
      → ((p : ℕ) → 0 < p → p < length (journals_of d) → (ends (machine_of rules) (record_in start d) p).quit ≢ None)
      × ((n : ℕ) → 0 < n → n < (ends (machine_of rules) (record_in start d) 0).pending.next → resolved_in valid rules (ticks_in d) (record_in start d) ts 0 n ≡ 1)

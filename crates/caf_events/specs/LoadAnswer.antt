-- What a loader answers.
use Rattle.std.specs.Prelude.{◌≡◌, ℕ, true, List, [], Some, Result, Ok, Err}
use Rattle.caf_types.specs.ShapeTree.{ShapeTree}
use Rattle.caf_words.specs.Datum.{Datum, fits}
use Rattle.caf_events.specs.Event.{Event, events}
use Rattle.caf_events.specs.Taking.{taking}
use Rattle.caf_events.specs.declared.fault.LoadFault.{LoadFault}
use Rattle.caf_events.specs.declared.fault.LoadFault.TheVariants as faults

-- no value has the input as its form, and the path is that of the input's fault; want of memory has no cause
abbrev pub Refused : (Datum → Type 0) → (List ℕ → Type 0) → LoadFault → Type 0
Refused Has At faults.Memory = Unit {0}
Refused Has At (faults.Unfit path) = At path × ((d : Datum) → Has d → ⊥)

-- the loader has the events of the value of the shape that has the input as its form, so they can be taken
abbrev pub Started : {L : Type 0} → (L → List Event) → ShapeTree → (Datum → Type 0) → (List ℕ → Type 0) → Result L LoadFault → Type 0
Started left f Has At (Ok loader) = (d : Datum) × Has d × (fits f d ≡ true) × (left loader ≡ events f d) × (taking f (left loader) ≡ Some (d, []))
Started left f Has At (Err fault) = Refused Has At fault

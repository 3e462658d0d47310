-- What a reader of JSON answers: what reading gives.
use Rattle.std.specs.Prelude.{◌≡◌, ℕ, List, Result, Ok, Err}
use Rattle.serde_json.specs.View.{view}
use Rattle.serde_json.specs.declared.value.Value.{Value}
use Rattle.caf_types.specs.ShapeTree.{ShapeTree}
use Rattle.caf_words.specs.Datum.{Datum}
use Rattle.caf_json.specs.Form.{HasJson}
use Rattle.caf_json.specs.Reading.{unjson}
use Rattle.caf_events.specs.declared.fault.LoadFault.{LoadFault}
use Rattle.caf_events.specs.declared.fault.LoadFault.TheVariants as faults

-- want of memory has no cause
abbrev pub Fails : {Y : Type 0} → LoadFault → Result Y (List ℕ) → Type 0
Fails faults.Memory read = Unit {0}
Fails (faults.Unfit path) read = read ≡ Err path

abbrev pub Gives : {X Y : Type 0} → (X → Y) → Result X LoadFault → Result Y (List ℕ) → Type 0
Gives view (Ok x) read = read ≡ Ok (view x)
Gives view (Err fault) read = Fails fault read

-- ---- of the JSON values of the program

abbrev pub IsFormOf : ShapeTree → Datum → Value → Type 0
IsFormOf f d json = HasJson f d (view json)

-- reading fails, and that is the path
abbrev pub UnfitAt : ShapeTree → Value → List ℕ → Type 0
UnfitAt f json path = unjson f (view json) ≡ Err path

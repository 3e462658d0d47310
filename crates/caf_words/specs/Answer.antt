-- What the readers of the code answered is what reading gives.
use Rattle.std.specs.Prelude.{◌≡◌, ℕ, ◌+◌, List, length, Result, Ok, Err}
use Rattle.caf_types.specs.Table.{Table}
use Rattle.caf_words.specs.Datum.{Data}
use Rattle.caf_words.specs.Several.{TypesSpell, whole_reading}
use Rattle.caf_words.specs.declared.stop.Stop.{Stop}
use Rattle.caf_words.specs.declared.stop.Stop.TheVariants as stops
use Rattle.caf_words.specs.declared.stop.SpellFault.{SpellFault}
use Rattle.caf_words.specs.declared.stop.SpellFault.TheVariants as faults

-- the reader stopped, and reading gives that fault: so much of the input is left from it on. Want of
-- memory has no cause
abbrev pub Fails : {Y : Type 0} → Stop → Result Y ℕ → Type 0
Fails stops.Memory read = Unit {0}
Fails (stops.Left n) read = read ≡ Err n

-- the reader answered what reading gives: the thing, seen as `view` sees it, or its fault
abbrev pub Gives : {X Y : Type 0} → (X → Y) → Result X Stop → Result Y ℕ → Type 0
Gives view (Ok x) read = read ≡ Ok (view x)
Gives view (Err e) read = Fails e read

-- the words are no spellings of values of the types, and the first fault is at that place
abbrev pub Faulty : SpellFault → Table → List ℕ → List ℕ → Type 0
Faulty faults.Memory t ids ws = Unit {0}
Faulty (faults.At place) t ids ws =
    ((ds : Data) → TypesSpell t ids ds ws → ⊥) × (left : ℕ) × (whole_reading t ids ws ≡ Err left) × (place + left ≡ length ws)

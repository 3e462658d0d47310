-- When a name is refused.
use Rattle.std.specs.Prelude.{◌≡◌, ℕ, List, true, false, Result, Ok, Err}
use Rattle.caf_types.specs.Name.{is_name}
use Rattle.caf_types.specs.declared.name.Name.{Name}
use Rattle.caf_types.specs.declared.name.NameFault.{NameFault}
use Rattle.caf_types.specs.declared.name.NameFault.TheVariants as faults

-- why a text is no name; want of memory has no cause
abbrev pub NameRefused : NameFault → List ℕ → Type 0
NameRefused faults.Form text = is_name text ≡ false
NameRefused faults.Memory text = Unit {0}

abbrev pub NameAnswer : Result Name NameFault → List ℕ → Type 0
NameAnswer (Ok name) text = (name ≡ text) × (is_name text ≡ true)
NameAnswer (Err fault) text = NameRefused fault text

-- The actors of a run, as they are set up: they have the places from 1 on.
use Rattle.std.specs.Prelude.{ℕ, ◌-◌, ◌==◌, if◌then◌else◌, List, Option, None, slice_get}
use Rattle.caf_kinds.specs.declared.setup.Setup.{Setup}

-- how the actor at the place is set up; None where no actor has it
abbrev pub setup_at : List Setup → ℕ → Option Setup
setup_at places to = if to == 0 then None else slice_get places (to - 1)

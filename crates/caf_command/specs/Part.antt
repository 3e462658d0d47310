-- What one word behind `run`, or two, say.
use Rattle.std.specs.Prelude.{ℕ, List}
use Rattle.caf_command.specs.declared.options.Valued.{Valued}

-- an option with its value, `--trace`, or the name of a file
pub data Part : Type 0 where
  Value : Valued → List ℕ → Part
  Trace : Part
  File : List ℕ → Part

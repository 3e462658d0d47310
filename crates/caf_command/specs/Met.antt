-- What a word behind `run` is by itself.
use Rattle.caf_command.specs.Part as parts
use Rattle.caf_command.specs.declared.options.Valued.{Valued}

-- a part, or an option whose value is the next word
pub data Met : Type 0 where
  Part : parts.Part → Met
  Opening : Valued → Met

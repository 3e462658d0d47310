-- What stands under a name, for one who wants an interface.
use Rattle.std.specs.Prelude.{ℕ, List, Option, Some, None, Result, Ok, Err, if◌then◌else◌}
use Rattle.caf_signature.specs.declared.interface.Signature.{Signature}
use Rattle.caf_signature.specs.declared.registry.FindFault.{FindFault}
use Rattle.caf_signature.specs.declared.registry.FindFault.TheVariants as faults
use Rattle.caf_signature.specs.Interface.{is_assignable}
use Rattle.caf_signature.specs.Registry.{Registered}

abbrev pub found_for : List Signature → Option Registered → Result ℕ FindFault
found_for wanted None = Err faults.Unknown
found_for wanted (Some registered) = if is_assignable registered.1 wanted then Ok registered.0 else Err faults.Interface

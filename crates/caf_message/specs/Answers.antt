-- When a message is refused, and when a view is. Want of memory has no cause.
use Rattle.std.specs.Prelude.{◌≡◌, ◌≢◌, ℕ, ◌<◌, ◌≤◌, List, length, Result, Ok, Err}
use Rattle.caf_tuple.specs.declared.block.TheConstants.{MOST_WORDS}
use Rattle.caf_tuple.specs.declared.fault.TupleFault.{TupleFault}
use Rattle.caf_tuple.specs.declared.fault.TupleFault.TheVariants as tuple_faults
use Rattle.caf_message.specs.declared.fault.MessageFault.{MessageFault}
use Rattle.caf_message.specs.declared.fault.MessageFault.TheVariants as message_faults
use Rattle.caf_message.specs.declared.fault.ViewFault.{ViewFault}
use Rattle.caf_message.specs.declared.fault.ViewFault.TheVariants as view_faults

-- the fault of a message whose tuple was not made
abbrev pub message_fault : TupleFault → MessageFault
message_fault tuple_faults.Large = message_faults.Large
message_fault tuple_faults.Memory = message_faults.Memory

-- `Large` exactly where the content is over the most words
abbrev pub LargeExactly : {A : Type 0} → Result A MessageFault → List ℕ → Type 0
LargeExactly (Ok x) content = length content ≤ MOST_WORDS
LargeExactly (Err message_faults.Large) content = MOST_WORDS < length content
LargeExactly (Err message_faults.Memory) content = Unit {0}

-- `Types` exactly where the IDs that stand there aren't those that are wanted
abbrev pub TypesExactly : {A : Type 0} → Result A ViewFault → List ℕ → List ℕ → Type 0
TypesExactly (Ok x) ids wanted = ids ≡ wanted
TypesExactly (Err view_faults.Types) ids wanted = ids ≢ wanted
TypesExactly (Err view_faults.Memory) ids wanted = Unit {0}

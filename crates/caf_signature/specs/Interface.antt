-- Interfaces: lists of signatures with differing inputs, and when one stands for another.
use Rattle.std.specs.Prelude.{◌≡◌, ◌≢◌, ℕ, Bool, ◌==◌, ◌&&◌, List, map, take, Option, Some, Result, Ok, Err, find, slice_get, All, AllPairs, Contains}
use Rattle.std.specs.List.{list_any, list_all}
use Rattle.std.specs.Option.{option_map}
use Rattle.std.specs.Cmp.Lexicographic.{pointwise}
use Rattle.caf_types.specs.declared.shape.TypeId.{TypeId}
use Rattle.caf_signature.specs.declared.interface.Signature.{Signature}
use Rattle.caf_signature.specs.declared.interface.InterfaceFault.{InterfaceFault}
use Rattle.caf_signature.specs.declared.interface.InterfaceFault.TheVariants as faults

-- ---- which lists are interfaces

abbrev pub inputs : List Signature → List (List TypeId)
inputs signatures = map (λ (s : Signature). s.input) signatures

abbrev pub HaveDifferingInputs : List Signature → Type 0
HaveDifferingInputs signatures = AllPairs (λ (s t : Signature). s.input ≢ t.input) signatures

-- the input at the position stands before it too, and no earlier position repeats one
abbrev pub IsFirstRepeat : List Signature → ℕ → Type 0
IsFirstRepeat signatures position =
    HaveDifferingInputs (take position signatures)
    × ((s : Signature) × (slice_get signatures position ≡ Some s) × Contains (inputs (take position signatures)) s.input)

-- an interface has the signatures as they are; since it takes no memory, want of memory is no answer
abbrev pub InterfaceAnswer : Result (List Signature) InterfaceFault → List Signature → Type 0
InterfaceAnswer (Ok interface) signatures = (interface ≡ signatures) × HaveDifferingInputs signatures
InterfaceAnswer (Err (faults.Twice position)) signatures = IsFirstRepeat signatures position
InterfaceAnswer (Err faults.Memory) signatures = ⊥

-- ---- when an actor of one interface is used through another

-- each signature of `to` is one of `from`
abbrev pub IsAssignable : List Signature → List Signature → Type 0
IsAssignable from to = All (Contains from) to

abbrev pub same_types : List TypeId → List TypeId → Bool
same_types = pointwise (λ (a b : TypeId). a.0 == b.0)

abbrev pub is_same : Signature → Signature → Bool
is_same s t = same_types s.input t.input && same_types s.result t.result

-- `IsAssignable` as a test
abbrev pub is_assignable : List Signature → List Signature → Bool
is_assignable from to = list_all (λ s. list_any (is_same s) from) to

-- ---- the result of an input

abbrev pub takes : List TypeId → Signature → Bool
takes input s = same_types input s.input

abbrev pub result_for : List Signature → List TypeId → Option (List TypeId)
result_for signatures input = option_map (λ (s : Signature). s.result) (find (takes input) signatures)

-- The types that the bank speaks with, and what its actors take.
use Rattle.std.specs.Prelude.{◌≡◌, ℕ, List, [], ◌∷◌, map, min, codes, Some}
use Rattle.std.specs.Ordering.{nat_cmp}
use Rattle.std.specs.FinMap as finite
use Rattle.caf_types.specs.ShapeTree.{ShapeTree, unit}
use Rattle.caf_types.specs.Table.{Table, named, built_in, with_block, shape_at}
use Rattle.caf_words.specs.Datum.{more, no_data, an_unsigned}
use Rattle.caf_message.specs.Entries.{TableEntries}
use Rattle.caf_signature.specs.declared.interface.Signature.{Signature}
use Rattle.caf_kinds.specs.Asking.{Types, atom, of_unsigned, type_ids, signature, content}

-- ---- the table

-- IDs 300 to 303: atoms, each of which tells a message from others
abbrev pub bank : Table
bank = with_block built_in (codes "bank") 300 (named (codes "deposit") unit ∷ named (codes "withdraw") unit ∷ named (codes "wait_for") unit ∷ named (codes "balance") unit ∷ [])

-- what a table has to have for the bank: all of these types
abbrev pub bank_entries : TableEntries
bank_entries = finite.from_entries {R = nat_cmp} bank.types

-- the table has the types with these IDs, and they have these shapes
abbrev pub AreBankRow : List ℕ → List ShapeTree → Type 0
AreBankRow ids shapes = map (shape_at bank) ids ≡ map (λ (f : ShapeTree). Some f) shapes

-- ---- what is asked, and its answer

abbrev pub depositing : Types
depositing = atom 300 of_unsigned

abbrev pub withdrawing : Types
withdrawing = atom 301 of_unsigned

abbrev pub waiting_for : Types
waiting_for = atom 302 of_unsigned

abbrev pub balance : Types
balance = atom 303 []

-- content with these IDs is answered by a number
abbrev pub signature_of : List ℕ → Signature
signature_of ids = signature ids (type_ids of_unsigned)

abbrev pub bank_interface : List Signature
bank_interface = map (λ types. signature_of (type_ids types)) (depositing ∷ withdrawing ∷ waiting_for ∷ balance ∷ [])

abbrev pub number_content : ℕ → List ℕ
number_content n = content of_unsigned (more (an_unsigned (min n 18446744073709551615)) no_data)

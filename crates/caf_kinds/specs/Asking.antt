-- What content asks: which types it has, and their values.
use Rattle.std.specs.Prelude.{◌≡◌, ℕ, ℤ, ◌+◌, ◌&&◌, Bool, true, not, List, [], ◌∷◌, length, min, drop, map, bytes_eq, if◌then◌else◌, Option, Some, None, Ok, Err}
use Rattle.caf_types.specs.ShapeTree.{ShapeTree, unit, unsigned, signed, text}
use Rattle.caf_types.specs.Table.{shape_at}
use Rattle.caf_types.specs.declared.shape.TypeId.{TypeId}
use Rattle.caf_words.specs.Datum.{Data, no_data, more, a_unit, an_unsigned, a_signed, are_in_range}
use Rattle.caf_words.specs.Reading.{Got}
use Rattle.caf_words.specs.Several.{several, several_fit}
use Rattle.caf_message.specs.Content.{content_of, ids_in}
use Rattle.caf_signature.specs.declared.interface.Signature.{Signature}
use Rattle.caf_signature.specs.Interface.{same_types}
use Rattle.std.specs.List.{list_any}
use Rattle.caf_kinds.specs.Core.{core}

-- ---- types of contents

-- the types of some elements, each with its shape
abbrev pub Types : Type 0
Types = List (ℕ × ShapeTree)

abbrev pub type_ids : Types → List ℕ
type_ids types = map (λ t. t.0) types

abbrev pub type_shapes : Types → List ShapeTree
type_shapes types = map (λ t. t.1) types

-- one atom of the block `core`, and others behind it
abbrev pub atom : ℕ → Types → Types
atom id types = (id, unit) ∷ types

abbrev pub of_unit : Types
of_unit = (0, unit) ∷ []

abbrev pub of_unsigned : Types
of_unsigned = (2, unsigned) ∷ []

abbrev pub of_signed : Types
of_signed = (3, signed) ∷ []

abbrev pub of_text : Types
of_text = (4, text) ∷ []

-- the table of the kinds has the types with these IDs, and they have these shapes
abbrev pub AreCoreRow : List ℕ → List ShapeTree → Type 0
AreCoreRow ids shapes = map (shape_at core) ids ≡ map (λ (f : ShapeTree). Some f) shapes

abbrev pub AreCore : Types → Type 0
AreCore types = AreCoreRow (type_ids types) (type_shapes types)

-- ---- signatures

abbrev pub type_id : ℕ → TypeId
type_id id = record { 0 = id }

-- content with the first IDs is answered by content with the others
abbrev pub signature : List ℕ → List ℕ → Signature
signature input result = record { input = map type_id input; result = map type_id result }

-- content of these types is answered by content of those
abbrev pub takes : Types → Types → Signature
takes input result = signature (type_ids input) (type_ids result)

-- ---- contents

abbrev pub content : Types → Data → List ℕ
content types values = content_of (type_ids types) values

-- [unit]
abbrev pub unit_content : List ℕ
unit_content = content of_unit (more a_unit no_data)

-- [unsigned]: a number stops at 2^64 - 1
abbrev pub unsigned_content : ℕ → List ℕ
unsigned_content n = content of_unsigned (more (an_unsigned (min n 18446744073709551615)) no_data)

-- [signed]
abbrev pub signed_content : ℤ → List ℕ
signed_content z = content of_signed (more (a_signed z) no_data)

-- ---- what is asked

-- the content has these types
abbrev pub has : Types → List ℕ → Bool
has types words = bytes_eq (type_ids types) (ids_in words)

-- the values, where they are of the shapes, and numbers and texts as they can be
abbrev pub sound : List ShapeTree → Data → Option Data
sound shapes values = if several_fit shapes values && are_in_range values then Some values else None

abbrev pub sound_read : List ShapeTree → Got Data → Option Data
sound_read shapes (Err left) = None
sound_read shapes (Ok read) = sound shapes read.0

-- the values of the content, where it has the types with these IDs and shapes
unfoldable pub asked_of : List ℕ → List ShapeTree → List ℕ → Option Data
asked_of ids shapes words = if bytes_eq ids (ids_in words) then sound_read shapes (several shapes (drop (length ids + 1) words)) else None

abbrev pub asked : Types → List ℕ → Option Data
asked types words = asked_of (type_ids types) (type_shapes types) words

-- ---- interfaces

-- the signature has that input
abbrev pub has_input : Signature → Signature → Bool
has_input s t = same_types s.input t.input

-- no input stands twice
abbrev pub inputs_differ : List Signature → Bool
inputs_differ [] = true
inputs_differ (s ∷ ss) = not (list_any (has_input s) ss) && inputs_differ ss

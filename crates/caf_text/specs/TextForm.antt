-- The text form of a value of a shape, in UTF-8. Each value has one.
use Rattle.std.specs.Prelude.{◌≡◌, ℕ, ◌/◌, ◌%◌, ◌==◌, ◌<◌, ◌^◌, ◌||◌, nat_lt, ℤ, Bool, true, false, if◌then◌else◌, List, [], ◌∷◌, ◌++◌, flat_map, codes, slice_index}
use Rattle.std.specs.Fmt.{decimal, signed_decimal}
use Rattle.std.specs.Int.{w64}
use Rattle.std.specs.Int.RustNames.{FitsSigned}
use Rattle.std.specs.Str.{IsUtf8}
use Rattle.hex.specs.Hex.{lower_digits, encode_lower}
use Rattle.caf_types.specs.ShapeTree.{ShapeTree, unit, flag, unsigned, signed, text, bytes, place, list, object, Parts, no_parts, part}
use Rattle.caf_words.specs.Datum.{Datum, a_unit, a_flag, an_unsigned, a_signed, a_text, some_bytes, a_place, a_list, an_object, Data, no_data, more, fits}
use Rattle.caf_words.specs.Spelling.{AreBytes}

-- ---- how a byte of a text is written between the quotes

-- the bytes below 32 but 10, and 127
abbrev pub is_escaped : ℕ → Bool
is_escaped b = if b == 10 then false else (nat_lt b 32 || b == 127)

abbrev pub escape : ℕ → List ℕ
escape b =
    if b == 34 || b == 92 then 92 ∷ b ∷ []
    else if b == 10 then 92 ∷ 110 ∷ []
    else if is_escaped b then 92 ∷ 120 ∷ slice_index lower_digits (b / 16) ∷ slice_index lower_digits (b % 16) ∷ []
    else b ∷ []

-- ---- the form

-- the bytes `, `, which stand between the parts of a list or an object
abbrev pub comma : List ℕ
comma = 44 ∷ 32 ∷ []

-- the bytes `: `, which stand behind a field's name
abbrev pub colon : List ℕ
colon = 58 ∷ 32 ∷ []

abbrev pub scalar_text : Datum → List ℕ
scalar_text a_unit = codes "unit"
scalar_text (a_flag true) = codes "true"
scalar_text (a_flag false) = codes "false"
scalar_text (an_unsigned n) = decimal n
scalar_text (a_signed z) = signed_decimal z
scalar_text (a_text bs) = 34 ∷ (flat_map escape bs ++ 34 ∷ [])
scalar_text (some_bytes bs) = 120 ∷ 34 ∷ (encode_lower bs ++ 34 ∷ [])
scalar_text (a_place n) = 64 ∷ decimal n
scalar_text _ = []

-- values, with `before` in front of the first and a comma in front of each other
abbrev pub joined : (Datum → List ℕ) → List ℕ → Data → List ℕ
joined one before no_data = []
joined one before (more d ds) = before ++ (one d ++ joined one comma ds)

abbrev pub list_text : (Datum → List ℕ) → Datum → List ℕ
list_text one (a_list ds) = 91 ∷ (joined one [] ds ++ 93 ∷ [])
list_text one _ = []

abbrev pub object_text : (Data → List ℕ) → Datum → List ℕ
object_text fields (an_object ds) = 123 ∷ (fields ds ++ 125 ∷ [])
object_text fields _ = []

abbrev pub field_text : List ℕ → List ℕ → (Datum → List ℕ) → (Data → List ℕ) → Data → List ℕ
field_text before name one others no_data = []
field_text before name one others (more d ds) = before ++ (name ++ (colon ++ (one d ++ others ds)))

abbrev mutual
  pub text_form : ShapeTree → Datum → List ℕ
  text_form (list f) = list_text (text_form f)
  text_form (object ps) = object_text (fields_text ps [])
  text_form _ = scalar_text

  pub fields_text : Parts → List ℕ → Data → List ℕ
  fields_text no_parts before ds = []
  fields_text (part name f ps) before ds = field_text before name (text_form f) (fields_text ps comma) ds

-- ---- which values have one: those of the shape that keep to these ranges

-- numbers of 64 bits, bytes below 256, and texts in UTF-8, each list as long as it may be
abbrev mutual
  pub KeepsRanges : Datum → Type 0
  KeepsRanges (an_unsigned n) = n < 2 ^ 64
  KeepsRanges (a_signed z) = FitsSigned w64 z
  KeepsRanges (a_text bs) = IsUtf8 bs
  KeepsRanges (some_bytes bs) = AreBytes bs
  KeepsRanges (a_list ds) = KeepRanges ds
  KeepsRanges (an_object ds) = KeepRanges ds
  KeepsRanges _ = Unit {0}

  pub KeepRanges : Data → Type 0
  KeepRanges no_data = Unit {0}
  KeepRanges (more d ds) = KeepsRanges d × KeepRanges ds

-- the value is of the shape, and the bytes are its text form
abbrev pub HasText : ShapeTree → Datum → List ℕ → Type 0
HasText f d bs = (fits f d ≡ true) × KeepsRanges d × (bs ≡ text_form f d)

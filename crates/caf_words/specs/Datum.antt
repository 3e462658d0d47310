-- Values as plain trees, and which of them are of a shape.
use Rattle.std.specs.Prelude.{ℕ, ◌+◌, ◌^◌, ◌&&◌, nat_lt, Bool, true, false, ℤ, pos, negsuc, List, [], ◌∷◌, length}
use Rattle.std.specs.List.{list_all}
use Rattle.std.specs.Str.{is_utf8}
use Rattle.caf_types.specs.ShapeTree.{ShapeTree, unit, flag, unsigned, signed, text, bytes, place, list, object, Parts, no_parts, part}
use Rattle.caf_types.specs.Limits.{places}

mutual
  pub data Datum : Type 0 where
    a_unit : Datum
    a_flag : Bool → Datum
    an_unsigned : ℕ → Datum
    a_signed : ℤ → Datum
    a_text : List ℕ → Datum
    some_bytes : List ℕ → Datum
    a_place : ℕ → Datum
    a_list : Data → Datum
    an_object : Data → Datum

  -- several values, one after the other
  pub data Data : Type 0 where
    no_data : Data
    more : Datum → Data → Data

abbrev pub count : Data → ℕ
count no_data = 0
count (more d ds) = count ds + 1

-- several values in front of others
abbrev pub front_of : List Datum → Data → Data
front_of [] es = es
front_of (d ∷ ds) es = more d (front_of ds es)

abbrev pub data_of : List Datum → Data
data_of ds = front_of ds no_data

-- ---- which values are of a shape

abbrev pub is_unit : Datum → Bool
is_unit a_unit = true
is_unit _ = false

abbrev pub is_flag : Datum → Bool
is_flag (a_flag b) = true
is_flag _ = false

abbrev pub is_unsigned : Datum → Bool
is_unsigned (an_unsigned n) = true
is_unsigned _ = false

abbrev pub is_signed : Datum → Bool
is_signed (a_signed z) = true
is_signed _ = false

abbrev pub is_text : Datum → Bool
is_text (a_text bs) = true
is_text _ = false

abbrev pub is_bytes : Datum → Bool
is_bytes (some_bytes bs) = true
is_bytes _ = false

abbrev pub is_place : Datum → Bool
is_place (a_place n) = nat_lt n places
is_place _ = false

abbrev pub is_list : (Data → Bool) → Datum → Bool
is_list test (a_list ds) = test ds
is_list test _ = false

abbrev pub is_object : (Data → Bool) → Datum → Bool
is_object test (an_object ds) = test ds
is_object test _ = false

abbrev pub all_fit : (Datum → Bool) → Data → Bool
all_fit test no_data = true
all_fit test (more d ds) = test d && all_fit test ds

abbrev pub is_none : Data → Bool
is_none no_data = true
is_none (more d ds) = false

abbrev pub on_first : (Datum → Bool) → (Data → Bool) → Data → Bool
on_first first others no_data = false
on_first first others (more d ds) = first d && others ds

abbrev mutual
  pub fits : ShapeTree → Datum → Bool
  fits unit = is_unit
  fits flag = is_flag
  fits unsigned = is_unsigned
  fits signed = is_signed
  fits text = is_text
  fits bytes = is_bytes
  fits place = is_place
  fits (list f) = is_list (all_fit (fits f))
  fits (object ps) = is_object (each_fits ps)

  -- one value for each field, in order
  pub each_fits : Parts → Data → Bool
  each_fits no_parts = is_none
  each_fits (part name f ps) = on_first (fits f) (each_fits ps)

-- ---- what all values of the program keep to: numbers of 64 bits, bytes, and texts in UTF-8

abbrev pub is_i64 : ℤ → Bool
is_i64 (pos n) = nat_lt n (2 ^ 63)
is_i64 (negsuc n) = nat_lt n (2 ^ 63)

abbrev pub are_bytes : List ℕ → Bool
are_bytes bs = nat_lt (length bs) (2 ^ 64) && list_all (λ b. nat_lt b 256) bs

abbrev pub is_counted : ℕ → Bool → Bool
is_counted n others = nat_lt n (2 ^ 64) && others

abbrev mutual
  pub is_in_range : Datum → Bool
  is_in_range a_unit = true
  is_in_range (a_flag b) = true
  is_in_range (an_unsigned n) = nat_lt n (2 ^ 64)
  is_in_range (a_signed z) = is_i64 z
  is_in_range (a_text bs) = are_bytes bs && is_utf8 bs
  is_in_range (some_bytes bs) = are_bytes bs
  is_in_range (a_place n) = true
  is_in_range (a_list ds) = is_counted (count ds) (are_in_range ds)
  is_in_range (an_object ds) = is_counted (count ds) (are_in_range ds)

  pub are_in_range : Data → Bool
  are_in_range no_data = true
  are_in_range (more d ds) = is_in_range d && are_in_range ds

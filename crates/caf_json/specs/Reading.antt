-- Reading a value from JSON, down to the first part that is missing or isn't of its shape.
use Rattle.std.specs.Prelude.{ℕ, ◌+◌, nat_lt, if◌then◌else◌, Bool, true, false, List, [], ◌∷◌, Option, Some, None, option_and_then, Result, Ok, Err}
use Rattle.serde_json.specs.Data.{Data as Json, Items, no_items, item, Members}
use Rattle.serde_json.specs.Find.{get, as_null, as_bool, as_str, as_array, as_object}
use Rattle.caf_types.specs.Limits.{places}
use Rattle.caf_types.specs.ShapeTree.{ShapeTree, unit, flag, unsigned, signed, text, bytes, place, list, object, Parts, no_parts, part}
use Rattle.caf_words.specs.Datum.{Datum, a_unit, a_flag, an_unsigned, a_signed, a_text, some_bytes, a_place, a_list, an_object, Data, no_data, more}
use Rattle.caf_json.specs.Digits.{unhex}
use Rattle.caf_json.specs.Form.{unsigned_in, signed_in, are_declared}

-- what was read, or the path to the unfit part
abbrev pub Read : Type 0 → Type 0
Read A = Result A (List ℕ)

infixl 10 ◌>>=◌
abbrev pub ◌>>=◌ : {A B : Type 0} → Read A → (A → Read B) → Read B
(Ok x) >>= f = f x
(Err path) >>= f = Err path

-- a fault inside part i
abbrev pub inside : {A : Type 0} → ℕ → Read A → Read A
inside i (Ok x) = Ok x
inside i (Err path) = Err (i ∷ path)

-- where there is none, the part itself is unfit
abbrev pub found : {A : Type 0} → (A → Datum) → Option A → Read Datum
found make None = Err []
found make (Some x) = Ok (make x)

abbrev pub below_places : ℕ → Option ℕ
below_places n = if nat_lt n places then Some n else None

abbrev pub then_more : Read Datum → Read Data → Read Data
then_more one others = one >>= λ d. others >>= λ ds. Ok (more d ds)

abbrev pub each_read : (Json → Read Datum) → ℕ → Items → Read Data
each_read one i no_items = Ok no_data
each_read one i (item j js) = then_more (inside i (one j)) (each_read one (i + 1) js)

abbrev pub list_read : (Items → Read Data) → Option Items → Read Datum
list_read items None = Err []
list_read items (Some js) = items js >>= λ ds. Ok (a_list ds)

abbrev pub member_read : (Json → Read Datum) → Option Json → Read Datum
member_read one None = Err []
member_read one (Some j) = one j

-- a whole object, or others beside its declared members
abbrev pub no_others : Bool → Data → Read Datum
no_others true ds = Ok (an_object ds)
no_others false ds = Err []

abbrev pub object_read : (Members → Bool) → Read Data → Option Members → Read Datum
object_read test fields None = Err []
object_read test fields (Some ms) = fields >>= no_others (test ms)

abbrev mutual
  pub unjson : ShapeTree → Json → Read Datum
  unjson unit = λ j. found (λ _. a_unit) (as_null j)
  unjson flag = λ j. found a_flag (as_bool j)
  unjson unsigned = λ j. found an_unsigned (unsigned_in j)
  unjson signed = λ j. found a_signed (signed_in j)
  unjson text = λ j. found a_text (as_str j)
  unjson bytes = λ j. found some_bytes (option_and_then unhex (as_str j))
  unjson place = λ j. found a_place (option_and_then below_places (unsigned_in j))
  unjson (list f) = λ j. list_read (each_read (unjson f) 0) (as_array j)
  unjson (object ps) = λ j. object_read (are_declared ps) (parts_read ps 0 j) (as_object j)

  -- the members in declared order, the first of them part i
  pub parts_read : Parts → ℕ → Json → Read Data
  parts_read no_parts i j = Ok no_data
  parts_read (part name f ps) i j = then_more (inside i (member_read (unjson f) (get name j))) (parts_read ps (i + 1) j)

-- Which JSON values are the form of a value: one case a shape.
use Rattle.std.specs.Prelude.{◌≡◌, ℕ, ◌<◌, ℤ, Bool, true, false, if◌then◌else◌, List, bytes_eq, Option, Some, option_and_then}
use Rattle.hex.specs.Hex.{encode_lower}
use Rattle.serde_json.specs.Data.{Data as Json, null, boolean, string, array, object as members_in, Items, no_items, item, Members, no_members, member}
use Rattle.serde_json.specs.Find.{get, as_number, as_u64, as_i64}
use Rattle.caf_types.specs.Limits.{places}
use Rattle.caf_types.specs.ShapeTree.{ShapeTree, unit, flag, unsigned, signed, text, bytes, place, list, object, Parts, no_parts, part}
use Rattle.caf_words.specs.Spelling.{AreBytes}
use Rattle.caf_words.specs.Datum.{Datum, a_unit, a_flag, an_unsigned, a_signed, a_text, some_bytes, a_place, a_list, an_object, Data, no_data, more}

-- the number of a JSON number that serde_json keeps as a whole number of 64 bits
abbrev pub unsigned_in : Json → Option ℕ
unsigned_in j = option_and_then as_u64 (as_number j)

abbrev pub signed_in : Json → Option ℤ
signed_in j = option_and_then as_i64 (as_number j)

abbrev pub is_declared : Parts → List ℕ → Bool
is_declared no_parts key = false
is_declared (part name f ps) key = if bytes_eq name key then true else is_declared ps key

-- no member beside the declared ones
abbrev pub are_declared : Parts → Members → Bool
are_declared ps no_members = true
are_declared ps (member key j ms) = if is_declared ps key then are_declared ps ms else false

abbrev pub EachHasJson : (Datum → Json → Type 0) → Data → Items → Type 0
EachHasJson P no_data js = js ≡ no_items
EachHasJson P (more d ds) js = (j : Json) × (rest : Items) × P d j × EachHasJson P ds rest × (js ≡ item j rest)

abbrev mutual
  pub HasJson : ShapeTree → Datum → Json → Type 0
  HasJson unit d j = (d ≡ a_unit) × (j ≡ null)
  HasJson flag d j = (b : Bool) × (d ≡ a_flag b) × (j ≡ boolean b)
  HasJson unsigned d j = (n : ℕ) × (d ≡ an_unsigned n) × (unsigned_in j ≡ Some n)
  HasJson signed d j = (z : ℤ) × (d ≡ a_signed z) × (signed_in j ≡ Some z)
  HasJson text d j = (bs : List ℕ) × (d ≡ a_text bs) × (j ≡ string bs)
  HasJson bytes d j = (bs : List ℕ) × AreBytes bs × (d ≡ some_bytes bs) × (j ≡ string (encode_lower bs))
  HasJson place d j = (n : ℕ) × (n < places) × (d ≡ a_place n) × (unsigned_in j ≡ Some n)
  HasJson (list f) d j = (ds : Data) × (js : Items) × EachHasJson (HasJson f) ds js × (d ≡ a_list ds) × (j ≡ array js)
  HasJson (object ps) d j = (ds : Data) × (ms : Members) × PartsHaveJson ps ds j × (are_declared ps ms ≡ true) × (d ≡ an_object ds) × (j ≡ members_in ms)

  -- each declared member is there, in form
  pub PartsHaveJson : Parts → Data → Json → Type 0
  PartsHaveJson no_parts ds j = ds ≡ no_data
  PartsHaveJson (part name f ps) ds j = (e : Datum) × (es : Data) × (m : Json) × (get name j ≡ Some m) × HasJson f e m × PartsHaveJson ps es j × (ds ≡ more e es)

-- ---- no two fields of one object have the same name

abbrev mutual
  pub names_differ : ShapeTree → Bool
  names_differ (list f) = names_differ f
  names_differ (object ps) = parts_differ ps
  names_differ _ = true

  pub parts_differ : Parts → Bool
  parts_differ no_parts = true
  parts_differ (part name f ps) = if is_declared ps name then false else (if names_differ f then parts_differ ps else false)

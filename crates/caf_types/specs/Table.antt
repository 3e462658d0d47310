-- Type tables: finite maps from IDs to named shapes, and when a block is refused.
use Rattle.std.specs.Prelude.{ℕ, ◌+◌, ◌-◌, ◌==◌, ◌||◌, nat_lt, bytes_eq, if◌then◌else◌, Bool, true, false, List, [], ◌∷◌, ◌++◌, length, Option, Some, None, is_some, codes, slice_get, count_by, find as find_first}
use Rattle.std.specs.List.{position_from}
use Rattle.std.specs.Option.{option_map}
use Rattle.caf_types.specs.ShapeTree.{ShapeTree, unit, flag, unsigned, signed, text, bytes, place, list, depth}
use Rattle.caf_types.specs.declared.limits.TheConstants.{FIRST_ID, LAST_ID, DEEPEST}

-- a type: its name and its shape
pub record Named : Type 0 where
  pub name : List ℕ
  pub shape : ShapeTree

-- the types by their IDs, and the names of the blocks
pub record Table : Type 0 where
  pub types : List (ℕ × Named)
  pub blocks : List (List ℕ)

-- the first of two that is there
abbrev pub or_else : {A : Type 0} → Option A → Option A → Option A
or_else (Some x) y = Some x
or_else None y = y

-- ---- looking up

abbrev pub type_at : List (ℕ × Named) → ℕ → Option Named
type_at [] id = None
type_at (t ∷ ts) id = if t.0 == id then Some t.1 else type_at ts id

abbrev pub id_of : List (ℕ × Named) → List ℕ → Option ℕ
id_of [] name = None
id_of (t ∷ ts) name = if bytes_eq t.1.name name then Some t.0 else id_of ts name

abbrev pub shape_at : Table → ℕ → Option ShapeTree
shape_at t id = option_map (λ (n : Named). n.shape) (type_at t.types id)

abbrev pub name_at : Table → ℕ → Option (List ℕ)
name_at t id = option_map (λ (n : Named). n.name) (type_at t.types id)

abbrev pub find : Table → List ℕ → Option ℕ
find t name = id_of t.types name

-- ---- a block

-- types with IDs that rise by one in the order of declaration
abbrev pub numbered : ℕ → List Named → List (ℕ × Named)
numbered first [] = []
numbered first (n ∷ ns) = (first, n) ∷ numbered (first + 1) ns

abbrev pub with_block : Table → List ℕ → ℕ → List Named → Table
with_block t block first ns = record { types = t.types ++ numbered first ns; blocks = t.blocks ++ block ∷ [] }

-- the type that has an ID in a block
abbrev pub type_in : ℕ → List Named → ℕ → Option Named
type_in first ns id = if nat_lt id first then None else slice_get ns (id - first)

abbrev pub shape_in : ℕ → List Named → ℕ → Option ShapeTree
shape_in first ns id = option_map (λ (n : Named). n.shape) (type_in first ns id)

abbrev pub name_in : ℕ → List Named → ℕ → Option (List ℕ)
name_in first ns id = option_map (λ (n : Named). n.name) (type_in first ns id)

-- the ID that a name has in a block
abbrev pub find_in : ℕ → List Named → List ℕ → Option ℕ
find_in first ns name = position_from (λ (n : Named). bytes_eq n.name name) first ns

-- ---- the types that every table has

abbrev pub named : List ℕ → ShapeTree → Named
named name shape = record { name = name; shape = shape }

abbrev pub built_in_types : List Named
built_in_types =
    named (codes "unit") unit ∷ named (codes "flag") flag ∷ named (codes "unsigned") unsigned ∷ named (codes "signed") signed
    ∷ named (codes "text") text ∷ named (codes "bytes") bytes ∷ named (codes "place") place
    ∷ named (codes "unsigneds") (list unsigned) ∷ named (codes "texts") (list text) ∷ named (codes "places") (list place) ∷ []

abbrev pub built_in : Table
built_in = record { types = numbered 0 built_in_types; blocks = [] }

-- ---- refusing a block

pub data Refusal : Type 0 where
  out_of_range : Refusal
  taken_id : ℕ → Refusal
  taken_name : List ℕ → Refusal
  too_deep : ℕ → Refusal

-- the first ID and the last one are IDs that a block may have
abbrev pub is_out_of_range : ℕ → ℕ → Bool
is_out_of_range first n = nat_lt first FIRST_ID || nat_lt LAST_ID first || nat_lt (LAST_ID + 1) (first + n)

abbrev pub has_id : List (ℕ × Named) → ℕ → Bool
has_id ts id = is_some (type_at ts id)

abbrev pub has_name : List (ℕ × Named) → List ℕ → Bool
has_name ts name = is_some (id_of ts name)

-- the least ID of the block that the table has
abbrev pub first_taken : List (ℕ × Named) → ℕ → List Named → Option ℕ
first_taken ts id [] = None
first_taken ts id (n ∷ ns) = if has_id ts id then Some id else first_taken ts (id + 1) ns

abbrev pub name_is_in : List (List ℕ) → List ℕ → Bool
name_is_in [] name = false
name_is_in (n ∷ ns) name = if bytes_eq n name then true else name_is_in ns name

-- how many of the entries have a name
abbrev pub count_named : List ℕ → List Named → ℕ
count_named name ns = count_by (λ (n : Named). bytes_eq name n.name) ns

-- a name is a type's of the table, or stands twice among the entries
abbrev pub clashes : List (ℕ × Named) → List Named → List ℕ → Bool
clashes ts ns name = has_name ts name || nat_lt 1 (count_named name ns)

-- the name of the first entry, in order, whose name clashes
abbrev pub first_name : List (ℕ × Named) → List Named → Option (List ℕ)
first_name ts ns = option_map (λ (n : Named). n.name) (find_first (λ (n : Named). clashes ts ns n.name) ns)

-- the least ID of the block whose shape nests too deep
abbrev pub first_deep : ℕ → List Named → Option ℕ
first_deep id [] = None
first_deep id (n ∷ ns) = if nat_lt DEEPEST (depth n.shape) then Some id else first_deep (id + 1) ns

abbrev pub if_some : {A : Type 0} → (A → Refusal) → Option A → Option Refusal
if_some f None = None
if_some f (Some x) = Some (f x)

abbrev pub so : Bool → Refusal → Option Refusal
so true r = Some r
so false r = None

-- the first refusal, in the order in which they are tried
abbrev pub refusal : Table → List ℕ → ℕ → List Named → Option Refusal
refusal t block first ns =
    or_else (so (is_out_of_range first (length ns)) out_of_range) (
    or_else (if_some taken_id (first_taken t.types first ns)) (
    or_else (so (name_is_in t.blocks block) (taken_name block)) (
    or_else (if_some taken_name (first_name t.types ns))
    (if_some too_deep (first_deep first ns)))))

-- What it takes to be a value of a shape, one case a shape: what `fits` tests, in parts.
use Rattle.std.proofs.Common.{◌≡◌, ℕ, ℤ, ◌<◌, List, Bool, true, false, ◌&&◌, ◌+◌, refl, ap, ◌∙◌, lt-ltb, arith}
use borrow.Author.Tests.{ltb-true}
use Rattle.caf_types.specs.ShapeTree as tree
use Rattle.caf_types.specs.ShapeTree.{ShapeTree, Parts, no_parts, part, count_parts}
use Rattle.caf_words.specs.Datum.{Datum, a_unit, a_flag, an_unsigned, a_signed, a_text, some_bytes, a_place, a_list, an_object, Data, no_data, more, count, fits, each_fits, all_fit}

abbrev pub AllAre : (Datum → Type 0) → Data → Type 0
AllAre P no_data = Unit {0}
AllAre P (more d ds) = P d × AllAre P ds

abbrev mutual
  pub IsOf : ShapeTree → Datum → Type 0
  IsOf tree.unit d = d ≡ a_unit
  IsOf tree.flag d = (b : Bool) × (d ≡ a_flag b)
  IsOf tree.unsigned d = (n : ℕ) × (d ≡ an_unsigned n)
  IsOf tree.signed d = (z : ℤ) × (d ≡ a_signed z)
  IsOf tree.text d = (bs : List ℕ) × (d ≡ a_text bs)
  IsOf tree.bytes d = (bs : List ℕ) × (d ≡ some_bytes bs)
  IsOf tree.place d = (n : ℕ) × (n < 256) × (d ≡ a_place n)
  IsOf (tree.list f) d = (ds : Data) × AllAre (IsOf f) ds × (d ≡ a_list ds)
  IsOf (tree.object ps) d = (ds : Data) × PartsAre ps ds × (d ≡ an_object ds)

  -- a value for each field, in declared order
  pub PartsAre : Parts → Data → Type 0
  PartsAre no_parts ds = ds ≡ no_data
  PartsAre (part name f ps) ds = (e : Datum) × (es : Data) × IsOf f e × PartsAre ps es × (ds ≡ more e es)

both : (a b : Bool) → (a && b) ≡ true → (a ≡ true) × (b ≡ true)
both true b h = (refl, h)
both false b h = absurd cc

all_are : (test : Datum → Bool) (P : Datum → Type 0) → ((d : Datum) → test d ≡ true → P d) → (ds : Data) → all_fit test ds ≡ true → AllAre P ds
all_are test P one no_data h = tt
all_are test P one (more d ds) h = let b = both (test d) (all_fit test ds) h in (one d b.0, all_are test P one ds b.1)

mutual
  pub is_of : (f : ShapeTree) (d : Datum) → fits f d ≡ true → IsOf f d
  is_of tree.unit a_unit h = refl
  is_of tree.flag (a_flag b) h = (b, refl)
  is_of tree.unsigned (an_unsigned n) h = (n, refl)
  is_of tree.signed (a_signed z) h = (z, refl)
  is_of tree.text (a_text bs) h = (bs, refl)
  is_of tree.bytes (some_bytes bs) h = (bs, refl)
  is_of tree.place (a_place n) h = (n, ltb-true _ _ h, refl)
  is_of (tree.list f) (a_list ds) h = (ds, all_are (fits f) (IsOf f) (is_of f) ds h, refl)
  is_of (tree.object ps) (an_object ds) h = (ds, parts_are ps ds h, refl)
  is_of _ _ h = absurd cc

  pub parts_are : (ps : Parts) (ds : Data) → each_fits ps ds ≡ true → PartsAre ps ds
  parts_are no_parts no_data h = refl
  parts_are no_parts (more d ds) h = absurd cc
  parts_are (part name f ps) no_data h = absurd cc
  parts_are (part name f ps) (more d ds) h = let b = both (fits f d) (each_fits ps ds) h in (d, ds, is_of f d b.0, parts_are ps ds b.1, refl)

both_hold : (a b : Bool) → a ≡ true → b ≡ true → (a && b) ≡ true
both_hold a b p q = rw (p, q) refl

all_fitting : (test : Datum → Bool) (P : Datum → Type 0) → ((d : Datum) → P d → test d ≡ true) → (ds : Data) → AllAre P ds → all_fit test ds ≡ true
all_fitting test P one no_data h = refl
all_fitting test P one (more d ds) h = both_hold (test d) (all_fit test ds) (one d h.0) (all_fitting test P one ds h.1)

mutual
  pub is_fitting : (f : ShapeTree) (d : Datum) → IsOf f d → fits f d ≡ true
  is_fitting tree.unit d h = rw h refl
  is_fitting tree.flag d h = rw (h.1) refl
  is_fitting tree.unsigned d h = rw (h.1) refl
  is_fitting tree.signed d h = rw (h.1) refl
  is_fitting tree.text d h = rw (h.1) refl
  is_fitting tree.bytes d h = rw (h.1) refl
  is_fitting tree.place d h = rw (h.2) (lt-ltb h.0 256 h.1)
  is_fitting (tree.list f) d h = rw (h.2) (all_fitting (fits f) (IsOf f) (is_fitting f) h.0 h.1)
  is_fitting (tree.object ps) d h = rw (h.2) (parts_fitting ps h.0 h.1)

  parts_fitting : (ps : Parts) (ds : Data) → PartsAre ps ds → each_fits ps ds ≡ true
  parts_fitting no_parts ds h = rw h refl
  parts_fitting (part name f ps) ds h = rw (h.4) (both_hold (fits f h.0) (each_fits ps h.1) (is_fitting f h.0 h.2) (parts_fitting ps h.1 h.3))

pub count_of : (ps : Parts) (ds : Data) → PartsAre ps ds → count ds ≡ count_parts ps
count_of no_parts ds h = ap count h
count_of (part name f ps) ds h = ap count h.4 ∙ (let e = count_of ps h.1 h.3 in omega (arith, e))

-- What it takes to have a text form, one case a shape: what `fits` tests and the ranges say, in parts.
use Rattle.std.proofs.Common.{◌≡◌, ℕ, ℤ, ◌<◌, ◌^◌, List, Bool, true, ◌&&◌, IsUtf8, refl, lt-ltb}
use Rattle.std.specs.Int.{w64}
use Rattle.std.specs.Int.RustNames.{FitsSigned}
use borrow.Author.Tests.{ltb-true}
use Rattle.caf_types.specs.ShapeTree.{ShapeTree, unit, flag, unsigned, signed, text, bytes, place, list, object, Parts, no_parts, part}
use Rattle.caf_words.specs.Datum.{Datum, a_unit, a_flag, an_unsigned, a_signed, a_text, some_bytes, a_place, a_list, an_object, Data, no_data, more, fits, each_fits, all_fit}
use Rattle.caf_words.specs.Spelling.{AreBytes}
use Rattle.caf_text.specs.TextForm.{KeepsRanges, KeepRanges}
use Rattle.caf_text.proofs.NumberLemmas.{both}

abbrev pub AllAre : (Datum → Type 0) → Data → Type 0
AllAre P no_data = Unit {0}
AllAre P (more d ds) = P d × AllAre P ds

abbrev mutual
  pub IsValue : ShapeTree → Datum → Type 0
  IsValue unit d = d ≡ a_unit
  IsValue flag d = (b : Bool) × (d ≡ a_flag b)
  IsValue unsigned d = (n : ℕ) × (n < 2 ^ 64) × (d ≡ an_unsigned n)
  IsValue signed d = (z : ℤ) × FitsSigned w64 z × (d ≡ a_signed z)
  IsValue text d = (bs : List ℕ) × IsUtf8 bs × (d ≡ a_text bs)
  IsValue bytes d = (bs : List ℕ) × AreBytes bs × (d ≡ some_bytes bs)
  IsValue place d = (n : ℕ) × (n < 256) × (d ≡ a_place n)
  IsValue (list f) d = (ds : Data) × AllAre (IsValue f) ds × (d ≡ a_list ds)
  IsValue (object ps) d = (ds : Data) × AreValues ps ds × (d ≡ an_object ds)

  -- a value for each field, in declared order
  pub AreValues : Parts → Data → Type 0
  AreValues no_parts ds = ds ≡ no_data
  AreValues (part name f ps) ds = (e : Datum) × (es : Data) × IsValue f e × AreValues ps es × (ds ≡ more e es)

-- ---- what fits and keeps to the ranges is a value

all_are : (test : Datum → Bool) (P : Datum → Type 0) → ((d : Datum) → test d ≡ true → KeepsRanges d → P d) → (ds : Data) → all_fit test ds ≡ true → KeepRanges ds → AllAre P ds
all_are test P one no_data h r = tt
all_are test P one (more d ds) h r = let b = both (test d) (all_fit test ds) h in (one d b.0 r.0, all_are test P one ds b.1 r.1)

mutual
  pub is_value : (f : ShapeTree) (d : Datum) → fits f d ≡ true → KeepsRanges d → IsValue f d
  is_value unit a_unit h r = refl
  is_value flag (a_flag b) h r = (b, refl)
  is_value unsigned (an_unsigned n) h r = (n, r, refl)
  is_value signed (a_signed z) h r = (z, r, refl)
  is_value text (a_text bs) h r = (bs, r, refl)
  is_value bytes (some_bytes bs) h r = (bs, r, refl)
  is_value place (a_place n) h r = (n, ltb-true _ _ h, refl)
  is_value (list f) (a_list ds) h r = (ds, all_are (fits f) (IsValue f) (is_value f) ds h r, refl)
  is_value (object ps) (an_object ds) h r = (ds, are_values ps ds h r, refl)
  is_value _ _ h r = absurd cc

  are_values : (ps : Parts) (ds : Data) → each_fits ps ds ≡ true → KeepRanges ds → AreValues ps ds
  are_values no_parts no_data h r = refl
  are_values no_parts (more d ds) h r = absurd cc
  are_values (part name f ps) no_data h r = absurd cc
  are_values (part name f ps) (more d ds) h r = let b = both (fits f d) (each_fits ps ds) h in (d, ds, is_value f d b.0 r.0, are_values ps ds b.1 r.1, refl)

-- ---- and the other way round

both_hold : (a b : Bool) → a ≡ true → b ≡ true → (a && b) ≡ true
both_hold a b p q = rw (p, q) refl

all_fitting : (test : Datum → Bool) (P : Datum → Type 0) → ((d : Datum) → P d → (test d ≡ true) × KeepsRanges d) → (ds : Data) → AllAre P ds → (all_fit test ds ≡ true) × KeepRanges ds
all_fitting test P one no_data h = (refl, tt)
all_fitting test P one (more d ds) h =
    let a = one d h.0 in
    let b = all_fitting test P one ds h.1 in
    (both_hold (test d) (all_fit test ds) a.0 b.0, (a.1, b.1))

mutual
  pub is_fitting : (f : ShapeTree) (d : Datum) → IsValue f d → (fits f d ≡ true) × KeepsRanges d
  is_fitting unit d h = rw h (refl, tt)
  is_fitting flag d h = rw (h.1) (refl, tt)
  is_fitting unsigned d h = rw (h.2) (refl, h.1)
  is_fitting signed d h = rw (h.2) (refl, h.1)
  is_fitting text d h = rw (h.2) (refl, h.1)
  is_fitting bytes d h = rw (h.2) (refl, h.1)
  is_fitting place d h = rw (h.2) (lt-ltb h.0 256 h.1, tt)
  is_fitting (list f) d h = rw (h.2) (all_fitting (fits f) (IsValue f) (is_fitting f) h.0 h.1)
  is_fitting (object ps) d h = rw (h.2) (parts_fitting ps h.0 h.1)

  parts_fitting : (ps : Parts) (ds : Data) → AreValues ps ds → (each_fits ps ds ≡ true) × KeepRanges ds
  parts_fitting no_parts ds h = rw h (refl, tt)
  parts_fitting (part name f ps) ds h =
      let a = is_fitting f h.0 h.2 in
      let b = parts_fitting ps h.1 h.3 in
      rw (h.4) (both_hold (fits f h.0) (each_fits ps h.1) a.0 b.0, (a.1, b.1))

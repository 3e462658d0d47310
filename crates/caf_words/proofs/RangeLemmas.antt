-- A value that is of a shape and keeps to the ranges has its spelling, and no other value has one.
use Rattle.std.proofs.Common.{◌≡◌, ℕ, suc, ◌^◌, ◌<◌, ltb, Bool, true, false, ◌&&◌, ℤ, pos, negsuc, List, [], ◌∷◌, ◌++◌, length, get_or, Fits, refl, sym, ap, subst, ◌∙◌, arith}
use Rattle.std.specs.Prelude.{Result, Ok, Err, OnOk}
use Rattle.std.specs.List.{list_all}
use Rattle.std.specs.Int.{w64, w8}
use Rattle.std.specs.Int.RustNames.{FitsSigned}
use Rattle.std.specs.Str.{is_utf8}
use Rattle.std.proofs.lemmas.Bool.{ltb-true, lt-ltb}
use Rattle.std.proofs.lemmas.Str.{IsUtf8-from_is_utf8, is_utf8-from_IsUtf8}
use Rattle.caf_types.specs.ShapeTree.{ShapeTree, unit, flag, unsigned, signed, text, bytes, place, list, object, Parts, no_parts, part}
use Rattle.caf_words.specs.Datum.{Datum, a_unit, a_flag, an_unsigned, a_signed, a_text, some_bytes, a_place, a_list, an_object, Data, no_data, more, count, is_unit, is_flag, is_unsigned, is_signed, is_text, is_bytes, is_place, is_list, is_object, is_none, on_first, all_fit, fits, each_fits, is_i64, are_bytes, is_counted, is_in_range, are_in_range}
use Rattle.caf_words.specs.Spelling.{spelling, spellings, AreBytes, Spells, EachSpells, PartsSpell}

both : (a b : Bool) → (a && b) ≡ true → (a ≡ true) × (b ≡ true)
both true b e = (refl, e)
both false b e = absurd cc

pub and_true : {a b : Bool} → a ≡ true → b ≡ true → (a && b) ≡ true
and_true p q = rw (p, q) refl

-- ---- one shape, one kind of value

unit_is : (d : Datum) → is_unit d ≡ true → d ≡ a_unit
unit_is a_unit e = refl
unit_is _ e = absurd cc

flag_is : (d : Datum) → is_flag d ≡ true → (b : Bool) × (d ≡ a_flag b)
flag_is (a_flag b) e = (b, refl)
flag_is _ e = absurd cc

unsigned_is : (d : Datum) → is_unsigned d ≡ true → (n : ℕ) × (d ≡ an_unsigned n)
unsigned_is (an_unsigned n) e = (n, refl)
unsigned_is _ e = absurd cc

signed_is : (d : Datum) → is_signed d ≡ true → (z : ℤ) × (d ≡ a_signed z)
signed_is (a_signed z) e = (z, refl)
signed_is _ e = absurd cc

text_is : (d : Datum) → is_text d ≡ true → (bs : List ℕ) × (d ≡ a_text bs)
text_is (a_text bs) e = (bs, refl)
text_is _ e = absurd cc

bytes_is : (d : Datum) → is_bytes d ≡ true → (bs : List ℕ) × (d ≡ some_bytes bs)
bytes_is (some_bytes bs) e = (bs, refl)
bytes_is _ e = absurd cc

place_is : (d : Datum) → is_place d ≡ true → (n : ℕ) × (n < 256) × (d ≡ a_place n)
place_is (a_place n) e = (n, ltb-true n 256 e, refl)
place_is _ e = absurd cc

list_is : (test : Data → Bool) (d : Datum) → is_list test d ≡ true → (ds : Data) × (d ≡ a_list ds) × (test ds ≡ true)
list_is test (a_list ds) e = (ds, refl, e)
list_is test _ e = absurd cc

object_is : (test : Data → Bool) (d : Datum) → is_object test d ≡ true → (ds : Data) × (d ≡ an_object ds) × (test ds ≡ true)
object_is test (an_object ds) e = (ds, refl, e)
object_is test _ e = absurd cc

-- ---- ranges

all_bytes : (bs : List ℕ) → list_all (λ b. ltb b 256) bs ≡ true → AreBytes bs
all_bytes [] e = tt
all_bytes (b ∷ bs) e = let p = both (ltb b 256) (list_all (λ b. ltb b 256) bs) e in (ltb-true b 256 p.0, all_bytes bs p.1)

bytes_all : (bs : List ℕ) → AreBytes bs → list_all (λ b. ltb b 256) bs ≡ true
bytes_all [] h = refl
bytes_all (b ∷ bs) h = and_true (lt-ltb b 256 h.0) (bytes_all bs h.1)

bytes_from : (bs : List ℕ) → are_bytes bs ≡ true → (length bs < 2 ^ 64) × AreBytes bs
bytes_from bs e = let p = both (ltb (length bs) (2 ^ 64)) (list_all (λ b. ltb b 256) bs) e in (ltb-true (length bs) (2 ^ 64) p.0, all_bytes bs p.1)

bytes_to : (bs : List ℕ) → length bs < 2 ^ 64 → AreBytes bs → are_bytes bs ≡ true
bytes_to bs lt h = and_true (lt-ltb (length bs) (2 ^ 64) lt) (bytes_all bs h)

are_bytes_at : (bs : List ℕ) → ((i : ℕ) → Fits w8 (get_or bs i 0)) → AreBytes bs
are_bytes_at [] h = tt
are_bytes_at (b ∷ bs) h = (let f = h 0 in omega arith, are_bytes_at bs (λ i. h (suc i)))

-- the bytes of a slice
pub slice_bytes : (bs : List ℕ) → length bs < 2 ^ 64 → ((i : ℕ) → Fits w8 (get_or bs i 0)) → are_bytes bs ≡ true
slice_bytes bs lt h = bytes_to bs lt (are_bytes_at bs h)

i64_fits : (z : ℤ) → is_i64 z ≡ true → FitsSigned w64 z
i64_fits (pos n) e = record { sfits = ltb-true n (2 ^ 63) e }
i64_fits (negsuc n) e = record { sfits = ltb-true n (2 ^ 63) e }

pub fits_i64 : (z : ℤ) → FitsSigned w64 z → is_i64 z ≡ true
fits_i64 (pos n) f = lt-ltb n (2 ^ 63) f.sfits
fits_i64 (negsuc n) f = lt-ltb n (2 ^ 63) f.sfits

counted : (n : ℕ) (b : Bool) → is_counted n b ≡ true → (n < 2 ^ 64) × (b ≡ true)
counted n b e = let p = both (ltb n (2 ^ 64)) b e in (ltb-true n (2 ^ 64) p.0, p.1)

pub counts : (n : ℕ) (b : Bool) → n < 2 ^ 64 → b ≡ true → is_counted n b ≡ true
counts n b lt e = and_true (lt-ltb n (2 ^ 64) lt) e

-- ---- what fits and keeps to the ranges is spelled

abbrev pub IsSpelled : (Datum → Bool) → (Datum → List ℕ → Type 0) → Type 0
IsSpelled test S = (d : Datum) → test d ≡ true → is_in_range d ≡ true → S d (spelling d)

each_spelled : (test : Datum → Bool) (S : Datum → List ℕ → Type 0) → IsSpelled test S → (ds : Data) → all_fit test ds ≡ true → are_in_range ds ≡ true → EachSpells S ds (spellings ds)
each_spelled test S s no_data e r = refl
each_spelled test S s (more d ds) e r =
    let p = both (test d) (all_fit test ds) e in
    let q = both (is_in_range d) (are_in_range ds) r in
    (spelling d, spellings ds, s d p.0 q.0, each_spelled test S s ds p.1 q.1, refl)

pub none_spelled : (ds : Data) → is_none ds ≡ true → (ds ≡ no_data) × (spellings ds ≡ [])
none_spelled no_data e = (refl, refl)
none_spelled (more d ds) e = absurd cc

pub first_spelled : (test : Datum → Bool) (others : Data → Bool) (S : Datum → List ℕ → Type 0) (T : Data → List ℕ → Type 0) → IsSpelled test S
    → ((ds : Data) → others ds ≡ true → are_in_range ds ≡ true → T ds (spellings ds)) → (ds : Data) → on_first test others ds ≡ true → are_in_range ds ≡ true
    → (e : Datum) × (es : Data) × (ds ≡ more e es) × (a : List ℕ) × (b : List ℕ) × S e a × T es b × (spellings ds ≡ a ++ b)
first_spelled test others S T s t no_data e r = absurd cc
first_spelled test others S T s t (more d ds) e r =
    let p = both (test d) (others ds) e in
    let q = both (is_in_range d) (are_in_range ds) r in
    (d, ds, refl, spelling d, spellings ds, s d p.0 q.0, t ds p.1 q.1, refl)

mutual
  pub is_spelled : (f : ShapeTree) → IsSpelled (fits f) (Spells f)
  is_spelled unit = λ d e r. let p = unit_is d e in (p, ap spelling p)
  is_spelled flag = λ d e r. let p = flag_is d e in (p.0, p.1, ap spelling p.1)
  is_spelled unsigned = λ d e r. let p = unsigned_is d e in (p.0, ltb-true p.0 (2 ^ 64) (sym (ap is_in_range p.1) ∙ r), p.1, ap spelling p.1)
  is_spelled signed = λ d e r. let p = signed_is d e in (p.0, i64_fits p.0 (sym (ap is_in_range p.1) ∙ r), p.1, ap spelling p.1)
  is_spelled text = λ d e r.
      let p = text_is d e in
      let q = both (are_bytes p.0) (is_utf8 p.0) (sym (ap is_in_range p.1) ∙ r) in
      let b = bytes_from p.0 q.0 in
      (p.0, b.1, b.0, IsUtf8-from_is_utf8 p.0 q.1, p.1, ap spelling p.1)
  is_spelled bytes = λ d e r.
      let p = bytes_is d e in
      let b = bytes_from p.0 (sym (ap is_in_range p.1) ∙ r) in
      (p.0, b.1, b.0, p.1, ap spelling p.1)
  is_spelled place = λ d e r. let p = place_is d e in (p.0, p.1, p.2, ap spelling p.2)
  is_spelled (list f) = λ d e r.
      let p = list_is (all_fit (fits f)) d e in
      let q = counted (count p.0) (are_in_range p.0) (sym (ap is_in_range p.1) ∙ r) in
      (p.0, q.0, p.1, spellings p.0, each_spelled (fits f) (Spells f) (is_spelled f) p.0 p.2 q.1, ap spelling p.1)
  is_spelled (object ps) = λ d e r.
      let p = object_is (each_fits ps) d e in
      let q = counted (count p.0) (are_in_range p.0) (sym (ap is_in_range p.1) ∙ r) in
      (p.0, q.0, p.1, spellings p.0, are_spelled ps p.0 p.2 q.1, ap spelling p.1)

  pub are_spelled : (ps : Parts) (ds : Data) → each_fits ps ds ≡ true → are_in_range ds ≡ true → PartsSpell ps ds (spellings ds)
  are_spelled no_parts = λ ds e r. none_spelled ds e
  are_spelled (part n f ps) = first_spelled (fits f) (each_fits ps) (Spells f) (PartsSpell ps) (is_spelled f) (are_spelled ps)

-- ---- what is spelled fits, keeps to the ranges, and has no other spelling

pub record Keeps (test : Datum → Bool) (d : Datum) (ws : List ℕ) : Type 0 where
  pub fits : test d ≡ true
  pub range : is_in_range d ≡ true
  pub words : ws ≡ spelling d

pub record AllKeep (test : Data → Bool) (ds : Data) (ws : List ℕ) : Type 0 where
  pub fits : test ds ≡ true
  pub range : are_in_range ds ≡ true
  pub words : ws ≡ spellings ds

abbrev pub IsKept : (Datum → Bool) → (Datum → List ℕ → Type 0) → Type 0
IsKept test S = (d : Datum) (ws : List ℕ) → S d ws → Keeps test d ws

abbrev pub AreKept : (Data → Bool) → (Data → List ℕ → Type 0) → Type 0
AreKept test S = (ds : Data) (ws : List ℕ) → S ds ws → AllKeep test ds ws

-- a value that is that other one
moved : (test : Datum → Bool) (d e : Datum) (ws : List ℕ) → d ≡ e → Keeps test e ws → Keeps test d ws
moved test d e ws p k = subst (λ x. Keeps test x ws) (sym p) k

each_kept : (test : Datum → Bool) (S : Datum → List ℕ → Type 0) → IsKept test S → AreKept (all_fit test) (EachSpells S)
each_kept test S k no_data ws s = record { fits = refl; range = refl; words = s }
each_kept test S k (more d ds) ws s =
    let p = k d s.0 s.2 in
    let q = each_kept test S k ds s.1 s.3 in
    record { fits = and_true p.fits q.fits; range = and_true p.range q.range; words = s.4 ∙ rw (p.words, q.words) refl }

pub first_kept : (test : Datum → Bool) (others : Data → Bool) (S : Datum → List ℕ → Type 0) (T : Data → List ℕ → Type 0) → IsKept test S → AreKept others T
    → (ds : Data) (ws : List ℕ) → (e : Datum) × (es : Data) × (ds ≡ more e es) × (a : List ℕ) × (b : List ℕ) × S e a × T es b × (ws ≡ a ++ b) → AllKeep (on_first test others) ds ws
first_kept test others S T k ks ds ws s =
    let p = k s.0 s.3 s.5 in
    let q = ks s.1 s.4 s.6 in
    subst (λ xs. AllKeep (on_first test others) xs ws) (sym s.2)
    (record { fits = and_true p.fits q.fits; range = and_true p.range q.range; words = s.7 ∙ rw (p.words, q.words) refl })

mutual
  pub is_kept : (f : ShapeTree) → IsKept (fits f) (Spells f)
  is_kept unit = λ d ws s. moved is_unit d a_unit ws s.0 (record { fits = refl; range = refl; words = s.1 })
  is_kept flag = λ d ws s. moved is_flag d (a_flag s.0) ws s.1 (record { fits = refl; range = refl; words = s.2 })
  is_kept unsigned = λ d ws s. moved is_unsigned d (an_unsigned s.0) ws s.2 (record { fits = refl; range = lt-ltb s.0 (2 ^ 64) s.1; words = s.3 })
  is_kept signed = λ d ws s. moved is_signed d (a_signed s.0) ws s.2 (record { fits = refl; range = fits_i64 s.0 s.1; words = s.3 })
  is_kept text = λ d ws s. moved is_text d (a_text s.0) ws s.4 (record { fits = refl; range = and_true (bytes_to s.0 s.2 s.1) (is_utf8-from_IsUtf8 s.0 s.3); words = s.5 })
  is_kept bytes = λ d ws s. moved is_bytes d (some_bytes s.0) ws s.3 (record { fits = refl; range = bytes_to s.0 s.2 s.1; words = s.4 })
  is_kept place = λ d ws s. moved is_place d (a_place s.0) ws s.2 (record { fits = lt-ltb s.0 256 s.1; range = refl; words = s.3 })
  is_kept (list f) = λ d ws s.
      let q = each_kept (fits f) (Spells f) (is_kept f) s.0 s.3 s.4 in
      moved (is_list (all_fit (fits f))) d (a_list s.0) ws s.2 (record { fits = q.fits; range = counts (count s.0) (are_in_range s.0) s.1 q.range; words = s.5 ∙ ap (λ (r : List ℕ). count s.0 ∷ r) q.words })
  is_kept (object ps) = λ d ws s.
      let q = are_kept ps s.0 s.3 s.4 in
      moved (is_object (each_fits ps)) d (an_object s.0) ws s.2 (record { fits = q.fits; range = counts (count s.0) (are_in_range s.0) s.1 q.range; words = s.5 ∙ ap (λ (r : List ℕ). count s.0 ∷ r) q.words })

  pub are_kept : (ps : Parts) → AreKept (each_fits ps) (PartsSpell ps)
  are_kept no_parts = λ ds ws s. subst (λ xs. AllKeep is_none xs ws) (sym s.0) (record { fits = refl; range = refl; words = s.1 })
  are_kept (part n f ps) = first_kept (fits f) (each_fits ps) (Spells f) (PartsSpell ps) (is_kept f) (are_kept ps)

-- ---- what holds, holds of an Ok

pub on_ok_both : {A E : Type 0} (r : Result A E) (a b : Bool) → OnOk r (a ≡ true) → b ≡ true → OnOk r ((a && b) ≡ true)
on_ok_both (Ok x) a b p q = and_true p q
on_ok_both (Err e) a b p q = tt

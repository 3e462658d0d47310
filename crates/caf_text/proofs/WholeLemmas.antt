-- Reading a whole input is exact, and stops at the end of its longest front.
use Rattle.std.proofs.Common.{◌≡◌, ℕ, suc, ◌+◌, ◌-◌, ◌<◌, ◌≤◌, List, [], ◌∷◌, ◌++◌, length, length-append, take, Option, Some, None, Ok, Err, IsUtf8, refl, sym, ap, subst, ◌∙◌, append_assoc, append-nil, arith}
use Rattle.caf_types.specs.ShapeTree.{ShapeTree}
use Rattle.caf_words.specs.Datum.{Datum}
use Rattle.caf_words.specs.Reading.{Got, ◌>>=◌}
use Rattle.caf_text.specs.Front.{IsFront, IsLongestFront}
use Rattle.caf_text.specs.TextForm.{text_form, HasText}
use Rattle.caf_text.specs.TextReading.{reading, nothing_left, untext}
use Rattle.caf_text.proofs.AgainLemmas.{reading_again}
use Rattle.caf_text.proofs.NumberLemmas.{NoDigit}
use Rattle.caf_text.proofs.ReaderLemmas.{reading_stops}
use Rattle.caf_text.proofs.StopLemmas.{ends, Good, StopsAt, no_cons}
use Rattle.caf_text.proofs.ValueLemmas.{IsValue, is_value, is_fitting}

nothing_behind : NoDigit []
nothing_behind c r e = absurd (no_cons e)

-- a text form is read whole
read_whole : (f : ShapeTree) (d : Datum) (cs : List ℕ) → HasText f d cs → reading f cs ≡ Ok (d, [])
read_whole f d cs h = ap (reading f) (h.2 ∙ sym (append-nil (text_form f d))) ∙ reading_again f d (is_value f d h.0 h.1) [] nothing_behind

pub read_back : (f : ShapeTree) (d : Datum) (cs : List ℕ) → HasText f d cs → untext f cs ≡ Ok d
read_back f d cs h = ap (λ y. y >>= λ x. nothing_left x.0 x.1) (read_whole f d cs h)

-- ---- the two ways in which an input is no form

taken : Got Datum → List ℕ
taken (Ok x) = x.1
taken (Err n) = []

no_rest : (o : Option Datum) (c : ℕ) (s : List ℕ) (d : Datum) → ends o (c ∷ s) ≡ Ok (d, []) → ⊥
unfolding taken
no_rest None c s d e = absurd (let h : Err (length (c ∷ s)) ≡ Ok (d, []) = e in cc)
no_rest (Some x) c s d e = absurd (no_cons (sym (ap taken e)))

module _ (f : ShapeTree) (cs : List ℕ) (o : Option Datum) (front back : List ℕ) (p : StopsAt (IsValue f) (text_form f) (reading f) cs o front back) (u : IsUtf8 cs) where
  some_front : (o : Option Datum) → Good (IsValue f) (text_form f) o front → IsFront f front
  some_front (Some d) g = let v = is_fitting f d g.0 in (d, [], (v.0, v.1, append-nil front ∙ g.1))
  some_front None g = let v = is_fitting f g.0 g.2 in (g.0, g.1, (v.0, v.1, g.3))

  front_of_cs : take (length front) cs ≡ front
  front_of_cs = ap (take (length front)) p.parts ∙ taken_front front
    where
      taken_front : (xs : List ℕ) → take (length xs) (xs ++ back) ≡ xs
      taken_front [] = refl
      taken_front (x ∷ xs) = ap (λ ys. x ∷ ys) (taken_front xs)

  -- no form goes on with the first byte that is left
  no_further : (c : ℕ) (r s : List ℕ) → back ≡ c ∷ r → IsFront f (front ++ c ∷ s) → ⊥
  no_further c r s e h =
      no_rest o c (s ++ h.1) h.0
      (sym (p.local c r (s ++ h.1) e) ∙ ap (reading f) (sym (append_assoc front (c ∷ s) h.1)) ∙ read_whole f h.0 ((front ++ c ∷ s) ++ h.1) h.2)

  longer : (m : ℕ) (back : List ℕ) → cs ≡ front ++ back → length front < m → m ≤ length cs → (c : ℕ) × (r : List ℕ) × (s : List ℕ) × (back ≡ c ∷ r) × (take m cs ≡ front ++ c ∷ s)
  longer m [] e lt le = let l : length cs ≡ length front = ap length (e ∙ append-nil front) in absurd (omega arith)
  longer m (c ∷ r) e lt le = (c, r, take (m - suc (length front)) r, refl, ap (take m) e ∙ beyond front m lt)
    where
      beyond : (xs : List ℕ) (m : ℕ) → length xs < m → take m (xs ++ c ∷ r) ≡ xs ++ c ∷ take (m - suc (length xs)) r
      beyond [] m lt = let q : m ≡ suc (m - 1) = omega arith in ap (λ n. take n (c ∷ r)) q
      beyond (x ∷ xs) m lt =
          let q : m ≡ suc (m - 1) = omega arith in
          let k : m - 1 - suc (length xs) ≡ m - suc (length (x ∷ xs)) = omega arith in
          ap (λ n. take n (x ∷ (xs ++ c ∷ r))) q ∙ ap (λ ys. x ∷ ys) (beyond xs (m - 1) (omega arith)) ∙ ap (λ n. x ∷ (xs ++ c ∷ take n r)) k

  not_longer : (m : ℕ) → m ≤ length cs → IsFront f (take m cs) → length front < m → ⊥
  not_longer m le h lt = let w = longer m back p.parts lt le in no_further w.0 w.1 w.2 w.3 (subst (IsFront f) w.4 h)

  at_most : (m k : ℕ) → (k < m → ⊥) → m ≤ k
  at_most m k h = grind (arith, h)

  pub is_longest : IsLongestFront f cs (length cs - length back)
  is_longest =
      let l : length cs ≡ length front + length back = ap length p.parts ∙ length-append front back in
      let n : length cs - length back ≡ length front = omega arith in
      record {
        within = omega arith;
        front = subst (λ k. IsFront f (take k cs)) (sym n) (subst (IsFront f) (sym front_of_cs) (some_front o (p.good [] u)));
        longest = λ m le h. subst (λ k. m ≤ k) (sym n) (at_most m (length front) (not_longer m le h));
      }

no_form_left : (f : ShapeTree) (cs : List ℕ) (left : ℕ) → untext f cs ≡ Err left → (d : Datum) → HasText f d cs → ⊥
no_form_left f cs left e d h = absurd (let q : Err left ≡ Ok d = sym e ∙ read_back f d cs h in cc)

-- ---- the whole

value_of : (f : ShapeTree) (cs : List ℕ) (d : Datum) (o : Option Datum) (front back : List ℕ) → StopsAt (IsValue f) (text_form f) (reading f) cs o front back → IsUtf8 cs → (ends o back >>= λ x. nothing_left x.0 x.1) ≡ Ok d → HasText f d cs
value_of f cs d None front back p u e = absurd cc
value_of f cs d (Some x) front (c ∷ back) p u e = absurd cc
value_of f cs d (Some x) front [] p u e =
    let g = p.good [] u in
    let same : x ≡ d = cc in
    let v = is_fitting f x g.0 in
    subst (λ y. HasText f y cs) same (v.0, v.1, p.parts ∙ append-nil front ∙ g.1)

pub has_text : (f : ShapeTree) (d : Datum) (cs : List ℕ) → IsUtf8 cs → untext f cs ≡ Ok d → HasText f d cs
has_text f d cs u e =
    let p = reading_stops f cs in
    value_of f cs d p.0 p.1 p.2 p.3 u (ap (λ y. y >>= λ x. nothing_left x.0 x.1) (sym p.3.is) ∙ e)

left_is : (o : Option Datum) (back : List ℕ) (left : ℕ) → (ends o back >>= λ x. nothing_left x.0 x.1) ≡ Err left → left ≡ length back
left_is None back left e = cc
left_is (Some x) [] left e = absurd cc
left_is (Some x) (c ∷ back) left e = cc

pub longest_front : (f : ShapeTree) (cs : List ℕ) (left n : ℕ) → IsUtf8 cs → untext f cs ≡ Err left → n ≡ length cs - left → IsLongestFront f cs n × ((d : Datum) → HasText f d cs → ⊥)
longest_front f cs left n u e is =
    let p = reading_stops f cs in
    let q : left ≡ length p.2 = left_is p.0 p.2 left (ap (λ y. y >>= λ x. nothing_left x.0 x.1) (sym p.3.is) ∙ e) in
    (subst (IsLongestFront f cs) (ap (λ k. length cs - k) (sym q) ∙ sym is) (is_longest f cs p.0 p.1 p.2 p.3 u), no_form_left f cs left e)

pub one_value : (f : ShapeTree) (d e : Datum) (cs : List ℕ) → HasText f d cs → HasText f e cs → d ≡ e
one_value f d e cs h k = let q : Ok d ≡ Ok e = sym (read_back f d cs h) ∙ read_back f e cs k in cc

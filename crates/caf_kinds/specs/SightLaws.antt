-- What holds of sights stays so, and the places in them can be told.
use Rattle.std.specs.Prelude.{◌≡◌, ℕ, ◌+◌, ◌<◌, ◌≤◌, nat_lt, ◌==◌, not, Bool, true, false, List, [], ◌∷◌, ◌++◌, length, map, filter, refl}
use Rattle.std.specs.List.{AllByRecursion}
use Rattle.std.proofs.Common.{ap, sym, subst, arith}
use Rattle.std.proofs.lemmas.Bool.{lt-ltb}
use borrow.Author.Tests.{ltb-true}
use Rattle.std.proofs.lemmas.Bool.Decides.{nat_tests}
use Rattle.caf_words.specs.Datum.{no_data, more, a_place, a_list, data_of, count, is_place, all_fit, are_in_range}
use Rattle.caf_words.specs.Fitting.{both_hold}
use Rattle.caf_observe.specs.Places.{has_place, with_place}
use Rattle.caf_kinds.specs.Lawful.{IsSound}
use Rattle.caf_kinds.specs.Sights.{of_places, places_content, Sights, is_reached, with_down, notified, AreRising, AreSights}
use Rattle.caf_kinds.specs.declared.sights.Sought.{Sought}

-- ---- places in rising order

pub rising_few : (first : ℕ) (ps : List ℕ) → AreRising first ps → first + length ps ≤ 256
rising_few first [] h = omega arith
rising_few first (p ∷ ps) h = let rest = rising_few (p + 1) ps h.1 in omega arith

-- from an earlier place on they rise too
rising_from : (first later : ℕ) (ps : List ℕ) → first ≤ later → AreRising later ps → AreRising first ps
rising_from first later [] le h = omega arith
rising_from first later (p ∷ ps) le h = (omega arith, h.1)

below : (p q : ℕ) → p < q → nat_lt p q ≡ true
below p q l = lt-ltb p q l

not_below : (p q : ℕ) → q ≤ p → nat_lt p q ≡ false
not_below p q l = grind (arith, nat_tests)

-- none of them is below their first place, and all of them are above an earlier one
none_below : (p first : ℕ) (ps : List ℕ) → p ≤ first → AreRising first ps → filter (λ q. nat_lt q p) ps ≡ []
none_below p first [] le h = refl
none_below p first (q ∷ ps) le h =
    let not_here : nat_lt q p ≡ false = not_below q p (omega arith) in
    rw not_here (none_below p (q + 1) ps (omega arith) h.1)

all_above : (p first : ℕ) (ps : List ℕ) → p < first → AreRising first ps → filter (λ q. nat_lt p q) ps ≡ ps
all_above p first [] l h = refl
all_above p first (q ∷ ps) l h =
    let here : nat_lt p q ≡ true = below p q (omega arith) in
    rw here (ap (λ (qs : List ℕ). q ∷ qs) (all_above p (q + 1) ps (omega arith) h.1))

data Compared (p q : ℕ) : Type 0 where
  less : p < q → Compared p q
  same : p ≡ q → Compared p q
  greater : q < p → Compared p q

compared : (p q : ℕ) → Compared p q
compared p q = go (nat_lt p q) (nat_lt q p) refl refl
  where
    go : (a b : Bool) → nat_lt p q ≡ a → nat_lt q p ≡ b → Compared p q
    go true b e f = less (grind (arith, nat_tests))
    go false true e f = greater (grind (arith, nat_tests))
    go false false e f = same (grind (arith, nat_tests))

-- one of the places more
pub rising_with : (first : ℕ) (ps : List ℕ) (p : ℕ) → first ≤ p → p < 256 → AreRising first ps → AreRising first (with_place ps p)
rising_with first [] p le few h = (le, omega arith)
rising_with first (q ∷ ps) p le few h = go (compared q p) (λ l. rising_with (q + 1) ps p l few h.1)
  where
    go : Compared q p → (q + 1 ≤ p → AreRising (q + 1) (with_place ps p)) → AreRising first (with_place (q ∷ ps) p)
    go (less l) rest =
        let kept : nat_lt q p ≡ true = below q p l in
        let left : nat_lt p q ≡ false = not_below p q (omega arith) in
        rw (kept, left) (h.0, rest (omega arith))
    go (same e) rest =
        let kept : nat_lt q p ≡ false = not_below q p (omega arith) in
        let left : nat_lt p q ≡ false = not_below p q (omega arith) in
        let before : filter (λ r. nat_lt r p) ps ≡ [] = none_below p (q + 1) ps (omega arith) h.1 in
        let behind : filter (λ r. nat_lt p r) ps ≡ ps = all_above p (q + 1) ps (omega arith) h.1 in
        rw (kept, left, before, behind) (le, subst (λ (n : ℕ). AreRising (n + 1) ps) e h.1)
    go (greater l) rest =
        let kept : nat_lt q p ≡ false = not_below q p (omega arith) in
        let left : nat_lt p q ≡ true = below p q l in
        let before : filter (λ r. nat_lt r p) ps ≡ [] = none_below p (q + 1) ps (omega arith) h.1 in
        let behind : filter (λ r. nat_lt p r) ps ≡ ps = all_above p (q + 1) ps (omega arith) h.1 in
        rw (kept, left, before, behind) (le, (omega arith, h.1))

absent : (p first : ℕ) (qs : List ℕ) → AreRising first qs → p < first → has_place qs p ≡ true → ⊥
absent p first [] rising l e = cc
absent p first (r ∷ rs) rising l e =
    let other : (r == p) ≡ false = grind (arith, nat_tests) in
    let there : has_place rs p ≡ true = rw other at e in
    absent p (r + 1) rs rising.1 (omega arith) there

-- a place that is one of them
pub with_known : (first : ℕ) (ps : List ℕ) (p : ℕ) → AreRising first ps → has_place ps p ≡ true → with_place ps p ≡ ps
with_known first [] p h known = absurd cc
with_known first (q ∷ ps) p h known = go (compared q p) (λ k. with_known (q + 1) ps p h.1 k)
  where
    go : Compared q p → (has_place ps p ≡ true → with_place ps p ≡ ps) → with_place (q ∷ ps) p ≡ q ∷ ps
    go (less l) rest =
        let kept : nat_lt q p ≡ true = below q p l in
        let left : nat_lt p q ≡ false = not_below p q (omega arith) in
        let other : (q == p) ≡ false = grind (arith, nat_tests) in
        let later : has_place ps p ≡ true = rw other at known in
        rw (kept, left) (ap (λ (qs : List ℕ). q ∷ qs) (rest later))
    go (same e) rest =
        let kept : nat_lt q p ≡ false = not_below q p (omega arith) in
        let left : nat_lt p q ≡ false = not_below p q (omega arith) in
        let before : filter (λ r. nat_lt r p) ps ≡ [] = none_below p (q + 1) ps (omega arith) h.1 in
        let behind : filter (λ r. nat_lt p r) ps ≡ ps = all_above p (q + 1) ps (omega arith) h.1 in
        rw (kept, left, before, behind) (ap (λ (n : ℕ). n ∷ ps) (sym e))
    go (greater l) rest =
        let other : (q == p) ≡ false = grind (arith, nat_tests) in
        let later : has_place ps p ≡ true = rw other at known in
        absurd (absent p (q + 1) ps h.1 (omega arith) later)

rising_down : (ps : List ℕ) (p : ℕ) → AreRising 0 ps → AreRising 0 (with_down ps p)
rising_down ps p h = go (nat_lt p 256) refl
  where
    go : (b : Bool) → nat_lt p 256 ≡ b → AreRising 0 (with_down ps p)
    go true e = rw e (rising_with 0 ps p (omega arith) (ltb-true p 256 e) h)
    go false e = rw e h

-- ---- what is held

abbrev pub NoneReached : ℕ → List Sought → Type 0
NoneReached n hs = AllByRecursion (λ h. is_reached n h ≡ false) hs

-- of those that aren't reached none is
pub unreached : (n : ℕ) (hs : List Sought) → NoneReached n (filter (λ h. not (is_reached n h)) hs)
unreached n [] = tt
unreached n (h ∷ hs) = go (is_reached n h) refl (unreached n hs)
  where
    go : (b : Bool) → is_reached n h ≡ b → NoneReached n (filter (λ g. not (is_reached n g)) hs) → NoneReached n (filter (λ g. not (is_reached n g)) (h ∷ hs))
    go true e rest = rw e rest
    go false e rest = rw e (e, rest)

pub unreached_more : (n : ℕ) (hs : List Sought) (h : Sought) → NoneReached n hs → is_reached n h ≡ false → NoneReached n (hs ++ h ∷ [])
unreached_more n [] h all one = (one, tt)
unreached_more n (g ∷ hs) h all one = (all.0, unreached_more n hs h all.1 one)

pub none_leaves : (n : ℕ) (hs : List Sought) → NoneReached n hs → filter (λ h. not (is_reached n h)) hs ≡ hs
none_leaves n [] all = refl
none_leaves n (h ∷ hs) all = rw all.0 (ap (λ (gs : List Sought). h ∷ gs) (none_leaves n hs all.1))

pub none_is_reached : (n : ℕ) (hs : List Sought) → NoneReached n hs → filter (is_reached n) hs ≡ []
none_is_reached n [] all = refl
none_is_reached n (h ∷ hs) all = rw all.0 (none_is_reached n hs all.1)

-- ---- sights

pub sights_notified : (s : Sights) (gone : List ℕ) → AreRising 0 gone → AreSights (notified s gone).0
sights_notified s gone rising = record { gone = rising; held = unreached (length gone) s.held }

pub sights_downed : (s : Sights) (p : ℕ) → AreSights s → AreSights (notified s (with_down s.gone p)).0
sights_downed s p is = sights_notified s (with_down s.gone p) (rising_down s.gone p is.gone)

-- ---- messages

all_places : (first : ℕ) (ps : List ℕ) → AreRising first ps → all_fit is_place (data_of (map a_place ps)) ≡ true
all_places first [] h = refl
all_places first (p ∷ ps) h =
    let few = rising_few (p + 1) ps h.1 in
    both_hold (below p 256 (omega arith)) (all_places (p + 1) ps h.1)

places_in_range : (ps : List ℕ) → are_in_range (data_of (map a_place ps)) ≡ true
places_in_range [] = refl
places_in_range (p ∷ ps) = places_in_range ps

places_count : (ps : List ℕ) → count (data_of (map a_place ps)) ≡ length ps
places_count [] = refl
places_count (p ∷ ps) = let rest = places_count ps in omega arith

pub places_sound : (ps : List ℕ) → AreRising 0 ps → IsSound (places_content ps)
places_sound ps h =
    let few = rising_few 0 ps h in
    let counted : nat_lt (count (data_of (map a_place ps))) 18446744073709551616 ≡ true = below _ _ (let c = places_count ps in omega arith) in (
      of_places,
      record {
        core = refl;
        values = more (a_list (data_of (map a_place ps))) no_data;
        words_are = refl;
        fit = both_hold (all_places 0 ps h) refl;
        range = both_hold (both_hold counted (places_in_range ps)) refl;
      },
    )

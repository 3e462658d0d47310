-- Queues that are seen as one list by the numbers of arrival.
use Rattle.std.proofs.Common.{◌≡◌, ◌∙◌, ℕ, suc, ◌+◌, ◌<◌, ◌≤◌, Bool, true, false, List, [], ◌∷◌, ◌++◌, length, Option, Some, None, refl, ap, subst, arith, if◌then◌else◌}
use Rattle.std.specs.Prelude.{nat_le}
use Rattle.std.specs.List.{AllByRecursion}
use Rattle.std.specs.Option.{option_map}
use Rattle.std.proofs.lemmas.Bool.Decides.{nat_tests}
use Rattle.caf_message.specs.Lists.{pick, keep}
use Rattle.caf_mailbox.specs.Order.{put, woven, IsOrdered, AreBelow, is_before, least}
use Rattle.caf_mailbox.proofs.NextLemmas.{all_pick}

le_so : (a b : ℕ) → a ≤ b → nat_le a b ≡ true
le_so a b h = grind (arith, nat_tests)

le_from : (a b : ℕ) → nat_le a b ≡ true → a ≤ b
le_from a b h = grind (arith, nat_tests)

lt_from : (a b : ℕ) → nat_le a b ≡ false → b < a
lt_from a b h = grind (arith, nat_tests)

gt_so : (a b : ℕ) → b < a → nat_le a b ≡ false
gt_so a b h = grind (arith, nat_tests)

module _ {A : Type 0} where
  -- ---- what holds of each

  pub all-put : (P : ℕ × A → Type 0) (x : ℕ × A) (ys : List (ℕ × A)) → P x → AllByRecursion P ys → AllByRecursion P (put x ys)
  all-put P x [] p all = (p, tt)
  all-put P x (y ∷ ys) p all = by (nat_le x.0 y.0) (all-put P x ys p all.1)
    where
      by : (b : Bool) → AllByRecursion P (put x ys) → AllByRecursion P (if b then x ∷ y ∷ ys else y ∷ put x ys)
      by true rest = (p, all)
      by false rest = (all.0, rest)

  pub all-woven : (P : ℕ × A → Type 0) (xs ys : List (ℕ × A)) → AllByRecursion P xs → AllByRecursion P ys → AllByRecursion P (woven xs ys)
  all-woven P [] ys one two = two
  all-woven P (x ∷ xs) ys one two = all-put P x (woven xs ys) one.0 (all-woven P xs ys one.1 two)

  no_less : (a b : ℕ) (ys : List (ℕ × A)) → a ≤ b → AllByRecursion (λ y. b ≤ y.0) ys → AllByRecursion (λ y. a ≤ y.0) ys
  no_less a b [] le all = tt
  no_less a b (y ∷ ys) le all = let first = all.0 in (omega arith, no_less a b ys le all.1)

  pub ordered-put : (x : ℕ × A) (ys : List (ℕ × A)) → IsOrdered ys → IsOrdered (put x ys)
  ordered-put x [] order = (tt, tt)
  ordered-put x (y ∷ ys) order = by (nat_le x.0 y.0) refl (ordered-put x ys order.1)
    where
      by : (b : Bool) → nat_le x.0 y.0 ≡ b → IsOrdered (put x ys) → IsOrdered (if b then x ∷ y ∷ ys else y ∷ put x ys)
      by true q rest = let le = le_from x.0 y.0 q in ((le, no_less x.0 y.0 ys le order.0), order)
      by false q rest = let lt = lt_from x.0 y.0 q in (all-put (λ z. y.0 ≤ z.0) x ys (omega arith) order.0, rest)

  pub ordered-woven : (xs ys : List (ℕ × A)) → IsOrdered ys → IsOrdered (woven xs ys)
  ordered-woven [] ys order = order
  ordered-woven (x ∷ xs) ys order = ordered-put x (woven xs ys) (ordered-woven xs ys order)

  length-put : (x : ℕ × A) (ys : List (ℕ × A)) → length (put x ys) ≡ suc (length ys)
  length-put x [] = refl
  length-put x (y ∷ ys) = by (nat_le x.0 y.0) (length-put x ys)
    where
      by : (b : Bool) → length (put x ys) ≡ suc (length ys) → length (if b then x ∷ y ∷ ys else y ∷ put x ys) ≡ suc (suc (length ys))
      by true rest = refl
      by false rest = ap suc rest

  -- ---- one more at the end

  first-put : (x : ℕ × A) (ys : List (ℕ × A)) → AllByRecursion (λ y. x.0 ≤ y.0) ys → put x ys ≡ x ∷ ys
  first-put x [] all = refl
  first-put x (y ∷ ys) all = rw (le_so x.0 y.0 all.0) refl

  last-put : (x : ℕ × A) (ys : List (ℕ × A)) → AreBelow x.0 ys → put x ys ≡ ys ++ x ∷ []
  last-put x [] all = refl
  last-put x (y ∷ ys) all = let first = all.0 in let lt : y.0 < x.0 = omega arith in rw (gt_so x.0 y.0 lt) (ap (λ zs. y ∷ zs) (last-put x ys all.1))

  put-past : (x : ℕ × A) (ys : List (ℕ × A)) (last : ℕ × A) → x.0 ≤ last.0 → put x (ys ++ last ∷ []) ≡ put x ys ++ last ∷ []
  put-past x [] last le = rw (le_so x.0 last.0 le) refl
  put-past x (y ∷ ys) last le = by (nat_le x.0 y.0) (put-past x ys last le)
    where
      by : (b : Bool) → put x (ys ++ last ∷ []) ≡ put x ys ++ last ∷ [] → (if b then x ∷ y ∷ (ys ++ last ∷ []) else y ∷ put x (ys ++ last ∷ [])) ≡ (if b then x ∷ y ∷ ys else y ∷ put x ys) ++ last ∷ []
      by true rest = refl
      by false rest = ap (λ zs. y ∷ zs) rest

  -- the last one comes into the second queue
  pub woven-second : (xs ys : List (ℕ × A)) (last : ℕ × A) → AreBelow last.0 xs → woven xs (ys ++ last ∷ []) ≡ woven xs ys ++ last ∷ []
  woven-second [] ys last below = refl
  woven-second (x ∷ xs) ys last below =
      let first = below.0 in
      ap (put x) (woven-second xs ys last below.1) ∙ put-past x (woven xs ys) last (omega arith)

  -- the last one comes into the first queue
  pub woven-first : (xs ys : List (ℕ × A)) (last : ℕ × A) → AreBelow last.0 xs → AreBelow last.0 ys → woven (xs ++ last ∷ []) ys ≡ woven xs ys ++ last ∷ []
  woven-first [] ys last below others = last-put last ys others
  woven-first (x ∷ xs) ys last below others =
      let first = below.0 in
      ap (put x) (woven-first xs ys last below.1 others) ∙ put-past x (woven xs ys) last (omega arith)

  pub ordered-last : (xs : List (ℕ × A)) (last : ℕ × A) → IsOrdered xs → AreBelow last.0 xs → IsOrdered (xs ++ last ∷ [])
  ordered-last [] last order below = (tt, tt)
  ordered-last (x ∷ xs) last order below = let first = below.0 in (at_end xs order.0 (omega arith), ordered-last xs last order.1 below.1)
    where
      at_end : (ys : List (ℕ × A)) → AllByRecursion (λ y. x.0 ≤ y.0) ys → x.0 ≤ last.0 → AllByRecursion (λ y. x.0 ≤ y.0) (ys ++ last ∷ [])
      at_end [] all le = (le, tt)
      at_end (y ∷ ys) all le = (all.0, at_end ys all.1 le)

  pub below-more : (n : ℕ) (xs : List (ℕ × A)) → AreBelow n xs → AreBelow (n + 1) xs
  below-more n [] below = tt
  below-more n (x ∷ xs) below = let first = below.0 in (omega arith, below-more n xs below.1)

  pub below-last : (n : ℕ) (xs : List (ℕ × A)) (a : A) → AreBelow n xs → AreBelow (n + 1) (xs ++ (n, a) ∷ [])
  below-last n [] a below = (omega arith, tt)
  below-last n (x ∷ xs) a below = let first = below.0 in (omega arith, below-last n xs a below.1)

  -- ---- the first one that passes

  module _ (test : ℕ × A → Bool) where
    abbrev Taken : Type 0
    Taken = Option ((ℕ × A) × List (ℕ × A))

    abbrev with_put : ℕ × A → Taken → Taken
    with_put x None = None
    with_put x (Some q) = Some (q.0, put x q.1)

    abbrev or_put : ℕ × A → List (ℕ × A) → Taken → Taken
    or_put x zs None = Some (x, zs)
    or_put x zs (Some q) = if nat_le x.0 q.0.0 then Some (x, zs) else Some (q.0, put x q.1)

    abbrev PutPicks : ℕ × A → List (ℕ × A) → Type 0
    PutPicks x zs = pick test (put x zs) ≡ (if test x then or_put x zs (pick test zs) else with_put x (pick test zs))

    -- it stands first
    put_before : (x y : ℕ × A) (ys : List (ℕ × A)) → IsOrdered (y ∷ ys) → nat_le x.0 y.0 ≡ true → (c d : Bool) → test x ≡ c → test y ≡ d → (o : Taken) → pick test ys ≡ o → PutPicks x (y ∷ ys)
    put_before x y ys order b true true p q o e = simp (b, p, q)
    put_before x y ys order b true false p q None e = simp (b, p, q, e)
    put_before x y ys order b true false p q (Some r) e =
        let le = le_from x.0 y.0 b in
        let over = all_pick test (λ z. y.0 ≤ z.0) ys r order.0 e in
        let first = over.0 in
        let so = le_so x.0 r.0.0 (omega arith) in
        simp (b, p, q, e, so)
    put_before x y ys order b false true p q o e =
        let le = le_from x.0 y.0 b in
        let first = first-put x ys (no_less x.0 y.0 ys le order.0) in
        simp (b, p, q, first)
    put_before x y ys order b false false p q None e = simp (b, p, q, e)
    put_before x y ys order b false false p q (Some r) e = simp (b, p, q, e)

    -- it stands behind
    put_behind : (x y : ℕ × A) (ys : List (ℕ × A)) → nat_le x.0 y.0 ≡ false → (c d : Bool) → test x ≡ c → test y ≡ d → (o : Taken) → pick test ys ≡ o → PutPicks x ys → PutPicks x (y ∷ ys)
    put_behind x y ys b true true p q o e rest = simp (b, p, q)
    put_behind x y ys b false true p q o e rest = simp (b, p, q)
    put_behind x y ys b true false p q None e rest = let so : pick test (put x ys) ≡ Some (x, ys) = rest ∙ simp (p, e) in simp (b, p, q, e, so)
    put_behind x y ys b true false p q (Some r) e rest = by (nat_le x.0 r.0.0) refl
      where
        by : (c : Bool) → nat_le x.0 r.0.0 ≡ c → PutPicks x (y ∷ ys)
        by true l = let so : pick test (put x ys) ≡ Some (x, ys) = rest ∙ simp (p, e, l) in simp (b, p, q, e, so, l)
        by false l = let so : pick test (put x ys) ≡ Some (r.0, put x r.1) = rest ∙ simp (p, e, l) in simp (b, p, q, e, so, l)
    put_behind x y ys b false false p q None e rest = let so : pick test (put x ys) ≡ None = rest ∙ simp (p, e) in simp (b, p, q, e, so)
    put_behind x y ys b false false p q (Some r) e rest = let so : pick test (put x ys) ≡ Some (r.0, put x r.1) = rest ∙ simp (p, e) in simp (b, p, q, e, so)

    pick-put : (x : ℕ × A) (zs : List (ℕ × A)) → IsOrdered zs → PutPicks x zs
    pick-put x [] order = refl
    pick-put x (y ∷ ys) order = by (nat_le x.0 y.0) refl (pick-put x ys order.1)
      where
        by : (b : Bool) → nat_le x.0 y.0 ≡ b → PutPicks x ys → PutPicks x (y ∷ ys)
        by true q rest = put_before x y ys order q (test x) (test y) refl refl (pick test ys) refl
        by false q rest = put_behind x y ys q (test x) (test y) refl refl (pick test ys) refl rest

    abbrev number : Taken → Option ℕ
    number o = option_map (λ p. p.0.0) o

    -- the first one of two queues, and what is left of both
    abbrev pub earlier : List (ℕ × A) → List (ℕ × A) → Taken → Taken → Taken
    earlier xs ys p q = if is_before (number p) (number q) then option_map (λ r. (r.0, woven r.1 ys)) p else option_map (λ r. (r.0, woven xs r.1)) q

    alone : (o : Taken) → o ≡ option_map (λ r. (r.0, r.1)) o
    alone None = refl
    alone (Some r) = refl

    -- the first one of the first queue doesn't pass
    not_first : (x : ℕ × A) (xs ys : List (ℕ × A)) (p q : Taken) → with_put x (earlier xs ys p q) ≡ earlier (x ∷ xs) ys (keep x p) q
    not_first x xs ys None None = refl
    not_first x xs ys (Some p) None = refl
    not_first x xs ys None (Some q) = refl
    not_first x xs ys (Some p) (Some q) = by (nat_le p.0.0 q.0.0)
      where
        by : (b : Bool) → with_put x (if b then Some (p.0, woven p.1 ys) else Some (q.0, woven xs q.1)) ≡ (if b then Some (p.0, put x (woven p.1 ys)) else Some (q.0, put x (woven xs q.1)))
        by true = refl
        by false = refl

    -- it passes
    it_first : (x : ℕ × A) (xs ys : List (ℕ × A)) (p q : Taken) → ((r : (ℕ × A) × List (ℕ × A)) → p ≡ Some r → x.0 ≤ r.0.0) → or_put x (woven xs ys) (earlier xs ys p q) ≡ earlier (x ∷ xs) ys (Some (x, xs)) q
    it_first x xs ys None None over = refl
    it_first x xs ys (Some p) None over = let so = le_so x.0 p.0.0 (over p refl) in rw so refl
    it_first x xs ys None (Some q) over = refl
    it_first x xs ys (Some p) (Some q) over = by (nat_le p.0.0 q.0.0) refl (over p refl)
      where
        by : (b : Bool) → nat_le p.0.0 q.0.0 ≡ b → x.0 ≤ p.0.0 → or_put x (woven xs ys) (earlier xs ys (Some p) (Some q)) ≡ earlier (x ∷ xs) ys (Some (x, xs)) (Some q)
        by true l le =
            let so = le_so x.0 p.0.0 le in
            let less : p.0.0 ≤ q.0.0 = le_from p.0.0 q.0.0 l in
            let over : x.0 ≤ q.0.0 = omega arith in
            let so' = le_so x.0 q.0.0 over in
            simp (l, so, so')
        by false l le = simp l

    pub pick-woven : (xs ys : List (ℕ × A)) → IsOrdered xs → IsOrdered ys → pick test (woven xs ys) ≡ earlier xs ys (pick test xs) (pick test ys)
    pick-woven [] ys one two = alone (pick test ys)
    pick-woven (x ∷ xs) ys one two = by (test x) refl (pick-woven xs ys one.1 two)
      where
        by : (b : Bool) → test x ≡ b → pick test (woven xs ys) ≡ earlier xs ys (pick test xs) (pick test ys) → pick test (put x (woven xs ys)) ≡ earlier (x ∷ xs) ys (pick test (x ∷ xs)) (pick test ys)
        by true q rest =
            let over = λ (r : (ℕ × A) × List (ℕ × A)) (e : pick test xs ≡ Some r). (all_pick test (λ z. x.0 ≤ z.0) xs r one.0 e).0 in
            let put_is : pick test (put x (woven xs ys)) ≡ or_put x (woven xs ys) (pick test (woven xs ys)) = pick-put x (woven xs ys) (ordered-woven xs ys two) ∙ rw q refl in
            put_is ∙ ap (or_put x (woven xs ys)) rest ∙ it_first x xs ys (pick test xs) (pick test ys) over ∙ rw q refl
        by false q rest =
            let put_is : pick test (put x (woven xs ys)) ≡ with_put x (pick test (woven xs ys)) = pick-put x (woven xs ys) (ordered-woven xs ys two) ∙ rw q refl in
            put_is ∙ ap (with_put x) rest ∙ not_first x xs ys (pick test xs) (pick test ys) ∙ rw q refl

    pub number-earlier : (xs ys : List (ℕ × A)) (p q : Taken) → number (earlier xs ys p q) ≡ least (number p) (number q)
    number-earlier xs ys None None = refl
    number-earlier xs ys (Some p) None = refl
    number-earlier xs ys None (Some q) = refl
    number-earlier xs ys (Some p) (Some q) = by (nat_le p.0.0 q.0.0)
      where
        by : (b : Bool) → number (if b then Some (p.0, woven p.1 ys) else Some (q.0, woven xs q.1)) ≡ (if b then Some p.0.0 else Some q.0.0)
        by true = refl
        by false = refl

    -- what was taken of the first queue, or of the second, seen in both
    module _ {B : Type 0} (f : B → ℕ × A) (xs ys : List (ℕ × A)) (p q : Taken) where
      pub first_side : (r : Option B) (left : List (ℕ × A)) → is_before (number p) (number q) ≡ true → option_map (λ b. (f b, left)) r ≡ p → option_map (λ b. (f b, woven left ys)) r ≡ earlier xs ys p q
      first_side r left before is = rw before (by r ∙ ap (option_map {U = (ℕ × A) × List (ℕ × A)} (λ s. (s.0, woven s.1 ys))) is)
        where
          by : (r : Option B) → option_map (λ b. (f b, woven left ys)) r ≡ option_map {U = (ℕ × A) × List (ℕ × A)} (λ (s : (ℕ × A) × List (ℕ × A)). (s.0, woven s.1 ys)) (option_map (λ b. (f b, left)) r)
          by None = refl
          by (Some b) = refl

      pub second_side : (r : Option B) (left : List (ℕ × A)) → is_before (number p) (number q) ≡ false → option_map (λ b. (f b, left)) r ≡ q → option_map (λ b. (f b, woven xs left)) r ≡ earlier xs ys p q
      second_side r left before is = rw before (by r ∙ ap (option_map {U = (ℕ × A) × List (ℕ × A)} (λ s. (s.0, woven xs s.1))) is)
        where
          by : (r : Option B) → option_map (λ b. (f b, woven xs left)) r ≡ option_map {U = (ℕ × A) × List (ℕ × A)} (λ (s : (ℕ × A) × List (ℕ × A)). (s.0, woven xs s.1)) (option_map (λ b. (f b, left)) r)
          by None = refl
          by (Some b) = refl

    pub ordered-pick : (xs : List (ℕ × A)) (p : (ℕ × A) × List (ℕ × A)) → IsOrdered xs → pick test xs ≡ Some p → IsOrdered p.1
    ordered-pick [] p order e = cc
    ordered-pick (x ∷ xs) p order e = by (test x) (pick test xs) refl (λ r is. ordered-pick xs r order.1 is) e
      where
        by : (b : Bool) (o : Taken) → pick test xs ≡ o → ((r : (ℕ × A) × List (ℕ × A)) → pick test xs ≡ Some r → IsOrdered r.1) → (if b then Some (x, xs) else keep x o) ≡ Some p → IsOrdered p.1
        by true o is rest e' = let same : (x, xs) ≡ p = cc in subst (λ (r : (ℕ × A) × List (ℕ × A)). IsOrdered r.1) same order.1
        by false None is rest e' = cc
        by false (Some r) is rest e' =
            let same : (r.0, x ∷ r.1) ≡ p = cc in
            subst (λ (s : (ℕ × A) × List (ℕ × A)). IsOrdered s.1) same ((all_pick test (λ z. x.0 ≤ z.0) xs r order.0 is).1, rest r is)

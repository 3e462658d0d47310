-- Two lists of the same items, both in order, are the same list; so a sort gives what `in_order` says.
use Rattle.std.proofs.Common.{◌≡◌, ℕ, suc, ◌+◌, ◌<◌, ◌≤◌, Bool, true, false, cond, List, [], ◌∷◌, length, get_or, map, refl, ap, sym, ◌∙◌, subst, arith}
use Rattle.std.specs.List.{AllByRecursion, sum_by}
use Rattle.std.specs.List.Sorted.{IsPermutation, IsSortedBy}
use Rattle.std.specs.Ordering.{is_lt, is_eq, ordering_reverse}
use Rattle.std.specs.declared.cmp.Ordering.{Ordering}
use Rattle.std.specs.declared.cmp.Ordering.TheVariants.{Less, Equal, Greater}
use Rattle.std.specs.Cmp.{IsTotalOrder, IsStrictWeakOrder}
use Rattle.std.specs.FinMap.{IsAntisymmetric}
use Rattle.std.proofs.lemmas.Cmp.{tied_itself}
use Rattle.std.proofs.lemmas.List.Sums.{sum_by-cons}
use Rattle.std.proofs.lemmas.List.Sorted.{ranks_by, sorted_far, sum_by-IsPermutation}
use Rattle.caf_record.specs.InOrder.{put, in_order}

-- ---- the same items

module _ {A : Type 0} (order : A → A → Ordering) where
  sum-put : (f : A → ℕ) (x : A) (ys : List A) → sum_by f (put order x ys) ≡ f x + sum_by f ys
  sum-put f x [] = sum_by-cons f x []
  sum-put f x (y ∷ ys) = go (is_lt (order y x)) refl (sum-put f x ys)
    where
      go : (b : Bool) → is_lt (order y x) ≡ b → sum_by f (put order x ys) ≡ f x + sum_by f ys → sum_by f (put order x (y ∷ ys)) ≡ f x + sum_by f (y ∷ ys)
      go true q h =
          let one = sum_by-cons f y (put order x ys) in
          let two = sum_by-cons f y ys in
          rw q (let e : sum_by f (y ∷ put order x ys) ≡ f x + sum_by f (y ∷ ys) = omega arith in e)
      go false q h = rw q (sum_by-cons f x (y ∷ ys))

  pub sum-in_order : (f : A → ℕ) (xs : List A) → sum_by f (in_order order xs) ≡ sum_by f xs
  sum-in_order f [] = refl
  sum-in_order f (x ∷ xs) = sum-put f x (in_order order xs) ∙ ap (λ n. f x + n) (sum-in_order f xs) ∙ sym (sum_by-cons f x xs)

  module _ (P : A → Type 0) where
    all-put : (x : A) (ys : List A) → P x → AllByRecursion P ys → AllByRecursion P (put order x ys)
    all-put x [] one rest = (one, tt)
    all-put x (y ∷ ys) one rest = go (is_lt (order y x)) refl (all-put x ys one rest.1)
      where
        go : (b : Bool) → is_lt (order y x) ≡ b → AllByRecursion P (put order x ys) → AllByRecursion P (put order x (y ∷ ys))
        go true q h = rw q (rest.0, h)
        go false q h = rw q (one, rest)

    pub all-in_order : (xs : List A) → AllByRecursion P xs → AllByRecursion P (in_order order xs)
    all-in_order [] h = tt
    all-in_order (x ∷ xs) h = all-put x (in_order order xs) h.0 (all-in_order xs h.1)

-- ---- in order

-- the second isn't less than the first
abbrev pub NotAfter : {A : Type 0} → (A → A → Ordering) → A → A → Type 0
NotAfter order x y = is_lt (order y x) ≡ false

abbrev pub Rises : {A : Type 0} → (A → A → Ordering) → List A → Type 0
Rises order [] = Unit {0}
Rises order (x ∷ xs) = AllByRecursion (NotAfter order x) xs × Rises order xs

less : (r : Ordering) → is_lt r ≡ true → r ≡ Less
less Less q = refl
less Equal q = cc
less Greater q = cc

-- neither is less: they are the same
neither : (r : Ordering) → is_lt r ≡ false → is_lt (ordering_reverse r) ≡ false → r ≡ Equal
neither Less p q = cc
neither Equal p q = refl
neither Greater p q = cc

equal : (r : Ordering) → is_eq r ≡ true → r ≡ Equal
equal Less q = cc
equal Equal q = refl
equal Greater q = cc

module _ {A : Type 0} (P : A → Type 0) where
  pub each_at : (xs : List A) (d : A) → ((j : ℕ) → j < length xs → P (get_or xs j d)) → AllByRecursion P xs
  each_at [] d h = tt
  each_at (x ∷ xs) d h = (h 0 (omega arith), each_at xs d (λ j lt. h (suc j) (omega arith)))

module _ {A : Type 0} (order : A → A → Ordering) (total : IsTotalOrder order) where
  weak : IsStrictWeakOrder (λ x y. is_lt (order x y))
  weak = ranks_by total (λ x. x)

  after : (x y : A) → is_lt (order y x) ≡ true → NotAfter order y x
  after x y q = weak.one_way y x q

  later : (x y : A) (ys : List A) → NotAfter order x y → AllByRecursion (NotAfter order y) ys → AllByRecursion (NotAfter order x) ys
  later x y [] h k = tt
  later x y (z ∷ ys) h k = (weak.chain z y x k.0 h, later x y ys h k.1)

  rises-put : (x : A) (ys : List A) → Rises order ys → Rises order (put order x ys)
  rises-put x [] h = (tt, tt)
  rises-put x (y ∷ ys) h = go (is_lt (order y x)) refl (rises-put x ys h.1)
    where
      go : (b : Bool) → is_lt (order y x) ≡ b → Rises order (put order x ys) → Rises order (put order x (y ∷ ys))
      go true q k = rw q (all-put order (NotAfter order y) x ys (after x y q) h.0, k)
      go false q k = rw q ((q, later x y ys q h.0), h)

  pub rises-in_order : (xs : List A) → Rises order (in_order order xs)
  rises-in_order [] = tt
  rises-in_order (x ∷ xs) = rises-put x (in_order order xs) (rises-in_order xs)

  rises-from_far : (xs : List A) → ((i j : ℕ) (d : A) → i ≤ j → j < length xs → is_lt (order (get_or xs j d) (get_or xs i d)) ≡ false) → Rises order xs
  rises-from_far [] h = tt
  rises-from_far (x ∷ xs) h = (
    each_at (NotAfter order x) xs x (λ j lt. h 0 (suc j) x (omega arith) (omega arith)),
    rises-from_far xs (λ i j d le lt. h (suc i) (suc j) d (omega arith) (omega arith)),
  )

  rises-from_sorted : (xs : List A) → IsSortedBy (λ x y. is_lt (order x y)) xs → Rises order xs
  rises-from_sorted xs sorted = rises-from_far xs (sorted_far (λ x y. is_lt (order x y)) weak xs sorted)

  -- ---- the only list in order

  module _ (same : IsAntisymmetric order) where
    -- how often the item occurs
    abbrev times : A → A → ℕ
    times x y = cond (is_eq (order x y)) 1 0

    itself : (x : A) → times x x ≡ 1
    itself x = ap (λ r. cond (is_eq r) 1 0) (tied_itself total x)

    -- an item that occurs isn't less than one that comes first
    found : (x b : A) (ys : List A) → AllByRecursion (NotAfter order b) ys → 0 < sum_by (times x) ys → NotAfter order b x
    found x b [] h lt = absurd (omega arith)
    found x b (y ∷ ys) h lt = go (is_eq (order x y)) refl (found x b ys h.1)
      where
        go : (c : Bool) → is_eq (order x y) ≡ c → (0 < sum_by (times x) ys → NotAfter order b x) → NotAfter order b x
        go true q on = subst (λ z. NotAfter order b z) (sym (same x y (equal (order x y) q))) h.0
        go false q on =
            let none : times x y ≡ 0 = rw q refl in
            let e = sum_by-cons (times x) y ys in
            on (omega arith)

    first_of : (x y : A) (xs ys : List A) → Rises order (y ∷ ys) → sum_by (times x) (x ∷ xs) ≡ sum_by (times x) (y ∷ ys) → NotAfter order y x
    first_of x y xs ys h e =
        let one = itself x in
        let here = sum_by-cons (times x) x xs in
        let own : NotAfter order y y = ap is_lt (tied_itself total y) in
        found x y (y ∷ ys) (own, h.0) (omega arith)

    pub only_in_order : (xs ys : List A) → Rises order xs → Rises order ys → ((f : A → ℕ) → sum_by f xs ≡ sum_by f ys) → xs ≡ ys
    only_in_order [] [] h k sums = refl
    only_in_order [] (y ∷ ys) h k sums =
        let e : 0 ≡ sum_by (λ (z : A). 1) (y ∷ ys) = sums (λ z. 1) in
        let one = sum_by-cons (λ (z : A). 1) y ys in
        absurd (omega arith)
    only_in_order (x ∷ xs) [] h k sums =
        let e : sum_by (λ (z : A). 1) (x ∷ xs) ≡ 0 = sums (λ z. 1) in
        let one = sum_by-cons (λ (z : A). 1) x xs in
        absurd (omega arith)
    only_in_order (x ∷ xs) (y ∷ ys) h k sums =
        let low : is_lt (order x y) ≡ false = first_of x y xs ys k (sums (times x)) in
        let high : is_lt (order y x) ≡ false = first_of y x ys xs h (sym (sums (times y))) in
        let is : x ≡ y = same x y (neither (order x y) low (subst (λ r. is_lt r ≡ false) (total.antisymm y x) high)) in
        let rest = λ (f : A → ℕ). (
        let one = sum_by-cons f x xs in
        let two = sum_by-cons f y ys in
        let all = sums f in
        let first : f x ≡ f y = ap f is in
        let e : sum_by f xs ≡ sum_by f ys = omega arith in e) in
        ap (λ z. z ∷ xs) is ∙ ap (λ zs. y ∷ zs) (only_in_order xs ys h.1 k.1 rest)

    -- what a sort gives
    pub sorted_in_order : (xs ys : List A) → IsPermutation xs ys → IsSortedBy (λ x y. is_lt (order x y)) ys → ys ≡ in_order order xs
    sorted_in_order xs ys moved sorted =
        only_in_order ys (in_order order xs) (rises-from_sorted ys sorted) (rises-in_order xs)
        (λ f. sum_by-IsPermutation f xs ys moved ∙ sym (sum-in_order order f xs))

-- ---- items that stand for others

-- an order that goes by what the items stand for
module _ {A B : Type 0} (f : A → B) (order : B → B → Ordering) where
  abbrev by_value : A → A → Ordering
  by_value x y = order (f x) (f y)

  put-map : (x : A) (ys : List A) → put order (f x) (map f ys) ≡ map f (put by_value x ys)
  put-map x [] = refl
  put-map x (y ∷ ys) = go (is_lt (order (f y) (f x))) refl (put-map x ys)
    where
      go : (b : Bool) → is_lt (order (f y) (f x)) ≡ b → put order (f x) (map f ys) ≡ map f (put by_value x ys) → put order (f x) (map f (y ∷ ys)) ≡ map f (put by_value x (y ∷ ys))
      go true q h = rw q (ap (λ zs. f y ∷ zs) h)
      go false q h = rw q refl

  pub in_order-map : (xs : List A) → in_order order (map f xs) ≡ map f (in_order by_value xs)
  in_order-map [] = refl
  in_order-map (x ∷ xs) = ap (put order (f x)) (in_order-map xs) ∙ put-map x (in_order by_value xs)

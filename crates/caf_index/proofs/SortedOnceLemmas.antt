-- Lists that are sorted, each key once.
use Rattle.std.proofs.Common.{◌≡◌, Bool, true, false, cond, List, [], ◌∷◌, Option, Some, refl, sym, ap, subst, ◌∙◌}
use Rattle.std.specs.Prelude.{T, ◌&&◌, ◌||◌, is_some, map}
use Rattle.std.specs.List.{list_any, dedup, dedup_from, AllByRecursion}
use Rattle.std.specs.List.Sorted.{IsPermutation, IsSorted, IsStrictlySortedBy}
use Rattle.std.specs.Ordering.{is_eq, is_lt, eq_by_cmp, on}
use Rattle.std.specs.declared.cmp.Ordering.{Ordering}
use Rattle.std.specs.declared.cmp.Ordering.TheVariants.{Less, Equal, Greater}
use Rattle.std.specs.Cmp.{IsTotalOrder, alike_right}
use Rattle.std.proofs.lemmas.Cmp.{on_total}
use Rattle.std.proofs.lemmas.List.Kept.{IsStrictlySortedBy-dedup}
use Rattle.std.proofs.lemmas.List.Sorted.{IsPermutation-map, list_any-IsPermutation}
use Rattle.std.specs.FinMap.{IsAntisymmetric}
use Rattle.std.specs.FinMap.Entries.{put, find, is_sorted, below_all, by_order, is_sorted-put, find-put, same_entries, is_some-find}
use Rattle.caf_index.specs.Postings.{put_once, sorted_once}
use Rattle.caf_index.proofs.IndexLemmas.{bare, sorted-bare, keys-bare, same_unit}

left : (a b : Bool) → T (a && b) → T a
left true b h = tt
left false b h = h

right : (a b : Bool) → T (a && b) → T b
right true b h = h
right false b h = absurd h

less : (r : Ordering) → T (is_lt r) → r ≡ Less
less Less h = refl
less Equal h = absurd h
less Greater h = absurd h

module _ {K : Type 0} (R : K → K → Ordering) (o : IsTotalOrder R) where
  bare-put : (key : K) (keys : List K) → bare R (put_once R key keys) ≡ put R key tt (bare R keys)
  bare-put key [] = refl
  bare-put key (k ∷ keys) = elim (R key k) as (λ r. bare R (by_order r (key ∷ k ∷ keys) (k ∷ keys) (k ∷ put_once R key keys)) ≡ by_order r ((key, tt) ∷ (k, tt) ∷ bare R keys) ((k, tt) ∷ bare R keys) ((k, tt) ∷ put R key tt (bare R keys))) [
    | Less ↦ refl
    | Equal ↦ refl
    | Greater ↦ ap (λ es. (k, tt) ∷ es) (bare-put key keys)
  ]

  sorted-once : (keys : List K) → T (is_sorted R (bare R (sorted_once R keys)))
  sorted-once [] = tt
  sorted-once (key ∷ keys) = subst (λ es. T (is_sorted R es)) (sym (bare-put key (sorted_once R keys))) (is_sorted-put R o key tt (bare R (sorted_once R keys)) (sorted-once keys))

  below-strict : (key : K) (keys : List K) → T (below_all R key (bare R keys)) → AllByRecursion (λ k. R key k ≡ Less) keys
  below-strict key [] h = tt
  below-strict key (k ∷ keys) h = (less (R key k) (left (is_lt (R key k)) (below_all R key (bare R keys)) h), below-strict key keys (right (is_lt (R key k)) (below_all R key (bare R keys)) h))

  strict-bare : (keys : List K) → T (is_sorted R (bare R keys)) → IsStrictlySortedBy R keys
  unfolding IsStrictlySortedBy
  strict-bare [] h = tt
  strict-bare (k ∷ keys) h = (below-strict k keys (left (below_all R k (bare R keys)) (is_sorted R (bare R keys)) h), strict-bare keys (right (below_all R k (bare R keys)) (is_sorted R (bare R keys)) h))

  -- they are in strict order
  pub strict-once : (keys : List K) → IsStrictlySortedBy R (sorted_once R keys)
  strict-once keys = strict-bare (sorted_once R keys) (sorted-once keys)

  or_found : (b : Bool) (r : Option (Unit {0})) → is_some (cond b (Some tt) r) ≡ (b || is_some r)
  or_found true r = refl
  or_found false r = refl

  found-any : (q : K) (keys : List K) → is_some (find R q (bare R keys)) ≡ list_any (eq_by_cmp R q) keys
  found-any q keys = is_some-find R q (bare R keys) ∙ ap (list_any (eq_by_cmp R q)) (keys-bare R keys)

  -- the same keys are there
  pub any-once : (q : K) (keys : List K) → list_any (eq_by_cmp R q) (sorted_once R keys) ≡ list_any (eq_by_cmp R q) keys
  any-once q [] = refl
  any-once q (key ∷ keys) =
      sym (found-any q (sorted_once R (key ∷ keys)))
      ∙ ap (λ es. is_some (find R q es)) (bare-put key (sorted_once R keys))
      ∙ ap is_some (find-put R o q key tt (bare R (sorted_once R keys)))
      ∙ or_found (eq_by_cmp R q key) (find R q (bare R (sorted_once R keys)))
      ∙ ap (λ b. eq_by_cmp R q key || b) (found-any q (sorted_once R keys) ∙ any-once q keys)

  -- keys in strict order are those keys, where the same are there
  pub once-is : IsAntisymmetric R → (ks keys : List K) → IsStrictlySortedBy R ks → ((q : K) → list_any (eq_by_cmp R q) ks ≡ list_any (eq_by_cmp R q) keys) → ks ≡ sorted_once R keys
  once-is same ks keys up has =
      sym (keys-bare R ks)
      ∙ ap (map (λ (e : K × Unit {0}). e.0)) (same_entries R o same (bare R ks) (bare R (sorted_once R keys)) (sorted-bare R ks up) (sorted-once keys)
      (λ q. same_unit _ _ (found-any q ks ∙ has q ∙ sym (any-once q keys) ∙ sym (found-any q (sorted_once R keys)))))
      ∙ keys-bare R (sorted_once R keys)

-- ---- what `dedup` keeps

either : (a b : Bool) → (a || (a || b)) ≡ (a || b)
either true b = refl
either false b = refl

module _ {A : Type 0} (E : A → A → Bool) (test : A → Bool) (alike : (x y : A) → E x y ≡ true → test x ≡ test y) where
  any-from : (k : A) (xs : List A) → list_any test (dedup_from E k xs) ≡ (test k || list_any test xs)
  any-from k [] = refl
  any-from k (x ∷ xs) = elim (E x k) as (λ t. E x k ≡ t → list_any test (cond t (dedup_from E k xs) (k ∷ dedup_from E x xs)) ≡ (test k || (test x || list_any test xs))) [
    | true ↦ λ e. any-from k xs ∙ sym (either (test k) (list_any test xs)) ∙ ap (λ b. test k || (b || list_any test xs)) (sym (alike x k e))
    | false ↦ λ e. ap (λ b. test k || b) (any-from x xs)
  ] refl

  any-dedup : (xs : List A) → list_any test (dedup E xs) ≡ list_any test xs
  any-dedup [] = refl
  any-dedup (x ∷ xs) = any-from x xs

-- ---- keys that are read off other values

module _ {A K : Type 0} (f : A → K) (R : K → K → Ordering) where
  any-read : (test : K → Bool) (xs : List A) → list_any test (map f xs) ≡ list_any (λ x. test (f x)) xs
  any-read test [] = refl
  any-read test (x ∷ xs) = ap (λ b. test (f x) || b) (any-read test xs)

  below-read : (x : A) (xs : List A) → AllByRecursion (λ y. R (f x) (f y) ≡ Less) xs → AllByRecursion (λ k. R (f x) k ≡ Less) (map f xs)
  below-read x [] h = tt
  below-read x (y ∷ xs) h = (h.0, below-read x xs h.1)

  sorted-read : (xs : List A) → IsStrictlySortedBy (on f R) xs → IsStrictlySortedBy R (map f xs)
  unfolding IsStrictlySortedBy
  sorted-read [] h = tt
  sorted-read (x ∷ xs) h = (below-read x xs h.0, sorted-read xs h.1)

  -- what a sort and then `dedup` leave
  pub sorted-dedup : IsTotalOrder R → IsAntisymmetric R → (E : A → A → Bool) → ((x y : A) → E x y ≡ eq_by_cmp (on f R) x y) → (xs ys zs : List A) → IsPermutation xs ys → IsSorted (on f R) ys → zs ≡ dedup E ys
      → map f zs ≡ sorted_once R (map f xs)
  sorted-dedup o same E ties xs ys zs moved up is =
      ap (map f) is
      ∙ once-is R o same (map f (dedup E ys)) (map f xs) (sorted-read (dedup E ys) (IsStrictlySortedBy-dedup (on_total f o) ties ys up))
      (λ q. any-read (eq_by_cmp R q) (dedup E ys)
      ∙ any-dedup E (λ y. eq_by_cmp R q (f y)) (λ x y e. ap is_eq (alike_right o (f x) (f y) q (tied (R (f x) (f y)) (sym (ties x y) ∙ e)))) ys
      ∙ sym (any-read (eq_by_cmp R q) ys)
      ∙ sym (list_any-IsPermutation (eq_by_cmp R q) (map f xs) (map f ys) (IsPermutation-map f xs ys moved)))
    where
      tied : (r : Ordering) → is_eq r ≡ true → r ≡ Equal
      tied Less e = cc
      tied Equal e = refl
      tied Greater e = cc

-- Entries in rising order of numbers: where a new one goes, and what is found.
use Rattle.std.proofs.Common.{◌≡◌, ℕ, zero, suc, ◌<◌, ◌≤◌, Bool, true, false, cond, List, [], ◌∷◌, length, get_or, set, Some, None, refl, sym, ap, subst, ◌∙◌, arith}
use Rattle.std.specs.Prelude.{insert, IsTrue, ◌&&◌}
use Rattle.std.specs.List.{AllWithin}
use Rattle.std.specs.List.Sorted.{IsNonDecreasingBy}
use Rattle.std.specs.Ordering.{nat_cmp, is_lt, is_eq}
use Rattle.std.specs.declared.cmp.Ordering.TheVariants.{Less, Equal, Greater}
use Rattle.std.specs.Cmp.{nat_cmp_is, ranked}
use Rattle.std.specs.FinMap.{put, find, is_sorted}
use Rattle.std.specs.FinMap.Entries.{below_all, by_order}

pub first_of : (a b : Bool) → IsTrue (a && b) → IsTrue a
first_of true b h = refl
first_of false b h = h

pub second_of : (a b : Bool) → IsTrue (a && b) → IsTrue b
second_of true b h = h
second_of false b h = cc

lt_from : (x y : ℕ) → IsTrue (is_lt (nat_cmp x y)) → x < y
lt_from x y h =
    elim (nat_cmp x y) as (λ r. r ≡ nat_cmp x y → IsTrue (is_lt r) → x < y) [
      | Less ↦ λ e _. ranked x y Less e
      | Equal ↦ λ e g. cc
      | Greater ↦ λ e g. cc
    ] refl h

module _ {X : Type 0} where
  -- a key below all keys is below each
  pub below_at : (k : ℕ) (es : List (ℕ × X)) → IsTrue (below_all nat_cmp k es) → (j : ℕ) (d : ℕ × X) → j < length es → k < (get_or es j d).0
  below_at k [] h j d lt = absurd (omega arith)
  below_at k (e ∷ es) h zero d lt = lt_from k e.0 (first_of _ _ h)
  below_at k (e ∷ es) h (suc j) d lt = below_at k es (second_of _ _ h) j d (omega arith)

  pub rising : (es : List (ℕ × X)) → IsTrue (is_sorted nat_cmp es) → IsNonDecreasingBy (λ (e : ℕ × X). e.0) es
  rising [] h i j d le lt = absurd (omega arith)
  rising (e ∷ es) h zero zero d le lt = omega arith
  rising (e ∷ es) h zero (suc j) d le lt =
      let below = below_at e.0 es (first_of _ _ h) j d (omega arith) in omega (arith, below)
  rising (e ∷ es) h (suc i) zero d le lt = absurd (omega arith)
  rising (e ∷ es) h (suc i) (suc j) d le lt = rising es (second_of _ _ h) i j d (omega arith) (omega arith)

  -- a key whose place is known goes there
  pub put-insert : (k : ℕ) (v : X) (es : List (ℕ × X)) (i : ℕ) → i ≤ length es → AllWithin (λ (e : ℕ × X). e.0 < k) es 0 i → ((d : ℕ × X) → i < length es → k < (get_or es i d).0) → put nat_cmp k v es ≡ insert es i (k, v)
  put-insert k v [] zero fits below above = refl
  put-insert k v [] (suc i) fits below above = absurd (omega arith)
  put-insert k v (e ∷ es) zero fits below above =
      let less : Less ≡ nat_cmp k e.0 = nat_cmp_is k e.0 Less (above e (omega arith)) in
      ap (λ r. by_order r ((k, v) ∷ e ∷ es) ((e.0, v) ∷ es) (e ∷ put nat_cmp k v es)) (sym less)
  put-insert k v (e ∷ es) (suc i) fits below above =
      let greater : Greater ≡ nat_cmp k e.0 = nat_cmp_is k e.0 Greater (below 0 e (omega arith) (omega arith)) in
      ap (λ r. by_order r ((k, v) ∷ e ∷ es) ((e.0, v) ∷ es) (e ∷ put nat_cmp k v es)) (sym greater)
      ∙ ap (λ fs. e ∷ fs) (put-insert k v es i (omega arith) (λ j d _ lt. below (suc j) d (omega arith) (omega arith)) (λ d lt. above d (omega arith)))

  -- a key that is there keeps its place
  pub put-set : (k : ℕ) (v : X) (es : List (ℕ × X)) (i : ℕ) → IsTrue (is_sorted nat_cmp es) → i < length es → ((d : ℕ × X) → (get_or es i d).0 ≡ k) → put nat_cmp k v es ≡ set es i (k, v)
  put-set k v [] i h lt at = absurd (omega arith)
  put-set k v (e ∷ es) zero h lt at =
      let equal : Equal ≡ nat_cmp k e.0 = nat_cmp_is k e.0 Equal (sym (at e)) in
      ap (λ r. by_order r ((k, v) ∷ e ∷ es) ((e.0, v) ∷ es) (e ∷ put nat_cmp k v es)) (sym equal)
      ∙ ap (λ q. (q, v) ∷ es) (at e)
  put-set k v (e ∷ es) (suc i) h lt at =
      let below : e.0 < (get_or es i e).0 = below_at e.0 es (first_of _ _ h) i e (omega arith) in
      let greater : Greater ≡ nat_cmp k e.0 = nat_cmp_is k e.0 Greater (subst (λ q. e.0 < q) (at e) below) in
      ap (λ r. by_order r ((k, v) ∷ e ∷ es) ((e.0, v) ∷ es) (e ∷ put nat_cmp k v es)) (sym greater)
      ∙ ap (λ fs. e ∷ fs) (put-set k v es i (second_of _ _ h) (omega arith) at)

  pub find-at : (k : ℕ) (es : List (ℕ × X)) (i : ℕ) → IsTrue (is_sorted nat_cmp es) → i < length es → ((d : ℕ × X) → (get_or es i d).0 ≡ k) → (d : ℕ × X) → find nat_cmp k es ≡ Some (get_or es i d).1
  find-at k [] i h lt at d = absurd (omega arith)
  find-at k (e ∷ es) zero h lt at d =
      let equal : Equal ≡ nat_cmp k e.0 = nat_cmp_is k e.0 Equal (sym (at e)) in
      ap (λ r. cond (is_eq r) (Some e.1) (find nat_cmp k es)) (sym equal)
  find-at k (e ∷ es) (suc i) h lt at d =
      let below : e.0 < (get_or es i e).0 = below_at e.0 es (first_of _ _ h) i e (omega arith) in
      let greater : Greater ≡ nat_cmp k e.0 = nat_cmp_is k e.0 Greater (subst (λ q. e.0 < q) (at e) below) in
      ap (λ r. cond (is_eq r) (Some e.1) (find nat_cmp k es)) (sym greater)
      ∙ find-at k es i (second_of _ _ h) (omega arith) at d

  -- a key with a place to come is not there
  pub find-place : (k : ℕ) (es : List (ℕ × X)) (i : ℕ) → IsTrue (is_sorted nat_cmp es) → i ≤ length es → AllWithin (λ (e : ℕ × X). e.0 < k) es 0 i → ((d : ℕ × X) → i < length es → k < (get_or es i d).0) → find nat_cmp k es ≡ None
  find-place k [] i h fits below above = refl
  find-place k (e ∷ es) zero h fits below above =
      let less : Less ≡ nat_cmp k e.0 = nat_cmp_is k e.0 Less (above e (omega arith)) in
      ap (λ r. cond (is_eq r) (Some e.1) (find nat_cmp k es)) (sym less)
      ∙ find-place k es zero (second_of _ _ h) (omega arith) (λ j d _ lt. absurd (omega arith))
      (λ d lt. let next = below_at e.0 es (first_of _ _ h) 0 d lt in let here = above e (omega arith) in omega (arith, next, here))
  find-place k (e ∷ es) (suc i) h fits below above =
      let greater : Greater ≡ nat_cmp k e.0 = nat_cmp_is k e.0 Greater (below 0 e (omega arith) (omega arith)) in
      ap (λ r. cond (is_eq r) (Some e.1) (find nat_cmp k es)) (sym greater)
      ∙ find-place k es i (second_of _ _ h) (omega arith) (λ j d _ lt. below (suc j) d (omega arith) (omega arith)) (λ d lt. above d (omega arith))

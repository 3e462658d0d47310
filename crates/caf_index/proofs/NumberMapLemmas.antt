-- A map from numbers that is kept as entries in rising order.
use Rattle.std.proofs.Common.{◌≡◌, ◌≢◌, ℕ, ◌-◌, ◌<◌, ◌≤◌, Bool, true, false, cond, List, [], length, get_or, set, Some, None, refl, sym, ap, subst, ◌∙◌, arith, ltb}
use Rattle.std.specs.Prelude.{insert, IsTrue, T}
use Rattle.std.specs.List.Sorted.{IsPartitionPoint}
use Rattle.std.specs.Ordering.{nat_cmp, is_eq, eq_by_cmp}
use Rattle.std.specs.declared.cmp.Ordering.{Ordering}
use Rattle.std.specs.declared.cmp.Ordering.TheVariants.{Less, Equal, Greater}
use Rattle.std.specs.Cmp.{nat_cmp_total, IsTotalOrder}
use Rattle.std.specs.FinMap as map
use Rattle.std.specs.FinMap.{FinMap, put, find, is_sorted, IsAntisymmetric}
use Rattle.std.specs.FinMap.Entries.{is_sorted-put}
use Rattle.std.proofs.lemmas.List.{get_or_default}
use Rattle.std.proofs.lemmas.Bool.{ltb-true, ltb-false}
use Rattle.caf_index.specs.NumberMap.{IsFoundAt, IsPlaceFor}
use Rattle.caf_index.proofs.SortedLemmas.{rising, put-insert, put-set, find-at, find-place}

true_from_T : (b : Bool) → T b → IsTrue b
true_from_T true h = refl
true_from_T false h = absurd h

T_from_true : (b : Bool) → IsTrue b → T b
T_from_true b h = subst T (sym h) tt

equal_from : (r : Ordering) → is_eq r ≡ true → r ≡ Equal
equal_from Less e = cc
equal_from Equal e = refl
equal_from Greater e = cc

module _ {K X : Type 0} {R : K → K → Ordering} where
  same_value : IsTotalOrder R → (m : FinMap R X) (k : K) (v : X) → map.get m k ≡ Some v → (q : K) (b : Bool) → eq_by_cmp R q k ≡ b → cond b (Some v) (map.get m q) ≡ map.get m q
  same_value o m k v is q true e = sym is ∙ map.get_tied o m q k (equal_from _ e)
  same_value o m k v is q false e = refl

  -- a key that has the value already
  pub insert_present : IsTotalOrder R → IsAntisymmetric R → (m : FinMap R X) (k : K) (v : X) → map.get m k ≡ Some v → map.insert m k v ≡ m
  insert_present o same m k v is = map.same_map o same _ _ (λ q. map.get-insert o m k v q ∙ same_value o m k v is q (eq_by_cmp R q k) refl)

module _ {X : Type 0} where
  -- what the halving of a list finds
  pub place_from_parts : (k : ℕ) (es : List (ℕ × X)) (i : ℕ) → i ≤ length es → IsPartitionPoint (λ (e : ℕ × X). ltb e.0 k ≡ true) (λ (e : ℕ × X). ltb e.0 k ≡ false) es i → ((d : ℕ × X) → i < length es → (get_or es i d).0 ≢ k) → IsPlaceFor es k i
  place_from_parts k es i fits parts differs = (
    fits,
    (λ j d le lt. ltb-true _ _ (parts.0 j d le lt)),
    (λ d lt.
        let above : k ≤ (get_or es i d).0 = ltb-false _ _ (parts.1 i d (omega arith) lt) in
        let other : (get_or es i d).0 ≢ k = differs d lt in omega (arith, above, other)),
  )

  -- a key past the last
  pub place_past_last : (k : ℕ) (es : List (ℕ × X)) (d : ℕ × X) → IsTrue (is_sorted nat_cmp es) → 0 < length es → (get_or es (length es - 1) d).0 < k → IsPlaceFor es k (length es)
  place_past_last k es d h some last = (
    omega arith,
    (λ j e le lt.
        let up : (get_or es j e).0 ≤ (get_or es (length es - 1) e).0 = rising es h j (length es - 1) e (omega arith) (omega arith) in
        let same : get_or es (length es - 1) e ≡ get_or es (length es - 1) d = get_or_default es (length es - 1) e d (omega arith) in
        let key : (get_or es (length es - 1) e).0 ≡ (get_or es (length es - 1) d).0 = ap (λ (p : ℕ × X). p.0) same in
        omega (arith, up, key, last)),
    (λ e lt. absurd (omega arith)),
  )

  pub view_empty : map.from_sorted {X = X} {R = nat_cmp} [] ≡ map.empty
  view_empty = map.empty_of_len _ (map.len-entries _ ∙ ap length (map.entries-from_sorted nat_cmp [] tt))

  pub entries-view : (es : List (ℕ × X)) → IsTrue (is_sorted nat_cmp es) → map.entries (map.from_sorted {R = nat_cmp} es) ≡ es
  entries-view es h = map.entries-from_sorted nat_cmp es (T_from_true _ h)

  pub get-view : (es : List (ℕ × X)) (q : ℕ) → IsTrue (is_sorted nat_cmp es) → map.get (map.from_sorted {R = nat_cmp} es) q ≡ find nat_cmp q es
  get-view es q h = map.get-from_sorted nat_cmp es q (T_from_true _ h)

  sorted_put : (k : ℕ) (v : X) (es : List (ℕ × X)) → IsTrue (is_sorted nat_cmp es) → IsTrue (is_sorted nat_cmp (put nat_cmp k v es))
  sorted_put k v es h = true_from_T _ (is_sorted-put nat_cmp nat_cmp_total k v es (T_from_true _ h))

  view-put : (k : ℕ) (v : X) (es : List (ℕ × X)) → IsTrue (is_sorted nat_cmp es) → map.from_sorted {R = nat_cmp} (put nat_cmp k v es) ≡ map.insert (map.from_sorted es) k v
  view-put k v es h = map.same_entries_map _ _
      (entries-view (put nat_cmp k v es) (sorted_put k v es h)
      ∙ ap (put nat_cmp k v) (sym (entries-view es h))
      ∙ sym (map.entries-insert nat_cmp_total (map.from_sorted es) k v))

  -- a key and its value put at its place
  pub sorted-placed : (k : ℕ) (v : X) (es fs : List (ℕ × X)) (i : ℕ) → IsTrue (is_sorted nat_cmp es) → IsPlaceFor es k i → fs ≡ insert es i (k, v) → IsTrue (is_sorted nat_cmp fs)
  sorted-placed k v es fs i h place is = subst (λ xs. IsTrue (is_sorted nat_cmp xs)) (put-insert k v es i place.0 place.1 place.2 ∙ sym is) (sorted_put k v es h)

  pub view-placed : (k : ℕ) (v : X) (es fs : List (ℕ × X)) (i : ℕ) → IsTrue (is_sorted nat_cmp es) → IsPlaceFor es k i → fs ≡ insert es i (k, v) → map.from_sorted {R = nat_cmp} fs ≡ map.insert (map.from_sorted es) k v
  view-placed k v es fs i h place is = ap map.from_sorted (is ∙ sym (put-insert k v es i place.0 place.1 place.2)) ∙ view-put k v es h

  pub get-placed : (k : ℕ) (es : List (ℕ × X)) (i : ℕ) → IsTrue (is_sorted nat_cmp es) → IsPlaceFor es k i → map.get (map.from_sorted {R = nat_cmp} es) k ≡ None
  get-placed k es i h place = get-view es k h ∙ find-place k es i h place.0 place.1 place.2

  -- a value put in place of the one at a key that is there
  pub sorted-found : (k q : ℕ) (v : X) (es fs : List (ℕ × X)) (i : ℕ) → IsTrue (is_sorted nat_cmp es) → IsFoundAt es k i → q ≡ k → fs ≡ set es i (q, v) → IsTrue (is_sorted nat_cmp fs)
  sorted-found k q v es fs i h at same is =
      subst (λ xs. IsTrue (is_sorted nat_cmp xs)) (put-set k v es i h at.0 at.1 ∙ ap (λ p. set es i (p, v)) (sym same) ∙ sym is) (sorted_put k v es h)

  pub view-found : (k q : ℕ) (v : X) (es fs : List (ℕ × X)) (i : ℕ) → IsTrue (is_sorted nat_cmp es) → IsFoundAt es k i → q ≡ k → fs ≡ set es i (q, v) → map.from_sorted {R = nat_cmp} fs ≡ map.insert (map.from_sorted es) k v
  view-found k q v es fs i h at same is =
      ap map.from_sorted (is ∙ ap (λ p. set es i (p, v)) same ∙ sym (put-set k v es i h at.0 at.1)) ∙ view-put k v es h

  pub get-found : (k : ℕ) (es : List (ℕ × X)) (i : ℕ) → IsTrue (is_sorted nat_cmp es) → IsFoundAt es k i → (d : ℕ × X) → map.get (map.from_sorted {R = nat_cmp} es) k ≡ Some (get_or es i d).1
  get-found k es i h at d = get-view es k h ∙ find-at k es i h at.0 at.1 d

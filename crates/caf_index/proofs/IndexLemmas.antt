-- An index that is kept as rows, each a word with its files.
use Rattle.std.proofs.Common.{◌≡◌, ℕ, suc, ◌+◌, ◌<◌, Bool, true, false, cond, List, [], ◌∷◌, length, get_or, Option, Some, None, Result, String, refl, sym, ap, subst, ◌∙◌, arith}
use Rattle.std.specs.Prelude.{T, ◌&&◌, ◌||◌, string_bytes, is_some, OnErr, Ok, Err, map}
use Rattle.std.specs.List.{list_any, IsDistinct, AllByRecursion}
use Rattle.std.specs.List.Sorted.{IsPermutation, IsSorted, IsStrictlySortedBy}
use Rattle.std.specs.Map.{lookup, keys_of, update}
use Rattle.std.specs.Str.{bytes_eq}
use Rattle.std.specs.String.{string_eq}
use Rattle.std.specs.Ordering.{nat_cmp, is_eq, is_lt, eq_by_cmp, ordering_reverse}
use Rattle.std.specs.declared.cmp.Ordering.{Ordering}
use Rattle.std.specs.declared.cmp.Ordering.TheVariants.{Less, Equal, Greater}
use Rattle.std.specs.Cmp.{IsTotalOrder}
use Rattle.std.specs.Cmp.Lexicographic.{slice_cmp, nat_list_cmp_total, nat_list_eq_equiv}
use Rattle.std.specs.FinMap as finite
use Rattle.std.specs.FinMap.{FinMap, nat_cmp-IsAntisymmetric, slice_cmp-IsAntisymmetric, IsAntisymmetric}
use Rattle.std.proofs.lemmas.Map.Text.{is_eq-slice_cmp}
use Rattle.std.proofs.lemmas.Map.Keys.{IsDistinct-head, IsDistinct-tail, IsDistinct-cons, IsDistinct-from_apart, sorted_from_all_adjacent, apart_from_distinct, IsDistinct-IsPermutation, sorted_head, sorted_tail}
use Rattle.std.proofs.lemmas.List.{get_or-map, length-map}
use Rattle.std.proofs.lemmas.List.Sorted.{IsPermutation-map, list_any-IsPermutation}
use Rattle.std.specs.FinMap.Entries.{below_all, same_entries, is_some-find}
use Rattle.std.specs.Cmp.{eq_by_cmp_equiv}
use Rattle.caf_index.specs.Index.{Files, index_of_rows}

pub on_err : {T E P : Type 0} (r : Result T E) → P → OnErr r P
on_err (Ok x) p = tt
on_err (Err e) p = p

pub words_apart : IsAntisymmetric (slice_cmp nat_cmp)
words_apart = slice_cmp-IsAntisymmetric nat_cmp-IsAntisymmetric

module _ {Y : Type 0} where
  -- what a look-up by bytes finds
  pub get-rows : (rows : List (String Y × Files)) (bytes : List ℕ) → finite.get (index_of_rows rows) bytes ≡ lookup (λ (k : String Y). bytes_eq bytes (string_bytes k)) rows
  get-rows [] bytes = finite.get-empty (slice_cmp nat_cmp) bytes
  get-rows (row ∷ rows) bytes =
      finite.get-insert nat_list_cmp_total (index_of_rows rows) (string_bytes row.0) row.1 bytes
      ∙ ap (λ b. cond b (Some row.1) (finite.get (index_of_rows rows) bytes)) (is_eq-slice_cmp bytes (string_bytes row.0))
      ∙ ap (cond (bytes_eq bytes (string_bytes row.0)) (Some row.1)) (get-rows rows bytes)

  -- rows that answer as others do, but at one word
  pub rows-updated : (old new : List (String Y × Files)) (bytes : List ℕ) (files : Files)
      → ((q : List ℕ) → lookup (λ (k : String Y). bytes_eq q (string_bytes k)) new ≡ update bytes_eq (λ p. lookup (λ (k : String Y). bytes_eq p (string_bytes k)) old) bytes (Some files) q)
      → index_of_rows new ≡ finite.insert (index_of_rows old) bytes files
  rows-updated old new bytes files is = finite.same_map nat_list_cmp_total words_apart _ _ (λ q.
      get-rows new q ∙ is q
      ∙ ap (cond (bytes_eq bytes q) (Some files)) (sym (get-rows old q))
      ∙ ap (λ b. cond b (Some files) (finite.get (index_of_rows old) q)) (nat_list_eq_equiv.symm bytes q ∙ sym (is_eq-slice_cmp q bytes))
      ∙ sym (finite.get-insert nat_list_cmp_total (index_of_rows old) bytes files q))

  lookup-absent : (key : String Y) (rows : List (String Y × Files)) → AllByRecursion (λ (k : String Y). string_eq key k ≡ false) (keys_of rows) → lookup (λ (k : String Y). bytes_eq (string_bytes key) (string_bytes k)) rows ≡ None
  lookup-absent key [] h = refl
  lookup-absent key (row ∷ rows) h = ap (λ b. cond b (Some row.1) (lookup (λ (k : String Y). bytes_eq (string_bytes key) (string_bytes k)) rows)) h.0 ∙ lookup-absent key rows h.1

  -- each row is a word of its own
  pub len-rows : (rows : List (String Y × Files)) → IsDistinct string_eq (keys_of rows) → finite.len (index_of_rows rows) ≡ length rows
  len-rows [] h = finite.len-empty (slice_cmp nat_cmp) Files
  len-rows (row ∷ rows) h =
      let rest : finite.len (index_of_rows rows) ≡ length rows = len-rows rows (IsDistinct-tail string_eq row.0 (keys_of rows) h) in
      let absent : finite.get (index_of_rows rows) (string_bytes row.0) ≡ None = get-rows rows (string_bytes row.0) ∙ lookup-absent row.0 rows (IsDistinct-head string_eq row.0 (keys_of rows) h) in
      finite.len-insert nat_list_cmp_total (index_of_rows rows) (string_bytes row.0) row.1
      ∙ ap (λ (o : Option Files). cond (is_some o) (finite.len (index_of_rows rows)) (finite.len (index_of_rows rows) + 1)) absent
      ∙ (let more : finite.len (index_of_rows rows) + 1 ≡ suc (length rows) = omega (arith, rest) in more)

pub same_unit : (a b : Option (Unit {0})) → is_some a ≡ is_some b → a ≡ b
same_unit None None e = refl
same_unit None (Some u) e = cc
same_unit (Some u) None e = cc
same_unit (Some u) (Some v) e = refl

both_true : (a b : Bool) → T a → T b → T (a && b)
both_true true b p q = q
both_true false b p q = p

first_true : (a b : Bool) → T (a && b) → T a
first_true true b p = tt
first_true false b p = p

second_true : (a b : Bool) → T (a && b) → T b
second_true true b p = p
second_true false b p = absurd p

less_when : (r : Ordering) → T (is_lt r) → r ≡ Less
less_when Less p = refl
less_when Equal p = absurd p
less_when Greater p = absurd p

-- of two neighbours in order that differ, the first is below
less_from_neighbours : (r s : Ordering) → s ≡ ordering_reverse r → is_lt s ≡ false → is_eq r ≡ false → r ≡ Less
less_from_neighbours Less s rev up differ = refl
less_from_neighbours Equal s rev up differ = cc
less_from_neighbours Greater s rev up differ = let lt : is_lt s ≡ true = ap is_lt rev in cc

module _ {K : Type 0} (R : K → K → Ordering) where
  -- keys, as entries with nothing
  abbrev pub bare : List K → List (K × Unit {0})
  bare ks = map (λ k. (k, tt)) ks

  below-bare : (k : K) (ks : List K) → AllByRecursion (λ y. R k y ≡ Less) ks → T (below_all R k (bare ks))
  below-bare k [] h = tt
  below-bare k (y ∷ ks) h = both_true _ _ (subst (λ r. T (is_lt r)) (sym h.0) tt) (below-bare k ks h.1)

  pub sorted-bare : (ks : List K) → IsStrictlySortedBy R ks → T (finite.is_sorted R (bare ks))
  sorted-bare [] h = tt
  sorted-bare (k ∷ ks) h = both_true _ _ (below-bare k ks (sorted_head R k ks h)) (sorted-bare ks (sorted_tail R k ks h))

  below-keys : {X : Type 0} (k : K) (es : List (K × X)) → T (below_all R k es) → T (below_all R k (bare (map (λ (e : K × X). e.0) es)))
  below-keys k [] h = tt
  below-keys k (e ∷ es) h = both_true _ _ (first_true _ _ h) (below-keys k es (second_true _ _ h))

  sorted-keys : {X : Type 0} (es : List (K × X)) → T (finite.is_sorted R es) → T (finite.is_sorted R (bare (map (λ (e : K × X). e.0) es)))
  sorted-keys [] h = tt
  sorted-keys (e ∷ es) h = both_true _ _ (below-keys e.0 es (first_true _ _ h)) (sorted-keys es (second_true _ _ h))

  pub keys-bare : (ks : List K) → map (λ (e : K × Unit {0}). e.0) (bare ks) ≡ ks
  keys-bare [] = refl
  keys-bare (k ∷ ks) = ap (λ xs. k ∷ xs) (keys-bare ks)

  -- keys in strict order that a map has, and no others, are its keys
  pub keys_from_sorted : {X : Type 0} → IsTotalOrder R → IsAntisymmetric R → (ks : List K) (m : FinMap R X) → IsStrictlySortedBy R ks
      → ((q : K) → list_any (eq_by_cmp R q) ks ≡ finite.contains_key m q) → ks ≡ finite.keys m
  keys_from_sorted {X} o same ks m up has =
      sym (keys-bare ks)
      ∙ ap (map (λ (e : K × Unit {0}). e.0)) (same_entries R o same (bare ks) (bare (finite.keys m)) (sorted-bare ks up) (sorted-keys (finite.entries m) (finite.entries_sorted m))
      (λ q. same_unit _ _
      (is_some-find R q (bare ks) ∙ ap (list_any (eq_by_cmp R q)) (keys-bare ks) ∙ has q ∙ finite.contains_key-keys m q
      ∙ ap (list_any (eq_by_cmp R q)) (sym (keys-bare (finite.keys m))) ∙ sym (is_some-find R q (bare (finite.keys m))))))
      ∙ keys-bare (finite.keys m)

any_found : (b : Bool) (x : Files) (o : Option Files) → (b || is_some o) ≡ is_some (cond b (Some x) o)
any_found true x o = refl
any_found false x o = refl

rising-at : {A : Type 0} (text : A → List ℕ) (ys : List A) → IsSorted (λ (x y : A). slice_cmp nat_cmp (text x) (text y)) ys
    → (k : ℕ) → k + 1 < length (map text ys) → is_lt (slice_cmp nat_cmp (get_or (map text ys) (k + 1) []) (get_or (map text ys) k [])) ≡ false
rising-at text [] up k lt = absurd (omega arith)
rising-at text (y ∷ ys) up k lt =
    let size : length (map text (y ∷ ys)) ≡ length (y ∷ ys) = length-map (y ∷ ys) text in
    let next : k + 1 < length (y ∷ ys) = omega (arith, size, lt) in
    let here : k < length (y ∷ ys) = omega arith in
    ap (λ bytes. is_lt (slice_cmp nat_cmp bytes (get_or (map text (y ∷ ys)) k []))) (get_or-map text (y ∷ ys) (k + 1) y [] next)
    ∙ ap (λ bytes. is_lt (slice_cmp nat_cmp (text (get_or (y ∷ ys) (k + 1) y)) bytes)) (get_or-map text (y ∷ ys) k y [] here)
    ∙ up k y (omega arith) next

module _ {Y : Type 0} where
  any_key : (q : List ℕ) (rows : List (String Y × Files)) → list_any (eq_by_cmp (slice_cmp nat_cmp) q) (map string_bytes (keys_of rows)) ≡ is_some (lookup (λ (k : String Y). bytes_eq q (string_bytes k)) rows)
  any_key q [] = refl
  any_key q (row ∷ rows) =
      ap (λ b. b || list_any (eq_by_cmp (slice_cmp nat_cmp) q) (map string_bytes (keys_of rows))) (is_eq-slice_cmp q (string_bytes row.0))
      ∙ ap (λ b. bytes_eq q (string_bytes row.0) || b) (any_key q rows)
      ∙ any_found (bytes_eq q (string_bytes row.0)) row.1 _

  has-rows : (rows : List (String Y × Files)) (q : List ℕ) → list_any (eq_by_cmp (slice_cmp nat_cmp) q) (map string_bytes (keys_of rows)) ≡ finite.contains_key (index_of_rows rows) q
  has-rows rows q = any_key q rows ∙ sym (ap is_some (get-rows rows q))

  apart-texts : (k : String Y) (ks : List (String Y)) → AllByRecursion (λ (y : String Y). string_eq k y ≡ false) ks → AllByRecursion (λ (bytes : List ℕ). eq_by_cmp (slice_cmp nat_cmp) (string_bytes k) bytes ≡ false) (map string_bytes ks)
  apart-texts k [] h = tt
  apart-texts k (y ∷ ks) h = (is_eq-slice_cmp (string_bytes k) (string_bytes y) ∙ h.0, apart-texts k ks h.1)

  distinct-texts : (ks : List (String Y)) → IsDistinct string_eq ks → IsDistinct (eq_by_cmp (slice_cmp nat_cmp)) (map string_bytes ks)
  distinct-texts [] h = IsDistinct-from_apart _ _ (λ i j d lt past. absurd (omega arith))
  distinct-texts (k ∷ ks) h =
      IsDistinct-cons (eq_by_cmp (slice_cmp nat_cmp)) (string_bytes k) (map string_bytes ks) (apart-texts k ks (IsDistinct-head string_eq k ks h)) (distinct-texts ks (IsDistinct-tail string_eq k ks h))

  -- a sort of the rows' words gives the words of the index, in order
  pub keys-sorted : {A : Type 0} (text : A → List ℕ) (rows : List (String Y × Files)) (xs ys : List A)
      → IsDistinct string_eq (keys_of rows) → map text xs ≡ map string_bytes (keys_of rows)
      → IsPermutation xs ys → IsSorted (λ (x y : A). slice_cmp nat_cmp (text x) (text y)) ys
      → map text ys ≡ finite.keys (index_of_rows rows)
  keys-sorted text rows xs ys apart texts moved up =
      let reordered : IsPermutation (map string_bytes (keys_of rows)) (map text ys) = subst (λ ks. IsPermutation ks (map text ys)) texts (IsPermutation-map text xs ys moved) in
      let differ : IsDistinct (eq_by_cmp (slice_cmp nat_cmp)) (map text ys) = IsDistinct-IsPermutation (eq_by_cmp (slice_cmp nat_cmp)) ((eq_by_cmp_equiv nat_list_cmp_total).symm) _ _ reordered (distinct-texts (keys_of rows) apart) in
      let strict : IsStrictlySortedBy (slice_cmp nat_cmp) (map text ys) = sorted_from_all_adjacent nat_list_cmp_total (map text ys) [] (λ k lt.
      less_from_neighbours _ _ (nat_list_cmp_total.antisymm (get_or (map text ys) (k + 1) []) (get_or (map text ys) k [])) (rising-at text ys up k lt)
      (apart_from_distinct (eq_by_cmp (slice_cmp nat_cmp)) (map text ys) k (k + 1) [] differ (omega arith) lt)) in
      keys_from_sorted (slice_cmp nat_cmp) nat_list_cmp_total words_apart (map text ys) (index_of_rows rows) strict
      (λ q. sym (list_any-IsPermutation (eq_by_cmp (slice_cmp nat_cmp) q) _ _ reordered) ∙ has-rows rows q)

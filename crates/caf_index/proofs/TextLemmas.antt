-- Texts that are written piece by piece.
use Rattle.std.proofs.Common.{◌≡◌, ℕ, zero, suc, ◌+◌, ◌<◌, ◌≤◌, Bool, true, false, cond, List, [], ◌∷◌, ◌++◌, length, get_or, drop, Some, refl, sym, ap, ◌∙◌, arith, append_assoc, append-nil}
use Rattle.std.specs.Prelude.{T, ◌&&◌, flat_map, map}
use Rattle.std.specs.Ordering.{is_lt, is_eq, ordering_reverse}
use Rattle.std.specs.declared.cmp.Ordering.{Ordering}
use Rattle.std.specs.declared.cmp.Ordering.TheVariants.{Less, Equal, Greater}
use Rattle.std.specs.Cmp.{IsTotalOrder, tied_itself}
use Rattle.std.specs.FinMap as finite
use Rattle.std.specs.FinMap.{FinMap, find, is_sorted}
use Rattle.std.specs.FinMap.Entries.{below_all}
use Rattle.std.specs.Prelude.{unwrap_or}
use Rattle.std.proofs.lemmas.List.{get_or-map, length-map}
use Rattle.std.specs.Cmp.Lexicographic.{nat_list_cmp_total}
use Rattle.caf_index.specs.Index.{Entries, Files, files_of}
use Rattle.caf_index.specs.IndexText.{under_word, files_text}

-- the piece at i is the next one
pub flat_map-drop : {A : Type 0} (f : A → List ℕ) (xs : List A) (i : ℕ) (d : A) → i < length xs → flat_map f (drop i xs) ≡ f (get_or xs i d) ++ flat_map f (drop (i + 1) xs)
flat_map-drop f [] i d lt = absurd (omega arith)
flat_map-drop f (x ∷ xs) zero d lt = refl
flat_map-drop f (x ∷ xs) (suc i) d lt =
    let next : suc i + 1 ≡ suc (i + 1) = omega arith in
    flat_map-drop f xs i d (omega arith) ∙ ap (λ k. f (get_or xs i d) ++ flat_map f (drop k (x ∷ xs))) (sym next)

-- the text and what is left to write are the whole, before and after one piece
pub written_more : {A : Type 0} (f : A → List ℕ) (xs : List A) (i : ℕ) (d : A) (text next whole : List ℕ) → i < length xs → text ++ flat_map f (drop i xs) ≡ whole → next ≡ text ++ f (get_or xs i d) → next ++ flat_map f (drop (i + 1) xs) ≡ whole
written_more f xs i d text next whole lt is step =
    ap (λ t. t ++ flat_map f (drop (i + 1) xs)) step
    ∙ append_assoc text (f (get_or xs i d)) (flat_map f (drop (i + 1) xs))
    ∙ ap (λ t. text ++ t) (sym (flat_map-drop f xs i d lt)) ∙ is

-- nothing is left to write
pub written_all : {A : Type 0} (f : A → List ℕ) (xs : List A) (i : ℕ) (text whole : List ℕ) → length xs ≤ i → text ++ flat_map f (drop i xs) ≡ whole → text ≡ whole
written_all f xs i text whole past is = sym (append-nil text) ∙ ap (λ ys. text ++ flat_map f ys) (sym (none_left xs i past)) ∙ is
  where
    none_left : {A : Type 0} (xs : List A) (i : ℕ) → length xs ≤ i → drop i xs ≡ []
    none_left [] zero past = refl
    none_left [] (suc i) past = refl
    none_left (x ∷ xs) zero past = absurd (omega arith)
    none_left (x ∷ xs) (suc i) past = none_left xs i (omega arith)

T_left : (a b : Bool) → T (a && b) → T a
T_left true b p = tt
T_left false b p = p

T_right : (a b : Bool) → T (a && b) → T b
T_right true b p = p
T_right false b p = absurd p

is_less : (r : Ordering) → T (is_lt r) → r ≡ Less
is_less Less p = refl
is_less Equal p = absurd p
is_less Greater p = absurd p

module _ {K X : Type 0} {R : K → K → Ordering} (o : IsTotalOrder R) where
  less_at : (k : K) (es : List (K × X)) → T (below_all R k es) → (i : ℕ) (d : K × X) → i < length es → R k (get_or es i d).0 ≡ Less
  less_at k [] h i d lt = absurd (omega arith)
  less_at k (e ∷ es) h zero d lt = is_less _ (T_left _ _ h)
  less_at k (e ∷ es) h (suc i) d lt = less_at k es (T_right _ _ h) i d (omega arith)

  found_at : (es : List (K × X)) → T (is_sorted R es) → (i : ℕ) (d : K × X) → i < length es → find R (get_or es i d).0 es ≡ Some (get_or es i d).1
  found_at [] h i d lt = absurd (omega arith)
  found_at (e ∷ es) h zero d lt = ap (λ r. cond (is_eq r) (Some e.1) (find R e.0 es)) (tied_itself o e.0)
  found_at (e ∷ es) h (suc i) d lt =
      let key = (get_or es i d).0 in
      ap (λ r. cond (is_eq r) (Some e.1) (find R key es)) (o.antisymm key e.0 ∙ ap ordering_reverse (less_at e.0 es (T_left _ _ h) i d (omega arith)))
      ∙ found_at es (T_right _ _ h) i d (omega arith)

  -- each entry is what the map has at its key
  pub get-at : (m : FinMap R X) (i : ℕ) (d : K × X) → i < length (finite.entries m) → finite.get m (get_or (finite.entries m) i d).0 ≡ Some (get_or (finite.entries m) i d).1
  get-at m i d lt = finite.get-entries m _ ∙ found_at (finite.entries m) (finite.entries_sorted m) i d lt

module _ {A : Type 0} (text : A → List ℕ) (texts : List A) (index : Entries) (same : map text texts ≡ finite.keys index) where
  -- as many texts as the index has words
  pub entries-as-many : (i : ℕ) → i < length texts → i < length (finite.entries index)
  entries-as-many i lt =
      let left : length (map text texts) ≡ length texts = length-map texts text in
      let right : length (finite.keys index) ≡ length (finite.entries index) = length-map (finite.entries index) (λ (e : List ℕ × Files). e.0) in
      let middle : length (map text texts) ≡ length (finite.keys index) = ap length same in
      omega (arith, left, right, middle)

  key-at : (i : ℕ) (e : A) (d : List ℕ × Files) → i < length texts → text (get_or texts i e) ≡ (get_or (finite.entries index) i d).0
  key-at i e d lt =
      sym (get_or-map text texts i e d.0 lt)
      ∙ ap (λ ks. get_or ks i d.0) same
      ∙ get_or-map (λ (e : List ℕ × Files). e.0) (finite.entries index) i d d.0 (entries-as-many i lt)

-- the text of a word that is found by its bytes is that of its entry
pub entry-text : (names : List (List ℕ)) {A : Type 0} (text : A → List ℕ) (texts : List A) (index : Entries) → map text texts ≡ finite.keys index → (i : ℕ) (e : A) (d : List ℕ × Files) → i < length texts
    → under_word (text (get_or texts i e)) (files_text names (files_of index (text (get_or texts i e)))) ≡ under_word (get_or (finite.entries index) i d).0 (files_text names (get_or (finite.entries index) i d).1)
entry-text names text texts index same i e d lt =
    ap (λ word. under_word word (files_text names (files_of index word))) (key-at text texts index same i e d lt)
    ∙ ap (λ o. under_word (get_or (finite.entries index) i d).0 (files_text names (unwrap_or o finite.empty))) (get-at nat_list_cmp_total index i d (entries-as-many text texts index same i lt))

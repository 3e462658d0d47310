-- Lists that are made one after the other.
use Rattle.std.proofs.Common.{◌≡◌, ℕ, zero, suc, ◌+◌, ◌<◌, List, [], ◌∷◌, ◌++◌, map, drop, get_or, length, refl, sym, ap, ◌∙◌, append_assoc, arith}
use Rattle.std.proofs.lemmas.List.{drop_more}
use Rattle.std.specs.List.{range_with_len}
use Rattle.caf_kinds.specs.declared.setup.Setup.{Setup}
use Rattle.caf_scenario.specs.Scenario.{child, children}

-- what is left, with its first one
pub next_left : {A : Type 0} (xs : List A) (i : ℕ) (x : A) → i < length xs → x ≡ get_or xs i x → drop i xs ≡ x ∷ drop (i + 1) xs
next_left xs i x lt is = drop_more xs i x lt ∙ ap (λ y. y ∷ drop (i + 1) xs) (sym is)

-- one more, in front of what is made of those that are left
pub mapped_on : {A B : Type 0} (f : A → B) (front : List B) (y : B) (xs : List A) (i : ℕ) (x : A) (total : List B)
    → i < length xs → x ≡ get_or xs i x → y ≡ f x → front ++ map f (drop i xs) ≡ total → (front ++ y ∷ []) ++ map f (drop (i + 1) xs) ≡ total
mapped_on f front y xs i x total lt is e so_far =
    append_assoc front (y ∷ []) (map f (drop (i + 1) xs))
    ∙ ap (λ z. front ++ (z ∷ map f (drop (i + 1) xs))) e
    ∙ ap (λ ys. front ++ map f ys) (sym (next_left xs i x lt is))
    ∙ so_far

range_shift : (a n : ℕ) → range_with_len a (suc n) ≡ range_with_len a n ++ (a + n) ∷ []
range_shift a zero = ap (λ (x : ℕ). x ∷ []) (omega arith)
range_shift a (suc n) = ap (λ (xs : List ℕ). a ∷ xs) (range_shift (a + 1) n ∙ ap (λ (x : ℕ). range_with_len (a + 1) n ++ x ∷ []) (omega arith))

-- one place more
pub range_on : (a n : ℕ) (front now : List ℕ) → now ≡ front ++ (a + n) ∷ [] → front ≡ range_with_len a n → now ≡ range_with_len a (n + 1)
range_on a n front now pushed so_far =
    let count : suc n ≡ n + 1 = omega arith in
    pushed ∙ ap (λ (xs : List ℕ). xs ++ (a + n) ∷ []) so_far ∙ sym (range_shift a n) ∙ ap (range_with_len a) count

children_shift : (n : ℕ) → children (suc n) ≡ children n ++ child ∷ []
children_shift zero = refl
children_shift (suc n) = ap (λ (xs : List Setup). child ∷ xs) (children_shift n)

-- one child more
pub children_on : (n : ℕ) (first front now : List Setup) (s : Setup) → now ≡ front ++ s ∷ [] → s ≡ child → front ≡ first ++ children n → now ≡ first ++ children (n + 1)
children_on n first front now s pushed is so_far =
    let count : suc n ≡ n + 1 = omega arith in
    pushed
    ∙ ap (λ (t : Setup). front ++ t ∷ []) is
    ∙ ap (λ (xs : List Setup). xs ++ child ∷ []) so_far
    ∙ append_assoc first (children n) (child ∷ [])
    ∙ ap (λ (xs : List Setup). first ++ xs) (sym (children_shift n) ∙ ap children count)

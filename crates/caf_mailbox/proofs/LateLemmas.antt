-- Lists that get the envelopes of one class at their end.
use Rattle.std.proofs.Common.{◌≡◌, ℕ, suc, ◌+◌, Bool, true, false, not, List, [], ◌∷◌, ◌++◌, length, map, filter, count_by, refl, arith, append_assoc, cond}
use Rattle.std.proofs.lemmas.List.Sums.{sum_by-cons}
use Rattle.std.proofs.lemmas.List.{map-append, append-nil, nil_from_length}

module _ {A B : Type 0} (f : A → B) (test : B → Bool) where
  -- a list once it has those of the rest that pass
  abbrev pub with_those : List A → List A → List B
  with_those own rest = map f own ++ filter test (map f rest)

  -- how many of the rest pass
  abbrev pub those : List A → ℕ
  those rest = count_by (λ x. test (f x)) rest

  -- the first of the rest passes and was put at the end
  pub put_one : (own more rest less : List A) (x : A) → rest ≡ x ∷ less → more ≡ own ++ x ∷ [] → test (f x) ≡ true → with_those more less ≡ with_those own rest
  put_one own more rest less x r m passes =
      rw (r, m, map-append f own (x ∷ []), passes) (append_assoc (map f own) (f x ∷ []) (filter test (map f less)))

  -- the first of the rest does not pass
  pub leave_one : (own rest less : List A) (x : A) → rest ≡ x ∷ less → test (f x) ≡ false → with_those own less ≡ with_those own rest
  leave_one own rest less x r fails = rw (r, fails) refl

  -- nothing is left
  pub put_all : (own rest : List A) → length rest ≡ 0 → with_those own rest ≡ map f own
  put_all own rest empty = rw (nil_from_length rest empty) (append-nil (map f own))

  pub count_one : (rest less : List A) (x : A) → rest ≡ x ∷ less → test (f x) ≡ true → those rest ≡ 1 + those less
  count_one rest less x r passes = rw (r, sum_by-cons (λ y. cond (test (f y)) 1 0) x less, passes) refl

  pub count_none : (rest less : List A) (x : A) → rest ≡ x ∷ less → test (f x) ≡ false → those rest ≡ those less
  count_none rest less x r fails = rw (r, sum_by-cons (λ y. cond (test (f y)) 1 0) x less, fails) (omega arith)

-- each item passes a test or its opposite
pub count_both : {A : Type 0} (test : A → Bool) (xs : List A) → count_by test xs + count_by (λ x. not (test x)) xs ≡ length xs
count_both test [] = refl
count_both test (x ∷ xs) =
    rw (sum_by-cons (λ y. cond (test y) 1 0) x xs, sum_by-cons (λ y. cond (not (test y)) 1 0) x xs) (by (test x) (count_both test xs))
  where
    by : (b : Bool) → count_by test xs + count_by (λ y. not (test y)) xs ≡ length xs → cond b 1 0 + count_by test xs + (cond (not b) 1 0 + count_by (λ y. not (test y)) xs) ≡ suc (length xs)
    by true rest = omega (arith, rest)
    by false rest = omega (arith, rest)

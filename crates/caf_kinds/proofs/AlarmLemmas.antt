-- Held requests under rising numbers.
use Rattle.std.proofs.Common.{◌≡◌, ℕ, ◌+◌, ◌≤◌, Bool, true, false, cond, List, [], ◌∷◌, ◌++◌, Option, Some, None, refl, sym, ap, arith}
use Rattle.std.specs.Prelude.{◌==◌}
use Rattle.std.specs.Option.{option_map}
use Rattle.std.specs.Ordering.{nat_cmp}
use Rattle.std.specs.declared.cmp.Ordering.TheVariants.{Greater}
use Rattle.std.specs.Map.{lookup, remove_entry}
use Rattle.std.specs.BTreeMap.{insert_entry, is_at}
use Rattle.std.proofs.lemmas.Bool.Decides.{nat_tests}
use Rattle.caf_message.specs.Lists.{pick}
use Rattle.caf_kinds.specs.Alarms.{Awaited, awaited, has_number, all_awaited, WereGiven}
use Rattle.caf_kinds.specs.declared.alarms.Asker.{Asker}

above : (k last : ℕ) → k ≤ last → nat_cmp (last + 1) k ≡ Greater
above k last l = grind (arith, nat_tests)

same_test : (number k : ℕ) → is_at (nat_cmp number) k ≡ (k == number)
same_test number k = grind (arith, nat_tests)

-- the next number goes to the end
pub insert-last : (last : ℕ) (a : Asker) (es : List (ℕ × Asker)) → WereGiven last es → all_awaited (insert_entry nat_cmp es (last + 1) a) ≡ all_awaited es ++ awaited (last + 1) a ∷ []
insert-last last a [] given = refl
insert-last last a (e ∷ es) given = rw (above e.0 last given.0) (ap (λ (xs : List Awaited). awaited e.0 e.1 ∷ xs) (insert-last last a es given.1))

given-later : (last : ℕ) (es : List (ℕ × Asker)) → WereGiven last es → WereGiven (last + 1) es
given-later last [] given = tt
given-later last (e ∷ es) given = (omega arith, given-later last es given.1)

pub given-insert : (last : ℕ) (a : Asker) (es : List (ℕ × Asker)) → WereGiven last es → WereGiven (last + 1) (insert_entry nat_cmp es (last + 1) a)
given-insert last a [] given = (omega arith, tt)
given-insert last a (e ∷ es) given = rw (above e.0 last given.0) (omega arith, given-insert last a es given.1)

pub given-remove : (last : ℕ) (test : ℕ → Bool) (es : List (ℕ × Asker)) → WereGiven last es → WereGiven last (remove_entry test es)
given-remove last test [] given = tt
given-remove last test (e ∷ es) given = go (test e.0) (given-remove last test es given.1)
  where
    go : (b : Bool) → WereGiven last (remove_entry test es) → WereGiven last (cond b es (e ∷ remove_entry test es))
    go true rest = given.1
    go false rest = (given.0, rest)

same_number : (n k : ℕ) → (k == n) ≡ true → k ≡ n
same_number n k e = grind (arith, nat_tests)

-- a look-up finds the request of that number
pub pick-found : (n : ℕ) (es : List (ℕ × Asker)) (a : Asker) → lookup (is_at (nat_cmp n)) es ≡ Some a → pick (has_number n) (all_awaited es) ≡ Some (awaited n a, all_awaited (remove_entry (is_at (nat_cmp n)) es))
pick-found n [] a found = cc
pick-found n (e ∷ es) a found = go (is_at (nat_cmp n) e.0) (sym (same_test n e.0)) (λ f. pick-found n es a f) found
  where
    go : (b : Bool) → (e.0 == n) ≡ b → (lookup (is_at (nat_cmp n)) es ≡ Some a → pick (has_number n) (all_awaited es) ≡ Some (awaited n a, all_awaited (remove_entry (is_at (nat_cmp n)) es)))
        → cond b (Some e.1) (lookup (is_at (nat_cmp n)) es) ≡ Some a
        → pick (has_number n) (all_awaited (e ∷ es)) ≡ Some (awaited n a, all_awaited (cond b es (e ∷ remove_entry (is_at (nat_cmp n)) es)))
    go true q rest f =
        let here : e.1 ≡ a = cc in
        let number : e.0 ≡ n = same_number n e.0 q in
        rw (q, here, number) refl
    go false q rest f = rw (q, rest f) refl

pub pick-missed : (n : ℕ) (es : List (ℕ × Asker)) → lookup (is_at (nat_cmp n)) es ≡ None → pick (has_number n) (all_awaited es) ≡ None
pick-missed n [] none = refl
pick-missed n (e ∷ es) none = go (is_at (nat_cmp n) e.0) (sym (same_test n e.0)) (λ f. pick-missed n es f) none
  where
    go : (b : Bool) → (e.0 == n) ≡ b → (lookup (is_at (nat_cmp n)) es ≡ None → pick (has_number n) (all_awaited es) ≡ None)
        → cond b (Some e.1) (lookup (is_at (nat_cmp n)) es) ≡ None → pick (has_number n) (all_awaited (e ∷ es)) ≡ None
    go true q rest f = cc
    go false q rest f = rw (q, rest f) refl

-- what is taken out is the request of that number
pub taken_is : (n : ℕ) (es rest : List (ℕ × Asker)) (found : Option Asker) → found ≡ lookup (is_at (nat_cmp n)) es → rest ≡ remove_entry (is_at (nat_cmp n)) es
    → option_map (λ (a : Asker). (awaited n a, all_awaited rest)) found ≡ pick (has_number n) (all_awaited es)
taken_is n es rest None is left = sym (pick-missed n es (sym is))
taken_is n es rest (Some a) is left = rw left (sym (pick-found n es a (sym is)))

-- Things with their numbers of arrival, and how several queues of them are seen as one.
use Rattle.std.specs.Prelude.{ℕ, ◌≤◌, suc, nat_le, Bool, true, false, List, [], ◌∷◌, Option, Some, None, if◌then◌else◌}
use Rattle.std.specs.List.{AllByRecursion}

module _ {A : Type 0} where
  -- one more, before the first one whose number is no less
  abbrev pub put : ℕ × A → List (ℕ × A) → List (ℕ × A)
  put x [] = x ∷ []
  put x (y ∷ ys) = if nat_le x.0 y.0 then x ∷ y ∷ ys else y ∷ put x ys

  -- two queues as one, by number
  abbrev pub woven : List (ℕ × A) → List (ℕ × A) → List (ℕ × A)
  woven [] ys = ys
  woven (x ∷ xs) ys = put x (woven xs ys)

  -- no number is less than one before it
  abbrev pub IsOrdered : List (ℕ × A) → Type 0
  IsOrdered [] = Unit {0}
  IsOrdered (x ∷ xs) = AllByRecursion (λ y. x.0 ≤ y.0) xs × IsOrdered xs

  -- each number is below this one
  abbrev pub AreBelow : ℕ → List (ℕ × A) → Type 0
  AreBelow next xs = AllByRecursion (λ x. suc x.0 ≤ next) xs

-- whether the first of two is there, and no number is less than its own
abbrev pub is_before : Option ℕ → Option ℕ → Bool
is_before None b = false
is_before (Some a) None = true
is_before (Some a) (Some b) = nat_le a b

abbrev pub least : Option ℕ → Option ℕ → Option ℕ
least a b = if is_before a b then a else b

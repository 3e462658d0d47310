-- How things are kept in order of their keys: those of equal keys stand in one line, in order of arrival.
use Rattle.std.specs.Prelude.{◌≡◌, ℕ, Bool, nat_le, if◌then◌else◌, List, [], ◌∷◌, ◌++◌, Option, Some, None}
use Rattle.std.specs.List.{AllByRecursion}
use Rattle.std.specs.Ordering.{nat_cmp, ordering_then, is_lt}
use Rattle.std.specs.declared.cmp.Ordering.{Ordering}
use Rattle.std.specs.BTreeMap.{is_at}
use Rattle.caf_response.specs.declared.line.Line.{Line}

-- ---- keys

-- by the first number, then by the second
abbrev pub key_order : ℕ × ℕ → ℕ × ℕ → Ordering
key_order a b = ordering_then (nat_cmp a.0 b.0) (nat_cmp a.1 b.1)

-- ---- in order

-- one more, behind all that it doesn't come before
abbrev pub put_in : {A : Type 0} → (A → A → Bool) → List A → A → List A
put_in before [] x = x ∷ []
put_in before (y ∷ ys) x = if before x y then x ∷ y ∷ ys else y ∷ put_in before ys x

-- the first one, and the others
abbrev pub first_of : {A : Type 0} → List A → Option (A × List A)
first_of [] = None
first_of (x ∷ xs) = Some (x, xs)

module _ {A : Type 0} (key_of : A → ℕ × ℕ) where
  abbrev pub comes_before : A → A → Bool
  comes_before x y = is_lt (key_order (key_of x) (key_of y))

  abbrev pub has_key : ℕ × ℕ → A → Bool
  has_key key x = is_at (key_order key) (key_of x)

  -- the first one, where the first number of its key is at most `most`, and the others
  abbrev pub first_within : ℕ → List A → Option (A × List A)
  first_within most [] = None
  first_within most (x ∷ xs) = if nat_le (key_of x).0 most then Some (x, xs) else None

  -- ---- lines

  -- each has that key
  abbrev pub HaveKey : ℕ × ℕ → List A → Type 0
  HaveKey key xs = AllByRecursion (λ x. key_of x ≡ key) xs

-- those of a line, in order of arrival
abbrev pub in_line : {A : Type 0} → Line A → List A
in_line l = l.first ∷ l.later.items

abbrev pub in_lines : {A : Type 0} → List ((ℕ × ℕ) × Line A) → List A
in_lines [] = []
in_lines (e ∷ es) = in_line e.1 ++ in_lines es

-- each stands in the line of its key
abbrev pub AreFiled : {A : Type 0} → (A → ℕ × ℕ) → List ((ℕ × ℕ) × Line A) → Type 0
AreFiled key_of es = AllByRecursion (λ e. HaveKey key_of e.0 (in_line e.1)) es

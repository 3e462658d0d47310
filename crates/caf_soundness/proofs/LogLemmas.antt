-- Which types each request of each place declared, in the order in which they were issued.
use Rattle.std.proofs.Common.{◌≡◌, ℕ, zero, suc, ◌+◌, ◌-◌, ◌==◌, Bool, true, false, List, [], ◌∷◌, ◌++◌, length, Option, Some, if◌then◌else◌, refl, sym, ap, ◌∙◌, arith}
use Rattle.std.specs.Prelude.{slice_get}
use Rattle.std.proofs.lemmas.List.{length-append}
use Rattle.caf_record.proofs.ListLemmas.{self_equal}

-- for each place the IDs that its requests declared, the first request's first
abbrev pub Log : Type 0
Log = ℕ → List (List ℕ)

-- the request of that number, of that place, declared those IDs
abbrev pub Declares : Log → ℕ → ℕ → List ℕ → Type 0
Declares l r n ids = slice_get (l r) (n - 1) ≡ Some ids

-- what one says the other says too
abbrev pub Grows : Log → Log → Type 0
Grows l m = (r n : ℕ) (ids : List ℕ) → Declares l r n ids → Declares m r n ids

pub stays : (l : Log) → Grows l l
stays l r n ids d = d

pub grows_on : (l m o : Log) → Grows l m → Grows m o → Grows l o
grows_on l m o one two r n ids d = two r n ids (one r n ids d)

-- it says one thing alone
pub declares_one : (l : Log) (r n : ℕ) (ids others : List ℕ) → Declares l r n ids → Declares l r n others → ids ≡ others
declares_one l r n ids others d e = let same : ◌≡◌ {A = Option (List ℕ)} (Some ids) (Some others) = sym d ∙ e in cc

-- ---- one request more

abbrev pub logged : Log → ℕ → List ℕ → Log
logged l a ids r = if r == a then l r ++ ids ∷ [] else l r

in_front : (xs ys : List (List ℕ)) (i : ℕ) (x : List ℕ) → slice_get xs i ≡ Some x → slice_get (xs ++ ys) i ≡ Some x
in_front [] ys i x e = absurd cc
in_front (z ∷ xs) ys zero x e = e
in_front (z ∷ xs) ys (suc i) x e = in_front xs ys i x e

at_end : (xs : List (List ℕ)) (x : List ℕ) → slice_get (xs ++ x ∷ []) (length xs) ≡ Some x
at_end [] x = refl
at_end (y ∷ xs) x = at_end xs x

pub logged_grows : (l : Log) (a : ℕ) (ids : List ℕ) → Grows l (logged l a ids)
logged_grows l a ids r n others d = go (r == a)
  where
    go : (b : Bool) → slice_get (if b then l r ++ ids ∷ [] else l r) (n - 1) ≡ Some others
    go true = in_front (l r) (ids ∷ []) (n - 1) others d
    go false = d

-- of the place the list is longer by one
pub logged_here : (l : Log) (a : ℕ) (ids : List ℕ) → logged l a ids a ≡ l a ++ ids ∷ []
logged_here l a ids = rw (self_equal a) refl

pub logged_there : (l : Log) (a r : ℕ) (ids : List ℕ) → (r == a) ≡ false → logged l a ids r ≡ l r
logged_there l a r ids q = rw q refl

pub logged_long : (l : Log) (a : ℕ) (ids : List ℕ) → length (logged l a ids a) ≡ length (l a) + 1
logged_long l a ids = ap length (logged_here l a ids) ∙ length-append (l a) (ids ∷ [])

pub logged_last : (l : Log) (a next : ℕ) (ids : List ℕ) → next ≡ length (l a) + 1 → Declares (logged l a ids) a next ids
logged_last l a next ids e =
    let last : next - 1 ≡ length (l a) = omega (arith, e) in
    ap (slice_get (logged l a ids a)) last ∙ ap (λ (xs : List (List ℕ)). slice_get xs (length (l a))) (logged_here l a ids) ∙ at_end (l a) ids

-- Where nothing has a fault.
use Rattle.std.proofs.Common.{◌≡◌, ℕ, ◌+◌, Bool, true, false, List, [], ◌∷◌, Option, Some, None, refl, map}
use Rattle.std.specs.Prelude.{option_and_then, is_some}
use Rattle.std.specs.Option.{option_map}
use Rattle.std.specs.List.{AllByRecursion}
use Rattle.caf_scenario.specs.First.{first_of}
use Rattle.caf_scenario.specs.Read.{Cause, or_else, unless}

-- ---- faults

-- at some position it has none
abbrev pub NoFault : {A : Type 0} → (ℕ → A → Option Cause) → A → Type 0
NoFault fault x = (i : ℕ) × (fault i x ≡ None)

pub neither : (e f : Option Cause) → or_else e f ≡ None → (e ≡ None) × (f ≡ None)
neither None f h = (refl, h)
neither (Some c) f h = absurd cc

pub none_each : {A : Type 0} (fault : ℕ → A → Option Cause) (i : ℕ) (xs : List A) → first_of fault i xs ≡ None → AllByRecursion (NoFault fault) xs
none_each fault i [] h = tt
none_each fault i (x ∷ xs) h =
    let both = neither (fault i x) (first_of fault (i + 1) xs) h in
    ((i, both.0), none_each fault (i + 1) xs both.1)

pub holds : (b : Bool) (e : Cause) → unless b e ≡ None → b ≡ true
holds true e h = refl
holds false e h = absurd cc

-- ---- options

pub and_then_some : {A B : Type 0} (f : A → Option B) (o : Option A) (y : B) → option_and_then f o ≡ Some y → (x : A) × (o ≡ Some x) × (f x ≡ Some y)
and_then_some f None y h = absurd cc
and_then_some f (Some x) y h = (x, refl, h)

pub map_some : {A B : Type 0} (f : A → B) (o : Option A) (y : B) → option_map f o ≡ Some y → (x : A) × (o ≡ Some x) × (f x ≡ y)
map_some f None y h = absurd cc
map_some f (Some x) y h = (x, refl, cc)

pub some_is : {A : Type 0} (o : Option A) → is_some o ≡ true → (x : A) × (o ≡ Some x)
some_is None h = absurd cc
some_is (Some x) h = (x, refl)

-- ---- lists

pub all_to : {A : Type 0} (P Q : A → Type 0) → ((x : A) → P x → Q x) → (xs : List A) → AllByRecursion P xs → AllByRecursion Q xs
all_to P Q to [] all = tt
all_to P Q to (x ∷ xs) all = (to x all.0, all_to P Q to xs all.1)

pub all_mapped : {A B : Type 0} (f : A → B) (P : B → Type 0) (xs : List A) → AllByRecursion (λ x. P (f x)) xs → AllByRecursion P (map f xs)
all_mapped f P [] all = tt
all_mapped f P (x ∷ xs) all = (all.0, all_mapped f P xs all.1)

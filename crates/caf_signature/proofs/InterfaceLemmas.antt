-- The tests on signatures decide what they test, and a look-up finds an input exactly where it stands.
use Rattle.std.proofs.Common.{◌≡◌, ◌==◌, ℕ, ◌<◌, Bool, true, false, cond, ◌&&◌, List, [], ◌∷◌, length, take, Option, Some, None, is_some, refl, sym, ap, ◌∙◌, subst, inl, inr, arith, get_or}
use Rattle.std.specs.Prelude.{◌≢◌, ◌⊎◌, ◌+◌, find, slice_get, All, Contains}
use Rattle.std.specs.Bool.{Decides}
use Rattle.std.specs.List.{list_any, list_all}
use Rattle.std.proofs.lemmas.Bool.{eqb-true}
use Rattle.std.proofs.lemmas.Bool.Decides.{Decides-eqb}
use Rattle.std.proofs.lemmas.List.{take_more, get_or-map, length-map}
use Rattle.std.proofs.lemmas.List.Elements.{All-nil, All-cons, All-head, All-tail, Contains-append_right, Contains-append_cases, Contains-push_cases, Contains-get_or}
use Rattle.std.proofs.lemmas.List.Folds.{list_any_at}
use Rattle.std.proofs.lemmas.List.Quantifiers.{all_pairs_push}
use Rattle.std.proofs.lemmas.Map.Views.{Contains-from_any}
use Rattle.std.proofs.lemmas.Slice.Eq.{slice_eq-Decides}
use Rattle.caf_types.specs.declared.shape.TypeId.{TypeId}
use Rattle.caf_signature.specs.declared.interface.Signature.{Signature}
use Rattle.caf_signature.specs.Interface.{inputs, takes, same_types, is_same, is_assignable, IsAssignable, HaveDifferingInputs, IsFirstRepeat}

-- ---- the tests

both : (a b : Bool) → (a && b) ≡ true → (a ≡ true) × (b ≡ true)
both true b e = (refl, e)
both false b e = cc

both_so : (a b : Bool) → a ≡ true → b ≡ true → (a && b) ≡ true
both_so true b p q = q
both_so false b p q = p

type_id-Decides : (a b : TypeId) → Decides (a.0 == b.0) (a ≡ b)
type_id-Decides a b =
    (λ e. let same : a.0 ≡ b.0 = eqb-true a.0 b.0 e in λ i. record { 0 = same i }, λ e. (Decides-eqb a.0 b.0).1 (ap (λ (t : TypeId). t.0) e))

pub same_types-Decides : (xs ys : List TypeId) → Decides (same_types xs ys) (xs ≡ ys)
same_types-Decides xs ys = slice_eq-Decides type_id-Decides xs ys _ refl

is_same-Decides : (s t : Signature) → Decides (is_same s t) (s ≡ t)
is_same-Decides s t = (
  λ e.
      let parts = both _ _ e in
      let input : s.input ≡ t.input = (same_types-Decides _ _).0 parts.0 in
      let outcome : s.result ≡ t.result = (same_types-Decides _ _).0 parts.1 in
      λ i. record { input = input i; result = outcome i },
  λ e. both_so _ _ ((same_types-Decides s.input t.input).1 (ap (λ (u : Signature). u.input) e))
      ((same_types-Decides s.result t.result).1 (ap (λ (u : Signature). u.result) e)),
)

any_is : (xs : List Signature) (s : Signature) → Decides (list_any (is_same s) xs) (Contains xs s)
any_is xs s = (
  Contains-from_any (λ x y e. (is_same-Decides x y).0 e) s xs,
  λ h. list_any_at (is_same s) xs h.0 s h.1 ((is_same-Decides s (get_or xs h.0 s)).1 (sym h.2)),
)

all_are : {X : Type 0} (p : X → Bool) (P : X → Type 0) → ((x : X) → Decides (p x) (P x)) → (xs : List X) → Decides (list_all p xs) (All P xs)
all_are p P decides [] = (λ e. All-nil P, λ h. refl)
all_are p P decides (x ∷ xs) =
    let rest = all_are p P decides xs in (
      λ e. All-cons P x xs ((decides x).0 (both _ _ e).0) (rest.0 (both _ _ e).1),
      λ h. both_so _ _ ((decides x).1 (All-head P x xs h)) (rest.1 (All-tail P x xs h)),
    )

pub assignable-Decides : (from to : List Signature) → Decides (is_assignable from to) (IsAssignable from to)
assignable-Decides from to = all_are _ _ (any_is from) to

-- ---- looking an input up

Contains-inputs : (xs : List Signature) (s : Signature) → Contains xs s → Contains (inputs xs) s.input
Contains-inputs xs s h =
    (h.0, (let l : h.0 < length xs = h.1 in omega (arith, length-map xs (λ (t : Signature). t.input))), get_or-map (λ (t : Signature). t.input) xs h.0 s s.input h.1 ∙ ap (λ (t : Signature). t.input) h.2)

found_at : (input : List TypeId) (x : Signature) (xs : List Signature) (s : Signature) → (find (takes input) xs ≡ Some s → (s.input ≡ input) × Contains xs s) →
    (b : Bool) → takes input x ≡ b → cond b (Some x) (find (takes input) xs) ≡ Some s → (s.input ≡ input) × Contains (x ∷ xs) s
found_at input x xs s rest true is e =
    let same : x ≡ s = cc in (
      subst (λ (t : Signature). t.input ≡ input) same (sym ((same_types-Decides input x.input).0 is)),
      subst (λ (t : Signature). Contains (x ∷ xs) t) same (Contains-get_or (x ∷ xs) 0 x (omega arith)),
    )
found_at input x xs s rest false is e =
    let later : (s.input ≡ input) × Contains xs s = rest e in
    (later.0, Contains-append_right (x ∷ []) xs s later.1)

-- what is found has the input, and is one of the list
pub find_some : (input : List TypeId) (xs : List Signature) (s : Signature) → find (takes input) xs ≡ Some s → (s.input ≡ input) × Contains xs s
find_some input [] s e = cc
find_some input (x ∷ xs) s e = found_at input x xs s (find_some input xs s) (takes input x) refl e

pub find_input : (input : List TypeId) (xs : List Signature) (s : Signature) → find (takes input) xs ≡ Some s → Contains (inputs xs) input
find_input input xs s e =
    let found = find_some input xs s e in
    subst (λ (i : List TypeId). Contains (inputs xs) i) found.0 (Contains-inputs xs s found.1)

alone : (y x : List TypeId) → Contains (y ∷ []) x → y ≡ x
alone y x h = elim (Contains-push_cases [] y x h) [ inl none ↦ absurd (let l : none.0 < 0 = none.1 in omega arith) | inr same ↦ same ]

finds_at : (input : List TypeId) (x : Signature) (xs : List Signature) → (Contains (inputs xs) input → is_some (find (takes input) xs) ≡ true) →
    (b : Bool) → takes input x ≡ b → Contains (x.input ∷ []) input ⊎ Contains (inputs xs) input → is_some (cond b (Some x) (find (takes input) xs)) ≡ true
finds_at input x xs rest true is h = refl
finds_at input x xs rest false is (inl h) =
    let takes_it : takes input x ≡ true = (same_types-Decides input x.input).1 (sym (alone x.input input h)) in cc
finds_at input x xs rest false is (inr h) = rest h

-- an input of the list is found
pub is_some-find : (input : List TypeId) (xs : List Signature) → Contains (inputs xs) input → is_some (find (takes input) xs) ≡ true
is_some-find input [] h = absurd (let l : h.0 < 0 = h.1 in omega arith)
is_some-find input (x ∷ xs) h =
    finds_at input x xs (is_some-find input xs) (takes input x) refl (Contains-append_cases (x.input ∷ []) (inputs xs) input h)

pub is_none-find : (input : List TypeId) (xs : List Signature) → find (takes input) xs ≡ None → Contains (inputs xs) input → ⊥
is_none-find input xs e h =
    let some : is_some (find (takes input) xs) ≡ true = is_some-find input xs h in
    let none : is_some (find (takes input) xs) ≡ false = ap is_some e in cc

-- ---- the first repeat

from_is_some : (o : Option Signature) → is_some o ≡ true → (s : Signature) × (o ≡ Some s)
from_is_some None e = cc
from_is_some (Some s) e = (s, refl)

pub repeats : (xs : List Signature) (i : ℕ) (s : Signature) → slice_get xs i ≡ Some s → HaveDifferingInputs (take i xs) →
    is_some (find (takes s.input) (take i xs)) ≡ true → IsFirstRepeat xs i
repeats xs i s at differ some =
    let earlier = from_is_some _ some in
    (differ, (s, at, find_input s.input (take i xs) earlier.0 earlier.1))

-- a signature whose input isn't found joins the ones before it
pub differ_more : (xs : List Signature) (i : ℕ) (s : Signature) → i < length xs → get_or xs i s ≡ s → HaveDifferingInputs (take i xs) →
    is_some (find (takes s.input) (take i xs)) ≡ false → HaveDifferingInputs (take (i + 1) xs)
differ_more xs i s l at differ none =
    rw (take_more xs i s l, at) (all_pairs_push (λ (a b : Signature). a.input ≢ b.input) (take i xs) s differ (λ k d h same.
    let stands : Contains (inputs (take i xs)) (get_or (take i xs) k d).input = Contains-inputs (take i xs) (get_or (take i xs) k d) (Contains-get_or (take i xs) k d h) in
    let some : is_some (find (takes s.input) (take i xs)) ≡ true = is_some-find s.input (take i xs) (subst (λ (i' : List TypeId). Contains (inputs (take i xs)) i') same stands) in
    let clash : ⊥ = cc in clash))

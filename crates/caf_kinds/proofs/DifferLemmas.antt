-- Signatures whose inputs differ: none of them is a repeat.
use Rattle.std.proofs.Common.{◌≡◌, ℕ, zero, suc, ◌<◌, Bool, true, false, List, [], ◌∷◌, take, Some, refl, ◌⊎◌, inl, inr, arith}
use Rattle.std.specs.Prelude.{not, slice_get, Contains, Err}
use Rattle.std.specs.List.{list_any}
use Rattle.caf_types.specs.declared.shape.TypeId.{TypeId}
use Rattle.caf_signature.specs.declared.interface.Signature.{Signature}
use Rattle.std.proofs.lemmas.List.Elements.{Contains-append_cases}
use Rattle.caf_signature.proofs.InterfaceLemmas.{same_types-Decides}
use Rattle.caf_signature.specs.Interface.{inputs, IsFirstRepeat, InterfaceAnswer}
use Rattle.caf_signature.specs.declared.interface.InterfaceFault.{InterfaceFault}
use Rattle.caf_signature.specs.declared.interface.InterfaceFault.TheVariants as faults
use Rattle.caf_kinds.specs.Asking.{has_input, inputs_differ}
use Rattle.caf_kinds.specs.Keeping.{first_of_and, second_of_and}

any_here : (test : Signature → Bool) (x : Signature) (xs : List Signature) → list_any test xs ≡ true → (b : Bool) → test x ≡ b → list_any test (x ∷ xs) ≡ true
any_here test x xs later true q = rw q refl
any_here test x xs later false q = rw (q, later) refl

any_at : (test : Signature → Bool) (xs : List Signature) (p : ℕ) (s : Signature) → slice_get xs p ≡ Some s → test s ≡ true → list_any test xs ≡ true
any_at test [] p s at e = absurd cc
any_at test (x ∷ xs) zero s at e = let here : x ≡ s = cc in rw (here, e) refl
any_at test (x ∷ xs) (suc p) s at e = any_here test x xs (any_at test xs p s at e) (test x) refl

single : (a b : List TypeId) → Contains (a ∷ []) b → a ≡ b
single a b (zero, lt, e) = e
single a b (suc k, lt, e) = absurd (omega arith)

clash : (b : Bool) → not b ≡ true → b ≡ true → ⊥
clash true e q = cc
clash false e q = cc

-- an input stood before, or it is the first one
stood : (x s : Signature) (xs : List Signature) (p : ℕ) → not (list_any (has_input x) xs) ≡ true → slice_get xs p ≡ Some s → (Contains (inputs (take p xs)) s.input → ⊥)
    → Contains (x.input ∷ []) s.input ⊎ Contains (inputs (take p xs)) s.input → ⊥
stood x s xs p first at later (inl here) = clash (list_any (has_input x) xs) first (any_at (has_input x) xs p s at ((same_types-Decides x.input s.input).1 (single x.input s.input here)))
stood x s xs p first at later (inr there) = later there

pub no_repeat : (xs : List Signature) (p : ℕ) (s : Signature) → inputs_differ xs ≡ true → slice_get xs p ≡ Some s → Contains (inputs (take p xs)) s.input → ⊥
no_repeat [] p s d at h = absurd cc
no_repeat (x ∷ xs) zero s d at h = absurd (let l : h.0 < 0 = h.1 in omega arith)
no_repeat (x ∷ xs) (suc p) s d at h =
    stood x s xs p (first_of_and (not (list_any (has_input x) xs)) (inputs_differ xs) d) at
    (no_repeat xs p s (second_of_and (not (list_any (has_input x) xs)) (inputs_differ xs) d) at)
    (Contains-append_cases (x.input ∷ []) (inputs (take p xs)) s.input h)

pub is_no_repeat : (xs : List Signature) (p : ℕ) → inputs_differ xs ≡ true → IsFirstRepeat xs p → ⊥
is_no_repeat xs p d repeat = no_repeat xs p repeat.1.0 d repeat.1.1 repeat.1.2

-- so an interface is made of them
pub is_no_fault : (fault : InterfaceFault) (xs : List Signature) → inputs_differ xs ≡ true → InterfaceAnswer (Err fault) xs → ⊥
is_no_fault (faults.Twice p) xs d is = is_no_repeat xs p d is
is_no_fault faults.Memory xs d is = is

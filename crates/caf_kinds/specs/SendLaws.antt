-- Outputs that are lawful wherever they stand: to peers, and to held requests.
use Rattle.std.specs.Prelude.{◌≡◌, ℕ, zero, suc, List, [], ◌∷◌, ◌++◌, length, map, slice_get, Contains, Some, refl}
use Rattle.std.specs.List.{AllByRecursion}
use Rattle.std.proofs.Common.{subst, append_assoc, arith}
use Rattle.std.proofs.lemmas.List.Elements.{Contains-append_left, Contains-append_right}
use Rattle.caf_actor.specs.PlainInput.{PlainInput}
use Rattle.caf_actor.specs.PlainOutput.{PlainOutput}
use Rattle.caf_actor.specs.Rules.{outputs_count, output_count}
use Rattle.caf_kinds.specs.Who.{Who}
use Rattle.caf_kinds.specs.Lawful.{IsTarget, IsLawfulOutput}

pub contains_first : {A : Type 0} (x : A) (xs : List A) → Contains (x ∷ xs) x
contains_first x xs = (0, omega arith, refl)

contains_behind : {A : Type 0} (before : List A) (xs : List A) → AllByRecursion (Contains (before ++ xs)) xs
contains_behind before [] = tt
contains_behind before (x ∷ xs) = (
  Contains-append_right before (x ∷ xs) x (contains_first x xs),
  subst (λ ys. AllByRecursion (Contains ys) xs) (append_assoc before (x ∷ []) xs) (contains_behind (before ++ x ∷ []) xs),
)

-- each item of a list stands in it
pub all_contained : {A : Type 0} (xs : List A) → AllByRecursion (Contains xs) xs
all_contained xs = contains_behind [] xs

-- what holds of each holds of the one at a position
pub all_at : {A : Type 0} (P : A → Type 0) (xs : List A) (i : ℕ) (x : A) → AllByRecursion P xs → slice_get xs i ≡ Some x → P x
all_at P [] i x all e = absurd cc
all_at P (y ∷ ys) zero x all e = let same : y ≡ x = cc in subst P same all.0
all_at P (y ∷ ys) (suc i) x all e = all_at P ys i x all.1 e

pub contained_at : {A : Type 0} (xs : List A) (i : ℕ) (x : A) → slice_get xs i ≡ Some x → Contains xs x
contained_at xs i x e = all_at (Contains xs) xs i x (all_contained xs) e

-- a peer is a target, and so is a child
pub peer_is_target : (who : Who) (p : ℕ) → Contains who.peers p → IsTarget who p
peer_is_target who p c = Contains-append_right (who.place ∷ []) (who.peers ++ who.reserve) p (Contains-append_left who.peers who.reserve p c)

pub child_is_target : (who : Who) (p : ℕ) → Contains who.reserve p → IsTarget who p
child_is_target who p c = Contains-append_right (who.place ∷ []) (who.peers ++ who.reserve) p (Contains-append_right who.peers who.reserve p c)

pub self_is_target : (who : Who) → IsTarget who who.place
self_is_target who = contains_first who.place (who.peers ++ who.reserve)

module _ (who : Who) (i : PlainInput) (send : ℕ → PlainOutput) where
  each_lawful : ((p : ℕ) → Contains who.peers p → IsLawfulOutput who i (send p)) → (ps : List ℕ) → AllByRecursion (Contains who.peers) ps → AllByRecursion (IsLawfulOutput who i) (map send ps)
  each_lawful is [] all = tt
  each_lawful is (p ∷ ps) all = (is p all.0, each_lawful is ps all.1)

  -- one output to each peer
  pub to_peers : ((p : ℕ) → Contains who.peers p → IsLawfulOutput who i (send p)) → AllByRecursion (IsLawfulOutput who i) (map send who.peers)
  to_peers is = each_lawful is who.peers (all_contained who.peers)

-- outputs that count so much each
pub count_each : {A : Type 0} (send : A → PlainOutput) → ((x : A) → output_count (send x) ≡ 1) → (xs : List A) → outputs_count (map send xs) ≡ length xs
count_each send one [] = refl
count_each send one (x ∷ xs) = let rest = count_each send one xs in let here = one x in omega arith

pub count_none : {A : Type 0} (send : A → PlainOutput) → ((x : A) → output_count (send x) ≡ 0) → (xs : List A) → outputs_count (map send xs) ≡ 0
count_none send none [] = refl
count_none send none (x ∷ xs) = let rest = count_none send none xs in let here = none x in omega arith

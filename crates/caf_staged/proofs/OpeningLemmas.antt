-- Actors that were made one after the other, and whom they send to.
use Rattle.std.proofs.Common.{◌≡◌, ℕ, zero, suc, ◌+◌, ◌<◌, ◌==◌, ◌&&◌, Bool, true, false, List, [], ◌∷◌, ◌++◌, length, Some, refl, subst, sym, ap, ◌∙◌, length-append}
use Rattle.std.specs.Prelude.{nat_lt, slice_get}
use Rattle.std.proofs.lemmas.Bool.{eqb-true, lt-ltb, ltb-true}
use Rattle.std.proofs.lemmas.List.Elements.{All-contains}
use Rattle.std.proofs.lemmas.List.Sums.{AllPass-from_list_all}
use Rattle.std.proofs.lemmas.List.Folds.{list_all-append}
use Rattle.caf_actor.specs.Actor.{ActorState, untried}
use Rattle.caf_actor.specs.Rules.{IsTarget}
use Rattle.caf_actor.specs.Snapshot.{fresh}
use Rattle.caf_driver.specs.Opening.{IsFresh}
use Rattle.caf_scripted.specs.declared.scripted.Scripted.{Scripted}
use Rattle.caf_scripted.specs.Scripted.{scripted_rules}
use Rattle.caf_staged.specs.Opening.{are_below, belongs}

-- what holds of each item at its position holds with one item more
pub with_one_more : {A : Type 0} (P : ℕ → A → Type 0) (xs : List A) (x : A) → ((p : ℕ) (a : A) → slice_get xs p ≡ Some a → P p a) → P (length xs) x → (p : ℕ) (a : A) → slice_get (xs ++ x ∷ []) p ≡ Some a → P p a
with_one_more P [] x h k zero a q = let same : x ≡ a = cc in subst (P 0) same k
with_one_more P [] x h k (suc p) a q = cc
with_one_more P (y ∷ ys) x h k zero a q = h 0 a q
with_one_more P (y ∷ ys) x h k (suc p) a q = with_one_more (λ n. P (suc n)) ys x (λ i b r. h (suc i) b r) k p a q

-- a list is one longer with one item more
pub length_more : {A : Type 0} (xs : List A) (x : A) (ys : List A) (n : ℕ) → ys ≡ xs ++ x ∷ [] → length xs ≡ n → length ys ≡ n + 1
length_more xs x ys n e q = ap length e ∙ length-append xs (x ∷ []) ∙ ap (λ k. k + 1) q

all_of : (b c : Bool) → (b && c) ≡ true → (b ≡ true) × (c ≡ true)
all_of true c h = (refl, h)
all_of false c h = cc

both : (b c : Bool) → b ≡ true → c ≡ true → (b && c) ≡ true
both true c e f = f
both false c e f = cc

less_of : (p n : ℕ) → nat_lt p n ≡ true → p < n
less_of p n h = ltb-true p n h

test_of : (p n : ℕ) → p < n → nat_lt p n ≡ true
test_of p n h = lt-ltb p n h

-- a scripted actor sends to its place, its peers and its children alone
targets_below : (s : Scripted) (n : ℕ) → s.place < n → are_below n s.peers ≡ true → are_below n s.reserve ≡ true → (q : ℕ) → IsTarget scripted_rules s q → q < n
targets_below s n own peers reserve q target =
    let others : are_below n (s.peers ++ s.reserve) ≡ true = list_all-append (λ p. nat_lt p n) s.peers s.reserve ∙ both (are_below n s.peers) (are_below n s.reserve) peers reserve in
    let all : are_below n (s.place ∷ (s.peers ++ s.reserve)) ≡ true = both (nat_lt s.place n) (are_below n (s.peers ++ s.reserve)) (test_of s.place n own) others in
    less_of q n (All-contains (λ p. nat_lt p n ≡ true) (s.place ∷ (s.peers ++ s.reserve)) q (AllPass-from_list_all (λ p. nat_lt p n) (s.place ∷ (s.peers ++ s.reserve)) all) target)

-- an actor that took nothing, of a behaviour that fits its place
pub fresh_actor : (begun : Bool) (s : Scripted) (n place stamp : ℕ) (a : ActorState Scripted) → a ≡ untried (fresh scripted_rules begun place s stamp) → belongs s place n ≡ true → place < n → IsFresh scripted_rules n place a
fresh_actor begun s n place stamp a e h lt =
    let parts = all_of ((s.place == place) && are_below n s.peers) (are_below n s.reserve) h in
    let firsts = all_of (s.place == place) (are_below n s.peers) parts.0 in
    let own : s.place ≡ place = eqb-true s.place place firsts.0 in
    subst (IsFresh scripted_rules n place) (sym e) (record {
      journal = refl;
      whole = refl;
      place = refl;
      targets = targets_below s n (subst (λ k. k < n) (sym own) lt) firsts.1 parts.1;
    })

-- The actors of the program before it runs: each at its place, and none sends past the last place.
use Rattle.std.proofs.Common.{◌≡◌, ℕ, zero, suc, ◌<◌, List, [], ◌∷◌, ◌++◌, Result, Ok, Err, refl, subst, arith}
use Rattle.std.specs.Prelude.{IfOk, Contains}
use Rattle.std.specs.List.{AllByRecursion}
use Rattle.caf_actor.specs.Actor.{ActorState, untried}
use Rattle.caf_actor.specs.Snapshot.{opening}
use Rattle.caf_driver.specs.Opening.{IsFresh, AreFresh}
use Rattle.caf_kinds.proofs.PlanningLemmas.{one_of_all}
use Rattle.example_bank.specs.Member.{peers_of, rules}
use Rattle.example_bank.specs.declared.member.Role.{Role}
use Rattle.example_bank.specs.declared.member.Role.TheVariants as role
use Rattle.example_bank.specs.declared.member.Member.{Member}

pub if_ok : {A E : Type 0} (P Q : A → Type 0) → ((x : A) → P x → Q x) → (r : Result A E) → IfOk r P → IfOk r Q
if_ok P Q to (Ok x) h = to x h
if_ok P Q to (Err e) h = tt

peers_below : (place : ℕ) → place < 3 → (r : Role) → AllByRecursion (λ p. p < 3) (place ∷ (peers_of r ++ []))
peers_below place low (role.Teller gots) = (low, (omega arith, (omega arith, tt)))
peers_below place low (role.Account a) = (low, tt)

one_of : (P : ℕ → Type 0) (ps : List ℕ) → AllByRecursion P ps → (p : ℕ) → Contains ps p → P p
one_of P ps all p (k, within, is) = subst P is (one_of_all P ps k p within all)

pub is_fresh : (place : ℕ) → place < 3 → (m : Member) → m.place ≡ place → m.reserve ≡ [] → IsFresh rules 3 place (untried (opening rules place m 0))
is_fresh place low m here none = record {
  journal = refl;
  whole = refl;
  place = refl;
  targets = λ q target.
      one_of (λ p. p < 3) (place ∷ (peers_of m.role ++ [])) (peers_below place low m.role) q
      (subst (λ (ps : List ℕ). Contains (place ∷ (peers_of m.role ++ ps)) q) none (subst (λ (p : ℕ). Contains (p ∷ (peers_of m.role ++ m.reserve)) q) here target));
}

pub three_fresh : (x y z : ActorState Member) → IsFresh rules 3 0 x → IsFresh rules 3 1 y → IsFresh rules 3 2 z → AreFresh rules (x ∷ y ∷ z ∷ [])
three_fresh x y z f g h zero a e = let same : x ≡ a = cc in subst (IsFresh rules 3 0) same f
three_fresh x y z f g h (suc zero) a e = let same : y ≡ a = cc in subst (IsFresh rules 3 1) same g
three_fresh x y z f g h (suc (suc zero)) a e = let same : z ≡ a = cc in subst (IsFresh rules 3 2) same h
three_fresh x y z f g h (suc (suc (suc p))) a e = absurd cc

-- One message for several places.
use Rattle.std.proofs.Common.{◌≡◌, ℕ, zero, suc, ◌+◌, ◌-◌, ◌*◌, ◌/◌, ◌≤◌, List, [], ◌∷◌, ◌++◌, length, refl, sym, ap, ◌∙◌, arith, replicate}
use Rattle.std.proofs.lemmas.List.{append_assoc, append-nil}
use Rattle.std.proofs.Math.Nat.{mul-div-le}
use Rattle.caf_steps.specs.declared.step.Step.{Step}
use Rattle.caf_steps.specs.declared.step.Step.TheVariants.{Retain}
use Rattle.caf_steps.specs.declared.reference.Reference.{Reference}
use Rattle.caf_steps.specs.Reference.{second}
use Rattle.caf_types.specs.declared.notice.Priority.{Priority}
use Rattle.caf_actor.specs.Snapshot.{Handled}
use Rattle.caf_actor.specs.Sending.{tell, tell_many}
use Rattle.caf_actor.specs.Sharing.{to_each, tell_each, further_of, retained_times, IsShared, shared_among}

-- one content for each place, told one after the other
pub told_each : {S : Type 0} (t : Handled S) (places : List ℕ) (priority : Priority) (words : List ℕ) → tell_each t priority (to_each places words) ≡ tell_many t places priority words
told_each t [] priority words = refl
told_each t (to ∷ places) priority words = told_each (tell t to priority words) places priority words

-- ---- retains, one after the other

replicate_push : (n : ℕ) → replicate n Retain ++ Retain ∷ [] ≡ replicate (suc n) Retain
replicate_push zero = refl
replicate_push (suc n) = ap (λ (steps : List Step). Retain ∷ steps) (replicate_push n)

pub one_more_retain : (steps : List Step) (n : ℕ) → (steps ++ replicate n Retain) ++ Retain ∷ [] ≡ steps ++ replicate (n + 1) Retain
one_more_retain steps n =
    let next : suc n ≡ n + 1 = omega arith in
    append_assoc steps (replicate n Retain) (Retain ∷ []) ∙ ap (λ (more : List Step). steps ++ more) (replicate_push n ∙ ap (λ (m : ℕ). replicate m Retain) next)

-- ---- the references that travel

pub further_more : (r : Reference) (n : ℕ) (places : List ℕ) (to : ℕ) → further_of r n (places ++ to ∷ []) ≡ further_of r n places ++ (to, second (retained_times (n + length places) r)) ∷ []
further_more r n [] to = let same : n + 0 ≡ n = omega arith in rw same refl
further_more r n (p ∷ places) to =
    let same : suc n + length places ≡ n + suc (length places) = omega arith in
    ap (λ (rest : List (ℕ × Reference)). (p, second (retained_times n r)) ∷ rest) (further_more r (suc n) places to ∙ rw same refl)

pub retained_steps : (r : Reference) (n : ℕ) → (retained_times n r).steps ≡ r.steps ++ replicate n Retain
retained_steps r zero = sym (append-nil r.steps)
retained_steps r (suc n) =
    let next : n + 1 ≡ suc n = omega arith in
    ap (λ (steps : List Step). steps ++ Retain ∷ []) (retained_steps r n) ∙ one_more_retain r.steps n ∙ ap (λ (m : ℕ). r.steps ++ replicate m Retain) next

-- where the room was 4,096 at first, a retain costs 3 of it at most
pub room_left : (room n : ℕ) → 4096 ≤ room + n → 4096 ≤ (room - 1 - room / 2048) + (n + 3)
room_left room n h =
    let part : 2048 * (room / 2048) ≤ room = mul-div-le room 2048 in
    omega arith

-- the first place gets the reference itself
pub shared_first : (r : Reference) (places : List ℕ) → 1 ≤ length places → IsShared r (length places) (shared_among r places)
shared_first r [] h = absurd (omega arith)
shared_first r (to ∷ places) h =
    let others : suc (length places) - 1 ≡ length places = omega arith in
    retained_steps r (length places) ∙ ap (λ (n : ℕ). r.steps ++ replicate n Retain) (sym others)

-- Which steps are played, and where a script stops.
use Rattle.std.proofs.Common.{◌≡◌, Bool, true, false, List, [], ◌∷◌, ◌++◌, length, flat_map, refl, sym, ap, ◌∙◌, append_assoc, arith}
use Rattle.std.specs.Prelude.{slice_get, if◌then◌else◌}
use Rattle.std.specs.Option.{option_map}
use Rattle.std.proofs.lemmas.List.{append-nil}
use Rattle.std.proofs.lemmas.List.Concat.{flat_map-cons}
use Rattle.caf_actor.specs.PlainOutput.{PlainOutput}
use Rattle.caf_script.specs.Step.{Step, sent, waits_for}
use Rattle.caf_script.specs.Script.{Played, is_met, is_next_met, can_play, behind, play, HasPlayed, IsLeft, PlaysInOrder, GoesAsFarAsItCan}
use Rattle.caf_script.specs.declared.script.Script.{Script}

-- these steps were played behind what was sent before
record Went (s : Script) (out : List PlainOutput) (after : Played) : Type 0 where
  pub steps : List Step
  pub plan : s.plan ≡ steps ++ after.0.plan
  pub outputs : after.1 ≡ out ++ flat_map sent steps

stays : (s : Script) (out : List PlainOutput) → Went s out (s, out)
stays s out = record { steps = []; plan = refl; outputs = sym (append-nil out) }

went_on : (s : Script) (step : Step) (rest : List Step) (out : List PlainOutput) (after : Played) → s.plan ≡ step ∷ rest → Went (behind s step rest) (out ++ sent step) after → Went s out after
went_on s step rest out after e w = record {
  steps = step ∷ w.steps;
  plan = e ∙ ap (λ (steps : List Step). step ∷ steps) w.plan;
  outputs = w.outputs ∙ append_assoc out (sent step) (flat_map sent w.steps) ∙ ap (λ (os : List PlainOutput). out ++ os) (sym (flat_map-cons sent step w.steps));
}

on_branch : (P : Played → Type 0) (b : Bool) (x y : Played) → P x → P y → P (if b then x else y)
on_branch P true x y this that = this
on_branch P false x y this that = that

goes : (plan : List Step) (s : Script) (out : List PlainOutput) → s.plan ≡ plan → Went s out (play plan s out)
goes [] s out e = stays s out
goes (step ∷ rest) s out e =
    on_branch (Went s out) (is_met s (waits_for step)) (play rest (behind s step rest) (out ++ sent step)) (s, out)
    (went_on s step rest out (play rest (behind s step rest) (out ++ sent step)) e (goes rest (behind s step rest) (out ++ sent step) refl))
    (stays s out)

pub plays_in_order : PlaysInOrder
plays_in_order s =
    let w = goes s.plan s [] refl in
    on_branch (HasPlayed s) s.is_over (s, []) (play s.plan s [])
    (record { steps = []; plan = refl; outputs = refl })
    (record { steps = w.steps; plan = w.plan; outputs = w.outputs })

-- ---- where it stops

abbrev over_or : Script → Bool → Played
over_or s b = if b then (s, []) else play s.plan s []

next_of : (s : Script) (step : Step) (rest : List Step) → s.plan ≡ step ∷ rest → can_play s ≡ is_met s (waits_for step)
next_of s step rest e = ap (λ (plan : List Step). is_next_met s (option_map waits_for (slice_get plan 0))) e

stops_at : (s : Script) (step : Step) (rest : List Step) (out : List PlainOutput) → s.plan ≡ step ∷ rest → (b : Bool) → is_met s (waits_for step) ≡ b → can_play (play rest (behind s step rest) (out ++ sent step)).0 ≡ false
    → can_play (if b then play rest (behind s step rest) (out ++ sent step) else (s, out)).0 ≡ false
stops_at s step rest out e true q later = later
stops_at s step rest out e false q later = next_of s step rest e ∙ q

stops : (plan : List Step) (s : Script) (out : List PlainOutput) → s.plan ≡ plan → can_play (play plan s out).0 ≡ false
stops [] s out e = ap (λ (plan : List Step). is_next_met s (option_map waits_for (slice_get plan 0))) e
stops (step ∷ rest) s out e = stops_at s step rest out e (is_met s (waits_for step)) refl (stops rest (behind s step rest) (out ++ sent step) refl)

pub goes_as_far_as_it_can : GoesAsFarAsItCan
goes_as_far_as_it_can s e = ap (λ (b : Bool). can_play (over_or s b).0) e ∙ stops s.plan s [] refl

-- ---- one step

-- where the next step can be played, playing it first makes no difference
pub played_next : (s : Script) (step : Step) (rest : List Step) (out : List PlainOutput) → s.plan ≡ step ∷ rest → can_play s ≡ true
    → play s.plan s out ≡ play rest (behind s step rest) (out ++ sent step)
played_next s step rest out e can =
    let met : is_met s (waits_for step) ≡ true = sym (next_of s step rest e) ∙ can in
    ap (λ (plan : List Step). play plan s out) e ∙ rw met refl

-- where it can't be played, nothing is
pub played_none : (s : Script) (plan : List Step) (out : List PlainOutput) → s.plan ≡ plan → can_play s ≡ false → play s.plan s out ≡ (s, out)
played_none s [] out e can = ap (λ (plan : List Step). play plan s out) e
played_none s (step ∷ rest) out e can =
    let met : is_met s (waits_for step) ≡ false = sym (next_of s step rest e) ∙ can in
    ap (λ (plan : List Step). play plan s out) e ∙ rw met refl

-- a plan without steps
pub played_all : (s : Script) (out : List PlainOutput) → length s.plan ≡ 0 → play s.plan s out ≡ (s, out)
played_all s out e = go s.plan refl
  where
    go : (plan : List Step) → s.plan ≡ plan → play s.plan s out ≡ (s, out)
    go [] q = ap (λ (plan : List Step). play plan s out) q
    go (step ∷ rest) q = let long : length s.plan ≡ length (step ∷ rest) = ap length q in absurd (omega (arith, e, long))

-- what is left of what is left
pub left_on : (a b c : Script) → IsLeft a b → IsLeft b c → IsLeft a c
left_on a b c (these, e) (those, f) = (these ++ those, e ∙ ap (λ (plan : List Step). these ++ plan) f ∙ sym (append_assoc these those c.plan))

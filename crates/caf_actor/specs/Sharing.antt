-- One message for several places, and which references to its tuple travel.
use Rattle.std.specs.Prelude.{◌≡◌, ℕ, zero, suc, ◌-◌, ◌≤◌, Bool, true, false, List, [], ◌∷◌, ◌++◌, length, map, replicate}
use Rattle.caf_steps.specs.declared.step.Step.{Step}
use Rattle.caf_steps.specs.declared.step.Step.TheVariants.{Retain}
use Rattle.caf_steps.specs.declared.reference.Reference.{Reference}
use Rattle.caf_steps.specs.Reference.{fresh, retained, second}
use Rattle.caf_types.specs.declared.notice.Priority.{Priority}
use Rattle.caf_message.specs.declared.envelope.Body.{Body}
use Rattle.caf_message.specs.declared.envelope.Body.TheVariants as body
use Rattle.caf_actor.specs.declared.post.Post.{Post}
use Rattle.caf_actor.specs.Snapshot.{Handled}
use Rattle.caf_actor.specs.Sending.{tell}

-- ---- one message for each place

-- each place with a content
abbrev pub contents_of : List (ℕ × Reference) → List (ℕ × List ℕ)
contents_of addressed = map (λ (a : ℕ × Reference). (a.0, a.1.content)) addressed

abbrev pub to_each : List ℕ → List ℕ → List (ℕ × List ℕ)
to_each places words = map (λ to. (to, words)) places

-- the steps of the reference that goes to the first place
abbrev pub first_steps : List (ℕ × Reference) → List Step
first_steps [] = []
first_steps (a ∷ others) = a.1.steps

-- the first place gets the reference itself, which was retained once for each further place
abbrev pub IsShared : Reference → ℕ → List (ℕ × Reference) → Type 0
IsShared r places addressed = first_steps addressed ≡ r.steps ++ replicate (places - 1) Retain

-- a reference that was retained so many times
abbrev pub retained_times : ℕ → Reference → Reference
retained_times zero r = r
retained_times (suc n) r = retained (retained_times n r)

-- for each further place the second reference that the next retain gives
abbrev pub further_of : Reference → ℕ → List ℕ → List (ℕ × Reference)
further_of r n [] = []
further_of r n (to ∷ places) = (to, second (retained_times n r)) ∷ further_of r (suc n) places

-- the reference itself and these
abbrev pub shared_among : Reference → List ℕ → List (ℕ × Reference)
shared_among r [] = []
shared_among r (to ∷ places) = (to, retained_times (length places) r) ∷ further_of r 0 places

-- a copy for each place
abbrev pub to_copies : List ℕ → List ℕ → List (ℕ × Reference)
to_copies places words = map (λ to. (to, fresh words)) places

-- each place is told the content that stands with it
abbrev pub tell_each : {S : Type 0} → Handled S → Priority → List (ℕ × List ℕ) → Handled S
tell_each t priority [] = t
tell_each t priority (a ∷ others) = tell_each (tell t a.0 priority a.1) priority others

-- ---- what is posted, with its references

abbrev pub bodies : List Post → List Body
bodies posts = map (λ (p : Post). p.envelope.body) posts

abbrev pub contents : List (ℕ × Reference) → List Body
contents addressed = map (λ (a : ℕ × Reference). body.Content a.1) addressed

-- To which places an actor may ever send: those that its behaviour names, and those that others named to it.
use Rattle.std.specs.Prelude.{ℕ, nat_lt, if◌then◌else◌, List, [], ◌∷◌, Option}
use Rattle.std.specs.List.{AllByRecursion}
use Rattle.caf_types.specs.declared.notice.Mid.{Mid}
use Rattle.caf_types.specs.declared.notice.Notice.{Notice}
use Rattle.caf_types.specs.declared.notice.Notice.TheVariants as notice
use Rattle.caf_message.specs.declared.envelope.Plain.{Plain}
use Rattle.caf_message.specs.declared.envelope.Plain.TheVariants as «plain»
use Rattle.caf_message.specs.declared.envelope.Taken.{Taken}
use Rattle.caf_types.specs.ShapeTree.{ShapeTree}
use Rattle.caf_message.specs.Envelope.{IsInForm, EnvelopeFits}
use Rattle.caf_response.specs.Delays.{PlainDelay}
use Rattle.caf_response.specs.Promised.{Promised}
use Rattle.caf_actor.specs.declared.snapshot.Snapshot.{Snapshot}
use Rattle.caf_actor.specs.PlainPost.{PlainPost}
use Rattle.caf_actor.specs.Rules.{Rules, IsTarget}

-- ---- where an envelope leads

-- the answer to a request goes to its requester
abbrev pub asked_by : Mid → List ℕ
asked_by mid = if nat_lt 0 mid.number then mid.requester ∷ [] else []

-- who links or watches is told of the quit
abbrev pub told_later : Notice → List ℕ
told_later (notice.Link from) = from ∷ []
told_later (notice.Watch from) = from ∷ []
told_later _ = []

-- the places to which something may be sent because of an envelope with this mid and body
abbrev pub leads_to : Mid → Plain → List ℕ
leads_to mid («plain».Content words) = if mid.response then [] else asked_by mid
leads_to mid («plain».Failure sec) = []
leads_to mid («plain».System what) = told_later what

-- ---- within some places

module _ (K : ℕ → Type 0) where
  abbrev pub LeadsWithin : Taken → Type 0
  LeadsWithin e = AllByRecursion K (leads_to e.mid e.body)

  -- it goes to one of them, and leads to them alone
  pub record GoesWithin (p : PlainPost) : Type 0 where
    pub to : K p.to
    pub leads : LeadsWithin p.envelope

  -- the actor knows no other places
  pub record StaysWithin {S : Type 0} (rules : Rules S) (s : Snapshot S) : Type 0 where
    pub place : K s.place
    pub targets : (p : ℕ) → IsTarget rules s.behavior p → K p
    pub urgent : AllByRecursion LeadsWithin s.caches.urgent
    pub normal : AllByRecursion LeadsWithin s.caches.normal
    pub holds : AllByRecursion (λ (p : Promised). K p.mid.requester) s.holds
    pub links : AllByRecursion K s.observers.links
    pub monitors : AllByRecursion K s.observers.monitors
    pub delays : AllByRecursion (λ (d : PlainDelay). K d.to) s.delays

-- ---- posts

abbrev pub IsPostInForm : PlainPost → Type 0
IsPostInForm p = IsInForm p.envelope

-- its content fits, where it has one
abbrev pub PostFits : (ℕ → Option ShapeTree) → PlainPost → Type 0
PostFits shape_of p = EnvelopeFits shape_of p.envelope

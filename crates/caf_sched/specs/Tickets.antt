-- The ticket rule: each ticket that was put was drawn by exactly one hand, or is held. And which steps call for tickets.
use Rattle.std.specs.Prelude.{◌≡◌, ◌⊎◌, ℕ, ◌<◌, ◌≤◌, ◌==◌, nat_lt, if◌then◌else◌, Bool, true, List, [], ◌∷◌, ◌++◌, length}
use Rattle.std.specs.List.{AllByRecursion}
use mathlib.Core.Option.{some}
use lib.ListN.{get_elem?}
use Rattle.caf_turns.specs.declared.step.Step.{Step}
use Rattle.caf_turns.specs.declared.step.Step.TheVariants.{Announce, Claim, Look, Settle, Free}
use Rattle.caf_sched.specs.declared.view.View.{View}

-- ---- the rule of a deque

-- of the tickets at the drawn positions, those that this port drew, in order; a list has the port for each position
abbrev pub picked : ℕ → List ℕ → List ℕ → List ℕ
picked port [] gone = []
picked port (p ∷ ports) [] = []
picked port (p ∷ ports) (t ∷ gone) = if p == port then t ∷ picked port ports gone else picked port ports gone

-- A ticket is named by its deque and its position among the puts of the deque's owner, which is port 0. Those at the
-- first positions were drawn, each by one port; the rest is held.
pub record TicketRule (held : List ℕ) (views : List View) : Type 0 where
  pub owner : View
  pub gone : List ℕ
  pub ports : List ℕ
  pub first : get_elem? views 0 ≡ some owner
  pub puts : owner.puts ≡ gone ++ held
  pub once : length ports ≡ length gone
  pub known : AllByRecursion (λ p. p < length views) ports
  pub each : (port : ℕ) (v : View) → get_elem? views port ≡ some v → v.drawn ≡ picked port ports gone

abbrev pub view : List ℕ → List ℕ → View
view puts drawn = record { puts = puts; drawn = drawn }

-- ---- tickets and steps

-- the tickets that a step calls for: a body has become ready, another worker has it, or more is due to it
abbrev pub ticket_for : Step → List ℕ
ticket_for (Announce i r) = if r == 0 then i ∷ [] else []
ticket_for (Claim i r) = if r == 0 then [] else i ∷ []
ticket_for (Look i r) = []
ticket_for (Settle i k r) = if nat_lt k r then i ∷ [] else []
ticket_for (Free i) = []

abbrev pub tickets_for : List Step → List ℕ
tickets_for [] = []
tickets_for (e ∷ es) = ticket_for e ++ tickets_for es

-- the places that were announced, in order
abbrev pub note_of : Step → List ℕ
note_of (Announce i r) = i ∷ []
note_of (Claim i r) = []
note_of (Look i r) = []
note_of (Settle i k r) = []
note_of (Free i) = []

abbrev pub noted : List Step → List ℕ
noted [] = []
noted (e ∷ es) = note_of e ++ noted es

-- the places that are a body's, of so many bodies
abbrev pub places_in : ℕ → List ℕ → List ℕ
places_in bodies [] = []
places_in bodies (p ∷ ps) = if nat_lt p bodies then p ∷ places_in bodies ps else places_in bodies ps

-- A turn of the body i: another seat has it; or it is claimed, what is due is looked at, settled whole, and it goes
-- back. It is to have a ticket again in the first case, and where more became due.
abbrev pub IsTurn : ℕ → List Step → List Step → Bool → Type 0
IsTurn i old new again = (new ≡ old ++ Claim i 1 ∷ []) × (again ≡ true)
    ⊎ ((due read : ℕ) × (new ≡ old ++ Claim i 0 ∷ [] ++ Look i due ∷ [] ++ Settle i due read ∷ [] ++ Free i ∷ []) × (due ≤ read) × (again ≡ nat_lt due read))

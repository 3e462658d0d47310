-- How a play ends, told by its record.
use Rattle.std.specs.Prelude.{◌≡◌, ◌≢◌, ℕ, ◌+◌, ◌-◌, ◌<◌, ◌≤◌, ◌==◌, ◌&&◌, ◌⊎◌, nat_lt, Bool, true, false, if◌then◌else◌, List, [], ◌∷◌, ◌++◌, length, count_by, None}
use Rattle.std.specs.List.{list_any}
use Rattle.caf_types.specs.Limits.{latest_stamp}
use Rattle.caf_message.specs.declared.envelope.Taken.{Taken}
use Rattle.caf_message.specs.Envelope.{outside}
use Rattle.caf_message.specs.Outside.{outside_envelope}
use Rattle.caf_actor.specs.declared.snapshot.Snapshot.{Snapshot}
use Rattle.caf_actor.specs.Record.{Machine, Kept, machine_of, ends, heard, latest, when, untaken, handled, IsLegal, IsComplete}
use Rattle.caf_driver.specs.Driver.{DriverState, record_in, IsDriven, HasLegalRecord, Waits, IsFirstSpent, IsAllHeard}
use Rattle.caf_kinds.specs.Kinds.{kind_rules}
use Rattle.caf_kinds.specs.declared.kind.Kind.{Kind}
use Rattle.caf_kinds.specs.declared.script.Step.{Step}
use Rattle.caf_kinds.specs.declared.script.Step.TheVariants as step
use Rattle.caf_driver.specs.declared.drive.DriveEnd.{DriveEnd}
use Rattle.caf_driver.specs.declared.drive.DriveEnd.TheVariants as drives
use Rattle.caf_actor.specs.Record.{IsAtRest}
use Rattle.caf_play.specs.declared.played.PlayEnd.{PlayEnd}
use Rattle.caf_play.specs.declared.played.PlayEnd.TheVariants as play

-- ---- the script

unfoldable pub is_tick : Step → Bool
is_tick step.Tick = true
is_tick _ = false

-- how many ticks it has, also behind steps that are never played
abbrev pub ticks_of : List Step → ℕ
ticks_of script = count_by is_tick script

-- ---- the record

abbrev pub machine : Machine (Snapshot Kind)
machine = machine_of kind_rules

-- a tick or Stop that was sent and not taken, which no record shows: so many notices were sent, with so many ticks
abbrev pub sent_notice : ℕ → ℕ → Kept (Snapshot Kind) → List Taken
sent_notice ticks sent k = if nat_lt (length (heard (k.journal 0)) + 1) sent then outside_envelope ticks (sent - 1) (latest machine k.places (ends machine k)) ∷ [] else []

-- what waits to be taken
abbrev pub waiting_at : ℕ → ℕ → Kept (Snapshot Kind) → ℕ → ℕ → List Taken
waiting_at ticks sent k a b = untaken machine k a b ++ when ((outside == a) && (0 == b)) (sent_notice ticks sent k)

-- the place has something to take, and the last stamp, or what waits for it has
pub record IsSpentAt (ticks sent : ℕ) (k : Kept (Snapshot Kind)) (p : ℕ) : Type 0 where
  pub place : p < k.places
  pub waits : (a : ℕ) × (waiting_at ticks sent k a p ≢ [])
  pub last : ((ends machine k p).stamp ≡ latest_stamp) ⊎ ((a : ℕ) × (list_any (λ e. e.stamp == latest_stamp) (waiting_at ticks sent k a p) ≡ true))

-- ---- ends

-- legal, of a run in which so many of the script's ticks were sent
abbrev pub IsLegalWithin : ℕ → Kept (Snapshot Kind) → Type 0
IsLegalWithin all k = (ticks : ℕ) × ((ticks ≤ all) × IsLegal machine ticks k)

-- something waits, Stop wasn't sent, and the budget is spent
pub record IsOverBudget (all budget : ℕ) (k : Kept (Snapshot Kind)) : Type 0 where
  pub ticks : ℕ
  pub few : ticks ≤ all
  pub legal : IsLegal machine ticks k
  pub unstopped : k.cut ≡ None
  pub waits : (a : ℕ) × (b : ℕ) × (waiting_at ticks (ticks + 1) k a b ≢ [])
  pub spent : budget ≤ handled machine k

-- the place is the least that is spent; and before the first tick the budget wasn't
pub record IsExhausted (all budget : ℕ) (k : Kept (Snapshot Kind)) (p : ℕ) : Type 0 where
  pub ticks : ℕ
  pub few : ticks ≤ all
  pub legal : IsLegal machine ticks k
  pub sent : ℕ
  -- all that was sent is Start and these ticks, or all ticks of the script and Stop too
  pub notices : (sent ≡ ticks + 1) ⊎ ((ticks ≡ all) × (sent ≡ all + 2))
  pub spent : IsSpentAt ticks sent k p
  pub first : (q : ℕ) → q < p → IsSpentAt ticks sent k q → ⊥
  pub early : sent ≡ 1 → handled machine k < budget

-- all ticks and Stop were taken
pub record IsDone (all : ℕ) (k : Kept (Snapshot Kind)) : Type 0 where
  pub complete : IsComplete machine all k
  pub heard : length (heard (k.journal 0)) ≡ all + 1

-- the end is the one that the record calls for
abbrev pub EndsAs : ℕ → ℕ → Kept (Snapshot Kind) → PlayEnd → Type 0
EndsAs all budget k play.Done = IsDone all k
EndsAs all budget k play.Budget = IsOverBudget all budget k
EndsAs all budget k (play.Exhausted p) = IsExhausted all budget k p

-- ---- the driver on the way

abbrev pub StandsSomewhere : DriverState Kind → Type 0
StandsSomewhere d = (start : ℕ → Snapshot Kind) × IsDriven kind_rules start d

-- a tick or Stop may be played, after so many notices
pub record IsResting (sent : ℕ) (d : DriverState Kind) : Type 0 where
  pub spoken : d.spoken ≡ sent
  pub some : 0 < sent
  pub unstopped : d.has_stopped ≡ false
  pub none : (a b : ℕ) → d.waiting a b ≡ []

-- a drive ended so, after so many notices
abbrev pub DroveTo : (ℕ → Snapshot Kind) → ℕ → DriverState Kind → DriveEnd → Type 0
DroveTo start budget d drives.Rest = IsAtRest machine (record_in start d) × IsAllHeard d
DroveTo start budget d drives.Budget = Waits d × (budget ≤ handled machine (record_in start d))
DroveTo start budget d (drives.Exhausted p) = IsFirstSpent d.actors d.waiting p × (d.spoken ≡ 1 → handled machine (record_in start d) < budget)

pub record HasDriven (budget sent : ℕ) (start : ℕ → Snapshot Kind) (d : DriverState Kind) (end : DriveEnd) : Type 0 where
  pub driven : IsDriven kind_rules start d
  pub legal : HasLegalRecord kind_rules start d
  pub spoken : d.spoken ≡ sent
  pub unstopped : d.has_stopped ≡ false
  pub so : DroveTo start budget d end

-- the play is over
pub record HasEnded (all budget : ℕ) (start : ℕ → Snapshot Kind) (d : DriverState Kind) (end : PlayEnd) : Type 0 where
  pub legal : HasLegalRecord kind_rules start d
  pub some : 0 < d.spoken
  pub so : EndsAs all budget (record_in start d) end

-- a drive that ended so ends the play before Stop
abbrev pub IsEarlyEnd : DriveEnd → PlayEnd → Type 0
IsEarlyEnd drives.Rest end = ⊥
IsEarlyEnd drives.Budget end = end ≡ play.Budget
IsEarlyEnd (drives.Exhausted p) end = end ≡ play.Exhausted p

-- A script: which steps it plays, and what it sends then.
use Rattle.std.specs.Prelude.{◌≡◌, ℕ, ◌-◌, ◌==◌, nat_lt, Bool, true, false, not, if◌then◌else◌, List, [], ◌∷◌, ◌++◌, length, flat_map, slice_get, slice_set, Option, Some, None}
use Rattle.std.specs.List.{list_any}
use Rattle.std.specs.Option.{option_map}
use Rattle.caf_types.specs.declared.shape.TypeId.{TypeId}
use Rattle.caf_actor.specs.Numbers.{one_more}
use Rattle.caf_actor.specs.PlainOutput.{PlainOutput}
use Rattle.caf_script.specs.Step.{Step, Ask, Tick, sent, expects, waits_for}
use Rattle.caf_script.specs.Reply.{Reply, Unsent, Open, is_open, spelled_in, reply_of}
use Rattle.caf_script.specs.declared.step.Wait.{Wait}
use Rattle.caf_script.specs.declared.step.Wait.TheVariants as wait
use Rattle.caf_script.specs.declared.script.Script.{Script}

-- no step
abbrev pub no_script : Script
no_script = record { plan = []; expected = []; replies = []; ticks = 0; is_over = false }

-- one step more
abbrev pub planned : Script → Step → Script
planned s step = record s { plan = s.plan ++ step ∷ []; replies = s.replies ++ Unsent ∷ [] }

-- ---- playing steps

-- one of its requests waits
abbrev pub waits : Script → Bool
waits s = list_any is_open s.replies

-- what a step waits for has come
abbrev pub is_met : Script → Wait → Bool
is_met s wait.Nothing = true
is_met s wait.Replies = not (waits s)
is_met s wait.Tick = nat_lt 0 s.ticks

-- the next step can be played
abbrev pub is_next_met : Script → Option Wait → Bool
is_next_met s None = false
is_next_met s (Some w) = is_met s w

abbrev pub can_play : Script → Bool
can_play s = is_next_met s (option_map waits_for (slice_get s.plan 0))

-- a request is open from then on
abbrev pub replies_after : Script → Step → List Reply
replies_after s (Ask o types) = slice_set s.replies (length s.expected) Open
replies_after s _ = s.replies

-- a tick is used
abbrev pub ticks_after : Script → Step → ℕ
ticks_after s Tick = s.ticks - 1
ticks_after s _ = s.ticks

-- behind a step that was played
abbrev pub behind : Script → Step → List Step → Script
behind s step rest = record s { plan = rest; expected = s.expected ++ expects step ∷ []; replies = replies_after s step; ticks = ticks_after s step }

-- the steps are played in order, up to the first that has to wait, behind what was sent
abbrev pub play : List Step → Script → List PlainOutput → Script × List PlainOutput
play [] s out = (s, out)
play (step ∷ rest) s out = if is_met s (waits_for step) then play rest (behind s step rest) (out ++ sent step) else (s, out)

abbrev pub Played : Type 0
Played = Script × List PlainOutput

-- nothing is played once it is over
abbrev pub goes_on : Script → Played
goes_on s = if s.is_over then (s, []) else play s.plan s []

-- what is left of a plan: the steps before it are gone
abbrev pub IsLeft : Script → Script → Type 0
IsLeft s after = (steps : List Step) × (s.plan ≡ steps ++ after.plan)

-- ---- inputs

-- the step whose request has that tag: tags count from 1
abbrev pub step_of : ℕ → Option ℕ
step_of tag = if tag == 0 then None else Some (tag - 1)

abbrev pub resolved_at : Script → Option ℕ → Reply → Script
resolved_at s None reply = s
resolved_at s (Some step) reply = record s { replies = slice_set s.replies step reply }

abbrev pub resolved : Script → ℕ → Reply → Script
resolved s tag reply = resolved_at s (step_of tag) reply

-- what content means as the answer to a step
abbrev pub answer_to : Option (List TypeId) → List ℕ → Reply
answer_to (Some types) words = reply_of (spelled_in types words)
answer_to None words = reply_of None

abbrev pub answered_at : Script → Option ℕ → List ℕ → Script
answered_at s None words = s
answered_at s (Some step) words = resolved_at s (Some step) (answer_to (slice_get s.expected step) words)

-- the request with that tag was answered by content
abbrev pub answered : Script → ℕ → List ℕ → Script
answered s tag words = answered_at s (step_of tag) words

-- a tick has come; their number stops at 2^64 - 1
abbrev pub ticked : Script → Script
ticked s = record s { ticks = one_more s.ticks }

-- no step is played from then on
abbrev pub ended : Script → Script
ended s = record s { is_over = true }

-- ---- what holds of every script

-- these steps were played, and these outputs are what they send
pub record HasPlayed (s : Script) (after : Played) : Type 0 where
  pub steps : List Step
  pub plan : s.plan ≡ steps ++ after.0.plan
  pub outputs : after.1 ≡ flat_map sent steps

abbrev pub PlaysInOrder : Type 0
PlaysInOrder = (s : Script) → HasPlayed s (goes_on s)

abbrev pub GoesAsFarAsItCan : Type 0
GoesAsFarAsItCan = (s : Script) → s.is_over ≡ false → can_play (goes_on s).0 ≡ false

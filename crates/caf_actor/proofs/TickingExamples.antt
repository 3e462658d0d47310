-- Actors at ticks, and children, computed from the definitions.
use Rattle.std.proofs.Common.{◌≡◌, ℕ, ◌++◌, Bool, true, false, List, [], ◌∷◌, Option, Some, None, refl}
use Rattle.caf_types.specs.declared.notice.Notice.TheVariants as notice
use Rattle.caf_types.specs.declared.notice.Priority.TheVariants.{Normal}
use Rattle.caf_types.specs.declared.reason.Reason.{Reason}
use Rattle.caf_types.specs.declared.reason.Reason.TheVariants as reason
use Rattle.caf_types.specs.declared.sec.Sec.TheVariants as sec
use Rattle.caf_message.specs.declared.envelope.Taken.{Taken}
use Rattle.caf_message.specs.declared.envelope.Plain.TheVariants as «plain»
use Rattle.caf_message.specs.Envelope.{no_request}
use Rattle.caf_response.specs.declared.pending.Mode.TheVariants as mode
use Rattle.caf_actor.specs.declared.snapshot.Snapshot.{Snapshot}
use Rattle.caf_actor.specs.PlainInput.{PlainInput, Start, Content, Failed, Tick}
use Rattle.caf_actor.specs.PlainOutput as output
use Rattle.caf_actor.specs.PlainReaction.{PlainReaction}
use Rattle.caf_actor.specs.PlainReaction as answer
use Rattle.caf_actor.specs.PlainPost.{PlainPost}
use Rattle.caf_actor.specs.Clock.{next_tick, due_after}
use Rattle.caf_actor.specs.Rules.{Rules}
use Rattle.caf_actor.specs.Snapshot.{opening, vacant}
use Rattle.caf_actor.specs.Drain.{batch_of}
use Rattle.caf_actor.proofs.ExampleActors.{text, text_types, with_text, asked, told, answered, noticed, notified}

-- ---- an actor with two requests within ticks, a delayed message and a child

pub record Timer : Type 0 where
  pub place : ℕ
  pub heard : List PlainInput
  -- it quits where a request fails
  pub quits : Bool

abbrev opens : PlainReaction
opens = record {
  outputs = output.Within 3 0 Normal mode.Multiplexed 7 text_types (text 97)
      ∷ output.Within 2 0 Normal mode.Multiplexed 8 text_types (text 98)
      ∷ output.Delay 0 0 Normal (text 99)
      ∷ output.Spawn 5 ∷ output.Spawn 5 ∷ output.Spawn 6 ∷ [];
  answer = answer.Nothing;
  quit = None;
}

abbrev silent : Option Reason → PlainReaction
silent quit = record { outputs = []; answer = answer.Nothing; quit = quit }

abbrev leaves : Bool → Option Reason
leaves true = Some reason.Failed
leaves false = None

abbrev reacts : Timer → PlainInput → PlainReaction
reacts s Start = opens
reacts s (Failed tag why) = silent (leaves s.quits)
reacts s _ = silent None

abbrev rules : Rules Timer
rules = record {
  place = λ s. s.place;
  interface = λ s. with_text;
  peers = λ s. 0 ∷ [];
  reserve = λ s. 5 ∷ [];
  skips = λ s ids. false;
  delegates = λ s ids. false;
  next = λ s i. record { place = s.place; heard = s.heard ++ i ∷ []; quits = s.quits };
  reaction = reacts;
}

abbrev timer : ℕ → Bool → Timer
timer place quits = record { place = place; heard = []; quits = quits }

abbrev next : Snapshot Timer → List Taken → Snapshot Timer
next s batch = (batch_of rules s batch).snapshot

abbrev posts : Snapshot Timer → List Taken → List PlainPost
posts s batch = (batch_of rules s batch).posts

abbrev started : Bool → Snapshot Timer
started quits = next (opening rules 1 (timer 1 quits) 0) (noticed 0 0 notice.Start ∷ [])

abbrev ticked : Snapshot Timer → Snapshot Timer
ticked s = next s (noticed 0 0 (notice.Tick 0) ∷ [])

abbrev in_tick : Snapshot Timer → List PlainPost
in_tick s = posts s (noticed 0 0 (notice.Tick 0) ∷ [])

-- a second Spawn of the place, and one of a place that is no child's, are dropped
pub begins_once : posts (opening rules 1 (timer 1 false) 0) (noticed 0 0 notice.Start ∷ [])
    ≡ record { to = 0; envelope = record { sender = 1; seq = 0; mid = record { requester = 1; number = 1; response = false }; priority = Normal; stamp = 2; body = «plain».Content (text 97) } }
    ∷ record { to = 0; envelope = record { sender = 1; seq = 1; mid = record { requester = 1; number = 2; response = false }; priority = Normal; stamp = 2; body = «plain».Content (text 98) } }
    ∷ notified 5 0 (notice.Begin 1)
    ∷ []
begins_once = refl

-- no ticks count as one
pub sends_at_its_tick : in_tick (started false)
    ≡ record { to = 0; envelope = record { sender = 1; seq = 2; mid = no_request 1; priority = Normal; stamp = 3; body = «plain».Content (text 99) } } ∷ []
sends_at_its_tick = refl

pub sends_it_once : in_tick (ticked (started false)) ≡ []
sends_it_once = refl

-- by due count
pub fails_in_order : (ticked (ticked (ticked (started false)))).behavior.heard ≡ Start ∷ Failed 8 sec.RequestTimeout ∷ Failed 7 sec.RequestTimeout ∷ []
fails_in_order = refl

-- the response to a request whose time was over is dropped, and the time of an answered one never comes
abbrev response : ℕ → Taken
response n = record { sender = 0; seq = 0; mid = record { requester = 1; number = n; response = true }; priority = Normal; stamp = 1; body = «plain».Failure sec.Failed }

pub late_is_dropped : (next (ticked (ticked (started false))) (response 2 ∷ [])).behavior.heard ≡ Start ∷ Failed 8 sec.RequestTimeout ∷ []
late_is_dropped = refl

pub answered_has_time : (ticked (ticked (ticked (next (started false) (response 2 ∷ []))))).behavior.heard ≡ Start ∷ Failed 8 sec.Failed ∷ Failed 7 sec.RequestTimeout ∷ []
answered_has_time = refl

-- a quit at the first of them leaves the rest out, also at later ticks
pub quit_leaves_the_rest : (ticked (ticked (ticked (started true)))).behavior.heard ≡ Start ∷ Failed 8 sec.RequestTimeout ∷ []
quit_leaves_the_rest = refl

-- an actor that quit sends nothing later
pub quit_gives_up_delays : in_tick (next (started false) (noticed 0 0 (notice.Exit 0 reason.Kill) ∷ [])) ≡ []
quit_gives_up_delays = refl

-- place 0 hears of the tick
pub place_0_hears : (ticked (opening rules 0 (timer 0 false) 0)).behavior.heard ≡ Tick ∷ []
place_0_hears = refl

pub others_do_not : (ticked (opening rules 1 (timer 1 false) 0)).behavior.heard ≡ []
others_do_not = refl

-- ---- counts of ticks

pub ticks_stop : next_tick 9223372036854775808 ≡ 9223372036854775808
ticks_stop = refl

-- what is due later then never comes
pub due_beyond : due_after 9223372036854775808 1 ≡ 9223372036854775809
due_beyond = refl

-- ---- a child

abbrev child : Snapshot Timer
child = vacant rules 1 (timer 1 false) 0

-- it keeps content until it begins, and then handles it in the same batch
pub keeps_content : (next child (told 0 (text 97) ∷ [])).behavior.heard ≡ []
keeps_content = refl

pub begins : (next child (told 0 (text 97) ∷ noticed 2 0 (notice.Begin 2) ∷ [])).behavior.heard
    ≡ Content (record { sender = 0; mid = no_request 0; priority = Normal }) (text 97) ∷ []
begins = refl

-- it handles notices, and beginning twice is beginning once
pub handles_notices : (next child (noticed 2 0 (notice.Tick 2) ∷ [])).clock ≡ 1
handles_notices = refl

pub begins_twice : next (next child (noticed 2 0 (notice.Begin 2) ∷ [])) (noticed 2 1 (notice.Begin 2) ∷ [])
    ≡ record (next child (noticed 2 0 (notice.Begin 2) ∷ [])) { stamp = 3 }
begins_twice = refl

-- one that was never started quits by an exit notice
pub quits_unstarted : (next child (told 0 (text 97) ∷ noticed 0 0 (notice.Exit 0 reason.Kill) ∷ [])).quit ≡ Some reason.Kill
quits_unstarted = refl

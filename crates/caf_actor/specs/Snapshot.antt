-- One actor between two envelopes.
use Rattle.std.specs.Prelude.{ℕ, ◌+◌, Bool, true, false, List, [], length, None}
use Rattle.caf_mailbox.specs.Caches.{nothing_cached}
use Rattle.caf_response.specs.Pending.{no_requests}
use Rattle.caf_response.specs.Delays.{no_delays}
use Rattle.caf_observe.specs.Observers.{no_observers}
use Rattle.caf_actor.specs.declared.snapshot.Snapshot.{Snapshot}
use Rattle.caf_actor.specs.Numbers.{no_numbers}
use Rattle.caf_actor.specs.Rules.{Rules}
use Rattle.caf_actor.specs.PlainPost.{PlainPost}

-- ---- an actor that has taken nothing yet

abbrev pub fresh : {S : Type 0} → Rules S → Bool → ℕ → S → ℕ → Snapshot S
fresh rules has_begun place behavior stamp = record {
  place = place;
  behavior = behavior;
  stamp = stamp;
  has_begun = has_begun;
  unstarted = rules.reserve behavior;
  caches = nothing_cached;
  pending = no_requests;
  holds = [];
  observers = no_observers;
  clock = 0;
  delays = no_delays;
  quit = None;
  numbers = no_numbers;
}

abbrev pub opening : {S : Type 0} → Rules S → ℕ → S → ℕ → Snapshot S
opening rules = fresh rules true

-- it is a child that nobody has started
abbrev pub vacant : {S : Type 0} → Rules S → ℕ → S → ℕ → Snapshot S
vacant rules = fresh rules false

-- ---- envelopes in it

-- how many envelopes are cached
abbrev pub cached : {S : Type 0} → Snapshot S → ℕ
cached s = length s.caches.urgent + length s.caches.normal

-- ---- what handling leads to

-- a snapshot, and what was posted on the way to it
pub record Handled (S : Type 0) : Type 0 where
  pub snapshot : Snapshot S
  pub posts : List PlainPost

abbrev pub so_far : {S : Type 0} → Snapshot S → List PlainPost → Handled S
so_far snapshot posts = record { snapshot = snapshot; posts = posts }

-- the same posts, with another snapshot
abbrev pub with_snapshot : {S : Type 0} → Handled S → Snapshot S → Handled S
with_snapshot t s = record t { snapshot = s }

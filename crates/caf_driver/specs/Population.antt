-- All actors of a run with what waits for them, as a driver keeps them between two batches.
use Rattle.std.specs.Prelude.{◌≡◌, ℕ, ◌+◌, ◌<◌, ◌≤◌, ◌==◌, min, max, nat_lt, IsTrue, true, false, List, [], ◌∷◌, ◌++◌, length, slice_get, slice_set, Option, Some}
use Rattle.std.specs.List.{AllByRecursion}
use Rattle.caf_types.specs.Limits.{places}
use Rattle.caf_types.specs.ShapeTree.{ShapeTree}
use Rattle.caf_message.specs.declared.envelope.Taken.{Taken}
use Rattle.caf_message.specs.Entries.{TableEntries, entry_shape}
use Rattle.caf_message.specs.Envelope.{EnvelopeFits}
use Rattle.caf_actor.specs.Actor.{ActorState, IsAtWork, CachesFit, DelaysFit, add_handled}
use Rattle.caf_actor.specs.Drain.{batch_of, stamp_due, left_in_batch}
use Rattle.caf_actor.specs.Leads.{StaysWithin, LeadsWithin, GoesWithin, PostFits}
use Rattle.caf_actor.specs.PlainPost.{PlainPost}
use Rattle.caf_actor.specs.Record.{machine_of, to_place, when}
use Rattle.caf_actor.specs.Rules.{Rules}
use Rattle.caf_driver.specs.Mail.{Waiting, waiting_in, IsMail}

pub record PopulationSeen (S : Type 0) : Type 0 where
  -- by place
  pub actors : List (ActorState S)
  pub mail : Waiting
  -- the greatest stamp of the actors
  pub latest : ℕ
  -- how many envelopes left their lists; it stops at 2^64 - 1
  pub handled : ℕ

-- one of `n` places
abbrev pub IsPlace : ℕ → ℕ → Type 0
IsPlace n p = IsTrue (nat_lt p n)

-- ---- one actor

-- the actor of the place isn't broken; all contents in it fit the needed entries, it knows places alone,
-- and nothing in its lists is eligible
pub record IsReady {S : Type 0} (valid : S → Type 0) (rules : Rules S) (entries : TableEntries) (n p : ℕ) (a : ActorState S) : Type 0 where
  pub whole : a.is_broken ≡ false
  pub work : IsAtWork valid rules a
  pub place : a.snapshot.place ≡ p
  pub known : StaysWithin (IsPlace n) rules a.snapshot
  pub caches : CachesFit (entry_shape entries) a.snapshot.caches
  pub delays : DelaysFit (entry_shape entries) a.snapshot.delays
  pub idle : (machine_of rules).is_idle a.snapshot ≡ true

-- ---- one envelope

-- its content fits, it leads to places alone, and its stamp is none to come
pub record IsSound (shape_of : ℕ → Option ShapeTree) (n latest : ℕ) (e : Taken) : Type 0 where
  pub fits : EnvelopeFits shape_of e
  pub leads : LeadsWithin (IsPlace n) e
  pub stamp : e.stamp ≤ latest

-- ---- all of them

abbrev pub greatest_of : {S : Type 0} → List (ActorState S) → ℕ
greatest_of [] = 0
greatest_of (a ∷ others) = max a.snapshot.stamp (greatest_of others)

abbrev pub handled_by : {S : Type 0} → List (ActorState S) → ℕ
handled_by [] = 0
handled_by (a ∷ others) = a.handled + handled_by others

pub record IsPopulation {S : Type 0} (valid : S → Type 0) (rules : Rules S) (entries : TableEntries) (p : PopulationSeen S) : Type 0 where
  pub some : 0 < length p.actors
  pub few : length p.actors ≤ places
  pub ready : (i : ℕ) (a : ActorState S) → slice_get p.actors i ≡ Some a → IsReady valid rules entries (length p.actors) i a
  pub mail : IsMail p.mail
  pub boxes : length p.mail.arrivals ≡ length p.actors
  pub sound : (a b : ℕ) → AllByRecursion (IsSound (entry_shape entries) (length p.actors) p.latest) (waiting_in p.mail a b)
  pub latest : p.latest ≡ greatest_of p.actors
  pub handled : p.handled ≡ min (handled_by p.actors) 18446744073709551615

-- ---- a batch

-- the actor after a batch
pub record HasPlayed {S : Type 0} (rules : Rules S) (es : List Taken) (old new : ActorState S) : Type 0 where
  pub snapshot : new.snapshot ≡ (batch_of rules old.snapshot es).snapshot
  pub journal : new.journal ≡ old.journal ++ record { stamp = stamp_due old.snapshot.stamp es; taken = es } ∷ []
  pub handled : new.handled ≡ add_handled old.handled (left_in_batch rules old.snapshot es)

-- the batch left an actor that is ready, and posts that go to places
pub record HasMade {S : Type 0} (valid : S → Type 0) (rules : Rules S) (entries : TableEntries) (es : List Taken) (before after : ActorState S) (posts : List PlainPost) (stamp left : ℕ) : Type 0 where
  pub played : HasPlayed rules es before after
  pub same_posts : posts ≡ (batch_of rules before.snapshot es).posts
  pub same_stamp : stamp ≡ after.snapshot.stamp
  pub more : left + before.handled ≡ after.handled
  pub ready : (n p : ℕ) → IsReady valid rules entries n p before → AllByRecursion (LeadsWithin (IsPlace n)) es → IsReady valid rules entries n p after
  pub goes : (n p : ℕ) → IsReady valid rules entries n p before → AllByRecursion (LeadsWithin (IsPlace n)) es → AllByRecursion (GoesWithin (IsPlace n)) posts
  pub fits : (n p : ℕ) → IsReady valid rules entries n p before → AllByRecursion (PostFits (entry_shape entries)) posts

-- the actor of the place took the batch, and what it posted waits where it goes
pub record HasTaken {S : Type 0} (rules : Rules S) (place : ℕ) (es : List Taken) (old new : PopulationSeen S) : Type 0 where
  pub before : ActorState S
  pub at : slice_get old.actors place ≡ Some before
  pub after : ActorState S
  pub actors : new.actors ≡ slice_set old.actors place after
  pub played : HasPlayed rules es before after
  pub waiting : (a b : ℕ) → waiting_in new.mail a b ≡ waiting_in old.mail a b ++ when (a == place) (to_place b (batch_of rules before.snapshot es).posts)

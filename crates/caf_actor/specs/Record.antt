-- Records of what places took: which are legal, which are at rest, which are complete.
use Rattle.std.specs.Prelude.{◌≡◌, ◌≢◌, ℕ, zero, suc, ◌+◌, ◌-◌, ◌≤◌, ◌<◌, ◌==◌, ◌&&◌, max, not, nat_lt, Bool, true, false, if◌then◌else◌, List, [], ◌∷◌, ◌++◌, length, drop, filter, slice_get, Contains, Option, Some, None, is_some, option_map}
use Rattle.std.specs.List.{AllByRecursion, list_any}
use Rattle.caf_types.specs.declared.reason.Reason.TheVariants.{Kill}
use Rattle.caf_message.specs.declared.envelope.Taken.{Taken}
use Rattle.caf_message.specs.Envelope.{outside, start_envelope}
use Rattle.caf_message.specs.Outside.{outside_envelope, is_rest_notice, holds_stop}
use Rattle.caf_mailbox.specs.Caches.{has_eligible}
use Rattle.caf_actor.specs.declared.journal.TakenBatch.{TakenBatch}
use Rattle.caf_actor.specs.declared.snapshot.Snapshot.{Snapshot}
use Rattle.caf_actor.specs.PlainInput.{PlainInput}
use Rattle.caf_actor.specs.PlainInput as input
use Rattle.caf_actor.specs.PlainOutput.{PlainOutput}
use Rattle.caf_actor.specs.PlainOutput as output
use Rattle.caf_actor.specs.PlainReaction.{PlainReaction}
use Rattle.caf_actor.specs.PlainPost.{PlainPost}
use Rattle.caf_actor.specs.Rules.{Rules, fed, MayBeFed, output_targets, answer_targets}
use Rattle.caf_actor.specs.Snapshot.{Handled, cached}
use Rattle.caf_actor.specs.Eligibility.{is_eligible}
use Rattle.caf_actor.specs.Drain.{batch_of, stamp_due}

-- ---- one actor, as records see it

pub record Machine (S : Type 0) : Type 0 where
  -- where a batch leads, and what is posted on the way
  pub play : S → List Taken → S × List PlainPost
  -- the stamp that a batch gets
  pub due : S → List Taken → ℕ
  -- no cached envelope is eligible
  pub is_idle : S → Bool
  -- the stamp of the last batch
  pub stamp_of : S → ℕ
  -- how many envelopes are cached
  pub cached_in : S → ℕ

abbrev pub play_of : {S : Type 0} → Handled S → Snapshot S × List PlainPost
play_of t = (t.snapshot, t.posts)

-- the machine of a behaviour
abbrev pub machine_of : {S : Type 0} → Rules S → Machine (Snapshot S)
machine_of rules = record {
  play = λ s batch. play_of (batch_of rules s batch);
  due = λ s batch. stamp_due s.stamp batch;
  is_idle = λ s. not (has_eligible (is_eligible rules s) s.caches);
  stamp_of = λ s. s.stamp;
  cached_in = cached;
}

-- ---- lists of envelopes

abbrev pub IsPrefix : List Taken → List Taken → Type 0
IsPrefix xs ys = (rest : List Taken) × (xs ++ rest ≡ ys)

-- what came from a place
abbrev pub from_place : ℕ → List Taken → List Taken
from_place a [] = []
from_place a (e ∷ es) = if e.sender == a then e ∷ from_place a es else from_place a es

-- what goes to a place
abbrev pub to_place : ℕ → List PlainPost → List Taken
to_place b [] = []
to_place b (p ∷ ps) = if p.to == b then p.envelope ∷ to_place b ps else to_place b ps

-- all that was taken, in order
abbrev pub joined : List TakenBatch → List Taken
joined [] = []
joined (b ∷ bs) = b.taken ++ joined bs

-- ---- one place: a start, and the batches taken from there on

-- where it stands after these batches
abbrev pub after : {S : Type 0} → Machine S → S → List TakenBatch → S
after m s [] = s
after m s (b ∷ bs) = after m (m.play s b.taken).0 bs

-- what it posted meanwhile
abbrev pub posted : {S : Type 0} → Machine S → S → List TakenBatch → List PlainPost
posted m s [] = []
posted m s (b ∷ bs) = (m.play s b.taken).1 ++ posted m (m.play s b.taken).0 bs

-- what it sent to a place
abbrev pub sent : {S : Type 0} → Machine S → S → List TakenBatch → ℕ → List Taken
sent m s bs b = to_place b (posted m s bs)

-- each batch has the stamp that it is due
abbrev pub AreStamped : {S : Type 0} → Machine S → S → List TakenBatch → Type 0
AreStamped m s [] = Unit {0}
AreStamped m s (b ∷ bs) = (b.stamp ≡ m.due s b.taken) × AreStamped m (m.play s b.taken).0 bs

-- ---- all places: their snapshots, and what waits for them

-- the greatest stamp of the places' snapshots
abbrev pub latest : {S : Type 0} → Machine S → ℕ → (ℕ → S) → ℕ
latest m zero at = 0
latest m (suc n) at = max (latest m n at) (m.stamp_of (at n))

-- no envelope is untaken, and no cached one is eligible
pub record IsStill {S : Type 0} (m : Machine S) (places : ℕ) (at : ℕ → S) (waiting : ℕ → ℕ → List Taken) : Type 0 where
  pub taken : (a b : ℕ) → waiting a b ≡ []
  pub idle : (p : ℕ) → p < places → m.is_idle (at p) ≡ true

-- ---- records

-- where each place stood at first, what it took, and the number of place 0's batch that holds Stop
pub record Kept (S : Type 0) : Type 0 where
  pub places : ℕ
  pub start : ℕ → S
  pub journal : ℕ → List TakenBatch
  pub cut : Option ℕ

-- where the places end
abbrev pub ends : {S : Type 0} → Machine S → Kept S → ℕ → S
ends m k p = after m (k.start p) (k.journal p)

-- the batches with lesser stamps; Stop isn't among them
abbrev pub before : {S : Type 0} → Kept S → ℕ → Kept S
before k stamp = record {
  places = k.places;
  start = k.start;
  journal = λ p. filter (λ b. nat_lt b.stamp stamp) (k.journal p);
  cut = None;
}

-- ---- the outside

abbrev pub when : Bool → List Taken → List Taken
when true xs = xs
when false xs = []

-- the batch holds a tick or Stop of the outside
abbrev pub holds_notice : TakenBatch → Bool
holds_notice b = list_any is_rest_notice b.taken

-- those of the batches that do
abbrev pub heard : List TakenBatch → List TakenBatch
heard bs = filter holds_notice bs

-- to a place 0 that took these batches the outside has sent Start, and the ticks and Stop that are taken
abbrev pub told : List TakenBatch → List Taken
told bs = start_envelope ∷ joined (heard bs)

-- to other places it sends nothing
abbrev pub outside_sends : {S : Type 0} → Kept S → ℕ → ℕ → List Taken
outside_sends k a b = when ((outside == a) && (0 == b)) (told (k.journal 0))

-- ---- each pair of a sender and a receiver

abbrev pub taken_by : {S : Type 0} → Kept S → ℕ → ℕ → List Taken
taken_by k a b = from_place a (joined (k.journal b))

abbrev pub sent_by : {S : Type 0} → Machine S → Kept S → ℕ → ℕ → List Taken
sent_by m k a b = outside_sends k a b ++ sent m (k.start a) (k.journal a) b

-- what was sent and not taken
abbrev pub untaken : {S : Type 0} → Machine S → Kept S → ℕ → ℕ → List Taken
untaken m k a b = drop (length (taken_by k a b)) (sent_by m k a b)

abbrev pub IsAtRest : {S : Type 0} → Machine S → Kept S → Type 0
IsAtRest m k = IsStill m k.places (ends m k) (untaken m k)

-- ---- legal records

-- the number of the first batch that holds Stop
abbrev pub cut_in : List TakenBatch → Option ℕ
cut_in [] = None
cut_in (b ∷ bs) = if holds_stop b.taken then Some 0 else option_map (λ n. suc n) (cut_in bs)

-- the greatest stamp that there was before this one
abbrev pub latest_before : {S : Type 0} → Machine S → Kept S → ℕ → ℕ
latest_before m k stamp = latest m k.places (ends m (before k stamp))

-- the batch is the outside's notice number `n`, alone, after all was at rest
pub record IsNotice {S : Type 0} (m : Machine S) (ticks : ℕ) (k : Kept S) (n : ℕ) (b : TakenBatch) : Type 0 where
  pub number : n ≤ ticks + 1
  pub alone : b.taken ≡ outside_envelope ticks n (latest_before m k b.stamp) ∷ []
  pub rest : IsAtRest m (before k b.stamp)

-- the batches are its notices from number `n` on
abbrev pub AreNotices : {S : Type 0} → Machine S → ℕ → Kept S → ℕ → List TakenBatch → Type 0
AreNotices m ticks k n [] = Unit {0}
AreNotices m ticks k n (b ∷ bs) = IsNotice m ticks k n b × AreNotices m ticks k (n + 1) bs

pub record IsLegal {S : Type 0} (m : Machine S) (ticks : ℕ) (k : Kept S) : Type 0 where
  -- places have numbers below the outside's, and no other place took anything
  pub places : k.places ≤ outside
  pub inside : (p : ℕ) → k.places ≤ p → k.journal p ≡ []
  -- no batch is empty, and each has the stamp that it is due
  pub filled : (p : ℕ) → AllByRecursion (λ b. b.taken ≢ []) (k.journal p)
  pub stamped : (p : ℕ) → AreStamped m (k.start p) (k.journal p)
  -- what b took from a is the first part of what a sent to b
  pub pairs : (a b : ℕ) → IsPrefix (taken_by k a b) (sent_by m k a b)
  -- place 0 took the ticks and Stop in their order, each alone and at rest
  pub notices : AreNotices m ticks k 1 (heard (k.journal 0))
  -- Stop stands where the cut says
  pub cut : k.cut ≡ cut_in (k.journal 0)

pub record IsComplete {S : Type 0} (m : Machine S) (ticks : ℕ) (k : Kept S) : Type 0 where
  pub legal : IsLegal m ticks k
  pub cut : is_some k.cut ≡ true
  pub rest : IsAtRest m k

-- ---- how many envelopes left the lists

abbrev pub handled_at : {S : Type 0} → Machine S → Kept S → ℕ → ℕ
handled_at m k p = m.cached_in (k.start p) + length (joined (k.journal p)) - m.cached_in (ends m k p)

abbrev pub sum_below : ℕ → (ℕ → ℕ) → ℕ
sum_below zero f = 0
sum_below (suc n) f = sum_below n f + f n

abbrev pub handled : {S : Type 0} → Machine S → Kept S → ℕ
handled m k = sum_below k.places (handled_at m k)

-- ---- a closer at place 0

-- what comes after Stop: responses, failures and down notices
abbrev pub ComesLate : PlainInput → Type 0
ComesLate (input.Response tag words) = Unit {0}
ComesLate (input.Failed tag sec) = Unit {0}
ComesLate (input.Down from why) = Unit {0}
ComesLate _ = ⊥

-- an exit with `kill` to each of `n` places, the first of them `p`
abbrev pub kills : ℕ → ℕ → List PlainOutput
kills p zero = []
kills p (suc n) = output.Exit p Kill ∷ kills (p + 1) n

pub record SendsNothingTo (place : ℕ) (r : PlainReaction) : Type 0 where
  pub outputs : AllByRecursion (λ o. AllByRecursion (λ to. to ≢ place) (output_targets o)) r.outputs
  pub answer : AllByRecursion (λ to. to ≢ place) (answer_targets r.answer)

-- whatever place 0 was given before, and with the behaviours that the places start with
pub record IsCloser {S : Type 0} (rules : Rules S) (places : ℕ) (start : ℕ → S) : Type 0 where
  pub interface : rules.interface (start 0) ≡ []
  pub unnamed : (p : ℕ) → p < places → Contains (rules.peers (start p) ++ rules.reserve (start p)) 0 → ⊥
  pub alone : (is : List PlainInput) (i : PlainInput) → MayBeFed rules (start 0) (is ++ i ∷ [])
      → SendsNothingTo 0 (rules.reaction (fed rules (start 0) is) i)
  pub stays : (is : List PlainInput) (i : PlainInput) → MayBeFed rules (start 0) (is ++ i ∷ [])
      → (rules.reaction (fed rules (start 0) is) i).quit ≡ None
  pub kills : (is : List PlainInput) → MayBeFed rules (start 0) is
      → (rules.reaction (fed rules (start 0) is) input.Stop).outputs ≡ kills 1 (places - 1)
  pub silent : (is late : List PlainInput) (i : PlainInput) → MayBeFed rules (start 0) is → AllByRecursion ComesLate late → ComesLate i
      → (rules.reaction (fed rules (start 0) (is ++ input.Stop ∷ late)) i).outputs ≡ []

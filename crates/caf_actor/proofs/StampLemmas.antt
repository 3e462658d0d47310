-- What a batch posts has its stamp and its place, and what it takes has lesser stamps.
use Rattle.std.proofs.Common.{◌≡◌, ℕ, ◌+◌, ◌≤◌, ◌<◌, max, List, [], ◌∷◌, Option, Some, None, refl, subst, arith}
use Rattle.std.specs.List.{AllByRecursion}
use Rattle.caf_types.specs.declared.notice.Mid.{Mid}
use Rattle.caf_types.specs.declared.notice.Priority.{Priority}
use Rattle.caf_message.specs.declared.envelope.Plain.{Plain}
use Rattle.caf_message.specs.declared.envelope.Taken.{Taken}
use Rattle.caf_mailbox.specs.Caches.{CachedLists, next_of}
use Rattle.caf_mailbox.proofs.NextLemmas.{all_append}
use Rattle.caf_actor.specs.declared.snapshot.Snapshot.{Snapshot}
use Rattle.caf_actor.specs.Rules.{Rules}
use Rattle.caf_actor.specs.PlainPost.{PlainPost}
use Rattle.caf_actor.specs.Snapshot.{Handled, so_far, with_snapshot, cached}
use Rattle.caf_actor.specs.Eligibility.{is_eligible, with_caches, next_envelope}
use Rattle.caf_actor.specs.Sending.{post, posting}
use Rattle.caf_actor.specs.Handling.{handle_one}
use Rattle.caf_actor.specs.Drain.{greatest_stamp, stamp_due, with_batch, drain_for, batch_of}
use Rattle.caf_actor.proofs.SimpleLemmas.{Keeps, KeepsToo, on_one}
use Rattle.caf_actor.proofs.DrainLemmas.{drain_keeps}

-- ---- what is posted

abbrev pub IsPostOf : ℕ → ℕ → PlainPost → Type 0
IsPostOf place stamp p = (p.envelope.sender ≡ place) × (p.envelope.stamp ≡ stamp)

-- the snapshot is of this place, with this stamp, and so is each post
abbrev pub StandsAt : {S : Type 0} → ℕ → ℕ → Handled S → Type 0
StandsAt place stamp t = (t.snapshot.place ≡ place) × ((t.snapshot.stamp ≡ stamp) × AllByRecursion (IsPostOf place stamp) t.posts)

module _ {S : Type 0} (rules : Rules S) (place stamp : ℕ) where
  one_more : (t : Handled S) (to : ℕ) (mid : Mid) (priority : Priority) (body : Plain) → StandsAt place stamp t → StandsAt place stamp (post t to mid priority body)
  one_more t to mid priority body h =
      (h.0, (h.1.0, all_append (IsPostOf place stamp) t.posts (posting t.snapshot to mid priority body ∷ []) h.1.1 ((h.0, h.1.0), tt)))

  stands_keeps : Keeps {S = S} (StandsAt place stamp)
  stands_keeps = record {
    on_post = one_more;
    on_holds = λ t holds h. h;
    on_issue = λ t mode tag expected h. h;
    on_issue_within = λ t ticks mode tag expected h. h;
    on_observers = λ t observers h. h;
    on_unstarted = λ t unstarted h. h;
    on_delays = λ t delays h. h;
    on_emptied = λ t why h. h;
  }

  stands_keeps_too : KeepsToo {S = S} rules (StandsAt place stamp)
  stands_keeps_too = record {
    on_behavior = λ t i may h. h;
    on_resolved = λ t number found e h. h;
    on_expired = λ t found e h. h;
    on_begun = λ t h. h;
    on_clock = λ t h. h;
  }

  handled_stands : (t : Handled S) (e : Taken) → StandsAt place stamp t → StandsAt place stamp (handle_one rules t e)
  handled_stands = on_one rules (StandsAt place stamp) stands_keeps stands_keeps_too

  -- an envelope that leaves the lists changes neither place nor stamp
  next_stands : (t : Handled S) (p : Taken × Snapshot S) → next_envelope rules t.snapshot ≡ Some p → StandsAt place stamp t → StandsAt place stamp (with_snapshot t p.1)
  next_stands t p q h = go (next_of (is_eligible rules t.snapshot) t.snapshot.caches) q
    where
      go : (r : Option (Taken × CachedLists)) → with_caches t.snapshot r ≡ Some p → StandsAt place stamp (with_snapshot t p.1)
      go None e = cc
      go (Some r) e =
          let same : (r.0, record t.snapshot { caches = r.1 }) ≡ p = cc in
          subst (λ (u : Taken × Snapshot S). StandsAt place stamp (with_snapshot t u.1)) same h

  drained_stands : (n : ℕ) (t : Handled S) → StandsAt place stamp t → StandsAt place stamp (drain_for rules n t)
  drained_stands = drain_keeps rules (StandsAt place stamp) (λ t p q h. handled_stands (with_snapshot t p.1) p.0 (next_stands t p q h))

module _ {S : Type 0} (rules : Rules S) where
  batch_stands : (s : Snapshot S) (batch : List Taken) → StandsAt s.place (stamp_due s.stamp batch) (batch_of rules s batch)
  batch_stands s batch = drained_stands rules s.place (stamp_due s.stamp batch) (cached (with_batch s batch)) (so_far (with_batch s batch) []) (refl, (refl, tt))

  pub place_stays : (s : Snapshot S) (batch : List Taken) → (batch_of rules s batch).snapshot.place ≡ s.place
  place_stays s batch = (batch_stands s batch).0

  pub stamp_after : (s : Snapshot S) (batch : List Taken) → (batch_of rules s batch).snapshot.stamp ≡ stamp_due s.stamp batch
  stamp_after s batch = (batch_stands s batch).1.0

  pub posts_of_place : (s : Snapshot S) (batch : List Taken) → AllByRecursion (IsPostOf s.place (stamp_due s.stamp batch)) (batch_of rules s batch).posts
  posts_of_place s batch = (batch_stands s batch).1.1

-- ---- what is taken

pub greatest_from : (stamp : ℕ) (batch : List Taken) → stamp ≤ greatest_stamp stamp batch
greatest_from stamp [] = omega arith
greatest_from stamp (e ∷ es) = let h = greatest_from (max stamp e.stamp) es in omega arith

taken_within : (stamp : ℕ) (batch : List Taken) → AllByRecursion (λ e. e.stamp ≤ greatest_stamp stamp batch) batch
taken_within stamp [] = tt
taken_within stamp (e ∷ es) = let h = greatest_from (max stamp e.stamp) es in (omega arith, taken_within (max stamp e.stamp) es)

less : (top : ℕ) (batch : List Taken) → AllByRecursion (λ (e : Taken). e.stamp ≤ top) batch → AllByRecursion (λ (e : Taken). e.stamp < top + 1) batch
less top [] h = tt
less top (e ∷ es) h = let first = h.0 in (omega arith, less top es h.1)

-- the batch's stamp is greater than that of the actor, and than those of what it takes
pub stamp_rises : (stamp : ℕ) (batch : List Taken) → stamp < stamp_due stamp batch
stamp_rises stamp batch = let h = greatest_from stamp batch in omega arith

pub taken_before : (stamp : ℕ) (batch : List Taken) → AllByRecursion (λ e. e.stamp < stamp_due stamp batch) batch
taken_before stamp batch = less (greatest_stamp stamp batch) batch (taken_within stamp batch)

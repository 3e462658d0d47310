-- A request has no more due counts than it waits.
use Rattle.std.proofs.Common.{◌≡◌, ℕ, ◌+◌, ◌≤◌, ◌∙◌, ap, subst, ◌==◌, Bool, true, false, List, [], count_by, Option, Some, None, refl, arith}
use Rattle.caf_types.specs.declared.shape.TypeId.{TypeId}
use Rattle.caf_mailbox.specs.Caches.{CachedLists, next_of}
use Rattle.caf_message.specs.declared.envelope.Taken.{Taken}
use Rattle.caf_response.specs.declared.pending.Mode.{Mode}
use Rattle.caf_response.specs.declared.pending.Mode.TheVariants.{Awaited, Multiplexed}
use Rattle.caf_response.specs.declared.pending.Waiting.{Waiting}
use Rattle.caf_response.specs.Pending as pending
use Rattle.caf_response.specs.Pending.{WaitingRequests, issued, issued_within, resolved, without_due, resolved_where, due_by, expired, waiting_count}
use Rattle.caf_response.proofs.DueLemmas.{count-insert, count-without, count-ended}
use Rattle.caf_actor.specs.declared.snapshot.Snapshot.{Snapshot}
use Rattle.caf_actor.specs.Clock.{due_after}
use Rattle.caf_actor.specs.Rules.{Rules}
use Rattle.caf_actor.specs.Snapshot.{Handled, so_far, with_snapshot, cached}
use Rattle.caf_actor.specs.Eligibility.{is_eligible, with_caches, next_envelope}
use Rattle.caf_actor.specs.Drain.{with_batch, batch_of}
use Rattle.caf_actor.proofs.SimpleLemmas as simple
use Rattle.caf_actor.proofs.DrainLemmas.{drain_keeps}
use Rattle.caf_carriers.proofs.CountLemmas.{one, same_number}
use Rattle.caf_carriers.proofs.WaitingLemmas.{put_issued, put_within, TookNumber, took_number}

abbrev pub DueWaits : ℕ → WaitingRequests → Type 0
DueWaits n r = pending.due_count r n ≤ waiting_count r n

due_issued : (n : ℕ) (r : WaitingRequests) (mode : Mode) (tag : ℕ) (expected : List TypeId) → (issued r mode tag expected).due ≡ r.due
due_issued n r Awaited tag expected = refl
due_issued n r Multiplexed tag expected = refl

on_issued : (n : ℕ) (r : WaitingRequests) (mode : Mode) (tag : ℕ) (expected : List TypeId) → DueWaits n r → DueWaits n (issued r mode tag expected)
on_issued n r mode tag expected h =
    let count = (put_issued n r mode tag expected).count in
    let same : pending.due_count (issued r mode tag expected) n ≡ pending.due_count r n = ap (count_by (pending.is_due n)) (due_issued n r mode tag expected) in
    omega arith

on_within : (n : ℕ) (r : WaitingRequests) (mode : Mode) (tag : ℕ) (expected : List TypeId) (due : ℕ) → DueWaits n r → DueWaits n (issued_within r mode tag expected due)
on_within n r mode tag expected due h =
    let count = (put_within n r mode tag expected due).count in
    let more = count-insert n (due, r.next) r.due in
    omega arith

on_resolved : (n : ℕ) (r : WaitingRequests) (number : ℕ) (found : Waiting × WaitingRequests) → resolved r number ≡ Some found → DueWaits n r → DueWaits n found.1
on_resolved n r number found q h = go (number == n) refl
  where
    took : TookNumber n number r found
    took = took_number n r number found q

    left : pending.due_count found.1 n ≡ count_by (pending.is_due n) (without_due number r.due)
    left = ap (count_by (pending.is_due n)) took.due_is

    out : waiting_count r n ≡ one (number == n) + waiting_count found.1 n
    out = took.out.count ∙ ap (λ (m : ℕ). one (m == n) + waiting_count found.1 n) took.number_is

    go : (b : Bool) → (number == n) ≡ b → DueWaits n found.1
    go true e =
        let here : number ≡ n = same_number number n e in
        let none : count_by (pending.is_due n) (without_due number r.due) ≡ 0 = subst (λ (m : ℕ). count_by (pending.is_due m) (without_due number r.due) ≡ 0) here (count-ended number r.due) in
        let is = left in
        omega arith
    go false e =
        let fewer = count-without number n r.due in
        let is = left in
        let count : waiting_count r n ≡ 0 + waiting_count found.1 n = out ∙ ap (λ (b : Bool). one b + waiting_count found.1 n) e in
        omega arith

on_expired : (n : ℕ) (r : WaitingRequests) (now : ℕ) (found : Waiting × WaitingRequests) → expired r now ≡ Some found → DueWaits n r → DueWaits n found.1
on_expired n r now found q h = go (due_by now r.due) q
  where
    go : (number : Option ℕ) → resolved_where r number ≡ Some found → DueWaits n found.1
    go None e = cc
    go (Some number) e = on_resolved n r number found e h

module _ {S : Type 0} (rules : Rules S) (n : ℕ) where
  abbrev Kept : Handled S → Type 0
  Kept t = DueWaits n t.snapshot.pending

  keeps : simple.Keeps {S = S} Kept
  keeps = record {
    on_post = λ t to mid priority body h. h;
    on_holds = λ t holds h. h;
    on_issue = λ t mode tag expected h. on_issued n t.snapshot.pending mode tag expected h;
    on_issue_within = λ t ticks mode tag expected h. on_within n t.snapshot.pending mode tag expected (due_after t.snapshot.clock ticks) h;
    on_observers = λ t observers h. h;
    on_unstarted = λ t unstarted h. h;
    on_delays = λ t delays h. h;
    on_emptied = λ t why h. omega arith;
  }

  keeps_too : simple.KeepsToo {S = S} rules Kept
  keeps_too = record {
    on_behavior = λ t i may h. h;
    on_resolved = λ t number found e h. on_resolved n t.snapshot.pending number found e h;
    on_expired = λ t found e h. on_expired n t.snapshot.pending t.snapshot.clock found e h;
    on_begun = λ t h. h;
    on_clock = λ t h. h;
  }

  next_keeps : (t : Handled S) (q : Taken × Snapshot S) → next_envelope rules t.snapshot ≡ Some q → Kept t → Kept (with_snapshot t q.1)
  next_keeps t q e h = go (next_of (is_eligible rules t.snapshot) t.snapshot.caches) e
    where
      go : (r : Option (Taken × CachedLists)) → with_caches t.snapshot r ≡ Some q → Kept (with_snapshot t q.1)
      go None f = cc
      go (Some r) f =
          let same : (r.0, record t.snapshot { caches = r.1 }) ≡ q = cc in
          subst (λ (u : Taken × Snapshot S). Kept (with_snapshot t u.1)) same h

  pub due_waits : (s : Snapshot S) (batch : List Taken) → DueWaits n s.pending → DueWaits n (batch_of rules s batch).snapshot.pending
  due_waits s batch h =
      drain_keeps rules Kept (λ t q e k. simple.on_one rules Kept keeps keeps_too (with_snapshot t q.1) q.0 (next_keeps t q e k)) (cached (with_batch s batch)) (so_far (with_batch s batch) []) h

-- What is kept of a request in every state of a run.
use Rattle.std.specs.Prelude.{◌≡◌, ℕ, ◌+◌, ◌≤◌, None}
use Rattle.caf_response.specs.Pending.{waiting_count}
use Rattle.caf_actor.specs.declared.snapshot.Snapshot.{Snapshot}
use Rattle.caf_actor.specs.Run.{State}
use Rattle.caf_actor.specs.Resolutions.{given_between}
use Rattle.caf_actor.specs.Carriers.{carriers}

-- Request `n` of place `a` was resolved `d` times, `c` times of these by a response. Both sums are at most 1
-- once the request is issued, and 0 before. So a request that waits has one carrier, and one that a response
-- resolved has none: each step that takes a carrier away where nothing else takes its place either resolves the
-- request by a response, or finds that it doesn't wait.
pub record IsCounted {S : Type 0} (a n : ℕ) (s : State (Snapshot S)) (c d : ℕ) : Type 0 where
  pub low : 1 ≤ (s.snapshot a).pending.next
  -- each carrier, and each response that resolved it, is of its one issue
  pub most : carriers a n s + c ≤ given_between 1 (s.snapshot a).pending.next n
  -- while it waits it is carried
  pub cover : waiting_count (s.snapshot a).pending n ≤ carriers a n s
  -- it waits or was resolved, and not both; and it is one of the two until its requester quits
  pub once : waiting_count (s.snapshot a).pending n + d ≤ given_between 1 (s.snapshot a).pending.next n
  pub exact : (s.snapshot a).quit ≡ None → waiting_count (s.snapshot a).pending n + d ≡ given_between 1 (s.snapshot a).pending.next n

-- How many envelopes are cached, and what is left in the lists.
use Rattle.std.proofs.Common.{◌≡◌, ℕ, suc, ◌≤◌, List, Option, Some, None, refl, subst, arith}
use Rattle.std.specs.List.{AllByRecursion}
use Rattle.caf_types.specs.ShapeTree.{ShapeTree}
use Rattle.caf_message.specs.declared.envelope.Taken.{Taken}
use Rattle.caf_message.specs.Envelope.{EnvelopeFits}
use Rattle.caf_mailbox.specs.Caches.{CachedLists, filed, next_of}
use Rattle.caf_mailbox.proofs.NextLemmas.{AllCached, cached_next, all_next, all_filed}
use Rattle.caf_actor.specs.declared.snapshot.Snapshot.{Snapshot}
use Rattle.caf_actor.specs.Rules.{Rules}
use Rattle.caf_actor.specs.Actor.{CachesFit}
use Rattle.caf_actor.specs.Snapshot.{Handled, cached}
use Rattle.caf_actor.specs.Eligibility.{is_eligible, next_envelope}
use Rattle.caf_actor.specs.Handling.{handle_one}
use Rattle.caf_actor.proofs.SimpleLemmas.{Keeps, KeepsToo, on_one}

-- ---- the next envelope

module _ {S : Type 0} (rules : Rules S) where
  pub record LeftSnapshot (P : Taken → Type 0) (s : Snapshot S) (p : Taken × Snapshot S) : Type 0 where
    pub shorter : cached s ≡ suc (cached p.1)
    pub it : AllCached P s.caches → P p.0
    pub others : AllCached P s.caches → AllCached P p.1.caches

  pub left_envelope : (P : Taken → Type 0) (s : Snapshot S) (p : Taken × Snapshot S) → next_envelope rules s ≡ Some p → LeftSnapshot P s p
  left_envelope P s p q = go (next_of (is_eligible rules s) s.caches) refl
    where
      go : (r : Option (Taken × CachedLists)) → next_of (is_eligible rules s) s.caches ≡ r → LeftSnapshot P s p
      go None e = let no : None ≡ Some p = rw e at q in cc
      go (Some r) e =
          let yes : ◌≡◌ {A = Option (Taken × Snapshot S)} (Some (r.0, record s { caches = r.1 })) (Some p) = rw e at q in
          let h : (r.0, record s { caches = r.1 }) ≡ p = cc in
          let test = is_eligible rules s in
          subst (λ u. LeftSnapshot P s u) h (record {
            shorter = cached_next test s.caches r e;
            it = λ all. (all_next test P s.caches r all e).0;
            others = λ all. (all_next test P s.caches r all e).1;
          })

  -- no more is cached than before
  cached_keeps : (n : ℕ) → Keeps {S = S} (λ u. cached u.snapshot ≤ n)
  cached_keeps n = record {
    on_post = λ t to mid priority body h. h;
    on_holds = λ t holds h. h;
    on_issue = λ t mode tag expected h. h;
    on_issue_within = λ t ticks mode tag expected h. h;
    on_observers = λ t observers h. h;
    on_unstarted = λ t unstarted h. h;
    on_delays = λ t delays h. h;
    on_emptied = λ t why h. omega arith;
  }

  cached_keeps_too : (n : ℕ) → KeepsToo {S = S} rules (λ u. cached u.snapshot ≤ n)
  cached_keeps_too n = record {
    on_behavior = λ t i may h. h;
    on_resolved = λ t number found e h. h;
    on_expired = λ t found e h. h;
    on_begun = λ t h. h;
    on_clock = λ t h. h;
  }

  pub cached_one : (t : Handled S) (e : Taken) → cached (handle_one rules t e).snapshot ≤ cached t.snapshot
  cached_one t e = on_one rules (λ u. cached u.snapshot ≤ cached t.snapshot) (cached_keeps (cached t.snapshot)) (cached_keeps_too (cached t.snapshot)) t e (omega arith)

  all_keeps : (P : Taken → Type 0) → Keeps {S = S} (λ u. AllCached P u.snapshot.caches)
  all_keeps P = record {
    on_post = λ t to mid priority body h. h;
    on_holds = λ t holds h. h;
    on_issue = λ t mode tag expected h. h;
    on_issue_within = λ t ticks mode tag expected h. h;
    on_observers = λ t observers h. h;
    on_unstarted = λ t unstarted h. h;
    on_delays = λ t delays h. h;
    on_emptied = λ t why h. (tt, tt);
  }

  all_keeps_too : (P : Taken → Type 0) → KeepsToo {S = S} rules (λ u. AllCached P u.snapshot.caches)
  all_keeps_too P = record {
    on_behavior = λ t i may h. h;
    on_resolved = λ t number found e h. h;
    on_expired = λ t found e h. h;
    on_begun = λ t h. h;
    on_clock = λ t h. h;
  }

  pub all_cached_one : (P : Taken → Type 0) (t : Handled S) (e : Taken) → AllCached P t.snapshot.caches → AllCached P (handle_one rules t e).snapshot.caches
  all_cached_one P t e all = on_one rules (λ u. AllCached P u.snapshot.caches) (all_keeps P) (all_keeps_too P) t e all

-- ---- a batch that is filed

pub filed_fit : (shape_of : ℕ → Option ShapeTree) (lists : CachedLists) (batch : List Taken) → CachesFit shape_of lists → AllByRecursion (EnvelopeFits shape_of) batch → CachesFit shape_of (filed lists batch)
filed_fit shape_of lists batch h k =
    let all = all_filed (EnvelopeFits shape_of) lists batch (h.urgent, h.normal) k in
    record { urgent = all.0; normal = all.1 }

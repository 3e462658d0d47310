-- After a batch nothing that is left in an actor's lists is eligible.
use Rattle.std.proofs.Common.{◌≡◌, ℕ, zero, suc, ◌≤◌, Bool, true, false, not, List, [], Option, Some, None, is_some, refl, ap, sym, ◌∙◌, arith}
use Rattle.caf_types.specs.ShapeTree.{ShapeTree}
use Rattle.caf_message.specs.declared.envelope.Taken.{Taken}
use Rattle.caf_mailbox.specs.Caches.{CachedLists, has_eligible, next_of}
use Rattle.caf_mailbox.proofs.CachesLemmas.{some_next}
use Rattle.caf_actor.specs.declared.snapshot.Snapshot.{Snapshot}
use Rattle.caf_actor.specs.Rules.{Rules}
use Rattle.caf_actor.specs.Actor.{CachesFit, DelaysFit}
use Rattle.caf_actor.specs.Snapshot.{Handled, fresh, so_far, with_snapshot, cached}
use Rattle.caf_actor.specs.Eligibility.{is_eligible, with_caches, next_envelope}
use Rattle.caf_actor.specs.Handling.{handle_one}
use Rattle.caf_actor.specs.Drain.{drain_for, with_batch, batch_of}
use Rattle.caf_actor.specs.Record.{machine_of}
use Rattle.caf_actor.proofs.CachedLemmas.{cached_one}
use Rattle.caf_actor.proofs.DrainLemmas.{cached_next}

-- ---- a fresh snapshot

module _ {S : Type 0} (rules : Rules S) (has_begun : Bool) (place : ℕ) (behavior : S) (stamp : ℕ) where
  pub fresh_idle : (machine_of rules).is_idle (fresh rules has_begun place behavior stamp) ≡ true
  fresh_idle = refl

  pub fresh_caches : (shape_of : ℕ → Option ShapeTree) → CachesFit shape_of (fresh rules has_begun place behavior stamp).caches
  fresh_caches shape_of = record { urgent = tt; normal = tt }

  pub fresh_delays : (shape_of : ℕ → Option ShapeTree) → DelaysFit shape_of (fresh rules has_begun place behavior stamp).delays
  fresh_delays shape_of = tt

-- ---- after a batch

module _ {S : Type 0} (rules : Rules S) where
  none_next : (s : Snapshot S) (r : Option (Taken × CachedLists)) → with_caches s r ≡ None → is_some r ≡ false
  none_next s None q = refl
  none_next s (Some p) q = cc

  pub idle_where : (s : Snapshot S) → next_envelope rules s ≡ None → (machine_of rules).is_idle s ≡ true
  idle_where s q =
      let none : has_eligible (is_eligible rules s) s.caches ≡ false = sym (some_next (is_eligible rules s) s.caches) ∙ none_next s (next_of (is_eligible rules s) s.caches) q in
      ap not none

  -- nothing is next where nothing is cached
  empty_next : (s : Snapshot S) → cached s ≡ 0 → (r : Option (Taken × Snapshot S)) → next_envelope rules s ≡ r → next_envelope rules s ≡ None
  empty_next s none None q = q
  empty_next s none (Some p) q = let some : cached s ≡ suc (cached p.1) = cached_next rules s p q in absurd (omega arith)

  -- so many turns as are cached leave nothing that is next
  drained : (n : ℕ) (t : Handled S) → cached t.snapshot ≤ n → next_envelope rules (drain_for rules n t).snapshot ≡ None
  drained zero t le = let none : cached t.snapshot ≡ 0 = omega arith in empty_next t.snapshot none (next_envelope rules t.snapshot) refl
  drained (suc n) t le = go (drained n) (next_envelope rules t.snapshot) refl
    where
      go : ((u : Handled S) → cached u.snapshot ≤ n → next_envelope rules (drain_for rules n u).snapshot ≡ None) → (r : Option (Taken × Snapshot S)) → next_envelope rules t.snapshot ≡ r
          → next_envelope rules (drain_for rules (suc n) t).snapshot ≡ None
      go fewer None q = rw q q
      go fewer (Some p) q =
          let left : cached t.snapshot ≡ suc (cached p.1) = cached_next rules t.snapshot p q in
          let less : cached (handle_one rules (with_snapshot t p.1) p.0).snapshot ≤ cached p.1 = cached_one rules (with_snapshot t p.1) p.0 in
          rw q (fewer (handle_one rules (with_snapshot t p.1) p.0) (omega arith))

  pub drained_idle : (s : Snapshot S) (es : List Taken) → (machine_of rules).is_idle (batch_of rules s es).snapshot ≡ true
  drained_idle s es =
      let all : cached (with_batch s es) ≤ cached (with_batch s es) = omega arith in
      idle_where (batch_of rules s es).snapshot (drained (cached (with_batch s es)) (so_far (with_batch s es) []) all)

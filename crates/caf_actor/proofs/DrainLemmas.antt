-- The drain, one envelope at a time.
use Rattle.std.proofs.Common.{◌≡◌, ℕ, zero, suc, ◌≤◌, List, [], Option, Some, None, refl, arith, ◌∙◌}
use Rattle.std.specs.List.{AllByRecursion}
use Rattle.caf_types.specs.ShapeTree.{ShapeTree}
use Rattle.caf_message.specs.Envelope.{EnvelopeFits}
use Rattle.caf_message.specs.declared.envelope.Taken.{Taken}
use Rattle.caf_actor.specs.declared.snapshot.Snapshot.{Snapshot}
use Rattle.caf_actor.specs.Rules.{Rules}
use Rattle.caf_actor.specs.Snapshot.{Handled, so_far, with_snapshot, cached}
use Rattle.caf_actor.specs.Eligibility.{next_envelope}
use Rattle.caf_actor.specs.Handling.{handle_one}
use Rattle.caf_actor.specs.Actor.{CachesFit}
use Rattle.caf_actor.specs.Drain.{drain_for, drain, with_batch, batch_of}
use Rattle.caf_mailbox.proofs.NextLemmas.{AllCached}
use Rattle.caf_actor.proofs.CachedLemmas.{left_envelope, cached_one, all_cached_one, filed_fit}

module _ {S : Type 0} (rules : Rules S) where
  pub cached_next : (s : Snapshot S) (p : Taken × Snapshot S) → next_envelope rules s ≡ Some p → cached s ≡ suc (cached p.1)
  cached_next s p q = (left_envelope rules (λ e. Unit {0}) s p q).shorter

  -- nothing is next where nothing is cached
  next_empty : (s : Snapshot S) → cached s ≡ 0 → (r : Option (Taken × Snapshot S)) → next_envelope rules s ≡ r → next_envelope rules s ≡ None
  next_empty s none None q = q
  next_empty s none (Some p) q = let some : cached s ≡ suc (cached p.1) = cached_next s p q in absurd (omega arith)

  -- more turns than there are envelopes change nothing
  same_turns : (n m : ℕ) (t : Handled S) → cached t.snapshot ≤ n → cached t.snapshot ≤ m → drain_for rules n t ≡ drain_for rules m t
  same_turns zero zero t h k = refl
  same_turns zero (suc m) t h k =
      let none : cached t.snapshot ≡ 0 = omega arith in
      rw (next_empty t.snapshot none (next_envelope rules t.snapshot) refl) refl
  same_turns (suc n) zero t h k =
      let none : cached t.snapshot ≡ 0 = omega arith in
      rw (next_empty t.snapshot none (next_envelope rules t.snapshot) refl) refl
  same_turns (suc n) (suc m) t h k = go (same_turns n m) (next_envelope rules t.snapshot) refl
    where
      go : ((u : Handled S) → cached u.snapshot ≤ n → cached u.snapshot ≤ m → drain_for rules n u ≡ drain_for rules m u) → (r : Option (Taken × Snapshot S)) → next_envelope rules t.snapshot ≡ r → drain_for rules (suc n) t ≡ drain_for rules (suc m) t
      go fewer None q = rw q refl
      go fewer (Some p) q =
          let left : cached t.snapshot ≡ suc (cached p.1) = cached_next t.snapshot p q in
          let less : cached (handle_one rules (with_snapshot t p.1) p.0).snapshot ≤ cached p.1 = cached_one rules (with_snapshot t p.1) p.0 in
          rw q (fewer (handle_one rules (with_snapshot t p.1) p.0) (omega arith) (omega arith))

  -- ---- the two laws of the drain

  pub drain_rest : (t : Handled S) → next_envelope rules t.snapshot ≡ None → drain rules t ≡ t
  drain_rest t q = same_turns (cached t.snapshot) (suc (cached t.snapshot)) t (omega arith) (omega arith) ∙ rw q refl

  pub drain_step : (t : Handled S) (p : Taken × Snapshot S) → next_envelope rules t.snapshot ≡ Some p → drain rules t ≡ drain rules (handle_one rules (with_snapshot t p.1) p.0)
  drain_step t p q =
      let left : cached t.snapshot ≡ suc (cached p.1) = cached_next t.snapshot p q in
      let less : cached (handle_one rules (with_snapshot t p.1) p.0).snapshot ≤ cached p.1 = cached_one rules (with_snapshot t p.1) p.0 in
      let u : Handled S = handle_one rules (with_snapshot t p.1) p.0 in
      same_turns (cached t.snapshot) (suc (cached p.1)) t (omega arith) (omega arith) ∙ rw q (same_turns (cached p.1) (cached u.snapshot) u less (omega arith))

  -- what each turn keeps, the drain keeps
  pub drain_keeps : (P : Handled S → Type 0) → ((t : Handled S) (p : Taken × Snapshot S) → next_envelope rules t.snapshot ≡ Some p → P t → P (handle_one rules (with_snapshot t p.1) p.0)) → (n : ℕ) (t : Handled S) → P t → P (drain_for rules n t)
  drain_keeps P each zero t h = h
  drain_keeps P each (suc n) t h = go (drain_keeps P each n) (next_envelope rules t.snapshot) refl
    where
      go : ((u : Handled S) → P u → P (drain_for rules n u)) → (r : Option (Taken × Snapshot S)) → next_envelope rules t.snapshot ≡ r → P (drain_for rules (suc n) t)
      go later None q = rw q h
      go later (Some p) q = rw q (later (handle_one rules (with_snapshot t p.1) p.0) (each t p q h))

  -- no more is cached than before
  pub cached_drain : (t : Handled S) → cached (drain rules t).snapshot ≤ cached t.snapshot
  cached_drain t = drain_keeps (λ u. cached u.snapshot ≤ cached t.snapshot) (λ u p q h.
      let left : cached u.snapshot ≡ suc (cached p.1) = cached_next u.snapshot p q in
      let less : cached (handle_one rules (with_snapshot u p.1) p.0).snapshot ≤ cached p.1 = cached_one rules (with_snapshot u p.1) p.0 in
      omega arith) (cached t.snapshot) t (omega arith)

  -- what fits in the lists and in the batch fits in the lists after it
  pub batch_fit : (shape_of : ℕ → Option ShapeTree) (s : Snapshot S) (batch : List Taken) → CachesFit shape_of s.caches → AllByRecursion (EnvelopeFits shape_of) batch → CachesFit shape_of (batch_of rules s batch).snapshot.caches
  batch_fit shape_of s batch h k =
      let filed = filed_fit shape_of s.caches batch h k in
      let t : Handled S = so_far (with_batch s batch) [] in
      let after = drain_keeps (λ u. AllCached (EnvelopeFits shape_of) u.snapshot.caches) (λ u p q all.
      all_cached_one rules (EnvelopeFits shape_of) (with_snapshot u p.1) p.0 ((left_envelope rules (EnvelopeFits shape_of) u.snapshot p q).others all)) (cached t.snapshot) t (filed.urgent, filed.normal) in
      record { urgent = after.0; normal = after.1 }

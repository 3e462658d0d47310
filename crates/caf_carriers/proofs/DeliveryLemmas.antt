-- Complete records are all taken, and none is handled after quitting.
use Rattle.std.proofs.Common.{◌≡◌, ◌≢◌, ◌∙◌, sym, ap, subst, List, [], ◌∷◌, ◌++◌, Option, Some, None, refl}
use Rattle.std.proofs.lemmas.List.{append-nil}
use Rattle.caf_types.specs.declared.reason.Reason.{Reason}
use Rattle.caf_message.specs.declared.envelope.Taken.{Taken}
use Rattle.caf_mailbox.specs.Caches.{CachedLists, next_of}
use Rattle.caf_actor.specs.declared.journal.TakenBatch.{TakenBatch}
use Rattle.caf_actor.specs.declared.snapshot.Snapshot.{Snapshot}
use Rattle.caf_actor.specs.Rules.{Rules}
use Rattle.caf_actor.specs.Snapshot.{Handled, with_snapshot}
use Rattle.caf_actor.specs.Eligibility.{is_eligible, with_caches, next_envelope}
use Rattle.caf_actor.specs.Drain.{drain_for, batch_of}
use Rattle.caf_actor.specs.Record.{Machine, machine_of, IsPrefix, after, ends, taken_by, sent_by}
use Rattle.caf_actor.proofs.DrainLemmas.{drain_keeps}
use Rattle.caf_actor.proofs.QuitLemmas.{Stays, stays_one, none_after_quitting}
use Rattle.caf_record.proofs.BatchLemmas.{drop_prefix, after_append}
use Rattle.caf_carriers.specs.Delivery.{CompleteIsAllTaken, IsAsItQuit, NoneInItsBatch, NoneInLaterBatches, NoneHandledAfterQuitting}

-- ---- messages

pub all_taken : {S : Type 0} (m : Machine S) → CompleteIsAllTaken m
all_taken m ticks k complete a b =
    let pair : IsPrefix (taken_by k a b) (sent_by m k a b) = complete.legal.pairs a b in
    let none : pair.0 ≡ [] = sym (drop_prefix (taken_by k a b) (sent_by m k a b) pair) ∙ complete.rest.taken a b in
    sym (append-nil (taken_by k a b)) ∙ sym (ap (λ es. taken_by k a b ++ es) none) ∙ pair.1

-- ---- quitting

module _ {S : Type 0} (rules : Rules S) where
  next_stays : (b : S) (why : Reason) (t : Handled S) (n : Taken × Snapshot S) → next_envelope rules t.snapshot ≡ Some n → Stays rules b why t → Stays rules b why (with_snapshot t n.1)
  next_stays b why t n e h = go (next_of (is_eligible rules t.snapshot) t.snapshot.caches) e
    where
      go : (r : Option (Taken × CachedLists)) → with_caches t.snapshot r ≡ Some n → Stays rules b why (with_snapshot t n.1)
      go None f = cc
      go (Some r) f =
          let same : (r.0, record t.snapshot { caches = r.1 }) ≡ n = cc in
          subst (λ (u : Taken × Snapshot S). Stays rules b why (with_snapshot t u.1)) same h

  in_its_batch : NoneInItsBatch rules
  in_its_batch t n gone = go t.snapshot.quit refl
    where
      go : (q : Option Reason) → t.snapshot.quit ≡ q → IsAsItQuit t.snapshot (drain_for rules n t).snapshot
      go None e = absurd (gone e)
      go (Some why) e =
          let h : Stays rules t.snapshot.behavior why (drain_for rules n t) =
          drain_keeps rules (Stays rules t.snapshot.behavior why) (λ u q f k. stays_one rules t.snapshot.behavior why (with_snapshot u q.1) q.0 (next_stays t.snapshot.behavior why u q f k)) n t (refl, e) in
          record { behavior = h.0; quit = h.1 ∙ sym e }

  on_batches : (s : Snapshot S) (late : List TakenBatch) → s.quit ≢ None → IsAsItQuit s (after (machine_of rules) s late)
  on_batches s [] gone = record { behavior = refl; quit = refl }
  on_batches s (b ∷ bs) gone =
      let now = none_after_quitting rules s b.taken gone in
      let u : Snapshot S = (batch_of rules s b.taken).snapshot in
      let rest = on_batches u bs (subst (λ (q : Option Reason). q ≢ None) (sym now.quit) gone) in
      record { behavior = rest.behavior ∙ now.behavior; quit = rest.quit ∙ now.quit }

  in_later_batches : NoneInLaterBatches rules
  in_later_batches k p early late e gone =
      let all : after (machine_of rules) (after (machine_of rules) (k.start p) early) late ≡ ends (machine_of rules) k p =
      sym (after_append (machine_of rules) (k.start p) early late) ∙ ap (λ bs. after (machine_of rules) (k.start p) bs) (sym e) in
      subst (λ (u : Snapshot S). IsAsItQuit (after (machine_of rules) (k.start p) early) u) all (on_batches (after (machine_of rules) (k.start p) early) late gone)

  pub none_handled : NoneHandledAfterQuitting rules
  none_handled = (in_its_batch, in_later_batches)

-- An actor stays of its kind, whatever it takes.
use Rattle.std.proofs.Common.{◌≡◌, List, [], ◌∷◌, Option, Some, None, refl, subst, ◌∙◌}
use Rattle.caf_message.specs.declared.envelope.Taken.{Taken}
use Rattle.caf_mailbox.specs.Caches.{CachedLists, next_of}
use Rattle.caf_actor.specs.Drain.{with_batch, batch_of}
use Rattle.caf_actor.specs.Eligibility.{is_eligible, with_caches, next_envelope}
use Rattle.caf_actor.specs.Handling.{handle_one}
use Rattle.caf_actor.specs.PlainInput.{PlainInput}
use Rattle.caf_actor.specs.Record.{machine_of, after}
use Rattle.caf_actor.specs.Snapshot.{Handled, so_far, with_snapshot, cached}
use Rattle.caf_actor.specs.declared.journal.TakenBatch.{TakenBatch}
use Rattle.caf_actor.specs.declared.snapshot.Snapshot.{Snapshot}
use Rattle.caf_actor.proofs.DrainLemmas.{drain_keeps}
use Rattle.caf_actor.proofs.SimpleLemmas.{Keeps, KeepsToo, on_one}
use Rattle.caf_kinds.specs.Kinds.{kind_rules, name_of}
use Rattle.caf_kinds.specs.declared.kind.Kind.{Kind}
use Rattle.caf_kinds.specs.declared.kind.Kind.TheVariants as kind
use Rattle.caf_kinds.specs.declared.setup.KindName.{KindName}

name_next : (b : Kind) (i : PlainInput) → name_of (kind_rules.next b i) ≡ name_of b
name_next (kind.Echo s) i = refl
name_next (kind.Cell s) i = refl
name_next (kind.Calc s) i = refl
name_next (kind.Holder s) i = refl
name_next (kind.Quitter s) i = refl
name_next (kind.Source s) i = refl
name_next (kind.Relay s) i = refl
name_next (kind.Counter s) i = refl
name_next (kind.Lines s) i = refl
name_next (kind.Collector s) i = refl
name_next (kind.Watcher s) i = refl
name_next (kind.Spawner s) i = refl
name_next (kind.Alarm s) i = refl
name_next (kind.Conductor s) i = refl

module _ (n : KindName) where
  abbrev Named : Handled Kind → Type 0
  Named t = name_of t.snapshot.behavior ≡ n

  named_keeps : Keeps {S = Kind} Named
  named_keeps = record {
    on_post = λ t to mid priority body h. h;
    on_holds = λ t holds h. h;
    on_issue = λ t mode tag expected h. h;
    on_issue_within = λ t ticks mode tag expected h. h;
    on_observers = λ t observers h. h;
    on_unstarted = λ t unstarted h. h;
    on_delays = λ t delays h. h;
    on_emptied = λ t why h. h;
  }

  named_keeps_too : KeepsToo {S = Kind} kind_rules Named
  named_keeps_too = record {
    on_behavior = λ t i may h. name_next t.snapshot.behavior i ∙ h;
    on_resolved = λ t number found e h. h;
    on_expired = λ t found e h. h;
    on_begun = λ t h. h;
    on_clock = λ t h. h;
  }

  turn_named : (t : Handled Kind) (p : Taken × Snapshot Kind) → next_envelope kind_rules t.snapshot ≡ Some p → Named t → Named (handle_one kind_rules (with_snapshot t p.1) p.0)
  turn_named t p e h = go (next_of (is_eligible kind_rules t.snapshot) t.snapshot.caches) e
    where
      go : (r : Option (Taken × CachedLists)) → with_caches t.snapshot r ≡ Some p → Named (handle_one kind_rules (with_snapshot t p.1) p.0)
      go None f = cc
      go (Some r) f =
          let same : (r.0, record t.snapshot { caches = r.1 }) ≡ p = cc in
          subst (λ (u : Taken × Snapshot Kind). Named (handle_one kind_rules (with_snapshot t u.1) u.0)) same
          (on_one kind_rules Named named_keeps named_keeps_too (with_snapshot t (record t.snapshot { caches = r.1 })) r.0 h)

  batch_named : (s : Snapshot Kind) (batch : List Taken) → name_of s.behavior ≡ n → name_of (batch_of kind_rules s batch).snapshot.behavior ≡ n
  batch_named s batch h = drain_keeps kind_rules Named turn_named (cached (with_batch s batch)) (so_far (with_batch s batch) []) h

pub after_named : (s : Snapshot Kind) (bs : List TakenBatch) → name_of (after (machine_of kind_rules) s bs).behavior ≡ name_of s.behavior
after_named s [] = refl
after_named s (b ∷ bs) = after_named (batch_of kind_rules s b.taken).snapshot bs ∙ batch_named (name_of s.behavior) s b.taken refl

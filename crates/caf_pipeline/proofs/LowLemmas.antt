-- The stamps of an undisturbed run before Stop are fewer than the envelopes that were taken, so they are low.
use Rattle.std.proofs.Common.{ℕ, ◌+◌, ◌≤◌, ◌<◌, List, length, refl, subst, ap, arith}
use Rattle.caf_message.specs.declared.envelope.Taken.{Taken}
use Rattle.caf_record.proofs.ListLemmas.{all_map}
use Rattle.caf_record.proofs.MergeLemmas.{merge_runs}
use Rattle.caf_record.proofs.StampedLemmas.{has_stamps}
use Rattle.caf_actor.specs.Merge.{batches_in}
use Rattle.caf_actor.specs.Record.{Machine, machine_of, ends, joined, untaken}
use Rattle.caf_actor.specs.Run.{opening_state}
use Rattle.caf_actor.specs.declared.journal.TakenBatch.{TakenBatch}
use Rattle.caf_actor.specs.declared.snapshot.Snapshot.{Snapshot}
use Rattle.caf_carriers.proofs.CountLemmas.{sum_same}
use Rattle.caf_kinds.specs.Kinds.{kind_rules}
use Rattle.caf_kinds.specs.declared.kind.Kind.{Kind}
use Rattle.caf_pipeline.specs.Numbers.{enough}
use Rattle.caf_pipeline.specs.Stamps.{UndisturbedStampsAreLow}
use Rattle.caf_pipeline.proofs.NumberLemmas.{few_taken, no_stamps}
use Rattle.caf_pipeline.proofs.StampLemmas.{latest_low, run_low, first_low, all_filled, turns_few, AreAtMost}

pub stamps_are_low : UndisturbedStampsAreLow
stamps_are_low setups script files ticks k ts is =
    let m : Machine (Snapshot Kind) = machine_of kind_rules in
    let most = enough setups script files in
    let merged = merge_runs m (has_stamps kind_rules) ticks k is.legal ts is.merge in
    let end = run_low kind_rules k.places ticks 0 (opening_state k.places k.start) ts merged.0 (first_low kind_rules k.places k.start (no_stamps setups script files ticks k ts is)) in
    let turns = turns_few k.places ts (all_filled m k.places ticks (opening_state k.places k.start) ts refl merged.0) in
    let same = sum_same k.places (λ p. length (joined (batches_in p ts))) (λ p. length (joined (k.journal p))) (λ p less. ap (λ (bs : List TakenBatch). length (joined bs)) (is.merge.parts p)) in
    let few = few_taken setups script files ticks k ts is in
    let short : length ts < most = omega (arith, turns, same, few) in
    let at : (p : ℕ) → p < k.places → m.stamp_of (ends m k p) ≤ length ts =
    λ p less. (let one = end.at p less in let is_end = ap m.stamp_of (merged.1.0.snapshots p) in omega (arith, one, is_end)) in
    record {
      places = λ p less. (let one = at p less in omega (arith, one, short));
      greatest = (let one = latest_low kind_rules k.places (length ts) k.places (ends m k) at in omega (arith, one, short));
      untaken = λ a b.
          all_map (λ (e : Taken). e.stamp ≤ 0 + length ts) (λ (e : Taken). e.stamp < most) (λ e low. omega (arith, low, short)) (untaken m k a b)
          (subst (AreAtMost (0 + length ts)) (merged.1.0.waiting a b) (end.waiting a b));
    }

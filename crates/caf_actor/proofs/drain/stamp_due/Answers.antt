use Rattle.std.proofs.Common.{ℕ, ◌+◌, ◌<◌, ◌^◌, List, drop, map, sym, ap, ◌∙◌, subst, arith}
use Rattle.std.specs.List.{AllByRecursion}
use Rattle.caf_message.specs.declared.envelope.Taken.{Taken}
use Rattle.caf_message.specs.declared.envelope.Envelope.{Envelope}
use Rattle.caf_message.specs.Envelope.{plain_envelope}
use Rattle.caf_actor.specs.Drain.{greatest_stamp}
use Rattle.caf_actor.proofs.ListLemmas.{next_item}
use Rattle.caf_actor.proofs.drain.stamp_due.Goals as goal

pub loop-envelope-preserved : goal.loop-envelope-preserved
loop-envelope-preserved c =
    let batch : List Envelope = c.args.batch.now in
    let i = c.loop-envelope.envelope-index in
    let e = next_item batch i c.envelope-item.result c.loop-envelope-test.true c.envelope-item.is in
    let lows = subst (λ (es : List Envelope). AllByRecursion (λ (e : Taken). e.stamp < 2 ^ 40) (map plain_envelope es)) e c.loop-envelope.invariant.lows in
    record {
      same = ap (λ (m : ℕ). greatest_stamp m (map plain_envelope (drop (i + 1) batch))) c.max-greatest.ensures
          ∙ ap (λ (es : List Envelope). greatest_stamp c.loop-envelope.greatest (map plain_envelope es)) (sym e) ∙ c.loop-envelope.invariant.same;
      low = let first = lows.0 in let greatest = c.max-greatest.ensures in let low = c.loop-envelope.invariant.low in omega arith;
      lows = lows.1;
    }

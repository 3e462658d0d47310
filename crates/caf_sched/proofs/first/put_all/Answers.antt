use Rattle.std.proofs.Common.{rules, ◌<◌, length, arith}
use Rattle.caf_sched.proofs.StepLemmas.{places_more}
use Rattle.caf_sched.proofs.first.put_all.Goals as goal

pub loop-place-preserved : goal.loop-place-preserved
loop-place-preserved g c =
    let within : c.loop-place.place-index < length c.args.places.now = search rules in (
      search rules,
      places_more c.args.turns.now.slots c.loop-place.place-index c.args.places.now c.args.hand.now.puts c.loop-place.hand.puts c.put_first.new.hand.puts within c.loop-place.invariant.1 c.in_ok-put_first.ensures.puts,
      λ few. places_more c.args.turns.now.slots c.loop-place.place-index c.args.places.now _ _ _ within (c.loop-place.invariant.2 (let grown = c.put_first.ensures.count in omega arith)) (c.put_first.ensures.noted few),
    )

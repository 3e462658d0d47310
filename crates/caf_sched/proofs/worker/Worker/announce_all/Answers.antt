use Rattle.std.proofs.Common.{rules, ◌<◌, length, arith}
use Rattle.caf_sched.proofs.StepLemmas.{keeps_more, places_more}
use Rattle.caf_sched.proofs.worker.Worker.announce_all.Goals as goal

pub loop-place-preserved : goal.loop-place-preserved
loop-place-preserved g c =
    let within : c.loop-place.place-index < length c.args.places.now = search rules in (
      search rules,
      λ given e. keeps_more given _ _ _ _ _ (c.loop-place.invariant.1 given e) c.in_ok-put_where.ensures.put c.announce-is_first.ensures.tickets,
      search rules,
      λ few. places_more c.args.turns.now.slots c.loop-place.place-index c.args.places.now _ _ _ within (c.loop-place.invariant.3 (let grown = c.announce-is_first.ensures.count in omega arith)) (c.announce-is_first.ensures.noted few),
    )

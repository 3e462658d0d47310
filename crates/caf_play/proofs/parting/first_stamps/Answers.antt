use Rattle.caf_play.proofs.PartLemmas.{one_more, zero_behind}
use Rattle.caf_play.proofs.parting.first_stamps.Goals as goal

pub loop-place-preserved : goal.loop-place-preserved
loop-place-preserved c = record {
  count = one_more c.loop-place.place c.loop-place.stamps c.push.new.self c.in_ok-push.ensures.added c.loop-place.invariant.count;
  zeros = zero_behind c.loop-place.stamps c.push.new.self c.in_ok-push.ensures.added c.loop-place.invariant.zeros;
}

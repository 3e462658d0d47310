use Rattle.std.proofs.Common.{ℕ, ◌+◌, ◌<◌, ◌≤◌, Ok, refl, ap, subst, arith}
use Rattle.caf_driver.specs.Driving.{state_of}
use Rattle.caf_play.specs.Ending.{IsResting}
use Rattle.caf_play.proofs.EndLemmas.{ended_early}
use Rattle.caf_play.proofs.playing.run.Goals as goal

pub returns-in-Some : goal.returns-in-Some
returns-in-Some g c = λ start driven.
    let some : 0 < 1 = omega arith in
    let few : 1 ≤ c.args.ticks + 1 = omega arith in
    ended_early start c.args.ticks c.args.budget 1 some few (state_of c.start.new.driver) c.in_ok-begun.begun c.in-Some.end (c.in_ok-begun.ensures.driven start driven) c.in-Some.ensures.some

pub returns-in-Some-early_end : goal.returns-in-Some-early_end
returns-in-Some-early_end g c = λ start driven.
    let at = c.loop-ticked.invariant.resting.spoken in
    let within : c.loop-ticked.ticked < c.args.ticks = c.loop-ticked-test.true in
    let some : 0 < c.loop-ticked.driver.spoken + 1 = omega arith in
    let few : c.loop-ticked.driver.spoken + 1 ≤ c.args.ticks + 1 = omega (arith, at, within) in
    ended_early start c.args.ticks c.args.budget (c.loop-ticked.driver.spoken + 1) some few (state_of c.tick.new.driver) c.in_ok-gone.gone c.in-Some-early_end.end
    (c.in_ok-gone.ensures.driven start (c.loop-ticked.invariant.led start driven)) c.in-Some-early_end.ensures.some

pub loop-ticked-preserved : goal.loop-ticked-preserved
loop-ticked-preserved g c =
    let rests = ap Ok (c.in_default-early_end.ensures.none refl) in
    let at = c.loop-ticked.invariant.resting.spoken in
    record {
      resting = subst (λ (n : ℕ). IsResting (n + 1) (state_of c.tick.new.driver)) at (c.in_ok-gone.ensures.resting rests);
      stands = (c.loop-ticked.invariant.stands.0, (c.in_ok-gone.ensures.driven c.loop-ticked.invariant.stands.0 c.loop-ticked.invariant.stands.1).driven);
      led = λ start driven. (c.in_ok-gone.ensures.driven start (c.loop-ticked.invariant.led start driven)).driven;
    }

use Rattle.std.proofs.Common.{refl, ap, ◌∙◌, inl, ◌+◌, ◌<◌, arith}
use Rattle.caf_driver.specs.Driving.{state_of}
use Rattle.caf_play.proofs.DriveLemmas.{no_budget, drove_all, rests}
use Rattle.caf_play.proofs.playing.start.Goals as goal

pub returns-clause-driven : goal.returns-clause-driven
returns-clause-driven g c = λ start driven.
    let said = c.in_ok-play.ensures.played in
    let led = c.in_ok-play.ensures.driven start driven in
    drove_all start c.args.budget c.args.budget 1 (state_of c.drive.new.self) (no_budget c.args.budget) (inl refl) c.drive.result _ _ (said.spoken ∙ ap (λ n. n + 1) c.requires.fresh) said.stopped
    (c.drive.ensures.driven start led) (c.drive.ensures.legal start led) (c.drive.ensures.ends start led) c.drive.ensures.notices

pub returns-clause-resting : goal.returns-clause-resting
returns-clause-resting g c = λ is.
    let some : 0 < 1 = omega arith in
    rests c.requires.stands.0 c.args.budget 1 (state_of c.drive.new.self) c.drive.result some (returns-clause-driven g c c.requires.stands.0 c.requires.stands.1) is

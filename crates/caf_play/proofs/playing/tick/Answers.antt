use Rattle.std.proofs.Common.{◌≤◌, ◌<◌, ◌+◌, refl, ◌∙◌, inl, inr, arith, rules}
use Rattle.caf_driver.specs.Driving.{state_of}
use Rattle.caf_play.proofs.DriveLemmas.{no_budget, drove_all, rests, stepped_notices}
use Rattle.caf_play.proofs.playing.tick.Goals as goal

pub returns-in-Some-clause-driven : goal.returns-in-Some-clause-driven
returns-in-Some-clause-driven g c = λ start driven.
    let said = c.in_ok-play.ensures.played in
    let led = c.in_ok-step.ensures.driven start (c.in_ok-play.ensures.driven start driven) in
    let same = stepped_notices _ _ _ _ c.in_ok-step.ensures.stepped c.in_ok-step.ensures.kept in
    drove_all start c.args.budget c.args.budget (c.args.driver.now.spoken + 1) (state_of c.drive.new.self) (no_budget c.args.budget) (inl refl) c.drive.result _ _ (same.0 ∙ said.spoken) (same.1 ∙ said.stopped)
    (c.drive.ensures.driven start led) (c.drive.ensures.legal start led) (c.drive.ensures.ends start led) c.drive.ensures.notices

pub returns-in-Some-clause-resting : goal.returns-in-Some-clause-resting
returns-in-Some-clause-resting g c = λ is.
    let some : 0 < c.args.driver.now.spoken + 1 = omega arith in
    rests c.requires.stands.0 c.args.budget (c.args.driver.now.spoken + 1) (state_of c.drive.new.self) c.drive.result some (returns-in-Some-clause-driven g c c.requires.stands.0 c.requires.stands.1) is

pub returns-clause-driven : goal.returns-clause-driven
returns-clause-driven g c = λ start driven.
    let said = c.in_ok-play.ensures.played in
    let led = c.in_ok-step.ensures.driven start (c.in_ok-play.ensures.driven start driven) in
    let same = stepped_notices _ _ _ _ c.in_ok-step.ensures.stepped c.in_ok-step.ensures.kept in
    let low : c.args.budget ≤ 18446744073709551615 = search rules in
    let played : 0 < c.args.driver.now.spoken = c.requires.resting.some in
    let more : 1 < c.args.driver.now.spoken + 1 = omega (arith, played) in
    drove_all start c.args.budget 18446744073709551615 (c.args.driver.now.spoken + 1) (state_of c.drive-in-None.new.self) low (inr more) c.drive-in-None.result _ _ (same.0 ∙ said.spoken) (same.1 ∙ said.stopped)
    (c.drive-in-None.ensures.driven start led) (c.drive-in-None.ensures.legal start led) (c.drive-in-None.ensures.ends start led) c.drive-in-None.ensures.notices

pub returns-clause-resting : goal.returns-clause-resting
returns-clause-resting g c = λ is.
    let some : 0 < c.args.driver.now.spoken + 1 = omega arith in
    rests c.requires.stands.0 c.args.budget (c.args.driver.now.spoken + 1) (state_of c.drive-in-None.new.self) c.drive-in-None.result some (returns-clause-driven g c c.requires.stands.0 c.requires.stands.1) is

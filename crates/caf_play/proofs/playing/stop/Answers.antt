use Rattle.std.proofs.Common.{◌≡◌, ◌+◌, ◌<◌, Ok, ap, subst, ◌∙◌, arith}
use Rattle.caf_driver.specs.Driving.{state_of}
use Rattle.caf_driver.specs.Ends.{EndsSo}
use Rattle.caf_kinds.specs.Kinds.{kind_rules}
use Rattle.caf_play.proofs.EndLemmas.{ended_done, ended_used_up}
use Rattle.caf_play.proofs.playing.stop.Goals as goal

pub returns-in-Rest : goal.returns-in-Rest
returns-in-Rest g c = λ all budget spoken start driven.
    let said = c.in_ok-play.ensures.played in
    let led = c.in_ok-play.ensures.driven start driven in
    let notices = c.in_ok-drive.ensures.notices in
    let before = said.spoken in
    let after = notices.0 in
    let at : c.drive.new.self.spoken ≡ all + 2 = omega (arith, spoken, before, after) in
    let many : 1 < c.play.new.self.spoken = omega (arith, spoken, before) in
    let rests = ap Ok c.in-Rest.is in
    ended_done start all budget 18446744073709551615 (state_of c.drive.new.self) (c.in_ok-drive.ensures.legal start led) at (notices.1 ∙ said.stopped)
    (c.in_ok-drive.ensures.complete start led rests said.stopped many)
    (subst (EndsSo kind_rules start 18446744073709551615 (state_of c.drive.new.self)) c.in-Rest.is (c.in_ok-drive.ensures.ends start led))

pub returns-in-Exhausted : goal.returns-in-Exhausted
returns-in-Exhausted g c = λ all budget spoken start driven.
    let said = c.in_ok-play.ensures.played in
    let led = c.in_ok-play.ensures.driven start driven in
    let notices = c.in_ok-drive.ensures.notices in
    let before = said.spoken in
    let after = notices.0 in
    let at : c.drive.new.self.spoken ≡ all + 2 = omega (arith, spoken, before, after) in
    ended_used_up start all budget 18446744073709551615 (state_of c.drive.new.self) (c.in_ok-drive.ensures.legal start led) at (notices.1 ∙ said.stopped) c.in-Exhausted.place
    (subst (EndsSo kind_rules start 18446744073709551615 (state_of c.drive.new.self)) c.in-Exhausted.is (c.in_ok-drive.ensures.ends start led))

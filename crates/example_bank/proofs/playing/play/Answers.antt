use Rattle.std.proofs.Common.{subst, ◌∙◌, arith}
use Rattle.caf_driver.specs.Driving.{state_of}
use Rattle.caf_driver.specs.Ends.{EndsSo}
use Rattle.example_bank.specs.Entries.{bank_has}
use Rattle.example_bank.specs.Member.{rules}
use Rattle.example_bank.proofs.RestLemmas.{starts_of, may_stop}
use Rattle.example_bank.proofs.playing.play.Goals as goal

pub drive-requires-clause-entries : goal.drive-requires-clause-entries
drive-requires-clause-entries c = bank_has _ c.in_ok-table.ensures

pub drive-requires-in-Rest-clause-entries : goal.drive-requires-in-Rest-clause-entries
drive-requires-in-Rest-clause-entries c = bank_has _ c.in_ok-table.ensures

pub play-requires-in-Rest : goal.play-requires-in-Rest
play-requires-in-Rest c =
    let start = starts_of c.in_ok-actors.field-0 c.in_ok-actors.ensures.three in
    let led = c.in_ok-play.ensures.driven start.0 (c.in_ok-driver.ensures.driven start.0 start.1) in
    let said = c.in_ok-play.ensures.played in
    let notices = c.in_ok-drive.ensures.notices in
    may_stop rules start.0 18446744073709551615 (state_of c.drive.new.self) (c.in_ok-drive.ensures.legal start.0 led)
    (subst (EndsSo rules start.0 18446744073709551615 (state_of c.drive.new.self)) c.in-Rest.is (c.in_ok-drive.ensures.ends start.0 led))
    (omega (arith, notices.0, said.spoken)) (notices.1 ∙ said.stopped)

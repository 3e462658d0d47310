use Rattle.std.proofs.Common.{map, slice_index_or, sym, subst}
use Rattle.caf_message.specs.Envelope.{plain_envelope}
use Rattle.caf_driver.specs.Mail.{waiting_in}
use Rattle.caf_driver.specs.Delivery.{HasTakenOut}
use Rattle.caf_driver.specs.Runs.{taken_by_run}
use Rattle.caf_driver.specs.Stepping.{batch_by}
use Rattle.caf_driver.proofs.RunsLemmas.{drop_at}
use Rattle.caf_driver.proofs.GatherLemmas.{taken_more, rest_is_next, rest_is_named}
use Rattle.caf_driver.proofs.collecting.gather.Goals as goal

pub loop-run-preserved : goal.loop-run-preserved
loop-run-preserved c =
    let runs = c.args.runs.now in
    let place = c.args.place in
    let i = c.loop-run.run-index in
    let run = slice_index_or runs i (record { sender = 0; count = 0 }) in
    let here = drop_at runs i (record { sender = 0; count = 0 }) c.loop-run-test.true in
    let old = c.args.mail.now in
    let mid = c.loop-run.mail in
    let new = c.gather_run.new.mail in
    let inv = c.loop-run.invariant in
    let has = c.in_ok-gather_run.ensures in
    let fs = taken_by_run (λ a. waiting_in mid a place) run in
    record {
      out = subst (λ es. HasTakenOut old place es new) (sym has.named) (taken_more old mid new place (map plain_envelope c.loop-run.batch) fs inv.out has.taken);
      next = rest_is_next runs i run here (λ a. waiting_in mid a place) (λ a. waiting_in new a place) inv.next has.left;
      named = rest_is_named runs i run here (λ a. waiting_in mid a place) (λ a. waiting_in new a place) (map plain_envelope c.loop-run.batch) (batch_by (waiting_in old) place runs) (map plain_envelope c.gather_run.new.batch) inv.named has.named has.left;
    }

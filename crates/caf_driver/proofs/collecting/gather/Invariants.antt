use Rattle.std.proofs.Common.{◌≡◌, ◌++◌, true, map, drop}
use Rattle.caf_message.specs.Envelope.{plain_envelope}
use Rattle.caf_driver.specs.Mail.{waiting_in}
use Rattle.caf_driver.specs.Delivery.{HasTakenOut}
use Rattle.caf_driver.specs.Runs.{taken_by_runs, are_next}
use Rattle.caf_driver.specs.Stepping.{batch_by}
use Rattle.caf_driver.proofs.collecting.gather.Given as goal

abbrev pub invariant-loop-run : goal.invariant-loop-run
invariant-loop-run l = record {
  out : HasTakenOut l.fn.mail l.fn.place (map plain_envelope l.batch) l.mail;
  next : are_next (λ a. waiting_in l.mail a l.fn.place) (drop l.run-index l.runs) ≡ true;
  named : map plain_envelope l.batch ++ taken_by_runs (λ a. waiting_in l.mail a l.fn.place) (drop l.run-index l.runs) ≡ batch_by (waiting_in l.fn.mail) l.fn.place l.runs;
}

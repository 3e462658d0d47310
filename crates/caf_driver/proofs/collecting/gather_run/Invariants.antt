use Rattle.std.proofs.Common.{◌≡◌, ◌++◌, ℕ, map}
use Rattle.caf_message.specs.Envelope.{plain_envelope}
use Rattle.caf_driver.specs.Mail.{waiting_in}
use Rattle.caf_driver.specs.Delivery.{HasTakenOut}
use Rattle.caf_driver.specs.Runs.{taken_by_run, without_run}
use Rattle.caf_driver.proofs.GatherLemmas.{first_of_run}
use Rattle.caf_driver.proofs.collecting.gather_run.Given as goal

abbrev pub invariant-loop : goal.invariant-loop
invariant-loop l = record {
  named : map plain_envelope l.batch ≡ map plain_envelope l.fn.batch ++ taken_by_run (λ a. waiting_in l.fn.mail a l.fn.place) (first_of_run l.fn.mail l.fn.place l.fn.run l.counter);
  out : HasTakenOut l.fn.mail l.fn.place (taken_by_run (λ a. waiting_in l.fn.mail a l.fn.place) (first_of_run l.fn.mail l.fn.place l.fn.run l.counter)) l.mail;
  left : (a : ℕ) → waiting_in l.mail a l.fn.place ≡ without_run (λ x. waiting_in l.fn.mail x l.fn.place) (first_of_run l.fn.mail l.fn.place l.fn.run l.counter) a;
}

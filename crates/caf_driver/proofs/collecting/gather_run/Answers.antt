use Rattle.std.proofs.Common.{◌≡◌, ◌+◌, [], ◌∷◌, ◌++◌, ◌∙◌, map, append_assoc, sym, ap, subst}
use Rattle.std.proofs.lemmas.List.{map-append}
use Rattle.caf_message.specs.Envelope.{plain_envelope}
use Rattle.caf_driver.specs.Mail.{waiting_in}
use Rattle.caf_driver.specs.Delivery.{HasTakenOut}
use Rattle.caf_driver.specs.Runs.{taken_by_run}
use Rattle.caf_driver.proofs.DeliveryLemmas.{one_taken}
use Rattle.caf_driver.proofs.GatherLemmas.{first_of_run, named_next, left_next}
use Rattle.caf_driver.proofs.collecting.gather_run.Goals as goal

pub loop-preserved : goal.loop-preserved
loop-preserved c =
    let old = c.args.mail.now in
    let place = c.args.place in
    let run = c.args.run in
    let n = c.loop.counter in
    let mid = c.loop.mail in
    let new = c.pop.new.self in
    let e = plain_envelope c.pop.result in
    let inv = c.loop.invariant in
    let given = c.pop.ensures.given in
    let before = map plain_envelope c.args.batch.now in
    let es = taken_by_run (λ a. waiting_in old a place) (first_of_run old place run n) in
    let more : taken_by_run (λ a. waiting_in old a place) (first_of_run old place run (n + 1)) ≡ es ++ e ∷ [] = named_next old place run n mid new e inv.left given in
    record {
      named =
          ap (map plain_envelope) c.in_ok-push.ensures.added ∙ map-append plain_envelope c.loop.batch (c.pop.result ∷ []) ∙ ap (λ xs. xs ++ e ∷ []) inv.named
          ∙ append_assoc before es (e ∷ []) ∙ ap (λ xs. before ++ xs) (sym more);
      out = subst (λ xs. HasTakenOut old place xs new) (sym more) (one_taken old mid new place run.sender es e inv.out given);
      left = left_next old place run n mid new e inv.left given;
    }

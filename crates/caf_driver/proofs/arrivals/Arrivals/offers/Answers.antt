use Rattle.std.proofs.Common.{rules, ◌≡◌, ◌+◌, ◌∙◌, refl, true, false, nat_lt, slice_index_or, drop, sym, ap}
use Rattle.std.proofs.lemmas.List.{take_all}
use Rattle.caf_driver.specs.declared.sender_run.SenderRun.{SenderRun}
use Rattle.caf_driver.specs.Arrivals.{from_sender}
use Rattle.caf_driver.specs.Runs.{are_offered, is_offered_run, left_past, without_run}
use Rattle.caf_driver.proofs.RunsLemmas.{names_some, drop_at, drop_past, any_next, offered_batch, refused_batch, same_offered}
use Rattle.caf_driver.proofs.arrivals.Arrivals.offers.Goals.{then-has_some, else-has_some}
use Rattle.caf_driver.proofs.arrivals.Arrivals.offers.Goals as goal

pub returns-then-not-offers_past : goal.returns-then-not-offers_past
returns-then-not-offers_past c =
    let w = c.args.self.now in
    let runs = c.args.runs.now in
    let i = c.loop-run.run-index in
    let run = slice_index_or runs i (record { sender = 0; count = 0 }) in
    let left = left_past w c.loop-run.taken.items in
    let refused : c.offers_past.result ≡ false = search rules in
    let not_offered : is_offered_run left run ≡ false = sym c.offers_past.ensures.offered ∙ refused in
    sym (refused_batch (from_sender w) runs (c.loop-run.invariant.rest ∙ ap (are_offered left) (drop_at runs i (record { sender = 0; count = 0 }) c.loop-run-test.true) ∙ rw not_offered refl))

pub loop-run-preserved : goal.loop-run-preserved
loop-run-preserved c =
    let w = c.args.self.now in
    let runs = c.args.runs.now in
    let i = c.loop-run.run-index in
    let run = slice_index_or runs i (record { sender = 0; count = 0 }) in
    let left = left_past w c.loop-run.taken.items in
    let has = c.offers_past.ensures in
    let is : c.offers_past.result ≡ true = search rules in
    let offered : is_offered_run left run ≡ true = sym has.offered ∙ is in
    let next = any_next (λ (r : SenderRun). nat_lt 0 r.count) runs i (record { sender = 0; count = 0 }) c.loop-run-test.true in
    record {
      counts = has.counts;
      bound = has.bound;
      rest =
          c.loop-run.invariant.rest ∙ ap (are_offered left) (drop_at runs i (record { sender = 0; count = 0 }) c.loop-run-test.true) ∙ rw offered refl
          ∙ same_offered (without_run left run) (left_past w c.offers_past.new.taken.items) (drop (i + 1) runs) (λ a. sym (has.past is a));
      named = elim c.if-has_some.branch [
        | then-has_some h ↦ search rules
        | else-has_some h ↦ search rules
      ];
    }

pub returns : goal.returns
returns c =
    let w = c.args.self.now in
    let runs = c.args.runs.now in
    let i = c.loop-run.run-index in
    let left = left_past w c.loop-run.taken.items in
    let all : are_offered (from_sender w) runs ≡ true = c.loop-run.invariant.rest ∙ ap (are_offered left) (drop_past i runs c.loop-run-test.false) in
    c.loop-run.invariant.named ∙ ap names_some (take_all i runs c.loop-run-test.false) ∙ sym (offered_batch (from_sender w) runs all)

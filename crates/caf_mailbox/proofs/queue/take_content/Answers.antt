use Rattle.std.proofs.Common.{◌≤◌, ◌∙◌, ap, List, length, arith}
use Rattle.caf_mailbox.specs.Arrived.{Arrived, arrived, all_arrived, at_arrived}
use Rattle.caf_mailbox.specs.Line.{taken_where}
use Rattle.caf_mailbox.proofs.LineLemmas.{kept_on, pass_taken, within_taken}
use Rattle.caf_mailbox.proofs.SearchLemmas.{length_map}
use Rattle.caf_mailbox.proofs.queue.take_content.Goals as goal

pub returns-clause-taken : goal.returns-clause-taken
returns-clause-taken g c =
    let h = c.first_content-found.ensures in
    c.take_at.ensures.taken ∙ ap (λ (zs : List Arrived). taken_where zs c.first_content-found.result) h.kept ∙ h.found.place

pub returns-clause-passed : goal.returns-clause-passed
returns-clause-passed g c =
    let h = c.first_content-found.ensures in
    let taken = c.take_at.ensures.taken ∙ ap (λ (zs : List Arrived). taken_where zs c.first_content-found.result) h.kept in
    let kept = kept_on c.take_at.result _ _ (all_arrived c.args.queue.now.items) c.take_at.ensures.kept h.kept in
    pass_taken arrived (all_arrived c.args.queue.now.items) (all_arrived c.take_at.new.queue.items) c.first_content-found.result c.take_at.result taken kept (at_arrived (g.E.Eligible.test c.args.test.now))
    c.first_content-found.new.passed h.before h.passed

pub returns-clause-within : goal.returns-clause-within
returns-clause-within g c =
    let h = c.first_content-found.ensures in
    let zs = all_arrived c.args.queue.now.items in
    let left = all_arrived c.take_at.new.queue.items in
    let n = c.first_content-found.new.passed in
    let taken = c.take_at.ensures.taken ∙ ap (λ (ys : List Arrived). taken_where ys c.first_content-found.result) h.kept in
    let kept = kept_on c.take_at.result _ _ zs c.take_at.ensures.kept h.kept in
    let len = length_map arrived c.args.queue.now.items in
    let own = c.args.queue.now.ok.0 in
    let before = h.within in
    let within : n ≤ length zs = omega arith in
    let still : n ≤ length left = within_taken arrived zs left c.first_content-found.result c.take_at.result taken kept n h.before within in
    omega (arith, length_map arrived c.take_at.new.queue.items)

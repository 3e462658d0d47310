use Rattle.std.proofs.Common.{◌≡◌, ◌++◌, ◌<◌, ◌≤◌, length, slice_index_or, ap, sym, ◌∙◌, rules}
use Rattle.caf_driver.specs.Places.{first_of}
use Rattle.caf_driver.proofs.PlaceLemmas.{next_at, next_none, first_at, count_to}
use Rattle.caf_driver.proofs.chooser.place_past.Goals as goal

pub returns-then-at-offered : goal.returns-then-at-offered
returns-then-at-offered c =
    let at : c.count_up_to-at.result ≡ count_to c.args.place c.args.offered.now = c.count_up_to-at.ensures in
    let less : count_to c.args.place c.args.offered.now < length c.args.offered.now = search rules in
    ap (λ k. slice_index_or c.args.offered.now k 0) at ∙ sym (next_at c.args.place c.args.offered.now c.args.offered.now 0 less)

pub returns-else-at-offered : goal.returns-else-at-offered
returns-else-at-offered c =
    let at : c.count_up_to-at.result ≡ count_to c.args.place c.args.offered.now = c.count_up_to-at.ensures in
    let past : length c.args.offered.now ≤ count_to c.args.place c.args.offered.now = search rules in
    sym (first_at c.args.offered.now 0 c.requires) ∙ ap (λ xs. first_of (xs ++ c.args.offered.now)) (sym (next_none c.args.place c.args.offered.now past))

use Rattle.caf_kinds.proofs.AskedLemmas.{typed_as}
use Rattle.caf_kinds.proofs.asking.takes.Goals as goal

pub returns : goal.returns
returns g c =
    let input = typed_as c.in_ok-input.input g.I.Row.ids c.in_ok-input.ensures in
    let answer = typed_as c.in_ok-answer.answer g.R.Row.ids c.in_ok-answer.ensures in
    rw (input, answer) at c.push.ensures.added

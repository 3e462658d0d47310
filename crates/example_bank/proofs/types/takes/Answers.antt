use Rattle.std.proofs.Common.{refl}
use Rattle.caf_kinds.proofs.AskedLemmas.{typed_as}
use Rattle.example_bank.proofs.types.takes.Goals as goal

pub returns : goal.returns
returns g c = rw (typed_as c.in_ok-input.input g.I.Row.ids c.in_ok-input.ensures, typed_as c.in_ok-result.result _ c.in_ok-result.ensures) refl

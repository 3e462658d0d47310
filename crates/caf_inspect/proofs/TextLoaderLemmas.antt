-- What the text loader answers.
use Rattle.std.proofs.Common.{ℕ, List}
use Rattle.caf_types.specs.ShapeTree.{ShapeTree}
use Rattle.caf_text.specs.Answer.{IsNoForm}
use Rattle.caf_text.specs.TextForm.{HasText}
use Rattle.caf_text.specs.declared.text_fault.TextFault.{TextFault}
use Rattle.caf_text.specs.declared.text_fault.TextFault.TheVariants as found
use Rattle.caf_events.specs.LoadAnswer.{Refused}
use Rattle.caf_inspect.specs.LoadAnswer.{TextFailsAt, AtLength}
use Rattle.caf_events.specs.declared.fault.LoadFault.{LoadFault}
use Rattle.caf_events.specs.declared.fault.LoadFault.TheVariants as faults

pub text_refused : (f : ShapeTree) (input : List ℕ) (fault : TextFault) (answer : LoadFault) → IsNoForm fault f input → AtLength fault answer → Refused (λ d. HasText f d input) (TextFailsAt f input) answer
text_refused f input fault faults.Memory h is = tt
text_refused f input found.Memory (faults.Unfit path) h is = absurd is
text_refused f input (found.At n) (faults.Unfit path) h is = ((n, is, h.0), h.1)

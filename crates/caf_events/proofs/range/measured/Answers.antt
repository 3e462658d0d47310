use Rattle.std.proofs.Common.{arith}
use Rattle.caf_events.proofs.RangeLemmas.{bytes_are}
use Rattle.caf_events.proofs.range.measured.Goals as goal

pub returns-clause-bytes : goal.returns-clause-bytes
returns-clause-bytes c = bytes_are c.args.bytes.now (λ i. omega (arith, c.type_inv.bytes i))

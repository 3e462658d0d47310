use Rattle.std.proofs.Common.{rules}
use Rattle.caf_signature.proofs.InterfaceLemmas.{assignable-Decides}
use Rattle.caf_signature.proofs.interface.assignable.Goals as goal

pub returns-clause-meaning : goal.returns-clause-meaning
returns-clause-meaning c = let h = assignable-Decides c.args.from.now c.args.to.now in search rules

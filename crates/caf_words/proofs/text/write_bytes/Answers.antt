use Rattle.std.proofs.Common.{arith}
use Rattle.caf_words.proofs.RangeLemmas.{slice_bytes}
use Rattle.caf_words.proofs.text.write_bytes.Goals as goal

pub returns-clause-in_range : goal.returns-clause-in_range
returns-clause-in_range c = slice_bytes c.args.bytes.now (omega arith) c.type_inv.bytes

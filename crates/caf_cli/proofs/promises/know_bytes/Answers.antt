use Rattle.std.proofs.Common.{arith}
use Rattle.caf_words.proofs.RangeLemmas.{slice_bytes}
use Rattle.caf_cli.proofs.promises.know_bytes.Goals as goal

pub returns : goal.returns
returns c = slice_bytes c.args.bytes.now (omega arith) c.type_inv.bytes

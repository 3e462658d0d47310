use Rattle.caf_kinds.proofs.DifferLemmas.{is_no_fault}
use Rattle.caf_kinds.proofs.asking.interface.Goals as goal

pub unreachable-requires : goal.unreachable-requires
unreachable-requires c = is_no_fault c.in-Err.field-0 c.args.signatures c.requires c.in-Err.ensures

use Rattle.std.proofs.Common.{◌≡◌, drop}
use Rattle.caf_types.specs.Table.{name_is_in}
use Rattle.caf_types.proofs.table.has_block.Given as goal

abbrev pub invariant-loop-block : goal.invariant-loop-block
invariant-loop-block l = name_is_in (drop l.block-index l.blocks) l.name ≡ name_is_in l.blocks l.name

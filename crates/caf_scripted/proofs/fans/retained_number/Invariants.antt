use Rattle.caf_types.specs.Table.{built_in}
use Rattle.caf_message.specs.Fits.{FitsTable}
use Rattle.caf_scripted.proofs.fans.retained_number.Given as goal

abbrev pub invariant-loop : goal.invariant-loop
invariant-loop l = FitsTable built_in l.message.content

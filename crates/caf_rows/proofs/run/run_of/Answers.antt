use Rattle.caf_rows.proofs.CoreLemmas.{core_has}
use Rattle.caf_rows.proofs.run.run_of.Goals as goal

pub played_by-requires-clause-entries : goal.played_by-requires-clause-entries
played_by-requires-clause-entries c = core_has _ c.requires.table

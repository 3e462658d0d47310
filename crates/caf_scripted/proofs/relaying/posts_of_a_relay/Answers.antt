use Rattle.caf_types.specs.TypeTable.{seen}
use Rattle.caf_scripted.proofs.BatchLemmas.{has_numbers}
use Rattle.caf_scripted.proofs.relaying.posts_of_a_relay.Goals as goal

pub batch-requires-clause-entries : goal.batch-requires-clause-entries
batch-requires-clause-entries c = has_numbers (seen c.in_ok-table.table) c.in_ok-table.ensures

use Rattle.caf_index.proofs.FilledLemmas.{same-entries}
use Rattle.caf_index.proofs.laws.same_entries_same_index.Goals as goal

pub returns : goal.returns
returns c = same-entries

use Rattle.caf_types.specs.Table.{shape_at}
use Rattle.caf_message.specs.Entries.{entry_shape}
use Rattle.caf_message.proofs.FitsLemmas.{Fits-more, entry_shapes_stand}
use Rattle.caf_message.proofs.laws.entries_fit_their_tables.Goals as goal

pub returns : goal.returns
returns c table entries words has = Fits-more (entry_shape entries) (shape_at table) (entry_shapes_stand table entries has) words

use Rattle.caf_message.specs.Entries.{entry_shape}
use Rattle.caf_kinds.specs.Core.{core_entries}
use Rattle.caf_rows.proofs.FittingLemmas.{start_known}
use Rattle.caf_rows.proofs.tests.sharing.start.Goals as goal

pub envelope_of-requires : goal.envelope_of-requires
envelope_of-requires c = rw c.in-Ok.ensures.made (c.in-Ok.ensures.fits (entry_shape core_entries) start_known)

-- An entry of the merge as the code sorts it: without its batch.
use Rattle.caf_record.specs.declared.merged.Listed.{Listed}
use Rattle.caf_record.specs.Merged.{Entry}

abbrev pub listed_of : Entry → Listed
listed_of e = record { stamp = e.turn.batch.stamp; place = e.turn.place; number = e.number }

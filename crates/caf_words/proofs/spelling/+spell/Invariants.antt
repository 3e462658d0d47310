use Rattle.std.proofs.Common.{◌≡◌, ◌++◌, map, drop}
use Rattle.caf_words.specs.Datum.{data_of, are_in_range}
use Rattle.caf_words.specs.Value.{datum}
use Rattle.caf_words.specs.Spelling.{spellings}
use Rattle.caf_words.proofs.spelling.+spell.Given as goal

abbrev pub invariant-write_values-loop-value : goal.invariant-write_values-loop-value
invariant-write_values-loop-value l = (l.words.items ++ spellings (data_of (map datum (drop l.value-index l.values))) ≡ l.fn.words.items ++ spellings (data_of (map datum l.values))) × (are_in_range (data_of (map datum (drop l.value-index l.values))) ≡ are_in_range (data_of (map datum l.values)))

use Rattle.std.proofs.Common.{◌≡◌, ◌+◌, drop, map, length}
use Rattle.caf_words.specs.Datum.{data_of}
use Rattle.caf_words.specs.Spelling.{spellings}
use Rattle.caf_words.specs.Value.{datum}
use Rattle.caf_scenario.proofs.elements.has_more_words.Given as goal

-- what is left is for the words of the values to come
abbrev pub invariant-loop-value : goal.invariant-loop-value
invariant-loop-value l = length (spellings (data_of (map datum l.values))) + l.left ≡ l.most + length (spellings (data_of (map datum (drop l.value-index l.values))))

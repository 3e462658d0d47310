use Rattle.std.proofs.Common.{◌≡◌, take, true}
use Rattle.std.specs.List.{list_all}
use Rattle.caf_command.specs.Reading.{is_known}
use Rattle.caf_command.proofs.reading.are_known.Given as goal

abbrev pub invariant-loop-word : goal.invariant-loop-word
invariant-loop-word l = list_all is_known (take l.word-index l.words) ≡ true

use Rattle.std.proofs.Common.{◌≡◌, take, true}
use Rattle.std.specs.List.{list_all}
use Rattle.caf_command.specs.Words.{is_plain}
use Rattle.caf_command.proofs.command.files.Given as goal

abbrev pub invariant-loop-word : goal.invariant-loop-word
invariant-loop-word l = (l.files ≡ take l.word-index l.words) × (list_all is_plain (take l.word-index l.words) ≡ true)

use Rattle.std.proofs.Common.{◌≡◌, ◌++◌, drop}
use Rattle.caf_script.specs.Reply.{words_of}
use Rattle.caf_report.proofs.values.words_of.Given as goal

abbrev pub invariant-loop-value : goal.invariant-loop-value
invariant-loop-value l = l.words.items ++ words_of (drop l.value-index l.values) ≡ words_of l.values

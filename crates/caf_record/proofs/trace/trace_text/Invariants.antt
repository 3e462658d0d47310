use Rattle.std.proofs.Common.{◌≡◌, ◌++◌, drop}
use Rattle.std.specs.Prelude.{flat_map}
use Rattle.caf_record.specs.Merged.{merged}
use Rattle.caf_record.specs.Trace.{line_of, trace_of}
use Rattle.caf_record.proofs.EntryLemmas.{turns}
use Rattle.caf_record.proofs.trace.trace_text.Given as goal

abbrev pub invariant-loop-batch : goal.invariant-loop-batch
invariant-loop-batch l = l.text.items ++ flat_map line_of (turns (drop l.batch-index (merged l.kept.journals))) ≡ trace_of l.kept

use Rattle.std.proofs.Common.{◌≡◌, ◌++◌, length}
use Rattle.std.specs.Prelude.{flat_map}
use Rattle.caf_record.specs.Trace.{run_text, runs_of}
use Rattle.caf_record.proofs.trace.push_runs.Given as goal

abbrev pub invariant-loop-first : goal.invariant-loop-first
invariant-loop-first l = l.text.items ++ flat_map run_text (runs_of l.rest) ≡ l.initial.text.items ++ flat_map run_text (runs_of l.taken)

abbrev pub decreases-loop-first : goal.decreases-loop-first
decreases-loop-first l = length l.rest

use Rattle.std.proofs.Common.{◌≡◌, ◌++◌, drop}
use Rattle.caf_report.specs.Report.{end_of, steps_text}
use Rattle.caf_report.proofs.report.Ending.push_steps.Given as goal

abbrev pub invariant-loop-before : goal.invariant-loop-before
invariant-loop-before l = l.text.items ++ steps_text (end_of l.self) l.before (drop l.before l.script) ≡ l.initial.text.items ++ steps_text (end_of l.self) 0 l.script

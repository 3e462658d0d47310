use Rattle.std.proofs.Common.{◌≡◌, length}
use Rattle.caf_io.proofs.WritingLemmas.{IsWritten}
use Rattle.caf_io.proofs.writing.write_all.Given as goal

-- what was written so far is the text without the rest
abbrev pub invariant-loop-rest : goal.invariant-loop-rest
invariant-loop-rest g l =
    IsWritten (g.S.Sink.written l.initial.out) (g.S.Sink.written l.out) l.text l.rest
    × (g.S.Sink.faults l.out ≡ g.S.Sink.faults l.initial.out)

abbrev pub decreases-loop-rest : goal.decreases-loop-rest
decreases-loop-rest g l = length l.rest

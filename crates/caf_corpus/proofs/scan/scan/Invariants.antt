use Rattle.std.proofs.Common.{ℕ, ◌+◌, ◌<◌, ◌≤◌, take}
use Rattle.caf_corpus.specs.Limits.{IsAt, IsFine}
use Rattle.caf_corpus.specs.declared.scan.TheConstants.{LARGEST_CORPUS}
use Rattle.caf_corpus.proofs.scan.scan.Given as goal

-- no byte before this one passes a limit
abbrev pub invariant-loop-i : goal.invariant-loop-i
invariant-loop-i l = record {
  at : IsAt (take l.i l.bytes) l.spot;
  fine : (k : ℕ) → k < l.i → IsFine l.before l.bytes k;
  reached : l.before + l.i ≤ LARGEST_CORPUS;
}

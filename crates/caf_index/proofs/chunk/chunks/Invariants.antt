use Rattle.std.proofs.Common.{◌≡◌, ◌+◌, ◌-◌, ◌≤◌, length}
use Rattle.caf_index.proofs.ChunkLemmas.{AreAll}
use Rattle.caf_index.proofs.chunk.chunks.Given as goal

abbrev pub invariant-loop-current : goal.invariant-loop-current
invariant-loop-current l = record {
  order : l.current.from ≤ l.current.to;
  within : l.current.to ≤ length l.bytes;
  counted : l.line ≤ l.current.to + 1;
  begun : l.current.to ≤ l.current.from → l.current.line ≡ l.line;
  all : AreAll l.bytes l.chunks l.current l.line;
}

abbrev pub decreases-loop-current : goal.decreases-loop-current
decreases-loop-current l = length l.bytes - l.current.to

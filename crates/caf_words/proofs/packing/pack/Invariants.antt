use Rattle.std.proofs.Common.{◌≡◌, ◌++◌, ◌+◌, ◌*◌, ◌≤◌, length}
use Rattle.std.specs.Prelude.{vec_len, vec_capacity}
use Rattle.caf_words.specs.Spelling.{packed}
use Rattle.caf_words.proofs.packing.pack.Given as goal

abbrev pub invariant-loop-rest : goal.invariant-loop-rest
invariant-loop-rest l = record {
  added : l.words.items ++ packed l.rest ≡ l.fn.words.items ++ packed l.bytes;
  room : 8 * vec_len l.words + length l.rest ≤ 8 * vec_capacity l.words;
}

abbrev pub decreases-loop-rest : goal.decreases-loop-rest
decreases-loop-rest l = length l.rest

use Rattle.std.proofs.Common.{◌≡◌, ◌≤◌, take}
use Rattle.std.specs.Prelude.{count_by}
use Rattle.caf_corpus.specs.Limits.{is_line_end}
use Rattle.caf_cli.proofs.making.line_ends.Given as goal

abbrev pub invariant-loop-byte : goal.invariant-loop-byte
invariant-loop-byte l = record {
  counted : l.ends ≡ count_by is_line_end (take l.byte-index l.bytes);
  few : l.ends ≤ l.byte-index;
}

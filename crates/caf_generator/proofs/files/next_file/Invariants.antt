use Rattle.std.proofs.Common.{◌≡◌, ◌+◌, ◌-◌, ◌*◌, ◌++◌, flat_map}
use Rattle.caf_generator.specs.Generator.{span, line_at}
use Rattle.caf_generator.proofs.files.next_file.Given as goal

abbrev pub invariant-loop-line : goal.invariant-loop-line
invariant-loop-line l = record {
  text : l.text.items ++ flat_map line_at (span l.line (l.first + l.count - l.line)) ≡ flat_map line_at (span l.first l.count);
  taken : l.numbers ≡ 8 * l.line;
}

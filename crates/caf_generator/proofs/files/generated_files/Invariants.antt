use Rattle.std.proofs.Common.{◌≡◌, ◌+◌, ◌-◌, ◌*◌, ◌/◌, ◌++◌, min}
use Rattle.std.specs.Prelude.{map}
use Rattle.caf_generator.specs.Generator.{span, file_at, files_of}
use Rattle.caf_generator.proofs.files.generated_files.Given as goal

abbrev pub invariant-loop-file : goal.invariant-loop-file
invariant-loop-file l = record {
  files : l.files ++ map (file_at l.lines) (span l.file ((l.lines + 999) / 1000 - l.file)) ≡ files_of l.lines;
  taken : l.numbers ≡ 8 * min l.lines (1000 * l.file);
}

use Rattle.std.proofs.Common.{◌≡◌, ◌++◌, drop}
use Rattle.std.specs.Prelude.{flat_map}
use Rattle.std.specs.FinMap as map
use Rattle.caf_index.specs.IndexText.{name_of, file_text, files_text}
use Rattle.caf_index.proofs.text.push_files.Given as goal

abbrev pub invariant-loop-entry : goal.invariant-loop-entry
invariant-loop-entry l =
    l.text.items ++ flat_map (λ file. file_text (name_of l.names file.0) (map.keys file.1)) (drop l.entry-index l.entry-items)
    ≡ l.initial.text.items ++ files_text l.names l.files

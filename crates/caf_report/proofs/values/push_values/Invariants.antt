use Rattle.std.proofs.Common.{◌≡◌, ◌≤◌, ◌++◌, drop, map, length}
use Rattle.caf_types.specs.TypeTable.{seen}
use Rattle.caf_words.specs.Datum.{data_of}
use Rattle.caf_words.specs.Several.{ids_of}
use Rattle.caf_words.specs.Value.{datum}
use Rattle.caf_report.specs.Values.{AreOfTypes, forms}
use Rattle.caf_report.proofs.values.push_values.Given as goal

abbrev pub invariant-loop-i : goal.invariant-loop-i
invariant-loop-i l =
    (l.text.items ++ forms (seen l.table) (ids_of (drop l.i l.types)) (data_of (map datum (drop l.i l.values))) ≡ l.initial.text.items ++ forms (seen l.table) (ids_of l.types) (data_of (map datum l.values)))
    × AreOfTypes (seen l.table) (ids_of (drop l.i l.types)) (data_of (map datum (drop l.i l.values)))
    × (length l.types ≤ length l.values)

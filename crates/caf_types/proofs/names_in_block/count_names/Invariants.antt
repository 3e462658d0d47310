use Rattle.std.proofs.Common.{◌≡◌, ℕ, List, take}
use Rattle.std.specs.Prelude.{unwrap_or, bytes_eq, count_by}
use Rattle.std.specs.BTreeMap.{get_by_text}
use Rattle.caf_types.specs.declared.shape.Entry.{Entry}
use Rattle.caf_types.proofs.names_in_block.count_names.Given as goal

abbrev pub invariant-loop-entry : goal.invariant-loop-entry
invariant-loop-entry l = (name : List ℕ) → unwrap_or (get_by_text l.counts name) 0 ≡ count_by (λ (e : Entry). bytes_eq name e.name) (take l.entry-index l.entries)

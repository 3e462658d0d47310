use Rattle.std.proofs.Common.{◌≡◌, ◌++◌, ◌∷◌, length, drop}
use Rattle.caf_words.specs.Several.{ids_of}
use Rattle.caf_message.proofs.row.write_types.Given as goal

-- what was added, and what is left to add
abbrev pub invariant-loop-id : goal.invariant-loop-id
invariant-loop-id l = l.words.items ++ ids_of (drop l.id-index l.types) ≡ l.fn.words.items ++ (length l.types ∷ ids_of l.types)

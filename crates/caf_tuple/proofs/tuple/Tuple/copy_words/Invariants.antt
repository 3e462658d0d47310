use Rattle.std.proofs.Common.{◌≡◌, ◌+◌, ◌∷◌, length, take}
use Rattle.std.specs.Prelude.{vec_capacity}
use Rattle.caf_steps.specs.Reference.{looked}
use Rattle.caf_tuple.proofs.tuple.Tuple.copy_words.Given as goal

-- the first words were read, and stand behind the count
abbrev pub invariant-loop-i : goal.invariant-loop-i
invariant-loop-i l = (l.self ≡ looked l.i l.initial.self) × (l.laid.items ≡ 1 ∷ take l.i l.initial.self.content) × (vec_capacity l.laid ≡ length l.initial.self.content + 1)

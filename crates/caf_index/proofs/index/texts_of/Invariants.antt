use Rattle.std.proofs.Common.{◌≡◌, ◌++◌, string_bytes}
use Rattle.std.specs.Prelude.{map}
use Rattle.std.specs.HashMap.{keys}
use Rattle.caf_index.proofs.index.texts_of.Given as goal

abbrev pub invariant-loop-word : goal.invariant-loop-word
invariant-loop-word l = map (λ t. t.now) l.texts.items ++ map string_bytes l.word-iterator ≡ map string_bytes (keys l.words)

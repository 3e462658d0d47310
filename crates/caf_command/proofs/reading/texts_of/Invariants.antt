use Rattle.std.proofs.Common.{◌≡◌, ℕ, List, take, map, Bor}
use Rattle.caf_command.proofs.reading.texts_of.Given as goal

abbrev pub invariant-loop-word : goal.invariant-loop-word
invariant-loop-word l = map (λ (t : Bor (List ℕ)). t.now) l.texts.items ≡ take l.word-index l.words

use Rattle.std.proofs.Common.{◌≡◌, ◌++◌, List, ℕ, drop, map, Bor}
use Rattle.caf_command.proofs.matched.copied.Given as goal

abbrev pub invariant-loop-text : goal.invariant-loop-text
invariant-loop-text l = l.copies ++ map (λ (t : Bor (List ℕ)). t.now) (drop l.text-index l.texts) ≡ map (λ (t : Bor (List ℕ)). t.now) l.texts

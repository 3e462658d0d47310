use Rattle.std.proofs.Common.{◌≡◌, ◌+◌, ◌-◌, ◌*◌, ◌∷◌, ◌++◌, flat_map}
use Rattle.caf_generator.specs.Generator.{span, word_at, spaced}
use Rattle.std.specs.Prelude.{map}
use Rattle.caf_generator.proofs.files.push_line.Given as goal

abbrev pub invariant-loop-word : goal.invariant-loop-word
invariant-loop-word l = record {
  text : l.text.items ++ flat_map (λ k. 32 ∷ word_at k) (span (8 * l.line + l._word) (8 - l._word)) ≡ l.fn.text.items ++ spaced (map word_at (span (8 * l.line) 8));
  taken : l.numbers ≡ 8 * l.line + l._word;
}

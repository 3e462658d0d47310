use Rattle.std.proofs.Common.{◌+◌, ◌-◌, ◌*◌, [], ◌∷◌, ◌++◌, ◌∙◌, ap, arith, append_assoc}
use Rattle.caf_generator.specs.Generator.{word_at}
use Rattle.caf_generator.proofs.SpanLemmas.{piece-more}
use Rattle.caf_generator.proofs.files.push_line.Goals as goal

pub loop-word-preserved : goal.loop-word-preserved
loop-word-preserved c = record {
  text =
      let word = c.loop-word._word in
      let at = 8 * c.args.line + word in
      piece-more (λ k. 32 ∷ word_at k) at (8 * c.args.line + (word + 1)) (8 - word) (8 - (word + 1)) c.loop-word.text.items _ _ (omega arith) (omega arith) c.loop-word.invariant.text
      (c.in_ok-push_word-2.ensures.text
      ∙ ap (λ t. t ++ word_at c.loop-word.numbers) c.in_ok-push.ensures.items
      ∙ append_assoc c.loop-word.text.items (32 ∷ []) (word_at c.loop-word.numbers)
      ∙ ap (λ n. c.loop-word.text.items ++ 32 ∷ word_at n) c.loop-word.invariant.taken);
  taken = let h = c.push_word-in-loop-word.ensures.taken in let k = c.loop-word.invariant.taken in omega (arith, h, k);
}

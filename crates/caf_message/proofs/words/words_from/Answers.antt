use Rattle.std.proofs.Common.{◌≡◌, ℕ, ◌+◌, ◌<◌, List, [], ◌∷◌, ◌++◌, length, drop, get_or, sym, ap, ◌∙◌, append_assoc, arith}
use Rattle.std.proofs.lemmas.List.{drop_more}
use Rattle.caf_steps.specs.declared.reference.Reference.{Reference}
use Rattle.caf_message.proofs.StepLemmas.{look_on}
use Rattle.caf_message.proofs.words.words_from.Goals as goal

pub loop-i-preserved : goal.loop-i-preserved
loop-i-preserved c =
    let i = c.loop-i.i in
    let all : List ℕ = c.args.tuple.now.content in
    let word : ℕ = c.word-word.result in
    let within : i < length all = omega arith in
    let word_is : word ≡ get_or all i 0 = c.word-word.ensures.value ∙ ap (λ (ws : List ℕ). get_or ws i 0) c.loop-i.invariant.content in
    record {
      content = ap (λ (r : Reference). r.content) c.word-word.ensures.step ∙ c.loop-i.invariant.content;
      words = ap (λ (ws : List ℕ). ws ++ drop (i + 1) all) c.push_reserved.ensures.items
          ∙ append_assoc c.loop-i.words.items (word ∷ []) (drop (i + 1) all)
          ∙ ap (λ (w : ℕ). c.loop-i.words.items ++ w ∷ drop (i + 1) all) word_is
          ∙ ap (λ (ws : List ℕ). c.loop-i.words.items ++ ws) (sym (drop_more all i 0 within))
          ∙ c.loop-i.invariant.words;
      count = omega (arith, c.push_reserved.ensures.len, c.loop-i.invariant.count);
      room = c.push_reserved.ensures.capacity ∙ c.loop-i.invariant.room;
      looked = λ r is.
          let same = ap (λ (q : Reference). length q.content) is in
          let inside : i < length r.content = omega (arith, same, within) in
          look_on i word r c.loop-i.tuple c.word-word.new.self inside (c.loop-i.invariant.looked r is) c.word-word.ensures.step c.word-word.ensures.value;
    }

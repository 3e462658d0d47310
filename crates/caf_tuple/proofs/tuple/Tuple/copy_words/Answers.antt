use Rattle.std.proofs.Common.{◌≡◌, ℕ, ◌<◌, List, [], ◌∷◌, ◌++◌, length, take, sym, ap, ◌∙◌, arith}
use Rattle.std.specs.Prelude.{slice_index}
use Rattle.std.proofs.lemmas.List.{take_more}
use Rattle.caf_steps.specs.declared.reference.Reference.{Reference}
use Rattle.caf_steps.specs.Reference.{read, looked}
use Rattle.caf_steps.proofs.ReferenceLemmas.{looked-more}
use Rattle.caf_tuple.proofs.tuple.Tuple.copy_words.Goals as goal

pub loop-i-preserved : goal.loop-i-preserved
loop-i-preserved c = let old : Reference = c.args.self.now in let i = c.loop-i.i in let word = c.word-word.result in
    let within : i < length old.content = omega arith in
    let self_is : c.loop-i.self ≡ looked i old = c.loop-i.invariant.0 in
    let word_is : word ≡ slice_index old.content i = c.word-word.ensures.value ∙ ap (λ (r : Reference). slice_index r.content i) self_is in
    let more = take_more old.content i 0 within in (
      c.word-word.ensures.step ∙ ap (λ (r : Reference). read i word r) self_is ∙ ap (λ w. read i w (looked i old)) word_is ∙ sym (looked-more i old within),
      c.push_reserved-in-loop-i.ensures.items ∙ ap (λ (l : List ℕ). l ++ word ∷ []) c.loop-i.invariant.1 ∙ ap (λ w. 1 ∷ (take i old.content ++ w ∷ [])) word_is ∙ ap (λ (l : List ℕ). 1 ∷ l) (sym more),
      c.push_reserved-in-loop-i.ensures.capacity ∙ c.loop-i.invariant.2,
    )

-- Reading the words of a reference one after another.
use Rattle.std.proofs.Common.{◌≡◌, ℕ, ◌+◌, ◌<◌, List, [], ◌∷◌, ◌++◌, length, take, get_or, sym, ap, ◌∙◌, add-one, append_assoc, arith}
use Rattle.std.proofs.lemmas.List.{append-nil, length-take-le}
use Rattle.std.proofs.Math.Seq.{take-suc}
use Rattle.std.specs.Prelude.{slice_index}
use Rattle.caf_steps.specs.declared.step.Step.{Step}
use Rattle.caf_steps.specs.declared.step.Step.TheVariants.{Read}
use Rattle.caf_steps.specs.declared.reference.Reference.{Reference}
use Rattle.caf_steps.specs.Reference.{read, reads_from, looked}

reads_from-append : (i : ℕ) (words : List ℕ) (word : ℕ) → reads_from i (words ++ word ∷ []) ≡ reads_from i words ++ Read (i + length words) word ∷ []
reads_from-append i [] word = ap (λ (j : ℕ). Read j word ∷ []) (omega arith)
reads_from-append i (w ∷ ws) word = let at : i + 1 + length ws ≡ i + length (w ∷ ws) = omega arith in
    ap (λ (steps : List Step). Read i w ∷ steps) (reads_from-append (i + 1) ws word ∙ ap (λ (j : ℕ). reads_from (i + 1) ws ++ Read j word ∷ []) at)

-- the first words and one more
reads_from-take : (words : List ℕ) (n : ℕ) → n < length words → reads_from 0 (take (n + 1) words) ≡ reads_from 0 (take n words) ++ Read n (get_or words n 0) ∷ []
reads_from-take words n within = let front : take (n + 1) words ≡ take n words ++ get_or words n 0 ∷ [] = rw add-one (take-suc words n 0 within) in
    let long : 0 + length (take n words) ≡ n = omega (arith, length-take-le n words) in
    ap (reads_from 0) front ∙ reads_from-append 0 (take n words) (get_or words n 0) ∙ ap (λ (j : ℕ). reads_from 0 (take n words) ++ Read j (get_or words n 0) ∷ []) long

pub looked-none : (r : Reference) → looked 0 r ≡ r
looked-none r = ap (λ (steps : List Step). record { content = r.content; steps = steps; room = r.room; sole = r.sole }) (append-nil r.steps)

pub looked-more : (n : ℕ) (r : Reference) → n < length r.content → looked (n + 1) r ≡ read n (slice_index r.content n) (looked n r)
looked-more n r within = ap (λ (steps : List Step). record { content = r.content; steps = steps; room = r.room; sole = r.sole })
    (ap (λ (steps : List Step). r.steps ++ steps) (reads_from-take r.content n within) ∙ sym (append_assoc r.steps (reads_from 0 (take n r.content)) (Read n (get_or r.content n 0) ∷ [])))

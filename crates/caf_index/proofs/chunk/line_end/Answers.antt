use Rattle.std.proofs.Common.{◌≡◌, ◌∙◌, ℕ, List, ◌+◌, ◌-◌, length, take, drop, subst, arith, rules, tests}
use Rattle.std.specs.Prelude.{MatchOption}
use Rattle.std.proofs.lemmas.Iterator.{YieldsList-from_slice}
use Rattle.std.proofs.lemmas.Iterator.Search.{position_from_yields_List}
use Rattle.std.proofs.lemmas.List.{length-drop, take_all}
use Rattle.caf_index.specs.Words.{is_line_end}
use Rattle.caf_index.specs.Chunks.{first_line}
use Rattle.caf_index.proofs.ChunkLemmas.{line-found}
use Rattle.caf_index.proofs.chunk.line_end.Goals as goal

slice-rest : (bytes : List ℕ) (from : ℕ) → take (length bytes - from) (drop from bytes) ≡ drop from bytes
slice-rest bytes from = let long : length (drop from bytes) ≡ length bytes - from = length-drop from bytes in take_all (length bytes - from) (drop from bytes) (omega (arith, long))

pub returns-in-Some : goal.returns-in-Some
returns-in-Some c =
    let rest = drop c.args.from c.args.bytes.now in
    let found = line-found rest _ (position_from_yields_List is_line_end _ _ c.position.result c.position.ensures.ran (YieldsList-from_slice rest (c.iter.ensures.rest ∙ slice-rest c.args.bytes.now c.args.from)) (λ x b q k. search (rules, tests))) in
    let size : length (first_line rest) ≡ c.in-Some.before + 1 = subst (λ o. MatchOption o (length (first_line rest) ≡ length rest) (λ p. length (first_line rest) ≡ p + 1)) c.in-Some.is found in
    omega (arith, size)

pub returns-in-None : goal.returns-in-None
returns-in-None c =
    let rest = drop c.args.from c.args.bytes.now in
    let found = line-found rest _ (position_from_yields_List is_line_end _ _ c.position.result c.position.ensures.ran (YieldsList-from_slice rest (c.iter.ensures.rest ∙ slice-rest c.args.bytes.now c.args.from)) (λ x b q k. search (rules, tests))) in
    let size : length (first_line rest) ≡ length rest = subst (λ o. MatchOption o (length (first_line rest) ≡ length rest) (λ p. length (first_line rest) ≡ p + 1)) c.in-None.is found in
    let long : length rest ≡ length c.args.bytes.now - c.args.from = length-drop c.args.from c.args.bytes.now in
    omega (arith, size, long, c.requires)

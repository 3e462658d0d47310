-- Lists over a span, written piece by piece.
use Rattle.std.proofs.Common.{◌≡◌, ℕ, suc, ◌+◌, ◌-◌, ◌<◌, List, [], ◌∷◌, ◌++◌, ap, sym, ◌∙◌, arith, append_assoc}
use Rattle.std.specs.Prelude.{flat_map, map}
use Rattle.caf_generator.specs.Generator.{span}

-- a span with something in it is its first index and the others
pub span-more : (first count rest : ℕ) → count ≡ rest + 1 → span first count ≡ first ∷ span (first + 1) rest
span-more first count rest is = let e : count ≡ suc rest = omega (arith, is) in ap (span first) e

-- a text and what is left to write are the whole, before and after one piece
pub piece-more : (f : ℕ → List ℕ) (first next count rest : ℕ) (text more whole : List ℕ) → count ≡ rest + 1 → next ≡ first + 1 → text ++ flat_map f (span first count) ≡ whole → more ≡ text ++ f first → more ++ flat_map f (span next rest) ≡ whole
piece-more f first next count rest text more whole is follows so_far step =
    ap (λ n. more ++ flat_map f (span n rest)) follows
    ∙ ap (λ t. t ++ flat_map f (span (first + 1) rest)) step
    ∙ append_assoc text (f first) (flat_map f (span (first + 1) rest))
    ∙ sym (ap (λ s. text ++ flat_map f s) (span-more first count rest is))
    ∙ so_far

-- the same of a list with one item for each index
pub item-more : (f : ℕ → List ℕ) (first count rest : ℕ) (items more whole : List (List ℕ)) → count ≡ rest + 1 → items ++ map f (span first count) ≡ whole → more ≡ items ++ f first ∷ [] → more ++ map f (span (first + 1) rest) ≡ whole
item-more f first count rest items more whole is so_far step =
    ap (λ t. t ++ map f (span (first + 1) rest)) step
    ∙ append_assoc items (f first ∷ []) (map f (span (first + 1) rest))
    ∙ sym (ap (λ s. items ++ map f s) (span-more first count rest is))
    ∙ so_far

-- Adding children up, one actor after the other.
use Rattle.std.proofs.Common.{◌≡◌, ℕ, ◌+◌, ◌<◌, List, ◌∷◌, drop, get_or, length, sym, ap, ◌∙◌}
use Rattle.std.proofs.lemmas.List.{drop_more}
use Rattle.caf_scenario.specs.declared.written.WrittenActor.{WrittenActor}
use Rattle.caf_scenario.specs.Many.{all_children}

pub children_more : (xs : List WrittenActor) (i : ℕ) (a : WrittenActor) → i < length xs → a ≡ get_or xs i a
    → all_children (drop i xs) ≡ a.children + all_children (drop (i + 1) xs)
children_more xs i a lt is = ap all_children (drop_more xs i a lt ∙ ap (λ (x : WrittenActor). x ∷ drop (i + 1) xs) (sym is))

-- What a row wrote is read as the values that it means, and reading it never stops.
use Rattle.std.proofs.Common.{◌≡◌, ℕ, true, List, [], Ok, Err, sym, ap, subst, ◌∙◌}
use Rattle.std.proofs.lemmas.List.{append-nil}
use Rattle.caf_types.specs.ShapeTree.{ShapeTree}
use Rattle.caf_words.specs.Datum.{Data, are_in_range}
use Rattle.caf_words.specs.Spelling.{spellings}
use Rattle.caf_words.specs.Several.{several, several_fit, SeveralSpell}
use Rattle.caf_words.proofs.SpellingLemmas.{got, ok_is}
use Rattle.caf_words.proofs.SeveralLemmas.{several_again, several_spelled}

-- words that are spellings are read to their end
pub read_whole : (fs : List ShapeTree) (ds : Data) (ws : List ℕ) → SeveralSpell fs ds ws → several fs ws ≡ Ok (ds, [])
read_whole fs ds ws s = subst (λ (xs : List ℕ). several fs xs ≡ Ok (ds, [])) (append-nil ws) (several_again fs ds ws [] s)

pub never_stops : (fs : List ShapeTree) (ds : Data) (ws : List ℕ) (n : ℕ) → SeveralSpell fs ds ws → several fs ws ≡ Err n → ⊥
never_stops fs ds ws n s e = let bad : got ds [] ≡ Err n = sym (read_whole fs ds ws s) ∙ e in absurd cc

pub is_means : (fs : List ShapeTree) (ds es : Data) (ws rest : List ℕ) → SeveralSpell fs ds ws → several fs ws ≡ Ok (es, rest) → es ≡ ds
is_means fs ds es ws rest s e = sym (ap (λ (p : Data × List ℕ). p.0) (ok_is (ds, []) (es, rest) (sym (read_whole fs ds ws s) ∙ e)))

-- the words that a value's elements were written as are their spellings
pub are_spelled : (fs gs : List ShapeTree) (ds : Data) (ws : List ℕ) → fs ≡ gs → ws ≡ spellings ds → several_fit gs ds ≡ true → are_in_range ds ≡ true → SeveralSpell fs ds ws
are_spelled fs gs ds ws f w fit range =
    subst (λ (hs : List ShapeTree). SeveralSpell hs ds ws) (sym f) (subst (λ (vs : List ℕ). SeveralSpell gs ds vs) (sym w) (several_spelled gs ds fit range))

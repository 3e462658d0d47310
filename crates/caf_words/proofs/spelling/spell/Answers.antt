use Rattle.std.proofs.Common.{◌≡◌, ◌++◌, ◌∙◌, List, ℕ, ap, sym, subst}
use Rattle.caf_words.specs.Spelling.{spelling, Spells}
use Rattle.caf_words.specs.Value.{datum}
use Rattle.caf_words.proofs.RangeLemmas.{is_spelled}
use Rattle.caf_words.proofs.spelling.spell.Goals as goal

pub returns-clause-spells : goal.returns-clause-spells
returns-clause-spells c = λ f e.
    let d = datum c.args.value.now in
    let words : c.of_vec.result ≡ spelling d =
    c.of_vec.ensures ∙ c.in_ok-write_value.ensures.spelled ∙ ap (λ (xs : List ℕ). xs ++ spelling d) c.new-words.ensures.items in
    subst (λ (ws : List ℕ). Spells f d ws) (sym words) (is_spelled f d e c.in_ok-write_value.ensures.in_range)

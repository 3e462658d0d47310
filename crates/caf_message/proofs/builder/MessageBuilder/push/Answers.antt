use Rattle.std.proofs.Common.{ℕ, List, ◌++◌, sym, ap, subst, ◌∙◌}
use Rattle.caf_words.specs.Value.{datum}
use Rattle.caf_words.specs.Spelling.{spelling, Spells}
use Rattle.caf_message.specs.Builder.{Built, BuiltFits}
use Rattle.caf_message.proofs.FitsLemmas.{built_pushed, built_fits_pushed}
use Rattle.caf_message.proofs.builder.MessageBuilder.push.Goals as goal

pub invariant_of-self-in_default : goal.invariant_of-self-in_default
invariant_of-self-in_default c =
    let words : List ℕ = c.self.inside.words.items in
    built_pushed c.self.inside.ids.items words c.write_word.new.words.items c.push_words.new.words.items c.args.id.0 (datum c.args.value.now)
    c.in_ok-write_word.ensures.spelled
    (c.in_default.ensures.added ∙ ap (λ (ws : List ℕ). words ++ ws) (c.as_slice.ensures ∙ c.in_ok-words.ensures.spelled))
    c.self.invariant

pub returns-clause-fits : goal.returns-clause-fits
returns-clause-fits c shape_of same fit =
    let words : List ℕ = c.self.inside.words.items in
    let spells : Spells c.requires.0 (datum c.args.value.now) (spelling (datum c.args.value.now)) =
    subst (λ (ws : List ℕ). Spells c.requires.0 (datum c.args.value.now) ws) c.in_ok-words.ensures.spelled (c.in_ok-words.ensures.spells c.requires.0 c.requires.2) in
    built_fits_pushed shape_of c.self.inside.ids.items words c.write_word.new.words.items c.push_words.new.words.items c.args.id.0 c.requires.0 (datum c.args.value.now)
    c.in_ok-write_word.ensures.spelled
    (c.in_default.ensures.added ∙ ap (λ (ws : List ℕ). words ++ ws) (c.as_slice.ensures ∙ c.in_ok-words.ensures.spelled))
    (same ∙ c.requires.1) spells
    (subst (λ (b : Built). BuiltFits shape_of b) (sym c.self.view_is) fit)

use Rattle.std.proofs.Common.{◌∙◌, sym, subst}
use Rattle.caf_words.specs.Spelling.{Spells}
use Rattle.caf_events.proofs.OfShapeLemmas.{is_of}
use Rattle.caf_inspect.proofs.WordSaverLemmas.{all_saved, all_spell}
use Rattle.caf_inspect.proofs.word_saver.WordSaver.finish.Goals as goal

pub returns-clause-form : goal.returns-clause-form
returns-clause-form c = λ f d fit saved. c.of_vec.ensures ∙ saved.form ∙ all_saved f d (is_of f d fit)

pub returns-clause-spelled : goal.returns-clause-spelled
returns-clause-spelled c = λ f d fit saved.
    subst (Spells f d) (sym (c.of_vec.ensures ∙ saved.form ∙ all_saved f d (is_of f d fit))) (all_spell f d (is_of f d fit) saved.range)

use Rattle.std.proofs.Common.{◌∙◌, ap}
use Rattle.caf_types.specs.TypeTable.{seen}
use Rattle.caf_words.specs.Spelling.{Spells}
use Rattle.caf_words.specs.Value.{datum}
use Rattle.caf_words.proofs.RangeLemmas.{is_kept}
use Rattle.caf_events.specs.Event.{events}
use Rattle.caf_events.proofs.TakingLemmas.{started, same_form}
use Rattle.caf_inspect.specs.Loader.{loader_left}
use Rattle.caf_inspect.specs.LoadAnswer.{WordsFailAt}
use Rattle.caf_inspect.proofs.word_loader.Loader+InWords.start.Goals as goal

pub returns : goal.returns
returns c = λ f h.
    let d = datum c.in_ok-value.value in
    let s = c.in_ok-value.ensures.found f h in
    let k = is_kept f d c.args.words.now s in
    started (λ d. Spells f d c.args.words.now) (WordsFailAt (seen c.args.table.now) c.args.id.0 c.args.words.now) f d (loader_left c.in_ok-loader-in-Some.loader) s k.fits
    (c.in_ok-loader-in-Some.ensures ∙ ap (λ g. events g d) (same_form _ _ (c.in-Some.ensures ∙ h)))

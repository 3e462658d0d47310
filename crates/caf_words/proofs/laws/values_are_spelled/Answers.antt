use Rattle.caf_words.proofs.RangeLemmas.{is_spelled, is_kept}
use Rattle.caf_words.proofs.SeveralLemmas.{several_spelled, several_kept}
use Rattle.caf_words.proofs.laws.values_are_spelled.Goals as goal

pub returns-clause-spelled : goal.returns-clause-spelled
returns-clause-spelled c = λ f d e r. is_spelled f d e r

pub returns-clause-fitting : goal.returns-clause-fitting
returns-clause-fitting c = λ f d ws s. let k = is_kept f d ws s in (k.fits, k.range, k.words)

pub returns-clause-several_spelled : goal.returns-clause-several_spelled
returns-clause-several_spelled c = λ fs ds e r. several_spelled fs ds e r

pub returns-clause-several_fitting : goal.returns-clause-several_fitting
returns-clause-several_fitting c = λ fs ds ws s. let k = several_kept fs ds ws s in (k.fits, k.range, k.words)

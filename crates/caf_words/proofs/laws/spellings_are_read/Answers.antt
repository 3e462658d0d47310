use Rattle.caf_words.proofs.SpellingLemmas.{is_read}
use Rattle.caf_words.proofs.SeveralLemmas.{several_again}
use Rattle.caf_words.proofs.laws.spellings_are_read.Goals as goal

pub returns-clause-one : goal.returns-clause-one
returns-clause-one c = λ f d a rest s. is_read f d a rest s

pub returns-clause-several : goal.returns-clause-several
returns-clause-several c = λ fs ds a rest s. several_again fs ds a rest s

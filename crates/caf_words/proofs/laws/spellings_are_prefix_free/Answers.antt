use Rattle.caf_words.proofs.SpellingLemmas.{one_spelling}
use Rattle.caf_words.proofs.laws.spellings_are_prefix_free.Goals as goal

pub returns : goal.returns
returns c = λ f d e a b x y s t same. one_spelling f d e a b x y s t same

use Rattle.caf_index.proofs.IndexLemmas.{keys-sorted}
use Rattle.caf_index.proofs.index.sorted_texts.Goals as goal

pub returns : goal.returns
returns c = keys-sorted (λ t. t.now) c.args.words.now.entries _ _ c.in_ok-texts.ensures.apart c.in_ok-texts.ensures.texts c.in_ok-sort.ensures.permutation c.in_ok-sort.ensures.sorted

use Rattle.caf_index.proofs.FilledLemmas.{postings-fill}
use Rattle.caf_index.proofs.laws.postings_fill_the_plain_index.Goals as goal

pub returns : goal.returns
returns c = postings-fill

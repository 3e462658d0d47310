use Rattle.caf_pipeline.proofs.PostingsLemmas.{postings_fit}
use Rattle.caf_pipeline.proofs.laws.postings_fit_a_message.Goals as goal

pub returns : goal.returns
returns c = postings_fit

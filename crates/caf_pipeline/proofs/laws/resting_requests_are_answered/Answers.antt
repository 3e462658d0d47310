use Rattle.caf_pipeline.proofs.AnsweredLemmas.{resting_requests_are_answered}
use Rattle.caf_pipeline.proofs.laws.resting_requests_are_answered.Goals as goal

pub returns : goal.returns
returns c = resting_requests_are_answered

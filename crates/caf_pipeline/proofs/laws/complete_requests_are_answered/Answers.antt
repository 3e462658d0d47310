use Rattle.caf_pipeline.proofs.ClosedLemmas.{complete_requests_are_answered}
use Rattle.caf_pipeline.proofs.laws.complete_requests_are_answered.Goals as goal

pub returns : goal.returns
returns c = complete_requests_are_answered

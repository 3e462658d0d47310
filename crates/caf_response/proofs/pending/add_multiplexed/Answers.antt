use Rattle.caf_response.proofs.FiledLemmas.{added-last, added-filed}
use Rattle.caf_response.proofs.pending.add_multiplexed.Goals as goal

pub returns-in-Ok-clause-added : goal.returns-in-Ok-clause-added
returns-in-Ok-clause-added c = added-last c.args.waiting c.args.multiplexed.now.entries _ c.requires c.in-Ok.ensures.entries

pub returns-in-Ok-clause-filed : goal.returns-in-Ok-clause-filed
returns-in-Ok-clause-filed c = added-filed c.args.waiting c.args.multiplexed.now.entries _ c.requires c.in-Ok.ensures.entries

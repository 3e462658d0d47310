use Rattle.caf_response.specs.Filed.{seen_as}
use Rattle.caf_response.proofs.NumberLemmas.{numbered-forgotten}
use Rattle.caf_response.proofs.pending.Pending.forget.Goals as goal

pub invariant_of-self : goal.invariant_of-self
invariant_of-self c =
    let self = c.self.inside in
    rw (c.clear.ensures.items, c.clear-2.ensures.empty, c.clear-3.ensures)
    (record { filed = tt; numbered = numbered-forgotten (seen_as self.next self.awaited.items self.multiplexed.entries self.due) c.self.invariant.numbered })

pub returns-clause-numbered : goal.returns-clause-numbered
returns-clause-numbered c =
    let self = c.self.inside in
    rw (c.clear.ensures.items, c.clear-2.ensures.empty, c.clear-3.ensures) (numbered-forgotten (seen_as self.next self.awaited.items self.multiplexed.entries self.due) c.self.invariant.numbered)

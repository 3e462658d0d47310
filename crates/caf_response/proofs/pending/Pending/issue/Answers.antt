use Rattle.caf_response.proofs.NumberLemmas.{numbered-put}
use Rattle.caf_response.proofs.pending.Pending.issue.Goals as goal

pub invariant_of-self-2 : goal.invariant_of-self-2
invariant_of-self-2 c =
    let self = c.self.inside in
    record {
      filed = c.in_ok-put.ensures.filed;
      numbered = numbered-put self.next self.awaited.items c.put.new.awaited.items self.multiplexed.entries c.put.new.multiplexed.entries self.due c.args.mode c.args.tag c.args.expected c.in_ok-put.ensures.awaited c.in_ok-put.ensures.multiplexed c.self.invariant.numbered;
    }

pub returns-clause-numbered : goal.returns-clause-numbered
returns-clause-numbered c =
    let self = c.self.inside in
    numbered-put self.next self.awaited.items c.put.new.awaited.items self.multiplexed.entries c.put.new.multiplexed.entries self.due c.args.mode c.args.tag c.args.expected c.in_ok-put.ensures.awaited c.in_ok-put.ensures.multiplexed c.self.invariant.numbered

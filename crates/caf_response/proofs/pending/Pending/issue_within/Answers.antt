use Rattle.std.proofs.Common.{◌≡◌, List, ℕ}
use Rattle.caf_response.specs.Pending.{AreNumbered}
use Rattle.caf_response.specs.Filed.{seen_as}
use Rattle.caf_response.proofs.NumberLemmas.{numbered-put_within, undone}
use Rattle.caf_response.proofs.pending.Pending.issue_within.Goals as goal
use Rattle.caf_response.proofs.pending.Pending.issue_within.Goals.{After-end}

pub invariant_of-self-in-Ok : goal.invariant_of-self-in-Ok
invariant_of-self-in-Ok c =
    let self = c.self.inside in
    record {
      filed = c.in-Ok.ensures.filed;
      numbered = numbered-put_within self.next self.awaited.items c.put.new.awaited.items self.multiplexed.entries c.put.new.multiplexed.entries self.due c.args.mode c.args.tag c.args.expected c.in-Ok.ensures.awaited c.in-Ok.ensures.multiplexed c.args.due c.set.new.self c.in_ok-set.ensures.set c.self.invariant.numbered c.set.ensures.ordered;
    }

pub returns-in-Ok-clause-numbered : goal.returns-in-Ok-clause-numbered
returns-in-Ok-clause-numbered c =
    let self = c.self.inside in
    numbered-put_within self.next self.awaited.items c.put.new.awaited.items self.multiplexed.entries c.put.new.multiplexed.entries self.due c.args.mode c.args.tag c.args.expected c.in-Ok.ensures.awaited c.in-Ok.ensures.multiplexed c.args.due c.set.new.self c.in_ok-set.ensures.set c.self.invariant.numbered c.set.ensures.ordered

due_back : (c : After-end) → c.end.new.self ≡ c.self.inside.due
due_back c =
    let self = c.self.inside in
    undone (seen_as self.next self.awaited.items self.multiplexed.entries self.due) c.args.due c.set.new.self c.end.new.self c.self.invariant.numbered c.in_ok-set.ensures.set c.end.ensures.ended

pub invariant_of-self-in-Err : goal.invariant_of-self-in-Err
invariant_of-self-in-Err c = rw (c.in-Err.ensures.same_awaited, c.in-Err.ensures.same_multiplexed, due_back c) c.self.invariant

pub returns-in-Err-clause-kept : goal.returns-in-Err-clause-kept
returns-in-Err-clause-kept c = rw (c.in-Err.ensures.same_awaited, c.in-Err.ensures.same_multiplexed, due_back c) c.self.view_is

pub returns-in-Err-clause-numbered : goal.returns-in-Err-clause-numbered
returns-in-Err-clause-numbered c = rw (c.in-Err.ensures.same_awaited, c.in-Err.ensures.same_multiplexed, due_back c) c.self.invariant.numbered

use Rattle.std.proofs.Common.{◌≡◌, Some, None, sym, subst}
use Rattle.caf_response.specs.Filed.{AreFiled, seen_as}
use Rattle.caf_response.specs.Pending.{AreNumbered, resolved}
use Rattle.caf_response.proofs.FiledLemmas.{filed-remove, resolved-multiplexed, resolved-awaited, no_resolved, is_some-resolve}
use Rattle.caf_response.proofs.NumberLemmas.{numbered-resolve, gone-resolve}
use Rattle.caf_response.proofs.pending.Pending.resolve.Goals as goal

-- ---- a multiplexed one

found_multiplexed : (c : goal.After-end) → Some (c.in-Some.waiting, seen_as c.self.inside.next c.self.inside.awaited.items c.remove.new.self.entries c.end.new.self) ≡ resolved c.args.self.now c.args.number
found_multiplexed c =
    let self = c.self.inside in
    resolved-multiplexed self.next c.args.number self.awaited.items self.multiplexed.entries c.remove.new.self.entries self.due c.args.self.now c.self.invariant.filed c.self.view_is c.end.new.self c.end.ensures.ended c.in-Some.waiting (sym c.in-Some.ensures.value) c.in-Some.ensures.entries

numbered_multiplexed : (c : goal.After-end) → AreNumbered (seen_as c.self.inside.next c.self.inside.awaited.items c.remove.new.self.entries c.end.new.self)
numbered_multiplexed c =
    numbered-resolve c.args.self.now c.args.number (subst AreNumbered c.self.view_is c.self.invariant.numbered) _ (Some c.in-Some.waiting) (found_multiplexed c) tt

pub invariant_of-self : goal.invariant_of-self
invariant_of-self c =
    record {
      filed = subst (AreFiled c.self.inside.next) (sym c.remove.ensures.entries) (filed-remove c.self.inside.next _ c.self.inside.multiplexed.entries c.self.invariant.filed);
      numbered = numbered_multiplexed c;
    }

pub returns-in-Some-clause-resolved : goal.returns-in-Some-clause-resolved
returns-in-Some-clause-resolved c = found_multiplexed c

pub returns-in-Some-clause-some : goal.returns-in-Some-clause-some
returns-in-Some-clause-some c = is_some-resolve c.args.self.now c.args.number (Some c.in-Some.waiting) _ (found_multiplexed c)

pub returns-in-Some-clause-gone : goal.returns-in-Some-clause-gone
returns-in-Some-clause-gone c =
    gone-resolve c.args.self.now c.args.number (subst AreNumbered c.self.view_is c.self.invariant.numbered) _ (Some c.in-Some.waiting) (found_multiplexed c) tt

pub returns-in-Some-clause-numbered : goal.returns-in-Some-clause-numbered
returns-in-Some-clause-numbered c = numbered_multiplexed c

-- ---- an awaited one

found_awaited : (c : goal.After-end-in-Some-take_awaited)
    → Some (c.in-Some-take_awaited.waiting, seen_as c.self.inside.next c.take_awaited.new.stack.items c.remove.new.self.entries c.end-in-Some-take_awaited.new.self) ≡ resolved c.args.self.now c.args.number
found_awaited c =
    let self = c.self.inside in
    resolved-awaited self.next c.args.number self.awaited.items self.multiplexed.entries c.remove.new.self.entries self.due c.args.self.now c.self.invariant.filed c.self.view_is c.end-in-Some-take_awaited.new.self c.end-in-Some-take_awaited.ensures.ended c.take_awaited.new.stack.items c.in-Some-take_awaited.waiting (sym c.in-None.ensures.value) c.in-None.ensures.unchanged c.in-Some-take_awaited.ensures.taken

numbered_awaited : (c : goal.After-end-in-Some-take_awaited) → AreNumbered (seen_as c.self.inside.next c.take_awaited.new.stack.items c.remove.new.self.entries c.end-in-Some-take_awaited.new.self)
numbered_awaited c =
    numbered-resolve c.args.self.now c.args.number (subst AreNumbered c.self.view_is c.self.invariant.numbered) _ (Some c.in-Some-take_awaited.waiting) (found_awaited c) tt

pub invariant_of-self-in-Some-take_awaited : goal.invariant_of-self-in-Some-take_awaited
invariant_of-self-in-Some-take_awaited c = record {
  filed = subst (AreFiled c.self.inside.next) (sym c.remove.ensures.entries) (filed-remove c.self.inside.next _ c.self.inside.multiplexed.entries c.self.invariant.filed);
  numbered = numbered_awaited c;
}

pub returns-in-Some-take_awaited-clause-resolved : goal.returns-in-Some-take_awaited-clause-resolved
returns-in-Some-take_awaited-clause-resolved c = found_awaited c

pub returns-in-Some-take_awaited-clause-some : goal.returns-in-Some-take_awaited-clause-some
returns-in-Some-take_awaited-clause-some c = is_some-resolve c.args.self.now c.args.number (Some c.in-Some-take_awaited.waiting) _ (found_awaited c)

pub returns-in-Some-take_awaited-clause-gone : goal.returns-in-Some-take_awaited-clause-gone
returns-in-Some-take_awaited-clause-gone c =
    gone-resolve c.args.self.now c.args.number (subst AreNumbered c.self.view_is c.self.invariant.numbered) _ (Some c.in-Some-take_awaited.waiting) (found_awaited c) tt

pub returns-in-Some-take_awaited-clause-numbered : goal.returns-in-Some-take_awaited-clause-numbered
returns-in-Some-take_awaited-clause-numbered c = numbered_awaited c

-- ---- none

found_none : (c : goal.In-None-take_awaited) → None ≡ resolved c.args.self.now c.args.number
found_none c =
    let self = c.self.inside in
    no_resolved self.next c.args.number self.awaited.items self.multiplexed.entries c.remove.new.self.entries self.due c.args.self.now c.self.invariant.filed c.self.view_is (sym c.in-None.ensures.value) c.in-None-take_awaited.ensures.taken

pub returns-in-None-take_awaited-clause-resolved : goal.returns-in-None-take_awaited-clause-resolved
returns-in-None-take_awaited-clause-resolved c = found_none c

pub returns-in-None-take_awaited-clause-some : goal.returns-in-None-take_awaited-clause-some
returns-in-None-take_awaited-clause-some c = is_some-resolve c.args.self.now c.args.number None c.args.self.now (found_none c)

pub returns-in-None-take_awaited-clause-gone : goal.returns-in-None-take_awaited-clause-gone
returns-in-None-take_awaited-clause-gone c =
    let self = c.self.inside in
    gone-resolve c.args.self.now c.args.number (subst AreNumbered c.self.view_is c.self.invariant.numbered)
    (seen_as self.next c.take_awaited.new.stack.items c.remove.new.self.entries self.due) None (found_none c)
    (rw (c.in-None-take_awaited.ensures.kept, c.in-None.ensures.unchanged) c.self.view_is)

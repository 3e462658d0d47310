use Rattle.std.proofs.Common.{◌∙◌, sym, ap, subst}
use Rattle.caf_response.specs.Pending.{without_due}
use Rattle.caf_response.proofs.DueLemmas.{AreFound, ended, no_count, without-none, found-without, updated-elsewhere}
use Rattle.caf_response.proofs.due.Due.end.Goals as goal

pub invariant_of-self : goal.invariant_of-self
invariant_of-self c =
    let self = c.self.inside in
    let counts = self.counts.entries in
    let others = c.remove.new.self.entries in
    record {
      ordered = c.remove-in-Some.ensures.ordered;
      found =
          subst (AreFound others)
          (sym (c.remove-in-Some.ensures.keys ∙ ended counts c.args.number c.in-Some.count self.in_order.keys c.self.invariant.ordered c.self.invariant.found (sym c.in-Some.ensures.value)))
          (found-without counts others c.args.number self.in_order.keys (updated-elsewhere counts others c.args.number _ c.in-Some.ensures.updates.0) c.self.invariant.found);
    }

pub returns-in-Some-clause-ended : goal.returns-in-Some-clause-ended
returns-in-Some-clause-ended c =
    let self = c.self.inside in
    c.remove-in-Some.ensures.keys
    ∙ ended self.counts.entries c.args.number c.in-Some.count self.in_order.keys c.self.invariant.ordered c.self.invariant.found (sym c.in-Some.ensures.value)
    ∙ ap (without_due c.args.number) c.self.view_is

pub returns-in-None-clause-ended : goal.returns-in-None-clause-ended
returns-in-None-clause-ended c =
    let self = c.self.inside in
    sym (without-none c.args.number self.in_order.keys (no_count self.counts.entries c.args.number self.in_order.keys c.self.invariant.found (sym c.in-None.ensures.value)))
    ∙ ap (without_due c.args.number) c.self.view_is

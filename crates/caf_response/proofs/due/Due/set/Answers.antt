use Rattle.std.proofs.Common.{List, sym, subst, ap, ◌∙◌}
use Rattle.std.specs.Prelude.{count_by}
use Rattle.caf_response.specs.Due.{AreCounted}
use Rattle.caf_response.specs.Pending.{is_due}
use Rattle.caf_response.proofs.DueLemmas.{AreFound, none_due, found-elsewhere, found-insert, updated-elsewhere}
use Rattle.caf_response.proofs.LineLemmas.{Key}
use Rattle.caf_response.proofs.due.Due.set.Goals as goal

pub invariant_of-self-in-Ok-insert : goal.invariant_of-self-in-Ok-insert
invariant_of-self-in-Ok-insert c =
    let self = c.self.inside in
    let counts = self.counts.entries in
    let others = c.insert.new.self.entries in
    record {
      ordered = c.in-Ok-insert.ensures.ordered;
      found =
          subst (AreFound others) (sym c.in-Ok-insert.ensures.keys)
          (found-insert others (c.args.count, c.args.number) self.in_order.keys c.in-Ok.ensures.updates.1
          (found-elsewhere counts others c.args.number self.in_order.keys (updated-elsewhere counts others c.args.number _ c.in-Ok.ensures.updates.0)
          (none_due c.args.number self.in_order.keys (ap (count_by (is_due c.args.number)) c.self.view_is ∙ c.requires)) c.self.invariant.found));
    }

pub invariant_of-self-in-Err-insert : goal.invariant_of-self-in-Err-insert
invariant_of-self-in-Err-insert c =
    let self = c.self.inside in
    let counts = self.counts.entries in
    let between = c.insert.new.self.entries in
    let others = c.remove.new.self.entries in
    subst (λ (ks : List Key). AreCounted ks others) (sym c.in-Err-insert.ensures.err) (record {
      ordered = c.self.invariant.ordered;
      found =
          found-elsewhere counts others c.args.number self.in_order.keys
          (λ q apart. updated-elsewhere between others c.args.number _ c.remove.ensures.updates.0 q apart ∙ updated-elsewhere counts between c.args.number _ c.in-Ok.ensures.updates.0 q apart)
          (none_due c.args.number self.in_order.keys (ap (count_by (is_due c.args.number)) c.self.view_is ∙ c.requires)) c.self.invariant.found;
    })

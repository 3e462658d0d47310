use Rattle.std.proofs.Common.{◌∙◌, ap, subst}
use Rattle.caf_response.specs.Pending.{AreNumbered, due_by}
use Rattle.caf_response.proofs.NumberLemmas.{some-expired}
use Rattle.caf_response.proofs.pending.Pending.expire.Goals as goal

pub returns-in-Some-clause-some : goal.returns-in-Some-clause-some
returns-in-Some-clause-some c =
    some-expired c.args.self.now c.in-Some.number c.args.now c.resolve.result (subst AreNumbered c.self.view_is c.self.invariant.numbered)
    (c.in-Some.ensures ∙ ap (λ r. due_by c.args.now r.due) c.self.view_is) c.resolve.ensures.some

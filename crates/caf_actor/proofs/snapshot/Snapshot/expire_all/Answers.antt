use Rattle.std.proofs.Common.{◌≡◌, ◌∙◌, sym, ap, arith, Option, Some}
use Rattle.caf_response.specs.declared.pending.Waiting.{Waiting}
use Rattle.caf_response.specs.Pending.{WaitingRequests, expired}
use Rattle.caf_actor.specs.PlainForms.{reached}
use Rattle.caf_actor.specs.Snapshot.{Handled}
use Rattle.caf_actor.specs.Ticking.{next_due, due_count, expire_all}
use Rattle.caf_actor.proofs.TickLemmas.{fewer_after, expire_step}
use Rattle.caf_actor.proofs.snapshot.Snapshot.expire_all.Goals as goal

pub loop-waiting-smaller : goal.loop-waiting-smaller
loop-waiting-smaller g c =
    let rules = g.B.Behavior.rules in
    let t : Handled g.row.B.Denot = reached c.loop-waiting.self c.loop-waiting.posts in
    let found : Waiting × WaitingRequests = (c.in-Some.waiting, c.expire.new.self) in
    let due : next_due c.loop-waiting.self ≡ Some found = ap (expired c.loop-waiting.self.pending) (sym c.ticks.ensures) ∙ sym c.in-Some.ensures.expired in
    let less = fewer_after rules t found due in
    let after = ap (λ (u : Handled g.row.B.Denot). due_count u.snapshot) c.in_ok-give.ensures in
    omega arith

pub loop-waiting-preserved : goal.loop-waiting-preserved
loop-waiting-preserved g c =
    let rules = g.B.Behavior.rules in
    let t : Handled g.row.B.Denot = reached c.loop-waiting.self c.loop-waiting.posts in
    let found : Waiting × WaitingRequests = (c.in-Some.waiting, c.expire.new.self) in
    let due : next_due c.loop-waiting.self ≡ Some found = ap (expired c.loop-waiting.self.pending) (sym c.ticks.ensures) ∙ sym c.in-Some.ensures.expired in
    sym (expire_step rules t found due ∙ ap (expire_all rules) c.in_ok-give.ensures) ∙ c.loop-waiting.invariant

use Rattle.std.proofs.Common.{◌+◌, subst, sym, ap, ◌∙◌}
use Rattle.caf_kinds.specs.Starting.{IsTypedStep}
use Rattle.caf_kinds.specs.Planning.{planned_step}
use Rattle.caf_kinds.proofs.PlanningLemmas.{one_of_all, planned_none, planned_more, planned_all}
use Rattle.caf_kinds.proofs.planning.script_of.Goals as goal

pub loop-before-init : goal.loop-before-init
loop-before-init c = planned_none c.args.places.now c.args.steps.now c.new-script.result c.new-script.ensures

pub planned-requires-clause-typed : goal.planned-requires-clause-typed
planned-requires-clause-typed c =
    let d = c.index-steps-before.result in
    subst (IsTypedStep c.args.places.now) (sym c.index-steps-before.is) (one_of_all (IsTypedStep c.args.places.now) c.args.steps.now c.loop-before.before d c.loop-before-test.true c.requires.typed)

pub loop-before-preserved : goal.loop-before-preserved
loop-before-preserved c =
    let places = c.args.places.now in
    let n = c.loop-before.before in
    planned_more places c.args.steps.now n c.index-steps-before.result c.loop-before.script c.add.new.self _ c.loop-before-test.true c.loop-before.invariant
    c.in_ok-add.ensures (c.in_ok-step.ensures.step ∙ ap (planned_step places (n + 1)) c.index-steps-before.is) c.in_ok-step.ensures.played

pub returns : goal.returns
returns c =
    let all = planned_all c.args.places.now c.args.steps.now c.loop-before.before c.loop-before.script c.loop-before-test.false c.requires.few c.loop-before.invariant in
    record { script = all.0; plan = all.1 }

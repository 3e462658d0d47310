use Rattle.std.proofs.Common.{◌≡◌, ℕ, length, subst, arith}
use Rattle.caf_kinds.specs.Planning.{IsBuiltTo}
use Rattle.caf_kinds.proofs.PlanningLemmas.{built_none}
use Rattle.caf_kinds.proofs.planning.builder_of.Goals as goal

pub loop-i-init : goal.loop-i-init
loop-i-init c = built_none c.args.types.now c.args.values.now c.new-builder.result c.new-builder.ensures.ids c.new-builder.ensures.words

pub returns : goal.returns
returns c =
    let over = c.loop-i-test.false in
    let within = c.loop-i.auto.i-end in
    subst (λ (n : ℕ). IsBuiltTo n c.args.types.now c.args.values.now c.loop-i.builder) (let same : c.loop-i.i ≡ length c.args.types.now = omega (arith, over, within) in same) c.loop-i.invariant

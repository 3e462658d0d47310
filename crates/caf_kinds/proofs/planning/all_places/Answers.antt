use Rattle.std.proofs.Common.{◌≡◌, ◌+◌, ℕ, List, [], ◌∷◌, ◌++◌, ap, sym, ◌∙◌, arith}
use Rattle.caf_kinds.specs.Planning.{places_from}
use Rattle.caf_kinds.proofs.PlanningLemmas.{places_more}
use Rattle.caf_kinds.proofs.planning.all_places.Goals as goal

pub loop-before-preserved : goal.loop-before-preserved
loop-before-preserved c = c.in_ok-push.ensures.added ∙ ap (λ (ps : List ℕ). ps ++ (c.loop-before.before + 1) ∷ []) c.loop-before.invariant ∙ sym (places_more c.loop-before.before)

pub returns : goal.returns
returns c =
    let over = c.loop-before-test.false in
    let within = c.loop-before.auto.before-end in
    c.loop-before.invariant ∙ ap (places_from 1) (let same : c.loop-before.before ≡ c.args.count = omega (arith, over, within) in same)

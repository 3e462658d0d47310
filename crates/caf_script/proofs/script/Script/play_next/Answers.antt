use Rattle.std.proofs.Common.{List, [], ◌∷◌, ap, sym, ◌∙◌}
use Rattle.caf_script.specs.Step.{Step, plain_step}
use Rattle.caf_script.proofs.script.Script.play_next.Goals as goal

pub returns-in-Some-clause-left : goal.returns-in-Some-clause-left
returns-in-Some-clause-left c =
    let step = plain_step c.in-Some.step in
    (step ∷ [], c.in-Some.ensures ∙ ap (λ (plan : List Step). step ∷ plan) (sym c.play_step.ensures.plan))

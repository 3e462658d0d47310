use Rattle.std.proofs.Common.{List, [], ◌∷◌, ◌++◌, map, take, get_or, ap, sym, ◌∙◌, append_assoc}
use Rattle.std.proofs.lemmas.List.{map_push, map_more}
use Rattle.caf_actor.specs.PlainOutput.{PlainOutput}
use Rattle.caf_actor.specs.PlainForms.{plain_output}
use Rattle.caf_scripted.specs.Scripted.{signal_output}
use Rattle.caf_scripted.proofs.scripted.signal_all.Goals as goal

pub loop-to-preserved : goal.loop-to-preserved
loop-to-preserved c =
    let before : List PlainOutput = map plain_output c.args.outputs.now in
    ap (map plain_output) c.in_ok-push.ensures.added
    ∙ map_push plain_output c.loop-to.outputs c.signal_output-output.result
    ∙ (λ k. c.loop-to.invariant k ++ (c.signal_output-output.ensures k) ∷ [])
    ∙ append_assoc before (map (signal_output c.args.signal) (take c.loop-to.to-index c.args.places.now)) (signal_output c.args.signal (get_or c.args.places.now c.loop-to.to-index 0) ∷ [])
    ∙ ap (λ (xs : List PlainOutput). before ++ xs) (sym (map_more (signal_output c.args.signal) c.args.places.now c.loop-to.to-index 0 c.loop-to-test.true))

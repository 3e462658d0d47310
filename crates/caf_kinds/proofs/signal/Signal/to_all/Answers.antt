use Rattle.std.proofs.Common.{[], ◌∷◌, ◌++◌, map, ap, sym, ◌∙◌}
use Rattle.std.proofs.lemmas.List.{map_push, map_more}
use Rattle.caf_actor.specs.PlainForms.{plain_output}
use Rattle.caf_kinds.specs.Signals.{signalled}
use Rattle.caf_kinds.proofs.signal.Signal.to_all.Goals as goal

pub loop-place-preserved : goal.loop-place-preserved
loop-place-preserved c =
    ap (map plain_output) c.in_ok-push.ensures.added
    ∙ map_push plain_output c.loop-place.outputs c.to-output.result
    ∙ (λ k. c.loop-place.invariant k ++ (c.to-output.ensures k) ∷ [])
    ∙ sym (map_more (signalled c.args.self) c.args.places.now c.loop-place.place-index 0 c.loop-place-test.true)

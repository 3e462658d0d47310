use Rattle.std.proofs.Common.{◌∷◌, [], refl, ap, map, ◌∙◌}
use Rattle.std.proofs.lemmas.List.{map-append}
use Rattle.caf_actor.specs.PlainForms.{plain_output}
use Rattle.caf_kinds.proofs.AskedLemmas.{typed_as}
use Rattle.example_bank.proofs.contents.ask.Goals as goal

pub returns : goal.returns
returns g c =
    ap (map plain_output) c.in_ok-push.ensures.added ∙ map-append plain_output c.args.outputs.now (_ ∷ [])
    ∙ rw (typed_as c.in_ok-types.types (2 ∷ []) c.in_ok-types.ensures, c.in_ok-message.ensures) refl

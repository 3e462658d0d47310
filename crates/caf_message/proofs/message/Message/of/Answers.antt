use Rattle.std.proofs.Common.{ap, ◌∙◌}
use Rattle.caf_steps.specs.declared.reference.Reference.{Reference}
use Rattle.caf_message.proofs.FitsLemmas.{row_content}
use Rattle.caf_message.proofs.message.Message.of.Goals as goal

pub invariant_of-result : goal.invariant_of-result
invariant_of-result g c =
    row_content c.in_ok-tuple.tuple.content g.T.Row.ids g.T.Row.shapes (g.T.Row.means c.args.row.now) g.met.T.Row.one_shape_each c.in_ok-content.ensures.values
    (ap (λ (r : Reference). r.content) c.in_ok-tuple.ensures.made ∙ c.as_slice.ensures.value ∙ c.in_ok-content.ensures.words)

use Rattle.std.proofs.Common.{◌∙◌}
use Rattle.caf_message.proofs.FitsLemmas.{row_content}
use Rattle.caf_message.proofs.message.Message.replace.Goals as goal

pub invariant_of-self-2 : goal.invariant_of-self-2
invariant_of-self-2 g c =
    row_content c.exchange_words.new.tuple.content g.T.Row.ids g.T.Row.shapes (g.T.Row.means c.args.row.now) g.met.T.Row.one_shape_each c.in_ok-content.ensures.values
    (c.in_ok-replaced.ensures.content ∙ c.as_slice.ensures.value ∙ c.in_ok-content.ensures.words)

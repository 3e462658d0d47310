use Rattle.caf_words.proofs.SeveralLemmas.{several_spelled}
use Rattle.caf_message.proofs.row.content.Goals as goal

pub returns-clause-values : goal.returns-clause-values
returns-clause-values g c =
    several_spelled g.T.Row.shapes (g.T.Row.means c.args.row.now) (g.met.T.Row.are_of_shapes c.args.row.now) c.in_ok-write_words.ensures.in_range

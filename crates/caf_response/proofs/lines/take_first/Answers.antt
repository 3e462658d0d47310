use Rattle.std.proofs.Common.{◌∙◌}
use Rattle.caf_response.proofs.LineLemmas.{taken-first, least-first}
use Rattle.caf_response.proofs.lines.take_first.Goals as goal

pub returns-in-Some-clause-taken : goal.returns-in-Some-clause-taken
returns-in-Some-clause-taken g c = c.take_out.ensures.taken ∙ taken-first g.T.Lined.key _ c.args.lines.now.entries c.requires c.in-Some.ensures.first

pub returns-in-Some-clause-least : goal.returns-in-Some-clause-least
returns-in-Some-clause-least g c =
    least-first g.T.Lined.key _ c.args.lines.now.entries c.requires c.in-Some.ensures.first c.in-Some.ensures.least c.take_out.result _
    (c.take_out.ensures.taken ∙ taken-first g.T.Lined.key _ c.args.lines.now.entries c.requires c.in-Some.ensures.first)

use Rattle.std.proofs.Common.{◌∙◌}
use Rattle.caf_response.proofs.LineLemmas.{within-first, not_within-first, none_within}
use Rattle.caf_response.proofs.lines.take_within.Goals as goal

pub returns-else-key-most-clause-taken : goal.returns-else-key-most-clause-taken
returns-else-key-most-clause-taken g c =
    c.take_out.ensures.taken ∙ within-first g.T.Lined.key c.args.most c.in-Some.key c.args.lines.now.entries c.requires c.in-Some.ensures.first c.if-key-most.false

pub returns-then-key-most-clause-taken : goal.returns-then-key-most-clause-taken
returns-then-key-most-clause-taken g c =
    not_within-first g.T.Lined.key c.args.most c.in-Some.key c.args.lines.now.entries c.requires c.in-Some.ensures.first c.if-key-most.true

pub returns-in-None-clause-taken : goal.returns-in-None-clause-taken
returns-in-None-clause-taken g c = none_within g.T.Lined.key c.args.most c.args.lines.now.entries c.in-None.ensures.first

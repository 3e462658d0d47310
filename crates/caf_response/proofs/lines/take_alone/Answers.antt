use Rattle.std.proofs.Common.{sym, subst}
use Rattle.caf_response.specs.Lines.{AreFiled}
use Rattle.caf_response.proofs.LineLemmas.{alone-taken, filed-remove, taken-none}
use Rattle.caf_response.proofs.lines.take_alone.Goals as goal

pub returns-in-Some-clause-taken : goal.returns-in-Some-clause-taken
returns-in-Some-clause-taken g c =
    alone-taken g.T.Lined.key c.args.key c.args.lines.now.entries _ c.in-Some.line c.into_only.result c.requires.filed (sym c.in-Some.ensures.value) c.requires.alone c.in-Some.ensures.entries c.into_only.ensures

pub returns-in-Some-clause-filed : goal.returns-in-Some-clause-filed
returns-in-Some-clause-filed g c = subst (AreFiled g.T.Lined.key) (sym c.remove.ensures.entries) (filed-remove g.T.Lined.key _ c.args.lines.now.entries c.requires.filed)

pub returns-in-None-clause-taken : goal.returns-in-None-clause-taken
returns-in-None-clause-taken g c = sym (taken-none g.T.Lined.key c.args.key c.args.lines.now.entries c.requires.filed (sym c.in-None.ensures.value))

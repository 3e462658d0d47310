use Rattle.std.proofs.Common.{sym}
use Rattle.caf_response.proofs.LineLemmas.{several-taken, several-kept, several-filed}
use Rattle.caf_response.proofs.lines.take_of_several.Goals as goal

pub returns-in-Some-clause-taken : goal.returns-in-Some-clause-taken
returns-in-Some-clause-taken g c =
    several-taken g.T.Lined.key c.args.key c.args.lines.now.entries _ c.in-Some.line.now c.take_first.new.self c.requires (sym c.in-Some.ensures.value) (c.get_mut.follows.holds c.take_first.new.self).0 c.take_first.result c.take_first.ensures

pub returns-in-Some-clause-kept : goal.returns-in-Some-clause-kept
returns-in-Some-clause-kept g c =
    several-kept g.T.Lined.key c.args.key c.args.lines.now.entries _ c.in-Some.line.now c.take_first.new.self c.requires (sym c.in-Some.ensures.value) (c.get_mut.follows.holds c.take_first.new.self).0 c.take_first.result c.take_first.ensures

pub returns-in-Some-clause-filed : goal.returns-in-Some-clause-filed
returns-in-Some-clause-filed g c =
    several-filed g.T.Lined.key c.args.key c.args.lines.now.entries _ c.in-Some.line.now c.take_first.new.self c.requires (sym c.in-Some.ensures.value) (c.get_mut.follows.holds c.take_first.new.self).0 c.take_first.result c.take_first.ensures

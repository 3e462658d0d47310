use Rattle.std.proofs.Common.{sym}
use Rattle.caf_response.proofs.LineLemmas.{added-held, added-kept, added-filed}
use Rattle.caf_response.proofs.lines.add_to.Goals as goal

pub returns-in-Some-clause-added : goal.returns-in-Some-clause-added
returns-in-Some-clause-added g c =
    added-held g.T.Lined.key _ c.args.item (sym c.key-key.ensures) c.args.lines.now.entries _ c.requires c.get_mut.ensures.ordered c.in-Some.line.now c.add.new.self (sym c.in-Some.ensures.value) (c.get_mut.follows.holds c.add.new.self).0 c.add.result c.add.ensures.added

pub returns-in-Some-clause-kept : goal.returns-in-Some-clause-kept
returns-in-Some-clause-kept g c =
    added-kept g.T.Lined.key _ c.args.item (sym c.key-key.ensures) c.args.lines.now.entries _ c.requires c.get_mut.ensures.ordered c.in-Some.line.now c.add.new.self (sym c.in-Some.ensures.value) (c.get_mut.follows.holds c.add.new.self).0 c.add.result c.add.ensures.kept

pub returns-in-Some-clause-filed : goal.returns-in-Some-clause-filed
returns-in-Some-clause-filed g c =
    added-filed g.T.Lined.key _ c.args.item (sym c.key-key.ensures) c.args.lines.now.entries _ c.requires c.get_mut.ensures.ordered c.in-Some.line.now c.add.new.self (sym c.in-Some.ensures.value) (c.get_mut.follows.holds c.add.new.self).0 c.add.result c.add.ensures.added c.add.ensures.kept

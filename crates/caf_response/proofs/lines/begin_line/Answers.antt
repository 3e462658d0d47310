use Rattle.std.proofs.Common.{refl}
use Rattle.caf_response.proofs.LineLemmas.{begun-held, begun-filed}
use Rattle.caf_response.proofs.lines.begin_line.Goals as goal

pub returns-in-Ok-clause-added : goal.returns-in-Ok-clause-added
returns-in-Ok-clause-added g c =
    begun-held g.T.Lined.key c.args.key c.args.item c.requires.key c.args.lines.now.entries _ c.requires.filed c.requires.new (record { first = c.args.item; later = c.new.result }) refl c.new.ensures.items c.in-Ok.ensures.entries

pub returns-in-Ok-clause-filed : goal.returns-in-Ok-clause-filed
returns-in-Ok-clause-filed g c =
    begun-filed g.T.Lined.key c.args.key c.args.item c.requires.key c.args.lines.now.entries _ c.requires.filed c.requires.new (record { first = c.args.item; later = c.new.result }) refl c.new.ensures.items c.in-Ok.ensures.entries

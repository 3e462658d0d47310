use Rattle.std.proofs.Common.{◌∙◌, sym, ap}
use Rattle.caf_mailbox.specs.Arrived.{arrived, all_arrived}
use Rattle.caf_mailbox.specs.Line.{taken_where}
use Rattle.caf_mailbox.proofs.SearchLemmas.{removed}
use Rattle.caf_mailbox.proofs.queue.take_at.Goals as goal

pub returns-else-found-eq0-clause-taken : goal.returns-else-found-eq0-clause-taken
returns-else-found-eq0-clause-taken c =
    removed arrived c.args.queue.now.items c.remove.new.self.items c.args.queue.now.len c.in-Some.found.position c.remove.result c.args.queue.now.ok.0 c.remove.ensures.value c.remove.ensures.items c.remove.ensures.variant
    ∙ ap (taken_where (all_arrived c.args.queue.now.items)) (sym c.in-Some.is)

use Rattle.caf_message.specs.Envelope.{plain_envelope}
use Rattle.caf_mailbox.proofs.SearchLemmas.{removed}
use Rattle.caf_mailbox.proofs.search.take_out.Goals as goal

pub returns-clause-taken : goal.returns-clause-taken
returns-clause-taken c =
    removed plain_envelope c.args.list.now.items c.remove.new.self.items c.args.list.now.len c.args.position c.remove.result c.args.list.now.ok.0 c.remove.ensures.value c.remove.ensures.items c.remove.ensures.variant

use Rattle.caf_message.specs.Envelope.{is_content}
use Rattle.caf_mailbox.specs.Arrived.{all_arrived}
use Rattle.caf_mailbox.proofs.LineLemmas.{found_no_class}
use Rattle.caf_mailbox.proofs.queue.first_content.Goals as goal
use Rattle.std.proofs.Common.{refl}

pub returns-then-not-takes_contents-clause-found : goal.returns-then-not-takes_contents-clause-found
returns-then-not-takes_contents-clause-found g c =
    found_no_class (g.E.Eligible.test c.args.test.now) (all_arrived c.args.queue.now.items) is_content (c.if-not-takes_contents.ensures refl) c.requires.class

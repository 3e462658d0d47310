use Rattle.caf_message.specs.Envelope.{plain_envelope}
use Rattle.caf_message.specs.declared.envelope.Envelope.{Envelope}
use Rattle.caf_mailbox.proofs.NextLemmas.{none_first}
use Rattle.caf_mailbox.proofs.caches.Caches.pop_any.Goals as goal

pub returns-clause-none : goal.returns-clause-none
returns-clause-none c = none_first (λ (e : Envelope). (plain_envelope e, c.next.new.self)) c.next.result c.args.self.now c.next.ensures.next

use Rattle.std.proofs.Common.{sym, refl}
use Rattle.caf_mailbox.proofs.ResponseLemmas.{last_full}
use Rattle.caf_mailbox.proofs.responses.is_last_free.Goals as goal

pub returns-then-is_some-clause-full : goal.returns-then-is_some-clause-full
returns-then-is_some-clause-full c = λ first.
    last_full c.args.slots.now.entries (c.in-Some.field-0-0.now, c.in-Some.slot.now) (c.in-Some.ensures.variant.0 refl) c.in-Some.ensures.last (sym c.if-is_some.ensures) first

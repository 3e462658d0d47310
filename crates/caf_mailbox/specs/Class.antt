-- The classes of envelopes.
use Rattle.std.specs.Prelude.{Bool}
use Rattle.caf_message.specs.declared.envelope.Taken.{Taken}
use Rattle.caf_message.specs.Envelope.{is_system, is_response, is_content}
use Rattle.caf_mailbox.specs.declared.class.Class.{Class}
use Rattle.caf_mailbox.specs.declared.class.Class.TheVariants.{Notice, Response, Content}

abbrev pub is_of : Class → Taken → Bool
is_of Notice e = is_system e
is_of Response e = is_response e
is_of Content e = is_content e

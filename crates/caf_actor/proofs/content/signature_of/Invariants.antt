use Rattle.std.proofs.Common.{◌≡◌, drop}
use Rattle.caf_message.specs.Content.{ids_in}
use Rattle.caf_actor.specs.Rules.{signature_for}
use Rattle.caf_actor.proofs.content.signature_of.Given as goal

-- none before it has the types
abbrev pub invariant-loop-signature : goal.invariant-loop-signature
invariant-loop-signature l = record {
  same : signature_for (drop l.signature-index l.signature-items) (ids_in l.fn.message.content) ≡ signature_for l.fn.interface (ids_in l.fn.message.content);
  kept : l.message.content ≡ l.fn.message.content;
}

use Rattle.std.proofs.Common.{arith, map}
use Rattle.caf_message.specs.Envelope.{plain_envelope}
use Rattle.caf_mailbox.specs.Line.{in_line}
use Rattle.caf_mailbox.proofs.SearchLemmas.{length_map}
use Rattle.caf_mailbox.proofs.FilingLemmas.{counted}
use Rattle.caf_mailbox.proofs.caches.Caches.add.Goals as goal

pub invariant_of-self : goal.invariant_of-self
invariant_of-self c =
    let more = counted (in_line c.self.inside.urgent) (in_line c.self.inside.normal) (in_line c.add_batch.new.urgent) (in_line c.add_batch.new.normal) (map plain_envelope c.args.batch) c.in-Ok.ensures.urgent c.in-Ok.ensures.normal in
    let before = c.self.invariant.counted in
    let len = length_map plain_envelope c.args.batch in
    record {
      kept = c.in-Ok.ensures.kept;
      urgent_places = c.in-Ok.ensures.urgent_places;
      normal_places = c.in-Ok.ensures.normal_places;
      counted = omega (arith, more, before, len, c.len-more.ensures);
    }

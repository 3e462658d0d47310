use Rattle.std.proofs.Common.{◌≡◌, ◌∙◌, suc, sym, ap, is_some, arith}
use Rattle.caf_message.specs.Envelope.{plain_envelope}
use Rattle.caf_mailbox.specs.Caches.{has_eligible}
use Rattle.caf_mailbox.specs.Kept.{both}
use Rattle.caf_mailbox.proofs.CachesLemmas.{some_next}
use Rattle.caf_mailbox.proofs.NextLemmas.{cached, cached_next}
use Rattle.caf_mailbox.proofs.caches.Caches.next_past.Goals as goal

pub invariant_of-self : goal.invariant_of-self
invariant_of-self g c =
    let h = c.in_err-envelope.ensures in
    let kept = c.self.invariant.kept in record {
      kept = record { urgent = h.urgent; normal = h.normal; urgent_up_to = h.urgent_up_to _ kept.urgent_up_to; normal_up_to = h.normal_up_to _ kept.normal_up_to };
      urgent_places = h.urgent_places;
      normal_places = h.normal_places;
      counted = c.self.invariant.counted ∙ sym (ap cached h.kept);
    }

pub returns-in_err-envelope-clause-some : goal.returns-in_err-envelope-clause-some
returns-in_err-envelope-clause-some g c =
    let test = g.E.Eligible.test c.args.test.now in
    ap is_some c.from_residual.ensures ∙ ap is_some c.in_err-envelope.ensures.next ∙ some_next test (both c.self.inside.urgent c.self.inside.normal) ∙ ap (has_eligible test) c.self.view_is

pub invariant_of-self-2 : goal.invariant_of-self-2
invariant_of-self-2 g c =
    let h = c.in_ok-envelope.ensures in
    let kept = c.self.invariant.kept in
    let old = both c.self.inside.urgent c.self.inside.normal in
    let new = both c.take_either.new.urgent c.take_either.new.normal in
    let less : cached old ≡ suc (cached new) = cached_next (g.E.Eligible.test c.args.test.now) old (plain_envelope c.in_ok-envelope.envelope, new) (sym h.next) in
    let count = c.self.invariant.counted in
    record {
      kept = record { urgent = h.urgent; normal = h.normal; urgent_up_to = h.urgent_up_to _ kept.urgent_up_to; normal_up_to = h.normal_up_to _ kept.normal_up_to };
      urgent_places = h.urgent_places;
      normal_places = h.normal_places;
      counted = omega (arith, less, count);
    }

pub returns-clause-some : goal.returns-clause-some
returns-clause-some g c =
    let test = g.E.Eligible.test c.args.test.now in
    ap is_some c.in_ok-envelope.ensures.next ∙ some_next test (both c.self.inside.urgent c.self.inside.normal) ∙ ap (has_eligible test) c.self.view_is

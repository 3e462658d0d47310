use Rattle.std.proofs.Common.{◌∙◌, sym, ap, arith, subst}
use Rattle.caf_types.specs.Table.{shape_at}
use Rattle.caf_types.specs.TypeTable.{seen}
use Rattle.caf_message.specs.declared.envelope.Taken.{Taken}
use Rattle.caf_message.specs.Envelope.{EnvelopeFits, plain_envelope}
use Rattle.caf_actor.specs.PlainForms.{reached}
use Rattle.caf_actor.specs.declared.snapshot.Snapshot.{Snapshot}
use Rattle.caf_actor.specs.Snapshot.{Handled, with_snapshot, cached}
use Rattle.caf_actor.specs.Drain.{drain}
use Rattle.caf_mailbox.specs.Passed.{IsPassed}
use Rattle.caf_mailbox.proofs.NextLemmas.{AllCached}
use Rattle.caf_actor.proofs.CachedLemmas.{left_envelope, all_cached_one, cached_one}
use Rattle.caf_actor.specs.Eligibility.{is_eligible}
use Rattle.caf_actor.proofs.DrainLemmas.{drain_step}
use Rattle.caf_actor.proofs.EffectLemmas.{passed_on}
use Rattle.caf_actor.proofs.snapshot.Snapshot.drain.Goals as goal

pub loop-envelope-smaller : goal.loop-envelope-smaller
loop-envelope-smaller g c =
    let rules = g.B.Behavior.rules in
    let left = left_envelope rules (λ (e : Taken). Unit {0}) c.loop-envelope.self (plain_envelope c.in-Some.envelope, c.take_next.new.self) (sym c.in-Some.ensures.next) in
    let fewer = left.shorter in
    let less = cached_one rules (reached c.take_next.new.self c.loop-envelope.posts) (plain_envelope c.in-Some.envelope) in
    let after = ap (λ (t : Handled g.row.B.Denot). cached t.snapshot) c.in_ok-effect.ensures.handled in
    omega arith

pub loop-envelope-preserved : goal.loop-envelope-preserved
loop-envelope-preserved g c =
    let rules = g.B.Behavior.rules in
    let shape_of = shape_at (seen c.args.table.now) in
    let t : Handled g.row.B.Denot = reached c.loop-envelope.self c.loop-envelope.posts in
    let p : Taken × Snapshot g.row.B.Denot = (plain_envelope c.in-Some.envelope, c.take_next.new.self) in
    let left = left_envelope rules (EnvelopeFits shape_of) c.loop-envelope.self p (sym c.in-Some.ensures.next) in
    let others = left.others (c.loop-envelope.invariant.fits.urgent, c.loop-envelope.invariant.fits.normal) in
    let fit = all_cached_one rules (EnvelopeFits shape_of) (with_snapshot t p.1) p.0 others in
    let after = subst (λ (u : Handled g.row.B.Denot). AllCached (EnvelopeFits shape_of) u.snapshot.caches) c.in_ok-effect.ensures.handled fit in
    record {
      same = sym (drain_step rules t p (sym c.in-Some.ensures.next) ∙ ap (drain rules) c.in_ok-effect.ensures.handled) ∙ c.loop-envelope.invariant.same;
      fits = record { urgent = after.0; normal = after.1 };
      passed =
          subst (IsPassed (is_eligible rules c.handle.new.self) c.handle.new.self.caches) (sym c.passed_after-passed.ensures)
          (passed_on rules c.take_next.new.self c.handle.new.self c.in_ok-effect.effect c.take_next.new.passed c.in_ok-effect.ensures.same c.in-Some.ensures.passed);
    }

pub handle-requires-clause-fits : goal.handle-requires-clause-fits
handle-requires-clause-fits g c =
    let shape_of = shape_at (seen c.args.table.now) in
    let left = left_envelope g.B.Behavior.rules (EnvelopeFits shape_of) c.loop-envelope.self (plain_envelope c.in-Some.envelope, c.take_next.new.self) (sym c.in-Some.ensures.next) in
    left.it (c.loop-envelope.invariant.fits.urgent, c.loop-envelope.invariant.fits.normal)

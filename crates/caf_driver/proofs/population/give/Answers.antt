use Rattle.std.proofs.Common.{map, nat_lt, ap, ◌∙◌, arith}
use Rattle.caf_types.specs.Table.{shape_at}
use Rattle.caf_types.specs.TypeTable.{seen}
use Rattle.caf_message.specs.Entries.{entry_shape}
use Rattle.caf_message.specs.Envelope.{plain_envelope}
use Rattle.caf_message.proofs.FitsLemmas.{entry_shapes_stand}
use Rattle.caf_actor.proofs.StampLemmas.{place_stays}
use Rattle.caf_driver.proofs.FitLemmas.{all_more_fit}
use Rattle.caf_driver.proofs.IdleLemmas.{drained_idle}
use Rattle.caf_driver.proofs.population.give.Goals as goal

pub batch-requires-clause-fits : goal.batch-requires-clause-fits
batch-requires-clause-fits g c =
    let entries = g.B.Entries.entries in
    let table = seen c.args.table.now in
    all_more_fit (entry_shape entries) (shape_at table) (entry_shapes_stand table entries c.requires.entries) (map plain_envelope c.args.batch) c.requires.fits

pub batch-requires-clause-lists_fit : goal.batch-requires-clause-lists_fit
batch-requires-clause-lists_fit g c = λ whole.
    let entries = g.B.Entries.entries in
    let table = seen c.args.table.now in
    let more = all_more_fit (entry_shape entries) (shape_at table) (entry_shapes_stand table entries c.requires.entries) in
    record { urgent = more c.args.actor.now.snapshot.caches.urgent c.requires.caches.urgent; normal = more c.args.actor.now.snapshot.caches.normal c.requires.caches.normal }

pub returns : goal.returns
returns g c =
    let rules = g.B.Behavior.rules in
    let entries = g.B.Entries.entries in
    let es = map plain_envelope c.args.batch in
    let old = c.args.actor.now in
    let b = c.in_ok-posts.ensures in
    record {
      played = record { snapshot = b.snapshot; journal = b.journal; handled = b.handled };
      same_posts = b.posts;
      same_stamp = c.stamp-stamp.ensures;
      more =
          let first = c.handled-before.ensures in
          let then = c.handled.ensures in
          let counted = b.handled in
          let low = c.handled-before.type_inv in
          omega arith;
      ready = λ n p h leads. record {
        whole = b.whole.1;
        work = b.work;
        place = ap (λ s. s.place) b.snapshot ∙ place_stays rules old.snapshot es ∙ h.place;
        known = b.within (λ q. nat_lt q n) h.known leads;
        caches = b.fit (entry_shape entries) h.caches c.requires.fits;
        delays = b.delays_fit h.caches h.delays c.requires.fits;
        idle = rw b.snapshot (drained_idle rules old.snapshot es);
      };
      goes = λ n p h leads. b.receivers (λ q. nat_lt q n) h.known leads;
      fits = λ n p h. b.posts_fit h.caches h.delays c.requires.fits;
    }

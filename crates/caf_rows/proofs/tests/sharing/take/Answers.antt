use Rattle.std.proofs.Common.{map}
use Rattle.std.specs.List.{AllByRecursion}
use Rattle.caf_types.specs.TypeTable.{seen}
use Rattle.caf_message.specs.Entries.{entry_shape}
use Rattle.caf_message.specs.Envelope.{EnvelopeFits, plain_envelope}
use Rattle.caf_kinds.specs.Core.{core_entries}
use Rattle.caf_rows.proofs.CoreLemmas.{core_has}
use Rattle.caf_rows.proofs.FittingLemmas.{all_fit, caches_fit, posts_fit}
use Rattle.caf_rows.proofs.tests.sharing.take.Goals as goal

pub batch-requires-clause-entries : goal.batch-requires-clause-entries
batch-requires-clause-entries c = core_has (seen c.args.table.now) c.requires.table

pub batch-requires-clause-fits : goal.batch-requires-clause-fits
batch-requires-clause-fits c =
    let one : AllByRecursion (EnvelopeFits (entry_shape core_entries)) (map plain_envelope c.push.new.self) = rw (c.in_ok-push.ensures.added, c.new-batch.ensures) (c.requires.fits, tt) in
    all_fit (seen c.args.table.now) c.requires.table (map plain_envelope c.push.new.self) one

pub batch-requires-clause-lists_fit : goal.batch-requires-clause-lists_fit
batch-requires-clause-lists_fit c whole = caches_fit (seen c.args.table.now) c.requires.table c.args.actor.now.snapshot.caches c.requires.kept.caches

pub returns-clause-kept : goal.returns-clause-kept
returns-clause-kept c =
    let one : AllByRecursion (EnvelopeFits (entry_shape core_entries)) (map plain_envelope c.push.new.self) = rw (c.in_ok-push.ensures.added, c.new-batch.ensures) (c.requires.fits, tt) in
    record {
      caches = c.in_ok-posts.ensures.fit (entry_shape core_entries) c.requires.kept.caches one;
      delays = c.in_ok-posts.ensures.delays_fit c.requires.kept.caches c.requires.kept.delays one;
    }

pub returns-clause-fits : goal.returns-clause-fits
returns-clause-fits c =
    let one : AllByRecursion (EnvelopeFits (entry_shape core_entries)) (map plain_envelope c.push.new.self) = rw (c.in_ok-push.ensures.added, c.new-batch.ensures) (c.requires.fits, tt) in
    rw c.into_vec.ensures (posts_fit c.in_ok-posts.posts (c.in_ok-posts.ensures.posts_fit c.requires.kept.caches c.requires.kept.delays one))

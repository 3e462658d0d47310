use Rattle.std.proofs.Common.{◌<◌, List, map, sym, subst}
use Rattle.std.specs.List.{AllByRecursion}
use Rattle.caf_types.specs.Table.{built_in, shape_at}
use Rattle.caf_message.specs.declared.envelope.Taken.{Taken}
use Rattle.caf_message.specs.declared.envelope.Envelope.{Envelope}
use Rattle.caf_message.specs.Envelope.{plain_envelope, EnvelopeFits}
use Rattle.caf_scripted.proofs.BatchLemmas.{all_push}
use Rattle.caf_scripted.proofs.stage.add_letter.Goals as goal

pub returns-clause-fits : goal.returns-clause-fits
returns-clause-fits c =
    subst (λ (es : List Envelope). AllByRecursion (EnvelopeFits (shape_at built_in)) (map plain_envelope es)) (sym c.in_ok-push.ensures.added)
    (all_push (EnvelopeFits (shape_at built_in)) c.args.batch.now c.in_ok-envelope.envelope c.requires.fits c.in_ok-envelope.ensures.fits)

pub returns-clause-stamps : goal.returns-clause-stamps
returns-clause-stamps c =
    subst (λ (es : List Envelope). AllByRecursion (λ (e : Taken). e.stamp < 1099511627776) (map plain_envelope es)) (sym c.in_ok-push.ensures.added)
    (all_push (λ (e : Taken). e.stamp < 1099511627776) c.args.batch.now c.in_ok-envelope.envelope c.requires.stamps c.in_ok-envelope.ensures.stamp)

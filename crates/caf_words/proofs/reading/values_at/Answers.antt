use Rattle.std.proofs.Common.{◌+◌, ◌∙◌, map, drop, sym, ap}
use Rattle.std.proofs.lemmas.List.{map_push}
use Rattle.std.proofs.lemmas.Result.{err_from_is_err_and}
use Rattle.caf_types.specs.TypeTable.{seen}
use Rattle.caf_words.specs.Datum.{Data}
use Rattle.caf_words.specs.Reading.{Got, reading}
use Rattle.caf_words.specs.Several.{ids_of, shapes_at, shapes_reading}
use Rattle.caf_words.specs.Value.{datum}
use Rattle.caf_words.proofs.LoopLemmas.{with_front, goes_on, ends}
use Rattle.caf_words.proofs.SeveralLemmas.{type_step}
use Rattle.caf_words.proofs.reading.values_at.Goals as goal

pub returns-in_err-value : goal.returns-in_err-value
returns-in_err-value c =
    let t = seen c.args.table.now in
    let front = map datum c.loop-id.values.items in
    let s = type_step t c.args.types.now c.loop-id.id-index (record { 0 = 0 }) c.loop-id.rest.now c.loop-id-test.true c.loop-id.invariant.1 in
    let p = err_from_is_err_and c.from_residual.result c.from_residual.ensures.1 in
    rw (p.1, p.2) (ends c.in_err-value.field-0.0 front (reading s.shape c.loop-id.rest.now) (shapes_reading (shapes_at t (ids_of (drop (c.loop-id.id-index + 1) c.args.types.now)))) _
    (c.in_err-value.ensures s.shape s.here)
    (ap (λ (r : Got Data). with_front front r) (sym s.reads) ∙ c.loop-id.invariant.0))

pub loop-id-preserved : goal.loop-id-preserved
loop-id-preserved c =
    let t = seen c.args.table.now in
    let front = map datum c.loop-id.values.items in
    let s = type_step t c.args.types.now c.loop-id.id-index (record { 0 = 0 }) c.loop-id.rest.now c.loop-id-test.true c.loop-id.invariant.1 in (
      rw (c.in_ok-push.ensures.items, map_push datum c.loop-id.values.items c.in_ok-value.value)
          (goes_on front (reading s.shape c.loop-id.rest.now) (shapes_reading (shapes_at t (ids_of (drop (c.loop-id.id-index + 1) c.args.types.now)))) _ _ _
          (c.in_ok-value.ensures s.shape s.here)
          (ap (λ (r : Got Data). with_front front r) (sym s.reads) ∙ c.loop-id.invariant.0)),
      s.others,
    )

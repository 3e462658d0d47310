use Rattle.std.proofs.Common.{refl}
use Rattle.caf_types.specs.TypeTable.{seen}
use Rattle.caf_types.specs.declared.shape.TypeId.{TypeId}
use Rattle.caf_report.proofs.ValueLemmas.{as_many, next_fits, next_text}
use Rattle.caf_report.proofs.values.push_values.Goals as goal

abbrev no_type : TypeId
no_type = record { 0 = 0 }

pub loop-i-init : goal.loop-i-init
loop-i-init c = (refl, c.requires, as_many (seen c.args.table.now) c.args.types.now c.args.values.now c.requires)

pub push_value-requires : goal.push_value-requires
push_value-requires c =
    (next_fits (seen c.args.table.now) c.args.types.now c.args.values.now c.loop-i.i no_type c.index-values-i.result c.index-values-i.is c.loop-i-test.true c.loop-i.invariant.1).0

pub loop-i-preserved : goal.loop-i-preserved
loop-i-preserved c = (
  next_text (seen c.args.table.now) c.args.types.now c.args.values.now c.loop-i.i no_type c.index-values-i.result c.index-values-i.is c.loop-i-test.true c.loop-i.invariant.1 c.loop-i.text.items _ _ c.loop-i.invariant.0 c.in_ok-push_value.ensures,
  (next_fits (seen c.args.table.now) c.args.types.now c.args.values.now c.loop-i.i no_type c.index-values-i.result c.index-values-i.is c.loop-i-test.true c.loop-i.invariant.1).1,
  c.loop-i.invariant.2,
)

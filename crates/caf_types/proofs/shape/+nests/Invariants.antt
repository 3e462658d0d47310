use Rattle.std.proofs.Common.{◌≡◌, drop, ltb}
use Rattle.caf_types.specs.ShapeTree.{parts_depth}
use Rattle.caf_types.specs.Shape.{parts}
use Rattle.caf_types.proofs.shape.+nests.Given as goal

abbrev pub invariant-fields_nest_past-loop-field : goal.invariant-fields_nest_past-loop-field
invariant-fields_nest_past-loop-field l = ltb l.limit (parts_depth (parts (drop l.field-index l.fields))) ≡ ltb l.limit (parts_depth (parts l.fields))

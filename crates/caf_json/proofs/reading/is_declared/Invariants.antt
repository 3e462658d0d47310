use Rattle.std.proofs.Common.{◌≡◌, drop}
use Rattle.caf_types.specs.Shape.{parts}
use Rattle.caf_json.specs.Form.{is_declared}
use Rattle.caf_json.proofs.reading.is_declared.Given as goal

abbrev pub invariant-loop-field : goal.invariant-loop-field
invariant-loop-field l = is_declared (parts (drop l.field-index l.fields)) l.key ≡ is_declared (parts l.fields) l.key

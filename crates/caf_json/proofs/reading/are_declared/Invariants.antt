use Rattle.std.proofs.Common.{◌≡◌}
use Rattle.caf_types.specs.Shape.{parts}
use Rattle.serde_json.specs.View.{members_view}
use Rattle.caf_json.specs.Form.{are_declared}
use Rattle.caf_json.proofs.reading.are_declared.Given as goal

abbrev pub invariant-loop-key : goal.invariant-loop-key
invariant-loop-key l = are_declared (parts l.fields) (members_view l.key-iterator) ≡ are_declared (parts l.fields) (members_view l.members.entries)

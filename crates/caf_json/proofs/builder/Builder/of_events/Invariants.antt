use Rattle.std.proofs.Common.{◌≡◌, drop, []}
use Rattle.serde_json.specs.Data.{null}
use Rattle.caf_events.specs.Item.{events_in}
use Rattle.caf_json.specs.Builder.{built}
use Rattle.caf_json.specs.Stack.{state, steps}
use Rattle.caf_json.proofs.builder.Builder.of_events.Given as goal

abbrev pub invariant-loop-item : goal.invariant-loop-item
invariant-loop-item l = steps (built l.builder) (events_in (drop l.item-index l.items)) ≡ steps (state [] null) (events_in l.items)

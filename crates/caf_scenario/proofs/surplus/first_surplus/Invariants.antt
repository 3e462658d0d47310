use Rattle.std.proofs.Common.{◌≡◌}
use Rattle.serde_json.specs.View.{members_view}
use Rattle.caf_scenario.specs.Surplus.{first_surplus}
use Rattle.caf_scenario.proofs.surplus.first_surplus.Given as goal

abbrev pub invariant-loop-name : goal.invariant-loop-name
invariant-loop-name l = first_surplus l.bearer (members_view l.name-iterator) ≡ first_surplus l.bearer (members_view l.members.entries)

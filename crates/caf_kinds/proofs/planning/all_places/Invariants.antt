use Rattle.std.proofs.Common.{◌≡◌}
use Rattle.caf_kinds.specs.Planning.{places_from}
use Rattle.caf_kinds.proofs.planning.all_places.Given as goal

abbrev pub invariant-loop-before : goal.invariant-loop-before
invariant-loop-before l = l.places ≡ places_from 1 l.before

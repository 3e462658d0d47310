use Rattle.std.proofs.Common.{◌≡◌, map, drop}
use Rattle.serde_json.specs.View.{view}
use Rattle.caf_scenario.specs.ActorForm.{actor_of}
use Rattle.caf_scenario.specs.Read.{each_of}
use Rattle.caf_scenario.proofs.EachLemmas.{with_front}
use Rattle.caf_scenario.proofs.actor_form.actors_of.Given as goal

abbrev pub invariant-loop-i : goal.invariant-loop-i
invariant-loop-i l = with_front l.actors (each_of actor_of l.i (map view (drop l.i l.elements))) ≡ each_of actor_of 0 (map view l.elements)

use Rattle.std.proofs.Common.{◌≡◌, map, drop, codes}
use Rattle.serde_json.specs.View.{view}
use Rattle.caf_scenario.specs.Path.{at_member, spot_path}
use Rattle.caf_scenario.specs.ActorForm.{peer_of}
use Rattle.caf_scenario.specs.Read.{each_of}
use Rattle.caf_scenario.proofs.EachLemmas.{with_front}
use Rattle.caf_scenario.proofs.actor_form.names_of.Given as goal

abbrev pub invariant-loop-i : goal.invariant-loop-i
invariant-loop-i l = with_front l.peers (each_of (peer_of (at_member (spot_path l.spot) (codes "peers"))) l.i (map view (drop l.i l.elements))) ≡ each_of (peer_of (at_member (spot_path l.spot) (codes "peers"))) 0 (map view l.elements)

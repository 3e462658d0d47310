-- Peers that nobody is, and peers that don't take what is asked of them.
use Rattle.std.specs.Prelude.{ℕ, List, length, Option, Some, None}
use Rattle.caf_signature.specs.Interface.{is_assignable}
use Rattle.caf_signature.specs.declared.interface.Signature.{Signature}
use Rattle.caf_kinds.specs.declared.setup.KindName.{KindName}
use Rattle.caf_kinds.specs.Kinds.{interface_of}
use Rattle.caf_kinds.specs.Peers.{wanted_of}
use Rattle.caf_scenario.specs.declared.written.WrittenActor.{WrittenActor}
use Rattle.caf_scenario.specs.Actors.{Finder, kind_of}
use Rattle.caf_scenario.specs.First.{first_of}
use Rattle.caf_scenario.specs.Read.{Cause, unknown, interface, unless}

-- of the peer with that name, of which that is asked
abbrev pub asked_fault : List ℕ → List ℕ → List Signature → Option (ℕ × KindName) → Option Cause
asked_fault actor peer wanted None = Some (unknown peer)
asked_fault actor peer wanted (Some found) = unless (is_assignable (interface_of found.1) wanted) (interface actor peer)

-- of the peer at that position
abbrev pub peer_fault : Finder → WrittenActor → ℕ → List ℕ → Option Cause
peer_fault who actor i peer = asked_fault actor.name peer (wanted_of (kind_of actor) (length actor.peers) i) (who peer)

abbrev pub peers_fault_of : Finder → WrittenActor → Option Cause
peers_fault_of who actor = first_of (peer_fault who actor) 0 actor.peers

abbrev pub peers_fault : Finder → List WrittenActor → Option Cause
peers_fault who actors = first_of (λ i actor. peers_fault_of who actor) 0 actors

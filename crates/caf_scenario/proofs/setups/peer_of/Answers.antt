use Rattle.std.proofs.Common.{◌≡◌, ℕ, List, Bool, true, false, length, Some, sym, ap, subst, ◌∙◌}
use Rattle.std.specs.BTreeMap.{get_by_text}
use Rattle.caf_signature.specs.Interface.{is_assignable}
use Rattle.caf_signature.specs.declared.interface.Signature.{Signature}
use Rattle.caf_kinds.specs.Kinds.{interface_of}
use Rattle.caf_kinds.specs.Peers.{wanted_of}
use Rattle.caf_scenario.specs.Actors.{kind_of}
use Rattle.caf_scenario.specs.Peers.{asked_fault}
use Rattle.caf_scenario.specs.Read.{unless, interface}
use Rattle.caf_scenario.specs.Scenario.{place_in}
use Rattle.caf_scenario.proofs.setups.peer_of.Goals as goal

pub returns-then-not-assignable : goal.returns-then-not-assignable
returns-then-not-assignable c =
    let found : get_by_text c.args.names.now c.args.peer.now ≡ Some c.in-Some.found.now =
    subst (λ (name : List ℕ). get_by_text c.args.names.now name ≡ Some c.in-Some.found.now) c.as_str.ensures.text (sym c.in-Some.ensures.value) in
    let taken : c.in_ok-interface-in-Some.interface ≡ interface_of c.in-Some.found.now.1 = c.in_ok-interface-in-Some.ensures in
    let asked : c.in_ok-wanted-in-Some.wanted ≡ (wanted_of (kind_of c.args.actor.now) (length c.args.actor.now.peers) c.args.position) =
    c.in_ok-wanted-in-Some.ensures ∙ ap (λ k. wanted_of k c.len.result c.args.position) c.kind_of.ensures ∙ ap (λ n. wanted_of (kind_of c.args.actor.now) n c.args.position) c.len.ensures in
    let said : is_assignable c.in_ok-interface-in-Some.interface c.in_ok-wanted-in-Some.wanted ≡ false = sym c.if-not-assignable.ensures.value in
    let no : is_assignable (interface_of c.in-Some.found.now.1) (wanted_of (kind_of c.args.actor.now) (length c.args.actor.now.peers) c.args.position) ≡ false =
    ap (λ (f : List Signature). is_assignable f (wanted_of (kind_of c.args.actor.now) (length c.args.actor.now.peers) c.args.position)) (sym taken) ∙ ap (λ (w : List Signature). is_assignable c.in_ok-interface-in-Some.interface w) (sym asked) ∙ said in
    λ has.
    ap (asked_fault c.args.actor.now.name c.args.peer.now (wanted_of (kind_of c.args.actor.now) (length c.args.actor.now.peers) c.args.position)) found
    ∙ ap (λ (b : Bool). unless b (interface c.args.actor.now.name c.args.peer.now)) no
    ∙ ap (λ e. Some e) (sym (c.interface_fault.ensures has ∙ ap (λ (n : List ℕ). interface n c.args.peer.now) c.as_str-then-not-assignable.ensures.text))

pub returns-else-not-assignable : goal.returns-else-not-assignable
returns-else-not-assignable c =
    let found : get_by_text c.args.names.now c.args.peer.now ≡ Some c.in-Some.found.now =
    subst (λ (name : List ℕ). get_by_text c.args.names.now name ≡ Some c.in-Some.found.now) c.as_str.ensures.text (sym c.in-Some.ensures.value) in
    let taken : c.in_ok-interface-in-Some.interface ≡ interface_of c.in-Some.found.now.1 = c.in_ok-interface-in-Some.ensures in
    let asked : c.in_ok-wanted-in-Some.wanted ≡ (wanted_of (kind_of c.args.actor.now) (length c.args.actor.now.peers) c.args.position) =
    c.in_ok-wanted-in-Some.ensures ∙ ap (λ k. wanted_of k c.len.result c.args.position) c.kind_of.ensures ∙ ap (λ n. wanted_of (kind_of c.args.actor.now) n c.args.position) c.len.ensures in
    let said : is_assignable c.in_ok-interface-in-Some.interface c.in_ok-wanted-in-Some.wanted ≡ true = sym c.if-not-assignable.ensures.value in
    let yes : is_assignable (interface_of c.in-Some.found.now.1) (wanted_of (kind_of c.args.actor.now) (length c.args.actor.now.peers) c.args.position) ≡ true =
    ap (λ (f : List Signature). is_assignable f (wanted_of (kind_of c.args.actor.now) (length c.args.actor.now.peers) c.args.position)) (sym taken) ∙ ap (λ (w : List Signature). is_assignable c.in_ok-interface-in-Some.interface w) (sym asked) ∙ said in (
      ap (asked_fault c.args.actor.now.name c.args.peer.now (wanted_of (kind_of c.args.actor.now) (length c.args.actor.now.peers) c.args.position)) found
          ∙ ap (λ (b : Bool). unless b (interface c.args.actor.now.name c.args.peer.now)) yes,
      sym (ap place_in found),
    )

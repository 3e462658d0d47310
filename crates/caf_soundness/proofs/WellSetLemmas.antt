-- What a document without faults says is well set: its peers take what is asked of them, and its reserved places add.
use Rattle.std.proofs.Common.{◌≡◌, ℕ, zero, suc, ◌+◌, ◌-◌, ◌<◌, ◌≤◌, true, List, [], ◌∷◌, ◌++◌, length, map, Option, Some, None, refl, sym, ap, subst, ◌∙◌, arith}
use Rattle.std.specs.Prelude.{slice_get}
use Rattle.std.specs.List.{AllByRecursion, range_with_len}
use Rattle.std.proofs.lemmas.List.{length-map}
use Rattle.caf_mailbox.proofs.NextLemmas.{all_append}
use Rattle.caf_signature.specs.Interface.{is_assignable}
use Rattle.caf_signature.specs.declared.interface.Signature.{Signature}
use Rattle.caf_kinds.specs.Kinds.{interface_of}
use Rattle.caf_kinds.specs.Peers.{wanted_of}
use Rattle.caf_kinds.specs.Setups.{setup_at}
use Rattle.caf_kinds.specs.declared.setup.KindName.{KindName}
use Rattle.caf_kinds.specs.declared.setup.Setup.{Setup}
use Rattle.caf_scenario.specs.declared.scenario.Scenario.{Scenario}
use Rattle.caf_scenario.specs.declared.written.WrittenActor.{WrittenActor}
use Rattle.caf_scenario.specs.Actors.{Finder, actor_named, actors_fault, kind_of}
use Rattle.caf_scenario.specs.First.{first_of}
use Rattle.caf_scenario.specs.Many.{all_children, many_fault}
use Rattle.caf_scenario.specs.Peers.{asked_fault, peer_fault, peers_fault_of, peers_fault}
use Rattle.caf_scenario.specs.Read.{Cause, interface, or_else}
use Rattle.caf_scenario.specs.Scenario.{IsSaid, place_in, place_of, setups_said, child, children}
use Rattle.caf_scenario.specs.Steps.{steps_fault}
use Rattle.caf_scenario.specs.Valid.{json_fault, written_fault, later_fault, found_fault}
use Rattle.caf_scenario.specs.Written.{Document}
use Rattle.caf_typing.proofs.FaultLemmas.{neither, holds}
use Rattle.caf_typing.proofs.OpensLemmas.{opens}
use Rattle.caf_typing.proofs.PlaceLemmas.{at_suc, length_said, named_setup, setup_found}
use Rattle.caf_typing.proofs.StepLemmas.{AreSetUp}
use Rattle.caf_soundness.specs.Typed.{child_face, Serves, IsWellSet}
use Rattle.caf_soundness.specs.Scenarios.{ValidScenarioIsWellTyped}
use Rattle.caf_soundness.proofs.OpenLemmas.{well_typed}

-- ---- lists

none_at : {A : Type 0} (fault : ℕ → A → Option Cause) (first : ℕ) (xs : List A) (i : ℕ) (x : A) → first_of fault first xs ≡ None → slice_get xs i ≡ Some x → fault (first + i) x ≡ None
none_at fault first [] i x none e = absurd cc
none_at fault first (y ∷ ys) zero x none e =
    let same : y ≡ x = cc in
    let here : first ≡ first + 0 = omega arith in
    subst (λ (n : ℕ). fault n x ≡ None) here (subst (λ z. fault first z ≡ None) same (neither (fault first y) (first_of fault (first + 1) ys) none).0)
none_at fault first (y ∷ ys) (suc i) x none e =
    let there : first + 1 + i ≡ first + suc i = omega arith in
    subst (λ (n : ℕ). fault n x ≡ None) there (none_at fault (first + 1) ys i x (neither (fault first y) (first_of fault (first + 1) ys) none).1 e)

mapped_at : {A : Type 0} (f : A → ℕ) (xs : List A) (i p : ℕ) → slice_get (map f xs) i ≡ Some p → (x : A) × (slice_get xs i ≡ Some x) × (f x ≡ p)
mapped_at f [] i p e = absurd cc
mapped_at f (x ∷ xs) zero p e = (x, refl, cc)
mapped_at f (x ∷ xs) (suc i) p e = mapped_at f xs i p e

behind : (xs ys : List Setup) (j : ℕ) → slice_get (xs ++ ys) (length xs + j) ≡ slice_get ys j
behind [] ys j = let same : 0 + j ≡ j = omega arith in ap (slice_get ys) same
behind (x ∷ xs) ys j =
    let next : length (x ∷ xs) + j ≡ suc (length xs + j) = omega arith in
    ap (slice_get (x ∷ (xs ++ ys))) next ∙ behind xs ys j

child_in : (n j : ℕ) → j < n → slice_get (children n) j ≡ Some child
child_in zero j low = absurd (omega (arith, low))
child_in (suc n) zero low = refl
child_in (suc n) (suc j) low = child_in n j (omega (arith, low))

-- ---- reserved places

child_at : (xs : List Setup) (n p : ℕ) → length xs < p → p ≤ length xs + n → setup_at (xs ++ children n) p ≡ Some child
child_at xs n p over within =
    let place : p ≡ suc (length xs + (p - length xs - 1)) = omega (arith, over) in
    let low : p - length xs - 1 < n = omega (arith, over, within) in
    ap (setup_at (xs ++ children n)) place
    ∙ at_suc (xs ++ children n) (length xs + (p - length xs - 1))
    ∙ behind xs (children n) (p - length xs - 1)
    ∙ child_in n (p - length xs - 1) low

children_add : (xs : List Setup) (n first count : ℕ) → length xs < first → first + count ≤ length xs + n + 1 → AllByRecursion (λ p. Serves (setup_at (xs ++ children n) p) child_face) (range_with_len first count)
children_add xs n first zero over within = tt
children_add xs n first (suc count) over within = (
  subst (λ (o : Option Setup). Serves o child_face) (sym (child_at xs n first over (omega (arith, within)))) refl,
  children_add xs n (first + 1) count (omega (arith, over)) (omega (arith, within)),
)

children_well : (setups : List Setup) (n : ℕ) → AllByRecursion (IsWellSet setups) (children n)
children_well setups zero = tt
children_well setups (suc n) = (record { peers = λ i p e. absurd cc; reserve = tt }, children_well setups n)

-- ---- peers

-- who is found is asked for no more than it takes
asked_serves : (who : Finder) (setups : List Setup) → AreSetUp who setups → (actor peer : List ℕ) (wanted : List Signature) → asked_fault actor peer wanted (who peer) ≡ None → Serves (setup_at setups (place_of who peer)) wanted
asked_serves who setups up actor peer wanted none = go (who peer) refl none
  where
    go : (o : Option (ℕ × KindName)) → who peer ≡ o → asked_fault actor peer wanted o ≡ None → Serves (setup_at setups (place_in (who peer))) wanted
    go None is h = absurd cc
    go (Some found) is h =
        let there = up peer found is in
        let takes : is_assignable (interface_of found.1) wanted ≡ true = holds (is_assignable (interface_of found.1) wanted) (interface actor peer) h in
        let at : setup_at setups (place_in (who peer)) ≡ Some there.0 = ap (λ (o : Option (ℕ × KindName)). setup_at setups (place_in o)) is ∙ there.1 in
        subst (λ (o : Option Setup). Serves o wanted) (sym at)
        (ap (λ (k : KindName). is_assignable (interface_of k) wanted) there.2 ∙ takes)

peers_serve : (who : Finder) (setups : List Setup) → AreSetUp who setups → (a : WrittenActor) → peers_fault_of who a ≡ None → (i p : ℕ) → slice_get (map (place_of who) a.peers) i ≡ Some p
    → Serves (setup_at setups p) (wanted_of (kind_of a) (length (map (place_of who) a.peers)) i)
peers_serve who setups up a none i p e =
    let found = mapped_at (place_of who) a.peers i p e in
    let start : 0 + i ≡ i = omega arith in
    let no_fault : peer_fault who a i found.0 ≡ None = subst (λ (n : ℕ). peer_fault who a n found.0 ≡ None) start (none_at (peer_fault who a) 0 a.peers i found.0 none found.1) in
    subst (λ (q : ℕ). Serves (setup_at setups q) (wanted_of (kind_of a) (length (map (place_of who) a.peers)) i)) found.2
    (subst (λ (n : ℕ). Serves (setup_at setups (place_of who found.0)) (wanted_of (kind_of a) n i)) (sym (length-map a.peers (place_of who)))
    (asked_serves who setups up a.name found.0 (wanted_of (kind_of a) (length a.peers) i) no_fault))

-- ---- the document

-- who is found is set up, as one of the kind that was found
found_set : (actors : List WrittenActor) (ys : List Setup) (first : ℕ) (who : Finder) → AreSetUp (actor_named actors) (setups_said who first actors ++ ys)
found_set actors ys first who text found is =
    let up = named_setup who 1 first actors text found is in
    (up.setup, setup_found (setups_said who first actors) ys found up, up.kind)

module _ (who : Finder) (setups xs : List Setup) (more : ℕ) (all : xs ++ children more ≡ setups) (up : AreSetUp who setups) where
  reserve_adds : (first count : ℕ) → length xs < first → first + count ≤ length xs + more + 1 → AllByRecursion (λ p. Serves (setup_at setups p) child_face) (range_with_len first count)
  reserve_adds first count over within =
      subst (λ (ss : List Setup). AllByRecursion (λ p. Serves (setup_at ss p) child_face) (range_with_len first count)) all (children_add xs more first count over within)

  actors_well : (first : ℕ) (i : ℕ) (actors : List WrittenActor) → first_of (λ j a. peers_fault_of who a) i actors ≡ None → length xs < first → first + all_children actors ≤ length xs + more + 1
      → AllByRecursion (IsWellSet setups) (setups_said who first actors)
  actors_well first i [] none over within = tt
  actors_well first i (a ∷ others) none over within =
      let both = neither (peers_fault_of who a) (first_of (λ (j : ℕ) b. peers_fault_of who b) (i + 1) others) none in (
        record { peers = peers_serve who setups up a both.0; reserve = reserve_adds first a.children over (omega (arith, within)) },
        actors_well (first + a.children) (i + 1) others both.1 (omega (arith, over)) (omega (arith, within)),
      )

said_well : (d : Document) (scenario : Scenario) → later_fault d ≡ None → IsSaid d scenario → AllByRecursion (IsWellSet scenario.setups) scenario.setups
said_well d scenario none said =
    let who : Finder = actor_named d.actors in
    let past_numbers = neither (many_fault d) (or_else (actors_fault d.actors) (found_fault who d)) none in
    let past_actors = neither (actors_fault d.actors) (found_fault who d) past_numbers.1 in
    let past_peers = neither (peers_fault who d.actors) (steps_fault who d.script) past_actors.1 in
    let first : ℕ = length d.actors + 1 in
    let more : ℕ = all_children d.actors in
    let xs : List Setup = setups_said who first d.actors in
    let long : length xs ≡ length d.actors = length_said who first d.actors in
    let setups : List Setup = xs ++ children more in
    subst (λ (ss : List Setup). AllByRecursion (IsWellSet ss) ss) (sym said.setups)
    (all_append (IsWellSet setups) xs (children more)
    (actors_well who setups xs more refl (found_set d.actors (children more) first who) first 0 d.actors past_peers.0 (omega (arith, long)) (omega (arith, long)))
    (children_well setups more))

-- ---- the law

pub valid_typed : ValidScenarioIsWellTyped
valid_typed bytes scenario files valid of_bytes lines =
    let later : later_fault of_bytes.document ≡ None =
    sym (ap written_fault of_bytes.in_form) ∙ sym (ap json_fault of_bytes.is_json) ∙ valid in
    well_typed scenario.setups scenario.script files (opens bytes scenario files valid of_bytes lines) (said_well of_bytes.document scenario later of_bytes.said)

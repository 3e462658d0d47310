-- What a document without faults says can be opened.
use Rattle.std.proofs.Common.{◌≡◌, ℕ, ◌+◌, ◌≤◌, ◌||◌, take, [], ◌∷◌, Bool, true, false, not, nat_lt, List, ◌++◌, length, Option, Some, None, refl, sym, ap, subst, ◌∙◌, arith}
use Rattle.std.specs.Prelude.{count_by, is_some}
use Rattle.std.specs.List.{AllByRecursion}
use Rattle.std.proofs.lemmas.List.{length-map, length-append}
use Rattle.std.proofs.lemmas.Bool.{ltb-false}
use Rattle.caf_kinds.specs.ConductorLaws.{all_joined}
use Rattle.caf_kinds.specs.Kinds.{has_peers}
use Rattle.caf_kinds.specs.Peers.{wanted_of}
use Rattle.caf_kinds.specs.declared.setup.KindName.{KindName}
use Rattle.caf_kinds.specs.declared.setup.Setup.{Setup}
use Rattle.caf_opening.specs.Opening.{CanStand, CanOpen}
use Rattle.caf_scenario.specs.declared.scenario.Scenario.{Scenario}
use Rattle.caf_scenario.specs.declared.written.WrittenActor.{WrittenActor}
use Rattle.caf_scenario.specs.Actors.{Finder, actor_named, actor_fault, actors_fault, kind_named, kind_of, is_taken}
use Rattle.caf_scenario.specs.First.{first_of}
use Rattle.caf_scenario.specs.Many.{is_many, many_fault, is_source, all_children, places_used}
use Rattle.caf_scenario.specs.Peers.{asked_fault, peer_fault, peers_fault_of, peers_fault}
use Rattle.caf_scenario.specs.Read.{kind, twice, many, or_else, unless}
use Rattle.caf_scenario.specs.Scenario.{IsSaid, setups_said, children, plain_step, step_said}
use Rattle.caf_scenario.specs.Steps.{step_fault, steps_fault}
use Rattle.caf_scenario.specs.Valid.{json_fault, written_fault, later_fault, found_fault, IsValidScenario, IsScenarioOf}
use Rattle.caf_scenario.specs.Written.{Document}
use Rattle.caf_typing.specs.Opens.{HaveShortLines, ValidScenarioOpens}
use Rattle.caf_typing.proofs.FaultLemmas.{NoFault, neither, none_each, holds, all_to}
use Rattle.caf_typing.proofs.PlaceLemmas.{IsWhole, AreBelow, named_below, named_setup, setup_found, all_stand, children_stand, length_said, length_children}
use Rattle.caf_typing.proofs.StepLemmas.{AreSetUp, steps_typed}

-- ---- numbers

not_true : (b : Bool) → not b ≡ true → b ≡ false
not_true true h = absurd cc
not_true false h = refl

either_false : (a b : Bool) → (a || b) ≡ false → (a ≡ false) × (b ≡ false)
either_false true b h = absurd cc
either_false false b h = (refl, h)

pub record IsFew (d : Document) : Type 0 where
  pub steps : length d.script ≤ 1000
  pub places : places_used d.actors ≤ 255

few : (d : Document) → many_fault d ≡ None → IsFew d
few d none =
    let small : is_many d ≡ false = not_true (is_many d) (holds (not (is_many d)) many none) in
    let outer = either_false (nat_lt 1000 (length d.script) || nat_lt 255 (places_used d.actors)) (nat_lt 1 (count_by is_source d.actors)) small in
    let inner = either_false (nat_lt 1000 (length d.script)) (nat_lt 255 (places_used d.actors)) outer.0 in
    record { steps = ltb-false 1000 (length d.script) inner.0; places = ltb-false 255 (places_used d.actors) inner.1 }

-- ---- actors

counted : (before : Finder) (i : ℕ) (a : WrittenActor) → actor_fault before i a ≡ None → has_peers (kind_of a) (length a.peers) ≡ true
counted before i a none =
    let past_kind = neither (unless (is_some (kind_named a.kind)) (kind a.kind)) _ none in
    let past_name = neither (unless (not (is_taken before a.name)) (twice a.name)) _ past_kind.1 in
    holds (has_peers (kind_of a) (length a.peers)) _ past_name.1

asked : (who : Finder) (a : WrittenActor) (text : List ℕ) → NoFault (peer_fault who a) text → (found : ℕ × KindName) × (who text ≡ Some found)
asked who a text none = go (who text) refl none.1
  where
    go : (o : Option (ℕ × KindName)) → who text ≡ o → asked_fault a.name text (wanted_of (kind_of a) (length a.peers) none.0) o ≡ None → (found : ℕ × KindName) × (who text ≡ Some found)
    go None is h = absurd cc
    go (Some found) is h = (found, is)

wholes : (who : Finder) (actors : List WrittenActor) → AllByRecursion (λ a. has_peers (kind_of a) (length a.peers) ≡ true) actors
    → AllByRecursion (λ a. peers_fault_of who a ≡ None) actors → AllByRecursion (IsWhole who) actors
wholes who [] numbers peers = tt
wholes who (a ∷ others) numbers peers = (
  record {
    counted = numbers.0;
    peers = all_to (NoFault (peer_fault who a)) (λ text. (found : ℕ × KindName) × (who text ≡ Some found)) (asked who a) a.peers (none_each (peer_fault who a) 0 a.peers peers.0);
  },
  wholes who others numbers.1 peers.1,
)

numbers_of : (actors all : List WrittenActor) (i : ℕ) → first_of (λ j a. actor_fault (actor_named (take j all)) j a) i actors ≡ None
    → AllByRecursion (λ a. has_peers (kind_of a) (length a.peers) ≡ true) actors
numbers_of actors all i none =
    all_to (NoFault (λ j a. actor_fault (actor_named (take j all)) j a)) (λ a. has_peers (kind_of a) (length a.peers) ≡ true)
    (λ a no. counted (actor_named (take no.0 all)) no.0 a no.1) actors (none_each (λ j a. actor_fault (actor_named (take j all)) j a) i actors none)

peers_of : (who : Finder) (actors : List WrittenActor) → peers_fault who actors ≡ None → AllByRecursion (λ a. peers_fault_of who a ≡ None) actors
peers_of who actors none =
    all_to (NoFault (λ (i : ℕ) a. peers_fault_of who a)) (λ a. peers_fault_of who a ≡ None) (λ a no. no.1) actors (none_each (λ i a. peers_fault_of who a) 0 actors none)

-- ---- the document

set_up : (actors : List WrittenActor) (ys : List Setup) (first : ℕ) (who : Finder) → AreSetUp (actor_named actors) (setups_said who first actors ++ ys)
set_up actors ys first who text found is =
    let up = named_setup who 1 first actors text found is in
    (up.setup, setup_found (setups_said who first actors) ys found up, up.kind)

pub whole_actors : (d : Document) → later_fault d ≡ None → AllByRecursion (IsWhole (actor_named d.actors)) d.actors
whole_actors d none =
    let who : Finder = actor_named d.actors in
    let past_numbers = neither (many_fault d) (or_else (actors_fault d.actors) (found_fault who d)) none in
    let past_actors = neither (actors_fault d.actors) (found_fault who d) past_numbers.1 in
    let past_peers = neither (peers_fault who d.actors) (steps_fault who d.script) past_actors.1 in
    wholes who d.actors (numbers_of d.actors d.actors 0 past_actors.0) (peers_of who d.actors past_peers.0)

said_opens : (d : Document) (scenario : Scenario) (files : List (List ℕ)) → later_fault d ≡ None → IsSaid d scenario → HaveShortLines files
    → CanOpen scenario.setups scenario.script files
said_opens d scenario files none said lines =
    let who : Finder = actor_named d.actors in
    let past_numbers = neither (many_fault d) (or_else (actors_fault d.actors) (found_fault who d)) none in
    let past_actors = neither (actors_fault d.actors) (found_fault who d) past_numbers.1 in
    let past_peers = neither (peers_fault who d.actors) (steps_fault who d.script) past_actors.1 in
    let small = few d past_numbers.0 in
    let places = small.places in
    let first : ℕ = length d.actors + 1 in
    let more : ℕ = all_children d.actors in
    let setups : List Setup = setups_said who first d.actors ++ children more in
    let count : length setups ≡ length d.actors + more =
    length-append (setups_said who first d.actors) (children more)
    ∙ ap (λ n. n + length (children more)) (length_said who first d.actors)
    ∙ ap (λ n. length d.actors + n) (length_children more) in
    let below : AreBelow who (length setups + 1) = λ text found is. let less = named_below 1 d.actors text found is in omega (arith, less, count) in
    let whole = whole_actors d none in
    let each : AllByRecursion (CanStand (length setups + 1)) setups =
    all_joined (CanStand (length setups + 1)) (setups_said who first d.actors) (children more)
    (all_stand who (length setups + 1) first d.actors whole below (omega (arith, count)))
    (children_stand (length setups + 1) more) in
    let steps : length scenario.script ≡ length d.script =
    sym (length-map scenario.script plain_step) ∙ ap length said.script ∙ length-map d.script (step_said who) in
    let many_steps = small.steps in
    let typed = steps_typed who setups (set_up d.actors (children more) first who) scenario.script d.script said.script (none_each (step_fault who) 0 d.script past_peers.1) in
    subst (λ (all : List Setup). CanOpen all scenario.script files) (sym said.setups) (record {
      each = each;
      few = omega (arith, count, places);
      steps = omega (arith, steps, many_steps);
      typed = typed;
      lines = lines;
    })

-- ---- the bytes

pub no_later_fault : (bytes : List ℕ) (scenario : Scenario) → IsValidScenario bytes → (of_bytes : IsScenarioOf bytes scenario) → later_fault of_bytes.document ≡ None
no_later_fault bytes scenario valid of_bytes = sym (ap written_fault of_bytes.in_form) ∙ sym (ap json_fault of_bytes.is_json) ∙ valid

pub opens : ValidScenarioOpens
opens bytes scenario files valid of_bytes lines = said_opens of_bytes.document scenario files (no_later_fault bytes scenario valid of_bytes) of_bytes.said lines

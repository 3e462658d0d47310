-- Undisturbed setups and their script can be opened.
use Rattle.std.proofs.Common.{◌≡◌, ◌≢◌, ℕ, ◌+◌, ◌<◌, ◌≤◌, true, List, [], ◌∷◌, length, map, Option, Some, refl, sym, subst, ap, ◌∙◌, arith}
use Rattle.std.specs.Prelude.{nat_le}
use Rattle.std.specs.List.{AllByRecursion}
use Rattle.std.proofs.lemmas.Bool.{le-leb}
use Rattle.caf_types.specs.ShapeTree.{ShapeTree, unit}
use Rattle.caf_types.specs.Table.{shape_at}
use Rattle.caf_types.specs.declared.shape.TypeId.{TypeId}
use Rattle.caf_words.specs.Datum.{data_of}
use Rattle.caf_words.specs.Several.{ids_of, several_fit}
use Rattle.caf_words.specs.Value.{datum}
use Rattle.caf_words.specs.declared.value.Value.{Value}
use Rattle.caf_message.specs.Content.{content_of}
use Rattle.caf_actor.specs.Rules.{is_input}
use Rattle.caf_kinds.specs.Core.{core}
use Rattle.caf_kinds.specs.Asking.{Types, atom, type_ids}
use Rattle.caf_kinds.specs.Collector.{asking_index, asking_totals}
use Rattle.caf_kinds.specs.Kinds.{has_peers, interface_of}
use Rattle.caf_kinds.specs.PipelineLaws.{both_true}
use Rattle.caf_kinds.specs.Setups.{setup_at}
use Rattle.caf_kinds.specs.Source.{starting}
use Rattle.caf_kinds.specs.Starting.{IsMessage, IsTyped, IsTypedStep, Takes}
use Rattle.caf_kinds.specs.declared.script.Step.{Step}
use Rattle.caf_kinds.specs.declared.script.Step.TheVariants as step
use Rattle.caf_kinds.specs.declared.setup.KindName.{KindName}
use Rattle.caf_kinds.specs.declared.setup.KindName.TheVariants as name
use Rattle.caf_kinds.specs.declared.setup.Setup.{Setup}
use Rattle.caf_opening.specs.Opening.{CanStand}
use Rattle.caf_pipeline.specs.Undisturbed.{Pipeline, IsSetUp, IsPipeline, IsAtom, IsTold, IsRequested, IsPlainScript, UndisturbedOpens}
use Rattle.caf_pipeline.proofs.ListLemmas.{all_at, one_of, all_of}
use Rattle.caf_pipeline.proofs.ApartLemmas.{no_more_than}
use Rattle.caf_pipeline.proofs.PlaceLemmas.{IsSo, one_of_setups, at_each_place}

-- ---- actors

can_stand : (n : ℕ) (s : Setup) (kind : KindName) (peers : List ℕ) → IsSo s kind peers → kind ≢ name.Conductor → has_peers kind (length peers) ≡ true → AllByRecursion (λ p. p < n) peers → CanStand n s
can_stand n s kind peers so other many below = record {
  kind = λ e. other (sym so.kind_is ∙ e);
  peers = ap (λ (ps : List ℕ). has_peers s.kind (length ps)) so.peers_are ∙ ap (λ (k : KindName). has_peers k (length peers)) so.kind_is ∙ many;
  peers_below = subst (AllByRecursion (λ p. p < n)) (sym so.peers_are) below;
  reserve_below = subst (AllByRecursion (λ p. p < n)) (sym so.childless) tt;
}

below : (setups : List Setup) (kind : KindName) (peers : List ℕ) (place : ℕ) → IsSetUp setups kind peers place → place < length setups + 1
below setups kind peers place is = let one = one_of_setups setups place is.setup is.at in let within = one.within in omega (arith, within)

each_can_stand : (setups : List Setup) (p : Pipeline) → IsPipeline setups p → length p.counters ≤ 255 → AllByRecursion (CanStand (length setups + 1)) setups
each_can_stand setups p is few =
    let n = length setups + 1 in
    let lines = below setups name.Lines (p.collector ∷ []) p.lines is.lines in
    let relay = below setups name.Relay p.counters p.relay is.relay in
    let collector = below setups name.Collector [] p.collector is.collector in
    let some = is.some in
    all_at (CanStand n) setups
    (at_each_place (CanStand n) setups p is
    (λ s so. can_stand n s name.Source (p.lines ∷ p.relay ∷ p.collector ∷ []) so (λ e. cc) refl (lines, (relay, (collector, tt))))
    (λ s so. can_stand n s name.Lines (p.collector ∷ []) so (λ e. cc) refl (collector, tt))
    (λ s so. can_stand n s name.Relay p.counters so (λ e. cc) (both_true (nat_le 1 (length p.counters)) (nat_le (length p.counters) 255) (le-leb 1 (length p.counters) (omega (arith, some))) (le-leb (length p.counters) 255 few))
    (all_of (IsSetUp setups name.Counter (p.collector ∷ [])) (λ q. q < n) p.counters (λ q at. below setups name.Counter (p.collector ∷ []) q at) is.counters))
    (λ s so. can_stand n s name.Collector [] so (λ e. cc) refl tt)
    (λ s so. can_stand n s name.Counter (p.collector ∷ []) so (λ e. cc) refl (collector, tt)))

-- no actor of the setups has place 0
not_at_0 : (setups : List Setup) (kind : KindName) (peers : List ℕ) → IsSetUp setups kind peers 0 → ⊥
not_at_0 setups kind peers is = let one = one_of_setups setups 0 is.setup is.at in let low = one.from_1 in omega (arith, low)

few_counters : (setups : List Setup) (p : Pipeline) → IsPipeline setups p → length p.counters ≤ length setups
few_counters setups p is =
    let n = length setups + 1 in
    let counter = IsSetUp setups name.Counter (p.collector ∷ []) in
    let all = all_of counter (λ q. q < n) p.counters (λ q at. below setups name.Counter (p.collector ∷ []) q at) is.counters in
    let most : length (0 ∷ p.counters) ≤ n = no_more_than n (0 ∷ p.counters) ((λ has. not_at_0 setups name.Counter (p.collector ∷ []) (one_of counter p.counters 0 is.counters has)), is.apart) (omega arith, all) in
    omega (arith, most)

-- ---- the script

-- the atom is a type of the table
record IsCoreAtom (types : Types) (id : ℕ) : Type 0 where
  pub is : type_ids types ≡ id ∷ []
  pub known : shape_at core id ≡ Some unit

is_message : (atom : Types) (id : ℕ) (types : List TypeId) (values : List Value) → IsCoreAtom atom id → IsAtom atom types values → IsMessage types values
is_message atom id types values known is =
    let ids = is.ids ∙ known.is in
    let words = ap (λ (xs : List ℕ). content_of xs (data_of (map datum values))) ids ∙ ap (content_of (id ∷ [])) is.units in
    let long : length (content_of (ids_of types) (data_of (map datum values))) ≡ 3 = ap length words in
    record {
      shapes = unit ∷ [];
      known = ap (map (shape_at core)) ids ∙ ap (λ (f : Option ShapeTree). f ∷ []) known.known;
      fit = ap (several_fit (unit ∷ [])) is.units;
      small = omega (arith, long);
    }

taken : (setups : List Setup) (kind : KindName) (peers : List ℕ) (place : ℕ) (atom : Types) (types : List TypeId) (values : List Value) → IsSetUp setups kind peers place → IsAtom atom types values
    → is_input (interface_of kind) (type_ids atom) ≡ true → Takes (setup_at setups place) types
taken setups kind peers place atom types values is said takes =
    subst (λ (o : Option Setup). Takes o types) (sym is.at)
    (ap (λ (k : KindName). is_input (interface_of k) (ids_of types)) is.kind_is ∙ ap (is_input (interface_of kind)) said.ids ∙ takes)

told_typed : (setups : List Setup) (kind : KindName) (peers : List ℕ) (to : ℕ) (atom : Types) (id : ℕ) → IsSetUp setups kind peers to → IsCoreAtom atom id → is_input (interface_of kind) (type_ids atom) ≡ true
    → (s : Step) → IsTold to atom s → IsTypedStep setups s
told_typed setups kind peers to atom id is known takes (step.Tell place priority types values) said =
    subst (λ (q : ℕ). IsTyped setups q types values) (sym said.0)
    (record { message = is_message atom id types values known said.1; taken = taken setups kind peers to atom types values is said.1 takes })
told_typed setups kind peers to atom id is known takes _ said = absurd said

requested_typed : (setups : List Setup) (kind : KindName) (peers : List ℕ) (to : ℕ) (atom : Types) (id : ℕ) → IsSetUp setups kind peers to → IsCoreAtom atom id → is_input (interface_of kind) (type_ids atom) ≡ true
    → (s : Step) → IsRequested to atom s → IsTypedStep setups s
requested_typed setups kind peers to atom id is known takes (step.Request place priority mode types values) said =
    subst (λ (q : ℕ). IsTyped setups q types values) (sym said.0)
    (record { message = is_message atom id types values known said.2; taken = taken setups kind peers to atom types values is said.2 takes })
requested_typed setups kind peers to atom id is known takes _ said = absurd said

script_typed : (setups : List Setup) (p : Pipeline) (script : List Step) → IsPipeline setups p → IsPlainScript p script → AllByRecursion (IsTypedStep setups) script
script_typed setups p [] is plays = absurd plays
script_typed setups p (first ∷ []) is plays = absurd plays
script_typed setups p (first ∷ second ∷ others) is plays = (
  told_typed setups name.Source (p.lines ∷ p.relay ∷ p.collector ∷ []) p.source starting 206 is.source (record { is = refl; known = refl }) refl first plays.0,
  (
    requested_typed setups name.Collector [] p.collector asking_index 208 is.collector (record { is = refl; known = refl }) refl second plays.1,
    all_of (IsRequested p.collector asking_totals) (IsTypedStep setups) others (λ s one. requested_typed setups name.Collector [] p.collector asking_totals 209 is.collector (record { is = refl; known = refl }) refl s one) plays.2,
  ),
)

-- ---- both

pub opens : UndisturbedOpens
opens setups script files is short =
    let few = few_counters setups is.pipeline is.actors in
    let all = is.few in
    record {
      each = each_can_stand setups is.pipeline is.actors (omega (arith, few, all));
      few = is.few;
      steps = is.steps;
      typed = script_typed setups is.pipeline script is.actors is.plays;
      lines = short;
    }

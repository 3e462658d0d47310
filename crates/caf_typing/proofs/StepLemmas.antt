-- A step without faults goes to an actor that takes its message.
use Rattle.std.proofs.Common.{◌≡◌, ℕ, true, List, [], ◌∷◌, map, Option, Some, None, refl, sym, ap, subst, ◌∙◌}
use Rattle.std.specs.Prelude.{is_some}
use Rattle.std.specs.List.{AllByRecursion}
use Rattle.serde_json.specs.Data.{Data as Json}
use Rattle.caf_types.specs.declared.notice.Priority.{Priority}
use Rattle.caf_types.specs.declared.shape.TypeId.{TypeId}
use Rattle.caf_words.specs.Datum.{Data, data_of}
use Rattle.caf_words.specs.Several.{ids_of}
use Rattle.caf_words.specs.Value.{datum}
use Rattle.caf_words.specs.declared.value.Value.{Value}
use Rattle.caf_kinds.specs.Setups.{setup_at}
use Rattle.caf_kinds.specs.Starting.{IsMessage, IsTyped, IsTypedStep, IsThere, Takes}
use Rattle.caf_kinds.specs.declared.script.Step.{Step}
use Rattle.caf_kinds.specs.declared.script.Step.TheVariants as step
use Rattle.caf_kinds.specs.declared.setup.KindName.{KindName}
use Rattle.caf_kinds.specs.declared.setup.Setup.{Setup}
use Rattle.caf_scenario.specs.declared.written.Way.{Way}
use Rattle.caf_scenario.specs.declared.written.Way.TheVariants as way
use Rattle.caf_scenario.specs.Actors.{Finder}
use Rattle.caf_scenario.specs.Elements.{elements_of, ids_in, values_in}
use Rattle.caf_scenario.specs.Path.{step_path}
use Rattle.caf_scenario.specs.Read.{unknown}
use Rattle.caf_scenario.specs.Scenario.{PlainStep, tell, request, within, exits, syncs, ticks, plain_step, sent_said, step_said, place_in, place_of}
use Rattle.caf_scenario.specs.Steps.{sent_fault, step_fault}
use Rattle.caf_scenario.specs.Written.{StepText, send, exit, sync, tick}
use Rattle.caf_typing.proofs.FaultLemmas.{NoFault, holds, some_is}
use Rattle.caf_typing.proofs.MessageLemmas.{IsTypedMessage, message_typed}

-- ---- a step as it is seen

-- the actor there takes what is sent
abbrev pub TakesSent : Option Setup → List ℕ → Data → Type 0
TakesSent None ids values = ⊥
TakesSent (Some setup) ids values = IsTypedMessage setup.kind ids values

abbrev pub IsTypedPlain : List Setup → PlainStep → Type 0
IsTypedPlain setups (tell to priority ids values) = TakesSent (setup_at setups to) ids values
IsTypedPlain setups (request to priority mode ids values) = TakesSent (setup_at setups to) ids values
IsTypedPlain setups (within to priority mode ids values after) = TakesSent (setup_at setups to) ids values
IsTypedPlain setups (exits to reason) = IsThere (setup_at setups to)
IsTypedPlain setups syncs = Unit {0}
IsTypedPlain setups ticks = Unit {0}

typed_there : (o : Option Setup) (types : List TypeId) (values : List Value) → TakesSent o (ids_of types) (data_of (map datum values)) → IsMessage types values × Takes o types
typed_there None types values h = absurd h
typed_there (Some setup) types values h =
    (record { shapes = h.typed.shapes; known = h.typed.known; fit = h.typed.fit; small = h.small }, h.taken)

typed_to : (setups : List Setup) (to : ℕ) (types : List TypeId) (values : List Value) → TakesSent (setup_at setups to) (ids_of types) (data_of (map datum values))
    → IsTyped setups to types values
typed_to setups to types values h =
    let both = typed_there (setup_at setups to) types values h in
    record { message = both.0; taken = both.1 }

pub seen_typed : (setups : List Setup) (s : Step) → IsTypedPlain setups (plain_step s) → IsTypedStep setups s
seen_typed setups (step.Tell to priority types values) h = typed_to setups to types values h
seen_typed setups (step.Request to priority mode types values) h = typed_to setups to types values h
seen_typed setups (step.Within to priority mode types values after) h = typed_to setups to types values h
seen_typed setups (step.Exit to reason) h = h
seen_typed setups step.Sync h = tt
seen_typed setups step.Tick h = tt

-- ---- a step as it is said

-- who is found under a name is set up at the place, as one of that kind
abbrev pub AreSetUp : Finder → List Setup → Type 0
AreSetUp who setups = (text : List ℕ) (found : ℕ × KindName) → who text ≡ Some found → (s : Setup) × (setup_at setups found.0 ≡ Some s) × (s.kind ≡ found.1)

sent_typed : (who : Finder) (setups : List Setup) → AreSetUp who setups → (path to : List ℕ) (message : List Json) → sent_fault path to message (who to) ≡ None
    → TakesSent (setup_at setups (place_of who to)) (ids_in (elements_of message)) (values_in (elements_of message))
sent_typed who setups up path to message none = go (who to) refl none
  where
    go : (o : Option (ℕ × KindName)) → who to ≡ o → sent_fault path to message o ≡ None
        → TakesSent (setup_at setups (place_in (who to))) (ids_in (elements_of message)) (values_in (elements_of message))
    go None is h = absurd cc
    go (Some found) is h =
        let there = up to found is in
        let typed : IsTypedMessage found.1 (ids_in (elements_of message)) (values_in (elements_of message)) = message_typed path to message found.1 h in
        let at : setup_at setups (place_in (who to)) ≡ Some there.0 = ap (λ (o : Option (ℕ × KindName)). setup_at setups (place_in o)) is ∙ there.1 in
        subst (λ (o : Option Setup). TakesSent o (ids_in (elements_of message)) (values_in (elements_of message))) (sym at)
        (subst (λ (k : KindName). IsTypedMessage k (ids_in (elements_of message)) (values_in (elements_of message))) (sym there.2) typed)

way_typed : (setups : List Setup) (w : Way) (to : ℕ) (priority : Priority) (ids : List ℕ) (values : Data) → TakesSent (setup_at setups to) ids values
    → IsTypedPlain setups (sent_said w to priority ids values)
way_typed setups way.Tell to priority ids values h = h
way_typed setups (way.Request mode) to priority ids values h = h
way_typed setups (way.Within mode after) to priority ids values h = h

exit_there : (who : Finder) (setups : List Setup) → AreSetUp who setups → (to : List ℕ) → is_some (who to) ≡ true → IsThere (setup_at setups (place_of who to))
exit_there who setups up to some =
    let found = some_is (who to) some in
    let there = up to found.0 found.1 in
    subst IsThere (sym (ap (λ (o : Option (ℕ × KindName)). setup_at setups (place_in o)) found.1 ∙ there.1)) tt

said_typed : (who : Finder) (setups : List Setup) → AreSetUp who setups → (t : StepText) → NoFault (step_fault who) t → IsTypedPlain setups (step_said who t)
said_typed who setups up (send w to message priority) none =
    way_typed setups w (place_of who to) priority (ids_in (elements_of message)) (values_in (elements_of message))
    (sent_typed who setups up (step_path none.0) to message none.1)
said_typed who setups up (exit to reason) none = exit_there who setups up to (holds (is_some (who to)) (unknown to) none.1)
said_typed who setups up sync none = tt
said_typed who setups up tick none = tt

-- ---- all steps

pub steps_typed : (who : Finder) (setups : List Setup) → AreSetUp who setups → (steps : List Step) (texts : List StepText)
    → map plain_step steps ≡ map (step_said who) texts → AllByRecursion (NoFault (step_fault who)) texts → AllByRecursion (IsTypedStep setups) steps
steps_typed who setups up [] texts same none = tt
steps_typed who setups up (s ∷ steps) [] same none = absurd cc
steps_typed who setups up (s ∷ steps) (t ∷ texts) same none =
    let first : plain_step s ≡ step_said who t = cc in
    let others : map plain_step steps ≡ map (step_said who) texts = cc in
    (seen_typed setups s (subst (IsTypedPlain setups) (sym first) (said_typed who setups up t none.0)), steps_typed who setups up steps texts others none.1)

pub plain_typed : (setups : List Setup) (steps : List Step) (plains : List PlainStep) → map plain_step steps ≡ plains → AllByRecursion (IsTypedPlain setups) plains
    → AllByRecursion (IsTypedStep setups) steps
plain_typed setups [] plains same typed = tt
plain_typed setups (s ∷ steps) [] same typed = absurd cc
plain_typed setups (s ∷ steps) (p ∷ plains) same typed =
    let first : plain_step s ≡ p = cc in
    let others : map plain_step steps ≡ plains = cc in
    (seen_typed setups s (subst (IsTypedPlain setups) (sym first) typed.0), plain_typed setups steps plains others typed.1)

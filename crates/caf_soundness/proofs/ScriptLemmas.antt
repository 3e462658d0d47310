-- A conductor's steps, as they are planned, go to actors that take them and answer as the steps expect.
use Rattle.std.proofs.Common.{◌≡◌, ℕ, ◌+◌, Bool, true, false, List, [], ◌∷◌, map, Option, Some, None, if◌then◌else◌, refl, ap, sym, ◌∙◌}
use Rattle.std.specs.Prelude.{bytes_eq, is_some, find}
use Rattle.std.specs.Option.{option_map}
use Rattle.std.specs.List.{AllByRecursion}
use Rattle.std.proofs.lemmas.Slice.Eq.{bytes_eq-Decides}
use Rattle.caf_types.specs.declared.shape.TypeId.{TypeId}
use Rattle.caf_words.specs.Datum.{data_of}
use Rattle.caf_words.specs.Several.{ids_of}
use Rattle.caf_words.specs.Value.{datum}
use Rattle.caf_words.specs.declared.value.Value.{Value}
use Rattle.caf_message.specs.Content.{ids_in}
use Rattle.caf_message.proofs.ContentLemmas.{ids_in-content}
use Rattle.caf_signature.specs.Interface.{takes, result_for}
use Rattle.caf_signature.specs.declared.interface.Signature.{Signature}
use Rattle.caf_actor.specs.Rules.{takes_ids, is_input, declared_for}
use Rattle.caf_kinds.specs.Kinds.{interface_of}
use Rattle.caf_kinds.specs.Planning.{content_for, or_none, answer_of, answer_types, planned_step, planned_from}
use Rattle.caf_kinds.specs.Setups.{setup_at}
use Rattle.caf_kinds.specs.Starting.{Takes, IsTypedStep}
use Rattle.caf_kinds.proofs.AskedLemmas.{same_numbers}
use Rattle.caf_kinds.specs.declared.script.Step.{Step}
use Rattle.caf_kinds.specs.declared.script.Step.TheVariants as step
use Rattle.caf_kinds.specs.declared.setup.Setup.{Setup}
use Rattle.caf_soundness.specs.Typed.{face_of, face}
use Rattle.caf_soundness.proofs.LogLemmas.{Log}
use Rattle.caf_soundness.proofs.ComesLemmas.{Accepts, AnswersBy}
use Rattle.caf_soundness.proofs.KindLemmas.{Plays}

-- ---- the result of an input, by types and by IDs

same_test : (b c : Bool) → (b ≡ true → c ≡ true) → (c ≡ true → b ≡ true) → b ≡ c
same_test true c to from = sym (to refl)
same_test false true to from = from refl
same_test false false to from = refl

turned_round : (xs ys : List ℕ) → bytes_eq xs ys ≡ bytes_eq ys xs
turned_round xs ys = same_test (bytes_eq xs ys) (bytes_eq ys xs)
    (λ e. (bytes_eq-Decides ys xs).1 (sym ((bytes_eq-Decides xs ys).0 e)))
    (λ e. (bytes_eq-Decides xs ys).1 (sym ((bytes_eq-Decides ys xs).0 e)))

same_taker : (types : List TypeId) (s : Signature) → takes types s ≡ takes_ids (ids_of types) s
same_taker types s = same_numbers types s.input ∙ turned_round (ids_of types) (ids_of s.input)

same_find : (types : List TypeId) (ss : List Signature) → find (takes types) ss ≡ find (takes_ids (ids_of types)) ss
same_find types [] = refl
same_find types (s ∷ ss) =
    ap (λ (b : Bool). if b then Some s else find (takes types) ss) (same_taker types s)
    ∙ ap (λ (o : Option Signature). if takes_ids (ids_of types) s then Some s else o) (same_find types ss)

declared_found : (o : Option Signature) → is_some o ≡ true → option_map (λ (s : Signature). ids_of s.result) o ≡ Some (ids_of (or_none (option_map (λ (s : Signature). s.result) o)))
declared_found None e = absurd cc
declared_found (Some s) e = refl

result_declared : (interface : List Signature) (types : List TypeId) → is_input interface (ids_of types) ≡ true → declared_for interface (ids_of types) ≡ Some (ids_of (or_none (result_for interface types)))
result_declared interface types e =
    declared_found (find (takes_ids (ids_of types)) interface) e
    ∙ ap (λ (o : Option Signature). Some (ids_of (or_none (option_map (λ (s : Signature). s.result) o)))) (sym (same_find types interface))

-- ---- steps

taken_there : (o : Option Setup) (types : List TypeId) → Takes o types → is_input (face_of o) (ids_of types) ≡ true
taken_there None types h = absurd h
taken_there (Some s) types h = h

answered_there : (o : Option Setup) (types : List TypeId) → Takes o types → declared_for (face_of o) (ids_of types) ≡ Some (ids_of (answer_of o types))
answered_there None types h = absurd h
answered_there (Some s) types h = result_declared (interface_of s.kind) types h

module _ (setups : List Setup) (l : Log) where
  said_ids : (types : List TypeId) (values : List Value) → ids_in (content_for types values) ≡ ids_of types
  said_ids types values = ids_in-content (ids_of types) (data_of (map datum values))

  tell_typed : (to : ℕ) (types : List TypeId) (values : List Value) → Takes (setup_at setups to) types → Accepts (face setups) to (content_for types values)
  tell_typed to types values h = ap (is_input (face setups to)) (said_ids types values) ∙ taken_there (setup_at setups to) types h

  request_typed : (to : ℕ) (types : List TypeId) (values : List Value) → Takes (setup_at setups to) types → AnswersBy (face setups) to (content_for types values) (ids_of (answer_types setups to types))
  request_typed to types values h = ap (declared_for (face setups to)) (said_ids types values) ∙ answered_there (setup_at setups to) types h

  step_typed : (n : ℕ) (s : Step) → IsTypedStep setups s → Plays setups l (planned_step setups n s)
  step_typed n (step.Tell to priority types values) h = (tell_typed to types values h.taken, tt)
  step_typed n (step.Request to priority mode types values) h = (request_typed to types values h.taken, tt)
  step_typed n (step.Within to priority mode types values ticks) h = (request_typed to types values h.taken, tt)
  step_typed n (step.Exit to reason) h = (tt, tt)
  step_typed n step.Sync h = tt
  step_typed n step.Tick h = tt

  pub script_typed : (n : ℕ) (steps : List Step) → AllByRecursion (IsTypedStep setups) steps → AllByRecursion (Plays setups l) (planned_from setups n steps)
  script_typed n [] h = tt
  script_typed n (s ∷ steps) h = (step_typed n s h.0, script_typed (n + 1) steps h.1)

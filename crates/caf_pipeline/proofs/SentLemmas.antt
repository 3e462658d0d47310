-- The conductor of an undisturbed script sends it whole, at once.
use Rattle.std.proofs.Common.{◌≡◌, ℕ, suc, ◌+◌, Bool, true, List, [], ◌∷◌, ◌++◌, length, map, flat_map, Option, refl, sym, subst, ap, ◌∙◌, append_assoc}
use Rattle.std.specs.Prelude.{if◌then◌else◌}
use Rattle.std.specs.List.{AllByRecursion}
use Rattle.std.proofs.lemmas.List.{append-nil}
use Rattle.std.proofs.lemmas.List.Concat.{flat_map-cons}
use Rattle.caf_types.specs.declared.shape.TypeId.{TypeId}
use Rattle.caf_words.specs.Datum.{data_of}
use Rattle.caf_words.specs.Value.{datum}
use Rattle.caf_words.specs.declared.value.Value.{Value}
use Rattle.caf_message.specs.Content.{content_of}
use Rattle.caf_actor.specs.PlainOutput.{PlainOutput}
use Rattle.caf_script.specs.Script.{Played, is_met, behind, play}
use Rattle.caf_script.specs.Step as played
use Rattle.caf_script.specs.Step.{sent, waits_for}
use Rattle.caf_script.specs.declared.script.Script.{Script}
use Rattle.caf_script.specs.declared.step.Wait.TheVariants as wait
use Rattle.caf_kinds.specs.Asking.{Types, type_ids, type_id}
use Rattle.caf_kinds.specs.Collector.{asking_index, asking_totals}
use Rattle.caf_kinds.specs.Source.{starting}
use Rattle.caf_kinds.specs.Kinds.{interface_of}
use Rattle.caf_signature.specs.Interface.{result_for}
use Rattle.caf_kinds.specs.Planning.{content_for, or_none, answer_of, answer_types, planned_step, planned_from, script_of}
use Rattle.caf_kinds.specs.declared.script.Step.{Step}
use Rattle.caf_kinds.specs.declared.script.Step.TheVariants as step
use Rattle.caf_kinds.specs.declared.setup.KindName.{KindName}
use Rattle.caf_kinds.specs.declared.setup.KindName.TheVariants as name
use Rattle.caf_kinds.specs.declared.setup.Setup.{Setup}
use Rattle.caf_kinds.proofs.AskedLemmas.{typed_as}
use Rattle.caf_pipeline.specs.Undisturbed.{Pipeline, IsSetUp, IsPipeline, IsAtom, IsTold, IsRequested, IsPlainScript}
use Rattle.caf_pipeline.specs.Parts.{atom_content, start_content}
use Rattle.caf_pipeline.specs.Sent.{summary_types, total_types, IsTell, IsRequest, AreTotals, AreSent, UndisturbedScriptIsSent}

-- ---- a plan that never waits is played to its end

abbrev pub NeverWaits : List played.Step → Type 0
NeverWaits plan = AllByRecursion (λ step. waits_for step ≡ wait.Nothing) plan

record PlayedAll (plan : List played.Step) (out : List PlainOutput) (after : Played) : Type 0 where
  pub outputs : after.1 ≡ out ++ flat_map sent plan
  pub left : after.0.plan ≡ []

played_all : (plan : List played.Step) (s : Script) (out : List PlainOutput) → s.plan ≡ plan → NeverWaits plan → PlayedAll plan out (play plan s out)
played_all [] s out e never = record { outputs = sym (append-nil out); left = e }
played_all (step ∷ rest) s out e never =
    let later = played_all rest (behind s step rest) (out ++ sent step) refl never.1 in
    let met : is_met s (waits_for step) ≡ true = ap (is_met s) never.0 in
    let goes : play (step ∷ rest) s out ≡ play rest (behind s step rest) (out ++ sent step) =
    ap (λ (b : Bool). if b then play rest (behind s step rest) (out ++ sent step) else (s, out)) met in
    record {
      outputs = ap (λ (after : Played). after.1) goes ∙ later.outputs ∙ append_assoc out (sent step) (flat_map sent rest) ∙ ap (λ (os : List PlainOutput). out ++ os) (sym (flat_map-cons sent step rest));
      left = ap (λ (after : Played). after.0.plan) goes ∙ later.left;
    }

-- ---- the steps of an undisturbed script

said : (atom : Types) (types : List TypeId) (values : List Value) → IsAtom atom types values → content_for types values ≡ atom_content atom
said atom types values is = ap (λ (ids : List ℕ). content_of ids (data_of (map datum values))) is.ids ∙ ap (content_of (type_ids atom)) is.units

pub answered : (setups : List Setup) (kind : KindName) (peers : List ℕ) (to : ℕ) → IsSetUp setups kind peers to → (atom : Types) (types : List TypeId) (values : List Value) → IsAtom atom types values
    → answer_types setups to types ≡ or_none (result_for (interface_of kind) (map type_id (type_ids atom)))
answered setups kind peers to is atom types values a =
    ap (λ (o : Option Setup). answer_of o types) is.at
    ∙ ap (λ (k : KindName). or_none (result_for (interface_of k) types)) is.kind_is
    ∙ ap (λ (ts : List TypeId). or_none (result_for (interface_of kind) ts)) (typed_as types (type_ids atom) a.ids)

-- the step never waits, and sends one thing, of which that holds
pub record Sends (P : PlainOutput → Type 0) (step : played.Step) : Type 0 where
  pub never : waits_for step ≡ wait.Nothing
  pub output : PlainOutput
  pub sent_is : sent step ≡ output ∷ []
  pub holds : P output

pub told_sends : (setups : List Setup) (n to : ℕ) (s : Step) → IsTold to starting s → Sends (IsTell to start_content) (planned_step setups n s)
told_sends setups n to (step.Tell place priority types values) is = record { never = refl; output = _; sent_is = refl; holds = (is.0, said starting types values is.1) }
told_sends setups n to _ is = absurd is

pub requested_sends : (setups : List Setup) (n : ℕ) (p : Pipeline) → IsPipeline setups p → (atom : Types) (types : List TypeId) → or_none (result_for (interface_of name.Collector) (map type_id (type_ids atom))) ≡ types
    → (s : Step) → IsRequested p.collector atom s → Sends (IsRequest p.collector n types (atom_content atom)) (planned_step setups n s)
requested_sends setups n p is atom types e (step.Request place priority mode asked values) r = record {
  never = refl;
  output = _;
  sent_is = refl;
  holds = (r.0, r.1, refl, ap (λ (q : ℕ). answer_types setups q asked) r.0 ∙ answered setups name.Collector [] p.collector is.collector atom asked values r.2 ∙ e, said atom asked values r.2);
}
requested_sends setups n p is atom types e _ r = absurd r

-- ---- all of them

abbrev outputs_of : List Setup → ℕ → List Step → List PlainOutput
outputs_of setups n steps = flat_map sent (planned_from setups n steps)

outputs_on : (setups : List Setup) (n : ℕ) (s : Step) (steps : List Step) (o : PlainOutput) → sent (planned_step setups n s) ≡ o ∷ [] → outputs_of setups n (s ∷ steps) ≡ o ∷ outputs_of setups (n + 1) steps
outputs_on setups n s steps o e = flat_map-cons sent (planned_step setups n s) (planned_from setups (n + 1) steps) ∙ ap (λ (os : List PlainOutput). os ++ outputs_of setups (n + 1) steps) e

pub record AllSend (P : List PlainOutput → Type 0) (setups : List Setup) (n : ℕ) (steps : List Step) : Type 0 where
  pub never : NeverWaits (planned_from setups n steps)
  pub each : length (outputs_of setups n steps) ≡ length steps
  pub holds : P (outputs_of setups n steps)

totals_send : (setups : List Setup) (p : Pipeline) → IsPipeline setups p → (n : ℕ) (steps : List Step) → AllByRecursion (IsRequested p.collector asking_totals) steps → AllSend (AreTotals p.collector n) setups n steps
totals_send setups p is n [] all = record { never = tt; each = refl; holds = tt }
totals_send setups p is n (s ∷ steps) all =
    let one = requested_sends setups n p is asking_totals total_types refl s all.0 in
    let rest = totals_send setups p is (n + 1) steps all.1 in
    let same = outputs_on setups n s steps one.output one.sent_is in
    record {
      never = (one.never, rest.never);
      each = ap length same ∙ ap suc rest.each;
      holds = subst (AreTotals p.collector n) (sym same) (one.holds, rest.holds);
    }

pub script_sends : (setups : List Setup) (p : Pipeline) → IsPipeline setups p → (script : List Step) → IsPlainScript p script → AllSend (AreSent p) setups 1 script
script_sends setups p is [] plays = absurd plays
script_sends setups p is (first ∷ []) plays = absurd plays
script_sends setups p is (first ∷ second ∷ others) plays =
    let one = told_sends setups 1 p.source first plays.0 in
    let two = requested_sends setups 2 p is asking_index summary_types refl second plays.1 in
    let rest = totals_send setups p is 3 others plays.2 in
    let same = outputs_on setups 1 first (second ∷ others) one.output one.sent_is ∙ ap (λ (os : List PlainOutput). one.output ∷ os) (outputs_on setups 2 second others two.output two.sent_is) in
    record {
      never = (one.never, (two.never, rest.never));
      each = ap length same ∙ ap (λ (n : ℕ). suc (suc n)) rest.each;
      holds = subst (AreSent p) (sym same) (one.holds, two.holds, rest.holds);
    }

pub script_is_sent : UndisturbedScriptIsSent
script_is_sent who setups script is =
    let all = script_sends setups is.pipeline is.actors script is.plays in
    let end = played_all (planned_from setups 1 script) (script_of setups script) [] refl all.never in
    record {
      sent = subst (AreSent is.pipeline) (sym end.outputs) all.holds;
      each = ap length end.outputs ∙ all.each;
      none_left = end.left;
    }

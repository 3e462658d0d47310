-- Where the conductor of an undisturbed run stands once it took Start: what it has sent, and what it waits for.
use Rattle.std.proofs.Common.{◌≡◌, ℕ, zero, suc, ◌-◌, ◌≤◌, ◌<◌, Bool, true, false, List, [], ◌∷◌, length, replicate, count_by, Some, inl, inr, refl, sym, subst, ap, ◌∙◌, arith}
use Rattle.std.specs.Prelude.{◌⊎◌, ◌==◌, nat_le, bytes_eq, slice_get}
use Rattle.std.proofs.lemmas.Bool.Decides.{nat_tests}
use Rattle.caf_index.specs.Index.{Entries}
use Rattle.caf_message.specs.Content.{ids_in}
use Rattle.caf_response.specs.Pending.{WaitingRequests, has_number}
use Rattle.caf_response.specs.declared.pending.Waiting.{Waiting}
use Rattle.caf_words.specs.Several.{ids_of}
use Rattle.caf_types.specs.declared.sec.Sec.{Sec}
use Rattle.caf_actor.specs.Handling.{failure_input, response_input}
use Rattle.caf_actor.specs.PlainInput.{Start, Response, Failed}
use Rattle.caf_actor.specs.PlainOutput.{PlainOutput}
use Rattle.caf_actor.specs.Record.{Kept, machine_of, IsAtRest}
use Rattle.caf_actor.specs.Run.{Turn}
use Rattle.caf_actor.specs.declared.snapshot.Snapshot.{Snapshot}
use Rattle.caf_script.specs.Reply as reply
use Rattle.caf_script.specs.Reply.{Reply, Unsent}
use Rattle.caf_script.specs.Script.{goes_on, answered, step_of, play, behind}
use Rattle.caf_script.specs.Script as played_script
use Rattle.caf_script.specs.Step.{sent}
use Rattle.caf_kinds.specs.Conductor.{Conducting, plays}
use Rattle.caf_kinds.specs.FileChunks.{all_chunks}
use Rattle.caf_kinds.specs.Kinds.{kind_rules}
use Rattle.caf_kinds.specs.Planning.{planned_step, planned_from, script_of}
use Rattle.caf_kinds.specs.declared.kind.Kind.{Kind}
use Rattle.caf_kinds.specs.declared.kind.Kind.TheVariants as kind
use Rattle.caf_kinds.specs.declared.script.Step.{Step}
use Rattle.caf_kinds.specs.declared.script.Step.TheVariants as step
use Rattle.caf_kinds.specs.declared.setup.Setup.{Setup}
use Rattle.caf_opening.specs.Opening.{conductor_at_0, who_conducts}
use Rattle.caf_steady.specs.Outline.{Outline, Outlined, Bare, outline_of, with_outline}
use Rattle.caf_steady.specs.Reading.{react, all_in_turn}
use Rattle.caf_steady.specs.Steady.{reading}
use Rattle.caf_pipeline.specs.Undisturbed.{Pipeline, IsPipeline, IsPlainScript}
use Rattle.caf_pipeline.specs.Flow.{IsUndisturbedRecord}
use Rattle.caf_pipeline.proofs.AwaitingLemmas.{IsWaitingRight, IsAwaiting}
use Rattle.caf_pipeline.proofs.FoundLemmas.{quiet_react, asked_above}
use Rattle.caf_pipeline.proofs.ConductedLemmas.{IsConducted, without_request, all_conducted}
use Rattle.caf_pipeline.proofs.IdleLemmas.{resolved_plan}
use Rattle.caf_pipeline.proofs.IssueLemmas.{HasIssued, all_issued}
use Rattle.caf_pipeline.proofs.ListLemmas.{all_of}
use Rattle.caf_pipeline.proofs.PlayLemmas.{plays_to, script_expects}
use Rattle.caf_pipeline.proofs.ReadLemmas.{outputs_same}
use Rattle.caf_pipeline.proofs.ScriptLemmas.{PlayedOut, played_out, answered_plan, any_envelopes, conducting, opened, opens_as, has_begun, starts_played}
use Rattle.caf_pipeline.proofs.SentLemmas.{script_sends, script_is_sent}

-- ---- nothing more is sent

record StaysSent (first : List Bare) (o : Outlined Kind) : Type 0 where
  pub played : PlayedOut o
  pub same : o.sent ≡ first

value_sends : (first : List Bare) (o : Outlined Kind) (w : Waiting) (words : List ℕ) → StaysSent first o → (react kind_rules o (response_input w words)).sent ≡ first
value_sends first o w words x = go (bytes_eq (ids_of w.expected) (ids_in words)) refl
  where
    failed : (sec : Sec) → (react kind_rules o (Failed w.tag sec)).sent ≡ first
    failed sec =
        ap (λ (y : Outlined Kind). y.sent) (quiet_react o (Failed w.tag sec) x.played.conducting (played_script.resolved x.played.conducting.script w.tag (reply.Failed sec)) x.played.is refl (resolved_plan x.played.conducting.script (step_of w.tag) (reply.Failed sec) ∙ x.played.none_left)) ∙ x.same

    go : (b : Bool) → bytes_eq (ids_of w.expected) (ids_in words) ≡ b → (react kind_rules o (response_input w words)).sent ≡ first
    go true q = rw q (ap (λ (y : Outlined Kind). y.sent) (quiet_react o (Response w.tag words) x.played.conducting (answered x.played.conducting.script w.tag words) x.played.is refl (answered_plan x.played.conducting.script (step_of w.tag) words ∙ x.played.none_left)) ∙ x.same)
    go false q = rw q (failed _)

stays_sent : (first : List Bare) → IsConducted (λ e. Unit {0}) (StaysSent first)
stays_sent first = record {
  on_start = λ o x. record {
    played = played_out.on_start o x.played;
    same = ap (λ (y : Outlined Kind). y.sent) (quiet_react o Start x.played.conducting x.played.conducting.script x.played.is refl x.played.none_left) ∙ x.same;
  };
  on_value = λ o e words found x q body response f.
      record { played = played_out.on_value o e words found x.played tt body response f; same = value_sends first (without_request o found.1) found.0 words (left o found.1 x) };
  on_error = λ o e sec found x q body f.
      let c = x.played.conducting in
      record {
        played = played_out.on_error o e sec found x.played tt body f;
        same = ap (λ (y : Outlined Kind). y.sent)
            (quiet_react (without_request o found.1) (failure_input found.0 sec) c (played_script.resolved c.script found.0.tag (reply.Failed sec)) x.played.is refl (resolved_plan c.script (step_of found.0.tag) (reply.Failed sec) ∙ x.played.none_left)) ∙ x.same;
      };
}
  where
    left : (o : Outlined Kind) (w : WaitingRequests) → StaysSent first o → StaysSent first (without_request o w)
    left o w x = record { played = record { conducting = x.played.conducting; is = x.played.is; none_left = x.played.none_left; known = tt }; same = x.same }

long_replicate : {A : Type 0} (n : ℕ) (x : A) → length (replicate n x) ≡ n
long_replicate zero x = refl
long_replicate (suc n) x = ap suc (long_replicate n x)

-- the first step is no request
first_unsent : (setups : List Setup) (p : Pipeline) → IsPipeline setups p → (steps : List Step) → IsPlainScript p steps → slice_get (play (planned_from setups 1 steps) (script_of setups steps) []).0.replies 0 ≡ Some Unsent
first_unsent setups p are [] plays = absurd plays
first_unsent setups p are (one ∷ []) plays = absurd plays
first_unsent setups p are (step.Tell to priority types values ∷ second ∷ others) plays =
    let steps = step.Tell to priority types values ∷ second ∷ others in
    let never = (script_sends setups p are steps plays).never in
    let s = behind (script_of setups steps) (planned_step setups 1 (step.Tell to priority types values)) (planned_from setups 2 (second ∷ others)) in
    (plays_to (planned_from setups 2 (second ∷ others)) s (sent (planned_step setups 1 (step.Tell to priority types values))) never.1).kept 0 (omega arith)
first_unsent setups p are (_ ∷ second ∷ others) plays = absurd plays.0

-- ---- a record

module _ (setups : List Setup) (steps : List Step) (files : List (List ℕ)) (ticks : ℕ) (k : Kept (Snapshot Kind)) (ts : List Turn) (is : IsUndisturbedRecord setups steps files ticks k ts) where
  abbrev pub started : Outlined Kind
  started = react kind_rules (opened setups steps files ticks k ts is) Start

  pub first_sent : IsAtRest (machine_of kind_rules) k → (reading kind_rules (k.start 0) (k.journal 0)).sent ≡ started.sent
  first_sent rest =
      let begun = has_begun setups steps files ticks k ts is rest in
      let all = all_conducted setups (all_chunks files) (λ e. Unit {0}) (StaysSent started.sent) (stays_sent started.sent) started (all_in_turn begun.later) begun.brings (any_envelopes (all_in_turn begun.later))
      (record { played = starts_played setups steps files ticks k ts is; same = refl }) in
      ap (λ (o : Outlined Kind). o.sent) begun.reads ∙ all.same

  -- the same, from the opening
  abbrev opened_first : Outlined Kind
  opened_first = record { outline = outline_of (conductor_at_0 setups steps).snapshot; sent = [] }

  opened_same : opened setups steps files ticks k ts is ≡ opened_first
  opened_same = ap (λ (l : Outline Kind). record { outline = l; sent = [] }) (opens_as setups steps files ticks k ts is)

  abbrev at_first : Conducting
  at_first = conducting setups steps files ticks k ts is

  abbrev started_first : Outlined Kind
  started_first = react kind_rules opened_first Start

  abbrev outputs : List PlainOutput
  outputs = (goes_on at_first.script).1

  module _ (lines bytes : ℕ) (index : Entries) where
    issued_first : HasIssued (length steps) lines bytes index is.undisturbed.pipeline started_first (length steps - 1)
    issued_first =
        let all = script_is_sent who_conducts setups steps is.undisturbed in
        let few = is.undisturbed.steps in
        let long = all.each in
        subst (HasIssued (length steps) lines bytes index is.undisturbed.pipeline started_first) (ap (λ x. x - 1) long)
        (all_issued (length steps) lines bytes index is.undisturbed.pipeline (with_outline opened_first (record opened_first.outline { behavior = kind.Conductor (plays at_first (goes_on at_first.script)).0 })) outputs all.sent
        (omega (arith, long)) (omega (arith, long, few))
        (record { at = refl; next = refl; awaited = refl; waiting = tt; once = λ j low high. absurd (omega (arith, low, high)); none = λ j out. refl; sent = tt; asks = λ j low high. absurd (omega (arith, low, high)) }))

    pub issued : HasIssued (length steps) lines bytes index is.undisturbed.pipeline started (length steps - 1)
    issued = subst (λ (o : Outlined Kind). HasIssued (length steps) lines bytes index is.undisturbed.pipeline (react kind_rules o Start) (length steps - 1)) (sym opened_same) issued_first

    abbrev IsRight : List Bare → Waiting → Type 0
    IsRight bs = IsWaitingRight (length steps) lines bytes index bs

    awaiting_first : IsAwaiting (length steps) lines bytes index started_first.sent started_first
    awaiting_first =
        let h = issued_first in
        let script = (goes_on at_first.script).0 in
        let plan = planned_from setups 1 steps in
        let never = (script_sends setups is.undisturbed.pipeline is.undisturbed.actors steps is.undisturbed.plays).never in
        let to = plays_to plan (script_of setups steps) [] never in
        record {
          conducting = (plays at_first (goes_on at_first.script)).0;
          is = outputs_same (with_outline opened_first (record opened_first.outline { behavior = kind.Conductor (plays at_first (goes_on at_first.script)).0 })) outputs;
          none_left = (script_is_sent who_conducts setups steps is.undisturbed).none_left;
          first = first_unsent setups is.undisturbed.pipeline is.undisturbed.actors steps is.undisturbed.plays;
          many = to.many ∙ long_replicate (length steps) Unsent;
          expects = λ m q asked low. ap (λ es. slice_get es m) to.expected ∙ script_expects setups is.undisturbed.pipeline is.undisturbed.actors steps is.undisturbed.plays m q asked low;
          awaited = h.awaited;
          waiting = all_of (IsRight []) (IsRight started_first.sent) started_first.outline.pending.multiplexed (λ w r. record { question = r.question; asked = r.asked; tag = r.tag; expected = r.expected; below = r.below }) h.waiting;
          once = λ m. most m (nat_cases m);
          settled = λ m q asked low. inl (let above = asked_above m q asked in let one = h.once m above (omega (arith, above, low)) in omega (arith, one));
          sent = refl;
        }
      where
        nat_cases : (m : ℕ) → ((m < 1) ⊎ (length steps - 1 < m)) ⊎ ((1 ≤ m) × (m ≤ length steps - 1))
        nat_cases m = low (m == 0) refl (nat_le m (length steps - 1)) refl
          where
            low : (b : Bool) → (m == 0) ≡ b → (c : Bool) → nat_le m (length steps - 1) ≡ c → ((m < 1) ⊎ (length steps - 1 < m)) ⊎ ((1 ≤ m) × (m ≤ length steps - 1))
            low true q c r = inl (inl (grind (arith, nat_tests, q)))
            low false q true r = inr (grind (arith, nat_tests, q), grind (arith, nat_tests, r))
            low false q false r = inl (inr (grind (arith, nat_tests, r)))

        most : (m : ℕ) → ((m < 1) ⊎ (length steps - 1 < m)) ⊎ ((1 ≤ m) × (m ≤ length steps - 1)) → count_by (has_number m) started_first.outline.pending.multiplexed ≤ 1
        most m (inl out) = let none = issued_first.none m out in omega (arith, none)
        most m (inr within) = let one = issued_first.once m within.0 within.1 in omega (arith, one)

    pub awaiting : IsAwaiting (length steps) lines bytes index started.sent started
    awaiting = subst (λ (o : Outlined Kind). IsAwaiting (length steps) lines bytes index (react kind_rules o Start).sent (react kind_rules o Start)) (sym opened_same) awaiting_first

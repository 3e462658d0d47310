-- A conductor plays a well typed script.
use Rattle.std.proofs.Common.{◌≡◌, ℕ, List, [], ◌∷◌, map, flat_map, Option, Some, None, refl, sym, subst, ◌∙◌}
use Rattle.std.specs.List.{AllByRecursion}
use Rattle.std.proofs.lemmas.List.Concat.{flat_map-cons}
use Rattle.caf_mailbox.proofs.NextLemmas.{all_append}
use Rattle.caf_actor.specs.PlainInput.{PlainInput, Start, Stop, Content, Response, Failed, Down, Tick}
use Rattle.caf_actor.specs.PlainOutput.{PlainOutput}
use Rattle.caf_actor.specs.PlainReaction as answer
use Rattle.caf_record.proofs.ListLemmas.{all_left, all_right}
use Rattle.caf_script.specs.Reply as reply
use Rattle.caf_script.specs.Reply.{Reply}
use Rattle.caf_script.specs.Script.{goes_on, answered, answered_at, resolved, resolved_at, ticked, step_of}
use Rattle.caf_script.specs.Step as planned
use Rattle.caf_script.specs.Step.{sent}
use Rattle.caf_script.specs.declared.script.Script.{Script}
use Rattle.caf_script.proofs.ScriptLemmas.{plays_in_order}
use Rattle.caf_kinds.specs.Conductor.{Conducting, plays}
use Rattle.caf_kinds.specs.Kinds.{reacted, as_kind}
use Rattle.caf_kinds.specs.Signals.{signalled}
use Rattle.caf_kinds.specs.declared.kind.Kind.TheVariants as kind
use Rattle.caf_kinds.specs.declared.setup.Setup.{Setup}
use Rattle.caf_kinds.specs.declared.signal.Signal.{Signal}
use Rattle.caf_kinds.specs.declared.signal.Signal.TheVariants as signal
use Rattle.caf_soundness.specs.Typed.{face}
use Rattle.caf_soundness.proofs.LogLemmas.{Log}
use Rattle.caf_soundness.proofs.ComesLemmas.{Sends}
use Rattle.caf_soundness.proofs.KindLemmas.{Plays, IsFine, Acts, quiet_acts, failed_acts}

module _ (setups : List Setup) (l : Log) (place : ℕ) where
  abbrev Sent : PlainOutput → Type 0
  Sent = Sends (face setups) l

  all_sent : (steps : List planned.Step) → AllByRecursion (Plays setups l) steps → AllByRecursion Sent (flat_map sent steps)
  all_sent [] all = tt
  all_sent (step ∷ steps) all = subst (AllByRecursion Sent) (sym (flat_map-cons sent step steps)) (all_append Sent (sent step) (flat_map sent steps) all.0 (all_sent steps all.1))

  -- what it plays is well typed, and so is what is left
  pub record Played (next : Script) : Type 0 where
    pub outputs : AllByRecursion Sent (goes_on next).1
    pub left : AllByRecursion (Plays setups l) (goes_on next).0.plan

  played : (s next : Script) → s.plan ≡ next.plan → AllByRecursion (Plays setups l) s.plan → Played next
  played s next same all =
      let went = plays_in_order next in
      let parts = subst (AllByRecursion (Plays setups l)) (same ∙ went.plan) all in
      record {
        outputs = subst (AllByRecursion Sent) (sym went.outputs) (all_sent went.steps (all_left (Plays setups l) went.steps (goes_on next).0.plan parts));
        left = all_right (Plays setups l) went.steps (goes_on next).0.plan parts;
      }

  nothing_fine : (i : PlainInput) → IsFine setups place i answer.Nothing
  nothing_fine Start = tt
  nothing_fine Stop = tt
  nothing_fine (Content origin words) = tt
  nothing_fine (Response tag words) = tt
  nothing_fine (Failed tag why) = tt
  nothing_fine (Down from why) = tt
  nothing_fine Tick = tt

  plays_acts : (s : Conducting) (next : Script) (i : PlainInput) → s.script.plan ≡ next.plan → AllByRecursion (Plays setups l) s.script.plan → Acts setups l place i (as_kind kind.Conductor (plays s (goes_on next)))
  plays_acts s next i same all = let is = played s.script next same all in record { outputs = is.outputs; answer = nothing_fine i; holds = is.left }

  signals_sent : (what : Signal) → ((p : ℕ) → Sent (signalled what p)) → (ps : List ℕ) → AllByRecursion Sent (map (signalled what) ps)
  signals_sent what may [] = tt
  signals_sent what may (p ∷ ps) = (may p, signals_sent what may ps)

  answered_plan : (s : Script) (o : Option ℕ) (words : List ℕ) → s.plan ≡ (answered_at s o words).plan
  answered_plan s None words = refl
  answered_plan s (Some step) words = refl

  resolved_plan : (s : Script) (o : Option ℕ) (r : Reply) → s.plan ≡ (resolved_at s o r).plan
  resolved_plan s None r = refl
  resolved_plan s (Some step) r = refl

  pub conductor_acts : (s : Conducting) (i : PlainInput) → AllByRecursion (Plays setups l) s.script.plan → Acts setups l place i (reacted (kind.Conductor s) i)
  conductor_acts s Start all = plays_acts s s.script Start refl all
  conductor_acts s (Response tag words) all = plays_acts s (answered s.script tag words) (Response tag words) (answered_plan s.script (step_of tag) words) all
  conductor_acts s (Failed tag why) all = plays_acts s (resolved s.script tag (reply.Failed why)) (Failed tag why) (resolved_plan s.script (step_of tag) (reply.Failed why)) all
  conductor_acts s Tick all =
      let is = played s.script (ticked s.script) refl all in
      record { outputs = all_append Sent (map (signalled signal.Tick) s.identity.peers) _ (signals_sent signal.Tick (λ p. tt) s.identity.peers) is.outputs; answer = tt; holds = is.left }
  conductor_acts s Stop all = record { outputs = signals_sent signal.Kill (λ p. tt) s.identity.peers; answer = tt; holds = all }
  conductor_acts s (Down from why) all = quiet_acts setups l place (Down from why) (kind.Conductor s) all
  conductor_acts s (Content origin words) all = failed_acts setups l place origin words (kind.Conductor s) all

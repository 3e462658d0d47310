-- The conductor of an undisturbed script keeps to what may come.
use Rattle.std.proofs.Common.{◌≡◌, ℕ, Bool, false, ◌<◌, arith, ◌+◌, true, List, [], ◌∷◌, flat_map, Option, Some, None, refl, sym, subst, ap, ◌∙◌}
use Rattle.std.specs.Prelude.{◌==◌, Contains}
use Rattle.std.specs.List.{AllByRecursion}
use Rattle.std.proofs.lemmas.List.Concat.{flat_map-cons}
use Rattle.caf_types.specs.declared.shape.TypeId.{TypeId}
use Rattle.caf_index.proofs.ContainsLemmas.{contains-here, contains-later}
use Rattle.caf_mailbox.proofs.NextLemmas.{all_append}
use Rattle.caf_record.proofs.ListLemmas.{all_left, all_right}
use Rattle.caf_actor.specs.PlainInput.{PlainInput, Start, Stop, Content, Response, Failed, Down, Tick}
use Rattle.caf_actor.specs.PlainOutput.{PlainOutput, Tell, Request}
use Rattle.caf_actor.specs.PlainReaction as answer
use Rattle.caf_script.specs.Reply as reply
use Rattle.caf_script.specs.Reply.{Reply}
use Rattle.caf_script.specs.Script.{goes_on, answered, answered_at, resolved, resolved_at, step_of}
use Rattle.caf_script.specs.Step as played
use Rattle.caf_script.specs.Step.{sent}
use Rattle.caf_script.specs.declared.script.Script.{Script}
use Rattle.caf_script.proofs.ScriptLemmas.{plays_in_order}
use Rattle.caf_kinds.specs.Collector.{asking_index, asking_totals}
use Rattle.caf_kinds.specs.Conductor.{Conducting, plays}
use Rattle.caf_kinds.specs.Kinds.{kind_rules, reacted, as_kind}
use Rattle.caf_kinds.specs.Planning.{planned_from, conductor_of}
use Rattle.caf_kinds.specs.Who.{Who}
use Rattle.caf_kinds.specs.declared.contents.Chunk.{Chunk}
use Rattle.caf_kinds.specs.declared.kind.Kind.{Kind}
use Rattle.caf_kinds.specs.declared.kind.Kind.TheVariants as kind
use Rattle.caf_kinds.specs.declared.script.Step.{Step}
use Rattle.caf_kinds.specs.declared.setup.KindName.TheVariants as name
use Rattle.caf_kinds.specs.declared.setup.Setup.{Setup}
use Rattle.caf_steady.specs.Classes.{AlwaysKeeps, IsTaken, MaySend, MayReplyTo}
use Rattle.caf_pipeline.specs.Undisturbed.{Pipeline, IsPipeline, IsRequested, IsPlainScript}
use Rattle.caf_pipeline.specs.Parts.{start_content, index_content, totals_content}
use Rattle.caf_pipeline.specs.Sent.{summary_types, total_types, IsTell, IsRequest}
use Rattle.caf_pipeline.specs.Contents.{told_to, asked_of, comes}
use Rattle.caf_pipeline.proofs.ClassLemmas.{told_comes, asked_comes, Goes, goes_as, always_keeps}
use Rattle.caf_carriers.proofs.CountLemmas.{same_number}
use Rattle.caf_pipeline.proofs.PlaceLemmas.{one_of_setups}
use Rattle.caf_pipeline.proofs.SentLemmas.{Sends, told_sends, requested_sends}

module _ (setups : List Setup) (cs : List Chunk) (p : Pipeline) (are : IsPipeline setups p) where
  abbrev May : PlainOutput → Type 0
  May = MaySend (comes setups cs) 0

  abbrev MayPlay : played.Step → Type 0
  MayPlay step = AllByRecursion May (sent step)

  -- ---- the steps of the script

  not_0 : (0 == p.source) ≡ false
  not_0 =
      let low = (one_of_setups setups p.source are.source.setup are.source.at).from_1 in
      go (0 == p.source) refl low
    where
      go : (b : Bool) → (0 == p.source) ≡ b → 0 < p.source → (0 == p.source) ≡ false
      go true q low = let same = same_number 0 p.source q in absurd (omega (arith, same, low))
      go false q low = q

  tell_may : (o : PlainOutput) → IsTell p.source start_content o → May o
  tell_may (Tell to priority words) is =
      subst (λ (q : ℕ). May (Tell q priority words)) (sym is.0)
      (subst (λ (ws : List ℕ). May (Tell p.source priority ws)) (sym is.1)
      (told_comes setups cs name.Source (p.lines ∷ p.relay ∷ p.collector ∷ []) p.source 0 priority start_content are.source (subst (λ (own : Bool). Contains (told_to cs name.Source own) start_content) (sym not_0) (contains-here start_content []))))
  tell_may _ is = absurd is

  request_may : (n : ℕ) (types : List TypeId) (words : List ℕ) → Contains (asked_of name.Collector) words → (o : PlainOutput) → IsRequest p.collector n types words o → May o
  request_may n types words has (Request to priority mode tag expected said) is =
      subst (λ (q : ℕ). May (Request q priority mode tag expected said)) (sym is.0)
      (subst (λ (ws : List ℕ). May (Request p.collector priority mode tag expected ws)) (sym is.4)
      (is.1, (λ number. asked_comes setups cs name.Collector [] p.collector number priority words are.collector has)))
  request_may n types words has _ is = absurd is

  one_may : (P : PlainOutput → Type 0) (step : played.Step) → ((o : PlainOutput) → P o → May o) → Sends P step → MayPlay step
  one_may P step may is = subst (AllByRecursion May) (sym is.sent_is) (may is.output is.holds, tt)

  totals_may : (n : ℕ) (steps : List Step) → AllByRecursion (IsRequested p.collector asking_totals) steps → AllByRecursion MayPlay (planned_from setups n steps)
  totals_may n [] all = tt
  totals_may n (s ∷ steps) all = (
    one_may (IsRequest p.collector n total_types totals_content) _ (request_may n total_types totals_content (contains-later index_content totals_content (totals_content ∷ []) (contains-here totals_content [])))
        (requested_sends setups n p are asking_totals total_types refl s all.0),
    totals_may (n + 1) steps all.1,
  )

  script_may : (script : List Step) → IsPlainScript p script → AllByRecursion MayPlay (planned_from setups 1 script)
  script_may [] is = absurd is
  script_may (first ∷ []) is = absurd is
  script_may (first ∷ second ∷ others) is = (
    one_may (IsTell p.source start_content) _ tell_may (told_sends setups 1 p.source first is.0),
    (
      one_may (IsRequest p.collector 2 summary_types index_content) _ (request_may 2 summary_types index_content (contains-here index_content (totals_content ∷ []))) (requested_sends setups 2 p are asking_index summary_types refl second is.1),
      totals_may 3 others is.2,
    ),
  )

  -- ---- playing them

  pub record Conducts (b : Kind) : Type 0 where
    pub conducting : Conducting
    pub is : b ≡ kind.Conductor conducting
    pub may : AllByRecursion MayPlay conducting.script.plan

  all_sent : (steps : List played.Step) → AllByRecursion MayPlay steps → AllByRecursion May (flat_map sent steps)
  all_sent [] all = tt
  all_sent (step ∷ steps) all = subst (AllByRecursion May) (sym (flat_map-cons sent step steps)) (all_append May (sent step) (flat_map sent steps) all.0 (all_sent steps all.1))

  playing : (s : Conducting) (next : Script) (i : PlainInput) → s.script.plan ≡ next.plan → AllByRecursion MayPlay s.script.plan → reacted (kind.Conductor s) i ≡ as_kind kind.Conductor (plays s (goes_on next))
      → IsTaken (comes setups cs) kind_rules (kind.Conductor s) i → MayReplyTo (comes setups cs) 0 i answer.Nothing → Goes setups cs 0 Conducts (kind.Conductor s) i
  playing s next i same may e taken replies =
      let went = plays_in_order next in
      let all = subst (AllByRecursion MayPlay) (same ∙ went.plan) may in
      goes_as setups cs 0 Conducts (kind.Conductor s) i (as_kind kind.Conductor (plays s (goes_on next))) e taken
      (subst (AllByRecursion May) (sym went.outputs) (all_sent went.steps (all_left MayPlay went.steps (goes_on next).0.plan all)))
      replies refl
      (record { conducting = (plays s (goes_on next)).0; is = refl; may = all_right MayPlay went.steps (goes_on next).0.plan all })

  answered_plan : (s : Script) (o : Option ℕ) (words : List ℕ) → s.plan ≡ (answered_at s o words).plan
  answered_plan s None words = refl
  answered_plan s (Some step) words = refl

  resolved_plan : (s : Script) (o : Option ℕ) (r : Reply) → s.plan ≡ (resolved_at s o r).plan
  resolved_plan s None r = refl
  resolved_plan s (Some step) r = refl

  conductor_goes : (s : Conducting) (i : PlainInput) → AllByRecursion MayPlay s.script.plan → comes setups cs 0 i ≡ true → Goes setups cs 0 Conducts (kind.Conductor s) i
  conductor_goes s Start may e = playing s s.script Start refl may refl tt tt
  conductor_goes s (Response tag words) may e = playing s (answered s.script tag words) (Response tag words) (answered_plan s.script (step_of tag) words) may refl tt tt
  conductor_goes s (Failed tag why) may e = playing s (resolved s.script tag (reply.Failed why)) (Failed tag why) (resolved_plan s.script (step_of tag) (reply.Failed why)) may refl tt tt
  conductor_goes s Stop may e = absurd cc
  conductor_goes s (Content origin words) may e = absurd cc
  conductor_goes s (Down from why) may e = absurd cc
  conductor_goes s Tick may e = absurd cc

  pub conductor_keeps : (who : Who) (script : List Step) → IsPlainScript p script → AlwaysKeeps (comes setups cs) kind_rules 0 (kind.Conductor (conductor_of who setups script))
  conductor_keeps who script is =
      always_keeps setups cs 0 Conducts (λ b inv ids. ap (λ (k : Kind). kind_rules.skips k ids) inv.is)
      (λ b i inv e. subst (λ (k : Kind). Goes setups cs 0 Conducts k i) (sym inv.is) (conductor_goes inv.conducting i inv.may e)) (kind.Conductor (conductor_of who setups script))
      (record { conducting = conductor_of who setups script; is = refl; may = script_may script is })

-- The conductor pays for what its script sends, with two for each step: what it sends at replies was to be sent all along.
use Rattle.std.proofs.Common.{◌≡◌, ℕ, ◌+◌, ◌*◌, ◌≤◌, Bool, true, false, List, [], ◌∷◌, ◌++◌, length, flat_map, Option, Some, None, refl, sym, subst, ap, ◌∙◌, arith}
use Rattle.std.specs.List.{AllByRecursion}
use Rattle.std.proofs.lemmas.List.Concat.{flat_map-cons}
use Rattle.caf_types.specs.declared.notice.Notice.TheVariants as notice
use Rattle.caf_message.specs.declared.envelope.Plain.{Plain}
use Rattle.caf_message.specs.declared.envelope.Plain.TheVariants as «plain»
use Rattle.caf_message.specs.declared.envelope.Taken.{Taken}
use Rattle.caf_response.specs.Pending.{WaitingRequests, resolved}
use Rattle.caf_response.specs.declared.pending.Waiting.{Waiting}
use Rattle.caf_actor.specs.Answering.{origin_of}
use Rattle.caf_actor.specs.Handling.{failure_input, response_input}
use Rattle.caf_actor.specs.PlainInput.{PlainInput, Start, Stop, Content, Response, Failed, Down, Tick}
use Rattle.caf_actor.specs.PlainOutput.{PlainOutput, Tell, Request}
use Rattle.caf_actor.specs.PlainReaction as answer
use Rattle.caf_script.specs.Reply as reply
use Rattle.caf_script.specs.Reply.{Reply}
use Rattle.caf_script.specs.Script.{goes_on, answered, answered_at, resolved as reply_kept, resolved_at, step_of}
use Rattle.caf_script.specs.Step as played
use Rattle.caf_script.specs.Step.{sent}
use Rattle.caf_script.specs.declared.script.Script.{Script}
use Rattle.caf_script.proofs.ScriptLemmas.{plays_in_order}
use Rattle.caf_kinds.specs.Conductor.{Conducting, plays}
use Rattle.caf_kinds.specs.Kinds.{kind_rules, reacted, as_kind}
use Rattle.caf_kinds.specs.Planning.{conductor_of}
use Rattle.caf_kinds.specs.Reacting.{Reacted}
use Rattle.caf_kinds.specs.Who.{Who}
use Rattle.caf_kinds.specs.declared.contents.Chunk.{Chunk}
use Rattle.caf_kinds.specs.declared.kind.Kind.{Kind}
use Rattle.caf_kinds.specs.declared.kind.Kind.TheVariants as kind
use Rattle.caf_kinds.specs.declared.script.Step.{Step}
use Rattle.caf_kinds.specs.declared.setup.KindName.TheVariants as name
use Rattle.caf_kinds.specs.declared.setup.Setup.{Setup}
use Rattle.caf_steady.specs.Outline.{Outlined, with_outline}
use Rattle.caf_steady.specs.Reading.{react, resolve, read, read_one, read_body}
use Rattle.caf_steady.specs.Steady.{Brings, BodyBrings}
use Rattle.caf_steady.proofs.OutlineLemmas.{response_comes}
use Rattle.caf_pipeline.specs.Undisturbed.{Pipeline, IsPipeline, IsUndisturbed}
use Rattle.caf_pipeline.specs.Parts.{start_content, totals_content}
use Rattle.caf_pipeline.specs.Sent.{total_types, IsTell, IsRequest, AreTotals, AreSent}
use Rattle.caf_pipeline.specs.Contents.{comes}
use Rattle.caf_pipeline.proofs.CostLemmas.{cost, costs, costs_append}
use Rattle.caf_pipeline.proofs.PayLemmas.{Pays, Has, reply_cost, react_has}
use Rattle.caf_pipeline.proofs.PriceLemmas.{price, price_at}
use Rattle.caf_pipeline.proofs.SentLemmas.{script_is_sent}

module _ (setups : List Setup) where
  -- ---- what steps cost

  abbrev pub plan_cost : List played.Step → ℕ
  plan_cost [] = 0
  plan_cost (step ∷ steps) = costs (price setups) (sent step) + plan_cost steps

  plan_append : (xs ys : List played.Step) → plan_cost (xs ++ ys) ≡ plan_cost xs + plan_cost ys
  plan_append [] ys = omega arith
  plan_append (x ∷ xs) ys = let rest = plan_append xs ys in omega (arith, rest)

  sent_costs : (steps : List played.Step) → costs (price setups) (flat_map sent steps) ≡ plan_cost steps
  sent_costs [] = refl
  sent_costs (step ∷ steps) =
      let all = ap (costs (price setups)) (flat_map-cons sent step steps) in
      let parts = costs_append (price setups) (sent step) (flat_map sent steps) in
      let rest = sent_costs steps in
      omega (arith, all, parts, rest)

module _ (setups : List Setup) (cs : List Chunk) where
  -- ---- a step of the conductor

  pub record Conducts (n : ℕ) (b : Kind) : Type 0 where
    pub conducting : Conducting
    pub is : b ≡ kind.Conductor conducting
    pub has : n ≡ plan_cost setups conducting.script.plan

  abbrev PaysAt : ℕ → Kind → PlainInput → Type 0
  PaysAt n b i = Pays (price setups) kind_rules 0 Conducts n b i

  playing : (n : ℕ) (s : Conducting) (next : Script) (i : PlainInput) → s.script.plan ≡ next.plan → n ≡ plan_cost setups s.script.plan → reacted (kind.Conductor s) i ≡ as_kind kind.Conductor (plays s (goes_on next))
      → reply_cost (price setups) i answer.Nothing ≡ 0 → PaysAt n (kind.Conductor s) i
  playing n s next i same has e free =
      let went = plays_in_order next in
      let all = ap (plan_cost setups) (same ∙ went.plan) in
      let parts = plan_append setups went.steps (goes_on next).0.plan in
      let outputs = ap (costs (price setups)) went.outputs in
      let sends = sent_costs setups went.steps in
      let left = plan_cost setups (goes_on next).0.plan in
      record {
        left = left;
        next = subst (λ (x : Reacted Kind). Conducts left x.0) (sym e) (record { conducting = (plays s (goes_on next)).0; is = refl; has = refl });
        within = subst (λ (x : Reacted Kind). costs (price setups) x.1.outputs + reply_cost (price setups) i x.1.answer + left ≤ n + price setups 0) (sym e) (omega (arith, all, parts, outputs, sends, has, free));
      }

  answered_plan : (s : Script) (o : Option ℕ) (words : List ℕ) → s.plan ≡ (answered_at s o words).plan
  answered_plan s None words = refl
  answered_plan s (Some step) words = refl

  resolved_plan : (s : Script) (o : Option ℕ) (r : Reply) → s.plan ≡ (resolved_at s o r).plan
  resolved_plan s None r = refl
  resolved_plan s (Some step) r = refl

  conducting_pays : (n : ℕ) (s : Conducting) (i : PlainInput) → n ≡ plan_cost setups s.script.plan → comes setups cs 0 i ≡ true → PaysAt n (kind.Conductor s) i
  conducting_pays n s Start has e = playing n s s.script Start refl has refl refl
  conducting_pays n s (Response tag words) has e = playing n s (answered s.script tag words) (Response tag words) (answered_plan s.script (step_of tag) words) has refl refl
  conducting_pays n s (Failed tag why) has e = playing n s (reply_kept s.script tag (reply.Failed why)) (Failed tag why) (resolved_plan s.script (step_of tag) (reply.Failed why)) has refl refl
  conducting_pays n s Stop has e = absurd cc
  conducting_pays n s (Content origin words) has e = absurd cc
  conducting_pays n s (Down from why) has e = absurd cc
  conducting_pays n s Tick has e = absurd cc

  conductor_pays : (n : ℕ) (b : Kind) (i : PlainInput) → Conducts n b → comes setups cs 0 i ≡ true → PaysAt n b i
  conductor_pays n b i inv e = subst (λ (k : Kind). PaysAt n k i) (sym inv.is) (conducting_pays n inv.conducting i inv.has e)

  -- ---- reading: an envelope to place 0 brings nothing

  abbrev pub HasFor : ℕ → Outlined Kind → Type 0
  HasFor n o = Has (price setups) kind_rules 0 Conducts n o

  reacting : (n : ℕ) (o : Outlined Kind) (i : PlainInput) → HasFor n o → comes setups cs 0 i ≡ true → HasFor n (react kind_rules o i)
  reacting n o i has e =
      let same : n + price setups 0 ≡ n = omega arith in
      subst (λ (m : ℕ). HasFor m (react kind_rules o i)) same (react_has (price setups) kind_rules 0 Conducts n o i has (conductor_pays has.left o.outline.behavior i has.inv e))

  resolving : (n : ℕ) (o : Outlined Kind) (input : Waiting → PlainInput) (found : Option (Waiting × WaitingRequests)) → HasFor n o → ((w : Waiting) → comes setups cs 0 (input w) ≡ true) → HasFor n (resolve kind_rules o input found)
  resolving n o input None has each = has
  resolving n o input (Some found) has each =
      reacting n (with_outline o (record o.outline { pending = found.1 })) (input found.0) (record { left = has.left; inv = has.inv; within = has.within }) (each found.0)

  one_has : (n : ℕ) (o : Outlined Kind) (e : Taken) → Brings (comes setups cs 0) e → HasFor n o → HasFor n (read_one kind_rules o e)
  one_has n o e brings has = go e.body refl brings
    where
      content : (words : List ℕ) → e.body ≡ «plain».Content words → (r : Bool) → e.mid.response ≡ r → BodyBrings (comes setups cs 0) (origin_of e) («plain».Content words) → HasFor n (read_one kind_rules o e)
      content words q false r h = let no_such : false ≡ true = rw r at h in absurd cc
      content words q true r h =
          subst (HasFor n) (sym (ap (read_body kind_rules o (origin_of e)) q ∙ rw r refl))
          (resolving n o (λ w. response_input w words) (resolved o.outline.pending e.mid.number) has (λ w. response_comes (comes setups cs 0) words w (rw r at h)))

      go : (b : Plain) → e.body ≡ b → BodyBrings (comes setups cs 0) (origin_of e) b → HasFor n (read_one kind_rules o e)
      go («plain».System notice.Start) q h = subst (HasFor n) (sym (ap (read_body kind_rules o (origin_of e)) q)) (reacting n o Start has h)
      go («plain».System notice.Stop) q h = absurd cc
      go («plain».System (notice.Exit from why)) q h = absurd h
      go («plain».System (notice.Link from)) q h = absurd h
      go («plain».System (notice.Unlink from)) q h = absurd h
      go («plain».System (notice.Watch from)) q h = absurd h
      go («plain».System (notice.Unwatch from)) q h = absurd h
      go («plain».System (notice.Down from why)) q h = absurd h
      go («plain».System (notice.Begin from)) q h = absurd h
      go («plain».System (notice.Tick from)) q h = absurd h
      go («plain».Failure sec) q h =
          subst (HasFor n) (sym (ap (read_body kind_rules o (origin_of e)) q))
          (resolving n o (λ w. failure_input w sec) (resolved o.outline.pending e.mid.number) has (λ w. h w.tag))
      go («plain».Content words) q h = content words q e.mid.response refl h

  pub all_have : (n : ℕ) (o : Outlined Kind) (es : List Taken) → AllByRecursion (Brings (comes setups cs 0)) es → HasFor n o → HasFor n (read kind_rules o es)
  all_have n o [] all has = has
  all_have n o (e ∷ es) all has = all_have n (read_one kind_rules o e) es all.1 (one_has n o e all.0 has)

-- ---- the whole script

module _ (setups : List Setup) (p : Pipeline) (are : IsPipeline setups p) where
  tell_costs : (o : PlainOutput) → IsTell p.source start_content o → cost (price setups) o ≡ 1
  tell_costs (Tell to priority words) is =
      let own = price_at setups name.Source (p.lines ∷ p.relay ∷ p.collector ∷ []) p.source are.source in
      let to = ap (price setups) is.0 in
      omega (arith, own, to)
  tell_costs _ is = absurd is

  request_costs : (n : ℕ) (types : _) (words : List ℕ) (o : PlainOutput) → IsRequest p.collector n types words o → cost (price setups) o ≡ 2
  request_costs n types words (Request to priority mode tag expected said) is =
      let own = price_at setups name.Collector [] p.collector are.collector in
      let to = ap (price setups) is.0 in
      omega (arith, own, to)
  request_costs n types words _ is = absurd is

  totals_cost : (n : ℕ) (os : List PlainOutput) → AreTotals p.collector n os → costs (price setups) os ≡ 2 * length os
  totals_cost n [] are = refl
  totals_cost n (o ∷ os) all =
      let first = request_costs n total_types totals_content o all.0 in
      let rest = totals_cost (n + 1) os all.1 in
      omega (arith, first, rest)

  script_costs : (os : List PlainOutput) → AreSent p os → costs (price setups) os ≤ 2 * length os
  script_costs [] sent = absurd sent
  script_costs (first ∷ []) sent = absurd sent
  script_costs (first ∷ second ∷ others) sent =
      let one = tell_costs first sent.0 in
      let two = request_costs 2 _ _ second sent.1 in
      let rest = totals_cost 3 others sent.2 in
      omega (arith, one, two, rest)

pub whole_script : (setups : List Setup) (script : List Step) (who : Who) → IsUndisturbed setups script → plan_cost setups (conductor_of who setups script).script.plan ≤ 2 * length script
whole_script setups script who is =
    let s = conductor_of who setups script in
    let went = plays_in_order s.script in
    let sends = script_is_sent who setups script is in
    let none = sends.none_left in
    let all = ap (plan_cost setups) went.plan in
    let parts = plan_append setups went.steps (goes_on s.script).0.plan in
    let left = ap (plan_cost setups) none in
    let outputs = ap (costs (price setups)) went.outputs in
    let steps = sent_costs setups went.steps in
    let most = script_costs setups is.pipeline is.actors (goes_on s.script).1 sends.sent in
    let each = sends.each in
    omega (arith, all, parts, left, outputs, steps, most, each)

-- A conductor keeps the laws.
use Rattle.std.specs.Prelude.{◌≡◌, ℕ, ◌+◌, ◌≤◌, Bool, true, false, List, [], ◌∷◌, ◌++◌, length, map, flat_map, Contains, Option, Some, None, refl}
use Rattle.std.proofs.Common.{ap, sym, subst, ◌∙◌, arith}
use Rattle.std.proofs.lemmas.List.{length-append}
use Rattle.std.proofs.lemmas.List.Concat.{flat_map-cons}
use Rattle.std.specs.List.{AllByRecursion}
use Rattle.caf_actor.specs.PlainInput.{PlainInput, Start, Stop, Content, Response, Failed, Down, Tick}
use Rattle.caf_actor.specs.PlainOutput.{PlainOutput}
use Rattle.caf_actor.specs.Rules.{output_targets, outputs_count}
use Rattle.caf_script.specs.Step.{Step, Send, Ask, Sync, sent}
use Rattle.caf_script.specs.Step as step
use Rattle.caf_script.specs.Reply as reply
use Rattle.caf_script.specs.Reply.{Reply}
use Rattle.caf_script.specs.Script.{Played, HasPlayed, IsLeft, goes_on, answered, answered_at, resolved, resolved_at, step_of, ticked}
use Rattle.caf_script.specs.declared.script.Script.{Script}
use Rattle.caf_script.proofs.ScriptLemmas.{plays_in_order}
use Rattle.caf_kinds.specs.Who.{Who, fixed}
use Rattle.caf_kinds.specs.Reacting.{Reacted}
use Rattle.caf_kinds.specs.Lawful.{IsTarget, IsNotAsked, IsLawfulOutput, IsLawful, is_stop}
use Rattle.caf_kinds.specs.Keeping.{failed_kept, quiet_kept}
use Rattle.caf_kinds.specs.SendLaws.{peer_is_target, to_peers, count_each, count_none}
use Rattle.caf_kinds.specs.Signals.{signalled}
use Rattle.caf_kinds.specs.declared.signal.Signal.TheVariants as signal
use Rattle.caf_kinds.specs.Conductor.{interface, Conducting, MaySend, MayPlay, IsPlan, IsConducting, plays, ticks, stops, reacted}

abbrev pub Keeps : (List ℕ → Bool) → Conducting → PlainInput → Reacted Conducting → Type 0
Keeps d s i r = IsLawful (fixed s.identity interface) (fixed r.0.identity interface) (IsConducting r.0) d i r.1

-- ---- parts of a plan

all_before : {A : Type 0} (P : A → Type 0) (xs ys : List A) → AllByRecursion P (xs ++ ys) → AllByRecursion P xs
all_before P [] ys all = tt
all_before P (x ∷ xs) ys all = (all.0, all_before P xs ys all.1)

all_behind : {A : Type 0} (P : A → Type 0) (xs ys : List A) → AllByRecursion P (xs ++ ys) → AllByRecursion P ys
all_behind P [] ys all = all
all_behind P (x ∷ xs) ys all = all_behind P xs ys all.1

pub all_joined : {A : Type 0} (P : A → Type 0) (xs ys : List A) → AllByRecursion P xs → AllByRecursion P ys → AllByRecursion P (xs ++ ys)
all_joined P [] ys these those = those
all_joined P (x ∷ xs) ys these those = (these.0, all_joined P xs ys these.1 those)

all_sent : (peers : List ℕ) (steps : List Step) → AllByRecursion (MayPlay peers) steps → AllByRecursion (MaySend peers) (flat_map sent steps)
all_sent peers [] all = tt
all_sent peers (step ∷ steps) all = all_joined (MaySend peers) (sent step) (flat_map sent steps) all.0 (all_sent peers steps all.1)

-- what is left of a plan is one
pub plan_left : (peers : List ℕ) (s after : Script) → IsLeft s after → IsPlan peers s.plan → IsPlan peers after.plan
plan_left peers s after (steps, e) plan =
    let long = ap length e ∙ length-append steps after.plan in
    let few = plan.few in
    record {
      steps = all_behind (MayPlay peers) steps after.plan (subst (AllByRecursion (MayPlay peers)) e plan.steps);
      few = omega (arith, long, few);
    }

-- what a script sends, it may send
pub sent_right : (peers : List ℕ) (s : Script) (after : Played) → HasPlayed s after → IsPlan peers s.plan → AllByRecursion (MaySend peers) after.1
sent_right peers s after played plan =
    subst (AllByRecursion (MaySend peers)) (sym played.outputs)
    (all_sent peers played.steps (all_before (MayPlay peers) played.steps after.0.plan (subst (AllByRecursion (MayPlay peers)) played.plan plan.steps)))

-- ---- how many outputs

one_at_most : (peers : List ℕ) (step : Step) → MayPlay peers step → outputs_count (sent step) ≤ 1
one_at_most peers (Send o) may = let few = may.0.few in omega (arith, few)
one_at_most peers (Ask o types) may = let few = may.0.few in omega (arith, few)
one_at_most peers Sync may = omega arith
one_at_most peers step.Tick may = omega arith

count_joined : (xs ys : List PlainOutput) → outputs_count (xs ++ ys) ≡ outputs_count xs + outputs_count ys
count_joined [] ys = omega arith
count_joined (x ∷ xs) ys = let rest = count_joined xs ys in omega (arith, rest)

few_sent : (peers : List ℕ) (steps : List Step) → AllByRecursion (MayPlay peers) steps → outputs_count (flat_map sent steps) ≤ length steps
few_sent peers [] all = omega arith
few_sent peers (step ∷ steps) all =
    let both = ap outputs_count (flat_map-cons sent step steps) ∙ count_joined (sent step) (flat_map sent steps) in
    let one = one_at_most peers step all.0 in
    let rest = few_sent peers steps all.1 in
    omega (arith, both, one, rest)

-- a script sends at most as much as it has steps
pub few_of : (peers : List ℕ) (s : Script) (after : Played) → HasPlayed s after → IsPlan peers s.plan → outputs_count after.1 ≤ 1000
few_of peers s after played plan =
    let long = ap length played.plan ∙ length-append played.steps after.0.plan in
    let same = ap outputs_count played.outputs in
    let sent = few_sent peers played.steps (all_before (MayPlay peers) played.steps after.0.plan (subst (AllByRecursion (MayPlay peers)) played.plan plan.steps)) in
    let few = plan.few in
    omega (arith, long, same, sent, few)

-- ---- outputs

are_targets : (who : Who) (ps : List ℕ) → AllByRecursion (Contains who.peers) ps → AllByRecursion (IsTarget who) ps
are_targets who [] all = tt
are_targets who (p ∷ ps) all = (peer_is_target who p all.0, are_targets who ps all.1)

are_lawful : (who : Who) (i : PlainInput) → is_stop i ≡ false → (os : List PlainOutput) → AllByRecursion (MaySend who.peers) os → AllByRecursion (IsLawfulOutput who i) os
are_lawful who i e [] all = tt
are_lawful who i e (o ∷ os) all =
    (record { targets = are_targets who (output_targets o) all.0.targets; content = all.0.content; at_stop = λ stop. let bad : false ≡ true = sym e ∙ stop in absurd cc; at_ticks = λ _. all.0.no_tick }, are_lawful who i e os all.1)

-- ---- reactions

-- the script goes on from one with the same plan
plays_keeps : (d : List ℕ → Bool) (s : Conducting) (i : PlainInput) (next : Script) → is_stop i ≡ false → IsNotAsked i → IsConducting s → s.script.plan ≡ next.plan → Keeps d s i (plays s (goes_on next))
plays_keeps d s i next e asked valid same =
    let played = plays_in_order next in
    let plan = subst (IsPlan s.identity.peers) same valid.plan in
    let few = few_of s.identity.peers next (goes_on next) played plan in
    record {
      same = refl;
      valid = record { who = valid.who; plan = plan_left s.identity.peers next (goes_on next).0 (played.steps, played.plan) plan };
      outputs = are_lawful s.identity i e (goes_on next).1 (sent_right s.identity.peers next (goes_on next) played plan);
      few = omega (arith, few);
      answer = asked;
    }

ticks_keeps : (d : List ℕ → Bool) (s : Conducting) → IsConducting s → Keeps d s Tick (ticks s (goes_on (ticked s.script)))
ticks_keeps d s valid =
    let next = ticked s.script in
    let played = plays_in_order next in
    let few = few_of s.identity.peers next (goes_on next) played valid.plan in
    let none = count_none (signalled signal.Tick) (λ p. refl) s.identity.peers in
    let both = count_joined (map (signalled signal.Tick) s.identity.peers) (goes_on next).1 in
    record {
      same = refl;
      valid = record { who = valid.who; plan = plan_left s.identity.peers next (goes_on next).0 (played.steps, played.plan) valid.plan };
      outputs = all_joined (IsLawfulOutput s.identity Tick) (map (signalled signal.Tick) s.identity.peers) (goes_on next).1
          (to_peers s.identity Tick (signalled signal.Tick) (λ p c. record { targets = (peer_is_target s.identity p c, tt); content = tt; at_stop = λ e. absurd cc; at_ticks = λ e. absurd cc }))
          (are_lawful s.identity Tick refl (goes_on next).1 (sent_right s.identity.peers next (goes_on next) played valid.plan));
      few = omega (arith, few, none, both);
      answer = tt;
    }

stops_keeps : (d : List ℕ → Bool) (s : Conducting) → IsConducting s → Keeps d s Stop (stops s)
stops_keeps d s valid =
    let count = count_each (signalled signal.Kill) (λ p. refl) s.identity.peers in
    let few = valid.who.peers in
    record {
      same = refl;
      valid = record { who = valid.who; plan = valid.plan };
      outputs = to_peers s.identity Stop (signalled signal.Kill) (λ p c. record { targets = (peer_is_target s.identity p c, tt); content = tt; at_stop = λ e. tt; at_ticks = λ e. tt });
      few = omega (arith, count, few);
      answer = tt;
    }

answered_plan : (s : Script) (o : Option ℕ) (words : List ℕ) → s.plan ≡ (answered_at s o words).plan
answered_plan s None words = refl
answered_plan s (Some step) words = refl

resolved_plan : (s : Script) (o : Option ℕ) (r : Reply) → s.plan ≡ (resolved_at s o r).plan
resolved_plan s None r = refl
resolved_plan s (Some step) r = refl

pub keeps : (d : List ℕ → Bool) (s : Conducting) (i : PlainInput) → IsConducting s → Keeps d s i (reacted s i)
keeps d s Start valid = plays_keeps d s Start s.script refl tt valid refl
keeps d s Stop valid = stops_keeps d s valid
keeps d s Tick valid = ticks_keeps d s valid
keeps d s (Response tag words) valid = plays_keeps d s (Response tag words) (answered s.script tag words) refl tt valid (answered_plan s.script (step_of tag) words)
keeps d s (Failed tag why) valid = plays_keeps d s (Failed tag why) (resolved s.script tag (reply.Failed why)) refl tt valid (resolved_plan s.script (step_of tag) (reply.Failed why))
keeps d s (Down place why) valid = quiet_kept (fixed s.identity interface) (IsConducting s) d (Down place why) valid tt
keeps d s (Content origin words) valid = failed_kept (fixed s.identity interface) (IsConducting s) d (Content origin words) valid

-- A conductor at place 0 is a closer.
use Rattle.std.proofs.Common.{◌≡◌, ◌≢◌, ℕ, zero, suc, ◌+◌, ◌-◌, ◌≤◌, Bool, true, false, List, [], ◌∷◌, ◌++◌, map, Option, Some, None, refl, sym, ap, subst, ◌∙◌, arith}
use Rattle.std.specs.Prelude.{if◌then◌else◌, Contains}
use Rattle.std.specs.List.{AllByRecursion}
use Rattle.caf_actor.specs.PlainInput.{PlainInput, Start, Stop, Content, Response, Failed, Down, Tick}
use Rattle.caf_actor.specs.PlainOutput.{PlainOutput}
use Rattle.caf_actor.specs.Rules.{fed, output_targets}
use Rattle.caf_actor.specs.Record.{ComesLate, kills, SendsNothingTo}
use Rattle.caf_script.specs.Reply as reply
use Rattle.caf_script.specs.Reply.{Reply}
use Rattle.caf_script.specs.Script.{Played, goes_on, play, answered, answered_at, resolved, resolved_at, step_of, ticked}
use Rattle.caf_script.specs.declared.script.Script.{Script}
use Rattle.caf_script.proofs.ScriptLemmas.{plays_in_order}
use Rattle.caf_kinds.specs.Who.{Who, Fixed}
use Rattle.caf_kinds.specs.Kinds.{kind_rules}
use Rattle.caf_kinds.specs.Signals.{signalled}
use Rattle.caf_kinds.specs.declared.signal.Signal.{Signal}
use Rattle.caf_kinds.specs.declared.signal.Signal.TheVariants as signal
use Rattle.caf_kinds.specs.Conductor.{Conducting, IsConducting, IsPlan, MaySend, reacted}
use Rattle.caf_kinds.specs.ConductorLaws.{keeps, sent_right, all_joined}
use Rattle.caf_kinds.specs.SendLaws.{all_contained}
use Rattle.caf_kinds.specs.Planning.{places_from}
use Rattle.caf_kinds.proofs.PlanningLemmas.{one_of_all}
use Rattle.caf_kinds.specs.Closing.{ConductorCloses}
use Rattle.caf_kinds.specs.declared.kind.Kind.{Kind}
use Rattle.caf_kinds.specs.declared.kind.Kind.TheVariants as kind

-- ---- it stays a conductor

record Fed (s : Conducting) (is : List PlainInput) : Type 0 where
  pub now : Conducting
  pub fed_is : fed kind_rules (kind.Conductor s) is ≡ kind.Conductor now
  pub valid : IsConducting now
  pub same : now.identity ≡ s.identity

conducts_on : (s : Conducting) (is : List PlainInput) → IsConducting s → Fed s is
conducts_on s [] valid = record { now = s; fed_is = refl; valid = valid; same = refl }
conducts_on s (i ∷ is) valid =
    let kept = keeps (λ ids. false) s i valid in
    let rest = conducts_on (reacted s i).0 is kept.valid in
    record { now = rest.now; fed_is = rest.fed_is; valid = rest.valid; same = rest.same ∙ ap (λ (f : Fixed). f.who) kept.same }

-- ---- it sends nothing to place 0

abbrev IsElsewhere : PlainOutput → Type 0
IsElsewhere o = AllByRecursion (λ to. to ≢ 0) (output_targets o)

elsewhere : (places : List ℕ) → ((p : ℕ) → Contains places p → p ≢ 0) → (ps : List ℕ) → AllByRecursion (Contains places) ps → AllByRecursion (λ to. to ≢ 0) ps
elsewhere places high [] all = tt
elsewhere places high (p ∷ ps) all = (high p all.0, elsewhere places high ps all.1)

all_elsewhere : (places : List ℕ) → ((p : ℕ) → Contains places p → p ≢ 0) → (os : List PlainOutput) → AllByRecursion (MaySend places) os → AllByRecursion IsElsewhere os
all_elsewhere places high [] all = tt
all_elsewhere places high (o ∷ os) all = (elsewhere places high (output_targets o) all.0.targets, all_elsewhere places high os all.1)

signals_elsewhere : (x : Signal) (ps : List ℕ) → AllByRecursion (λ p. p ≢ 0) ps → AllByRecursion IsElsewhere (map (signalled x) ps)
signals_elsewhere x [] all = tt
signals_elsewhere signal.Watch (p ∷ ps) all = ((all.0, tt), signals_elsewhere signal.Watch ps all.1)
signals_elsewhere signal.Link (p ∷ ps) all = ((all.0, tt), signals_elsewhere signal.Link ps all.1)
signals_elsewhere signal.Tick (p ∷ ps) all = ((all.0, tt), signals_elsewhere signal.Tick ps all.1)
signals_elsewhere signal.Kill (p ∷ ps) all = ((all.0, tt), signals_elsewhere signal.Kill ps all.1)

plays_elsewhere : (places : List ℕ) → ((p : ℕ) → Contains places p → p ≢ 0) → (next : Script) → IsPlan places next.plan → AllByRecursion IsElsewhere (goes_on next).1
plays_elsewhere places high next plan = all_elsewhere places high (goes_on next).1 (sent_right places next (goes_on next) (plays_in_order next) plan)

answered_plan : (places : List ℕ) (s : Script) (o : Option ℕ) (words : List ℕ) → IsPlan places s.plan → IsPlan places (answered_at s o words).plan
answered_plan places s None words plan = plan
answered_plan places s (Some step) words plan = plan

resolved_plan : (places : List ℕ) (s : Script) (o : Option ℕ) (r : Reply) → IsPlan places s.plan → IsPlan places (resolved_at s o r).plan
resolved_plan places s None r plan = plan
resolved_plan places s (Some step) r plan = plan

sends_elsewhere : (s : Conducting) (i : PlainInput) → IsConducting s → ((p : ℕ) → Contains s.identity.peers p → p ≢ 0) → SendsNothingTo 0 (reacted s i).1
sends_elsewhere s Start valid high = record { outputs = plays_elsewhere s.identity.peers high s.script valid.plan; answer = tt }
sends_elsewhere s Stop valid high = record { outputs = signals_elsewhere signal.Kill s.identity.peers (elsewhere s.identity.peers high s.identity.peers (all_contained s.identity.peers)); answer = tt }
sends_elsewhere s Tick valid high = record {
  outputs = all_joined IsElsewhere (map (signalled signal.Tick) s.identity.peers) (goes_on (ticked s.script)).1
      (signals_elsewhere signal.Tick s.identity.peers (elsewhere s.identity.peers high s.identity.peers (all_contained s.identity.peers)))
      (plays_elsewhere s.identity.peers high (ticked s.script) valid.plan);
  answer = tt;
}
sends_elsewhere s (Response tag words) valid high = record { outputs = plays_elsewhere s.identity.peers high (answered s.script tag words) (answered_plan s.identity.peers s.script (step_of tag) words valid.plan); answer = tt }
sends_elsewhere s (Failed tag why) valid high = record { outputs = plays_elsewhere s.identity.peers high (resolved s.script tag (reply.Failed why)) (resolved_plan s.identity.peers s.script (step_of tag) (reply.Failed why) valid.plan); answer = tt }
sends_elsewhere s (Down place why) valid high = record { outputs = tt; answer = tt }
sends_elsewhere s (Content origin words) valid high = record { outputs = tt; answer = tt }

stays : (s : Conducting) (i : PlainInput) → (reacted s i).1.quit ≡ None
stays s Start = refl
stays s Stop = refl
stays s Tick = refl
stays s (Response tag words) = refl
stays s (Failed tag why) = refl
stays s (Down place why) = refl
stays s (Content origin words) = refl

-- ---- at Stop, and after it

kills_all : (p n : ℕ) → map (signalled signal.Kill) (places_from p n) ≡ kills p n
kills_all p zero = refl
kills_all p (suc n) = ap (λ (os : List PlainOutput). signalled signal.Kill p ∷ os) (kills_all (p + 1) n)

over : (s : Script) → s.is_over ≡ true → goes_on s ≡ (s, [])
over s e = ap (λ (b : Bool). let played : Played = if b then (s, []) else play s.plan s [] in played) e

record IsSilent (r : Conducting) (os : List PlainOutput) : Type 0 where
  pub is_over : r.script.is_over ≡ true
  pub outputs : os ≡ []

answered_over : (s : Script) (o : Option ℕ) (words : List ℕ) → s.is_over ≡ true → (answered_at s o words).is_over ≡ true
answered_over s None words e = e
answered_over s (Some step) words e = e

resolved_over : (s : Script) (o : Option ℕ) (r : Reply) → s.is_over ≡ true → (resolved_at s o r).is_over ≡ true
resolved_over s None r e = e
resolved_over s (Some step) r e = e

silent_at : (s : Conducting) (next : Script) → next.is_over ≡ true → IsSilent (record s { script = (goes_on next).0 }) (goes_on next).1
silent_at s next e = record { is_over = ap (λ (p : Played). p.0.is_over) (over next e) ∙ e; outputs = ap (λ (p : Played). p.1) (over next e) }

is_silent : (s : Conducting) (i : PlainInput) → s.script.is_over ≡ true → ComesLate i → IsSilent (reacted s i).0 (reacted s i).1.outputs
is_silent s (Response tag words) e late = silent_at s (answered s.script tag words) (answered_over s.script (step_of tag) words e)
is_silent s (Failed tag why) e late = silent_at s (resolved s.script tag (reply.Failed why)) (resolved_over s.script (step_of tag) (reply.Failed why) e)
is_silent s (Down place why) e late = record { is_over = e; outputs = refl }
is_silent s Start e late = absurd late
is_silent s Stop e late = absurd late
is_silent s Tick e late = absurd late
is_silent s (Content origin words) e late = absurd late

-- after late inputs it is over still
silent_on : (s : Conducting) (late : List PlainInput) (i : PlainInput) → s.script.is_over ≡ true → AllByRecursion ComesLate late → ComesLate i → (kind_rules.reaction (fed kind_rules (kind.Conductor s) late) i).outputs ≡ []
silent_on s [] i e all last = (is_silent s i e last).outputs
silent_on s (x ∷ xs) i e all last = silent_on (reacted s x).0 xs i (is_silent s x e all.0).is_over all.1 last

fed_joined : (k : Kind) (xs ys : List PlainInput) → fed kind_rules k (xs ++ ys) ≡ fed kind_rules (fed kind_rules k xs) ys
fed_joined k [] ys = refl
fed_joined k (x ∷ xs) ys = fed_joined (kind_rules.next k x) xs ys

-- ---- places from 1 on

high_places : (p n : ℕ) → 1 ≤ p → AllByRecursion (λ r. r ≢ 0) (places_from p n)
high_places p zero low = tt
high_places p (suc n) low = (λ e. absurd (omega (arith, low, e)), high_places (p + 1) n (omega (arith, low)))

one_of : (P : ℕ → Type 0) (ps : List ℕ) → AllByRecursion P ps → (p : ℕ) → Contains ps p → P p
one_of P ps all p (k, within, is) = subst P is (one_of_all P ps k p within all)

pub conductor_closes : ConductorCloses
conductor_closes places start s run =
    let all : AllByRecursion (λ r. r ≢ 0) s.identity.peers = subst (AllByRecursion (λ r. r ≢ 0)) (sym run.peers) (high_places 1 (places - 1) (omega arith)) in
    record {
      interface = ap kind_rules.interface run.first;
      unnamed = run.unnamed;
      alone = λ is i given.
          let f = conducts_on s is run.valid in
          let there : fed kind_rules (start 0) is ≡ kind.Conductor f.now = ap (λ (k : Kind). fed kind_rules k is) run.first ∙ f.fed_is in
          let high : AllByRecursion (λ r. r ≢ 0) f.now.identity.peers = subst (λ (w : Who). AllByRecursion (λ r. r ≢ 0) w.peers) (sym f.same) all in
          subst (λ (k : Kind). SendsNothingTo 0 (kind_rules.reaction k i)) (sym there) (sends_elsewhere f.now i f.valid (one_of (λ r. r ≢ 0) f.now.identity.peers high));
      stays = λ is i given.
          let f = conducts_on s is run.valid in
          let there : fed kind_rules (start 0) is ≡ kind.Conductor f.now = ap (λ (k : Kind). fed kind_rules k is) run.first ∙ f.fed_is in
          ap (λ (k : Kind). (kind_rules.reaction k i).quit) there ∙ stays f.now i;
      kills = λ is given.
          let f = conducts_on s is run.valid in
          let there : fed kind_rules (start 0) is ≡ kind.Conductor f.now = ap (λ (k : Kind). fed kind_rules k is) run.first ∙ f.fed_is in
          ap (λ (k : Kind). (kind_rules.reaction k Stop).outputs) there
          ∙ ap (λ (w : Who). map (signalled signal.Kill) w.peers) f.same ∙ ap (map (signalled signal.Kill)) run.peers ∙ kills_all 1 (places - 1);
      silent = λ is late i given late_all last.
          let f = conducts_on s is run.valid in
          let there : fed kind_rules (start 0) (is ++ Stop ∷ late) ≡ fed kind_rules (kind.Conductor f.now) (Stop ∷ late) =
          ap (λ (k : Kind). fed kind_rules k (is ++ Stop ∷ late)) run.first ∙ fed_joined (kind.Conductor s) is (Stop ∷ late) ∙ ap (λ (k : Kind). fed kind_rules k (Stop ∷ late)) f.fed_is in
          ap (λ (k : Kind). (kind_rules.reaction k i).outputs) there ∙ silent_on (reacted f.now Stop).0 late i refl late_all last;
    }

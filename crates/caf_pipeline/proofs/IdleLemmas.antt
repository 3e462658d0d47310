-- At notices and errors a part of a pipeline does nothing, and a conductor that has played its script sends exits alone.
use Rattle.std.proofs.Common.{◌≡◌, ℕ, Bool, true, false, List, [], ◌∷◌, map, Option, Some, None, refl, sym, subst, ap, ◌∙◌}
use Rattle.std.specs.List.{AllByRecursion}
use Rattle.caf_types.specs.declared.sec.Sec.{Sec}
use Rattle.caf_response.specs.declared.pending.Waiting.{Waiting}
use Rattle.caf_response.specs.Pending.{WaitingRequests, resolved, forgotten}
use Rattle.caf_actor.specs.Handling.{failure_input}
use Rattle.caf_actor.specs.PlainInput.{PlainInput, Start, Stop, Content, Response, Failed, Down, Tick}
use Rattle.caf_actor.specs.Rules.{IsExit}
use Rattle.caf_script.specs.Reply as reply
use Rattle.caf_script.specs.Reply.{Reply}
use Rattle.caf_script.specs.Script.{Played, goes_on, resolved_at, step_of, ended}
use Rattle.caf_script.specs.Script as script
use Rattle.caf_script.specs.declared.script.Script.{Script}
use Rattle.caf_kinds.specs.Conductor.{Conducting, plays}
use Rattle.caf_kinds.specs.Kinds.{kind_rules, name_of, reacted}
use Rattle.caf_kinds.specs.Reacting.{Reacted, quiet}
use Rattle.caf_kinds.specs.Signals.{signalled}
use Rattle.caf_kinds.specs.declared.kind.Kind.{Kind}
use Rattle.caf_kinds.specs.declared.kind.Kind.TheVariants as kind
use Rattle.caf_kinds.specs.declared.setup.KindName.{KindName}
use Rattle.caf_kinds.specs.declared.setup.KindName.TheVariants as name
use Rattle.caf_kinds.specs.declared.signal.Signal.TheVariants as signal
use Rattle.caf_pipeline.proofs.LateLemmas.{IsNoticed, StaysIdle}

-- ---- parts

abbrev pub is_part : KindName → Bool
is_part name.Source = true
is_part name.Lines = true
is_part name.Relay = true
is_part name.Counter = true
is_part name.Collector = true
is_part _ = false

abbrev IsCalm : PlainInput → Type 0
IsCalm (Content origin words) = ⊥
IsCalm _ = Unit {0}

noticed_calm : (i : PlainInput) → IsNoticed i → IsCalm i
noticed_calm Start is = tt
noticed_calm Stop is = tt
noticed_calm (Down from why) is = tt
noticed_calm (Content origin words) is = is
noticed_calm (Response tag words) is = tt
noticed_calm (Failed tag sec) is = tt
noticed_calm Tick is = tt

does_nothing : (b : Kind) → (i : PlainInput) → is_part (name_of b) ≡ true → IsCalm i → reacted b i ≡ (b, quiet)
does_nothing (kind.Source s) i e calm = all i calm
  where
    all : (i : PlainInput) → IsCalm i → reacted (kind.Source s) i ≡ (kind.Source s, quiet)
    all Start calm = refl
    all Stop calm = refl
    all (Content origin words) calm = absurd calm
    all (Response tag words) calm = refl
    all (Failed tag sec) calm = refl
    all (Down from why) calm = refl
    all Tick calm = refl
does_nothing (kind.Lines s) i e calm = all i calm
  where
    all : (i : PlainInput) → IsCalm i → reacted (kind.Lines s) i ≡ (kind.Lines s, quiet)
    all Start calm = refl
    all Stop calm = refl
    all (Content origin words) calm = absurd calm
    all (Response tag words) calm = refl
    all (Failed tag sec) calm = refl
    all (Down from why) calm = refl
    all Tick calm = refl
does_nothing (kind.Relay s) i e calm = all i calm
  where
    all : (i : PlainInput) → IsCalm i → reacted (kind.Relay s) i ≡ (kind.Relay s, quiet)
    all Start calm = refl
    all Stop calm = refl
    all (Content origin words) calm = absurd calm
    all (Response tag words) calm = refl
    all (Failed tag sec) calm = refl
    all (Down from why) calm = refl
    all Tick calm = refl
does_nothing (kind.Counter s) i e calm = all i calm
  where
    all : (i : PlainInput) → IsCalm i → reacted (kind.Counter s) i ≡ (kind.Counter s, quiet)
    all Start calm = refl
    all Stop calm = refl
    all (Content origin words) calm = absurd calm
    all (Response tag words) calm = refl
    all (Failed tag sec) calm = refl
    all (Down from why) calm = refl
    all Tick calm = refl
does_nothing (kind.Collector s) i e calm = all i calm
  where
    all : (i : PlainInput) → IsCalm i → reacted (kind.Collector s) i ≡ (kind.Collector s, quiet)
    all Start calm = refl
    all Stop calm = refl
    all (Content origin words) calm = absurd calm
    all (Response tag words) calm = refl
    all (Failed tag sec) calm = refl
    all (Down from why) calm = refl
    all Tick calm = refl
does_nothing (kind.Echo s) i e calm = cc
does_nothing (kind.Cell s) i e calm = cc
does_nothing (kind.Calc s) i e calm = cc
does_nothing (kind.Holder s) i e calm = cc
does_nothing (kind.Quitter s) i e calm = cc
does_nothing (kind.Watcher s) i e calm = cc
does_nothing (kind.Spawner s) i e calm = cc
does_nothing (kind.Alarm s) i e calm = cc
does_nothing (kind.Conductor s) i e calm = cc

-- a part, of that value
pub record IsPart (value b : Kind) : Type 0 where
  pub part : is_part (name_of b) ≡ true
  pub is : b ≡ value

pub part_stays : (value : Kind) → StaysIdle kind_rules (λ b w. IsPart value b)
part_stays value = record {
  outputs = λ b w i h noticed. silent b i h (noticed_calm i noticed);
  next = λ b w i h noticed. same b i h (noticed_calm i noticed);
  failed = λ b w number found sec h e. silent b (failure_input found.0 sec) h tt;
  failed_next = λ b w number found sec h e. same b (failure_input found.0 sec) h tt;
  forgets = λ b w h. h;
}
  where
    silent : (b : Kind) (i : PlainInput) → IsPart value b → IsCalm i → AllByRecursion IsExit (kind_rules.reaction b i).outputs
    silent b i h calm = subst (λ (r : Reacted Kind). AllByRecursion IsExit r.1.outputs) (sym (does_nothing b i h.part calm)) tt

    same : (b : Kind) (i : PlainInput) → IsPart value b → IsCalm i → IsPart value (kind_rules.next b i)
    same b i h calm = subst (λ (r : Reacted Kind). IsPart value r.0) (sym (does_nothing b i h.part calm)) h

-- ---- a conductor

pub goes_nowhere : (s : Script) → s.plan ≡ [] → goes_on s ≡ (s, [])
goes_nowhere s e = go s.is_over refl
  where
    go : (b : Bool) → s.is_over ≡ b → goes_on s ≡ (s, [])
    go true q = rw q refl
    go false q = rw (q, e) refl

-- `Known` is what is known of the replies and of the requests that wait
pub record HasPlayed (Known : List Reply → WaitingRequests → Type 0) (b : Kind) (w : WaitingRequests) : Type 0 where
  pub conducting : Conducting
  pub is : b ≡ kind.Conductor conducting
  pub none_left : conducting.script.plan ≡ []
  pub known : Known conducting.script.replies w

pub resolved_plan : (s : Script) (o : Option ℕ) (r : Reply) → (resolved_at s o r).plan ≡ s.plan
resolved_plan s None r = refl
resolved_plan s (Some step) r = refl

kills_all : (places : List ℕ) → AllByRecursion IsExit (map (signalled signal.Kill) places)
kills_all [] = tt
kills_all (p ∷ places) = (tt, kills_all places)

module _ (Known : List Reply → WaitingRequests → Type 0)
    (fails : (s : Script) (w : WaitingRequests) (number : ℕ) (found : Waiting × WaitingRequests) (sec : Sec) → Known s.replies w → resolved w number ≡ Some found → Known (script.resolved s found.0.tag (reply.Failed sec)).replies found.1)
    (forgets : (rs : List Reply) (w : WaitingRequests) → Known rs w → Known rs (forgotten w)) where
  -- it plays on with nothing left
  plays_none : (s : Conducting) (next : Script) → next.plan ≡ [] → plays s (goes_on next) ≡ plays s (next, [])
  plays_none s next e = ap (plays s) (goes_nowhere next e)

  noticed_outputs : (s : Conducting) (i : PlainInput) → s.script.plan ≡ [] → IsNoticed i → AllByRecursion IsExit (kind_rules.reaction (kind.Conductor s) i).outputs
  noticed_outputs s Start e noticed = subst (λ (r : Reacted Conducting). AllByRecursion IsExit r.1.outputs) (sym (plays_none s s.script e)) tt
  noticed_outputs s Stop e noticed = kills_all s.identity.peers
  noticed_outputs s (Down from why) e noticed = tt
  noticed_outputs s (Content origin words) e noticed = absurd noticed
  noticed_outputs s (Response tag words) e noticed = absurd noticed
  noticed_outputs s (Failed tag sec) e noticed = absurd noticed
  noticed_outputs s Tick e noticed = absurd noticed

  noticed_next : (s : Conducting) (w : WaitingRequests) (i : PlainInput) → s.script.plan ≡ [] → Known s.script.replies w → IsNoticed i → HasPlayed Known (kind_rules.next (kind.Conductor s) i) w
  noticed_next s w Start e known noticed =
      subst (λ (r : Reacted Conducting). HasPlayed Known (kind.Conductor r.0) w) (sym (plays_none s s.script e)) (record { conducting = (plays s (s.script, [])).0; is = refl; none_left = e; known = known })
  noticed_next s w Stop e known noticed = record { conducting = record s { script = ended s.script }; is = refl; none_left = e; known = known }
  noticed_next s w (Down from why) e known noticed = record { conducting = s; is = refl; none_left = e; known = known }
  noticed_next s w (Content origin words) e known noticed = absurd noticed
  noticed_next s w (Response tag words) e known noticed = absurd noticed
  noticed_next s w (Failed tag sec) e known noticed = absurd noticed
  noticed_next s w Tick e known noticed = absurd noticed

  failed_none : (s : Conducting) (tag : ℕ) (sec : Sec) → s.script.plan ≡ [] → (script.resolved s.script tag (reply.Failed sec)).plan ≡ []
  failed_none s tag sec e = resolved_plan s.script (step_of tag) (reply.Failed sec) ∙ e

  pub conductor_stays : StaysIdle kind_rules (HasPlayed Known)
  conductor_stays = record {
    outputs = λ b w i h noticed. subst (λ (x : Kind). AllByRecursion IsExit (kind_rules.reaction x i).outputs) (sym h.is) (noticed_outputs h.conducting i h.none_left noticed);
    next = λ b w i h noticed. subst (λ (x : Kind). HasPlayed Known (kind_rules.next x i) w) (sym h.is) (noticed_next h.conducting w i h.none_left h.known noticed);
    failed = λ b w number found sec h e.
        subst (λ (x : Kind). AllByRecursion IsExit (kind_rules.reaction x (failure_input found.0 sec)).outputs) (sym h.is)
        (subst (λ (r : Reacted Conducting). AllByRecursion IsExit r.1.outputs) (sym (plays_none h.conducting (script.resolved h.conducting.script found.0.tag (reply.Failed sec)) (failed_none h.conducting found.0.tag sec h.none_left))) tt);
    failed_next = λ b w number found sec h e.
        let after = script.resolved h.conducting.script found.0.tag (reply.Failed sec) in
        let none = failed_none h.conducting found.0.tag sec h.none_left in
        subst (λ (x : Kind). HasPlayed Known (kind_rules.next x (failure_input found.0 sec)) found.1) (sym h.is)
        (subst (λ (r : Reacted Conducting). HasPlayed Known (kind.Conductor r.0) found.1) (sym (plays_none h.conducting after none))
        (record { conducting = (plays h.conducting (after, [])).0; is = refl; none_left = none; known = fails h.conducting.script w number found sec h.known e }));
    forgets = λ b w h. record { conducting = h.conducting; is = h.is; none_left = h.none_left; known = forgets h.conducting.script.replies w h.known };
  }

-- What the laws of behaviours make of a batch: its contents fit, its posts are in form, and they go to known places.
use Rattle.std.proofs.Common.{◌≡◌, ℕ, zero, suc, ◌≤◌, ◌<◌, ◌∙◌, sym, subst, Bool, true, List, [], ◌∷◌, ◌++◌, length, Option, Some, None, refl, ap, arith}
use Rattle.std.specs.Prelude.{Contains}
use Rattle.std.specs.List.{AllByRecursion}
use Rattle.caf_types.specs.declared.notice.Mid.{Mid}
use Rattle.caf_types.specs.declared.notice.Notice.{Notice}
use Rattle.caf_types.specs.declared.notice.Priority.{Priority}
use Rattle.caf_types.specs.declared.sec.Sec.{Sec}
use Rattle.caf_message.specs.declared.envelope.Taken.{Taken}
use Rattle.caf_message.specs.declared.envelope.Plain.{Plain}
use Rattle.caf_message.specs.declared.envelope.Plain.TheVariants as «plain»
use Rattle.caf_types.specs.ShapeTree.{ShapeTree}
use Rattle.caf_message.specs.Envelope.{IsInForm, BodyFits, EnvelopeFits}
use Rattle.caf_message.specs.Fits.{Fits}
use Rattle.caf_response.specs.Delays.{PlainDelay}
use Rattle.caf_mailbox.specs.Caches.{CachedLists, next_of}
use Rattle.caf_mailbox.proofs.NextLemmas.{AllCached, all_append, all_next, all_filed}
use Rattle.caf_actor.specs.declared.snapshot.Snapshot.{Snapshot}
use Rattle.caf_actor.specs.PlainInput.{PlainInput}
use Rattle.caf_actor.specs.PlainOutput.{PlainOutput, content_sent}
use Rattle.caf_actor.specs.PlainReaction.{PlainReaction, content_answered}
use Rattle.caf_actor.specs.PlainPost.{PlainPost}
use Rattle.caf_actor.specs.Rules.{Rules, MayBeGiven, WhereGiven, InputFits, ReactionFits, IsTarget, HasTargets, output_targets, answer_targets, StaysValid, StaysSameActor, SendsToPeers}
use Rattle.caf_actor.specs.Actor.{CachesFit, DelaysFit}
use Rattle.caf_actor.specs.Leads.{leads_to, LeadsWithin, GoesWithin, StaysWithin, IsPostInForm, PostFits}
use Rattle.caf_actor.specs.Snapshot.{Handled, so_far, with_snapshot, cached}
use Rattle.caf_actor.specs.Eligibility.{is_eligible, with_caches, next_envelope}
use Rattle.caf_actor.specs.Sending.{post, posting}
use Rattle.caf_actor.specs.Handling.{handle_one}
use Rattle.caf_actor.specs.Drain.{with_batch, drain_for, batch_of}
use Rattle.caf_actor.proofs.KeptLemmas.{IsKnown, IsHeld, IsDelayed, InputIs, OutputIs, AnswerIs, ReactionIs, IsPosted, Keeps, Reacts, KeepsToo, on_one}
use Rattle.caf_actor.proofs.SimpleLemmas.{any, any_known, any_delay, any_words}
use Rattle.caf_actor.proofs.DrainLemmas.{drain_keeps}

-- ---- lists

all_through : {A : Type 0} (P Q : A → Type 0) → ((x : A) → P x → Q x) → (xs : List A) → AllByRecursion P xs → AllByRecursion Q xs
all_through P Q f [] all = tt
all_through P Q f (x ∷ xs) all = (f x all.0, all_through P Q f xs all.1)

-- ---- an actor at work

module _ (K : ℕ → Type 0) (C : Plain → Type 0) where
  pub record IsSoundPost (p : PlainPost) : Type 0 where
    pub to : K p.to
    pub known : IsKnown K C p.envelope
    pub form : IsInForm p.envelope

  -- its behaviour occurs and is that of its place, all that it keeps is known, and so is all that it posted
  pub record IsSound {S : Type 0} (occurs : S → Type 0) (rules : Rules S) (t : Handled S) : Type 0 where
    pub valid : occurs t.snapshot.behavior
    pub own : rules.place t.snapshot.behavior ≡ t.snapshot.place
    pub targets : (p : ℕ) → IsTarget rules t.snapshot.behavior p → K p
    pub caches : AllCached (IsKnown K C) t.snapshot.caches
    pub holds : AllByRecursion (IsHeld K C) t.snapshot.holds
    pub links : AllByRecursion K t.snapshot.observers.links
    pub monitors : AllByRecursion K t.snapshot.observers.monitors
    pub delays : AllByRecursion (IsDelayed K C) t.snapshot.delays
    pub posts : AllByRecursion IsSoundPost t.posts

  -- the contents of a reaction are known
  pub record ContentsAre (r : PlainReaction) : Type 0 where
    pub outputs : AllByRecursion (λ o. WhereGiven (λ words. C («plain».Content words)) (content_sent o)) r.outputs
    pub answer : WhereGiven (λ words. C («plain».Content words)) (content_answered r.answer)

module _ {S : Type 0} (valid : S → Type 0) (rules : Rules S) (K : ℕ → Type 0) (C : Plain → Type 0) where
  -- the own place is one of the targets
  own_known : (t : Handled S) → IsSound K C valid rules t → K t.snapshot.place
  own_known t h = subst K h.own (h.targets (rules.place t.snapshot.behavior) (0, omega arith, refl))

  sound_post : (t : Handled S) (to : ℕ) (mid : Mid) (priority : Priority) (body : Plain) → K to → IsPosted K C t.snapshot.place mid priority body → IsSound K C valid rules t
      → IsSound K C valid rules (post t to mid priority body)
  sound_post t to mid priority body k is h =
      let it : PlainPost = posting t.snapshot to mid priority body in
      let last : IsSoundPost K C it = record { to = k; known = (is.leads (own_known t h), is.known); form = is.form it.envelope.seq t.snapshot.stamp } in
      record {
        valid = h.valid;
        own = h.own;
        targets = h.targets;
        caches = h.caches;
        holds = h.holds;
        links = h.links;
        monitors = h.monitors;
        delays = h.delays;
        posts = all_append (IsSoundPost K C) t.posts (it ∷ []) h.posts (last, tt);
      }

  pub sound_keeps : ((what : Sec) → C («plain».Failure what)) → ((what : Notice) → C («plain».System what)) → Keeps K C (IsSound K C valid rules)
  sound_keeps failure system = record {
    failure = failure;
    system = system;
    cached = λ t h. h.caches;
    held = λ t h. h.holds;
    links = λ t h. h.links;
    monitors = λ t h. h.monitors;
    delays = λ t h. h.delays;
    on_post = sound_post;
    on_holds = λ t holds all h. record { valid = h.valid; own = h.own; targets = h.targets; caches = h.caches; holds = all; links = h.links; monitors = h.monitors; delays = h.delays; posts = h.posts };
    on_issue = λ t mode tag expected h. record { valid = h.valid; own = h.own; targets = h.targets; caches = h.caches; holds = h.holds; links = h.links; monitors = h.monitors; delays = h.delays; posts = h.posts };
    on_issue_within = λ t ticks mode tag expected h. record { valid = h.valid; own = h.own; targets = h.targets; caches = h.caches; holds = h.holds; links = h.links; monitors = h.monitors; delays = h.delays; posts = h.posts };
    on_observers = λ t observers l m h. record { valid = h.valid; own = h.own; targets = h.targets; caches = h.caches; holds = h.holds; links = l; monitors = m; delays = h.delays; posts = h.posts };
    on_unstarted = λ t unstarted h. record { valid = h.valid; own = h.own; targets = h.targets; caches = h.caches; holds = h.holds; links = h.links; monitors = h.monitors; delays = h.delays; posts = h.posts };
    on_delays = λ t delays all h. record { valid = h.valid; own = h.own; targets = h.targets; caches = h.caches; holds = h.holds; links = h.links; monitors = h.monitors; delays = all; posts = h.posts };
    on_emptied = λ t why h. record { valid = h.valid; own = h.own; targets = h.targets; caches = (tt, tt); holds = tt; links = h.links; monitors = h.monitors; delays = tt; posts = h.posts };
  }

  -- ---- reactions

  -- a target of the next value is one of this value
  same_targets : StaysSameActor valid rules → (s : S) (i : PlainInput) → valid s → MayBeGiven rules s i → ((p : ℕ) → IsTarget rules s p → K p)
      → (p : ℕ) → IsTarget rules (rules.next s i) p → K p
  same_targets same s i v may targets p is =
      let next = same s i v may in
      let places : ◌≡◌ {A = List ℕ} (rules.place (rules.next s i) ∷ (rules.peers (rules.next s i) ++ rules.reserve (rules.next s i))) (rules.place s ∷ (rules.peers s ++ rules.reserve s)) =
      λ k. next.place k ∷ (next.peers k ++ next.reserve k) in
      targets p (subst (λ (ps : List ℕ). Contains ps p) places is)

  outputs_are : (s : S) (targets : (p : ℕ) → IsTarget rules s p → K p) (os : List PlainOutput) → AllByRecursion (λ o. AllByRecursion (IsTarget rules s) (output_targets o)) os
      → AllByRecursion (λ o. WhereGiven (λ words. C («plain».Content words)) (content_sent o)) os → AllByRecursion (OutputIs K C) os
  outputs_are s targets [] goes is = tt
  outputs_are s targets (o ∷ os) goes is =
      (record { targets = all_through (IsTarget rules s) K targets (output_targets o) goes.0; content = is.0 }, outputs_are s targets os goes.1 is.1)

  reaction_is : (s : S) (r : PlainReaction) (targets : (p : ℕ) → IsTarget rules s p → K p) → HasTargets rules s r → ContentsAre K C r → ReactionIs K C r
  reaction_is s r targets goes is = record {
    outputs = outputs_are s targets r.outputs goes.outputs is.outputs;
    answer = record { targets = all_through (IsTarget rules s) K targets (answer_targets r.answer) goes.answer; content = is.answer };
  }

  pub sound_reacts : StaysValid valid rules → StaysSameActor valid rules → SendsToPeers valid rules
      → ((s : S) (i : PlainInput) → valid s → MayBeGiven rules s i → InputIs K C i → ContentsAre K C (rules.reaction s i))
      → Reacts K C rules (IsSound K C valid rules)
  sound_reacts stays same peers contents = record {
    on_behavior = λ t i may is h.
        let s = t.snapshot.behavior in (
          reaction_is s (rules.reaction s i) h.targets (peers s i h.valid may) (contents s i h.valid may is),
          record {
            valid = stays s i h.valid may;
            own = (same s i h.valid may).place ∙ h.own;
            targets = same_targets same s i h.valid may h.targets;
            caches = h.caches;
            holds = h.holds;
            links = h.links;
            monitors = h.monitors;
            delays = h.delays;
            posts = h.posts;
          },
        );
  }

  sound_keeps_too : KeepsToo K C (IsSound K C valid rules)
  sound_keeps_too = record {
    on_resolved = λ t number found e h. record { valid = h.valid; own = h.own; targets = h.targets; caches = h.caches; holds = h.holds; links = h.links; monitors = h.monitors; delays = h.delays; posts = h.posts };
    on_expired = λ t found e h. record { valid = h.valid; own = h.own; targets = h.targets; caches = h.caches; holds = h.holds; links = h.links; monitors = h.monitors; delays = h.delays; posts = h.posts };
    on_begun = λ t h. record { valid = h.valid; own = h.own; targets = h.targets; caches = h.caches; holds = h.holds; links = h.links; monitors = h.monitors; delays = h.delays; posts = h.posts };
    on_clock = λ t h. record { valid = h.valid; own = h.own; targets = h.targets; caches = h.caches; holds = h.holds; links = h.links; monitors = h.monitors; delays = h.delays; posts = h.posts };
  }

  -- ---- a batch

  -- the next envelope is known, and all else stays so
  next_sound : (t : Handled S) (p : Taken × Snapshot S) → next_envelope rules t.snapshot ≡ Some p → IsSound K C valid rules t
      → IsKnown K C p.0 × IsSound K C valid rules (with_snapshot t p.1)
  next_sound t p q h = go (next_of (is_eligible rules t.snapshot) t.snapshot.caches) refl q
    where
      go : (r : Option (Taken × CachedLists)) → next_of (is_eligible rules t.snapshot) t.snapshot.caches ≡ r → with_caches t.snapshot r ≡ Some p
          → IsKnown K C p.0 × IsSound K C valid rules (with_snapshot t p.1)
      go None f e = cc
      go (Some r) f e =
          let both = all_next (is_eligible rules t.snapshot) (IsKnown K C) t.snapshot.caches r h.caches f in
          let same : (r.0, record t.snapshot { caches = r.1 }) ≡ p = cc in
          subst (λ (u : Taken × Snapshot S). IsKnown K C u.0 × IsSound K C valid rules (with_snapshot t u.1)) same
          (both.0, record { valid = h.valid; own = h.own; targets = h.targets; caches = both.1; holds = h.holds; links = h.links; monitors = h.monitors; delays = h.delays; posts = h.posts })

  pub sound_batch : Keeps K C (IsSound K C valid rules) → Reacts K C rules (IsSound K C valid rules) → (s : Snapshot S) (batch : List Taken)
      → IsSound K C valid rules (so_far s []) → AllByRecursion (IsKnown K C) batch → IsSound K C valid rules (batch_of rules s batch)
  sound_batch keeps reacts s batch h known =
      drain_keeps rules (IsSound K C valid rules)
      (λ t p q was. let both = next_sound t p q was in on_one rules K C (IsSound K C valid rules) keeps reacts sound_keeps_too (with_snapshot t p.1) p.0 both.0 both.1)
      (cached (with_batch s batch)) (so_far (with_batch s batch) [])
      (record {
        valid = h.valid;
        own = h.own;
        targets = h.targets;
        caches = all_filed (IsKnown K C) s.caches batch h.caches known;
        holds = h.holds;
        links = h.links;
        monitors = h.monitors;
        delays = h.delays;
        posts = tt;
      })

-- ---- what is said of a batch

any_sent : (os : List PlainOutput) → AllByRecursion (λ o. WhereGiven (λ words. Unit {0}) (content_sent o)) os
any_sent [] = tt
any_sent (o ∷ os) = (any_words (content_sent o), any_sent os)

module _ {S : Type 0} (valid : S → Type 0) (rules : Rules S) (stays : StaysValid valid rules) (same : StaysSameActor valid rules) (peers : SendsToPeers valid rules) where
  -- with nothing else known: the behaviour's value occurs, and is that of the place
  pub work_batch : (s : Snapshot S) (batch : List Taken) → valid s.behavior → rules.place s.behavior ≡ s.place
      → IsSound (λ p. Unit {0}) (λ b. Unit {0}) valid rules (batch_of rules s batch)
  work_batch s batch v own =
      sound_batch valid rules (λ p. Unit {0}) (λ b. Unit {0})
      (sound_keeps valid rules (λ p. Unit {0}) (λ b. Unit {0}) (λ what. tt) (λ what. tt))
      (sound_reacts valid rules (λ p. Unit {0}) (λ b. Unit {0}) stays same peers
      (λ s i h may is. record { outputs = any_sent (rules.reaction s i).outputs; answer = any_words (content_answered (rules.reaction s i).answer) }))
      s batch
      (record {
        valid = v;
        own = own;
        targets = λ p is. tt;
        caches = (any_known s.caches.urgent, any_known s.caches.normal);
        holds = any s.holds;
        links = any s.observers.links;
        monitors = any s.observers.monitors;
        delays = any_delay s.delays;
        posts = tt;
      })
      (any_known batch)

  -- where all that it has fits, all that it posts and keeps fits
  module _ (shape_of : ℕ → Option ShapeTree)
      (fits : (s : S) (i : PlainInput) → valid s → MayBeGiven rules s i → InputFits shape_of i → ReactionFits shape_of (rules.reaction s i)) where
    fit_envelopes : (es : List Taken) → AllByRecursion (EnvelopeFits shape_of) es → AllByRecursion (IsKnown (λ p. Unit {0}) (BodyFits shape_of)) es
    fit_envelopes [] h = tt
    fit_envelopes (e ∷ es) h = ((any (leads_to e.mid e.body), h.0), fit_envelopes es h.1)

    fit_delays : (ds : List PlainDelay) → DelaysFit shape_of ds → AllByRecursion (IsDelayed (λ p. Unit {0}) (BodyFits shape_of)) ds
    fit_delays [] h = tt
    fit_delays (d ∷ ds) h = ((tt, h.0), fit_delays ds h.1)

    pub fit_batch : (s : Snapshot S) (batch : List Taken) → valid s.behavior → rules.place s.behavior ≡ s.place → CachesFit shape_of s.caches → DelaysFit shape_of s.delays
        → AllByRecursion (EnvelopeFits shape_of) batch → IsSound (λ p. Unit {0}) (BodyFits shape_of) valid rules (batch_of rules s batch)
    fit_batch s batch v own caches delays known =
        sound_batch valid rules (λ p. Unit {0}) (BodyFits shape_of)
        (sound_keeps valid rules (λ p. Unit {0}) (BodyFits shape_of) (λ what. tt) (λ what. tt))
        (sound_reacts valid rules (λ p. Unit {0}) (BodyFits shape_of) stays same peers
        (λ s i h may is. let r = fits s i h may is in record { outputs = r.outputs; answer = r.answer }))
        s batch
        (record {
          valid = v;
          own = own;
          targets = λ p is. tt;
          caches = (fit_envelopes s.caches.urgent caches.urgent, fit_envelopes s.caches.normal caches.normal);
          holds = any s.holds;
          links = any s.observers.links;
          monitors = any s.observers.monitors;
          delays = fit_delays s.delays delays;
          posts = tt;
        })
        (fit_envelopes batch known)

    pub posts_fit : (ps : List PlainPost) → AllByRecursion (IsSoundPost (λ p. Unit {0}) (BodyFits shape_of)) ps → AllByRecursion (PostFits shape_of) ps
    posts_fit ps all = all_through _ (PostFits shape_of) (λ p h. h.known.1) ps all

    pub delays_fit : (ds : List PlainDelay) → AllByRecursion (IsDelayed (λ p. Unit {0}) (BodyFits shape_of)) ds → DelaysFit shape_of ds
    delays_fit ds all = all_through _ (λ (d : PlainDelay). Fits shape_of d.content) (λ d h. h.1) ds all

  -- where it knows these places alone, it sends to these alone, and gets to know no others
  module _ (K : ℕ → Type 0) where
    within_envelopes : (es : List Taken) → AllByRecursion (LeadsWithin K) es → AllByRecursion (IsKnown K (λ b. Unit {0})) es
    within_envelopes [] h = tt
    within_envelopes (e ∷ es) h = ((h.0, tt), within_envelopes es h.1)

    within_delays : (ds : List PlainDelay) → AllByRecursion (λ (d : PlainDelay). K d.to) ds → AllByRecursion (IsDelayed K (λ b. Unit {0})) ds
    within_delays [] h = tt
    within_delays (d ∷ ds) h = ((h.0, tt), within_delays ds h.1)

    pub within_batch : (s : Snapshot S) (batch : List Taken) → valid s.behavior → rules.place s.behavior ≡ s.place → StaysWithin K rules s
        → AllByRecursion (LeadsWithin K) batch → IsSound K (λ b. Unit {0}) valid rules (batch_of rules s batch)
    within_batch s batch v own h known =
        sound_batch valid rules K (λ b. Unit {0})
        (sound_keeps valid rules K (λ b. Unit {0}) (λ what. tt) (λ what. tt))
        (sound_reacts valid rules K (λ b. Unit {0}) stays same peers
        (λ s i h may is. record { outputs = any_sent (rules.reaction s i).outputs; answer = any_words (content_answered (rules.reaction s i).answer) }))
        s batch
        (record {
          valid = v;
          own = own;
          targets = h.targets;
          caches = (within_envelopes s.caches.urgent h.urgent, within_envelopes s.caches.normal h.normal);
          holds = h.holds;
          links = h.links;
          monitors = h.monitors;
          delays = within_delays s.delays h.delays;
          posts = tt;
        })
        (within_envelopes batch known)

    led : (es : List Taken) → AllByRecursion (IsKnown K (λ b. Unit {0})) es → AllByRecursion (LeadsWithin K) es
    led es all = all_through _ (LeadsWithin K) (λ e h. h.0) es all

    pub stays_within : (t : Handled S) → IsSound K (λ b. Unit {0}) valid rules t → StaysWithin K rules t.snapshot
    stays_within t h = record {
      place = own_known valid rules K (λ b. Unit {0}) t h;
      targets = h.targets;
      urgent = led t.snapshot.caches.urgent h.caches.0;
      normal = led t.snapshot.caches.normal h.caches.1;
      holds = h.holds;
      links = h.links;
      monitors = h.monitors;
      delays = all_through _ (λ (d : PlainDelay). K d.to) (λ d k. k.0) t.snapshot.delays h.delays;
    }

    pub posts_within : (ps : List PlainPost) → AllByRecursion (IsSoundPost K (λ b. Unit {0})) ps → AllByRecursion (GoesWithin K) ps
    posts_within ps all = all_through _ (GoesWithin K) (λ p h. record { to = h.to; leads = h.known.0 }) ps all

-- every post is in form
pub posts_in_form : (K : ℕ → Type 0) (C : Plain → Type 0) (ps : List PlainPost) → AllByRecursion (IsSoundPost K C) ps → AllByRecursion IsPostInForm ps
posts_in_form K C ps all = all_through (IsSoundPost K C) IsPostInForm (λ p h. h.form) ps all

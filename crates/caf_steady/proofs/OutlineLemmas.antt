-- What a steady actor does with one envelope is what reading it does.
use Rattle.std.proofs.Common.{◌≡◌, ℕ, ◌∙◌, nat_le, bytes_eq, Bool, true, false, List, [], ◌∷◌, Option, Some, None, refl, ap, sym, subst, if◌then◌else◌}
use Rattle.std.proofs.lemmas.List.{map-append}
use Rattle.std.specs.List.{AllByRecursion}
use Rattle.caf_types.specs.Limits.{last_count}
use Rattle.caf_types.specs.declared.notice.Mid.{Mid}
use Rattle.caf_types.specs.declared.notice.Notice.TheVariants as notice
use Rattle.caf_types.specs.declared.notice.Priority.{Priority}
use Rattle.caf_types.specs.declared.reason.Reason.{Reason}
use Rattle.caf_types.specs.declared.sec.Sec.{Sec}
use Rattle.caf_types.specs.declared.sec.Sec.TheVariants.{UnexpectedMessage, UnexpectedResponse}
use Rattle.caf_types.specs.declared.shape.TypeId.{TypeId}
use Rattle.caf_words.specs.Several.{ids_of}
use Rattle.caf_message.specs.Content.{ids_in}
use Rattle.caf_message.specs.Lists.{pick}
use Rattle.caf_message.specs.declared.envelope.Plain.{Plain}
use Rattle.caf_message.specs.declared.envelope.Plain.TheVariants as «plain»
use Rattle.caf_message.specs.declared.envelope.Taken.{Taken}
use Rattle.caf_response.specs.declared.pending.Mode.TheVariants.{Awaited, Multiplexed}
use Rattle.caf_response.specs.declared.pending.Waiting.{Waiting}
use Rattle.caf_response.specs.Pending.{WaitingRequests, has_number, resolved, from_multiplexed}
use Rattle.caf_response.specs.Promised.{Promised}
use Rattle.caf_response.specs.Holds.{take_hold}
use Rattle.caf_actor.specs.declared.origin.Origin.{Origin}
use Rattle.caf_actor.specs.Answering as answering
use Rattle.caf_actor.specs.Answering.{origin_of, is_asked, promised_to}
use Rattle.caf_actor.specs.Handling as handling
use Rattle.caf_actor.specs.Handling.{response_input, failure_input, resolve_with, handle_where, handle_one}
use Rattle.caf_actor.specs.PlainInput.{PlainInput, Start, Stop, Content, Response, Failed}
use Rattle.caf_actor.specs.PlainOutput.{PlainOutput, Tell, TellMany, Request, Exit, Link, Unlink, Watch, Unwatch, Deliver, Break, Spawn, Tick, Delay, Within}
use Rattle.caf_actor.specs.PlainReaction.{PlainAnswer, Value, Error, Delegate, Hold, Nothing}
use Rattle.caf_actor.specs.Reacting as reacting
use Rattle.caf_actor.specs.Rules.{Rules, is_input}
use Rattle.caf_actor.specs.Sending as sending
use Rattle.caf_actor.specs.Snapshot.{Handled, with_snapshot}
use Rattle.caf_steady.specs.Outline.{Outline, Outlined, outline_of, outlined, bare, with_outline}
use Rattle.caf_steady.specs.Outline as told
use Rattle.caf_steady.specs.Reading as reading
use Rattle.caf_steady.specs.Steady.{IsSteadyOutput, ContentBrings, BodyBrings, Brings, IsSteadyBehavior, IsSteady}

-- ---- what sending leaves as it is

-- it has begun, hasn't quit and awaits nothing, and behaviour and lists are as before
pub record Goes {S : Type 0} (behavior : S) (t u : Handled S) : Type 0 where
  pub behavior_is : u.snapshot.behavior ≡ behavior
  pub begun : u.snapshot.has_begun ≡ t.snapshot.has_begun
  pub here : u.snapshot.quit ≡ t.snapshot.quit
  pub awaits : u.snapshot.pending.awaited ≡ t.snapshot.pending.awaited
  pub listed : u.snapshot.caches ≡ t.snapshot.caches

-- it leaves that, and is told so
pub record Does {S : Type 0} (behavior : S) (t u : Handled S) (o : Outlined S) : Type 0 where
  pub goes : Goes behavior t u
  pub told : outlined u ≡ o

abbrev pub Same : {S : Type 0} → Handled S → Handled S → Outlined S → Type 0
Same t u o = Does t.snapshot.behavior t u o

module _ {S : Type 0} where
  stay : (t : Handled S) → Goes t.snapshot.behavior t t
  stay t = record { behavior_is = refl; begun = refl; here = refl; awaits = refl; listed = refl }

  -- one after the other
  on : (b c : S) (t u v : Handled S) (o : Outlined S) → Goes b t u → Does c u v o → Does c t v o
  on b c t u v o h k = record {
    goes = record {
      behavior_is = k.goes.behavior_is;
      begun = k.goes.begun ∙ h.begun;
      here = k.goes.here ∙ h.here;
      awaits = k.goes.awaits ∙ h.awaits;
      listed = k.goes.listed ∙ h.listed;
    };
    told = k.told;
  }

  post_does : (t : Handled S) (to : ℕ) (mid : Mid) (priority : Priority) (body : Plain) → Same t (sending.post t to mid priority body) (told.send (outlined t) to mid priority body)
  post_does t to mid priority body = record {
    goes = record { behavior_is = refl; begun = refl; here = refl; awaits = refl; listed = refl };
    told = ap (λ (more : List told.Bare). record { outline = outline_of t.snapshot; sent = more }) (map-append bare t.posts (sending.posting t.snapshot to mid priority body ∷ []));
  }

  tell_does : (t : Handled S) (to : ℕ) (priority : Priority) (words : List ℕ) → Same t (sending.tell t to priority words) (told.tell (outlined t) to priority words)
  tell_does t to priority words = post_does t to _ priority _

  tell_many_does : (t : Handled S) (places : List ℕ) (priority : Priority) (words : List ℕ) → Same t (sending.tell_many t places priority words) (told.tell_many (outlined t) places priority words)
  tell_many_does t [] priority words = record { goes = stay t; told = refl }
  tell_many_does t (to ∷ places) priority words =
      let first = tell_does t to priority words in
      let later = tell_many_does (sending.tell t to priority words) places priority words in
      on t.snapshot.behavior t.snapshot.behavior t (sending.tell t to priority words) _ _ first.goes
      (record { goes = later.goes; told = later.told ∙ ap (λ (o : Outlined S). told.tell_many o places priority words) first.told })

  reply_does : (t : Handled S) (p : Promised) (body : Plain) → Same t (sending.reply t p body) (told.reply (outlined t) p body)
  reply_does t p body = post_does t _ _ _ body

  -- ---- outputs

  request_does : (t : Handled S) (to : ℕ) (priority : Priority) (tag : ℕ) (expected : List TypeId) (words : List ℕ)
      → Same t (sending.request t to priority Multiplexed tag expected words) (told.request (outlined t) to priority Multiplexed tag expected words)
  request_does t to priority tag expected words = go (nat_le t.snapshot.pending.next last_count) refl
    where
      go : (b : Bool) → nat_le t.snapshot.pending.next last_count ≡ b
          → Same t (sending.request t to priority Multiplexed tag expected words) (told.request (outlined t) to priority Multiplexed tag expected words)
      go true q =
          let first = post_does (with_snapshot t (sending.issue t.snapshot Multiplexed tag expected)) to (sending.request_mid t.snapshot) priority («plain».Content words) in
          rw q (record { goes = record { behavior_is = refl; begun = refl; here = refl; awaits = refl; listed = refl }; told = first.told })
      go false q = rw q (record { goes = stay t; told = refl })

  settle_does : (t : Handled S) (found : Option (Promised × List Promised)) (body : Plain) → Same t (sending.settle_hold t found body) (told.settle_hold (outlined t) found body)
  settle_does t None body = record { goes = stay t; told = refl }
  settle_does t (Some found) body =
      let first = reply_does (with_snapshot t (record t.snapshot { holds = found.1 })) found.0 body in
      record { goes = record { behavior_is = refl; begun = refl; here = refl; awaits = refl; listed = refl }; told = first.told }

  output_does : (t : Handled S) (o : PlainOutput) → IsSteadyOutput o → Same t (sending.send_output t o) (told.send_output (outlined t) o)
  output_does t (Tell to priority words) is = tell_does t to priority words
  output_does t (TellMany places priority words) is = tell_many_does t places priority words
  output_does t (Request to priority Multiplexed tag expected words) is = request_does t to priority tag expected words
  output_does t (Request to priority Awaited tag expected words) is = cc
  output_does t (Exit to reason) is = post_does t to _ _ _
  output_does t (Deliver requester number words) is = settle_does t (take_hold t.snapshot.holds requester number) («plain».Content words)
  output_does t (Break requester number sec) is = settle_does t (take_hold t.snapshot.holds requester number) («plain».Failure sec)
  output_does t (Link to) is = absurd is
  output_does t (Unlink to) is = absurd is
  output_does t (Watch to) is = absurd is
  output_does t (Unwatch to) is = absurd is
  output_does t (Spawn place) is = absurd is
  output_does t (Tick to) is = absurd is
  output_does t (Delay ticks to priority words) is = absurd is
  output_does t (Within ticks to priority mode tag expected words) is = absurd is

  outputs_do : (b : S) (t : Handled S) (os : List PlainOutput) → t.snapshot.behavior ≡ b → AllByRecursion IsSteadyOutput os → Does b t (sending.send_outputs t os) (told.send_outputs (outlined t) os)
  outputs_do b t [] q all = record { goes = record { behavior_is = q; begun = refl; here = refl; awaits = refl; listed = refl }; told = refl }
  outputs_do b t (o ∷ os) q all =
      let first = output_does t o all.0 in
      let later = outputs_do b (sending.send_output t o) os (first.goes.behavior_is ∙ q) all.1 in
      on t.snapshot.behavior b t (sending.send_output t o) _ _ first.goes
      (record { goes = later.goes; told = later.told ∙ ap (λ (x : Outlined S). told.send_outputs x os) first.told })

  -- ---- answers

  refuse_does : (t : Handled S) (origin : Origin) (sec : Sec) → Same t (answering.refuse t origin sec) (told.refuse (outlined t) origin sec)
  refuse_does t origin sec = go (is_asked origin) refl
    where
      go : (b : Bool) → is_asked origin ≡ b → Same t (answering.refuse t origin sec) (told.refuse (outlined t) origin sec)
      go true q = rw q (reply_does t (promised_to origin) («plain».Failure sec))
      go false q = rw q (record { goes = stay t; told = refl })

  request_answered : (t : Handled S) (p : Promised) (words : List ℕ) (a : PlainAnswer) → Same t (answering.answer_request t p words a) (told.answer_request (outlined t) p words a)
  request_answered t p words (Value value) = reply_does t p («plain».Content value)
  request_answered t p words (Error sec) = reply_does t p («plain».Failure sec)
  request_answered t p words (Delegate to) = post_does t to p.mid p.priority («plain».Content words)
  request_answered t p words Hold = record { goes = record { behavior_is = refl; begun = refl; here = refl; awaits = refl; listed = refl }; told = refl }
  request_answered t p words Nothing = record { goes = stay t; told = refl }

  tell_answered : (t : Handled S) (origin : Origin) (words : List ℕ) (a : PlainAnswer) → Same t (answering.answer_tell t origin words a) (told.answer_tell (outlined t) origin words a)
  tell_answered t origin words (Delegate to) = tell_does t to origin.priority words
  tell_answered t origin words (Value value) = record { goes = stay t; told = refl }
  tell_answered t origin words (Error sec) = record { goes = stay t; told = refl }
  tell_answered t origin words Hold = record { goes = stay t; told = refl }
  tell_answered t origin words Nothing = record { goes = stay t; told = refl }

  answer_does : (t : Handled S) (origin : Origin) (words : List ℕ) (a : PlainAnswer) → Same t (answering.answer t origin words a) (told.answer (outlined t) origin words a)
  answer_does t origin words a = go (is_asked origin) refl
    where
      go : (b : Bool) → is_asked origin ≡ b → Same t (answering.answer t origin words a) (told.answer (outlined t) origin words a)
      go true q = rw q (request_answered t (promised_to origin) words a)
      go false q = rw q (tell_answered t origin words a)

-- ---- a request that is resolved

left_awaits : (r : WaitingRequests) (number : ℕ) (o : Option (Waiting × List Waiting)) (found : Waiting × WaitingRequests) → r.awaited ≡ []
    → from_multiplexed r number o ≡ Some found → found.1.awaited ≡ r.awaited
left_awaits r number (Some p) found none q = sym (ap (λ (x : Option (Waiting × WaitingRequests)). awaited_in x) q)
  where
    awaited_in : Option (Waiting × WaitingRequests) → List Waiting
    awaited_in None = []
    awaited_in (Some x) = x.1.awaited
left_awaits r number None found none q =
    let nothing : from_multiplexed r number None ≡ None = rw none refl in
    let no : None ≡ Some found = sym nothing ∙ q in cc

-- the input of a response is its content or the error that it is of other types
pub response_comes : (comes : PlainInput → Bool) (words : List ℕ) (w : Waiting) → ((tag : ℕ) → (comes (Response tag words) ≡ true) × (comes (Failed tag UnexpectedResponse) ≡ true)) → comes (response_input w words) ≡ true
response_comes comes words w c = go (bytes_eq (ids_of w.expected) (ids_in words)) refl
  where
    go : (b : Bool) → bytes_eq (ids_of w.expected) (ids_in words) ≡ b → comes (response_input w words) ≡ true
    go true q = rw q (c w.tag).0
    go false q = rw q (c w.tag).1

-- ---- inputs

module _ {S : Type 0} (rules : Rules S) (comes : PlainInput → Bool) where
  next_steady : (b : S) (i : PlainInput) → comes i ≡ true → IsSteadyBehavior rules comes b → IsSteadyBehavior rules comes (rules.next b i)
  next_steady b i c is more all = is (i ∷ more) (c, all)

  react_does : (t : Handled S) (i : PlainInput) → comes i ≡ true → IsSteadyBehavior rules comes t.snapshot.behavior
      → Does (rules.next t.snapshot.behavior i) t (reacting.react rules t i) (reading.react rules (outlined t) i)
  react_does t i c is =
      let moved : Handled S = with_snapshot t (record t.snapshot { behavior = rules.next t.snapshot.behavior i }) in
      let sent = outputs_do (rules.next t.snapshot.behavior i) moved (rules.reaction t.snapshot.behavior i).outputs refl ((is [] tt).outputs i c) in
      record { goes = record { behavior_is = sent.goes.behavior_is; begun = sent.goes.begun; here = sent.goes.here; awaits = sent.goes.awaits; listed = sent.goes.listed }; told = sent.told }

  -- it goes on, steady, as it is told
  pub record GoesOn (t u : Handled S) (o : Outlined S) : Type 0 where
    pub steady : IsSteady rules comes u.snapshot
    pub listed : u.snapshot.caches ≡ t.snapshot.caches
    pub told : outlined u ≡ o

  goes_on : (b : S) (t u : Handled S) (o : Outlined S) → IsSteady rules comes t.snapshot → IsSteadyBehavior rules comes b → Does b t u o → GoesOn t u o
  goes_on b t u o h is d = record {
    steady = record {
      behavior = subst (IsSteadyBehavior rules comes) (sym d.goes.behavior_is) is;
      begun = d.goes.begun ∙ h.begun;
      here = d.goes.here ∙ h.here;
      awaits = d.goes.awaits ∙ h.awaits;
    };
    listed = d.goes.listed;
    told = d.told;
  }

  no_change : (t : Handled S) → IsSteady rules comes t.snapshot → GoesOn t t (outlined t)
  no_change t h = record { steady = h; listed = refl; told = refl }

  give_goes : (t : Handled S) (i : PlainInput) → comes i ≡ true → IsSteady rules comes t.snapshot → GoesOn t (reacting.give rules t i) (reading.react rules (outlined t) i)
  give_goes t i c h =
      let stays : (rules.reaction t.snapshot.behavior i).quit ≡ None = (h.behavior [] tt).stays i c in
      rw stays (goes_on (rules.next t.snapshot.behavior i) t (reacting.react rules t i) (reading.react rules (outlined t) i) h (next_steady t.snapshot.behavior i c h.behavior) (react_does t i c h.behavior))

  content_goes : (t : Handled S) (origin : Origin) (words : List ℕ) → comes (Content origin words) ≡ true → IsSteady rules comes t.snapshot
      → GoesOn t (handling.handle_content rules t origin words) (reading.content rules (outlined t) origin words)
  content_goes t origin words c h = go (is_input (rules.interface t.snapshot.behavior) (ids_in words)) refl
    where
      i : PlainInput
      i = Content origin words

      go : (b : Bool) → is_input (rules.interface t.snapshot.behavior) (ids_in words) ≡ b
          → GoesOn t (handling.handle_content rules t origin words) (reading.content rules (outlined t) origin words)
      go true q =
          let stays : (rules.reaction t.snapshot.behavior i).quit ≡ None = (h.behavior [] tt).stays i c in
          let first = react_does t i c h.behavior in
          let later = answer_does (reacting.react rules t i) origin words (rules.reaction t.snapshot.behavior i).answer in
          let both : Does (rules.next t.snapshot.behavior i) t (answering.answer (reacting.react rules t i) origin words (rules.reaction t.snapshot.behavior i).answer)
          (told.answer (reading.react rules (outlined t) i) origin words (rules.reaction t.snapshot.behavior i).answer) =
          on (rules.next t.snapshot.behavior i) (rules.next t.snapshot.behavior i) t (reacting.react rules t i) _ _ first.goes
          (record {
            goes = record { behavior_is = later.goes.behavior_is ∙ first.goes.behavior_is; begun = later.goes.begun; here = later.goes.here; awaits = later.goes.awaits; listed = later.goes.listed };
            told = later.told ∙ ap (λ (o : Outlined S). told.answer o origin words (rules.reaction t.snapshot.behavior i).answer) first.told;
          }) in
          rw (q, stays) (goes_on (rules.next t.snapshot.behavior i) t _ _ h (next_steady t.snapshot.behavior i c h.behavior) both)
      go false q = rw q (goes_on t.snapshot.behavior t _ _ h h.behavior (refuse_does t origin UnexpectedMessage))

  response_goes : (t : Handled S) (number : ℕ) (input : Waiting → PlainInput) → ((w : Waiting) → comes (input w) ≡ true) → IsSteady rules comes t.snapshot
      → (found : Option (Waiting × WaitingRequests)) → resolved t.snapshot.pending number ≡ found
      → GoesOn t (resolve_with rules t input found) (reading.resolve rules (outlined t) input found)
  response_goes t number input c h None q = no_change t h
  response_goes t number input c h (Some found) q =
      let awaits : found.1.awaited ≡ t.snapshot.pending.awaited = left_awaits t.snapshot.pending number (pick (has_number number) t.snapshot.pending.multiplexed) found h.awaits q in
      let moved : Handled S = with_snapshot t (record t.snapshot { pending = found.1 }) in
      let given = give_goes moved (input found.0) (c found.0) (record { behavior = h.behavior; begun = h.begun; here = h.here; awaits = awaits ∙ h.awaits }) in
      record { steady = given.steady; listed = given.listed; told = given.told }

  body_goes : (t : Handled S) (origin : Origin) (body : Plain) → BodyBrings comes origin body → IsSteady rules comes t.snapshot
      → GoesOn t (handling.handle_body rules t origin body) (reading.read_body rules (outlined t) origin body)
  body_goes t origin («plain».System notice.Start) c h = give_goes t Start c h
  body_goes t origin («plain».System notice.Stop) c h = give_goes t Stop c h
  body_goes t origin («plain».System (notice.Exit from why)) c h = absurd c
  body_goes t origin («plain».System (notice.Link from)) c h = absurd c
  body_goes t origin («plain».System (notice.Unlink from)) c h = absurd c
  body_goes t origin («plain».System (notice.Watch from)) c h = absurd c
  body_goes t origin («plain».System (notice.Unwatch from)) c h = absurd c
  body_goes t origin («plain».System (notice.Down from why)) c h = absurd c
  body_goes t origin («plain».System (notice.Begin from)) c h = absurd c
  body_goes t origin («plain».System (notice.Tick from)) c h = absurd c
  body_goes t origin («plain».Failure sec) c h =
      response_goes t origin.mid.number (λ w. failure_input w sec) (λ w. c w.tag) h (resolved t.snapshot.pending origin.mid.number) refl
  body_goes t origin («plain».Content words) c h = go origin.mid.response c
    where
      go : (b : Bool) → ContentBrings comes b origin words
          → GoesOn t (if b then handling.handle_response rules t origin.mid.number (λ w. response_input w words) else handling.handle_content rules t origin words)
          (if b then reading.response rules (outlined t) origin.mid.number (λ w. response_input w words) else reading.content rules (outlined t) origin words)
      go true c = response_goes t origin.mid.number (λ w. response_input w words) (λ w. response_comes comes words w c) h (resolved t.snapshot.pending origin.mid.number) refl
      go false c = content_goes t origin words c h

  pub one_goes : (t : Handled S) (e : Taken) → Brings comes e → IsSteady rules comes t.snapshot → GoesOn t (handle_one rules t e) (reading.read_one rules (outlined t) e)
  one_goes t e c h =
      subst (λ (quit : Option Reason). GoesOn t (handle_where rules t quit (origin_of e) e.body) (reading.read_one rules (outlined t) e)) (sym h.here)
      (body_goes t (origin_of e) e.body c h)

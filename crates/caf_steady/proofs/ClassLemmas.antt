-- What each place takes, where what each sends is what may come to others.
use Rattle.std.proofs.Common.{◌≡◌, ℕ, ◌∙◌, ◌==◌, nat_le, Bool, true, false, List, [], ◌∷◌, Option, Some, None, refl, ap, sym, subst, if◌then◌else◌}
use Rattle.std.specs.List.{AllByRecursion}
use Rattle.caf_types.specs.Limits.{last_count}
use Rattle.caf_types.specs.declared.notice.Mid.{Mid}
use Rattle.caf_types.specs.declared.notice.Notice.TheVariants as notice
use Rattle.caf_types.specs.declared.notice.Priority.{Priority}
use Rattle.caf_types.specs.declared.sec.Sec.{Sec}
use Rattle.caf_types.specs.declared.shape.TypeId.{TypeId}
use Rattle.caf_message.specs.Lists.{pick}
use Rattle.caf_message.specs.Envelope.{no_request}
use Rattle.caf_message.specs.declared.envelope.Plain.{Plain}
use Rattle.caf_message.specs.declared.envelope.Plain.TheVariants as «plain»
use Rattle.caf_message.specs.declared.envelope.Taken.{Taken}
use Rattle.caf_mailbox.proofs.NextLemmas.{all_append}
use Rattle.caf_response.specs.declared.pending.Mode.TheVariants.{Awaited, Multiplexed}
use Rattle.caf_response.specs.declared.pending.Waiting.{Waiting}
use Rattle.caf_response.specs.Pending.{WaitingRequests, resolved}
use Rattle.caf_response.specs.Promised.{Promised}
use Rattle.caf_response.specs.Holds.{is_of, take_hold}
use Rattle.caf_actor.specs.declared.origin.Origin.{Origin}
use Rattle.caf_actor.specs.Answering.{origin_of, is_asked, promised_to}
use Rattle.caf_actor.specs.Handling.{response_input, failure_input}
use Rattle.caf_actor.specs.PlainInput.{PlainInput, Start, Stop, Content}
use Rattle.caf_actor.specs.PlainOutput.{PlainOutput, Tell, TellMany, Request, Exit, Link, Unlink, Watch, Unwatch, Deliver, Break, Spawn, Tick, Delay, Within}
use Rattle.caf_actor.specs.PlainReaction.{PlainAnswer, Value, Error, Delegate, Hold, Nothing}
use Rattle.caf_actor.specs.Rules.{Rules, fed}
use Rattle.caf_actor.specs.Sending.{mid_of}
use Rattle.caf_record.proofs.ListLemmas.{all_map}
use Rattle.caf_carriers.proofs.CountLemmas.{same_number}
use Rattle.caf_steady.proofs.OutlineLemmas.{response_comes}
use Rattle.caf_steady.specs.Outline.{Outlined, Bare, with_outline, send, tell, tell_many, reply, request, settle_hold, send_output, send_outputs, answer_request, answer_tell, answer}
use Rattle.caf_steady.specs.Reading.{react, content, resolve, response, read_body, read_one, read}
use Rattle.caf_steady.specs.Steady.{ContentBrings, BodyBrings, Brings, IsSteadyOutput, IsSteadyBehavior}
use Rattle.caf_steady.specs.Classes.{origin_from, MayTell, MayAnswer, MayFail, MaySend, MayReply, AlwaysKeeps}

-- the first that passes does pass
picked_passes : {A : Type 0} (test : A → Bool) (xs : List A) (p : A × List A) → pick test xs ≡ Some p → test p.0 ≡ true
picked_passes test [] p q = cc
picked_passes {A} test (x ∷ xs) p q = go (picked_passes test xs) (test x) refl (pick test xs) refl
  where
    go : ((r : A × List A) → pick test xs ≡ Some r → test r.0 ≡ true) → (b : Bool) → test x ≡ b → (o : Option (A × List A)) → pick test xs ≡ o → test p.0 ≡ true
    go later true e o r = let here : ◌≡◌ {A = Option (A × List A)} (Some (x, xs)) (Some p) = rw e at q in let is : (x, xs) ≡ p = cc in ap (λ (t : A × List A). test t.0) (sym is) ∙ e
    go later false e (Some o) r =
        let here : ◌≡◌ {A = Option (A × List A)} (Some (o.0, x ∷ o.1)) (Some p) = rw (e, r) at q in
        let is : (o.0, x ∷ o.1) ≡ p = cc in
        ap (λ (t : A × List A). test t.0) (sym is) ∙ later o r
    go later false e None r = let here : ◌≡◌ {A = Option (A × List A)} None (Some p) = rw (e, r) at q in cc

module _ (comes : ℕ → PlainInput → Bool) where
  -- the place that it goes to may get it
  abbrev pub Arrives : Bare → Type 0
  Arrives b = BodyBrings (comes b.to) (origin_from b.sender b.mid b.priority) b.body

  module _ {S : Type 0} (place : ℕ) (b : S) where
    -- an outline of the place with that behaviour, whose sendings may come where they go
    pub record IsSending (o : Outlined S) : Type 0 where
      pub at : o.outline.place ≡ place
      pub is : o.outline.behavior ≡ b
      pub arrive : AllByRecursion Arrives o.sent

    send_is : (o : Outlined S) (to : ℕ) (mid : Mid) (priority : Priority) (body : Plain) → BodyBrings (comes to) (origin_from place mid priority) body → IsSending o → IsSending (send o to mid priority body)
    send_is o to mid priority body may h = record {
      at = h.at;
      is = h.is;
      arrive = all_append Arrives o.sent _ h.arrive (subst (λ (p : ℕ). BodyBrings (comes to) (origin_from p mid priority) body) (sym h.at) may, tt);
    }

    tell_is : (o : Outlined S) (to : ℕ) (priority : Priority) (words : List ℕ) → MayTell comes place priority words to → IsSending o → IsSending (tell o to priority words)
    tell_is o to priority words may h = send_is o to (no_request o.outline.place) priority («plain».Content words)
        (subst (λ (p : ℕ). comes to (Content (origin_from place (no_request p) priority) words) ≡ true) (sym h.at) may) h

    tell_many_is : (o : Outlined S) (places : List ℕ) (priority : Priority) (words : List ℕ) → AllByRecursion (MayTell comes place priority words) places → IsSending o
        → IsSending (tell_many o places priority words)
    tell_many_is o [] priority words may h = h
    tell_many_is o (to ∷ places) priority words may h = tell_many_is (tell o to priority words) places priority words may.1 (tell_is o to priority words may.0 h)

    value_is : (o : Outlined S) (p : Promised) (words : List ℕ) → MayAnswer comes p.mid.requester words → IsSending o → IsSending (reply o p («plain».Content words))
    value_is o p words may h = send_is o p.mid.requester _ p.priority («plain».Content words) may h

    error_is : (o : Outlined S) (p : Promised) (sec : Sec) → MayFail comes p.mid.requester sec → IsSending o → IsSending (reply o p («plain».Failure sec))
    error_is o p sec may h = send_is o p.mid.requester _ p.priority («plain».Failure sec) may h

    request_is : (o : Outlined S) (to : ℕ) (priority : Priority) (tag : ℕ) (expected : List TypeId) (words : List ℕ)
        → ((number : ℕ) → comes to (Content (origin_from place (mid_of place number) priority) words) ≡ true) → IsSending o → IsSending (request o to priority Multiplexed tag expected words)
    request_is o to priority tag expected words may h = go (nat_le o.outline.pending.next last_count) refl
      where
        go : (b : Bool) → nat_le o.outline.pending.next last_count ≡ b → IsSending (request o to priority Multiplexed tag expected words)
        go true q = rw q (send_is (with_outline o _) to (mid_of o.outline.place o.outline.pending.next) priority («plain».Content words)
            (subst (λ (p : ℕ). comes to (Content (origin_from place (mid_of p o.outline.pending.next) priority) words) ≡ true) (sym h.at) (may o.outline.pending.next))
            (record { at = h.at; is = h.is; arrive = h.arrive }))
        go false q = rw q h

    requester_is : (o : Outlined S) (requester number : ℕ) (found : Promised × List Promised) → take_hold o.outline.holds requester number ≡ Some found → found.0.mid.requester ≡ requester
    requester_is o requester number found q = same (found.0.mid.requester == requester) refl (picked_passes (is_of requester number) o.outline.holds found q)
      where
        same : (b : Bool) → (found.0.mid.requester == requester) ≡ b → is_of requester number found.0 ≡ true → found.0.mid.requester ≡ requester
        same true e h = same_number found.0.mid.requester requester e
        same false e h = let no : false ≡ true = rw e at h in cc

    deliver_is : (o : Outlined S) (requester number : ℕ) (words : List ℕ) → MayAnswer comes requester words → IsSending o
        → (found : Option (Promised × List Promised)) → take_hold o.outline.holds requester number ≡ found → IsSending (settle_hold o found («plain».Content words))
    deliver_is o requester number words may h None q = h
    deliver_is o requester number words may h (Some found) q =
        value_is (with_outline o (record o.outline { holds = found.1 })) found.0 words
        (subst (λ (r : ℕ). MayAnswer comes r words) (sym (requester_is o requester number found q)) may) (record { at = h.at; is = h.is; arrive = h.arrive })

    break_is : (o : Outlined S) (requester number : ℕ) (sec : Sec) → MayFail comes requester sec → IsSending o
        → (found : Option (Promised × List Promised)) → take_hold o.outline.holds requester number ≡ found → IsSending (settle_hold o found («plain».Failure sec))
    break_is o requester number sec may h None q = h
    break_is o requester number sec may h (Some found) q =
        error_is (with_outline o (record o.outline { holds = found.1 })) found.0 sec
        (subst (λ (r : ℕ). MayFail comes r sec) (sym (requester_is o requester number found q)) may) (record { at = h.at; is = h.is; arrive = h.arrive })

    output_is : (o : Outlined S) (one : PlainOutput) → MaySend comes place one → IsSending o → IsSending (send_output o one)
    output_is o (Tell to priority words) may h = tell_is o to priority words may h
    output_is o (TellMany places priority words) may h = tell_many_is o places priority words may h
    output_is o (Request to priority Multiplexed tag expected words) may h = request_is o to priority tag expected words may.1 h
    output_is o (Request to priority Awaited tag expected words) may h = let no = may.0 in cc
    output_is o (Deliver requester number words) may h = deliver_is o requester number words may h (take_hold o.outline.holds requester number) refl
    output_is o (Break requester number sec) may h = break_is o requester number sec may h (take_hold o.outline.holds requester number) refl
    output_is o (Exit to reason) may h = absurd may
    output_is o (Link to) may h = absurd may
    output_is o (Unlink to) may h = absurd may
    output_is o (Watch to) may h = absurd may
    output_is o (Unwatch to) may h = absurd may
    output_is o (Spawn p) may h = absurd may
    output_is o (Tick to) may h = absurd may
    output_is o (Delay ticks to priority words) may h = absurd may
    output_is o (Within ticks to priority mode tag expected words) may h = absurd may

    outputs_are : (o : Outlined S) (all : List PlainOutput) → AllByRecursion (MaySend comes place) all → IsSending o → IsSending (send_outputs o all)
    outputs_are o [] may h = h
    outputs_are o (one ∷ more) may h = outputs_are (send_output o one) more may.1 (output_is o one may.0 h)

    answer_is : (o : Outlined S) (origin : Origin) (words : List ℕ) (a : PlainAnswer) → MayReply comes place origin words a → IsSending o → IsSending (answer o origin words a)
    answer_is o origin words a may h = go (is_asked origin) refl
      where
        asked : (b : PlainAnswer) → is_asked origin ≡ true → MayReply comes place origin words b → IsSending (answer_request o (promised_to origin) words b)
        asked (Value value) q m = value_is o (promised_to origin) value (m q) h
        asked (Error sec) q m = error_is o (promised_to origin) sec (m q) h
        asked (Delegate to) q m = send_is o to origin.mid origin.priority («plain».Content words) (rw q at m) h
        asked Hold q m = record { at = h.at; is = h.is; arrive = h.arrive }
        asked Nothing q m = h

        told : (b : PlainAnswer) → is_asked origin ≡ false → MayReply comes place origin words b → IsSending (answer_tell o origin words b)
        told (Value value) q m = h
        told (Error sec) q m = h
        told (Delegate to) q m = tell_is o to origin.priority words (rw q at m) h
        told Hold q m = h
        told Nothing q m = h

        go : (b : Bool) → is_asked origin ≡ b → IsSending (answer o origin words a)
        go true q = rw q (asked a q may)
        go false q = rw q (told a q may)

  -- ---- inputs

  module _ {S : Type 0} (rules : Rules S) (place : ℕ) where
    -- it is of the place, keeps to the classes, and what it sent may come where it goes
    pub record Behaves (o : Outlined S) : Type 0 where
      pub at : o.outline.place ≡ place
      pub keeps : AlwaysKeeps comes rules place o.outline.behavior
      pub arrive : AllByRecursion Arrives o.sent

    next_keeps : (b : S) (i : PlainInput) → comes place i ≡ true → AlwaysKeeps comes rules place b → AlwaysKeeps comes rules place (rules.next b i)
    next_keeps b i c keeps more all = keeps (i ∷ more) (c, all)

    after_sending : (b : S) (o : Outlined S) → AlwaysKeeps comes rules place b → IsSending place b o → Behaves o
    after_sending b o keeps h = record { at = h.at; keeps = subst (AlwaysKeeps comes rules place) (sym h.is) keeps; arrive = h.arrive }

    reacts : (o : Outlined S) (i : PlainInput) → comes place i ≡ true → Behaves o → IsSending place (rules.next o.outline.behavior i) (react rules o i)
    reacts o i c h =
        outputs_are place (rules.next o.outline.behavior i) (with_outline o (record o.outline { behavior = rules.next o.outline.behavior i })) (rules.reaction o.outline.behavior i).outputs
        ((h.keeps [] tt).sends i c) (record { at = h.at; is = refl; arrive = h.arrive })

    react_behaves : (o : Outlined S) (i : PlainInput) → comes place i ≡ true → Behaves o → Behaves (react rules o i)
    react_behaves o i c h = after_sending (rules.next o.outline.behavior i) (react rules o i) (next_keeps o.outline.behavior i c h.keeps) (reacts o i c h)

    content_behaves : (o : Outlined S) (origin : Origin) (words : List ℕ) → comes place (Content origin words) ≡ true → Behaves o → Behaves (content rules o origin words)
    content_behaves o origin words c h =
        let i : PlainInput = Content origin words in
        let next : S = rules.next o.outline.behavior i in
        let a : PlainAnswer = (rules.reaction o.outline.behavior i).answer in
        rw ((h.keeps [] tt).takes i c) (after_sending next (answer (react rules o i) origin words a) (next_keeps o.outline.behavior i c h.keeps)
        (answer_is place next (react rules o i) origin words a ((h.keeps [] tt).replies i c) (reacts o i c h)))

    resolve_behaves : (o : Outlined S) (input : Waiting → PlainInput) → ((w : Waiting) → comes place (input w) ≡ true) → Behaves o → (found : Option (Waiting × WaitingRequests))
        → Behaves (resolve rules o input found)
    resolve_behaves o input c h None = h
    resolve_behaves o input c h (Some found) =
        react_behaves (with_outline o (record o.outline { pending = found.1 })) (input found.0) (c found.0) (record { at = h.at; keeps = h.keeps; arrive = h.arrive })

    body_behaves : (o : Outlined S) (origin : Origin) (body : Plain) → BodyBrings (comes place) origin body → Behaves o → Behaves (read_body rules o origin body)
    body_behaves o origin («plain».System notice.Start) c h = react_behaves o Start c h
    body_behaves o origin («plain».System notice.Stop) c h = react_behaves o Stop c h
    body_behaves o origin («plain».System (notice.Exit from why)) c h = absurd c
    body_behaves o origin («plain».System (notice.Link from)) c h = absurd c
    body_behaves o origin («plain».System (notice.Unlink from)) c h = absurd c
    body_behaves o origin («plain».System (notice.Watch from)) c h = absurd c
    body_behaves o origin («plain».System (notice.Unwatch from)) c h = absurd c
    body_behaves o origin («plain».System (notice.Down from why)) c h = absurd c
    body_behaves o origin («plain».System (notice.Begin from)) c h = absurd c
    body_behaves o origin («plain».System (notice.Tick from)) c h = absurd c
    body_behaves o origin («plain».Failure sec) c h =
        resolve_behaves o (λ w. failure_input w sec) (λ w. c w.tag) h (resolved o.outline.pending origin.mid.number)
    body_behaves o origin («plain».Content words) c h = go origin.mid.response c
      where
        go : (b : Bool) → ContentBrings (comes place) b origin words
            → Behaves (if b then response rules o origin.mid.number (λ w. response_input w words) else content rules o origin words)
        go true c = resolve_behaves o (λ w. response_input w words) (λ w. response_comes (comes place) words w c) h (resolved o.outline.pending origin.mid.number)
        go false c = content_behaves o origin words c h

    pub read_behaves : (o : Outlined S) (es : List Taken) → AllByRecursion (Brings (comes place)) es → Behaves o → Behaves (read rules o es)
    read_behaves o [] c h = h
    read_behaves o (e ∷ es) c h = read_behaves (read_one rules o e) es c.1 (body_behaves o (origin_of e) e.body c.0 h)

    -- ---- what keeps to the classes is steady

    pub steady_output : (o : PlainOutput) → MaySend comes place o → IsSteadyOutput o
    steady_output (Tell to priority words) may = tt
    steady_output (TellMany places priority words) may = tt
    steady_output (Request to priority mode tag expected words) may = may.0
    steady_output (Deliver requester number words) may = tt
    steady_output (Break requester number sec) may = tt
    steady_output (Exit to reason) may = tt
    steady_output (Link to) may = absurd may
    steady_output (Unlink to) may = absurd may
    steady_output (Watch to) may = absurd may
    steady_output (Unwatch to) may = absurd may
    steady_output (Spawn p) may = absurd may
    steady_output (Tick to) may = absurd may
    steady_output (Delay ticks to priority words) may = absurd may
    steady_output (Within ticks to priority mode tag expected words) may = absurd may

    pub steady_behavior : (b : S) → AlwaysKeeps comes rules place b → IsSteadyBehavior rules (comes place) b
    steady_behavior b keeps is all =
        let k = keeps is all in
        record { wants = k.wants; outputs = λ i c. all_map (MaySend comes place) IsSteadyOutput steady_output (rules.reaction (fed rules b is) i).outputs (k.sends i c); stays = k.stays }

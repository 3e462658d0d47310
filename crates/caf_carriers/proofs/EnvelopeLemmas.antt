-- One envelope makes no carrier of a request but by issuing it, and loses none but with the request that it resolves.
use Rattle.std.proofs.Common.{◌≡◌, ◌≢◌, ℕ, zero, suc, ◌+◌, ◌≤◌, ◌<◌, ◌∙◌, sym, ap, subst, ◌==◌, ◌&&◌, ◌||◌, nat_lt, Bool, true, false, if◌then◌else◌, List, [], ◌∷◌, ◌++◌, length, count_by, Option, Some, None, is_none, refl, arith, ◌⊎◌, inl, inr}
use Rattle.std.specs.List.{AllByRecursion}
use Rattle.std.proofs.lemmas.Bool.Decides.{nat_tests}
use Rattle.caf_types.specs.declared.notice.Mid.{Mid}
use Rattle.caf_types.specs.declared.notice.Notice.{Notice}
use Rattle.caf_types.specs.declared.notice.Notice.TheVariants as notice
use Rattle.caf_types.specs.declared.notice.Priority.{Priority}
use Rattle.caf_types.specs.declared.reason.Reason.{Reason}
use Rattle.caf_types.specs.declared.reason.Reason.TheVariants as reason
use Rattle.caf_types.specs.declared.sec.Sec.{Sec}
use Rattle.caf_types.specs.declared.sec.Sec.TheVariants as sec
use Rattle.caf_message.specs.declared.envelope.Taken.{Taken}
use Rattle.caf_message.specs.declared.envelope.Plain.{Plain}
use Rattle.caf_message.specs.declared.envelope.Plain.TheVariants as «plain»
use Rattle.caf_message.specs.Content.{ids_in}
use Rattle.caf_message.specs.Envelope.{no_request, is_content_body, is_response_body}
use Rattle.caf_mailbox.specs.Caches.{CachedLists}
use Rattle.caf_mailbox.proofs.NextLemmas.{AllCached, all_append}
use Rattle.caf_response.specs.declared.pending.Waiting.{Waiting}
use Rattle.caf_response.specs.Pending.{WaitingRequests, resolved, issued, issued_within, has_number, waiting_count, forgotten}
use Rattle.caf_response.specs.Delays.{PlainDelay, next_delay}
use Rattle.caf_response.specs.Promised.{Promised}
use Rattle.caf_response.specs.Promise.{response_mid}
use Rattle.caf_response.specs.Holds.{is_of, is_before, with_hold, take_hold}
use Rattle.caf_response.proofs.NumberLemmas.{picked}
use Rattle.caf_observe.specs.Places.{has_place, without_place}
use Rattle.caf_observe.specs.Observers.{with_link, without_link, farewell}
use Rattle.caf_actor.specs.declared.origin.Origin.{Origin}
use Rattle.caf_actor.specs.PlainInput.{PlainInput}
use Rattle.caf_actor.specs.PlainInput as input
use Rattle.caf_actor.specs.PlainOutput.{PlainOutput}
use Rattle.caf_actor.specs.PlainOutput as output
use Rattle.caf_actor.specs.PlainReaction.{PlainAnswer}
use Rattle.caf_actor.specs.PlainReaction as answered
use Rattle.caf_actor.specs.PlainPost.{PlainPost}
use Rattle.caf_actor.specs.Clock.{due_after}
use Rattle.caf_actor.specs.Rules.{Rules, is_input, AnswersRequests}
use Rattle.caf_actor.specs.Snapshot.{Handled, with_snapshot}
use Rattle.caf_actor.specs.Sending.{post, posting, tell, tell_many, notify, reply, mid_of, may_issue, settle_hold, send_output, send_outputs}
use Rattle.caf_actor.specs.Answering.{origin_of, is_asked, promised_to, refuse, answer_request, answer_tell, answer, with_held}
use Rattle.caf_actor.specs.Quitting.{shell_notice, handle_shell, shell_all, break_holds, all_cached, notify_all, emptied, quit_with, quit_where}
use Rattle.caf_actor.specs.Reacting.{react, give}
use Rattle.caf_actor.specs.Ticking.{timeout_input, time_out, next_due, expire_for, due_count, expire_all, send_delayed, deliver_for, deliver_all, advance, hear_tick, handle_tick}
use Rattle.caf_actor.specs.Handling.{handle_content, response_input, failure_input, resolve_with, leave_for, handle_exit, handle_notice, handle_body, handle_where, handle_one}
use Rattle.caf_actor.specs.Resolutions.{Resolution, Answered, TimedOut, resolution_where, expire_resolves, tick_resolves, notice_resolves, body_resolves, resolves_where, resolves, is_answer, has_request, times_resolved, times_answered, given_between}
use Rattle.caf_actor.specs.Carriers.{is_mid, carries, carriers_at}
use Rattle.caf_carriers.specs.Home.{BelongsTo, IsHome, GoesHome}
use Rattle.caf_carriers.proofs.CountLemmas.{one, count-cons, count-append, count-last, count-put, when_own, own-plus, own-none, one_given, same_number}
use Rattle.caf_carriers.proofs.WaitingLemmas.{PutIn, put_issued, put_within, TookOut, took_number, took_expired, none_waits}

-- ---- tests

-- an envelope with this mid and body carries the request, by three facts about its mid
abbrev pub carries_by : Bool → Bool → Bool → Plain → Bool
carries_by response asked mine body = ((is_content_body response body && asked) || is_response_body response body) && mine

abbrev pub carries_as : ℕ → ℕ → Mid → Plain → Bool
carries_as a n mid body = carries_by mid.response (nat_lt 0 mid.number) (is_mid a n mid) body

-- ---- what is kept for request `n` of place `a` at place `p`

-- `own` says whether it is the requester's place; elsewhere `need` carriers are wanted, `rest` of them are at
-- other places; there were `made` carriers, `first` was the next number, and the request waited `before` times
module _ (a n p : ℕ) (own : Bool) (need rest made first before : ℕ) where
  abbrev pub waits_in : WaitingRequests → ℕ
  waits_in r = when_own own (waiting_count r n)

  abbrev pub issued_at : ℕ → ℕ
  issued_at next = when_own own (given_between first next n)

  abbrev pub in_posts : List PlainPost → ℕ
  in_posts ps = count_by (λ (q : PlainPost). carries a n q.envelope) ps

  abbrev pub carried : {S : Type 0} → Handled S → ℕ
  carried t = carriers_at a n t.snapshot + in_posts t.posts

  -- `c` times a response resolved it, `d` times anything did, and `w` carriers are in hand
  pub record Stands (quit : Option Reason) (E : WaitingRequests → Type 0) (place : ℕ) (has : Option Reason) (caches : CachedLists) (posts : List PlainPost) (pending : WaitingRequests) (k c d w : ℕ) : Type 0 where
    pub at : place ≡ p
    pub quit_is : has ≡ quit
    pub home : AllCached (IsHome p) caches
    pub goes : AllByRecursion GoesHome posts
    pub ended : E pending
    pub low : first ≤ pending.next
    pub most : k + w + c ≤ made + issued_at pending.next
    pub cover : need + waits_in pending ≤ k + w + rest
    pub once : waits_in pending + d ≤ before + issued_at pending.next
    pub exact : has ≡ None → waits_in pending + d ≡ before + issued_at pending.next

  abbrev pub Inv : {S : Type 0} → Option Reason → (WaitingRequests → Type 0) → ℕ → ℕ → ℕ → Handled S → Type 0
  Inv quit E c d w t = Stands quit E t.snapshot.place t.snapshot.quit t.snapshot.caches t.posts t.snapshot.pending (carried t) c d w

  -- of an actor that hasn't quit nothing more is known; of one that has, nothing waits
  abbrev pub Any : WaitingRequests → Type 0
  Any r = Unit {0}

  abbrev pub Ended : WaitingRequests → Type 0
  Ended r = (waiting_count r n ≡ 0) × (r.due ≡ [])

  pub data Done {S : Type 0} (c d w : ℕ) (t : Handled S) : Type 0 where
    Live : Inv None Any c d w t → Done c d w t
    Gone : (why : Reason) → Inv (Some why) Ended c d w t → Done c d w t

  -- ---- posts

  -- carriers go from the hand into the snapshot or the posts
  shift : (quit : Option Reason) (E : WaitingRequests → Type 0) (place : ℕ) (has : Option Reason) (caches : CachedLists) (posts : List PlainPost) (posts' : List PlainPost) (pending : WaitingRequests) (c d k w k' w' : ℕ)
      → k' + w' ≡ k + w → AllByRecursion GoesHome posts' → Stands quit E place has caches posts pending k c d w → Stands quit E place has caches posts' pending k' c d w'
  shift quit E place has caches posts posts' pending c d k w k' w' e goes h =
      let most = h.most in
      let cover = h.cover in
      record { at = h.at; quit_is = h.quit_is; home = h.home; goes = goes; ended = h.ended; low = h.low; most = omega arith; cover = omega arith; once = h.once; exact = h.exact }

  on_post : {S : Type 0} (quit : Option Reason) (E : WaitingRequests → Type 0) (c d w w' : ℕ) (t : Handled S) (to : ℕ) (mid : Mid) (priority : Priority) (body : Plain)
      → w' ≡ w + one (carries_as a n mid body) → BelongsTo to mid body → Inv quit E c d w' t → Inv quit E c d w (post t to mid priority body)
  on_post quit E c d w w' t to mid priority body e belongs h =
      let it : PlainPost = posting t.snapshot to mid priority body in
      let more : in_posts (t.posts ++ it ∷ []) ≡ in_posts t.posts + one (carries_as a n mid body) = count-last (λ (q : PlainPost). carries a n q.envelope) t.posts it in
      let same : carried (post t to mid priority body) + w ≡ carried t + w' = omega arith in
      shift quit E t.snapshot.place t.snapshot.quit t.snapshot.caches t.posts (t.posts ++ it ∷ []) t.snapshot.pending c d (carried t) w' (carried (post t to mid priority body)) w same
      (all_append GoesHome t.posts (it ∷ []) h.goes (belongs, tt)) h

  on_tell : {S : Type 0} (quit : Option Reason) (E : WaitingRequests → Type 0) (c d w : ℕ) (t : Handled S) (to : ℕ) (priority : Priority) (words : List ℕ) → Inv quit E c d w t → Inv quit E c d w (tell t to priority words)
  on_tell quit E c d w t to priority words h = on_post quit E c d w w t to (no_request t.snapshot.place) priority («plain».Content words) (omega arith) (λ e. cc) h

  on_tell_many : {S : Type 0} (quit : Option Reason) (E : WaitingRequests → Type 0) (c d w : ℕ) (t : Handled S) (places : List ℕ) (priority : Priority) (words : List ℕ) → Inv quit E c d w t → Inv quit E c d w (tell_many t places priority words)
  on_tell_many quit E c d w t [] priority words h = h
  on_tell_many quit E c d w t (to ∷ places) priority words h = on_tell_many quit E c d w (tell t to priority words) places priority words (on_tell quit E c d w t to priority words h)

  on_notify : {S : Type 0} (quit : Option Reason) (E : WaitingRequests → Type 0) (c d w : ℕ) (t : Handled S) (to : ℕ) (what : Notice) → Inv quit E c d w t → Inv quit E c d w (notify t to what)
  on_notify quit E c d w t to what h = on_post quit E c d w w t to (no_request t.snapshot.place) _ («plain».System what) (omega arith) (λ e. cc) h

  reply_carries : (mid : Mid) (body : Plain) → is_response_body true body ≡ true → carries_as a n (response_mid mid) body ≡ is_mid a n mid
  reply_carries mid («plain».Content words) e = refl
  reply_carries mid («plain».Failure what) e = refl
  reply_carries mid («plain».System what) e = cc

  on_reply : {S : Type 0} (quit : Option Reason) (E : WaitingRequests → Type 0) (c d w w' : ℕ) (t : Handled S) (it : Promised) (body : Plain)
      → is_response_body true body ≡ true → w' ≡ w + one (is_mid a n it.mid) → Inv quit E c d w' t → Inv quit E c d w (reply t it body)
  on_reply quit E c d w w' t it body answers e h =
      let same : one (carries_as a n (response_mid it.mid) body) ≡ one (is_mid a n it.mid) = ap one (reply_carries it.mid body answers) in
      on_post quit E c d w w' t it.mid.requester (response_mid it.mid) it.priority body (omega arith) (λ f. refl) h

  -- ---- holds

  on_settle : {S : Type 0} (quit : Option Reason) (E : WaitingRequests → Type 0) (c d w : ℕ) (t : Handled S) (requester number : ℕ) (body : Plain) → is_response_body true body ≡ true
      → (found : Option (Promised × List Promised)) → take_hold t.snapshot.holds requester number ≡ found → Inv quit E c d w t → Inv quit E c d w (settle_hold t found body)
  on_settle quit E c d w t requester number body answers None e h = h
  on_settle {S = S} quit E c d w t requester number body answers (Some found) e h =
      let both = picked (is_of requester number) (is_of a n) t.snapshot.holds found e in
      let less = both.1 in
      let u : Handled S = with_snapshot t (record t.snapshot { holds = found.1 }) in
      let same : carried u + (w + one (is_mid a n found.0.mid)) ≡ carried t + w = omega arith in
      on_reply quit E c d w (w + one (is_mid a n found.0.mid)) u found.0 body answers refl
      (shift quit E t.snapshot.place t.snapshot.quit t.snapshot.caches t.posts t.posts t.snapshot.pending c d (carried t) w (carried u) (w + one (is_mid a n found.0.mid)) same h.goes h)

  on_held : {S : Type 0} (quit : Option Reason) (E : WaitingRequests → Type 0) (c d w w' : ℕ) (t : Handled S) (it : Promised)
      → w' ≡ w + one (is_mid a n it.mid) → Inv quit E c d w' t → Inv quit E c d w (with_snapshot t (with_held t.snapshot it))
  on_held {S = S} quit E c d w w' t it e h =
      let more : count_by (is_of a n) (with_hold t.snapshot.holds it) ≡ one (is_of a n it) + count_by (is_of a n) t.snapshot.holds = count-put (is_of a n) is_before t.snapshot.holds it in
      let u : Handled S = with_snapshot t (with_held t.snapshot it) in
      let same : carried u + w ≡ carried t + w' = omega arith in
      shift quit E t.snapshot.place t.snapshot.quit t.snapshot.caches t.posts t.posts t.snapshot.pending c d (carried t) w' (carried u) w same h.goes h

  -- the hand is emptied where nothing waits
  drop_it : (quit : Option Reason) (E : WaitingRequests → Type 0) (place : ℕ) (has : Option Reason) (caches : CachedLists) (posts : List PlainPost) (pending : WaitingRequests) (k c d w w' x : ℕ)
      → w' ≡ w + x → (x ≡ 0) ⊎ (need + waits_in pending ≡ 0) → Stands quit E place has caches posts pending k c d w' → Stands quit E place has caches posts pending k c d w
  drop_it quit E place has caches posts pending k c d w w' x e (inl none) h =
      let most = h.most in
      let cover = h.cover in
      record { at = h.at; quit_is = h.quit_is; home = h.home; goes = h.goes; ended = h.ended; low = h.low; most = omega arith; cover = omega arith; once = h.once; exact = h.exact }
  drop_it quit E place has caches posts pending k c d w w' x e (inr none) h =
      let most = h.most in
      record { at = h.at; quit_is = h.quit_is; home = h.home; goes = h.goes; ended = h.ended; low = h.low; most = omega arith; cover = omega arith; once = h.once; exact = h.exact }

  module _ (is_own : (p == a) ≡ own) (no_need : own ≡ true → need ≡ 0) (positive : own ≡ true → 0 < first) where
    -- ---- issuing

    asked_by_own : (b c e : Bool) → (b ≡ true → c ≡ true → e ≡ true) → one (((true && e) || false) && (b && c)) ≡ when_own b (one c)
    asked_by_own true true true some = refl
    asked_by_own true true false some = let no : false ≡ true = some refl refl in cc
    asked_by_own true false true some = refl
    asked_by_own true false false some = refl
    asked_by_own false true true some = refl
    asked_by_own false true false some = refl
    asked_by_own false false true some = refl
    asked_by_own false false false some = refl

    above_zero : (k : ℕ) → 0 < k → nat_lt 0 k ≡ true
    above_zero k h = grind (arith, nat_tests)

    request_carries : (place next : ℕ) (words : List ℕ) → place ≡ p → first ≤ next → one (carries_as a n (mid_of place next) («plain».Content words)) ≡ when_own own (one (next == n))
    request_carries place next words e low =
        let mine : (place == a) ≡ own = ap (λ (x : ℕ). x == a) e ∙ is_own in
        ap (λ (b : Bool). one (((true && nat_lt 0 next) || false) && (b && (next == n)))) mine ∙ asked_by_own own (next == n) (nat_lt 0 next) (λ q r. let some : 0 < first = positive q in above_zero next (omega arith))

    put_in_hand : (place : ℕ) (has : Option Reason) (caches : CachedLists) (posts : List PlainPost) (r more : WaitingRequests) (k c d w : ℕ)
        → PutIn n r more → Stands None Any place has caches posts r k c d w → Stands None Any place has caches posts more k c d (w + when_own own (one (r.next == n)))
    put_in_hand place has caches posts r more k c d w put h =
        let x : ℕ = when_own own (one (r.next == n)) in
        let waits : waits_in more ≡ waits_in r + x = ap (when_own own) put.count ∙ own-plus own (waiting_count r n) (one (r.next == n)) in
        let given : issued_at more.next ≡ issued_at r.next + x =
        ap (λ (m : ℕ). issued_at m) put.next ∙ ap (when_own own) (one_given first r.next n h.low) ∙ own-plus own (given_between first r.next n) (one (r.next == n)) in
        let next = put.next in
        let low = h.low in
        let most = h.most in
        let cover = h.cover in
        let once = h.once in
        record {
          at = h.at;
          quit_is = h.quit_is;
          home = h.home;
          goes = h.goes;
          ended = tt;
          low = omega arith;
          most = omega arith;
          cover = omega arith;
          once = omega arith;
          exact = λ q. let same = h.exact q in omega arith;
        }

    on_issued : {S : Type 0} (c d w : ℕ) (t : Handled S) (more : WaitingRequests) (to : ℕ) (priority : Priority) (words : List ℕ) → PutIn n t.snapshot.pending more → Inv None Any c d w t
        → Inv None Any c d w (post (with_snapshot t (record t.snapshot { pending = more })) to (mid_of t.snapshot.place t.snapshot.pending.next) priority («plain».Content words))
    on_issued {S = S} c d w t more to priority words put h =
        let x : ℕ = when_own own (one (t.snapshot.pending.next == n)) in
        let u : Handled S = with_snapshot t (record t.snapshot { pending = more }) in
        let weighs = request_carries t.snapshot.place t.snapshot.pending.next words h.at h.low in
        on_post None Any c d w (w + x) u to (mid_of t.snapshot.place t.snapshot.pending.next) priority («plain».Content words) (omega arith) (λ e. cc)
        (put_in_hand t.snapshot.place t.snapshot.quit t.snapshot.caches t.posts t.snapshot.pending more (carried t) c d w put h)

    -- ---- outputs

    on_if : {S : Type 0} (c d w : ℕ) (b : Bool) (t u : Handled S) → Inv None Any c d w t → Inv None Any c d w u → Inv None Any c d w (if b then t else u)
    on_if c d w true t u h k = h
    on_if c d w false t u h k = k

    on_output : {S : Type 0} (c d w : ℕ) (t : Handled S) (o : PlainOutput) → Inv None Any c d w t → Inv None Any c d w (send_output t o)
    on_output c d w t (output.Tell to priority words) h = on_tell None Any c d w t to priority words h
    on_output c d w t (output.TellMany places priority words) h = on_tell_many None Any c d w t places priority words h
    on_output c d w t (output.Request to priority mode tag expected words) h =
        on_if c d w (may_issue t.snapshot) _ _
        (on_issued c d w t (issued t.snapshot.pending mode tag expected) to priority words (put_issued n t.snapshot.pending mode tag expected) h) h
    on_output c d w t (output.Exit to why) h = on_notify None Any c d w t to _ h
    on_output c d w t (output.Link to) h =
        on_if c d w (to == t.snapshot.place) _ _ h
        (on_notify None Any c d w (with_snapshot t (record t.snapshot { observers = with_link t.snapshot.observers to })) to _ h)
    on_output c d w t (output.Unlink to) h = on_notify None Any c d w (with_snapshot t (record t.snapshot { observers = without_link t.snapshot.observers to })) to _ h
    on_output c d w t (output.Watch to) h = on_if c d w (to == t.snapshot.place) _ _ h (on_notify None Any c d w t to _ h)
    on_output c d w t (output.Unwatch to) h = on_notify None Any c d w t to _ h
    on_output c d w t (output.Deliver requester number words) h = on_settle None Any c d w t requester number («plain».Content words) refl (take_hold t.snapshot.holds requester number) refl h
    on_output c d w t (output.Break requester number what) h = on_settle None Any c d w t requester number («plain».Failure what) refl (take_hold t.snapshot.holds requester number) refl h
    on_output c d w t (output.Spawn place) h =
        on_if c d w (has_place t.snapshot.unstarted place) _ _
        (on_notify None Any c d w (with_snapshot t (record t.snapshot { unstarted = without_place t.snapshot.unstarted place })) place _ h) h
    on_output c d w t (output.Tick to) h = on_notify None Any c d w t to _ h
    on_output c d w t (output.Delay ticks to priority words) h = h
    on_output c d w t (output.Within ticks to priority mode tag expected words) h =
        on_if c d w (may_issue t.snapshot) _ _
        (on_issued c d w t (issued_within t.snapshot.pending mode tag expected (due_after t.snapshot.clock ticks)) to priority words (put_within n t.snapshot.pending mode tag expected (due_after t.snapshot.clock ticks)) h) h

    on_outputs : {S : Type 0} (c d w : ℕ) (t : Handled S) (os : List PlainOutput) → Inv None Any c d w t → Inv None Any c d w (send_outputs t os)
    on_outputs c d w t [] h = h
    on_outputs c d w t (o ∷ os) h = on_outputs c d w (send_output t o) os (on_output c d w t o h)

    -- ---- refusing and dropping

    asked_carries : (mid : Mid) (words : List ℕ) (b : Bool) → mid.response ≡ false → nat_lt 0 mid.number ≡ b → carries_as a n mid («plain».Content words) ≡ (b && is_mid a n mid)
    asked_carries mid words b r q =
        ap (λ (x : Bool). carries_by x (nat_lt 0 mid.number) (is_mid a n mid) («plain».Content words)) r
        ∙ ap (λ (x : Bool). carries_by false x (is_mid a n mid) («plain».Content words)) q
        ∙ go b
      where
        go : (b : Bool) → carries_by false b (is_mid a n mid) («plain».Content words) ≡ (b && is_mid a n mid)
        go true = refl
        go false = refl

    on_refuse : {S : Type 0} (quit : Option Reason) (E : WaitingRequests → Type 0) (c d w w' : ℕ) (t : Handled S) (origin : Origin) (what : Sec) (words : List ℕ)
        → origin.mid.response ≡ false → w' ≡ w + one (carries_as a n origin.mid («plain».Content words)) → Inv quit E c d w' t → Inv quit E c d w (refuse t origin what)
    on_refuse quit E c d w w' t origin what words r e h = go (is_asked origin) refl
      where
        go : (b : Bool) → is_asked origin ≡ b → Inv quit E c d w (refuse t origin what)
        go true q =
            let same : one (carries_as a n origin.mid («plain».Content words)) ≡ one (is_mid a n origin.mid) = ap one (asked_carries origin.mid words true r q) in
            rw q (on_reply quit E c d w w' t (promised_to origin) («plain».Failure what) refl (omega arith) h)
        go false q =
            let none : one (carries_as a n origin.mid («plain».Content words)) ≡ 0 = ap one (asked_carries origin.mid words false r q) in
            rw q (drop_it quit E t.snapshot.place t.snapshot.quit t.snapshot.caches t.posts t.snapshot.pending (carried t) c d w w' (one (carries_as a n origin.mid («plain».Content words))) e (inl none) h)

    -- a response to place `p`
    response_carries : (mid : Mid) → mid.requester ≡ p → one (is_mid a n mid) ≡ when_own own (one (mid.number == n))
    response_carries mid e =
        let mine : (mid.requester == a) ≡ own = ap (λ (x : ℕ). x == a) e ∙ is_own in
        ap (λ (b : Bool). one (b && (mid.number == n))) mine ∙ go own
      where
        go : (b : Bool) → one (b && (mid.number == n)) ≡ when_own b (one (mid.number == n))
        go true = refl
        go false = refl

    -- where nothing waits, a response may be dropped
    may_drop : (r : WaitingRequests) (x : ℕ) → waiting_count r n ≡ 0 → (when_own own x ≡ 0) ⊎ (need + waits_in r ≡ 0)
    may_drop r x none = go own refl
      where
        go : (b : Bool) → own ≡ b → (when_own own x ≡ 0) ⊎ (need + waits_in r ≡ 0)
        go true q =
            let zero_need : need ≡ 0 = no_need q in
            let zero_waits : waits_in r ≡ 0 = ap (when_own own) none ∙ own-none own in
            inr (omega arith)
        go false q = inl (ap (λ (b : Bool). when_own b x) q)

    -- ---- the shell

    on_shell_notice : {S : Type 0} (quit : Option Reason) (E : WaitingRequests → Type 0) (c d w : ℕ) (t : Handled S) (why : Reason) (m : Notice) → Inv quit E c d w t → Inv quit E c d w (shell_notice t why m)
    on_shell_notice quit E c d w t why notice.Start h = h
    on_shell_notice quit E c d w t why notice.Stop h = h
    on_shell_notice quit E c d w t why (notice.Exit from reason) h = h
    on_shell_notice quit E c d w t why (notice.Link from) h = on_notify quit E c d w t from _ h
    on_shell_notice quit E c d w t why (notice.Unlink from) h = h
    on_shell_notice quit E c d w t why (notice.Watch from) h = on_notify quit E c d w t from _ h
    on_shell_notice quit E c d w t why (notice.Unwatch from) h = h
    on_shell_notice quit E c d w t why (notice.Down from reason) h = h
    on_shell_notice quit E c d w t why (notice.Begin from) h = h
    on_shell_notice quit E c d w t why (notice.Tick from) h = h

    -- a response in hand
    drop_response : {S : Type 0} (quit : Option Reason) (c d w w' : ℕ) (t : Handled S) (mid : Mid) (b : Bool) → mid.requester ≡ p → b ≡ is_mid a n mid → w' ≡ w + one b
        → Inv quit Ended c d w' t → Inv quit Ended c d w t
    drop_response quit c d w w' t mid b own_request same e h =
        let weighs : one b ≡ when_own own (one (mid.number == n)) = ap one same ∙ response_carries mid own_request in
        drop_it quit Ended t.snapshot.place t.snapshot.quit t.snapshot.caches t.posts t.snapshot.pending (carried t) c d w w' (when_own own (one (mid.number == n))) (omega arith)
        (may_drop t.snapshot.pending (one (mid.number == n)) h.ended.0) h

    on_shell : {S : Type 0} (quit : Option Reason) (c d w w' : ℕ) (t : Handled S) (why : Reason) (origin : Origin) (body : Plain)
        → w' ≡ w + one (carries_as a n origin.mid body) → BelongsTo p origin.mid body → Inv quit Ended c d w' t → Inv quit Ended c d w (handle_shell t why origin body)
    on_shell quit c d w w' t why origin («plain».Failure what) e belongs h =
        let same : carries_as a n origin.mid («plain».Failure what) ≡ is_mid a n origin.mid = refl in
        drop_response quit c d w w' t origin.mid (carries_as a n origin.mid («plain».Failure what)) (belongs refl) same e h
    on_shell quit c d w w' t why origin («plain».System what) e belongs h =
        on_shell_notice quit Ended c d w t why what
        (drop_it quit Ended t.snapshot.place t.snapshot.quit t.snapshot.caches t.posts t.snapshot.pending (carried t) c d w w' 0 (omega arith) (inl refl) h)
    on_shell quit c d w w' t why origin («plain».Content words) e belongs h = go origin.mid.response refl
      where
        response_is : origin.mid.response ≡ true → carries_as a n origin.mid («plain».Content words) ≡ is_mid a n origin.mid
        response_is r = ap (λ (x : Bool). carries_by x (nat_lt 0 origin.mid.number) (is_mid a n origin.mid) («plain».Content words)) r

        go : (b : Bool) → origin.mid.response ≡ b → Inv quit Ended c d w (handle_shell t why origin («plain».Content words))
        go true r =
            subst (λ (x : Bool). Inv quit Ended c d w (if x then t else refuse t origin sec.RequestReceiverDown)) (sym r)
            (drop_response quit c d w w' t origin.mid (carries_as a n origin.mid («plain».Content words)) (belongs r) (response_is r) e h)
        go false r =
            subst (λ (x : Bool). Inv quit Ended c d w (if x then t else refuse t origin sec.RequestReceiverDown)) (sym r)
            (on_refuse quit Ended c d w w' t origin sec.RequestReceiverDown words r e h)

    on_shell_all : {S : Type 0} (quit : Option Reason) (c d w w' : ℕ) (t : Handled S) (why : Reason) (es : List Taken)
        → w' ≡ w + count_by (carries a n) es → AllByRecursion (IsHome p) es → Inv quit Ended c d w' t → Inv quit Ended c d w (shell_all t why es)
    on_shell_all quit c d w w' t why [] e home h =
        drop_it quit Ended t.snapshot.place t.snapshot.quit t.snapshot.caches t.posts t.snapshot.pending (carried t) c d w w' 0 e (inl refl) h
    on_shell_all quit c d w w' t why (x ∷ es) e home h =
        let all = count-cons (carries a n) x es in
        on_shell_all quit c d w (w + count_by (carries a n) es) (handle_shell t why (origin_of x) x.body) why es refl home.1
        (on_shell quit c d (w + count_by (carries a n) es) w' t why (origin_of x) x.body (omega arith) home.0 h)

    -- ---- quitting

    on_breaks : {S : Type 0} (quit : Option Reason) (c d w w' : ℕ) (t : Handled S) (ps : List Promised) → w' ≡ w + count_by (is_of a n) ps → Inv quit Ended c d w' t → Inv quit Ended c d w (break_holds t ps)
    on_breaks quit c d w w' t [] e h =
        drop_it quit Ended t.snapshot.place t.snapshot.quit t.snapshot.caches t.posts t.snapshot.pending (carried t) c d w w' 0 e (inl refl) h
    on_breaks quit c d w w' t (it ∷ ps) e h =
        let all = count-cons (is_of a n) it ps in
        on_breaks quit c d w (w + count_by (is_of a n) ps) (reply t it («plain».Failure sec.BrokenPromise)) ps refl
        (on_reply quit Ended c d (w + count_by (is_of a n) ps) w' t it («plain».Failure sec.BrokenPromise) refl (omega arith) h)

    on_notify_all : {S : Type 0} (quit : Option Reason) (E : WaitingRequests → Type 0) (c d w : ℕ) (t : Handled S) (ns : List (ℕ × Notice)) → Inv quit E c d w t → Inv quit E c d w (notify_all t ns)
    on_notify_all quit E c d w t [] h = h
    on_notify_all quit E c d w t (m ∷ ns) h = on_notify_all quit E c d w (notify t m.0 m.1) ns (on_notify quit E c d w t m.0 m.1 h)

    on_quit_with : {S : Type 0} (c d w : ℕ) (t : Handled S) (why : Reason) → Inv None Any c d w t → Inv (Some why) Ended c d w (quit_with t why)
    on_quit_with {S = S} c d w t why h =
        let u : Handled S = with_snapshot t (emptied t.snapshot why) in
        let held = count_by (is_of a n) t.snapshot.holds in
        let listed = count_by (carries a n) (all_cached t.snapshot.caches) in
        let sum : listed ≡ count_by (carries a n) t.snapshot.caches.urgent + count_by (carries a n) t.snapshot.caches.normal = count-append (carries a n) t.snapshot.caches.urgent t.snapshot.caches.normal in
        let none : waits_in (forgotten t.snapshot.pending) ≡ 0 = own-none own in
        let most = h.most in
        let cover = h.cover in
        let once = h.once in
        let left : carried u ≡ in_posts t.posts = omega arith in
        let start : Inv (Some why) Ended c d (w + listed + held) u = record {
          at = h.at;
          quit_is = refl;
          home = (tt, tt);
          goes = h.goes;
          ended = (refl, refl);
          low = h.low;
          most = omega arith;
          cover = omega arith;
          once = omega arith;
          exact = λ q. cc;
        } in
        let broken : Handled S = break_holds u t.snapshot.holds in
        let all = all_append (IsHome p) t.snapshot.caches.urgent t.snapshot.caches.normal h.home.0 h.home.1 in
        let met : Handled S = shell_all broken why (all_cached t.snapshot.caches) in
        on_notify_all (Some why) Ended c d w met (farewell met.snapshot.observers met.snapshot.place why)
        (on_shell_all (Some why) c d w (w + listed) broken why (all_cached t.snapshot.caches) refl all
        (on_breaks (Some why) c d (w + listed) (w + listed + held) u t.snapshot.holds refl start))

    on_quit_where : {S : Type 0} (c d w : ℕ) (t : Handled S) (quit : Option Reason) → Inv None Any c d w t → Done c d w (quit_where t quit)
    on_quit_where c d w t None h = Live h
    on_quit_where c d w t (Some why) h = Gone why (on_quit_with c d w t why h)

    -- ---- reacting

    module _ {S : Type 0} (valid : S → Type 0) (rules : Rules S) (answers : AnswersRequests valid rules) where
      on_react : (c d w : ℕ) (t : Handled S) (i : PlainInput) → Inv None Any c d w t → Inv None Any c d w (react rules t i)
      on_react c d w t i h = on_outputs c d w (with_snapshot t (record t.snapshot { behavior = rules.next t.snapshot.behavior i })) (rules.reaction t.snapshot.behavior i).outputs h

      on_give : (c d w : ℕ) (t : Handled S) (i : PlainInput) → Inv None Any c d w t → Done c d w (give rules t i)
      on_give c d w t i h = on_quit_where c d w (react rules t i) (rules.reaction t.snapshot.behavior i).quit (on_react c d w t i h)

      on_answer_request : (c d w w' : ℕ) (t : Handled S) (it : Promised) (words : List ℕ) (given : PlainAnswer) → it.mid.response ≡ false → nat_lt 0 it.mid.number ≡ true → given ≢ answered.Nothing
          → w' ≡ w + one (is_mid a n it.mid) → Inv None Any c d w' t → Inv None Any c d w (answer_request t it words given)
      on_answer_request c d w w' t it words (answered.Value value) r asked some e h = on_reply None Any c d w w' t it («plain».Content value) refl e h
      on_answer_request c d w w' t it words (answered.Error what) r asked some e h = on_reply None Any c d w w' t it («plain».Failure what) refl e h
      on_answer_request c d w w' t it words (answered.Delegate to) r asked some e h =
          let same : one (carries_as a n it.mid («plain».Content words)) ≡ one (is_mid a n it.mid) = ap one (asked_carries it.mid words true r asked) in
          on_post None Any c d w w' t to it.mid it.priority («plain».Content words) (omega arith) (λ f. let no : true ≡ false = sym f ∙ r in cc) h
      on_answer_request c d w w' t it words answered.Hold r asked some e h = on_held None Any c d w w' t it e h
      on_answer_request c d w w' t it words answered.Nothing r asked some e h = absurd (some refl)

      on_answer_tell : (c d w : ℕ) (t : Handled S) (origin : Origin) (words : List ℕ) (given : PlainAnswer) → Inv None Any c d w t → Inv None Any c d w (answer_tell t origin words given)
      on_answer_tell c d w t origin words (answered.Value value) h = h
      on_answer_tell c d w t origin words (answered.Error what) h = h
      on_answer_tell c d w t origin words (answered.Delegate to) h = on_tell None Any c d w t to origin.priority words h
      on_answer_tell c d w t origin words answered.Hold h = h
      on_answer_tell c d w t origin words answered.Nothing h = h

      on_answer : (c d w w' : ℕ) (t : Handled S) (origin : Origin) (words : List ℕ) (given : PlainAnswer) → origin.mid.response ≡ false → (nat_lt 0 origin.mid.number ≡ true → given ≢ answered.Nothing)
          → w' ≡ w + one (carries_as a n origin.mid («plain».Content words)) → Inv None Any c d w' t → Inv None Any c d w (answer t origin words given)
      on_answer c d w w' t origin words given r some e h = go (is_asked origin) refl
        where
          go : (b : Bool) → is_asked origin ≡ b → Inv None Any c d w (answer t origin words given)
          go true q =
              let same : one (carries_as a n origin.mid («plain».Content words)) ≡ one (is_mid a n origin.mid) = ap one (asked_carries origin.mid words true r q) in
              rw q (on_answer_request c d w w' t (promised_to origin) words given r q (some q) (omega arith) h)
          go false q =
              let none : one (carries_as a n origin.mid («plain».Content words)) ≡ 0 = ap one (asked_carries origin.mid words false r q) in
              rw q (on_answer_tell c d w t origin words given
              (drop_it None Any t.snapshot.place t.snapshot.quit t.snapshot.caches t.posts t.snapshot.pending (carried t) c d w w' (one (carries_as a n origin.mid («plain».Content words))) e (inl none) h))

      on_content : (c d w w' : ℕ) (t : Handled S) (origin : Origin) (words : List ℕ) → valid t.snapshot.behavior → origin.mid.response ≡ false
          → w' ≡ w + one (carries_as a n origin.mid («plain».Content words)) → Inv None Any c d w' t → Done c d w (handle_content rules t origin words)
      on_content c d w w' t origin words v r e h = go (is_input (rules.interface t.snapshot.behavior) (ids_in words)) refl
        where
          go : (b : Bool) → is_input (rules.interface t.snapshot.behavior) (ids_in words) ≡ b → Done c d w (handle_content rules t origin words)
          go true q =
              let i : PlainInput = input.Content origin words in
              rw q (on_quit_where c d w (answer (react rules t i) origin words (rules.reaction t.snapshot.behavior i).answer) (rules.reaction t.snapshot.behavior i).quit
              (on_answer c d w w' (react rules t i) origin words (rules.reaction t.snapshot.behavior i).answer r
              (λ asked. answers t.snapshot.behavior origin words v q (grind (arith, nat_tests))) e (on_react c d w' t i h)))
          go false q = rw q (Live (on_refuse None Any c d w w' t origin sec.UnexpectedMessage words r e h))

      -- ---- what is resolved

      as_many : (c c' d d' w : ℕ) (t : Handled S) → c ≡ c' → d ≡ d' → Done c d w t → Done c' d' w t
      as_many c c' d d' w t e f h = subst (λ (x : ℕ). Done x d' w t) e (subst (λ (x : ℕ). Done c x w t) f h)

      -- counted on by these resolutions
      abbrev pub After : ℕ → ℕ → ℕ → List Resolution → Handled S → Type 0
      After c d w rs t = Done (c + when_own own (times_answered n rs)) (d + when_own own (times_resolved n rs)) w t

      pub after_none : (c d w : ℕ) (t : Handled S) → Done c d w t → After c d w [] t
      after_none c d w t h = let none = own-none own in as_many c (c + when_own own 0) d (d + when_own own 0) w t (omega arith) (omega arith) h

      -- a response takes its request out
      by_answer : (c d w w' : ℕ) (t : Handled S) (found : Waiting × WaitingRequests) → TookOut n t.snapshot.pending found → w' ≡ w + when_own own (one (has_number n found.0))
          → Inv None Any c d w' t
          → Inv None Any (c + when_own own (one (has_number n found.0))) (d + when_own own (one (has_number n found.0))) w (with_snapshot t (record t.snapshot { pending = found.1 }))
      by_answer c d w w' t found took e h =
          let x : ℕ = when_own own (one (has_number n found.0)) in
          let waits : waits_in t.snapshot.pending ≡ x + waits_in found.1 = ap (when_own own) took.count ∙ own-plus own (one (has_number n found.0)) (waiting_count found.1 n) in
          let given : issued_at found.1.next ≡ issued_at t.snapshot.pending.next = ap (λ (m : ℕ). issued_at m) took.next in
          let next = took.next in
          let low = h.low in
          let most = h.most in
          let cover = h.cover in
          let once = h.once in
          record {
            at = h.at;
            quit_is = h.quit_is;
            home = h.home;
            goes = h.goes;
            ended = tt;
            low = omega arith;
            most = omega arith;
            cover = omega arith;
            once = omega arith;
            exact = λ q. let same = h.exact q in omega arith;
          }

      -- and so does a tick, with its carrier left
      by_time : (c d w : ℕ) (t : Handled S) (found : Waiting × WaitingRequests) → TookOut n t.snapshot.pending found → Inv None Any c d w t
          → Inv None Any c (d + when_own own (one (has_number n found.0))) w (with_snapshot t (record t.snapshot { pending = found.1 }))
      by_time c d w t found took h =
          let x : ℕ = when_own own (one (has_number n found.0)) in
          let waits : waits_in t.snapshot.pending ≡ x + waits_in found.1 = ap (when_own own) took.count ∙ own-plus own (one (has_number n found.0)) (waiting_count found.1 n) in
          let given : issued_at found.1.next ≡ issued_at t.snapshot.pending.next = ap (λ (m : ℕ). issued_at m) took.next in
          let next = took.next in
          let low = h.low in
          let most = h.most in
          let cover = h.cover in
          let once = h.once in
          record {
            at = h.at;
            quit_is = h.quit_is;
            home = h.home;
            goes = h.goes;
            ended = tt;
            low = omega arith;
            most = omega arith;
            cover = omega arith;
            once = omega arith;
            exact = λ q. let same = h.exact q in omega arith;
          }

      -- ---- a response

      on_response : (c d w w' : ℕ) (t : Handled S) (mid : Mid) (given : Waiting → PlainInput) → mid.requester ≡ p → w' ≡ w + one (is_mid a n mid) → Inv None Any c d w' t
          → (found : Option (Waiting × WaitingRequests)) → resolved t.snapshot.pending mid.number ≡ found → After c d w (resolution_where given found) (resolve_with rules t given found)
      on_response c d w w' t mid given own_request e h None q =
          let weighs = response_carries mid own_request in
          let x : ℕ = when_own own (one (mid.number == n)) in
          after_none c d w t (Live (drop_it None Any t.snapshot.place t.snapshot.quit t.snapshot.caches t.posts t.snapshot.pending (carried t) c d w w' x (omega arith) (go (mid.number == n) refl) h))
        where
          go : (b : Bool) → (mid.number == n) ≡ b → (when_own own (one (mid.number == n)) ≡ 0) ⊎ (need + waits_in t.snapshot.pending ≡ 0)
          go true f =
              let here : mid.number ≡ n = same_number mid.number n f in
              let none : waiting_count t.snapshot.pending n ≡ 0 = subst (λ (m : ℕ). waiting_count t.snapshot.pending m ≡ 0) here (none_waits t.snapshot.pending mid.number q) in
              may_drop t.snapshot.pending (one (mid.number == n)) none
          go false f = inl (ap (λ (b : Bool). when_own own (one b)) f ∙ own-none own)
      on_response c d w w' t mid given own_request e h (Some found) q =
          let took = took_number n t.snapshot.pending mid.number found q in
          let same : one (has_number n found.0) ≡ one (mid.number == n) = ap (λ (m : ℕ). one (m == n)) took.number_is in
          let x : ℕ = when_own own (one (has_number n found.0)) in
          let weighs : one (is_mid a n mid) ≡ x = response_carries mid own_request ∙ ap (when_own own) (sym same) in
          let r : Resolution = record { cause = Answered; request = found.0; given = given found.0 } in
          let u : Handled S = with_snapshot t (record t.snapshot { pending = found.1 }) in
          let last : Done (c + x) (d + x) w (give rules u (given found.0)) = on_give (c + x) (d + x) w u (given found.0) (by_answer c d w w' t found took.out (omega arith) h) in
          let answers_once : times_answered n (r ∷ []) ≡ one (has_number n found.0) = count-cons (λ (s : Resolution). is_answer s.cause && has_request n s) r [] ∙ (omega arith) in
          let resolves_once : times_resolved n (r ∷ []) ≡ one (has_number n found.0) = count-cons (has_request n) r [] ∙ (omega arith) in
          let c_is : x ≡ when_own own (times_answered n (r ∷ [])) = ap (when_own own) (sym answers_once) in
          let d_is : x ≡ when_own own (times_resolved n (r ∷ [])) = ap (when_own own) (sym resolves_once) in
          as_many (c + x) (c + when_own own (times_answered n (r ∷ []))) (d + x) (d + when_own own (times_resolved n (r ∷ []))) w (give rules u (given found.0)) (omega arith) (omega arith) last

      -- ---- a tick

      -- nothing is due for an actor that has quit
      not_due : (c d w : ℕ) (t : Handled S) (why : Reason) → Inv (Some why) Ended c d w t → next_due t.snapshot ≡ None
      not_due c d w t why h = rw h.ended.1 refl

      on_expire : (k c d w : ℕ) (t : Handled S) → Done c d w t → Done c (d + when_own own (times_resolved n (expire_resolves rules k t))) w (expire_for rules k t)
      on_expire zero c d w t h = let none = own-none own in as_many c c d (d + when_own own 0) w t refl (omega arith) h
      on_expire (suc k) c d w t (Gone why h) =
          let none = own-none own in
          rw (not_due c d w t why h) (as_many c c d (d + when_own own 0) w t refl (omega arith) (Gone why h))
      on_expire (suc k) c d w t (Live h) = go (on_expire k) (next_due t.snapshot) refl
        where
          go : ((c d w : ℕ) (u : Handled S) → Done c d w u → Done c (d + when_own own (times_resolved n (expire_resolves rules k u))) w (expire_for rules k u))
              → (r : Option (Waiting × WaitingRequests)) → next_due t.snapshot ≡ r → Done c (d + when_own own (times_resolved n (expire_resolves rules (suc k) t))) w (expire_for rules (suc k) t)
          go later None e = let none = own-none own in rw e (as_many c c d (d + when_own own 0) w t refl (omega arith) (Live h))
          go later (Some found) e =
              let x : ℕ = when_own own (one (has_number n found.0)) in
              let u : Handled S = with_snapshot t (record t.snapshot { pending = found.1 }) in
              let out = by_time c d w t found (took_expired n t.snapshot.pending t.snapshot.clock found e) h in
              let told : Done c (d + x) w (time_out rules t found) = on_give c (d + x) w u (timeout_input found.0) out in
              let rs = expire_resolves rules k (time_out rules t found) in
              let all = later c (d + x) w (time_out rules t found) told in
              let r : Resolution = record { cause = TimedOut; request = found.0; given = timeout_input found.0 } in
              let times : times_resolved n (r ∷ rs) ≡ one (has_number n found.0) + times_resolved n rs = count-cons (has_request n) r rs in
              let sum : when_own own (times_resolved n (r ∷ rs)) ≡ x + when_own own (times_resolved n rs) = ap (when_own own) times ∙ own-plus own (one (has_number n found.0)) (times_resolved n rs) in
              rw e (as_many c c (d + x + when_own own (times_resolved n rs)) (d + when_own own (times_resolved n (r ∷ rs))) w (expire_for rules k (time_out rules t found)) refl (omega arith) all)

      -- none of these is by a response
      none_answered : (k : ℕ) (t : Handled S) → times_answered n (expire_resolves rules k t) ≡ 0
      none_answered zero t = refl
      none_answered (suc k) t = go (none_answered k) (next_due t.snapshot) refl
        where
          go : ((u : Handled S) → times_answered n (expire_resolves rules k u) ≡ 0) → (r : Option (Waiting × WaitingRequests)) → next_due t.snapshot ≡ r → times_answered n (expire_resolves rules (suc k) t) ≡ 0
          go later None e = rw e refl
          go later (Some found) e =
              let rs = expire_resolves rules k (time_out rules t found) in
              let r : Resolution = record { cause = TimedOut; request = found.0; given = timeout_input found.0 } in
              let rest : times_answered n rs ≡ 0 = later (time_out rules t found) in
              let times : times_answered n (r ∷ rs) ≡ 0 + times_answered n rs = count-cons (λ (s : Resolution). is_answer s.cause && has_request n s) r rs in
              rw e (omega arith)

      on_deliver_for : (quit : Option Reason) (E : WaitingRequests → Type 0) (k c d w : ℕ) (t : Handled S) → Inv quit E c d w t → Inv quit E c d w (deliver_for k t)
      on_deliver_for quit E zero c d w t h = h
      on_deliver_for quit E (suc k) c d w t h = go (on_deliver_for quit E k c d w) (next_delay t.snapshot.delays t.snapshot.clock) refl
        where
          go : ((u : Handled S) → Inv quit E c d w u → Inv quit E c d w (deliver_for k u)) → (r : Option (PlainDelay × List PlainDelay)) → next_delay t.snapshot.delays t.snapshot.clock ≡ r
              → Inv quit E c d w (deliver_for (suc k) t)
          go later None e = rw e h
          go later (Some next) e =
              rw e (later (send_delayed t next) (on_tell quit E c d w (with_snapshot t (record t.snapshot { delays = next.1 })) next.0.to next.0.priority next.0.content h))

      on_hear : (c d w : ℕ) (t : Handled S) → Done c d w t → Done c d w (hear_tick rules t)
      on_hear c d w t (Gone why h) = go ((t.snapshot.place == 0) && is_none t.snapshot.quit) refl
        where
          wrong : (b : Bool) → (b && is_none t.snapshot.quit) ≡ true → ⊥
          wrong true e = let no : is_none t.snapshot.quit ≡ false = ap is_none h.quit_is in cc
          wrong false e = cc

          go : (b : Bool) → ((t.snapshot.place == 0) && is_none t.snapshot.quit) ≡ b → Done c d w (if b then give rules t input.Tick else t)
          go true e = absurd (wrong (t.snapshot.place == 0) e)
          go false e = Gone why h
      on_hear c d w t (Live h) = go ((t.snapshot.place == 0) && is_none t.snapshot.quit)
        where
          go : (b : Bool) → Done c d w (if b then give rules t input.Tick else t)
          go true = on_give c d w t input.Tick h
          go false = Live h

      on_deliver : (k c d w : ℕ) (t : Handled S) → Done c d w t → Done c d w (deliver_for k t)
      on_deliver k c d w t (Live h) = Live (on_deliver_for None Any k c d w t h)
      on_deliver k c d w t (Gone why h) = Gone why (on_deliver_for (Some why) Ended k c d w t h)

      on_tick : (c d w : ℕ) (t : Handled S) → Inv None Any c d w t → After c d w (tick_resolves rules (advance t)) (handle_tick rules t)
      on_tick c d w t h =
          let u : Handled S = advance t in
          let k = due_count u.snapshot in
          let expired : Handled S = expire_all rules u in
          let rs = tick_resolves rules u in
          let e : Done c (d + when_own own (times_resolved n rs)) w expired = on_expire k c d w u (Live h) in
          let done : Done c (d + when_own own (times_resolved n rs)) w (handle_tick rules t) =
          on_hear c (d + when_own own (times_resolved n rs)) w (deliver_all expired) (on_deliver (length expired.snapshot.delays) c (d + when_own own (times_resolved n rs)) w expired e) in
          let none : when_own own (times_answered n rs) ≡ 0 = ap (when_own own) (none_answered k u) ∙ own-none own in
          as_many c (c + when_own own (times_answered n rs)) (d + when_own own (times_resolved n rs)) (d + when_own own (times_resolved n rs)) w (handle_tick rules t) (omega arith) refl done

      -- ---- notices

      on_leave : (c d w : ℕ) (t : Handled S) (why : Reason) → Inv None Any c d w t → Done c d w (leave_for t why)
      on_leave c d w t reason.Normal h = Live h
      on_leave c d w t reason.UserShutdown h = Gone reason.UserShutdown (on_quit_with c d w t reason.UserShutdown h)
      on_leave c d w t reason.Kill h = Gone reason.Kill (on_quit_with c d w t reason.Kill h)
      on_leave c d w t reason.Failed h = Gone reason.Failed (on_quit_with c d w t reason.Failed h)

      on_exit : (c d w : ℕ) (t : Handled S) (from : ℕ) (why : Reason) → Inv None Any c d w t → Done c d w (handle_exit t from why)
      on_exit c d w t from why h = go (t.snapshot.place == 0)
        where
          go : (b : Bool) → Done c d w (if b then t else leave_for (with_snapshot t (record t.snapshot { observers = without_link t.snapshot.observers from })) why)
          go true = Live h
          go false = on_leave c d w (with_snapshot t (record t.snapshot { observers = without_link t.snapshot.observers from })) why h

      on_notice : (c d w : ℕ) (t : Handled S) (what : Notice) → Inv None Any c d w t → After c d w (notice_resolves rules t what) (handle_notice rules t what)
      on_notice c d w t notice.Start h = after_none c d w _ (on_give c d w t input.Start h)
      on_notice c d w t notice.Stop h = after_none c d w _ (on_give c d w t input.Stop h)
      on_notice c d w t (notice.Exit from why) h = after_none c d w _ (on_exit c d w t from why h)
      on_notice c d w t (notice.Link from) h = after_none c d w _ (Live h)
      on_notice c d w t (notice.Unlink from) h = after_none c d w _ (Live h)
      on_notice c d w t (notice.Watch from) h = after_none c d w _ (Live h)
      on_notice c d w t (notice.Unwatch from) h = after_none c d w _ (Live h)
      on_notice c d w t (notice.Down from why) h = after_none c d w _ (on_give c d w t (input.Down from why) h)
      on_notice c d w t (notice.Begin from) h = after_none c d w _ (Live h)
      on_notice c d w t (notice.Tick from) h = on_tick c d w t h

      -- ---- one envelope

      on_body : (c d w w' : ℕ) (t : Handled S) (e : Taken) → valid t.snapshot.behavior → (body : Plain) → e.body ≡ body → w' ≡ w + one (carries_as a n e.mid body) → BelongsTo p e.mid body
          → Inv None Any c d w' t → After c d w (body_resolves rules t e body) (handle_body rules t (origin_of e) body)
      on_body c d w w' t e v («plain».System what) is weighs belongs h =
          on_notice c d w t what (drop_it None Any t.snapshot.place t.snapshot.quit t.snapshot.caches t.posts t.snapshot.pending (carried t) c d w w' 0 (omega arith) (inl refl) h)
      on_body c d w w' t e v («plain».Failure what) is weighs belongs h =
          let found = resolved t.snapshot.pending e.mid.number in
          let r : is_response_body e.mid.response e.body ≡ true = ap (is_response_body e.mid.response) is in
          subst (λ (b : Bool). After c d w (if b then resolution_where (λ w. failure_input w what) found else []) (resolve_with rules t (λ w. failure_input w what) found)) (sym r)
          (on_response c d w w' t e.mid (λ w. failure_input w what) (belongs refl) weighs h found refl)
      on_body c d w w' t e v («plain».Content words) is weighs belongs h = go e.mid.response refl
        where
          -- both tests ask whether it is a response
          both : (b : Bool) → e.mid.response ≡ b
              → After c d w (if b then resolution_where (λ w. response_input w words) (resolved t.snapshot.pending e.mid.number) else [])
              (if b then resolve_with rules t (λ w. response_input w words) (resolved t.snapshot.pending e.mid.number) else handle_content rules t (origin_of e) words)
              → After c d w (body_resolves rules t e («plain».Content words)) (handle_body rules t (origin_of e) («plain».Content words))
          both b m k =
              let r : is_response_body e.mid.response e.body ≡ b = ap (is_response_body e.mid.response) is ∙ m in
              subst (λ (x : Bool). After c d w (if x then resolution_where (λ w. response_input w words) (resolved t.snapshot.pending e.mid.number) else [])
              (if e.mid.response then resolve_with rules t (λ w. response_input w words) (resolved t.snapshot.pending e.mid.number) else handle_content rules t (origin_of e) words)) (sym r)
              (subst (λ (x : Bool). After c d w (if b then resolution_where (λ w. response_input w words) (resolved t.snapshot.pending e.mid.number) else [])
              (if x then resolve_with rules t (λ w. response_input w words) (resolved t.snapshot.pending e.mid.number) else handle_content rules t (origin_of e) words)) (sym m) k)

          response_is : e.mid.response ≡ true → carries_as a n e.mid («plain».Content words) ≡ is_mid a n e.mid
          response_is r = ap (λ (x : Bool). carries_by x (nat_lt 0 e.mid.number) (is_mid a n e.mid) («plain».Content words)) r

          go : (b : Bool) → e.mid.response ≡ b → After c d w (body_resolves rules t e («plain».Content words)) (handle_body rules t (origin_of e) («plain».Content words))
          go true m =
              let same : one (carries_as a n e.mid («plain».Content words)) ≡ one (is_mid a n e.mid) = ap one (response_is m) in
              both true m (on_response c d w w' t e.mid (λ w. response_input w words) (belongs m) (omega arith) h (resolved t.snapshot.pending e.mid.number) refl)
          go false m = both false m (after_none c d w _ (on_content c d w w' t (origin_of e) words v m weighs h))

      pub on_one : (c d w w' : ℕ) (t : Handled S) (e : Taken) → valid t.snapshot.behavior → w' ≡ w + one (carries a n e) → IsHome p e → Done c d w' t → After c d w (resolves rules t e) (handle_one rules t e)
      on_one c d w w' t e v weighs home (Live h) =
          subst (λ (quit : Option Reason). After c d w (resolves_where (is_none quit) rules t e) (handle_where rules t quit (origin_of e) e.body)) (sym h.quit_is)
          (on_body c d w w' t e v e.body refl weighs home h)
      on_one c d w w' t e v weighs home (Gone why h) =
          subst (λ (quit : Option Reason). After c d w (resolves_where (is_none quit) rules t e) (handle_where rules t quit (origin_of e) e.body)) (sym h.quit_is)
          (after_none c d w _ (Gone why (on_shell (Some why) c d w w' t why (origin_of e) e.body weighs home h)))

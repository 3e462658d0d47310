-- One actor beside a closer, and the closer itself: no content is sent to place 0, which holds nothing and never quits.
use Rattle.std.proofs.Common.{◌≡◌, ◌≢◌, ℕ, zero, suc, ◌∙◌, sym, ap, subst, ◌==◌, ◌&&◌, not, nat_le, bytes_eq, Bool, true, false, if◌then◌else◌, List, [], ◌∷◌, length, Option, Some, None, is_none, refl, ◌⊎◌, inl, inr}
use Rattle.std.specs.List.{AllByRecursion}
use Rattle.caf_types.specs.declared.notice.Mid.{Mid}
use Rattle.caf_types.specs.declared.notice.Notice.{Notice}
use Rattle.caf_types.specs.declared.notice.Notice.TheVariants as notice
use Rattle.caf_types.specs.declared.notice.Priority.{Priority}
use Rattle.caf_types.specs.declared.reason.Reason.{Reason}
use Rattle.caf_types.specs.declared.reason.Reason.TheVariants as reason
use Rattle.caf_types.specs.declared.sec.Sec.{Sec}
use Rattle.caf_types.specs.declared.sec.Sec.TheVariants as sec
use Rattle.caf_words.specs.Several.{ids_of}
use Rattle.caf_message.specs.declared.envelope.Taken.{Taken}
use Rattle.caf_message.specs.declared.envelope.Plain.{Plain}
use Rattle.caf_message.specs.declared.envelope.Plain.TheVariants as «plain»
use Rattle.caf_message.specs.Content.{ids_in}
use Rattle.caf_message.specs.Envelope.{is_content_body}
use Rattle.caf_mailbox.specs.Caches.{CachedLists, next_of}
use Rattle.caf_mailbox.proofs.NextLemmas.{AllCached, all_append, all_next, all_filed}
use Rattle.caf_response.specs.declared.pending.Waiting.{Waiting}
use Rattle.caf_response.specs.Pending.{WaitingRequests, resolved}
use Rattle.caf_response.specs.Delays.{PlainDelay, is_due_before, next_delay}
use Rattle.caf_response.specs.Lines.{put_in}
use Rattle.caf_response.specs.Promised.{Promised}
use Rattle.caf_response.specs.Holds.{take_hold}
use Rattle.caf_observe.specs.Places.{has_place, without_place}
use Rattle.caf_observe.specs.Observers.{with_link, without_link, farewell}
use Rattle.caf_actor.specs.declared.origin.Origin.{Origin}
use Rattle.caf_actor.specs.declared.snapshot.Snapshot.{Snapshot}
use Rattle.caf_actor.specs.PlainInput.{PlainInput}
use Rattle.caf_actor.specs.PlainInput as input
use Rattle.caf_actor.specs.PlainOutput.{PlainOutput}
use Rattle.caf_actor.specs.PlainOutput as output
use Rattle.caf_actor.specs.PlainReaction.{PlainAnswer}
use Rattle.caf_actor.specs.PlainReaction as answered
use Rattle.caf_actor.specs.PlainPost.{PlainPost}
use Rattle.caf_actor.specs.Clock.{due_after}
use Rattle.caf_actor.specs.Rules.{Rules, MayBeGiven, is_input, output_targets, answer_targets}
use Rattle.caf_actor.specs.Record.{SendsNothingTo}
use Rattle.caf_actor.specs.Snapshot.{Handled, so_far, with_snapshot, cached}
use Rattle.caf_actor.specs.Eligibility.{is_eligible, with_caches, next_envelope}
use Rattle.caf_actor.specs.Sending.{post, posting, tell, tell_many, notify, reply, may_issue, issue, issue_within, settle_hold, send_output, send_outputs}
use Rattle.caf_actor.specs.Answering.{origin_of, is_asked, promised_to, refuse, answer_request, answer_tell, answer}
use Rattle.caf_actor.specs.Quitting.{shell_notice, handle_shell, shell_all, break_holds, all_cached, notify_all, emptied, quit_with, quit_where}
use Rattle.caf_actor.specs.Reacting.{react, give}
use Rattle.caf_actor.specs.Ticking.{timeout_input, time_out, next_due, expire_for, due_count, expire_all, send_delayed, deliver_for, deliver_all, advance, hear_tick, handle_tick}
use Rattle.caf_actor.specs.Handling.{handle_content, response_input, failure_input, resolve_with, begin, leave_for, handle_exit, handle_notice, handle_body, handle_where, handle_one}
use Rattle.caf_actor.specs.Drain.{with_batch, batch_of}
use Rattle.caf_actor.proofs.DrainLemmas.{drain_keeps}

-- content that is no response doesn't go to place 0
abbrev pub AvoidsZero : ℕ → Mid → Plain → Type 0
AvoidsZero to mid body = is_content_body mid.response body ≡ true → to ≢ 0

abbrev pub IsFor : ℕ → Taken → Type 0
IsFor place e = AvoidsZero place e.mid e.body

abbrev pub GoesElsewhere : PlainPost → Type 0
GoesElsewhere q = AvoidsZero q.to q.envelope.mid q.envelope.body

all_put : (P : PlainDelay → Type 0) (ds : List PlainDelay) (d : PlainDelay) → P d → AllByRecursion P ds → AllByRecursion P (put_in is_due_before ds d)
all_put P [] d h all = (h, tt)
all_put P (e ∷ ds) d h all = go (is_due_before d e) (all_put P ds d h all.1)
  where
    go : (b : Bool) → AllByRecursion P (put_in is_due_before ds d) → AllByRecursion P (if b then d ∷ e ∷ ds else e ∷ put_in is_due_before ds d)
    go true rest = (h, all)
    go false rest = (all.0, rest)

-- ---- the actor of place `p`

-- `Known` says what is known of its behaviour's value, and `Quits` that it may quit
module _ {S : Type 0} (p : ℕ) (Quits : Type 0) (Known : S → Type 0) where
  pub record Acting (quit : Option Reason) (E : Type 0) (place : ℕ) (has : Option Reason) (behavior : S) (begun : Bool) (caches : CachedLists) (due : List (ℕ × ℕ)) (holds : List Promised) (delays : List PlainDelay) (posts : List PlainPost) : Type 0 where
    pub at : place ≡ p
    pub quit_is : has ≡ quit
    pub known : Known behavior
    pub begun_is : p ≡ 0 → begun ≡ true
    pub listed : AllCached (IsFor p) caches
    pub undue : (has ≡ None) ⊎ (due ≡ [])
    pub held : E → holds ≡ []
    pub later : AllByRecursion (λ (d : PlainDelay). d.to ≢ 0) delays
    pub goes : AllByRecursion GoesElsewhere posts

  abbrev pub Act : Option Reason → Type 0 → Handled S → Type 0
  Act quit E t = Acting quit E t.snapshot.place t.snapshot.quit t.snapshot.behavior t.snapshot.has_begun t.snapshot.caches t.snapshot.pending.due t.snapshot.holds t.snapshot.delays t.posts

  pub data Outcome (t : Handled S) : Type 0 where
    Going : Act None (p ≡ 0) t → Outcome t
    Left : Quits → (why : Reason) → Act (Some why) (Unit {0}) t → Outcome t

  -- ---- sending

  acts_post : (quit : Option Reason) (E : Type 0) (t : Handled S) (to : ℕ) (mid : Mid) (priority : Priority) (body : Plain) → AvoidsZero to mid body → Act quit E t → Act quit E (post t to mid priority body)
  acts_post quit E t to mid priority body avoids h = record {
    at = h.at;
    quit_is = h.quit_is;
    known = h.known;
    begun_is = h.begun_is;
    listed = h.listed;
    undue = h.undue;
    held = h.held;
    later = h.later;
    goes = all_append GoesElsewhere t.posts (posting t.snapshot to mid priority body ∷ []) h.goes (avoids, tt);
  }

  acts_tell : (quit : Option Reason) (E : Type 0) (t : Handled S) (to : ℕ) (priority : Priority) (words : List ℕ) → to ≢ 0 → Act quit E t → Act quit E (tell t to priority words)
  acts_tell quit E t to priority words other h = acts_post quit E t to _ priority _ (λ e. other) h

  acts_tell_many : (quit : Option Reason) (E : Type 0) (t : Handled S) (places : List ℕ) (priority : Priority) (words : List ℕ) → AllByRecursion (λ to. to ≢ 0) places → Act quit E t → Act quit E (tell_many t places priority words)
  acts_tell_many quit E t [] priority words others h = h
  acts_tell_many quit E t (to ∷ places) priority words others h = acts_tell_many quit E (tell t to priority words) places priority words others.1 (acts_tell quit E t to priority words others.0 h)

  acts_notify : (quit : Option Reason) (E : Type 0) (t : Handled S) (to : ℕ) (what : Notice) → Act quit E t → Act quit E (notify t to what)
  acts_notify quit E t to what h = acts_post quit E t to _ _ _ (λ e. cc) h

  acts_value : (quit : Option Reason) (E : Type 0) (t : Handled S) (it : Promised) (words : List ℕ) → Act quit E t → Act quit E (reply t it («plain».Content words))
  acts_value quit E t it words h = acts_post quit E t _ _ _ _ (λ e. cc) h

  acts_error : (quit : Option Reason) (E : Type 0) (t : Handled S) (it : Promised) (what : Sec) → Act quit E t → Act quit E (reply t it («plain».Failure what))
  acts_error quit E t it what h = acts_post quit E t _ _ _ _ (λ e. cc) h

  with_holds : (t : Handled S) (holds : List Promised) → (p ≡ 0 → holds ≡ []) → Act None (p ≡ 0) t → Act None (p ≡ 0) (with_snapshot t (record t.snapshot { holds = holds }))
  with_holds t holds none h = record { at = h.at; quit_is = h.quit_is; known = h.known; begun_is = h.begun_is; listed = h.listed; undue = h.undue; held = none; later = h.later; goes = h.goes }

  left_holds : (t : Handled S) (requester number : ℕ) (found : Promised × List Promised) → take_hold t.snapshot.holds requester number ≡ Some found → Act None (p ≡ 0) t
      → Act None (p ≡ 0) (with_snapshot t (record t.snapshot { holds = found.1 }))
  left_holds t requester number found e h =
      with_holds t found.1 (λ here. let none : take_hold t.snapshot.holds requester number ≡ None = ap (λ hs. take_hold hs requester number) (h.held here) in let no : None ≡ Some found = sym none ∙ e in cc) h

  acts_settle_value : (t : Handled S) (requester number : ℕ) (words : List ℕ) (found : Option (Promised × List Promised)) → take_hold t.snapshot.holds requester number ≡ found → Act None (p ≡ 0) t
      → Act None (p ≡ 0) (settle_hold t found («plain».Content words))
  acts_settle_value t requester number words None e h = h
  acts_settle_value t requester number words (Some found) e h = acts_value None (p ≡ 0) (with_snapshot t (record t.snapshot { holds = found.1 })) found.0 words (left_holds t requester number found e h)

  acts_settle_error : (t : Handled S) (requester number : ℕ) (what : Sec) (found : Option (Promised × List Promised)) → take_hold t.snapshot.holds requester number ≡ found → Act None (p ≡ 0) t
      → Act None (p ≡ 0) (settle_hold t found («plain».Failure what))
  acts_settle_error t requester number what None e h = h
  acts_settle_error t requester number what (Some found) e h = acts_error None (p ≡ 0) (with_snapshot t (record t.snapshot { holds = found.1 })) found.0 what (left_holds t requester number found e h)

  -- while it hasn't quit, anything may be due
  with_due : (t : Handled S) (due : List (ℕ × ℕ)) → Act None (p ≡ 0) t → Acting None (p ≡ 0) t.snapshot.place t.snapshot.quit t.snapshot.behavior t.snapshot.has_begun t.snapshot.caches due t.snapshot.holds t.snapshot.delays t.posts
  with_due t due h = record { at = h.at; quit_is = h.quit_is; known = h.known; begun_is = h.begun_is; listed = h.listed; undue = inl h.quit_is; held = h.held; later = h.later; goes = h.goes }

  acts_if : (b : Bool) (t u : Handled S) → Act None (p ≡ 0) t → Act None (p ≡ 0) u → Act None (p ≡ 0) (if b then t else u)
  acts_if true t u h k = h
  acts_if false t u h k = k

  acts_output : (t : Handled S) (o : PlainOutput) → AllByRecursion (λ to. to ≢ 0) (output_targets o) → Act None (p ≡ 0) t → Act None (p ≡ 0) (send_output t o)
  acts_output t (output.Tell to priority words) others h = acts_tell None (p ≡ 0) t to priority words others.0 h
  acts_output t (output.TellMany places priority words) others h = acts_tell_many None (p ≡ 0) t places priority words others h
  acts_output t (output.Request to priority mode tag expected words) others h =
      acts_if (may_issue t.snapshot) _ _ (acts_post None (p ≡ 0) (with_snapshot t (issue t.snapshot mode tag expected)) to _ priority _ (λ e. others.0) (with_due t (issue t.snapshot mode tag expected).pending.due h)) h
  acts_output t (output.Exit to why) others h = acts_notify None (p ≡ 0) t to _ h
  acts_output t (output.Link to) others h =
      acts_if (to == t.snapshot.place) _ _ h (acts_notify None (p ≡ 0) (with_snapshot t (record t.snapshot { observers = with_link t.snapshot.observers to })) to _ h)
  acts_output t (output.Unlink to) others h = acts_notify None (p ≡ 0) (with_snapshot t (record t.snapshot { observers = without_link t.snapshot.observers to })) to _ h
  acts_output t (output.Watch to) others h = acts_if (to == t.snapshot.place) _ _ h (acts_notify None (p ≡ 0) t to _ h)
  acts_output t (output.Unwatch to) others h = acts_notify None (p ≡ 0) t to _ h
  acts_output t (output.Deliver requester number words) others h = acts_settle_value t requester number words (take_hold t.snapshot.holds requester number) refl h
  acts_output t (output.Break requester number what) others h = acts_settle_error t requester number what (take_hold t.snapshot.holds requester number) refl h
  acts_output t (output.Spawn place) others h =
      acts_if (has_place t.snapshot.unstarted place) _ _ (acts_notify None (p ≡ 0) (with_snapshot t (record t.snapshot { unstarted = without_place t.snapshot.unstarted place })) place _ h) h
  acts_output t (output.Tick to) others h = acts_notify None (p ≡ 0) t to _ h
  acts_output t (output.Delay ticks to priority words) others h = record {
    at = h.at;
    quit_is = h.quit_is;
    known = h.known;
    begun_is = h.begun_is;
    listed = h.listed;
    undue = h.undue;
    held = h.held;
    later = all_put (λ (d : PlainDelay). d.to ≢ 0) t.snapshot.delays (record { due = due_after t.snapshot.clock ticks; to = to; priority = priority; content = words }) others.0 h.later;
    goes = h.goes;
  }
  acts_output t (output.Within ticks to priority mode tag expected words) others h =
      acts_if (may_issue t.snapshot) _ _ (acts_post None (p ≡ 0) (with_snapshot t (issue_within t.snapshot ticks mode tag expected)) to _ priority _ (λ e. others.0) (with_due t (issue_within t.snapshot ticks mode tag expected).pending.due h)) h

  acts_outputs : (t : Handled S) (os : List PlainOutput) → AllByRecursion (λ o. AllByRecursion (λ to. to ≢ 0) (output_targets o)) os → Act None (p ≡ 0) t → Act None (p ≡ 0) (send_outputs t os)
  acts_outputs t [] others h = h
  acts_outputs t (o ∷ os) others h = acts_outputs (send_output t o) os others.1 (acts_output t o others.0 h)

  -- ---- quitting

  acts_refuse : (quit : Option Reason) (E : Type 0) (t : Handled S) (origin : Origin) (what : Sec) → Act quit E t → Act quit E (refuse t origin what)
  acts_refuse quit E t origin what h = go (is_asked origin)
    where
      go : (b : Bool) → Act quit E (if b then reply t (promised_to origin) («plain».Failure what) else t)
      go true = acts_error quit E t (promised_to origin) what h
      go false = h

  acts_shell_notice : (quit : Option Reason) (E : Type 0) (t : Handled S) (why : Reason) (m : Notice) → Act quit E t → Act quit E (shell_notice t why m)
  acts_shell_notice quit E t why notice.Start h = h
  acts_shell_notice quit E t why notice.Stop h = h
  acts_shell_notice quit E t why (notice.Exit from reason) h = h
  acts_shell_notice quit E t why (notice.Link from) h = acts_notify quit E t from _ h
  acts_shell_notice quit E t why (notice.Unlink from) h = h
  acts_shell_notice quit E t why (notice.Watch from) h = acts_notify quit E t from _ h
  acts_shell_notice quit E t why (notice.Unwatch from) h = h
  acts_shell_notice quit E t why (notice.Down from reason) h = h
  acts_shell_notice quit E t why (notice.Begin from) h = h
  acts_shell_notice quit E t why (notice.Tick from) h = h

  acts_shell : (quit : Option Reason) (E : Type 0) (t : Handled S) (why : Reason) (origin : Origin) (body : Plain) → Act quit E t → Act quit E (handle_shell t why origin body)
  acts_shell quit E t why origin («plain».Content words) h = go origin.mid.response
    where
      go : (b : Bool) → Act quit E (if b then t else refuse t origin sec.RequestReceiverDown)
      go true = h
      go false = acts_refuse quit E t origin sec.RequestReceiverDown h
  acts_shell quit E t why origin («plain».Failure what) h = h
  acts_shell quit E t why origin («plain».System what) h = acts_shell_notice quit E t why what h

  acts_shell_all : (quit : Option Reason) (E : Type 0) (t : Handled S) (why : Reason) (es : List Taken) → Act quit E t → Act quit E (shell_all t why es)
  acts_shell_all quit E t why [] h = h
  acts_shell_all quit E t why (e ∷ es) h = acts_shell_all quit E (handle_shell t why (origin_of e) e.body) why es (acts_shell quit E t why (origin_of e) e.body h)

  acts_breaks : (quit : Option Reason) (E : Type 0) (t : Handled S) (ps : List Promised) → Act quit E t → Act quit E (break_holds t ps)
  acts_breaks quit E t [] h = h
  acts_breaks quit E t (it ∷ ps) h = acts_breaks quit E (reply t it («plain».Failure sec.BrokenPromise)) ps (acts_error quit E t it sec.BrokenPromise h)

  acts_notify_all : (quit : Option Reason) (E : Type 0) (t : Handled S) (ns : List (ℕ × Notice)) → Act quit E t → Act quit E (notify_all t ns)
  acts_notify_all quit E t [] h = h
  acts_notify_all quit E t (m ∷ ns) h = acts_notify_all quit E (notify t m.0 m.1) ns (acts_notify quit E t m.0 m.1 h)

  acts_quit_with : (t : Handled S) (why : Reason) → Act None (p ≡ 0) t → Act (Some why) (Unit {0}) (quit_with t why)
  acts_quit_with t why h =
      let u : Handled S = with_snapshot t (emptied t.snapshot why) in
      let start : Act (Some why) (Unit {0}) u = record { at = h.at; quit_is = refl; known = h.known; begun_is = h.begun_is; listed = (tt, tt); undue = inr refl; held = λ e. refl; later = tt; goes = h.goes } in
      let met : Handled S = shell_all (break_holds u t.snapshot.holds) why (all_cached t.snapshot.caches) in
      acts_notify_all (Some why) (Unit {0}) met (farewell met.snapshot.observers met.snapshot.place why)
      (acts_shell_all (Some why) (Unit {0}) (break_holds u t.snapshot.holds) why (all_cached t.snapshot.caches) (acts_breaks (Some why) (Unit {0}) u t.snapshot.holds start))

  acts_quit_where : (t : Handled S) (quit : Option Reason) → (quit ≡ None) ⊎ Quits → Act None (p ≡ 0) t → Outcome (quit_where t quit)
  acts_quit_where t None may h = Going h
  acts_quit_where t (Some why) (inl none) h = let wrong : Some why ≡ None = none in cc
  acts_quit_where t (Some why) (inr may) h = Left may why (acts_quit_with t why h)

  -- ---- reacting

  -- what is known of a behaviour says that it sends nothing to place 0, and whether it may quit
  pub record Behaves (rules : Rules S) : Type 0 where
    pub sends : (s : S) (i : PlainInput) → Known s → MayBeGiven rules s i → SendsNothingTo 0 (rules.reaction s i)
    pub next : (s : S) (i : PlainInput) → Known s → MayBeGiven rules s i → Known (rules.next s i)
    pub quits : (s : S) (i : PlainInput) → Known s → MayBeGiven rules s i → ((rules.reaction s i).quit ≡ None) ⊎ Quits

  module _ (rules : Rules S) (behaves : Behaves rules) (leaves : (p == 0) ≡ false → Quits) where
    acts_react : (t : Handled S) (i : PlainInput) → MayBeGiven rules t.snapshot.behavior i → Act None (p ≡ 0) t → Act None (p ≡ 0) (react rules t i)
    acts_react t i may h =
        acts_outputs (with_snapshot t (record t.snapshot { behavior = rules.next t.snapshot.behavior i })) (rules.reaction t.snapshot.behavior i).outputs (behaves.sends t.snapshot.behavior i h.known may).outputs
        (record { at = h.at; quit_is = h.quit_is; known = behaves.next t.snapshot.behavior i h.known may; begun_is = h.begun_is; listed = h.listed; undue = h.undue; held = h.held; later = h.later; goes = h.goes })

    acts_give : (t : Handled S) (i : PlainInput) → MayBeGiven rules t.snapshot.behavior i → Act None (p ≡ 0) t → Outcome (give rules t i)
    acts_give t i may h = acts_quit_where (react rules t i) (rules.reaction t.snapshot.behavior i).quit (behaves.quits t.snapshot.behavior i h.known may) (acts_react t i may h)

    acts_answer_request : (t : Handled S) (it : Promised) (words : List ℕ) (given : PlainAnswer) → p ≢ 0 → AllByRecursion (λ to. to ≢ 0) (answer_targets given) → Act None (p ≡ 0) t → Act None (p ≡ 0) (answer_request t it words given)
    acts_answer_request t it words (answered.Value value) other targets h = acts_value None (p ≡ 0) t it value h
    acts_answer_request t it words (answered.Error what) other targets h = acts_error None (p ≡ 0) t it what h
    acts_answer_request t it words (answered.Delegate to) other targets h = acts_post None (p ≡ 0) t to _ _ _ (λ e. targets.0) h
    acts_answer_request t it words answered.Hold other targets h = with_holds t _ (λ here. absurd (other here)) h
    acts_answer_request t it words answered.Nothing other targets h = h

    acts_answer_tell : (t : Handled S) (origin : Origin) (words : List ℕ) (given : PlainAnswer) → AllByRecursion (λ to. to ≢ 0) (answer_targets given) → Act None (p ≡ 0) t → Act None (p ≡ 0) (answer_tell t origin words given)
    acts_answer_tell t origin words (answered.Value value) targets h = h
    acts_answer_tell t origin words (answered.Error what) targets h = h
    acts_answer_tell t origin words (answered.Delegate to) targets h = acts_tell None (p ≡ 0) t to origin.priority words targets.0 h
    acts_answer_tell t origin words answered.Hold targets h = h
    acts_answer_tell t origin words answered.Nothing targets h = h

    acts_answer : (t : Handled S) (origin : Origin) (words : List ℕ) (given : PlainAnswer) → p ≢ 0 → AllByRecursion (λ to. to ≢ 0) (answer_targets given) → Act None (p ≡ 0) t → Act None (p ≡ 0) (answer t origin words given)
    acts_answer t origin words given other targets h = acts_if (is_asked origin) _ _ (acts_answer_request t (promised_to origin) words given other targets h) (acts_answer_tell t origin words given targets h)

    acts_content : (t : Handled S) (origin : Origin) (words : List ℕ) → p ≢ 0 → Act None (p ≡ 0) t → Outcome (handle_content rules t origin words)
    acts_content t origin words other h = go (is_input (rules.interface t.snapshot.behavior) (ids_in words)) refl
      where
        go : (b : Bool) → is_input (rules.interface t.snapshot.behavior) (ids_in words) ≡ b → Outcome (handle_content rules t origin words)
        go true q =
            let i : PlainInput = input.Content origin words in
            rw q (acts_quit_where (answer (react rules t i) origin words (rules.reaction t.snapshot.behavior i).answer) (rules.reaction t.snapshot.behavior i).quit (behaves.quits t.snapshot.behavior i h.known q)
            (acts_answer (react rules t i) origin words (rules.reaction t.snapshot.behavior i).answer other (behaves.sends t.snapshot.behavior i h.known q).answer (acts_react t i q h)))
        go false q = rw q (Going (acts_refuse None (p ≡ 0) t origin sec.UnexpectedMessage h))

    -- ---- responses and ticks

    response_may : (s : S) (w : Waiting) (words : List ℕ) → MayBeGiven rules s (response_input w words)
    response_may s w words = go (bytes_eq (ids_of w.expected) (ids_in words)) refl
      where
        go : (b : Bool) → bytes_eq (ids_of w.expected) (ids_in words) ≡ b → MayBeGiven rules s (response_input w words)
        go true e = rw e tt
        go false e = rw e tt

    acts_resolve : (t : Handled S) (given : Waiting → PlainInput) → ((w : Waiting) → MayBeGiven rules t.snapshot.behavior (given w)) → (found : Option (Waiting × WaitingRequests)) → Act None (p ≡ 0) t → Outcome (resolve_with rules t given found)
    acts_resolve t given may None h = Going h
    acts_resolve t given may (Some found) h = acts_give (with_snapshot t (record t.snapshot { pending = found.1 })) (given found.0) (may found.0) (with_due t found.1.due h)

    acts_deliver_for : (quit : Option Reason) (E : Type 0) (k : ℕ) (t : Handled S) → Act quit E t → Act quit E (deliver_for k t)
    acts_deliver_for quit E zero t h = h
    acts_deliver_for quit E (suc k) t h = go (acts_deliver_for quit E k) (next_delay t.snapshot.delays t.snapshot.clock) refl
      where
        next_in : (ds : List PlainDelay) (now : ℕ) (q : PlainDelay × List PlainDelay) → next_delay ds now ≡ Some q → AllByRecursion (λ (d : PlainDelay). d.to ≢ 0) ds → (q.0.to ≢ 0) × AllByRecursion (λ (d : PlainDelay). d.to ≢ 0) q.1
        next_in [] now q e all = cc
        next_in (d ∷ ds) now q e all = on (nat_le d.due now) e
          where
            on : (b : Bool) → (if b then Some (d, ds) else None) ≡ Some q → (q.0.to ≢ 0) × AllByRecursion (λ (d : PlainDelay). d.to ≢ 0) q.1
            on true f = let is : (d, ds) ≡ q = cc in subst (λ (r : PlainDelay × List PlainDelay). (r.0.to ≢ 0) × AllByRecursion (λ (d : PlainDelay). d.to ≢ 0) r.1) is all
            on false f = cc

        go : ((u : Handled S) → Act quit E u → Act quit E (deliver_for k u)) → (r : Option (PlainDelay × List PlainDelay)) → next_delay t.snapshot.delays t.snapshot.clock ≡ r → Act quit E (deliver_for (suc k) t)
        go later None e = rw e h
        go later (Some next) e =
            let both = next_in t.snapshot.delays t.snapshot.clock next e h.later in
            rw e (later (send_delayed t next) (acts_tell quit E (with_snapshot t (record t.snapshot { delays = next.1 })) next.0.to next.0.priority next.0.content both.0
            (record { at = h.at; quit_is = h.quit_is; known = h.known; begun_is = h.begun_is; listed = h.listed; undue = h.undue; held = h.held; later = both.1; goes = h.goes })))

    -- nothing is due for an actor that has quit
    not_due : (t : Handled S) (why : Reason) → Act (Some why) (Unit {0}) t → next_due t.snapshot ≡ None
    not_due t why h = go h.undue
      where
        go : (t.snapshot.quit ≡ None) ⊎ (t.snapshot.pending.due ≡ []) → next_due t.snapshot ≡ None
        go (inl none) = let wrong : Some why ≡ None = sym h.quit_is ∙ none in cc
        go (inr none) = rw none refl

    acts_expire : (k : ℕ) (t : Handled S) → Outcome t → Outcome (expire_for rules k t)
    acts_expire zero t h = h
    acts_expire (suc k) t (Left may why h) = rw (not_due t why h) (Left may why h)
    acts_expire (suc k) t (Going h) = go (acts_expire k) (next_due t.snapshot) refl
      where
        go : ((u : Handled S) → Outcome u → Outcome (expire_for rules k u)) → (r : Option (Waiting × WaitingRequests)) → next_due t.snapshot ≡ r → Outcome (expire_for rules (suc k) t)
        go later None e = rw e (Going h)
        go later (Some found) e =
            rw e (later (time_out rules t found) (acts_give (with_snapshot t (record t.snapshot { pending = found.1 })) (timeout_input found.0) tt (with_due t found.1.due h)))

    acts_deliver : (k : ℕ) (t : Handled S) → Outcome t → Outcome (deliver_for k t)
    acts_deliver k t (Going h) = Going (acts_deliver_for None (p ≡ 0) k t h)
    acts_deliver k t (Left may why h) = Left may why (acts_deliver_for (Some why) (Unit {0}) k t h)

    acts_hear : (t : Handled S) → Outcome t → Outcome (hear_tick rules t)
    acts_hear t (Going h) = go ((t.snapshot.place == 0) && is_none t.snapshot.quit)
      where
        go : (b : Bool) → Outcome (if b then give rules t input.Tick else t)
        go true = acts_give t input.Tick tt h
        go false = Going h
    acts_hear t (Left may why h) = go ((t.snapshot.place == 0) && is_none t.snapshot.quit) refl
      where
        wrong : (b : Bool) → (b && is_none t.snapshot.quit) ≡ true → ⊥
        wrong true e = let none : is_none t.snapshot.quit ≡ false = ap is_none h.quit_is in cc
        wrong false e = cc

        go : (b : Bool) → ((t.snapshot.place == 0) && is_none t.snapshot.quit) ≡ b → Outcome (if b then give rules t input.Tick else t)
        go true e = absurd (wrong (t.snapshot.place == 0) e)
        go false e = Left may why h

    acts_tick : (t : Handled S) → Act None (p ≡ 0) t → Outcome (handle_tick rules t)
    acts_tick t h =
        let expired : Handled S = expire_all rules (advance t) in
        acts_hear (deliver_all expired) (acts_deliver (length expired.snapshot.delays) expired (acts_expire (due_count (advance t).snapshot) (advance t) (Going h)))

    -- ---- one envelope

    acts_exit : (t : Handled S) (from : ℕ) (why : Reason) → Act None (p ≡ 0) t → Outcome (handle_exit t from why)
    acts_exit t from why h = go (t.snapshot.place == 0) refl
      where
        gone : (t.snapshot.place == 0) ≡ false → Quits
        gone e = leaves (ap (λ (x : ℕ). x == 0) (sym h.at) ∙ e)

        leave : Quits → (why : Reason) → Outcome (leave_for (with_snapshot t (record t.snapshot { observers = without_link t.snapshot.observers from })) why)
        leave may reason.Normal = Going h
        leave may reason.UserShutdown = Left may _ (acts_quit_with (with_snapshot t (record t.snapshot { observers = without_link t.snapshot.observers from })) reason.UserShutdown h)
        leave may reason.Kill = Left may _ (acts_quit_with (with_snapshot t (record t.snapshot { observers = without_link t.snapshot.observers from })) reason.Kill h)
        leave may reason.Failed = Left may _ (acts_quit_with (with_snapshot t (record t.snapshot { observers = without_link t.snapshot.observers from })) reason.Failed h)

        go : (b : Bool) → (t.snapshot.place == 0) ≡ b → Outcome (if b then t else leave_for (with_snapshot t (record t.snapshot { observers = without_link t.snapshot.observers from })) why)
        go true e = Going h
        go false e = leave (gone e) why

    acts_begin : (t : Handled S) → Act None (p ≡ 0) t → Act None (p ≡ 0) (begin t)
    acts_begin t h = record { at = h.at; quit_is = h.quit_is; known = h.known; begun_is = λ e. refl; listed = h.listed; undue = h.undue; held = h.held; later = h.later; goes = h.goes }

    acts_notice : (t : Handled S) (what : Notice) → Act None (p ≡ 0) t → Outcome (handle_notice rules t what)
    acts_notice t notice.Start h = acts_give t input.Start tt h
    acts_notice t notice.Stop h = acts_give t input.Stop tt h
    acts_notice t (notice.Exit from why) h = acts_exit t from why h
    acts_notice t (notice.Link from) h = Going h
    acts_notice t (notice.Unlink from) h = Going h
    acts_notice t (notice.Watch from) h = Going h
    acts_notice t (notice.Unwatch from) h = Going h
    acts_notice t (notice.Down from why) h = acts_give t (input.Down from why) tt h
    acts_notice t (notice.Begin from) h = Going (acts_begin t h)
    acts_notice t (notice.Tick from) h = acts_tick t h

    acts_body : (t : Handled S) (origin : Origin) (body : Plain) → AvoidsZero p origin.mid body → Act None (p ≡ 0) t → Outcome (handle_body rules t origin body)
    acts_body t origin («plain».System what) avoids h = acts_notice t what h
    acts_body t origin («plain».Failure what) avoids h = acts_resolve t (λ w. failure_input w what) (λ w. tt) (resolved t.snapshot.pending origin.mid.number) h
    acts_body t origin («plain».Content words) avoids h = go origin.mid.response avoids
      where
        go : (b : Bool) → (not b ≡ true → p ≢ 0) → Outcome (if b then resolve_with rules t (λ w. response_input w words) (resolved t.snapshot.pending origin.mid.number) else handle_content rules t origin words)
        go true other = acts_resolve t (λ w. response_input w words) (λ w. response_may t.snapshot.behavior w words) (resolved t.snapshot.pending origin.mid.number) h
        go false other = acts_content t origin words (other refl) h

    acts_one : (t : Handled S) (e : Taken) → IsFor p e → Outcome t → Outcome (handle_one rules t e)
    acts_one t e is (Going h) = subst (λ (quit : Option Reason). Outcome (handle_where rules t quit (origin_of e) e.body)) (sym h.quit_is) (acts_body t (origin_of e) e.body is h)
    acts_one t e is (Left may why h) =
        subst (λ (quit : Option Reason). Outcome (handle_where rules t quit (origin_of e) e.body)) (sym h.quit_is) (Left may why (acts_shell (Some why) (Unit {0}) t why (origin_of e) e.body h))

    -- ---- a batch

    with_lists : (quit : Option Reason) (E : Type 0) (t : Handled S) (lists : CachedLists) → AllCached (IsFor p) lists → Act quit E t → Act quit E (with_snapshot t (record t.snapshot { caches = lists }))
    with_lists quit E t lists all h = record { at = h.at; quit_is = h.quit_is; known = h.known; begun_is = h.begun_is; listed = all; undue = h.undue; held = h.held; later = h.later; goes = h.goes }

    acts_next : (t : Handled S) (q : Taken × Snapshot S) → next_envelope rules t.snapshot ≡ Some q → Outcome t → IsFor p q.0 × Outcome (with_snapshot t q.1)
    acts_next t q e h = go (next_of (is_eligible rules t.snapshot) t.snapshot.caches) refl e
      where
        left : (r : Taken × CachedLists) → next_of (is_eligible rules t.snapshot) t.snapshot.caches ≡ Some r → Outcome t → IsFor p r.0 × Outcome (with_snapshot t (record t.snapshot { caches = r.1 }))
        left r f (Going k) = let both = all_next (is_eligible rules t.snapshot) (IsFor p) t.snapshot.caches r k.listed f in (both.0, Going (with_lists None (p ≡ 0) t r.1 both.1 k))
        left r f (Left may why k) = let both = all_next (is_eligible rules t.snapshot) (IsFor p) t.snapshot.caches r k.listed f in (both.0, Left may why (with_lists (Some why) (Unit {0}) t r.1 both.1 k))

        go : (r : Option (Taken × CachedLists)) → next_of (is_eligible rules t.snapshot) t.snapshot.caches ≡ r → with_caches t.snapshot r ≡ Some q → IsFor p q.0 × Outcome (with_snapshot t q.1)
        go None f g = cc
        go (Some r) f g =
            let same : (r.0, record t.snapshot { caches = r.1 }) ≡ q = cc in
            subst (λ (u : Taken × Snapshot S). IsFor p u.0 × Outcome (with_snapshot t u.1)) same (left r f h)

    pub acts_turn : (t : Handled S) (q : Taken × Snapshot S) → next_envelope rules t.snapshot ≡ Some q → Outcome t → Outcome (handle_one rules (with_snapshot t q.1) q.0)
    acts_turn t q e h = let both = acts_next t q e h in acts_one (with_snapshot t q.1) q.0 both.0 both.1

    pub acts_filed : (s : Snapshot S) (batch : List Taken) → AllByRecursion (IsFor p) batch → Outcome (so_far s []) → Outcome (so_far (with_batch s batch) [])
    acts_filed s batch all (Going h) = Going (record { at = h.at; quit_is = h.quit_is; known = h.known; begun_is = h.begun_is; listed = all_filed (IsFor p) s.caches batch h.listed all; undue = h.undue; held = h.held; later = h.later; goes = tt })
    acts_filed s batch all (Left may why h) = Left may why (record { at = h.at; quit_is = h.quit_is; known = h.known; begun_is = h.begun_is; listed = all_filed (IsFor p) s.caches batch h.listed all; undue = h.undue; held = h.held; later = h.later; goes = tt })

    pub acts_batch : (s : Snapshot S) (batch : List Taken) → AllByRecursion (IsFor p) batch → Outcome (so_far s []) → Outcome (batch_of rules s batch)
    acts_batch s batch all h = drain_keeps rules Outcome acts_turn (cached (with_batch s batch)) (so_far (with_batch s batch) []) (acts_filed s batch all h)

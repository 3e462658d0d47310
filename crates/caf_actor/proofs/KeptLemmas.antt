-- What handling one envelope keeps, if each part of it does. Each part is handed what is known there: which input the
-- behaviour may be given, what its reaction is known to be, to which place a post goes, and the form of the post.
use Rattle.std.proofs.Common.{◌≡◌, ℕ, zero, suc, ◌==◌, ◌&&◌, not, nat_lt, nat_le, Bool, true, false, if◌then◌else◌, List, [], ◌∷◌, ◌++◌, map, length, bytes_eq, Option, Some, None, is_none, refl, ap, subst, arith}
use Rattle.std.specs.List.{AllByRecursion}
use Rattle.std.proofs.lemmas.Bool.Decides.{nat_tests}
use Rattle.caf_types.specs.declared.notice.Mid.{Mid}
use Rattle.caf_types.specs.declared.notice.Notice.{Notice}
use Rattle.caf_types.specs.declared.notice.Notice.TheVariants as notice
use Rattle.caf_types.specs.declared.notice.Priority.{Priority}
use Rattle.caf_types.specs.declared.notice.Priority.TheVariants.{Urgent}
use Rattle.caf_types.specs.declared.reason.Reason.{Reason}
use Rattle.caf_types.specs.declared.reason.Reason.TheVariants as reason
use Rattle.caf_types.specs.declared.sec.Sec.{Sec}
use Rattle.caf_types.specs.declared.sec.Sec.TheVariants as sec
use Rattle.caf_types.specs.declared.shape.TypeId.{TypeId}
use Rattle.caf_words.specs.Several.{ids_of}
use Rattle.caf_message.specs.declared.envelope.Taken.{Taken}
use Rattle.caf_message.specs.declared.envelope.Plain.{Plain}
use Rattle.caf_message.specs.declared.envelope.Plain.TheVariants as «plain»
use Rattle.caf_message.specs.Content.{ids_in}
use Rattle.caf_message.specs.Envelope.{no_request, IsInForm}
use Rattle.caf_mailbox.proofs.NextLemmas.{AllCached, all_append, all_filter, all_pick}
use Rattle.caf_response.specs.declared.pending.Waiting.{Waiting}
use Rattle.caf_response.specs.declared.pending.Mode.{Mode}
use Rattle.caf_response.specs.Delays.{PlainDelay, is_due_before, delayed, next_delay}
use Rattle.caf_response.specs.Lines.{put_in}
use Rattle.caf_response.specs.Pending.{WaitingRequests, resolved}
use Rattle.caf_response.specs.Promised.{Promised}
use Rattle.caf_response.specs.Promise.{response_mid}
use Rattle.caf_response.specs.Holds.{is_of, is_before, with_hold, take_hold}
use Rattle.caf_observe.specs.Places.{has_place, with_place, without_place}
use Rattle.caf_observe.specs.Observers.{ObserverSets, with_link, without_link, with_monitor, without_monitor, farewell}
use Rattle.caf_actor.specs.declared.origin.Origin.{Origin}
use Rattle.caf_actor.specs.PlainInput.{PlainInput, content_given}
use Rattle.caf_actor.specs.PlainOutput.{PlainOutput, content_sent}
use Rattle.caf_actor.specs.PlainOutput as output
use Rattle.caf_actor.specs.PlainReaction.{PlainAnswer, PlainReaction, content_answered}
use Rattle.caf_actor.specs.PlainReaction as answered
use Rattle.caf_actor.specs.Clock.{due_after}
use Rattle.caf_actor.specs.Rules.{Rules, MayBeGiven, WhereGiven, is_input, output_targets, answer_targets}
use Rattle.caf_actor.specs.Leads.{asked_by, told_later, leads_to}
use Rattle.caf_actor.specs.Snapshot.{Handled, with_snapshot}
use Rattle.caf_actor.specs.Sending.{post, tell, tell_many, notify, reply, mid_of, may_issue, issue, issue_within, settle_hold, send_output, send_outputs}
use Rattle.caf_actor.specs.Answering.{origin_of, is_asked, promised_to, refuse, answer_request, answer_tell, answer}
use Rattle.caf_actor.specs.Quitting.{shell_notice, handle_shell, shell_all, break_holds, all_cached, notify_all, emptied, quit_with, quit_where}
use Rattle.caf_actor.specs.Reacting.{react, give, give_content}
use Rattle.caf_actor.specs.Ticking.{time_out, next_due, expire_for, due_count, expire_all, send_delayed, deliver_for, deliver_all, advance, hear_tick, handle_tick}
use Rattle.caf_actor.specs.Handling.{handle_content, response_input, resolve_with, begin, leave_for, handle_exit, handle_notice, handle_body, handle_where, handle_one}

-- ---- lists

all_put : {A : Type 0} (P : A → Type 0) (before : A → A → Bool) (xs : List A) (x : A) → P x → AllByRecursion P xs → AllByRecursion P (put_in before xs x)
all_put P before [] x h all = (h, tt)
all_put P before (y ∷ ys) x h all = go (before x y) (all_put P before ys x h all.1)
  where
    go : (b : Bool) → AllByRecursion P (put_in before ys x) → AllByRecursion P (if b then x ∷ y ∷ ys else y ∷ put_in before ys x)
    go true rest = (h, all)
    go false rest = (all.0, rest)

all_with_place : (P : ℕ → Type 0) (places : List ℕ) (place : ℕ) → P place → AllByRecursion P places → AllByRecursion P (with_place places place)
all_with_place P places place h all =
    all_append P _ _ (all_filter (λ p. nat_lt p place) P places all) (h, all_filter (λ p. nat_lt place p) P places all)

all_without_place : (P : ℕ → Type 0) (places : List ℕ) (place : ℕ) → AllByRecursion P places → AllByRecursion P (without_place places place)
all_without_place P places place all = all_filter (λ p. not (p == place)) P places all

next_in : (P : PlainDelay → Type 0) (ds : List PlainDelay) (now : ℕ) (p : PlainDelay × List PlainDelay) → next_delay ds now ≡ Some p → AllByRecursion P ds → P p.0 × AllByRecursion P p.1
next_in P [] now p q all = cc
next_in P (d ∷ ds) now p q all = go (nat_le d.due now) q
  where
    go : (b : Bool) → (if b then Some (d, ds) else None) ≡ Some p → P p.0 × AllByRecursion P p.1
    go true e = let is : (d, ds) ≡ p = cc in subst (λ (r : PlainDelay × List PlainDelay). P r.0 × AllByRecursion P r.1) is all
    go false e = cc

no_number : (n : ℕ) → nat_lt 0 n ≡ false → n ≡ 0
no_number n h = grind (arith, nat_tests)

-- ---- what is known of what is handed on: of places (`K`), and of bodies (`C`)

module _ (K : ℕ → Type 0) (C : Plain → Type 0) where
  abbrev pub IsKnown : Taken → Type 0
  IsKnown e = AllByRecursion K (leads_to e.mid e.body) × C e.body

  abbrev pub IsHeld : Promised → Type 0
  IsHeld p = K p.mid.requester

  abbrev pub IsDelayed : PlainDelay → Type 0
  IsDelayed d = K d.to × C («plain».Content d.content)

  abbrev pub InputIs : PlainInput → Type 0
  InputIs i = WhereGiven (λ words. C («plain».Content words)) (content_given i)

  pub record OutputIs (o : PlainOutput) : Type 0 where
    pub targets : AllByRecursion K (output_targets o)
    pub content : WhereGiven (λ words. C («plain».Content words)) (content_sent o)

  pub record AnswerIs (a : PlainAnswer) : Type 0 where
    pub targets : AllByRecursion K (answer_targets a)
    pub content : WhereGiven (λ words. C («plain».Content words)) (content_answered a)

  pub record ReactionIs (r : PlainReaction) : Type 0 where
    pub outputs : AllByRecursion OutputIs r.outputs
    pub answer : AnswerIs r.answer

  -- what the actor of a place posts
  pub record IsPosted (place : ℕ) (mid : Mid) (priority : Priority) (body : Plain) : Type 0 where
    pub leads : K place → AllByRecursion K (leads_to mid body)
    pub known : C body
    pub form : (seq stamp : ℕ) → IsInForm (record { sender = place; seq = seq; mid = mid; priority = priority; stamp = stamp; body = body })

  -- what sending, answering and quitting keep
  pub record Keeps {S : Type 0} (P : Handled S → Type 0) : Type 0 where
    pub failure : (what : Sec) → C («plain».Failure what)
    pub system : (what : Notice) → C («plain».System what)
    pub cached : (t : Handled S) → P t → AllCached IsKnown t.snapshot.caches
    pub held : (t : Handled S) → P t → AllByRecursion IsHeld t.snapshot.holds
    pub links : (t : Handled S) → P t → AllByRecursion K t.snapshot.observers.links
    pub monitors : (t : Handled S) → P t → AllByRecursion K t.snapshot.observers.monitors
    pub delays : (t : Handled S) → P t → AllByRecursion IsDelayed t.snapshot.delays
    pub on_post : (t : Handled S) (to : ℕ) (mid : Mid) (priority : Priority) (body : Plain) → K to → IsPosted t.snapshot.place mid priority body → P t
        → P (post t to mid priority body)
    pub on_holds : (t : Handled S) (holds : List Promised) → AllByRecursion IsHeld holds → P t → P (with_snapshot t (record t.snapshot { holds = holds }))
    pub on_issue : (t : Handled S) (mode : Mode) (tag : ℕ) (expected : List TypeId) → P t → P (with_snapshot t (issue t.snapshot mode tag expected))
    pub on_issue_within : (t : Handled S) (ticks : ℕ) (mode : Mode) (tag : ℕ) (expected : List TypeId) → P t
        → P (with_snapshot t (issue_within t.snapshot ticks mode tag expected))
    pub on_observers : (t : Handled S) (observers : ObserverSets) → AllByRecursion K observers.links → AllByRecursion K observers.monitors → P t
        → P (with_snapshot t (record t.snapshot { observers = observers }))
    pub on_unstarted : (t : Handled S) (unstarted : List ℕ) → P t → P (with_snapshot t (record t.snapshot { unstarted = unstarted }))
    pub on_delays : (t : Handled S) (delays : List PlainDelay) → AllByRecursion IsDelayed delays → P t → P (with_snapshot t (record t.snapshot { delays = delays }))
    pub on_emptied : (t : Handled S) (why : Reason) → P t → P (with_snapshot t (emptied t.snapshot why))

  -- what an input that the behaviour is given keeps; the laws of the behaviour say what its reaction is
  pub record Reacts {S : Type 0} (rules : Rules S) (P : Handled S → Type 0) : Type 0 where
    pub on_behavior : (t : Handled S) (i : PlainInput) → MayBeGiven rules t.snapshot.behavior i → InputIs i → P t
        → ReactionIs (rules.reaction t.snapshot.behavior i) × P (with_snapshot t (record t.snapshot { behavior = rules.next t.snapshot.behavior i }))

  -- what the other parts of handling an envelope keep
  pub record KeepsToo {S : Type 0} (P : Handled S → Type 0) : Type 0 where
    pub on_resolved : (t : Handled S) (number : ℕ) (found : Waiting × WaitingRequests) → resolved t.snapshot.pending number ≡ Some found → P t
        → P (with_snapshot t (record t.snapshot { pending = found.1 }))
    pub on_expired : (t : Handled S) (found : Waiting × WaitingRequests) → next_due t.snapshot ≡ Some found → P t
        → P (with_snapshot t (record t.snapshot { pending = found.1 }))
    pub on_begun : (t : Handled S) → P t → P (begin t)
    pub on_clock : (t : Handled S) → P t → P (advance t)

module _ {S : Type 0} (K : ℕ → Type 0) (C : Plain → Type 0) (P : Handled S → Type 0) (keeps : Keeps K C P) where
  open keeps use {failure, system, cached, held, links, monitors, delays, on_post, on_holds, on_issue, on_issue_within, on_observers, on_unstarted, on_delays, on_emptied}

  on_if : (b : Bool) (t u : Handled S) → P t → P u → P (if b then t else u)
  on_if true t u h k = h
  on_if false t u h k = k

  -- ---- the forms of posts

  one_if : (b : Bool) (p : ℕ) → K p → AllByRecursion K (if b then p ∷ [] else [])
  one_if true p k = (k, tt)
  one_if false p k = tt

  told : (place : ℕ) (priority : Priority) (words : List ℕ) → C («plain».Content words) → IsPosted K C place (no_request place) priority («plain».Content words)
  told place priority words c = record { leads = λ k. tt; known = c; form = λ seq stamp. record { mid = λ e f. refl; urgent = λ e. cc } }

  noticed : (place : ℕ) (what : Notice) → (K place → AllByRecursion K (told_later what)) → IsPosted K C place (no_request place) Urgent («plain».System what)
  noticed place what l = record { leads = l; known = system what; form = λ seq stamp. record { mid = λ e f. refl; urgent = λ e. refl } }

  requested : (place number : ℕ) (priority : Priority) (words : List ℕ) → C («plain».Content words) → IsPosted K C place (mid_of place number) priority («plain».Content words)
  requested place number priority words c = record {
    leads = λ k. one_if (nat_lt 0 number) place k;
    known = c;
    form = λ seq stamp. record { mid = λ e f. ap (mid_of place) (no_number number e); urgent = λ e. cc };
  }

  replied_value : (place : ℕ) (p : Promised) (words : List ℕ) → C («plain».Content words) → IsPosted K C place (response_mid p.mid) p.priority («plain».Content words)
  replied_value place p words c = record { leads = λ k. tt; known = c; form = λ seq stamp. record { mid = λ e f. cc; urgent = λ e. cc } }

  replied_error : (place : ℕ) (p : Promised) (what : Sec) → IsPosted K C place (response_mid p.mid) p.priority («plain».Failure what)
  replied_error place p what = record { leads = λ k. tt; known = failure what; form = λ seq stamp. record { mid = λ e f. cc; urgent = λ e. cc } }

  handed_on : (place : ℕ) (mid : Mid) (priority : Priority) (words : List ℕ) → nat_lt 0 mid.number ≡ true → K mid.requester → C («plain».Content words)
      → IsPosted K C place mid priority («plain».Content words)
  handed_on place mid priority words asked k c = record {
    leads = λ own. leads mid.response;
    known = c;
    form = λ seq stamp. record { mid = λ e f. let no : (not mid.response && nat_lt 0 mid.number) ≡ false = e in wrong mid.response (nat_lt 0 mid.number) no f asked; urgent = λ e. cc };
  }
    where
      leads : (b : Bool) → AllByRecursion K (if b then [] else asked_by mid)
      leads true = tt
      leads false = one_if (nat_lt 0 mid.number) mid.requester k

      wrong : (b c : Bool) → (not b && c) ≡ false → b ≡ false → c ≡ true → mid ≡ no_request place
      wrong true c e f g = cc
      wrong false true e f g = cc
      wrong false false e f g = cc

  -- ---- sending

  on_tell : (t : Handled S) (to : ℕ) (priority : Priority) (words : List ℕ) → K to → C («plain».Content words) → P t → P (tell t to priority words)
  on_tell t to priority words k c h = on_post t to _ priority _ k (told t.snapshot.place priority words c) h

  on_tell_many : (t : Handled S) (places : List ℕ) (priority : Priority) (words : List ℕ) → AllByRecursion K places → C («plain».Content words) → P t → P (tell_many t places priority words)
  on_tell_many t [] priority words ks c h = h
  on_tell_many t (to ∷ places) priority words ks c h = on_tell_many (tell t to priority words) places priority words ks.1 c (on_tell t to priority words ks.0 c h)

  on_notify : (t : Handled S) (to : ℕ) (what : Notice) → K to → (K t.snapshot.place → AllByRecursion K (told_later what)) → P t → P (notify t to what)
  on_notify t to what k l h = on_post t to _ _ _ k (noticed t.snapshot.place what l) h

  on_error : (t : Handled S) (p : Promised) (what : Sec) → K p.mid.requester → P t → P (reply t p («plain».Failure what))
  on_error t p what k h = on_post t _ _ _ _ k (replied_error t.snapshot.place p what) h

  on_settle_hold : (t : Handled S) (requester number : ℕ) (body : Plain) (found : Option (Promised × List Promised)) → take_hold t.snapshot.holds requester number ≡ found
      → ((p : Promised) → IsPosted K C t.snapshot.place (response_mid p.mid) p.priority body) → P t → P (settle_hold t found body)
  on_settle_hold t requester number body None e posted h = h
  on_settle_hold t requester number body (Some found) e posted h =
      let both = all_pick (is_of requester number) (IsHeld K C) t.snapshot.holds found (held t h) e in
      on_post (with_snapshot t (record t.snapshot { holds = found.1 })) _ _ _ body both.0 (posted found.0) (on_holds t found.1 both.1 h)

  on_output : (t : Handled S) (o : PlainOutput) → OutputIs K C o → P t → P (send_output t o)
  on_output t (output.Tell to priority words) is h = on_tell t to priority words is.targets.0 is.content h
  on_output t (output.TellMany places priority words) is h = on_tell_many t places priority words is.targets is.content h
  on_output t (output.Request to priority mode tag expected words) is h =
      on_if (may_issue t.snapshot) _ _
      (on_post _ to _ priority _ is.targets.0 (requested t.snapshot.place t.snapshot.pending.next priority words is.content) (on_issue t mode tag expected h)) h
  on_output t (output.Exit to why) is h = on_notify t to _ is.targets.0 (λ k. tt) h
  on_output t (output.Link to) is h =
      on_if (to == t.snapshot.place) _ _ h
      (on_notify _ to _ is.targets.0 (λ k. (k, tt)) (on_observers t (with_link t.snapshot.observers to) (all_with_place K _ to is.targets.0 (links t h)) (monitors t h) h))
  on_output t (output.Unlink to) is h =
      on_notify _ to _ is.targets.0 (λ k. tt) (on_observers t (without_link t.snapshot.observers to) (all_without_place K _ to (links t h)) (monitors t h) h)
  on_output t (output.Watch to) is h = on_if (to == t.snapshot.place) _ _ h (on_notify t to _ is.targets.0 (λ k. (k, tt)) h)
  on_output t (output.Unwatch to) is h = on_notify t to _ is.targets.0 (λ k. tt) h
  on_output t (output.Deliver requester number words) is h =
      on_settle_hold t requester number _ (take_hold t.snapshot.holds requester number) refl (λ p. replied_value t.snapshot.place p words is.content) h
  on_output t (output.Break requester number what) is h =
      on_settle_hold t requester number _ (take_hold t.snapshot.holds requester number) refl (λ p. replied_error t.snapshot.place p what) h
  on_output t (output.Spawn place) is h =
      on_if (has_place t.snapshot.unstarted place) _ _ (on_notify _ place _ is.targets.0 (λ k. tt) (on_unstarted t (without_place t.snapshot.unstarted place) h)) h
  on_output t (output.Tick to) is h = on_notify t to _ is.targets.0 (λ k. tt) h
  on_output t (output.Delay ticks to priority words) is h =
      on_delays t (delayed t.snapshot.delays (due_after t.snapshot.clock ticks) to priority words)
      (all_put (IsDelayed K C) is_due_before t.snapshot.delays _ (is.targets.0, is.content) (delays t h)) h
  on_output t (output.Within ticks to priority mode tag expected words) is h =
      on_if (may_issue t.snapshot) _ _
      (on_post _ to _ priority _ is.targets.0 (requested t.snapshot.place t.snapshot.pending.next priority words is.content) (on_issue_within t ticks mode tag expected h)) h

  on_outputs : (t : Handled S) (os : List PlainOutput) → AllByRecursion (OutputIs K C) os → P t → P (send_outputs t os)
  on_outputs t [] all h = h
  on_outputs t (o ∷ os) all h = on_outputs (send_output t o) os all.1 (on_output t o all.0 h)

  -- ---- answering

  on_refuse : (t : Handled S) (origin : Origin) (what : Sec) → AllByRecursion K (asked_by origin.mid) → P t → P (refuse t origin what)
  on_refuse t origin what k h = go (is_asked origin) k
    where
      go : (b : Bool) → AllByRecursion K (if b then origin.mid.requester ∷ [] else []) → P (if b then reply t (promised_to origin) («plain».Failure what) else t)
      go true k = on_error t (promised_to origin) what k.0 h
      go false k = h

  on_answer_request : (t : Handled S) (p : Promised) (words : List ℕ) (a : PlainAnswer) → nat_lt 0 p.mid.number ≡ true → K p.mid.requester → C («plain».Content words) → AnswerIs K C a → P t
      → P (answer_request t p words a)
  on_answer_request t p words (answered.Value value) asked k c is h = on_post t _ _ _ _ k (replied_value t.snapshot.place p value is.content) h
  on_answer_request t p words (answered.Error what) asked k c is h = on_error t p what k h
  on_answer_request t p words (answered.Delegate to) asked k c is h = on_post t to _ _ _ is.targets.0 (handed_on t.snapshot.place p.mid p.priority words asked k c) h
  on_answer_request t p words answered.Hold asked k c is h = on_holds t (with_hold t.snapshot.holds p) (all_put (IsHeld K C) is_before t.snapshot.holds p k (held t h)) h
  on_answer_request t p words answered.Nothing asked k c is h = h

  on_answer_tell : (t : Handled S) (origin : Origin) (words : List ℕ) (a : PlainAnswer) → C («plain».Content words) → AnswerIs K C a → P t → P (answer_tell t origin words a)
  on_answer_tell t origin words (answered.Value value) c is h = h
  on_answer_tell t origin words (answered.Error what) c is h = h
  on_answer_tell t origin words (answered.Delegate to) c is h = on_tell t to origin.priority words is.targets.0 c h
  on_answer_tell t origin words answered.Hold c is h = h
  on_answer_tell t origin words answered.Nothing c is h = h

  on_answer : (t : Handled S) (origin : Origin) (words : List ℕ) (a : PlainAnswer) → AllByRecursion K (asked_by origin.mid) → C («plain».Content words) → AnswerIs K C a → P t
      → P (answer t origin words a)
  on_answer t origin words a k c is h = go (is_asked origin) refl k
    where
      go : (b : Bool) → is_asked origin ≡ b → AllByRecursion K (if b then origin.mid.requester ∷ [] else [])
          → P (if b then answer_request t (promised_to origin) words a else answer_tell t origin words a)
      go true e k = on_answer_request t (promised_to origin) words a e k.0 c is h
      go false e k = on_answer_tell t origin words a c is h

  -- ---- quitting

  on_shell_notice : (t : Handled S) (why : Reason) (n : Notice) → AllByRecursion K (told_later n) → P t → P (shell_notice t why n)
  on_shell_notice t why notice.Start k h = h
  on_shell_notice t why notice.Stop k h = h
  on_shell_notice t why (notice.Exit from reason) k h = h
  on_shell_notice t why (notice.Link from) k h = on_notify t from _ k.0 (λ own. tt) h
  on_shell_notice t why (notice.Unlink from) k h = h
  on_shell_notice t why (notice.Watch from) k h = on_notify t from _ k.0 (λ own. tt) h
  on_shell_notice t why (notice.Unwatch from) k h = h
  on_shell_notice t why (notice.Down from reason) k h = h
  on_shell_notice t why (notice.Begin from) k h = h
  on_shell_notice t why (notice.Tick from) k h = h

  pub on_shell : (t : Handled S) (why : Reason) (origin : Origin) (body : Plain) → AllByRecursion K (leads_to origin.mid body) → P t → P (handle_shell t why origin body)
  on_shell t why origin («plain».Content words) k h = go origin.mid.response k
    where
      go : (b : Bool) → AllByRecursion K (if b then [] else asked_by origin.mid) → P (if b then t else refuse t origin sec.RequestReceiverDown)
      go true k = h
      go false k = on_refuse t origin sec.RequestReceiverDown k h
  on_shell t why origin («plain».Failure what) k h = h
  on_shell t why origin («plain».System n) k h = on_shell_notice t why n k h

  on_shell_all : (t : Handled S) (why : Reason) (es : List Taken) → AllByRecursion (IsKnown K C) es → P t → P (shell_all t why es)
  on_shell_all t why [] all h = h
  on_shell_all t why (e ∷ es) all h = on_shell_all (handle_shell t why (origin_of e) e.body) why es all.1 (on_shell t why (origin_of e) e.body all.0.0 h)

  on_breaks : (t : Handled S) (ps : List Promised) → AllByRecursion (IsHeld K C) ps → P t → P (break_holds t ps)
  on_breaks t [] all h = h
  on_breaks t (p ∷ ps) all h = on_breaks (reply t p («plain».Failure sec.BrokenPromise)) ps all.1 (on_error t p sec.BrokenPromise all.0 h)

  on_notify_all : (t : Handled S) (ns : List (ℕ × Notice)) → AllByRecursion (λ (n : ℕ × Notice). K n.0 × (told_later n.1 ≡ [])) ns → P t → P (notify_all t ns)
  on_notify_all t [] all h = h
  on_notify_all t (n ∷ ns) all h = on_notify_all (notify t n.0 n.1) ns all.1 (on_notify t n.0 n.1 all.0.0 (λ own. rw all.0.1 tt) h)

  ends_all : (say : ℕ → Notice) → ((p : ℕ) → told_later (say p) ≡ []) → (places : List ℕ) → AllByRecursion K places
      → AllByRecursion (λ (n : ℕ × Notice). K n.0 × (told_later n.1 ≡ [])) (map (λ p. (p, say p)) places)
  ends_all say ends [] all = tt
  ends_all say ends (p ∷ ps) all = ((all.0, ends p), ends_all say ends ps all.1)

  on_farewell : (t : Handled S) (why : Reason) → P t → P (notify_all t (farewell t.snapshot.observers t.snapshot.place why))
  on_farewell t why h =
      on_notify_all t (farewell t.snapshot.observers t.snapshot.place why)
      (all_append (λ (n : ℕ × Notice). K n.0 × (told_later n.1 ≡ [])) _ _
      (ends_all (λ p. notice.Exit t.snapshot.place why) (λ p. refl) t.snapshot.observers.links (links t h))
      (ends_all (λ p. notice.Down t.snapshot.place why) (λ p. refl) t.snapshot.observers.monitors (monitors t h))) h

  pub on_quit_with : (t : Handled S) (why : Reason) → P t → P (quit_with t why)
  on_quit_with t why h =
      let broken = break_holds (with_snapshot t (emptied t.snapshot why)) t.snapshot.holds in
      let all = all_append (IsKnown K C) t.snapshot.caches.urgent t.snapshot.caches.normal (cached t h).0 (cached t h).1 in
      on_farewell (shell_all broken why (all_cached t.snapshot.caches)) why
      (on_shell_all broken why (all_cached t.snapshot.caches) all (on_breaks (with_snapshot t (emptied t.snapshot why)) t.snapshot.holds (held t h) (on_emptied t why h)))

  pub on_quit_where : (t : Handled S) (quit : Option Reason) → P t → P (quit_where t quit)
  on_quit_where t None h = h
  on_quit_where t (Some why) h = on_quit_with t why h

  -- ---- reacting

  -- what follows once the behaviour took an input that is no content
  pub on_reaction : (t : Handled S) (r : PlainReaction) → ReactionIs K C r → P t → P (quit_where (send_outputs t r.outputs) r.quit)
  on_reaction t r is h = on_quit_where (send_outputs t r.outputs) r.quit (on_outputs t r.outputs is.outputs h)

  -- and where it is content
  pub on_content_reaction : (t : Handled S) (origin : Origin) (words : List ℕ) (r : PlainReaction) → AllByRecursion K (asked_by origin.mid) → C («plain».Content words) → ReactionIs K C r → P t
      → P (quit_where (answer (send_outputs t r.outputs) origin words r.answer) r.quit)
  on_content_reaction t origin words r k c is h = on_quit_where _ r.quit (on_answer _ origin words r.answer k c is.answer (on_outputs t r.outputs is.outputs h))

module _ {S : Type 0} (rules : Rules S) (K : ℕ → Type 0) (C : Plain → Type 0) (P : Handled S → Type 0) (keeps : Keeps K C P) (reacts : Reacts K C rules P) where
  open keeps use {links, monitors, delays, on_observers, on_delays}
  open reacts use {on_behavior}

  on_either : (b : Bool) (t u : Handled S) → P t → P u → P (if b then t else u)
  on_either true t u h k = h
  on_either false t u h k = k

  pub on_give : (t : Handled S) (i : PlainInput) → MayBeGiven rules t.snapshot.behavior i → InputIs K C i → P t → P (give rules t i)
  on_give t i may is h = let both = on_behavior t i may is h in on_reaction K C P keeps _ (rules.reaction t.snapshot.behavior i) both.0 both.1

  on_give_content : (t : Handled S) (origin : Origin) (words : List ℕ) → is_input (rules.interface t.snapshot.behavior) (ids_in words) ≡ true
      → AllByRecursion K (asked_by origin.mid) → C («plain».Content words) → P t → P (give_content rules t origin words)
  on_give_content t origin words may k c h =
      let i = PlainInput.Content origin words in
      let both = on_behavior t i may c h in on_content_reaction K C P keeps _ origin words (rules.reaction t.snapshot.behavior i) k c both.0 both.1

  pub on_content : (t : Handled S) (origin : Origin) (words : List ℕ) → AllByRecursion K (asked_by origin.mid) → C («plain».Content words) → P t → P (handle_content rules t origin words)
  on_content t origin words k c h = go (is_input (rules.interface t.snapshot.behavior) (ids_in words)) refl
    where
      go : (b : Bool) → is_input (rules.interface t.snapshot.behavior) (ids_in words) ≡ b → P (handle_content rules t origin words)
      go true e = rw e (on_give_content t origin words e k c h)
      go false e = rw e (on_refuse K C P keeps t origin sec.UnexpectedMessage k h)

  -- a response or a failure may always be given
  response_may : (s : S) (w : Waiting) (words : List ℕ) → MayBeGiven rules s (response_input w words)
  response_may s w words = go (bytes_eq (ids_of w.expected) (ids_in words)) refl
    where
      go : (b : Bool) → bytes_eq (ids_of w.expected) (ids_in words) ≡ b → MayBeGiven rules s (response_input w words)
      go true e = rw e tt
      go false e = rw e tt

  response_is : (w : Waiting) (words : List ℕ) → C («plain».Content words) → InputIs K C (response_input w words)
  response_is w words c = go (bytes_eq (ids_of w.expected) (ids_in words)) refl
    where
      go : (b : Bool) → bytes_eq (ids_of w.expected) (ids_in words) ≡ b → InputIs K C (response_input w words)
      go true e = rw e c
      go false e = rw e tt

  -- ---- the end of a tick

  pub on_deliver : (n : ℕ) (t : Handled S) → P t → P (deliver_for n t)
  on_deliver zero t h = h
  on_deliver (suc n) t h = go (on_deliver n) (next_delay t.snapshot.delays t.snapshot.clock) refl
    where
      go : ((u : Handled S) → P u → P (deliver_for n u)) → (r : Option (PlainDelay × List PlainDelay)) → next_delay t.snapshot.delays t.snapshot.clock ≡ r → P (deliver_for (suc n) t)
      go later None e = rw e h
      go later (Some next) e =
          let both = next_in (IsDelayed K C) t.snapshot.delays t.snapshot.clock next e (delays t h) in
          rw e (later (send_delayed t next) (on_tell K C P keeps _ next.0.to next.0.priority next.0.content both.0.0 both.0.1 (on_delays t next.1 both.1 h)))

  pub on_hear : (t : Handled S) → P t → P (hear_tick rules t)
  on_hear t h = on_either (t.snapshot.place == 0 && is_none t.snapshot.quit) _ _ (on_give t _ tt tt h) h

  -- ---- exits

  on_leave : (t : Handled S) (why : Reason) → P t → P (leave_for t why)
  on_leave t reason.Normal h = h
  on_leave t reason.UserShutdown h = on_quit_with K C P keeps t _ h
  on_leave t reason.Kill h = on_quit_with K C P keeps t _ h
  on_leave t reason.Failed h = on_quit_with K C P keeps t _ h

  pub on_exit : (t : Handled S) (from : ℕ) (why : Reason) → P t → P (handle_exit t from why)
  on_exit t from why h =
      on_either (t.snapshot.place == 0) _ _ h
      (on_leave _ why (on_observers t (without_link t.snapshot.observers from) (all_without_place K _ from (links t h)) (monitors t h) h))

module _ {S : Type 0} (rules : Rules S) (K : ℕ → Type 0) (C : Plain → Type 0) (P : Handled S → Type 0) (keeps : Keeps K C P) (reacts : Reacts K C rules P) (too : KeepsToo K C P) where
  open keeps use {links, monitors, on_observers}
  open too use {on_resolved, on_expired, on_begun, on_clock}

  on_whether : (b : Bool) (t u : Handled S) → P t → P u → P (if b then t else u)
  on_whether true t u h k = h
  on_whether false t u h k = k

  on_resolve : (t : Handled S) (number : ℕ) (input : Waiting → PlainInput) → ((w : Waiting) → MayBeGiven rules t.snapshot.behavior (input w)) → ((w : Waiting) → InputIs K C (input w))
      → (found : Option (Waiting × WaitingRequests)) → resolved t.snapshot.pending number ≡ found → P t → P (resolve_with rules t input found)
  on_resolve t number input may is None e h = h
  on_resolve t number input may is (Some found) e h = on_give rules K C P keeps reacts _ _ (may found.0) (is found.0) (on_resolved t number found e h)

  -- ---- ticks

  on_time_out : (t : Handled S) (found : Waiting × WaitingRequests) → next_due t.snapshot ≡ Some found → P t → P (time_out rules t found)
  on_time_out t found e h = on_give rules K C P keeps reacts _ _ tt tt (on_expired t found e h)

  on_expire : (n : ℕ) (t : Handled S) → P t → P (expire_for rules n t)
  on_expire zero t h = h
  on_expire (suc n) t h = go (on_expire n) (next_due t.snapshot) refl
    where
      go : ((u : Handled S) → P u → P (expire_for rules n u)) → (r : Option (Waiting × WaitingRequests)) → next_due t.snapshot ≡ r → P (expire_for rules (suc n) t)
      go later None e = rw e h
      go later (Some found) e = rw e (later (time_out rules t found) (on_time_out t found e h))

  on_tick : (t : Handled S) → P t → P (handle_tick rules t)
  on_tick t h =
      let started = advance t in
      let expired = expire_all rules started in
      on_hear rules K C P keeps reacts (deliver_all expired) (on_deliver rules K C P keeps reacts (length expired.snapshot.delays) expired (on_expire (due_count started.snapshot) started (on_clock t h)))

  -- ---- notices

  on_notice : (t : Handled S) (n : Notice) → AllByRecursion K (told_later n) → P t → P (handle_notice rules t n)
  on_notice t notice.Start k h = on_give rules K C P keeps reacts t _ tt tt h
  on_notice t notice.Stop k h = on_give rules K C P keeps reacts t _ tt tt h
  on_notice t (notice.Exit from why) k h = on_exit rules K C P keeps reacts t from why h
  on_notice t (notice.Link from) k h = on_observers t (with_link t.snapshot.observers from) (all_with_place K _ from k.0 (links t h)) (monitors t h) h
  on_notice t (notice.Unlink from) k h = on_observers t (without_link t.snapshot.observers from) (all_without_place K _ from (links t h)) (monitors t h) h
  on_notice t (notice.Watch from) k h = on_observers t (with_monitor t.snapshot.observers from) (links t h) (all_with_place K _ from k.0 (monitors t h)) h
  on_notice t (notice.Unwatch from) k h = on_observers t (without_monitor t.snapshot.observers from) (links t h) (all_without_place K _ from (monitors t h)) h
  on_notice t (notice.Down from why) k h = on_give rules K C P keeps reacts t _ tt tt h
  on_notice t (notice.Begin from) k h = on_begun t h
  on_notice t (notice.Tick from) k h = on_tick t h

  -- ---- one envelope

  on_body : (t : Handled S) (origin : Origin) (body : Plain) → AllByRecursion K (leads_to origin.mid body) → C body → P t → P (handle_body rules t origin body)
  on_body t origin («plain».System n) k c h = on_notice t n k h
  on_body t origin («plain».Failure what) k c h =
      on_resolve t origin.mid.number _ (λ w. tt) (λ w. tt) (resolved t.snapshot.pending origin.mid.number) refl h
  on_body t origin («plain».Content words) k c h = go origin.mid.response k
    where
      resolving : P (resolve_with rules t (λ w. response_input w words) (resolved t.snapshot.pending origin.mid.number))
      resolving = on_resolve t origin.mid.number _ (λ w. response_may rules K C P keeps reacts t.snapshot.behavior w words) (λ w. response_is rules K C P keeps reacts w words c) (resolved t.snapshot.pending origin.mid.number) refl h

      go : (b : Bool) → AllByRecursion K (if b then [] else asked_by origin.mid)
          → P (if b then resolve_with rules t (λ w. response_input w words) (resolved t.snapshot.pending origin.mid.number) else handle_content rules t origin words)
      go true k = resolving
      go false k = on_content rules K C P keeps reacts t origin words k c h

  on_where : (t : Handled S) (quit : Option Reason) (origin : Origin) (body : Plain) → AllByRecursion K (leads_to origin.mid body) → C body → P t → P (handle_where rules t quit origin body)
  on_where t None origin body k c h = on_body t origin body k c h
  on_where t (Some why) origin body k c h = on_shell K C P keeps t why origin body k h

  pub on_one : (t : Handled S) (e : Taken) → IsKnown K C e → P t → P (handle_one rules t e)
  on_one t e is h = on_where t t.snapshot.quit (origin_of e) e.body is.0 is.1 h

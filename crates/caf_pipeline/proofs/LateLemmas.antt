-- What an actor does with what comes after Stop: notices other than ticks, and errors. It posts such envelopes alone.
use Rattle.std.proofs.Common.{◌≡◌, ℕ, ◌==◌, Bool, true, false, List, [], ◌∷◌, ◌++◌, map, Option, Some, None, refl, subst}
use Rattle.std.specs.List.{AllByRecursion}
use Rattle.caf_types.specs.declared.notice.Mid.{Mid}
use Rattle.caf_types.specs.declared.notice.Notice.{Notice}
use Rattle.caf_types.specs.declared.notice.Notice.TheVariants as notice
use Rattle.caf_types.specs.declared.notice.Priority.{Priority}
use Rattle.caf_types.specs.declared.reason.Reason.{Reason}
use Rattle.caf_types.specs.declared.reason.Reason.TheVariants as reason
use Rattle.caf_types.specs.declared.sec.Sec.{Sec}
use Rattle.caf_types.specs.declared.sec.Sec.TheVariants.{BrokenPromise}
use Rattle.caf_message.specs.declared.envelope.Plain.{Plain}
use Rattle.caf_message.specs.declared.envelope.Plain.TheVariants as «plain»
use Rattle.caf_message.specs.declared.envelope.Taken.{Taken}
use Rattle.caf_mailbox.specs.Caches.{CachedLists, next_of}
use Rattle.caf_mailbox.proofs.NextLemmas.{AllCached, all_append, all_next, all_filed}
use Rattle.caf_response.specs.declared.pending.Waiting.{Waiting}
use Rattle.caf_response.specs.Pending.{WaitingRequests, resolved, forgotten}
use Rattle.caf_response.specs.Promised.{Promised}
use Rattle.caf_actor.specs.declared.origin.Origin.{Origin}
use Rattle.caf_actor.specs.declared.snapshot.Snapshot.{Snapshot}
use Rattle.caf_actor.specs.Answering.{origin_of}
use Rattle.caf_actor.specs.Drain.{with_batch, batch_of}
use Rattle.caf_actor.specs.Eligibility.{is_eligible, with_caches, next_envelope}
use Rattle.caf_actor.specs.Handling.{resolve_with, failure_input, leave_for, handle_exit, handle_notice, handle_body, handle_where, handle_one}
use Rattle.caf_actor.specs.PlainInput.{PlainInput, Start, Stop, Down}
use Rattle.caf_actor.specs.PlainOutput.{PlainOutput}
use Rattle.caf_actor.specs.PlainOutput as output
use Rattle.caf_actor.specs.Quitting.{shell_notice, handle_shell, shell_all, break_holds, notify_all, emptied, say_farewell, quit_with, quit_where}
use Rattle.caf_actor.specs.Reacting.{react, give}
use Rattle.caf_actor.specs.Rules.{Rules, IsExit}
use Rattle.caf_actor.specs.Sending.{post, posting, notify, reply, send_output, send_outputs}
use Rattle.caf_actor.specs.Snapshot.{Handled, so_far, with_snapshot, cached}
use Rattle.caf_actor.proofs.DrainLemmas.{drain_keeps}

-- no content, and no tick
abbrev pub IsLateBody : Plain → Type 0
IsLateBody («plain».Content words) = ⊥
IsLateBody («plain».Failure sec) = Unit {0}
IsLateBody («plain».System (notice.Tick from)) = ⊥
IsLateBody («plain».System _) = Unit {0}

abbrev pub IsLate : Taken → Type 0
IsLate e = IsLateBody e.body

-- an input that a notice brings
abbrev pub IsNoticed : PlainInput → Type 0
IsNoticed Start = Unit {0}
IsNoticed Stop = Unit {0}
IsNoticed (Down from why) = Unit {0}
IsNoticed _ = ⊥

module _ {S : Type 0} (rules : Rules S) (Idle : S → WaitingRequests → Type 0) where
  -- at notices and errors it sends exits alone, and stays so
  pub record StaysIdle : Type 0 where
    pub outputs : (b : S) (w : WaitingRequests) (i : PlainInput) → Idle b w → IsNoticed i → AllByRecursion IsExit (rules.reaction b i).outputs
    pub next : (b : S) (w : WaitingRequests) (i : PlainInput) → Idle b w → IsNoticed i → Idle (rules.next b i) w
    pub failed : (b : S) (w : WaitingRequests) (number : ℕ) (found : Waiting × WaitingRequests) (sec : Sec) → Idle b w → resolved w number ≡ Some found
        → AllByRecursion IsExit (rules.reaction b (failure_input found.0 sec)).outputs
    pub failed_next : (b : S) (w : WaitingRequests) (number : ℕ) (found : Waiting × WaitingRequests) (sec : Sec) → Idle b w → resolved w number ≡ Some found
        → Idle (rules.next b (failure_input found.0 sec)) found.1
    pub forgets : (b : S) (w : WaitingRequests) → Idle b w → Idle b (forgotten w)

  pub record IsWindingDown (t : Handled S) : Type 0 where
    pub idle : Idle t.snapshot.behavior t.snapshot.pending
    pub cached : AllCached IsLate t.snapshot.caches
    pub posts : AllByRecursion (λ p. IsLateBody p.envelope.body) t.posts

  -- ---- sending

  post_late : (t : Handled S) (to : ℕ) (mid : Mid) (priority : Priority) (body : Plain) → IsLateBody body → IsWindingDown t → IsWindingDown (post t to mid priority body)
  post_late t to mid priority body late h =
      record { idle = h.idle; cached = h.cached; posts = all_append (λ p. IsLateBody p.envelope.body) t.posts (posting t.snapshot to mid priority body ∷ []) h.posts (late, tt) }

  output_late : (t : Handled S) (o : PlainOutput) → IsExit o → IsWindingDown t → IsWindingDown (send_output t o)
  output_late t (output.Exit to why) is h = post_late t to _ _ _ tt h
  output_late t (output.Tell to priority words) is h = absurd is
  output_late t (output.TellMany places priority words) is h = absurd is
  output_late t (output.Request to priority mode tag expected words) is h = absurd is
  output_late t (output.Link to) is h = absurd is
  output_late t (output.Unlink to) is h = absurd is
  output_late t (output.Watch to) is h = absurd is
  output_late t (output.Unwatch to) is h = absurd is
  output_late t (output.Deliver requester number words) is h = absurd is
  output_late t (output.Break requester number sec) is h = absurd is
  output_late t (output.Spawn place) is h = absurd is
  output_late t (output.Tick to) is h = absurd is
  output_late t (output.Delay ticks to priority words) is h = absurd is
  output_late t (output.Within ticks to priority mode tag expected words) is h = absurd is

  outputs_late : (t : Handled S) (os : List PlainOutput) → AllByRecursion IsExit os → IsWindingDown t → IsWindingDown (send_outputs t os)
  outputs_late t [] all h = h
  outputs_late t (o ∷ os) all h = outputs_late (send_output t o) os all.1 (output_late t o all.0 h)

  -- ---- quitting

  holds_late : (t : Handled S) (ps : List Promised) → IsWindingDown t → IsWindingDown (break_holds t ps)
  holds_late t [] h = h
  holds_late t (p ∷ ps) h = holds_late (reply t p («plain».Failure BrokenPromise)) ps (post_late t _ _ _ _ tt h)

  notice_shell_late : (t : Handled S) (why : Reason) (n : Notice) → IsWindingDown t → IsWindingDown (shell_notice t why n)
  notice_shell_late t why (notice.Link from) h = post_late t from _ _ _ tt h
  notice_shell_late t why (notice.Watch from) h = post_late t from _ _ _ tt h
  notice_shell_late t why notice.Start h = h
  notice_shell_late t why notice.Stop h = h
  notice_shell_late t why (notice.Exit from r) h = h
  notice_shell_late t why (notice.Unlink from) h = h
  notice_shell_late t why (notice.Unwatch from) h = h
  notice_shell_late t why (notice.Down from r) h = h
  notice_shell_late t why (notice.Begin from) h = h
  notice_shell_late t why (notice.Tick from) h = h

  shell_late : (t : Handled S) (why : Reason) (origin : Origin) (body : Plain) → IsLateBody body → IsWindingDown t → IsWindingDown (handle_shell t why origin body)
  shell_late t why origin («plain».Content words) late h = absurd late
  shell_late t why origin («plain».Failure sec) late h = h
  shell_late t why origin («plain».System n) late h = notice_shell_late t why n h

  shell_all_late : (t : Handled S) (why : Reason) (es : List Taken) → AllByRecursion IsLate es → IsWindingDown t → IsWindingDown (shell_all t why es)
  shell_all_late t why [] all h = h
  shell_all_late t why (e ∷ es) all h = shell_all_late (handle_shell t why (origin_of e) e.body) why es all.1 (shell_late t why (origin_of e) e.body all.0 h)

  abbrev IsLateNotice : ℕ × Notice → Type 0
  IsLateNotice n = IsLateBody («plain».System n.1)

  notify_late : (t : Handled S) (ns : List (ℕ × Notice)) → AllByRecursion IsLateNotice ns → IsWindingDown t → IsWindingDown (notify_all t ns)
  notify_late t [] all h = h
  notify_late t (n ∷ ns) all h = notify_late (notify t n.0 n.1) ns all.1 (post_late t n.0 _ _ _ all.0 h)

  told_late : (f : ℕ → ℕ × Notice) → ((place : ℕ) → IsLateNotice (f place)) → (places : List ℕ) → AllByRecursion IsLateNotice (map f places)
  told_late f each [] = tt
  told_late f each (p ∷ places) = (each p, told_late f each places)

  farewell_late : (t : Handled S) (why : Reason) → IsWindingDown t → IsWindingDown (say_farewell t why)
  farewell_late t why h =
      let me = t.snapshot.place in
      notify_late t _
      (all_append IsLateNotice (map (λ place. (place, notice.Exit me why)) t.snapshot.observers.links) (map (λ place. (place, notice.Down me why)) t.snapshot.observers.monitors)
      (told_late (λ place. (place, notice.Exit me why)) (λ place. tt) t.snapshot.observers.links) (told_late (λ place. (place, notice.Down me why)) (λ place. tt) t.snapshot.observers.monitors)) h

  module _ (stays : StaysIdle) where
    quit_late : (t : Handled S) (why : Reason) → IsWindingDown t → IsWindingDown (quit_with t why)
    quit_late t why h =
        let emptied_now : IsWindingDown (with_snapshot t (emptied t.snapshot why)) = record { idle = stays.forgets t.snapshot.behavior t.snapshot.pending h.idle; cached = (tt, tt); posts = h.posts } in
        let broken = holds_late (with_snapshot t (emptied t.snapshot why)) t.snapshot.holds emptied_now in
        farewell_late _ why (shell_all_late _ why (t.snapshot.caches.urgent ++ t.snapshot.caches.normal) (all_append IsLate t.snapshot.caches.urgent t.snapshot.caches.normal h.cached.0 h.cached.1) broken)

    quit_where_late : (t : Handled S) (q : Option Reason) → IsWindingDown t → IsWindingDown (quit_where t q)
    quit_where_late t None h = h
    quit_where_late t (Some why) h = quit_late t why h

    -- ---- one envelope

    give_late : (t : Handled S) (i : PlainInput) → Idle (rules.next t.snapshot.behavior i) t.snapshot.pending → AllByRecursion IsExit (rules.reaction t.snapshot.behavior i).outputs
        → AllCached IsLate t.snapshot.caches → AllByRecursion (λ p. IsLateBody p.envelope.body) t.posts → IsWindingDown (give rules t i)
    give_late t i next all lists posts =
        quit_where_late (react rules t i) (rules.reaction t.snapshot.behavior i).quit
        (outputs_late (with_snapshot t (record t.snapshot { behavior = rules.next t.snapshot.behavior i })) (rules.reaction t.snapshot.behavior i).outputs all
        (record { idle = next; cached = lists; posts = posts }))

    noticed_late : (t : Handled S) (i : PlainInput) → IsNoticed i → IsWindingDown t → IsWindingDown (give rules t i)
    noticed_late t i is h =
        give_late t i (stays.next t.snapshot.behavior t.snapshot.pending i h.idle is) (stays.outputs t.snapshot.behavior t.snapshot.pending i h.idle is) h.cached h.posts

    leave_late : (t : Handled S) (why : Reason) → IsWindingDown t → IsWindingDown (leave_for t why)
    leave_late t reason.Normal h = h
    leave_late t reason.UserShutdown h = quit_late t reason.UserShutdown h
    leave_late t reason.Kill h = quit_late t reason.Kill h
    leave_late t reason.Failed h = quit_late t reason.Failed h

    exit_late : (t : Handled S) (from : ℕ) (why : Reason) → IsWindingDown t → IsWindingDown (handle_exit t from why)
    exit_late t from why h = go (t.snapshot.place == 0) refl
      where
        go : (b : Bool) → (t.snapshot.place == 0) ≡ b → IsWindingDown (handle_exit t from why)
        go true q = rw q h
        go false q = rw q (leave_late (with_snapshot t (record t.snapshot { observers = _ })) why (record { idle = h.idle; cached = h.cached; posts = h.posts }))

    notice_late : (t : Handled S) (n : Notice) → IsLateBody («plain».System n) → IsWindingDown t → IsWindingDown (handle_notice rules t n)
    notice_late t notice.Start late h = noticed_late t Start tt h
    notice_late t notice.Stop late h = noticed_late t Stop tt h
    notice_late t (notice.Exit from why) late h = exit_late t from why h
    notice_late t (notice.Link from) late h = record { idle = h.idle; cached = h.cached; posts = h.posts }
    notice_late t (notice.Unlink from) late h = record { idle = h.idle; cached = h.cached; posts = h.posts }
    notice_late t (notice.Watch from) late h = record { idle = h.idle; cached = h.cached; posts = h.posts }
    notice_late t (notice.Unwatch from) late h = record { idle = h.idle; cached = h.cached; posts = h.posts }
    notice_late t (notice.Down from why) late h = noticed_late t (Down from why) tt h
    notice_late t (notice.Begin from) late h = record { idle = h.idle; cached = h.cached; posts = h.posts }
    notice_late t (notice.Tick from) late h = absurd late

    failure_late : (t : Handled S) (number : ℕ) (sec : Sec) (r : Option (Waiting × WaitingRequests)) → resolved t.snapshot.pending number ≡ r → IsWindingDown t
        → IsWindingDown (resolve_with rules t (λ w. failure_input w sec) r)
    failure_late t number sec None q h = h
    failure_late t number sec (Some found) q h =
        give_late (with_snapshot t (record t.snapshot { pending = found.1 })) (failure_input found.0 sec)
        (stays.failed_next t.snapshot.behavior t.snapshot.pending number found sec h.idle q) (stays.failed t.snapshot.behavior t.snapshot.pending number found sec h.idle q) h.cached h.posts

    one_late : (t : Handled S) (e : Taken) → IsLate e → IsWindingDown t → IsWindingDown (handle_one rules t e)
    one_late t e late h = by t.snapshot.quit e.body late
      where
        body : (b : Plain) → IsLateBody b → IsWindingDown (handle_body rules t (origin_of e) b)
        body («plain».System n) l = notice_late t n l h
        body («plain».Failure sec) l = failure_late t e.mid.number sec (resolved t.snapshot.pending e.mid.number) refl h
        body («plain».Content words) l = absurd l

        by : (q : Option Reason) (b : Plain) → IsLateBody b → IsWindingDown (handle_where rules t q (origin_of e) b)
        by None b l = body b l
        by (Some why) b l = shell_late t why (origin_of e) b l h

    -- ---- a batch

    turn_late : (t : Handled S) (n : Taken × Snapshot S) → next_envelope rules t.snapshot ≡ Some n → IsWindingDown t → IsWindingDown (handle_one rules (with_snapshot t n.1) n.0)
    turn_late t n e h = go (next_of (is_eligible rules t.snapshot) t.snapshot.caches) refl e
      where
        go : (r : Option (Taken × CachedLists)) → next_of (is_eligible rules t.snapshot) t.snapshot.caches ≡ r → with_caches t.snapshot r ≡ Some n → IsWindingDown (handle_one rules (with_snapshot t n.1) n.0)
        go None f g = cc
        go (Some r) f g =
            let same : (r.0, record t.snapshot { caches = r.1 }) ≡ n = cc in
            let left = all_next (is_eligible rules t.snapshot) IsLate t.snapshot.caches r h.cached f in
            subst (λ (u : Taken × Snapshot S). IsWindingDown (handle_one rules (with_snapshot t u.1) u.0)) same
            (one_late (with_snapshot t (record t.snapshot { caches = r.1 })) r.0 left.0 (record { idle = h.idle; cached = left.1; posts = h.posts }))

    pub batch_late : (s : Snapshot S) (batch : List Taken) → Idle s.behavior s.pending → AllCached IsLate s.caches → AllByRecursion IsLate batch → IsWindingDown (batch_of rules s batch)
    batch_late s batch idle lists all =
        drain_keeps rules IsWindingDown turn_late (cached (with_batch s batch)) (so_far (with_batch s batch) [])
        (record { idle = idle; cached = all_filed IsLate s.caches batch lists all; posts = tt })

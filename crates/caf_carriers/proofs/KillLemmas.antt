-- Stop leads to an exit with `kill` to each other place, and that to its quitting: one actor.
use Rattle.std.proofs.Common.{◌≡◌, ◌≢◌, ℕ, ◌+◌, ◌≤◌, ◌∙◌, sym, ap, subst, ◌==◌, Bool, true, false, List, [], ◌∷◌, filter, count_by, Option, Some, None, is_some, refl, arith, ◌⊎◌, inl, inr}
use Rattle.std.specs.List.{AllByRecursion}
use Rattle.caf_types.specs.declared.notice.Notice.{Notice}
use Rattle.caf_types.specs.declared.notice.Notice.TheVariants as notice
use Rattle.caf_types.specs.declared.reason.Reason.{Reason}
use Rattle.caf_types.specs.declared.reason.Reason.TheVariants as reason
use Rattle.caf_types.specs.declared.sec.Sec.TheVariants as sec
use Rattle.caf_message.specs.declared.envelope.Taken.{Taken}
use Rattle.caf_message.specs.declared.envelope.Plain.{Plain}
use Rattle.caf_message.specs.declared.envelope.Plain.TheVariants as «plain»
use Rattle.caf_message.specs.Envelope.{is_system_body}
use Rattle.caf_message.specs.Lists.{pick}
use Rattle.caf_message.specs.Outside.{is_stop_body}
use Rattle.caf_mailbox.specs.Caches.{CachedLists, is_urgent, is_normal, filed, next_of}
use Rattle.caf_response.specs.Pending.{top_number}
use Rattle.caf_response.specs.Promised.{Promised}
use Rattle.caf_response.proofs.NumberLemmas.{picked}
use Rattle.caf_actor.specs.declared.origin.Origin.{Origin}
use Rattle.caf_actor.specs.declared.snapshot.Snapshot.{Snapshot}
use Rattle.caf_observe.specs.Observers.{without_link, farewell}
use Rattle.caf_actor.specs.Rules.{Rules}
use Rattle.caf_actor.specs.Snapshot.{Handled, so_far, with_snapshot, cached}
use Rattle.caf_actor.specs.Eligibility.{is_eligible, is_eligible_when, with_caches, next_envelope}
use Rattle.caf_actor.specs.Sending.{notify, reply}
use Rattle.caf_actor.specs.Answering.{origin_of, is_asked}
use Rattle.caf_actor.specs.Quitting.{shell_notice, handle_shell, shell_all, break_holds, all_cached, notify_all, emptied, quit_with}
use Rattle.caf_actor.specs.Handling.{handle_exit, handle_body, handle_where, handle_one}
use Rattle.caf_actor.specs.Drain.{with_batch, batch_of}
use Rattle.caf_actor.proofs.DrainLemmas.{drain_keeps}
use Rattle.caf_actor.proofs.QuitLemmas.{stays_one}
use Rattle.caf_actor.proofs.SimpleLemmas as simple
use Rattle.caf_carriers.proofs.CountLemmas.{one, count-cons, count-append, count-parts}

-- ---- which envelopes

abbrev pub kill_body : Plain → Bool
kill_body («plain».System (notice.Exit from reason.Kill)) = true
kill_body _ = false

abbrev pub is_kill : Taken → Bool
is_kill e = kill_body e.body

abbrev pub stops : Taken → Bool
stops e = is_stop_body e.body

-- how many of them are cached
abbrev pub listed : (Taken → Bool) → CachedLists → ℕ
listed test lists = count_by test lists.urgent + count_by test lists.normal

abbrev IsLess : (Taken → Bool) → CachedLists → Taken × CachedLists → Type 0
IsLess test lists r = listed test lists ≡ one (test r.0) + listed test r.1

pub listed_next : (test first : Taken → Bool) (lists : CachedLists) (r : Taken × CachedLists) → next_of first lists ≡ Some r → listed test lists ≡ one (test r.0) + listed test r.1
listed_next test first lists r q = go (pick first lists.urgent) refl (pick first lists.normal) refl
  where
    go : (u : Option (Taken × List Taken)) → pick first lists.urgent ≡ u → (m : Option (Taken × List Taken)) → pick first lists.normal ≡ m → IsLess test lists r
    go (Some u) e m f =
        let yes : ◌≡◌ {A = Option (Taken × CachedLists)} (Some (u.0, record { urgent = u.1; normal = lists.normal })) (Some r) = rw e at q in
        let is : (u.0, record { urgent = u.1; normal = lists.normal }) ≡ r = cc in
        let count = (picked first test lists.urgent u e).1 in
        let here : IsLess test lists (u.0, record { urgent = u.1; normal = lists.normal }) = omega arith in
        subst (IsLess test lists) is here
    go None e (Some m) f =
        let yes : ◌≡◌ {A = Option (Taken × CachedLists)} (Some (m.0, record { urgent = lists.urgent; normal = m.1 })) (Some r) = rw (e, f) at q in
        let is : (m.0, record { urgent = lists.urgent; normal = m.1 }) ≡ r = cc in
        let count = (picked first test lists.normal m f).1 in
        let here : IsLess test lists (m.0, record { urgent = lists.urgent; normal = m.1 }) = omega arith in
        subst (IsLess test lists) is here
    go None e None f = let no : ◌≡◌ {A = Option (Taken × CachedLists)} None (Some r) = rw (e, f) at q in cc

pub listed_filed : (test : Taken → Bool) (lists : CachedLists) (batch : List Taken) → listed test (filed lists batch) ≡ listed test lists + count_by test batch
listed_filed test lists batch =
    let urgent = count-append test lists.urgent (filter is_urgent batch) in
    let normal = count-append test lists.normal (filter is_normal batch) in
    let parts = count-parts test is_urgent batch in
    omega arith

-- ---- system notices are eligible at any time

eligible_system : {S : Type 0} (rules : Rules S) (s : Snapshot S) (e : Taken) → is_system_body e.body ≡ true → is_eligible rules s e ≡ true
eligible_system rules s e system = go (is_some s.quit)
  where
    go : (b : Bool) → is_eligible_when rules s.behavior s.has_begun b (top_number s.pending.awaited) e ≡ true
    go true = refl
    go false = rw system refl

pub none_counted : (test eligible : Taken → Bool) → ((e : Taken) → test e ≡ true → eligible e ≡ true) → (es : List Taken) → AllByRecursion (λ e. eligible e ≡ false) es → count_by test es ≡ 0
none_counted test eligible may [] h = refl
none_counted test eligible may (e ∷ es) h = go (test e) refl (none_counted test eligible may es h.1)
  where
    go : (b : Bool) → test e ≡ b → count_by test es ≡ 0 → count_by test (e ∷ es) ≡ 0
    go true q rest = let yes = may e q in let no : true ≡ false = sym yes ∙ h.0 in cc
    go false q rest = let all = count-cons test e es in let here : one (test e) ≡ 0 = ap one q in omega arith

-- so none is left where none is eligible
pub none_listed : {S : Type 0} (rules : Rules S) (s : Snapshot S) (test : Taken → Bool) → ((e : Taken) → test e ≡ true → is_system_body e.body ≡ true) → AllByRecursion (λ e. is_eligible rules s e ≡ false) (all_cached s.caches)
    → listed test s.caches ≡ 0
none_listed rules s test system idle =
    let none = none_counted test (is_eligible rules s) (λ e q. eligible_system rules s e (system e q)) (all_cached s.caches) idle in
    let sum = count-append test s.caches.urgent s.caches.normal in
    omega arith

pub kill_is_system : (e : Taken) → is_kill e ≡ true → is_system_body e.body ≡ true
kill_is_system e q = go e.body q
  where
    go : (b : Plain) → kill_body b ≡ true → is_system_body b ≡ true
    go («plain».Content words) q = cc
    go («plain».Failure what) q = cc
    go («plain».System what) q = refl

pub stop_is_system : (e : Taken) → stops e ≡ true → is_system_body e.body ≡ true
stop_is_system e q = go e.body q
  where
    go : (b : Plain) → is_stop_body b ≡ true → is_system_body b ≡ true
    go («plain».Content words) q = cc
    go («plain».Failure what) q = cc
    go («plain».System what) q = refl

-- ---- quitting

module _ {S : Type 0} where
  quit_shell_notice : (t : Handled S) (why : Reason) (m : Notice) → (shell_notice t why m).snapshot.quit ≡ t.snapshot.quit
  quit_shell_notice t why notice.Start = refl
  quit_shell_notice t why notice.Stop = refl
  quit_shell_notice t why (notice.Exit from reason) = refl
  quit_shell_notice t why (notice.Link from) = refl
  quit_shell_notice t why (notice.Unlink from) = refl
  quit_shell_notice t why (notice.Watch from) = refl
  quit_shell_notice t why (notice.Unwatch from) = refl
  quit_shell_notice t why (notice.Down from reason) = refl
  quit_shell_notice t why (notice.Begin from) = refl
  quit_shell_notice t why (notice.Tick from) = refl

  quit_shell : (t : Handled S) (why : Reason) (origin : Origin) (body : Plain) → (handle_shell t why origin body).snapshot.quit ≡ t.snapshot.quit
  quit_shell t why origin («plain».Content words) = go origin.mid.response refl (is_asked origin) refl
    where
      go : (b : Bool) → origin.mid.response ≡ b → (c : Bool) → is_asked origin ≡ c → (handle_shell t why origin («plain».Content words)).snapshot.quit ≡ t.snapshot.quit
      go true q c r = rw q refl
      go false q true r = rw (q, r) refl
      go false q false r = rw (q, r) refl
  quit_shell t why origin («plain».Failure what) = refl
  quit_shell t why origin («plain».System what) = quit_shell_notice t why what

  quit_shells : (t : Handled S) (why : Reason) (es : List Taken) → (shell_all t why es).snapshot.quit ≡ t.snapshot.quit
  quit_shells t why [] = refl
  quit_shells t why (e ∷ es) = quit_shells (handle_shell t why (origin_of e) e.body) why es ∙ quit_shell t why (origin_of e) e.body

  quit_breaks : (t : Handled S) (ps : List Promised) → (break_holds t ps).snapshot.quit ≡ t.snapshot.quit
  quit_breaks t [] = refl
  quit_breaks t (it ∷ ps) = quit_breaks (reply t it («plain».Failure sec.BrokenPromise)) ps

  quit_notifies : (t : Handled S) (ns : List (ℕ × Notice)) → (notify_all t ns).snapshot.quit ≡ t.snapshot.quit
  quit_notifies t [] = refl
  quit_notifies t (m ∷ ns) = quit_notifies (notify t m.0 m.1) ns

  quits_for : (t : Handled S) (why : Reason) → (quit_with t why).snapshot.quit ≡ Some why
  quits_for t why =
      let broken : Handled S = break_holds (with_snapshot t (emptied t.snapshot why)) t.snapshot.holds in
      let met : Handled S = shell_all broken why (all_cached t.snapshot.caches) in
      quit_notifies met (farewell met.snapshot.observers met.snapshot.place why) ∙ quit_shells broken why (all_cached t.snapshot.caches) ∙ quit_breaks (with_snapshot t (emptied t.snapshot why)) t.snapshot.holds

-- ---- another place: it quits for the exit

module _ {S : Type 0} (rules : Rules S) where
  abbrev pub Dying : Handled S → Type 0
  Dying t = (t.snapshot.quit ≢ None) ⊎ (1 ≤ listed is_kill t.snapshot.caches)

  dying_keeps : simple.Keeps {S = S} Dying
  dying_keeps = record {
    on_post = λ t to mid priority body h. h;
    on_holds = λ t holds h. h;
    on_issue = λ t mode tag expected h. h;
    on_issue_within = λ t ticks mode tag expected h. h;
    on_observers = λ t observers h. h;
    on_unstarted = λ t unstarted h. h;
    on_delays = λ t delays h. h;
    on_emptied = λ t why h. inl (λ e. cc);
  }

  dying_keeps_too : simple.KeepsToo {S = S} rules Dying
  dying_keeps_too = record {
    on_behavior = λ t i may h. h;
    on_resolved = λ t number found e h. h;
    on_expired = λ t found e h. h;
    on_begun = λ t h. h;
    on_clock = λ t h. h;
  }

  leaves_for_kill : (t : Handled S) (from : ℕ) → (t.snapshot.place == 0) ≡ false → (handle_exit t from reason.Kill).snapshot.quit ≡ Some reason.Kill
  leaves_for_kill t from away = rw away (quits_for (with_snapshot t (record t.snapshot { observers = without_link t.snapshot.observers from })) reason.Kill)

  killed : (t : Handled S) (origin : Origin) (body : Plain) → kill_body body ≡ true → (t.snapshot.place == 0) ≡ false → (handle_body rules t origin body).snapshot.quit ≢ None
  killed t origin («plain».Content words) q away = cc
  killed t origin («plain».Failure what) q away = cc
  killed t origin («plain».System notice.Start) q away = cc
  killed t origin («plain».System notice.Stop) q away = cc
  killed t origin («plain».System (notice.Exit from reason.Normal)) q away = cc
  killed t origin («plain».System (notice.Exit from reason.UserShutdown)) q away = cc
  killed t origin («plain».System (notice.Exit from reason.Failed)) q away = cc
  killed t origin («plain».System (notice.Exit from reason.Kill)) q away = λ none. let wrong : Some reason.Kill ≡ None = sym (leaves_for_kill t from away) ∙ none in cc
  killed t origin («plain».System (notice.Link from)) q away = cc
  killed t origin («plain».System (notice.Unlink from)) q away = cc
  killed t origin («plain».System (notice.Watch from)) q away = cc
  killed t origin («plain».System (notice.Unwatch from)) q away = cc
  killed t origin («plain».System (notice.Down from why)) q away = cc
  killed t origin («plain».System (notice.Begin from)) q away = cc
  killed t origin («plain».System (notice.Tick from)) q away = cc

  kill_turn : (t : Handled S) (e : Taken) → is_kill e ≡ true → (t.snapshot.place == 0) ≡ false → (handle_one rules t e).snapshot.quit ≢ None
  kill_turn t e q away = go t.snapshot.quit refl
    where
      go : (quit : Option Reason) → t.snapshot.quit ≡ quit → (handle_one rules t e).snapshot.quit ≢ None
      go (Some why) r = λ none. let still = (stays_one rules t.snapshot.behavior why t e (refl, r)).1 in let wrong : Some why ≡ None = sym still ∙ none in cc
      go None r = subst (λ (x : Option Reason). (handle_where rules t x (origin_of e) e.body).snapshot.quit ≢ None) (sym r) (killed t (origin_of e) e.body q away)

  -- it is another place, and dying
  abbrev pub DyingAt : Handled S → Type 0
  DyingAt t = ((t.snapshot.place == 0) ≡ false) × Dying t

  away_keeps : simple.Keeps {S = S} (λ t. (t.snapshot.place == 0) ≡ false)
  away_keeps = record {
    on_post = λ t to mid priority body h. h;
    on_holds = λ t holds h. h;
    on_issue = λ t mode tag expected h. h;
    on_issue_within = λ t ticks mode tag expected h. h;
    on_observers = λ t observers h. h;
    on_unstarted = λ t unstarted h. h;
    on_delays = λ t delays h. h;
    on_emptied = λ t why h. h;
  }

  away_keeps_too : simple.KeepsToo {S = S} rules (λ t. (t.snapshot.place == 0) ≡ false)
  away_keeps_too = record {
    on_behavior = λ t i may h. h;
    on_resolved = λ t number found e h. h;
    on_expired = λ t found e h. h;
    on_begun = λ t h. h;
    on_clock = λ t h. h;
  }

  dying_turn : (t : Handled S) (q : Taken × Snapshot S) → next_envelope rules t.snapshot ≡ Some q → DyingAt t → DyingAt (handle_one rules (with_snapshot t q.1) q.0)
  dying_turn t q e h = go (next_of (is_eligible rules t.snapshot) t.snapshot.caches) refl e
    where
      taken : (r : Taken × CachedLists) → next_of (is_eligible rules t.snapshot) t.snapshot.caches ≡ Some r → DyingAt (handle_one rules (with_snapshot t (record t.snapshot { caches = r.1 })) r.0)
      taken r f = (simple.on_one rules (λ t. (t.snapshot.place == 0) ≡ false) away_keeps away_keeps_too u r.0 h.0, by h.1)
        where
          u : Handled S
          u = with_snapshot t (record t.snapshot { caches = r.1 })

          on : Dying (with_snapshot t (record t.snapshot { caches = r.1 })) → Dying (handle_one rules (with_snapshot t (record t.snapshot { caches = r.1 })) r.0)
          on k = simple.on_one rules Dying dying_keeps dying_keeps_too (with_snapshot t (record t.snapshot { caches = r.1 })) r.0 k

          by : Dying t → Dying (handle_one rules (with_snapshot t (record t.snapshot { caches = r.1 })) r.0)
          by (inl some) = on (inl some)
          by (inr some) = each (is_kill r.0) refl
            where
              each : (b : Bool) → is_kill r.0 ≡ b → Dying (handle_one rules (with_snapshot t (record t.snapshot { caches = r.1 })) r.0)
              each true g = inl (kill_turn (with_snapshot t (record t.snapshot { caches = r.1 })) r.0 g h.0)
              each false g =
                  let count = listed_next is_kill (is_eligible rules t.snapshot) t.snapshot.caches r f in
                  let none : one (is_kill r.0) ≡ 0 = ap one g in
                  on (inr (omega arith))

      go : (r : Option (Taken × CachedLists)) → next_of (is_eligible rules t.snapshot) t.snapshot.caches ≡ r → with_caches t.snapshot r ≡ Some q → DyingAt (handle_one rules (with_snapshot t q.1) q.0)
      go None f g = cc
      go (Some r) f g =
          let same : (r.0, record t.snapshot { caches = r.1 }) ≡ q = cc in
          subst (λ (u : Taken × Snapshot S). DyingAt (handle_one rules (with_snapshot t u.1) u.0)) same (taken r f)

  -- with the exit among what it has or takes, it quits or has it still
  pub dying_batch : (s : Snapshot S) (batch : List Taken) → (s.place == 0) ≡ false → (s.quit ≢ None) ⊎ (1 ≤ listed is_kill s.caches + count_by is_kill batch)
      → ((batch_of rules s batch).snapshot.quit ≢ None) ⊎ (1 ≤ listed is_kill (batch_of rules s batch).snapshot.caches)
  dying_batch s batch away h = (drain_keeps rules DyingAt dying_turn (cached (with_batch s batch)) (so_far (with_batch s batch) []) (away, go h)).1
    where
      go : (s.quit ≢ None) ⊎ (1 ≤ listed is_kill s.caches + count_by is_kill batch) → Dying (so_far (with_batch s batch) [])
      go (inl some) = inl some
      go (inr some) = let count = listed_filed is_kill s.caches batch in inr (omega arith)

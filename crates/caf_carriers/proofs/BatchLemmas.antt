-- A batch makes no carrier of a request but by issuing it, and loses none but with the request that it resolves.
use Rattle.std.proofs.Common.{◌≡◌, ℕ, zero, suc, ◌+◌, ◌≤◌, ◌<◌, ◌∙◌, sym, ap, subst, ◌==◌, ◌&&◌, Bool, true, false, List, [], ◌++◌, filter, count_by, Option, Some, None, refl, arith, ◌⊎◌, inl, inr}
use Rattle.std.specs.List.{AllByRecursion}
use Rattle.caf_types.specs.declared.reason.Reason.{Reason}
use Rattle.caf_message.specs.declared.envelope.Taken.{Taken}
use Rattle.caf_message.specs.Lists.{pick}
use Rattle.caf_mailbox.specs.Caches.{CachedLists, is_urgent, is_normal, next_of}
use Rattle.caf_mailbox.proofs.NextLemmas.{AllCached, all_next, all_filed}
use Rattle.caf_response.specs.Pending.{WaitingRequests, waiting_count}
use Rattle.caf_response.proofs.NumberLemmas.{picked}
use Rattle.caf_actor.specs.declared.snapshot.Snapshot.{Snapshot}
use Rattle.caf_actor.specs.Rules.{Rules, AnswersRequests, StaysValid}
use Rattle.caf_actor.specs.Snapshot.{Handled, so_far, with_snapshot, cached}
use Rattle.caf_actor.specs.Eligibility.{is_eligible, with_caches, next_envelope}
use Rattle.caf_actor.specs.Handling.{handle_one}
use Rattle.caf_actor.specs.Drain.{with_batch, drain_for, batch_of}
use Rattle.caf_actor.specs.Resolutions.{Resolution, resolves, drain_resolves, batch_resolves, is_answer, has_request, times_resolved, times_answered, given_between}
use Rattle.caf_actor.specs.Carriers.{carries, carriers_at}
use Rattle.caf_actor.proofs.SimpleLemmas as simple
use Rattle.caf_carriers.specs.Home.{IsHome, GoesHome}
use Rattle.caf_carriers.proofs.CountLemmas.{one, count-append, count-parts, when_own, own-plus, none_given}
use Rattle.caf_carriers.proofs.EnvelopeLemmas.{Inv, Any, Ended, Done, Live, Gone, carried, waits_in, issued_at, after_none, on_one}

-- ---- the next envelope

abbrev IsLeft : ℕ → ℕ → CachedLists → Taken × CachedLists → Type 0
IsLeft a n lists s = count_by (carries a n) lists.urgent + count_by (carries a n) lists.normal ≡ one (carries a n s.0) + (count_by (carries a n) s.1.urgent + count_by (carries a n) s.1.normal)

pub count_next : (a n : ℕ) (test : Taken → Bool) (lists : CachedLists) (r : Taken × CachedLists) → next_of test lists ≡ Some r
    → count_by (carries a n) lists.urgent + count_by (carries a n) lists.normal ≡ one (carries a n r.0) + (count_by (carries a n) r.1.urgent + count_by (carries a n) r.1.normal)
count_next a n test lists r q = go (pick test lists.urgent) refl (pick test lists.normal) refl
  where
    go : (u : Option (Taken × List Taken)) → pick test lists.urgent ≡ u → (m : Option (Taken × List Taken)) → pick test lists.normal ≡ m → IsLeft a n lists r
    go (Some u) e m f =
        let yes : ◌≡◌ {A = Option (Taken × CachedLists)} (Some (u.0, record { urgent = u.1; normal = lists.normal })) (Some r) = rw e at q in
        let is : (u.0, record { urgent = u.1; normal = lists.normal }) ≡ r = cc in
        let count = (picked test (carries a n) lists.urgent u e).1 in
        let here : IsLeft a n lists (u.0, record { urgent = u.1; normal = lists.normal }) = omega arith in
        subst (IsLeft a n lists) is here
    go None e (Some m) f =
        let yes : ◌≡◌ {A = Option (Taken × CachedLists)} (Some (m.0, record { urgent = lists.urgent; normal = m.1 })) (Some r) = rw (e, f) at q in
        let is : (m.0, record { urgent = lists.urgent; normal = m.1 }) ≡ r = cc in
        let count = (picked test (carries a n) lists.normal m f).1 in
        let here : IsLeft a n lists (m.0, record { urgent = lists.urgent; normal = m.1 }) = omega arith in
        subst (IsLeft a n lists) is here
    go None e None f = let no : ◌≡◌ {A = Option (Taken × CachedLists)} None (Some r) = rw (e, f) at q in cc

-- ---- the behaviour's value occurs

module _ {S : Type 0} (valid : S → Type 0) (rules : Rules S) (stays : StaysValid valid rules) where
  abbrev Occurs : Handled S → Type 0
  Occurs t = valid t.snapshot.behavior

  occurs_keeps : simple.Keeps {S = S} Occurs
  occurs_keeps = record {
    on_post = λ t to mid priority body h. h;
    on_holds = λ t holds h. h;
    on_issue = λ t mode tag expected h. h;
    on_issue_within = λ t ticks mode tag expected h. h;
    on_observers = λ t observers h. h;
    on_unstarted = λ t unstarted h. h;
    on_delays = λ t delays h. h;
    on_emptied = λ t why h. h;
  }

  occurs_keeps_too : simple.KeepsToo {S = S} rules Occurs
  occurs_keeps_too = record {
    on_behavior = λ t i may h. stays t.snapshot.behavior i h may;
    on_resolved = λ t number found e h. h;
    on_expired = λ t found e h. h;
    on_begun = λ t h. h;
    on_clock = λ t h. h;
  }

  pub occurs_one : (t : Handled S) (e : Taken) → valid t.snapshot.behavior → valid (handle_one rules t e).snapshot.behavior
  occurs_one t e h = simple.on_one rules Occurs occurs_keeps occurs_keeps_too t e h

-- ---- the drain

module _ (a n p : ℕ) (own : Bool) (need rest made first before : ℕ) where
  -- what is known after a batch, whether the actor has quit or not
  pub record Facts {S : Type 0} (c d : ℕ) (t : Handled S) : Type 0 where
    pub at : t.snapshot.place ≡ p
    pub home : AllCached (IsHome p) t.snapshot.caches
    pub goes : AllByRecursion GoesHome t.posts
    pub low : first ≤ t.snapshot.pending.next
    pub most : carried a n p own need rest made first before t + c ≤ made + issued_at a n p own need rest made first before t.snapshot.pending.next
    pub cover : need + waits_in a n p own need rest made first before t.snapshot.pending ≤ carried a n p own need rest made first before t + rest
    pub once : waits_in a n p own need rest made first before t.snapshot.pending + d ≤ before + issued_at a n p own need rest made first before t.snapshot.pending.next
    pub exact : t.snapshot.quit ≡ None → waits_in a n p own need rest made first before t.snapshot.pending + d ≡ before + issued_at a n p own need rest made first before t.snapshot.pending.next
    pub ended : (t.snapshot.quit ≡ None) ⊎ (waiting_count t.snapshot.pending n ≡ 0) × (t.snapshot.pending.due ≡ [])

  pub facts_of : {S : Type 0} (c d : ℕ) (t : Handled S) → Done a n p own need rest made first before c d 0 t → Facts c d t
  facts_of c d t (Live h) =
      let most = h.most in
      let cover = h.cover in
      record { at = h.at; home = h.home; goes = h.goes; low = h.low; most = omega arith; cover = omega arith; once = h.once; exact = h.exact; ended = inl h.quit_is }
  facts_of c d t (Gone why h) =
      let most = h.most in
      let cover = h.cover in
      record { at = h.at; home = h.home; goes = h.goes; low = h.low; most = omega arith; cover = omega arith; once = h.once; exact = h.exact; ended = inr h.ended }

  module _ {S : Type 0} (rules : Rules S) where
    -- an envelope goes from the lists into the hand
    pub record InHand (c d w : ℕ) (t : Handled S) (q : Taken × Snapshot S) : Type 0 where
      pub done : Done a n p own need rest made first before c d (w + one (carries a n q.0)) (with_snapshot t q.1)
      pub home : IsHome p q.0
      pub behavior : q.1.behavior ≡ t.snapshot.behavior

    in_hand : (quit : Option Reason) (E : WaitingRequests → Type 0) (c d w : ℕ) (t : Handled S) (r : Taken × CachedLists) → next_of (is_eligible rules t.snapshot) t.snapshot.caches ≡ Some r
        → Inv a n p own need rest made first before quit E c d w t → Inv a n p own need rest made first before quit E c d (w + one (carries a n r.0)) (with_snapshot t (record t.snapshot { caches = r.1 }))
    in_hand quit E c d w t r e h =
        let count = count_next a n (is_eligible rules t.snapshot) t.snapshot.caches r e in
        let home = all_next (is_eligible rules t.snapshot) (IsHome p) t.snapshot.caches r h.home e in
        let most = h.most in
        let cover = h.cover in
        record { at = h.at; quit_is = h.quit_is; home = home.1; goes = h.goes; ended = h.ended; low = h.low; most = omega arith; cover = omega arith; once = h.once; exact = h.exact }

    done_in_hand : (c d w : ℕ) (t : Handled S) (r : Taken × CachedLists) → next_of (is_eligible rules t.snapshot) t.snapshot.caches ≡ Some r → Done a n p own need rest made first before c d w t
        → InHand c d w t (r.0, record t.snapshot { caches = r.1 })
    done_in_hand c d w t r e (Live h) = record { done = Live (in_hand None (Any a n p own need rest made first before) c d w t r e h); home = (all_next (is_eligible rules t.snapshot) (IsHome p) t.snapshot.caches r h.home e).0; behavior = refl }
    done_in_hand c d w t r e (Gone why h) = record { done = Gone why (in_hand (Some why) (Ended a n p own need rest made first before) c d w t r e h); home = (all_next (is_eligible rules t.snapshot) (IsHome p) t.snapshot.caches r h.home e).0; behavior = refl }

    next_in_hand : (c d w : ℕ) (t : Handled S) (q : Taken × Snapshot S) → next_envelope rules t.snapshot ≡ Some q → Done a n p own need rest made first before c d w t → InHand c d w t q
    next_in_hand c d w t q e h = go (next_of (is_eligible rules t.snapshot) t.snapshot.caches) refl e
      where
        go : (r : Option (Taken × CachedLists)) → next_of (is_eligible rules t.snapshot) t.snapshot.caches ≡ r → with_caches t.snapshot r ≡ Some q → InHand c d w t q
        go None f g = cc
        go (Some r) f g =
            let same : (r.0, record t.snapshot { caches = r.1 }) ≡ q = cc in
            subst (λ (u : Taken × Snapshot S). InHand c d w t u) same (done_in_hand c d w t r f h)

    module _ (valid : S → Type 0) (answers : AnswersRequests valid rules) (stays : StaysValid valid rules) (is_own : (p == a) ≡ own) (no_need : own ≡ true → need ≡ 0) (positive : own ≡ true → 0 < first) where
      abbrev Counted : ℕ → ℕ → ℕ → List Resolution → Handled S → Type 0
      Counted c d w rs t = Done a n p own need rest made first before (c + when_own own (times_answered n rs)) (d + when_own own (times_resolved n rs)) w t

      many : (c c' d d' w : ℕ) (t : Handled S) → c ≡ c' → d ≡ d' → Done a n p own need rest made first before c d w t → Done a n p own need rest made first before c' d' w t
      many c c' d d' w t e f h = subst (λ (x : ℕ). Done a n p own need rest made first before x d' w t) e (subst (λ (x : ℕ). Done a n p own need rest made first before c x w t) f h)

      none_counted : (c d w : ℕ) (t : Handled S) → Done a n p own need rest made first before c d w t → Counted c d w [] t
      none_counted c d w t h = after_none a n p own need rest made first before is_own no_need positive valid rules answers c d w t h

      on_drain : (k c d w : ℕ) (t : Handled S) → valid t.snapshot.behavior → Done a n p own need rest made first before c d w t → Counted c d w (drain_resolves rules k t) (drain_for rules k t)
      on_drain zero c d w t v h = none_counted c d w t h
      on_drain (suc k) c d w t v h = go (on_drain k) (next_envelope rules t.snapshot) refl
        where
          go : ((c d w : ℕ) (u : Handled S) → valid u.snapshot.behavior → Done a n p own need rest made first before c d w u → Counted c d w (drain_resolves rules k u) (drain_for rules k u))
              → (r : Option (Taken × Snapshot S)) → next_envelope rules t.snapshot ≡ r → Counted c d w (drain_resolves rules (suc k) t) (drain_for rules (suc k) t)
          go later None e = rw e (none_counted c d w t h)
          go later (Some q) e =
              let next : InHand c d w t q = next_in_hand c d w t q e h in
              let u : Handled S = with_snapshot t q.1 in
              let occurs : valid q.1.behavior = subst valid (sym next.behavior) v in
              let x : Handled S = handle_one rules u q.0 in
              let rs : List Resolution = resolves rules u q.0 in
              let more : List Resolution = drain_resolves rules k x in
              let first_done : Counted c d w rs x =
              on_one a n p own need rest made first before is_own no_need positive valid rules answers c d w (w + one (carries a n q.0)) u q.0 occurs refl next.home next.done in
              let c1 : ℕ = c + when_own own (times_answered n rs) in
              let d1 : ℕ = d + when_own own (times_resolved n rs) in
              let all : Counted c1 d1 w more (drain_for rules k x) = later c1 d1 w x (occurs_one valid rules stays u q.0 occurs) first_done in
              let sum_c : when_own own (times_answered n (rs ++ more)) ≡ when_own own (times_answered n rs) + when_own own (times_answered n more) =
              ap (when_own own) (count-append (λ (s : Resolution). is_answer s.cause && has_request n s) rs more) ∙ own-plus own (times_answered n rs) (times_answered n more) in
              let sum_d : when_own own (times_resolved n (rs ++ more)) ≡ when_own own (times_resolved n rs) + when_own own (times_resolved n more) =
              ap (when_own own) (count-append (has_request n) rs more) ∙ own-plus own (times_resolved n rs) (times_resolved n more) in
              rw e (many (c1 + when_own own (times_answered n more)) (c + when_own own (times_answered n (rs ++ more))) (d1 + when_own own (times_resolved n more)) (d + when_own own (times_resolved n (rs ++ more))) w
              (drain_for rules k x) (omega arith) (omega arith) all)

-- ---- a batch

-- what is known of an actor before it takes a batch
pub record IsReady {S : Type 0} (p n : ℕ) (s : Snapshot S) (batch : List Taken) : Type 0 where
  pub at : s.place ≡ p
  pub home : AllCached (IsHome p) s.caches
  pub batch_home : AllByRecursion (IsHome p) batch
  pub ended : (s.quit ≡ None) ⊎ (waiting_count s.pending n ≡ 0) × (s.pending.due ≡ [])

module _ {S : Type 0} (valid : S → Type 0) (rules : Rules S) (answers : AnswersRequests valid rules) (stays : StaysValid valid rules) (a n p : ℕ) (own : Bool) (need rest : ℕ)
    (is_own : (p == a) ≡ own) (no_need : own ≡ true → need ≡ 0) where
  module _ (s : Snapshot S) (batch : List Taken) (positive : own ≡ true → 0 < s.pending.next) (ready : IsReady p n s batch)
      (enough : need + when_own own (waiting_count s.pending n) ≤ carriers_at a n s + count_by (carries a n) batch + rest) where
    abbrev made : ℕ
    made = carriers_at a n s + count_by (carries a n) batch

    abbrev first : ℕ
    first = s.pending.next

    abbrev before : ℕ
    before = when_own own (waiting_count s.pending n)

    start_of : (quit : Option Reason) (E : WaitingRequests → Type 0) → s.quit ≡ quit → E s.pending → Inv a n p own need rest made first before quit E 0 0 0 (so_far (with_batch s batch) [])
    start_of quit E q e =
        let urgent = count-append (carries a n) s.caches.urgent (filter is_urgent batch) in
        let normal = count-append (carries a n) s.caches.normal (filter is_normal batch) in
        let parts = count-parts (carries a n) is_urgent batch in
        let none : when_own own (given_between first first n) ≡ 0 = ap (when_own own) (none_given first n) ∙ own_none own in
        let here : carried a n p own need rest made first before (so_far (with_batch s batch) []) ≡ made = omega arith in
        record {
          at = ready.at;
          quit_is = q;
          home = all_filed (IsHome p) s.caches batch ready.home ready.batch_home;
          goes = tt;
          ended = e;
          low = omega arith;
          most = omega arith;
          cover = omega arith;
          once = omega arith;
          exact = λ r. omega arith;
        }
      where
        own_none : (b : Bool) → when_own b 0 ≡ 0
        own_none true = refl
        own_none false = refl

    starts : Done a n p own need rest made first before 0 0 0 (so_far (with_batch s batch) [])
    starts = go ready.ended
      where
        quits : (q : Option Reason) → s.quit ≡ q → (waiting_count s.pending n ≡ 0) × (s.pending.due ≡ []) → Done a n p own need rest made first before 0 0 0 (so_far (with_batch s batch) [])
        quits None e ended = Live (start_of None (Any a n p own need rest made first before) e tt)
        quits (Some why) e ended = Gone why (start_of (Some why) (Ended a n p own need rest made first before) e ended)

        go : (s.quit ≡ None) ⊎ (waiting_count s.pending n ≡ 0) × (s.pending.due ≡ []) → Done a n p own need rest made first before 0 0 0 (so_far (with_batch s batch) [])
        go (inl e) = Live (start_of None (Any a n p own need rest made first before) e tt)
        go (inr ended) = quits s.quit refl ended

    pub on_batch : valid s.behavior
        → Facts a n p own need rest made first before (0 + when_own own (times_answered n (batch_resolves rules s batch))) (0 + when_own own (times_resolved n (batch_resolves rules s batch))) (batch_of rules s batch)
    on_batch v =
        facts_of a n p own need rest made first before (0 + when_own own (times_answered n (batch_resolves rules s batch))) (0 + when_own own (times_resolved n (batch_resolves rules s batch))) (batch_of rules s batch)
        (on_drain a n p own need rest made first before rules valid answers stays is_own no_need positive (cached (with_batch s batch)) 0 0 0 (so_far (with_batch s batch) []) v starts)

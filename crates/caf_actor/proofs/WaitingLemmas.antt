-- What an envelope resolves is what its handling takes out of the waiting requests, and what the behaviour is given.
use Rattle.std.proofs.Common.{◌≡◌, ℕ, zero, suc, ◌+◌, ◌≤◌, ◌<◌, ◌==◌, ◌&&◌, ◌∙◌, sym, ap, subst, nat_le, nat_lt, Bool, true, false, if◌then◌else◌, List, [], ◌∷◌, ◌++◌, length, count_by, cond, Option, Some, None, is_none, refl, arith}
use Rattle.std.proofs.lemmas.Bool.Decides.{nat_tests}
use Rattle.std.proofs.lemmas.List.Sums.{sum_by-cons}
use Rattle.std.specs.List.{AllByRecursion}
use Rattle.caf_types.specs.declared.shape.TypeId.{TypeId}
use Rattle.caf_types.specs.declared.notice.Notice.{Notice}
use Rattle.caf_types.specs.declared.notice.Notice.TheVariants as notice
use Rattle.caf_types.specs.declared.notice.Mid.{Mid}
use Rattle.caf_types.specs.declared.notice.Priority.{Priority}
use Rattle.caf_types.specs.declared.reason.Reason.{Reason}
use Rattle.caf_message.specs.declared.envelope.Taken.{Taken}
use Rattle.caf_message.specs.declared.envelope.Plain.{Plain}
use Rattle.caf_message.specs.declared.envelope.Plain.TheVariants as «plain»
use Rattle.caf_message.specs.Envelope.{is_response, is_response_body}
use Rattle.caf_message.specs.Lists.{pick, keep}
use Rattle.caf_response.specs.declared.pending.Mode.{Mode}
use Rattle.caf_response.specs.declared.pending.Mode.TheVariants.{Awaited, Multiplexed}
use Rattle.caf_response.specs.declared.pending.Waiting.{Waiting}
use Rattle.caf_response.specs.Pending.{WaitingRequests, issued, issued_within, has_number, from_awaited, resolved, without_due, resolved_where, due_by, expired, waiting_count}
use Rattle.caf_actor.specs.declared.origin.Origin.{Origin}
use Rattle.caf_actor.specs.Clock.{due_after}
use Rattle.caf_actor.specs.PlainInput.{PlainInput}
use Rattle.caf_actor.specs.Rules.{Rules, fed}
use Rattle.caf_actor.specs.Leads.{leads_to, asked_by, told_later}
use Rattle.caf_actor.specs.Snapshot.{Handled, with_snapshot}
use Rattle.caf_actor.specs.Answering.{origin_of}
use Rattle.caf_actor.specs.Quitting.{handle_shell}
use Rattle.caf_actor.specs.Reacting.{give}
use Rattle.caf_actor.specs.Ticking.{timeout_input, time_out, next_due, expire_for, due_count, expire_all, deliver_all, advance, handle_tick}
use Rattle.caf_actor.specs.Handling.{response_input, failure_input, resolve_with, handle_content, handle_notice, handle_body, handle_where, handle_one}
use Rattle.caf_actor.specs.Resolutions.{Resolution, Answered, TimedOut, resolution_where, expiry_resolves, expire_resolves, tick_resolves, notice_resolves, body_resolves, resolves_where, resolves, has_request, times_resolved, given_between, given_for, TakesOutWhatItResolves, GivesWhatItResolves}
use Rattle.caf_actor.proofs.KeptLemmas as kept
use Rattle.caf_actor.proofs.SimpleLemmas.{Keeps, with_anything, any, any_words, any_reaction, on_reaction}
use Rattle.caf_actor.proofs.QuitLemmas.{stays_one}

-- ---- counting

abbrev one : Bool → ℕ
one b = cond b 1 0

module _ {A : Type 0} (test : A → Bool) where
  count-cons : (x : A) (xs : List A) → count_by test (x ∷ xs) ≡ one (test x) + count_by test xs
  count-cons x xs = sum_by-cons (λ y. one (test y)) x xs

  count-last : (xs : List A) (x : A) → count_by test (xs ++ x ∷ []) ≡ count_by test xs + one (test x)
  count-last [] x = count-cons x [] ∙ (omega arith)
  count-last (y ∷ ys) x = let rest = count-last ys x in let all = count-cons y (ys ++ x ∷ []) in let less = count-cons y ys in omega arith

  count-append : (xs ys : List A) → count_by test (xs ++ ys) ≡ count_by test xs + count_by test ys
  count-append [] ys = omega arith
  count-append (x ∷ xs) ys = let rest = count-append xs ys in let all = count-cons x (xs ++ ys) in let less = count-cons x xs in omega arith

  counted : (x : A) (xs : List A) (p : A × List A) (b : Bool) (o : Option (A × List A)) → ((r : A × List A) → o ≡ Some r → count_by test xs ≡ one (test r.0) + count_by test r.1)
      → (if b then Some (x, xs) else keep x o) ≡ Some p → count_by test (x ∷ xs) ≡ one (test p.0) + count_by test p.1
  counted x xs p true o before q = let is : (x, xs) ≡ p = cc in count-cons x xs ∙ ap (λ (r : A × List A). one (test r.0) + count_by test r.1) is
  counted x xs p false (Some r) before q =
      let is : (r.0, x ∷ r.1) ≡ p = cc in
      let rest = before r refl in
      let all = count-cons x xs in
      let left = count-cons x r.1 in
      let here : count_by test (x ∷ xs) ≡ one (test r.0) + count_by test (x ∷ r.1) = omega arith in
      here ∙ ap (λ (s : A × List A). one (test s.0) + count_by test s.1) is
  counted x xs p false None before q = cc

  -- the picked one, and the others
  count-pick : (first : A → Bool) (xs : List A) (p : A × List A) → pick first xs ≡ Some p → count_by test xs ≡ one (test p.0) + count_by test p.1
  count-pick first [] p q = cc
  count-pick first (x ∷ xs) p q = counted x xs p (first x) (pick first xs) (count-pick first xs) q

-- ---- the waiting requests

-- what is resolved no longer waits, and no number is given
pub record TookOut (n : ℕ) (r : WaitingRequests) (found : Waiting × WaitingRequests) : Type 0 where
  pub count : waiting_count r n ≡ one (has_number n found.0) + waiting_count found.1 n
  pub next : found.1.next ≡ r.next

took_out : (n : ℕ) (r : WaitingRequests) (number : ℕ) (found : Waiting × WaitingRequests) → resolved r number ≡ Some found → TookOut n r found
took_out n r number found q = go (pick (has_number number) r.multiplexed) refl
  where
    stack : (p : Option (Waiting × List Waiting)) → pick (has_number number) r.awaited ≡ p → from_awaited r number p ≡ Some found → TookOut n r found
    stack None f e = cc
    stack (Some p) f e =
        let is : (p.0, record r { awaited = p.1; due = without_due number r.due }) ≡ found = cc in
        let count = count-pick (has_number n) (has_number number) r.awaited p f in
        subst (λ (u : Waiting × WaitingRequests). TookOut n r u) is (record { count = omega arith; next = refl })

    go : (p : Option (Waiting × List Waiting)) → pick (has_number number) r.multiplexed ≡ p → TookOut n r found
    go None f = stack (pick (has_number number) r.awaited) refl (rw f at q)
    go (Some p) f =
        let same : ◌≡◌ {A = Option (Waiting × WaitingRequests)} (Some (p.0, record r { multiplexed = p.1; due = without_due number r.due })) (Some found) = rw f at q in
        let is : (p.0, record r { multiplexed = p.1; due = without_due number r.due }) ≡ found = cc in
        let count = count-pick (has_number n) (has_number number) r.multiplexed p f in
        subst (λ (u : Waiting × WaitingRequests). TookOut n r u) is (record { count = omega arith; next = refl })

expired_out : (n : ℕ) (r : WaitingRequests) (now : ℕ) (found : Waiting × WaitingRequests) → expired r now ≡ Some found → TookOut n r found
expired_out n r now found q = go (due_by now r.due) q
  where
    go : (number : Option ℕ) → resolved_where r number ≡ Some found → TookOut n r found
    go None e = cc
    go (Some number) e = took_out n r number found e

-- an issued request waits
pub record PutIn (n : ℕ) (r more : WaitingRequests) : Type 0 where
  pub count : waiting_count more n ≡ waiting_count r n + one (r.next == n)
  pub next : more.next ≡ r.next + 1

put_in : (n : ℕ) (r : WaitingRequests) (mode : Mode) (tag : ℕ) (expected : List TypeId) → PutIn n r (issued r mode tag expected)
put_in n r Awaited tag expected =
    let w : Waiting = record { number = r.next; tag = tag; expected = expected } in
    let count = count-cons (has_number n) w r.awaited in
    record { count = omega arith; next = refl }
put_in n r Multiplexed tag expected =
    let w : Waiting = record { number = r.next; tag = tag; expected = expected } in
    let count = count-last (has_number n) r.multiplexed w in
    record { count = omega arith; next = refl }

none_given : (next n : ℕ) → given_between next next n ≡ 0
none_given next n = grind (arith, nat_tests)

one_given : (first next n : ℕ) → first ≤ next → given_between first (next + 1) n ≡ given_between first next n + one (next == n)
one_given first next n h = grind (arith, nat_tests)

-- ---- how often a request is resolved

times-cons : (n : ℕ) (r : Resolution) (rs : List Resolution) → times_resolved n (r ∷ rs) ≡ one (has_request n r) + times_resolved n rs
times-cons n r rs = count-cons (has_request n) r rs

module _ {S : Type 0} (rules : Rules S) (n first before : ℕ) where
  -- so many requests were resolved since `before` of them waited and `first` was the next number
  abbrev Counts : ℕ → Handled S → Type 0
  Counts c t = (first ≤ t.snapshot.pending.next)
      × (t.snapshot.quit ≡ None → waiting_count t.snapshot.pending n + c ≡ before + given_between first t.snapshot.pending.next n)

  one_more : (c : ℕ) (quit : Option Reason) (r more : WaitingRequests) → PutIn n r more
      → (first ≤ r.next) × (quit ≡ None → waiting_count r n + c ≡ before + given_between first r.next n)
      → (first ≤ more.next) × (quit ≡ None → waiting_count more n + c ≡ before + given_between first more.next n)
  one_more c quit r more put h =
      let low = h.0 in
      let next = put.next in
      let count = put.count in
      let given = one_given first r.next n low in (
        omega arith,
        λ q. let was = h.1 q in let is : waiting_count more n + c ≡ before + given_between first (r.next + 1) n = omega arith in is ∙ ap (λ (m : ℕ). before + given_between first m n) (sym next),
      )

  keeps : (c : ℕ) → Keeps {S = S} (Counts c)
  keeps c = record {
    on_post = λ t to mid priority body h. h;
    on_holds = λ t holds h. h;
    on_issue = λ t mode tag expected h. one_more c t.snapshot.quit t.snapshot.pending (issued t.snapshot.pending mode tag expected) (put_in n t.snapshot.pending mode tag expected) h;
    on_issue_within = λ t ticks mode tag expected h.
        let put = put_in n t.snapshot.pending mode tag expected in one_more c t.snapshot.quit t.snapshot.pending (issued_within t.snapshot.pending mode tag expected (due_after t.snapshot.clock ticks)) (record { count = put.count; next = put.next }) h;
    on_observers = λ t observers h. h;
    on_unstarted = λ t unstarted h. h;
    on_delays = λ t delays h. h;
    on_emptied = λ t why h. (h.0, λ q. cc);
  }

  reacts : (c : ℕ) → kept.Reacts (λ p. Unit {0}) (λ b. Unit {0}) {S = S} rules (Counts c)
  reacts c = record { on_behavior = λ t i may is h. (any_reaction (rules.reaction t.snapshot.behavior i), h) }

  anything : (c : ℕ) → kept.Keeps (λ p. Unit {0}) (λ b. Unit {0}) {S = S} (Counts c)
  anything c = with_anything (Counts c) (keeps c)

  as_many : (c d : ℕ) (t : Handled S) → c ≡ d → Counts c t → Counts d t
  as_many c d t e h = subst (λ (m : ℕ). Counts m t) e h

  -- one is taken out
  out : (c : ℕ) (t : Handled S) (found : Waiting × WaitingRequests) → TookOut n t.snapshot.pending found → Counts c t
      → Counts (c + one (has_number n found.0)) (with_snapshot t (record t.snapshot { pending = found.1 }))
  out c t found took h =
      let low = h.0 in
      let next = took.next in
      let count = took.count in (
        omega arith,
        λ q. let was = h.1 q in
            let is : waiting_count found.1 n + (c + one (has_number n found.0)) ≡ before + given_between first t.snapshot.pending.next n = omega arith in
            is ∙ ap (λ (m : ℕ). before + given_between first m n) (sym next),
      )

  by_response : (t : Handled S) (number : ℕ) (input : Waiting → PlainInput) (found : Option (Waiting × WaitingRequests)) → resolved t.snapshot.pending number ≡ found → Counts 0 t
      → Counts (times_resolved n (resolution_where input found)) (resolve_with rules t input found)
  by_response t number input None e h = h
  by_response t number input (Some found) e h =
      let r : Resolution = record { cause = Answered; request = found.0; given = input found.0 } in
      let u : Handled S = with_snapshot t (record t.snapshot { pending = found.1 }) in
      let times = times-cons n r [] in
      as_many (0 + one (has_number n found.0)) (times_resolved n (r ∷ [])) (give rules u (input found.0)) (omega arith)
      (on_reaction (Counts (0 + one (has_number n found.0))) (keeps (0 + one (has_number n found.0))) rules u (input found.0) (out 0 t found (took_out n t.snapshot.pending number found e) h))

  by_time : (m c : ℕ) (t : Handled S) → Counts c t → Counts (c + times_resolved n (expire_resolves rules m t)) (expire_for rules m t)
  by_time zero c t h = as_many c (c + 0) t (omega arith) h
  by_time (suc m) c t h = go (by_time m) (next_due t.snapshot) refl
    where
      go : ((d : ℕ) (u : Handled S) → Counts d u → Counts (d + times_resolved n (expire_resolves rules m u)) (expire_for rules m u))
          → (r : Option (Waiting × WaitingRequests)) → next_due t.snapshot ≡ r → Counts (c + times_resolved n (expire_resolves rules (suc m) t)) (expire_for rules (suc m) t)
      go later None e = rw e (as_many c (c + 0) t (omega arith) h)
      go later (Some found) e =
          let u : Handled S = with_snapshot t (record t.snapshot { pending = found.1 }) in
          let d = c + one (has_number n found.0) in
          let after = on_reaction (Counts d) (keeps d) rules u (timeout_input found.0) (out c t found (expired_out n t.snapshot.pending t.snapshot.clock found e) h) in
          let all = later d (time_out rules t found) after in
          let r : Resolution = record { cause = TimedOut; request = found.0; given = timeout_input found.0 } in
          let times = times-cons n r (expire_resolves rules m (time_out rules t found)) in
          rw e (as_many (d + times_resolved n (expire_resolves rules m (time_out rules t found))) (c + times_resolved n (r ∷ expire_resolves rules m (time_out rules t found)))
          (expire_for rules m (time_out rules t found)) (omega arith) all)

  by_tick : (t : Handled S) → Counts 0 t → Counts (times_resolved n (tick_resolves rules (advance t))) (handle_tick rules t)
  by_tick t h =
      let c = times_resolved n (tick_resolves rules (advance t)) in
      let expired = expire_all rules (advance t) in
      let out : Counts c expired = as_many (0 + c) c expired (omega arith) (by_time (due_count (advance t).snapshot) 0 (advance t) h) in
      kept.on_hear rules (λ p. Unit {0}) (λ b. Unit {0}) (Counts c) (anything c) (reacts c) (deliver_all expired)
      (kept.on_deliver rules (λ p. Unit {0}) (λ b. Unit {0}) (Counts c) (anything c) (reacts c) (length expired.snapshot.delays) expired out)

  given : (t : Handled S) (i : PlainInput) → Counts 0 t → Counts 0 (give rules t i)
  given t i h = on_reaction (Counts 0) (keeps 0) rules t i h

  by_notice : (t : Handled S) (what : Notice) → Counts 0 t → Counts (times_resolved n (notice_resolves rules t what)) (handle_notice rules t what)
  by_notice t notice.Start h = given t _ h
  by_notice t notice.Stop h = given t _ h
  by_notice t (notice.Exit from why) h = kept.on_exit rules (λ p. Unit {0}) (λ b. Unit {0}) (Counts 0) (anything 0) (reacts 0) t from why h
  by_notice t (notice.Link from) h = h
  by_notice t (notice.Unlink from) h = h
  by_notice t (notice.Watch from) h = h
  by_notice t (notice.Unwatch from) h = h
  by_notice t (notice.Down from why) h = given t _ h
  by_notice t (notice.Begin from) h = h
  by_notice t (notice.Tick from) h = by_tick t h

  by_body : (t : Handled S) (e : Taken) → Counts 0 t → (body : Plain) → e.body ≡ body → Counts (times_resolved n (body_resolves rules t e body)) (handle_body rules t (origin_of e) body)
  by_body t e h («plain».System what) is = by_notice t what h
  by_body t e h («plain».Failure what) is =
      let found = resolved t.snapshot.pending e.mid.number in
      let answered : is_response e ≡ true = ap (is_response_body e.mid.response) is in
      subst (λ (b : Bool). Counts (times_resolved n (if b then resolution_where (λ w. failure_input w what) found else [])) (resolve_with rules t (λ w. failure_input w what) found)) (sym answered)
      (by_response t e.mid.number (λ w. failure_input w what) found refl h)
  by_body t e h («plain».Content words) is = go e.mid.response refl
    where
      -- both tests ask whether it is a response
      both : (b : Bool) → e.mid.response ≡ b → Counts (times_resolved n (if b then resolution_where (λ w. response_input w words) (resolved t.snapshot.pending e.mid.number) else []))
          (if b then resolve_with rules t (λ w. response_input w words) (resolved t.snapshot.pending e.mid.number) else handle_content rules t (origin_of e) words)
          → Counts (times_resolved n (body_resolves rules t e («plain».Content words))) (handle_body rules t (origin_of e) («plain».Content words))
      both b m k =
          let r : is_response e ≡ b = ap (is_response_body e.mid.response) is ∙ m in
          subst (λ (c : Bool). Counts (times_resolved n (if c then resolution_where (λ w. response_input w words) (resolved t.snapshot.pending e.mid.number) else []))
          (if e.mid.response then resolve_with rules t (λ w. response_input w words) (resolved t.snapshot.pending e.mid.number) else handle_content rules t (origin_of e) words)) (sym r)
          (subst (λ (c : Bool). Counts (times_resolved n (if b then resolution_where (λ w. response_input w words) (resolved t.snapshot.pending e.mid.number) else []))
          (if c then resolve_with rules t (λ w. response_input w words) (resolved t.snapshot.pending e.mid.number) else handle_content rules t (origin_of e) words)) (sym m) k)

      go : (b : Bool) → e.mid.response ≡ b → Counts (times_resolved n (body_resolves rules t e («plain».Content words))) (handle_body rules t (origin_of e) («plain».Content words))
      go true m = both true m (by_response t e.mid.number (λ w. response_input w words) (resolved t.snapshot.pending e.mid.number) refl h)
      go false m =
          both false m (kept.on_content rules (λ p. Unit {0}) (λ b. Unit {0}) (Counts 0) (anything 0) (reacts 0) t (origin_of e) words (any (asked_by e.mid)) tt h)

  by_one : (t : Handled S) (e : Taken) → t.snapshot.quit ≡ None → Counts 0 t → Counts (times_resolved n (resolves rules t e)) (handle_one rules t e)
  by_one t e q h =
      subst (λ (quit : Option Reason). Counts (times_resolved n (resolves_where (is_none quit) rules t e)) (handle_where rules t quit (origin_of e) e.body)) (sym q)
      (by_body t e h e.body refl)

pub takes_out : {S : Type 0} (rules : Rules S) → TakesOutWhatItResolves rules
takes_out {S} rules t e n ends = go t.snapshot.quit refl
  where
    go : (quit : Option Reason) → t.snapshot.quit ≡ quit
        → waiting_count (handle_one rules t e).snapshot.pending n + times_resolved n (resolves rules t e)
        ≡ waiting_count t.snapshot.pending n + given_between t.snapshot.pending.next (handle_one rules t e).snapshot.pending.next n
    go (Some why) q = let still = (stays_one rules t.snapshot.behavior why t e (refl, q)).1 in cc
    go None q =
        let none = none_given t.snapshot.pending.next n in
        (by_one rules n t.snapshot.pending.next (waiting_count t.snapshot.pending n) t e q (omega arith, λ same. omega arith)).1 ends

-- ---- what the behaviour is given

module _ {S : Type 0} (rules : Rules S) where
  abbrev Has : S → Handled S → Type 0
  Has b t = t.snapshot.behavior ≡ b

  has : (b : S) → Keeps {S = S} (Has b)
  has b = record {
    on_post = λ t to mid priority body h. h;
    on_holds = λ t holds h. h;
    on_issue = λ t mode tag expected h. h;
    on_issue_within = λ t ticks mode tag expected h. h;
    on_observers = λ t observers h. h;
    on_unstarted = λ t unstarted h. h;
    on_delays = λ t delays h. h;
    on_emptied = λ t why h. h;
  }

  by_input : (t : Handled S) (input : Waiting → PlainInput) (found : Option (Waiting × WaitingRequests))
      → (resolve_with rules t input found).snapshot.behavior ≡ fed rules t.snapshot.behavior (given_for (resolution_where input found))
  by_input t input None = refl
  by_input t input (Some found) =
      on_reaction (Has (rules.next t.snapshot.behavior (input found.0))) (has (rules.next t.snapshot.behavior (input found.0))) rules (with_snapshot t (record t.snapshot { pending = found.1 })) (input found.0) refl

  given_body : (t : Handled S) (e : Taken) → is_response e ≡ true → (body : Plain) → e.body ≡ body
      → (handle_body rules t (origin_of e) body).snapshot.behavior ≡ fed rules t.snapshot.behavior (given_for (body_resolves rules t e body))
  given_body t e r («plain».System what) is = let no : false ≡ true = sym (ap (is_response_body e.mid.response) is) ∙ r in cc
  given_body t e r («plain».Failure what) is =
      let found = resolved t.snapshot.pending e.mid.number in
      subst (λ (b : Bool). (resolve_with rules t (λ w. failure_input w what) found).snapshot.behavior
      ≡ fed rules t.snapshot.behavior (given_for (if b then resolution_where (λ w. failure_input w what) found else []))) (sym r)
      (by_input t (λ w. failure_input w what) found)
  given_body t e r («plain».Content words) is =
      let found = resolved t.snapshot.pending e.mid.number in
      let m : e.mid.response ≡ true = sym (ap (is_response_body e.mid.response) is) ∙ r in
      subst (λ (b : Bool). (if e.mid.response then resolve_with rules t (λ w. response_input w words) found else handle_content rules t (origin_of e) words).snapshot.behavior
      ≡ fed rules t.snapshot.behavior (given_for (if b then resolution_where (λ w. response_input w words) found else []))) (sym r)
      (subst (λ (b : Bool). (if b then resolve_with rules t (λ w. response_input w words) found else handle_content rules t (origin_of e) words).snapshot.behavior
      ≡ fed rules t.snapshot.behavior (given_for (resolution_where (λ w. response_input w words) found))) (sym m)
      (by_input t (λ w. response_input w words) found))

  given_where : (t : Handled S) (e : Taken) → is_response e ≡ true → (quit : Option Reason)
      → (handle_where rules t quit (origin_of e) e.body).snapshot.behavior ≡ fed rules t.snapshot.behavior (given_for (resolves_where (is_none quit) rules t e))
  given_where t e r None = given_body t e r e.body refl
  given_where t e r (Some why) =
      kept.on_shell (λ p. Unit {0}) (λ b. Unit {0}) (Has t.snapshot.behavior) (with_anything (Has t.snapshot.behavior) (has t.snapshot.behavior)) t why (origin_of e) e.body (any (leads_to e.mid e.body)) refl

  pub gives_what : GivesWhatItResolves rules
  gives_what t e r = given_where t e r t.snapshot.quit

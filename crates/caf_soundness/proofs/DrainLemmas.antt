-- A batch keeps all as it is to be, and its requests end as they were declared.
use Rattle.std.proofs.Common.{◌≡◌, ℕ, zero, suc, bytes_eq, Bool, true, false, List, [], Option, Some, None, is_none, if◌then◌else◌, refl, sym, subst}
use Rattle.std.specs.List.{AllByRecursion}
use Rattle.std.proofs.lemmas.Slice.Eq.{bytes_eq-Decides}
use Rattle.caf_types.specs.declared.notice.Notice.{Notice}
use Rattle.caf_types.specs.declared.notice.Notice.TheVariants as notice
use Rattle.caf_types.specs.declared.sec.Sec.TheVariants as sec
use Rattle.caf_words.specs.Several.{ids_of}
use Rattle.caf_message.specs.Content.{ids_in}
use Rattle.caf_message.specs.declared.envelope.Plain.{Plain}
use Rattle.caf_message.specs.declared.envelope.Plain.TheVariants as «plain»
use Rattle.caf_message.specs.declared.envelope.Taken.{Taken}
use Rattle.caf_mailbox.specs.Caches.{CachedLists, next_of}
use Rattle.caf_mailbox.proofs.NextLemmas.{all_append, all_next, all_filed}
use Rattle.caf_response.specs.declared.pending.Waiting.{Waiting}
use Rattle.caf_response.specs.Pending.{WaitingRequests, resolved}
use Rattle.caf_signature.specs.declared.interface.Signature.{Signature}
use Rattle.caf_actor.specs.declared.snapshot.Snapshot.{Snapshot}
use Rattle.caf_actor.specs.Drain.{with_batch, drain_for, batch_of}
use Rattle.caf_actor.specs.Eligibility.{is_eligible, with_caches, next_envelope}
use Rattle.caf_actor.specs.Handling.{response_input, failure_input, handle_one}
use Rattle.caf_actor.specs.Resolutions.{Resolution, resolution_where, resolution_of, expiry_resolves, expire_resolves, notice_resolves, body_resolves, resolves_where, resolves, turn_resolves, drain_resolves, batch_resolves}
use Rattle.caf_actor.specs.Rules.{Rules}
use Rattle.caf_actor.specs.Snapshot.{Handled, so_far, with_snapshot, cached}
use Rattle.caf_actor.specs.Ticking.{time_out, next_due, due_count, advance}
use Rattle.caf_record.proofs.ListLemmas.{same_of}
use Rattle.caf_soundness.specs.Typed.{IsExpected, GivenTyped, EndsTyped}
use Rattle.caf_soundness.proofs.LogLemmas.{Log, Declares, grows_on, declares_one}
use Rattle.caf_soundness.proofs.ComesLemmas.{ContentComes, BodyComes, Comes, Behaves, Good, After, at_once}
use Rattle.caf_soundness.proofs.HandleLemmas.{found_in}
use Rattle.caf_soundness.proofs.EnvelopeLemmas.{one_good}

timeout_expected : IsExpected sec.RequestTimeout
timeout_expected = record { message = λ e. absurd cc; response = λ e. absurd cc }

-- ---- ticks end requests by another error

module _ {S : Type 0} (rules : Rules S) where
  expiry_typed : (go : Handled S → List Resolution) → ((t : Handled S) → AllByRecursion EndsTyped (go t)) → (t : Handled S) (r : Option (Waiting × WaitingRequests)) → AllByRecursion EndsTyped (expiry_resolves rules go t r)
  expiry_typed go later t None = tt
  expiry_typed go later t (Some found) = (timeout_expected, later (time_out rules t found))

  expire_typed : (n : ℕ) (t : Handled S) → AllByRecursion EndsTyped (expire_resolves rules n t)
  expire_typed zero t = tt
  expire_typed (suc n) t = expiry_typed (expire_resolves rules n) (expire_typed n) t (next_due t.snapshot)

  notice_typed : (t : Handled S) (n : Notice) → AllByRecursion EndsTyped (notice_resolves rules t n)
  notice_typed t notice.Start = tt
  notice_typed t notice.Stop = tt
  notice_typed t (notice.Exit from why) = tt
  notice_typed t (notice.Link from) = tt
  notice_typed t (notice.Unlink from) = tt
  notice_typed t (notice.Watch from) = tt
  notice_typed t (notice.Unwatch from) = tt
  notice_typed t (notice.Down from why) = tt
  notice_typed t (notice.Begin from) = tt
  notice_typed t (notice.Tick from) = expire_typed (due_count (advance t).snapshot) (advance t)

module _ (face : ℕ → List Signature) {S : Type 0} (rules : Rules S) (T : Log → ℕ → S → Type 0) (behaves : Behaves face rules T) (first : Log) (place : ℕ) where
  abbrev pub Fine : Log → Handled S → Type 0
  Fine l t = Good face rules T first place l t

  abbrev pub Then : Log → Handled S → Type 0
  Then l t = After face rules T first place l t

  -- ---- responses end requests as these declared

  same_types : (w : Waiting) (words : List ℕ) → ids_of w.expected ≡ ids_in words → GivenTyped w (response_input w words)
  same_types w words same =
      let equal : bytes_eq (ids_of w.expected) (ids_in words) ≡ true = (bytes_eq-Decides (ids_of w.expected) (ids_in words)).1 same in
      rw equal (sym same)

  value_typed : (l : Log) (t : Handled S) (number : ℕ) (words : List ℕ) → Declares l place number (ids_in words) → Fine l t → (found : Option (Waiting × WaitingRequests)) → resolved t.snapshot.pending number ≡ found
      → AllByRecursion EndsTyped (resolution_where (λ w. response_input w words) found)
  value_typed l t number words d h None e = tt
  value_typed l t number words d h (Some found) e =
      let is = found_in face l place t.snapshot.pending number found h.awaits h.waits e in
      let it : Declares l place number (ids_of found.0.expected) = subst (λ (n : ℕ). Declares l place n (ids_of found.0.expected)) (same_of found.0.number number is.number_is) is.it in
      (same_types found.0 words (declares_one l place number (ids_of found.0.expected) (ids_in words) it d), tt)

  failure_typed : (why : _) → IsExpected why → (found : Option (Waiting × WaitingRequests)) → AllByRecursion EndsTyped (resolution_where (λ w. failure_input w why) found)
  failure_typed why is None = tt
  failure_typed why is (Some found) = (is, tt)

  body_typed : (l : Log) (t : Handled S) (e : Taken) (body : Plain) → e.body ≡ body → BodyComes face l place e.mid body → Fine l t → AllByRecursion EndsTyped (body_resolves rules t e body)
  body_typed l t e («plain».System what) is c h = notice_typed rules t what
  body_typed l t e («plain».Failure why) is c h = rw is (failure_typed why c (resolved t.snapshot.pending e.mid.number))
  body_typed l t e («plain».Content words) is c h = rw is (go e.mid.response c)
    where
      go : (b : Bool) → ContentComes face l place e.mid b words → AllByRecursion EndsTyped (if b then resolution_of t.snapshot.pending e.mid.number («plain».Content words) else [])
      go true c = value_typed l t e.mid.number words c h (resolved t.snapshot.pending e.mid.number) refl
      go false c = tt

  resolves_typed : (l : Log) (t : Handled S) (e : Taken) → Comes face l place e → Fine l t → AllByRecursion EndsTyped (resolves rules t e)
  resolves_typed l t e c h = go (is_none t.snapshot.quit)
    where
      go : (b : Bool) → AllByRecursion EndsTyped (resolves_where b rules t e)
      go true = body_typed l t e e.body refl c h
      go false = tt

  -- ---- the next envelope

  pub record Left (l : Log) (t : Handled S) (p : Taken × Snapshot S) : Type 0 where
    pub comes : Comes face l place p.0
    pub good : Fine l (with_snapshot t p.1)

  left : (l : Log) (t : Handled S) (p : Taken × Snapshot S) → next_envelope rules t.snapshot ≡ Some p → Fine l t → Left l t p
  left l t p q h = go (next_of (is_eligible rules t.snapshot) t.snapshot.caches) refl q
    where
      go : (r : Option (Taken × CachedLists)) → next_of (is_eligible rules t.snapshot) t.snapshot.caches ≡ r → with_caches t.snapshot r ≡ Some p → Left l t p
      go None e q = cc
      go (Some r) e q =
          let same : (r.0, record t.snapshot { caches = r.1 }) ≡ p = cc in
          let both = all_next (is_eligible rules t.snapshot) (Comes face l place) t.snapshot.caches r h.cached e in
          subst (Left l t) same (record {
            comes = both.0;
            good = record {
              grown = h.grown;
              others = h.others;
              at_is = h.at_is;
              typed = h.typed;
              numbered = h.numbered;
              awaits = h.awaits;
              waits = h.waits;
              cached = both.1;
              delayed = h.delayed;
              posted = h.posted;
            };
          })

  -- ---- the drain

  drain_good : (n : ℕ) (l : Log) (t : Handled S) → Fine l t → Then l (drain_for rules n t)
  drain_good zero l t h = at_once face rules T first place l t h
  drain_good (suc n) l t h = go (drain_good n) (next_envelope rules t.snapshot) refl
    where
      go : ((m : Log) (u : Handled S) → Fine m u → Then m (drain_for rules n u)) → (r : Option (Taken × Snapshot S)) → next_envelope rules t.snapshot ≡ r → Then l (drain_for rules (suc n) t)
      go later None e = rw e (at_once face rules T first place l t h)
      go later (Some p) e =
          let next = left l t p e h in
          let one = one_good face rules T behaves first place l (with_snapshot t p.1) p.0 next.comes next.good in
          let more = later one.log (handle_one rules (with_snapshot t p.1) p.0) one.good in
          rw e (record { log = more.log; on = grows_on l one.log more.log one.on more.on; good = more.good })

  drain_typed : (n : ℕ) (l : Log) (t : Handled S) → Fine l t → AllByRecursion EndsTyped (drain_resolves rules n t)
  drain_typed zero l t h = tt
  drain_typed (suc n) l t h = go (drain_typed n) (next_envelope rules t.snapshot) refl
    where
      go : ((m : Log) (u : Handled S) → Fine m u → AllByRecursion EndsTyped (drain_resolves rules n u)) → (r : Option (Taken × Snapshot S)) → next_envelope rules t.snapshot ≡ r
          → AllByRecursion EndsTyped (turn_resolves rules (drain_resolves rules n) t r)
      go later None e = tt
      go later (Some p) e =
          let next = left l t p e h in
          let one = one_good face rules T behaves first place l (with_snapshot t p.1) p.0 next.comes next.good in
          all_append EndsTyped (resolves rules (with_snapshot t p.1) p.0) _
          (resolves_typed l (with_snapshot t p.1) p.0 next.comes next.good)
          (later one.log (handle_one rules (with_snapshot t p.1) p.0) one.good)

  -- ---- a batch

  abbrev pub Stands : Log → Snapshot S → Type 0
  Stands l s = Fine l (so_far s [])

  filed_good : (l : Log) (s : Snapshot S) (batch : List Taken) → AllByRecursion (Comes face l place) batch → Stands l s → Fine l (so_far (with_batch s batch) [])
  filed_good l s batch c h = record {
    grown = h.grown;
    others = h.others;
    at_is = h.at_is;
    typed = h.typed;
    numbered = h.numbered;
    awaits = h.awaits;
    waits = h.waits;
    cached = all_filed (Comes face l place) s.caches batch h.cached c;
    delayed = h.delayed;
    posted = tt;
  }

  pub batch_good : (l : Log) (s : Snapshot S) (batch : List Taken) → AllByRecursion (Comes face l place) batch → Stands l s → Then l (batch_of rules s batch)
  batch_good l s batch c h = drain_good (cached (with_batch s batch)) l (so_far (with_batch s batch) []) (filed_good l s batch c h)

  pub batch_typed : (l : Log) (s : Snapshot S) (batch : List Taken) → AllByRecursion (Comes face l place) batch → Stands l s → AllByRecursion EndsTyped (batch_resolves rules s batch)
  batch_typed l s batch c h = drain_typed (cached (with_batch s batch)) l (so_far (with_batch s batch) []) (filed_good l s batch c h)

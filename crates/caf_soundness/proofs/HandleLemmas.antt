-- What an actor does with content, with a response and at a tick keeps all as it is to be.
use Rattle.std.proofs.Common.{◌≡◌, ℕ, zero, suc, ◌==◌, ◌&&◌, nat_le, Bool, true, false, List, [], ◌∷◌, length, bytes_eq, Option, Some, None, is_none, if◌then◌else◌, refl, ap, subst, ◌∙◌}
use Rattle.std.specs.List.{AllByRecursion}
use Rattle.caf_words.specs.Several.{ids_of}
use Rattle.caf_message.specs.Content.{ids_in}
use Rattle.caf_message.specs.Lists.{pick}
use Rattle.caf_mailbox.proofs.NextLemmas.{all_pick}
use Rattle.caf_response.specs.declared.pending.Waiting.{Waiting}
use Rattle.caf_response.specs.Delays.{PlainDelay, next_delay}
use Rattle.caf_response.specs.Pending.{WaitingRequests, has_number, without_due, from_awaited, from_multiplexed, resolved, resolved_where, due_by}
use Rattle.caf_signature.specs.declared.interface.Signature.{Signature}
use Rattle.caf_actor.specs.declared.origin.Origin.{Origin}
use Rattle.caf_actor.specs.Handling.{handle_content, response_input, resolve_with}
use Rattle.caf_actor.specs.PlainInput.{PlainInput, Content, Tick}
use Rattle.caf_actor.specs.Reacting.{react, give, give_content}
use Rattle.caf_actor.specs.Rules.{Rules, is_input}
use Rattle.caf_actor.specs.Snapshot.{Handled, with_snapshot}
use Rattle.caf_actor.specs.Ticking.{timeout_input, time_out, next_due, expire_for, due_count, expire_all, send_delayed, deliver_for, deliver_all, advance, hear_tick, handle_tick}
use Rattle.caf_soundness.proofs.LogLemmas.{Log, grows_on}
use Rattle.caf_soundness.proofs.ComesLemmas.{Accepts, IsAskedWhere, IsDeclared, IsDelayed, Given, Does, Behaves, Good, After, at_once, asked_grows, replies_grows}
use Rattle.caf_soundness.proofs.SendLemmas.{picked_passes, tell_good}
use Rattle.caf_soundness.proofs.OutputLemmas.{outputs_good}
use Rattle.caf_soundness.proofs.QuitLemmas.{answer_good, quit_where_good}

-- ---- requests that wait no longer

module _ (face : ℕ → List Signature) (l : Log) (place : ℕ) where
  -- what was declared of the request and of those that still wait
  pub record Found (r : WaitingRequests) (number : ℕ) (found : Waiting × WaitingRequests) : Type 0 where
    pub number_is : (found.0.number == number) ≡ true
    pub it : IsDeclared face l place found.0
    pub next : found.1.next ≡ r.next
    pub awaits : AllByRecursion (IsDeclared face l place) found.1.awaited
    pub waits : AllByRecursion (IsDeclared face l place) found.1.multiplexed

  pub found_in : (r : WaitingRequests) (number : ℕ) (found : Waiting × WaitingRequests) → AllByRecursion (IsDeclared face l place) r.awaited → AllByRecursion (IsDeclared face l place) r.multiplexed
      → resolved r number ≡ Some found → Found r number found
  found_in r number found awaits waits e = go (pick (has_number number) r.multiplexed) refl e
    where
      later : (o : Option (Waiting × List Waiting)) → pick (has_number number) r.awaited ≡ o → from_awaited r number o ≡ Some found → Found r number found
      later None q e = absurd cc
      later (Some p) q e =
          let both = all_pick (has_number number) (IsDeclared face l place) r.awaited p awaits q in
          let is : (p.0, record r { awaited = p.1; due = without_due number r.due }) ≡ found = cc in
          subst (Found r number) is (record { number_is = picked_passes (has_number number) r.awaited p q; it = both.0; next = refl; awaits = both.1; waits = waits })

      go : (o : Option (Waiting × List Waiting)) → pick (has_number number) r.multiplexed ≡ o → from_multiplexed r number o ≡ Some found → Found r number found
      go None q e = later (pick (has_number number) r.awaited) refl e
      go (Some p) q e =
          let both = all_pick (has_number number) (IsDeclared face l place) r.multiplexed p waits q in
          let is : (p.0, record r { multiplexed = p.1; due = without_due number r.due }) ≡ found = cc in
          subst (Found r number) is (record { number_is = picked_passes (has_number number) r.multiplexed p q; it = both.0; next = refl; awaits = awaits; waits = both.1 })

next_in : (P : PlainDelay → Type 0) (ds : List PlainDelay) (now : ℕ) (p : PlainDelay × List PlainDelay) → next_delay ds now ≡ Some p → AllByRecursion P ds → P p.0 × AllByRecursion P p.1
next_in P [] now p q all = cc
next_in P (d ∷ ds) now p q all = go (nat_le d.due now) q
  where
    go : (b : Bool) → (if b then Some (d, ds) else None) ≡ Some p → P p.0 × AllByRecursion P p.1
    go true e = let is : (d, ds) ≡ p = cc in subst (λ (r : PlainDelay × List PlainDelay). P r.0 × AllByRecursion P r.1) is all
    go false e = cc

module _ (face : ℕ → List Signature) {S : Type 0} (rules : Rules S) (T : Log → ℕ → S → Type 0) (behaves : Behaves face rules T) (first : Log) (place : ℕ) where
  abbrev pub Fine : Log → Handled S → Type 0
  Fine l t = Good face rules T first place l t

  abbrev pub Then : Log → Handled S → Type 0
  Then l t = After face rules T first place l t

  once : (l : Log) (t : Handled S) → Fine l t → Then l t
  once l t h = at_once face rules T first place l t h

  -- ---- reacting

  with_next : (l : Log) (t : Handled S) (i : PlainInput) → T l place (rules.next t.snapshot.behavior i) → Fine l t
      → Fine l (with_snapshot t (record t.snapshot { behavior = rules.next t.snapshot.behavior i }))
  with_next l t i typed h = record {
    grown = h.grown;
    others = h.others;
    at_is = h.at_is;
    typed = typed;
    numbered = h.numbered;
    awaits = h.awaits;
    waits = h.waits;
    cached = h.cached;
    delayed = h.delayed;
    posted = h.posted;
  }

  reacted : (l : Log) (t : Handled S) (i : PlainInput) → Does face rules T l place t.snapshot.behavior i → Fine l t → Then l (react rules t i)
  reacted l t i does h =
      outputs_good face rules T behaves first place l (with_snapshot t (record t.snapshot { behavior = rules.next t.snapshot.behavior i })) (rules.reaction t.snapshot.behavior i).outputs
      does.outputs (with_next l t i does.next h)

  pub give_good : (l : Log) (t : Handled S) (i : PlainInput) → Given face l place i → Fine l t → Then l (give rules t i)
  give_good l t i given h =
      let sent = reacted l t i (behaves.does l place t.snapshot.behavior i h.typed given) h in
      record { log = sent.log; on = sent.on; good = quit_where_good face rules T behaves first place sent.log (react rules t i) (rules.reaction t.snapshot.behavior i).quit sent.good }

  content_given : (l : Log) (t : Handled S) (origin : Origin) (words : List ℕ) → origin.mid.response ≡ false → Accepts face place words → IsAskedWhere face l place origin.mid words → Fine l t
      → Then l (give_content rules t origin words)
  content_given l t origin words no_response c asked h =
      let i : PlainInput = Content origin words in
      let does = behaves.does l place t.snapshot.behavior i h.typed (c, asked) in
      let sent = reacted l t i does h in
      let m : Log = sent.log in
      let answered = answer_good face rules T behaves first place m (react rules t i) origin words (rules.reaction t.snapshot.behavior i).answer no_response c
      (asked_grows face l m sent.on place origin.mid words asked)
      (replies_grows face l m sent.on place origin words (rules.reaction t.snapshot.behavior i).answer does.answer) sent.good in
      record { log = m; on = sent.on; good = quit_where_good face rules T behaves first place m _ (rules.reaction t.snapshot.behavior i).quit answered }

  pub content_good : (l : Log) (t : Handled S) (origin : Origin) (words : List ℕ) → origin.mid.response ≡ false → Accepts face place words → IsAskedWhere face l place origin.mid words → Fine l t
      → Then l (handle_content rules t origin words)
  content_good l t origin words no_response c asked h =
      let takes : rules.interface t.snapshot.behavior ≡ face place = behaves.takes l place t.snapshot.behavior h.typed in
      let input : is_input (rules.interface t.snapshot.behavior) (ids_in words) ≡ true = ap (λ (s : List Signature). is_input s (ids_in words)) takes ∙ c in
      rw input (content_given l t origin words no_response c asked h)

  -- ---- responses

  pub response_given : (l : Log) (w : Waiting) (words : List ℕ) → Given face l place (response_input w words)
  response_given l w words = go (bytes_eq (ids_of w.expected) (ids_in words)) refl
    where
      go : (b : Bool) → bytes_eq (ids_of w.expected) (ids_in words) ≡ b → Given face l place (response_input w words)
      go true e = rw e tt
      go false e = rw e tt

  with_found : (l : Log) (t : Handled S) (number : ℕ) (found : Waiting × WaitingRequests) → resolved t.snapshot.pending number ≡ Some found → Fine l t
      → Fine l (with_snapshot t (record t.snapshot { pending = found.1 }))
  with_found l t number found e h =
      let is = found_in face l place t.snapshot.pending number found h.awaits h.waits e in
      record {
        grown = h.grown;
        others = h.others;
        at_is = h.at_is;
        typed = h.typed;
        numbered = is.next ∙ h.numbered;
        awaits = is.awaits;
        waits = is.waits;
        cached = h.cached;
        delayed = h.delayed;
        posted = h.posted;
      }

  pub resolve_good : (l : Log) (t : Handled S) (number : ℕ) (input : Waiting → PlainInput) → ((w : Waiting) → Given face l place (input w)) → Fine l t
      → (found : Option (Waiting × WaitingRequests)) → resolved t.snapshot.pending number ≡ found → Then l (resolve_with rules t input found)
  resolve_good l t number input given h None e = once l t h
  resolve_good l t number input given h (Some found) e =
      give_good l (with_snapshot t (record t.snapshot { pending = found.1 })) (input found.0) (given found.0) (with_found l t number found e h)

  -- ---- ticks

  time_out_good : (l : Log) (t : Handled S) (found : Waiting × WaitingRequests) → next_due t.snapshot ≡ Some found → Fine l t → Then l (time_out rules t found)
  time_out_good l t found e h = go (due_by t.snapshot.clock t.snapshot.pending.due) e
    where
      go : (o : Option ℕ) → resolved_where t.snapshot.pending o ≡ Some found → Then l (time_out rules t found)
      go None q = absurd cc
      go (Some number) q = give_good l (with_snapshot t (record t.snapshot { pending = found.1 })) (timeout_input found.0) tt (with_found l t number found q h)

  expire_good : (n : ℕ) (l : Log) (t : Handled S) → Fine l t → Then l (expire_for rules n t)
  expire_good zero l t h = once l t h
  expire_good (suc n) l t h = go (expire_good n) (next_due t.snapshot) refl
    where
      go : ((m : Log) (u : Handled S) → Fine m u → Then m (expire_for rules n u)) → (r : Option (Waiting × WaitingRequests)) → next_due t.snapshot ≡ r → Then l (expire_for rules (suc n) t)
      go later None e = rw e (once l t h)
      go later (Some found) e =
          let one = time_out_good l t found e h in
          let more = later one.log (time_out rules t found) one.good in
          rw e (record { log = more.log; on = grows_on l one.log more.log one.on more.on; good = more.good })

  delivered_good : (l : Log) (t : Handled S) (next : PlainDelay × List PlainDelay) → next_delay t.snapshot.delays t.snapshot.clock ≡ Some next → Fine l t → Fine l (send_delayed t next)
  delivered_good l t next e h =
      let both = next_in (IsDelayed face) t.snapshot.delays t.snapshot.clock next e h.delayed in
      tell_good face rules T first place l (with_snapshot t (record t.snapshot { delays = next.1 })) next.0.to next.0.priority next.0.content both.0 (record {
        grown = h.grown;
        others = h.others;
        at_is = h.at_is;
        typed = h.typed;
        numbered = h.numbered;
        awaits = h.awaits;
        waits = h.waits;
        cached = h.cached;
        delayed = both.1;
        posted = h.posted;
      })

  deliver_good : (n : ℕ) (l : Log) (t : Handled S) → Fine l t → Fine l (deliver_for n t)
  deliver_good zero l t h = h
  deliver_good (suc n) l t h = go (deliver_good n l) (next_delay t.snapshot.delays t.snapshot.clock) refl
    where
      go : ((u : Handled S) → Fine l u → Fine l (deliver_for n u)) → (r : Option (PlainDelay × List PlainDelay)) → next_delay t.snapshot.delays t.snapshot.clock ≡ r → Fine l (deliver_for (suc n) t)
      go later None e = rw e h
      go later (Some next) e = rw e (later (send_delayed t next) (delivered_good l t next e h))

  hear_good : (l : Log) (t : Handled S) → Fine l t → Then l (hear_tick rules t)
  hear_good l t h = go (t.snapshot.place == 0 && is_none t.snapshot.quit)
    where
      go : (b : Bool) → Then l (if b then give rules t Tick else t)
      go true = give_good l t Tick tt h
      go false = once l t h

  pub tick_good : (l : Log) (t : Handled S) → Fine l t → Then l (handle_tick rules t)
  tick_good l t h =
      let started = advance t in
      let one = expire_good (due_count started.snapshot) l started h in
      let over = expire_all rules started in
      let heard = hear_good one.log (deliver_all over) (deliver_good (length over.snapshot.delays) one.log over one.good) in
      record { log = heard.log; on = grows_on l one.log heard.log one.on heard.on; good = heard.good }

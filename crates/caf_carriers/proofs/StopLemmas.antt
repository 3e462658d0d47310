-- At Stop a closer sends an exit with `kill` to each other place.
use Rattle.std.proofs.Common.{◌≡◌, ◌≢◌, ℕ, zero, suc, ◌+◌, ◌-◌, ◌≤◌, ◌<◌, ◌∙◌, sym, ap, subst, ◌==◌, Bool, true, false, List, [], ◌∷◌, count_by, Option, Some, None, refl, arith, ◌⊎◌, inl, inr}
use Rattle.std.specs.List.{AllByRecursion}
use Rattle.std.proofs.lemmas.Bool.Decides.{nat_tests}
use Rattle.caf_types.specs.declared.notice.Mid.{Mid}
use Rattle.caf_types.specs.declared.notice.Notice.TheVariants as notice
use Rattle.caf_types.specs.declared.notice.Priority.{Priority}
use Rattle.caf_types.specs.declared.notice.Priority.TheVariants.{Urgent}
use Rattle.caf_types.specs.declared.reason.Reason.{Reason}
use Rattle.caf_types.specs.declared.reason.Reason.TheVariants as reason
use Rattle.caf_message.specs.declared.envelope.Taken.{Taken}
use Rattle.caf_message.specs.declared.envelope.Plain.{Plain}
use Rattle.caf_message.specs.declared.envelope.Plain.TheVariants as «plain»
use Rattle.caf_message.specs.Envelope.{no_request}
use Rattle.caf_message.specs.Outside.{is_stop_body}
use Rattle.caf_mailbox.specs.Caches.{CachedLists, next_of}
use Rattle.caf_actor.specs.declared.origin.Origin.{Origin}
use Rattle.caf_actor.specs.declared.snapshot.Snapshot.{Snapshot}
use Rattle.caf_actor.specs.PlainInput.{PlainInput}
use Rattle.caf_actor.specs.PlainInput as input
use Rattle.caf_actor.specs.PlainOutput.{PlainOutput}
use Rattle.caf_actor.specs.PlainOutput as output
use Rattle.caf_actor.specs.PlainPost.{PlainPost}
use Rattle.caf_actor.specs.Rules.{Rules, StaysValid, StaysSameActor, SendsToPeers}
use Rattle.caf_actor.specs.Record.{to_place, kills, IsCloser}
use Rattle.caf_actor.specs.Snapshot.{Handled, so_far, with_snapshot, cached}
use Rattle.caf_actor.specs.Eligibility.{is_eligible, with_caches, next_envelope}
use Rattle.caf_actor.specs.Sending.{post, posting, send_output, send_outputs}
use Rattle.caf_actor.specs.Answering.{origin_of}
use Rattle.caf_actor.specs.Reacting.{react, give}
use Rattle.caf_actor.specs.Handling.{handle_body, handle_where, handle_one}
use Rattle.caf_actor.specs.Drain.{with_batch, batch_of}
use Rattle.caf_actor.proofs.DrainLemmas.{drain_keeps}
use Rattle.caf_actor.proofs.KeptLemmas as kept
use Rattle.caf_actor.proofs.SimpleLemmas as simple
use Rattle.caf_record.proofs.BatchLemmas.{to_append}
use Rattle.caf_carriers.proofs.CountLemmas.{one, count-cons, count-append, self_same}
use Rattle.caf_carriers.proofs.PlaceLemmas.{IsFor, Going, Left, acts_turn, acts_filed}
use Rattle.caf_carriers.proofs.CloserLemmas.{WasFed, KnownAt, OutcomeAt, behaves_at, other_place}
use Rattle.caf_carriers.proofs.KillLemmas.{is_kill, stops, listed, listed_next, listed_filed}

-- how many exits with `kill` were posted to a place
abbrev pub kills_to : ℕ → List PlainPost → ℕ
kills_to q ps = count_by is_kill (to_place q ps)

module _ {S : Type 0} (q : ℕ) where
  more_posted : (t : Handled S) (to : ℕ) (mid : Mid) (priority : Priority) (body : Plain) → kills_to q t.posts ≤ kills_to q (post t to mid priority body).posts
  more_posted t to mid priority body =
      let it : PlainPost = posting t.snapshot to mid priority body in
      let both = ap (count_by is_kill) (to_append q t.posts (it ∷ [])) in
      let sum = count-append is_kill (to_place q t.posts) (to_place q (it ∷ [])) in
      omega arith

  -- the exit itself
  kill_posted : (t : Handled S) → 1 ≤ kills_to q (send_output t (output.Exit q reason.Kill)).posts
  kill_posted t =
      let it : PlainPost = posting t.snapshot q (no_request t.snapshot.place) Urgent («plain».System (notice.Exit t.snapshot.place reason.Kill)) in
      let both = ap (count_by is_kill) (to_append q t.posts (it ∷ [])) in
      let sum = count-append is_kill (to_place q t.posts) (to_place q (it ∷ [])) in
      let here : to_place q (it ∷ []) ≡ it.envelope ∷ [] = rw (self_same q) refl in
      let last : count_by is_kill (to_place q (it ∷ [])) ≡ 1 = ap (count_by is_kill) here ∙ count-cons is_kill it.envelope [] in
      omega arith

  more_kills : (n from : ℕ) (t : Handled S) → 1 ≤ kills_to q t.posts → 1 ≤ kills_to q (send_outputs t (kills from n)).posts
  more_kills zero from t h = h
  more_kills (suc n) from t h =
      let more : kills_to q t.posts ≤ kills_to q (send_output t (output.Exit from reason.Kill)).posts = more_posted t from (no_request t.snapshot.place) Urgent («plain».System (notice.Exit t.snapshot.place reason.Kill)) in
      more_kills n (from + 1) (send_output t (output.Exit from reason.Kill)) (omega arith)

  all_killed : (n from : ℕ) (t : Handled S) → from ≤ q → q < from + n → 1 ≤ kills_to q (send_outputs t (kills from n)).posts
  all_killed zero from t low high = absurd (omega arith)
  all_killed (suc n) from t low high = go (q == from) refl (all_killed n (from + 1) (send_output t (output.Exit from reason.Kill)))
    where
      go : (b : Bool) → (q == from) ≡ b → (from + 1 ≤ q → q < from + 1 + n → 1 ≤ kills_to q (send_outputs (send_output t (output.Exit from reason.Kill)) (kills (from + 1) n)).posts)
          → 1 ≤ kills_to q (send_outputs t (kills from (suc n))).posts
      go true e later =
          let here : q ≡ from = grind (arith, nat_tests) in
          more_kills n (from + 1) (send_output t (output.Exit from reason.Kill)) (subst (λ (x : ℕ). 1 ≤ kills_to q (send_output t (output.Exit x reason.Kill)).posts) here (kill_posted t))
      go false e later =
          let above : from + 1 ≤ q = grind (arith, nat_tests) in
          let below : q < from + 1 + n = omega arith in
          later above below

-- ---- the closer

module _ {S : Type 0} (q : ℕ) (rules : Rules S) where
  abbrev pub Stopping : Handled S → Type 0
  Stopping t = (t.snapshot.quit ≢ None) ⊎ ((1 ≤ listed stops t.snapshot.caches) ⊎ (1 ≤ kills_to q t.posts))

  stopping_keeps : simple.Keeps {S = S} Stopping
  stopping_keeps = record {
    on_post = λ t to mid priority body h. on_post t to mid priority body h;
    on_holds = λ t holds h. h;
    on_issue = λ t mode tag expected h. h;
    on_issue_within = λ t ticks mode tag expected h. h;
    on_observers = λ t observers h. h;
    on_unstarted = λ t unstarted h. h;
    on_delays = λ t delays h. h;
    on_emptied = λ t why h. inl (λ e. cc);
  }
    where
      on_post : (t : Handled S) (to : ℕ) (mid : Mid) (priority : Priority) (body : Plain) → Stopping t → Stopping (post t to mid priority body)
      on_post t to mid priority body (inl h) = inl h
      on_post t to mid priority body (inr (inl h)) = inr (inl h)
      on_post t to mid priority body (inr (inr h)) = let more = more_posted q t to mid priority body in inr (inr (omega arith))

  stopping_keeps_too : simple.KeepsToo {S = S} rules Stopping
  stopping_keeps_too = record {
    on_behavior = λ t i may h. h;
    on_resolved = λ t number found e h. h;
    on_expired = λ t found e h. h;
    on_begun = λ t h. h;
    on_clock = λ t h. h;
  }

module _ {S : Type 0} (valid : S → Type 0) (rules : Rules S) (stays : StaysValid valid rules) (same : StaysSameActor valid rules) (peers : SendsToPeers valid rules)
    (places : ℕ) (start : ℕ → S) (closer : IsCloser rules places start) (q : ℕ) (above : 0 < q) (below : q < places) where
  abbrev AtZero : Handled S → Type 0
  AtZero t = OutcomeAt valid rules stays same peers places start closer 0 t

  gives_stop : (t : Handled S) → WasFed valid rules (start 0) t.snapshot.behavior → Stopping q rules (give rules t input.Stop)
  gives_stop t known =
      let outputs : (rules.reaction t.snapshot.behavior input.Stop).outputs ≡ kills 1 (places - 1) = ap (λ (x : S). (rules.reaction x input.Stop).outputs) known.1.0 ∙ closer.kills known.0 known.1.1 in
      let u : Handled S = with_snapshot t (record t.snapshot { behavior = rules.next t.snapshot.behavior input.Stop }) in
      let posted : 1 ≤ kills_to q (send_outputs u (kills 1 (places - 1))).posts = all_killed q (places - 1) 1 u (omega arith) (omega arith) in
      let reacted : 1 ≤ kills_to q (react rules t input.Stop).posts = subst (λ (os : List PlainOutput). 1 ≤ kills_to q (send_outputs u os).posts) (sym outputs) posted in
      kept.on_quit_where (λ x. Unit {0}) (λ b. Unit {0}) (Stopping q rules) (simple.with_anything (Stopping q rules) (stopping_keeps q rules)) (react rules t input.Stop) (rules.reaction t.snapshot.behavior input.Stop).quit (inr (inr reacted))

  stopped : (t : Handled S) (origin : Origin) (body : Plain) → is_stop_body body ≡ true → WasFed valid rules (start 0) t.snapshot.behavior → Stopping q rules (handle_body rules t origin body)
  stopped t origin («plain».Content words) e known = cc
  stopped t origin («plain».Failure what) e known = cc
  stopped t origin («plain».System notice.Start) e known = cc
  stopped t origin («plain».System notice.Stop) e known = gives_stop t known
  stopped t origin («plain».System (notice.Exit from why)) e known = cc
  stopped t origin («plain».System (notice.Link from)) e known = cc
  stopped t origin («plain».System (notice.Unlink from)) e known = cc
  stopped t origin («plain».System (notice.Watch from)) e known = cc
  stopped t origin («plain».System (notice.Unwatch from)) e known = cc
  stopped t origin («plain».System (notice.Down from why)) e known = cc
  stopped t origin («plain».System (notice.Begin from)) e known = cc
  stopped t origin («plain».System (notice.Tick from)) e known = cc

  stop_turn : (t : Handled S) (e : Taken) → stops e ≡ true → t.snapshot.quit ≡ None → WasFed valid rules (start 0) t.snapshot.behavior → Stopping q rules (handle_one rules t e)
  stop_turn t e is alive known = subst (λ (x : Option Reason). Stopping q rules (handle_where rules t x (origin_of e) e.body)) (sym alive) (stopped t (origin_of e) e.body is known)

  stopping_turn : (t : Handled S) (n : Taken × Snapshot S) → next_envelope rules t.snapshot ≡ Some n → AtZero t × Stopping q rules t → AtZero (handle_one rules (with_snapshot t n.1) n.0) × Stopping q rules (handle_one rules (with_snapshot t n.1) n.0)
  stopping_turn t n e h = (
    acts_turn 0 (◌≢◌ {A = ℕ} 0 0) (KnownAt valid rules (start 0) true) rules (behaves_at valid rules stays same peers places start closer 0 true refl) (other_place valid rules stays same peers places start closer 0) t n e h.0,
    go (next_of (is_eligible rules t.snapshot) t.snapshot.caches) refl e,
  )
    where
      taken : (r : Taken × CachedLists) → next_of (is_eligible rules t.snapshot) t.snapshot.caches ≡ Some r → AtZero t → Stopping q rules t → Stopping q rules (handle_one rules (with_snapshot t (record t.snapshot { caches = r.1 })) r.0)
      taken r f at k = by k
        where
          on : Stopping q rules (with_snapshot t (record t.snapshot { caches = r.1 })) → Stopping q rules (handle_one rules (with_snapshot t (record t.snapshot { caches = r.1 })) r.0)
          on l = simple.on_one rules (Stopping q rules) (stopping_keeps q rules) (stopping_keeps_too q rules) (with_snapshot t (record t.snapshot { caches = r.1 })) r.0 l

          each : (b : Bool) → stops r.0 ≡ b → 1 ≤ listed stops t.snapshot.caches → AtZero t → Stopping q rules (handle_one rules (with_snapshot t (record t.snapshot { caches = r.1 })) r.0)
          each true g some (Going l) = stop_turn (with_snapshot t (record t.snapshot { caches = r.1 })) r.0 g l.quit_is l.known
          each true g some (Left may why l) = absurd (may refl)
          each false g some at =
              let count = listed_next stops (is_eligible rules t.snapshot) t.snapshot.caches r f in
              let none : one (stops r.0) ≡ 0 = ap one g in
              on (inr (inl (omega arith)))

          by : Stopping q rules t → Stopping q rules (handle_one rules (with_snapshot t (record t.snapshot { caches = r.1 })) r.0)
          by (inl gone) = on (inl gone)
          by (inr (inr posted)) = on (inr (inr posted))
          by (inr (inl some)) = each (stops r.0) refl some at

      go : (r : Option (Taken × CachedLists)) → next_of (is_eligible rules t.snapshot) t.snapshot.caches ≡ r → with_caches t.snapshot r ≡ Some n → Stopping q rules (handle_one rules (with_snapshot t n.1) n.0)
      go None f g = cc
      go (Some r) f g =
          let is : (r.0, record t.snapshot { caches = r.1 }) ≡ n = cc in
          subst (λ (u : Taken × Snapshot S). Stopping q rules (handle_one rules (with_snapshot t u.1) u.0)) is (taken r f h.0 h.1)

  -- with Stop among what it has or takes, it has it still, or has posted the exit
  pub stopping_batch : (s : Snapshot S) (batch : List Taken) → AllByRecursion (IsFor 0) batch → AtZero (so_far s []) → 1 ≤ listed stops s.caches + count_by stops batch
      → (1 ≤ listed stops (batch_of rules s batch).snapshot.caches) ⊎ (1 ≤ kills_to q (batch_of rules s batch).posts)
  stopping_batch s batch all at some =
      let count = listed_filed stops s.caches batch in
      let filed_at : AtZero (so_far (with_batch s batch) []) =
      acts_filed 0 (◌≢◌ {A = ℕ} 0 0) (KnownAt valid rules (start 0) true) rules (behaves_at valid rules stays same peers places start closer 0 true refl) (other_place valid rules stays same peers places start closer 0) s batch all at in
      let last = drain_keeps rules (λ u. AtZero u × Stopping q rules u) stopping_turn (cached (with_batch s batch)) (so_far (with_batch s batch) []) (filed_at, inr (inl (omega arith))) in
      go last.0 last.1
    where
      go : AtZero (batch_of rules s batch) → Stopping q rules (batch_of rules s batch) → (1 ≤ listed stops (batch_of rules s batch).snapshot.caches) ⊎ (1 ≤ kills_to q (batch_of rules s batch).posts)
      go (Going h) (inl gone) = absurd (gone h.quit_is)
      go (Left may why h) (inl gone) = absurd (may refl)
      go at (inr k) = k

-- What is kept of a request in every state of a run.
use Rattle.std.proofs.Common.{◌≡◌, ◌≢◌, ℕ, zero, suc, ◌+◌, ◌-◌, ◌≤◌, ◌<◌, ◌∙◌, sym, ap, subst, ◌==◌, Bool, true, false, List, [], ◌∷◌, ◌++◌, length, drop, count_by, Option, Some, None, refl, arith, ◌⊎◌, inl, inr}
use Rattle.std.specs.List.{AllByRecursion}
use Rattle.caf_types.specs.declared.reason.Reason.{Reason}
use Rattle.caf_message.specs.declared.envelope.Taken.{Taken}
use Rattle.caf_message.specs.Envelope.{outside}
use Rattle.caf_message.specs.Outside.{outside_envelope}
use Rattle.caf_mailbox.proofs.NextLemmas.{AllCached, all_append}
use Rattle.caf_response.specs.Pending.{waiting_count}
use Rattle.caf_actor.specs.declared.snapshot.Snapshot.{Snapshot}
use Rattle.caf_actor.specs.PlainPost.{PlainPost}
use Rattle.caf_actor.specs.Leads.{LeadsWithin, GoesWithin, StaysWithin}
use Rattle.caf_actor.specs.Rules.{Rules, AnswersRequests, StaysValid, StaysSameActor, SendsToPeers}
use Rattle.caf_actor.specs.Snapshot.{Handled}
use Rattle.caf_actor.specs.Drain.{batch_of}
use Rattle.caf_actor.specs.Record.{machine_of, from_place, to_place, when}
use Rattle.caf_actor.specs.Run.{State, Turn, Take, without, MayTake, take_batch}
use Rattle.caf_actor.specs.Resolutions.{batch_resolves, times_resolved, times_answered, given_between}
use Rattle.caf_actor.specs.Carriers.{carries, carriers_at, carriers, step_resolves}
use Rattle.caf_actor.proofs.QuitLemmas.{none_after_quitting}
use Rattle.caf_actor.proofs.SoundLemmas.{IsSound, within_batch, stays_within, posts_within}
use Rattle.caf_actor.proofs.StampLemmas.{place_stays}
use Rattle.caf_record.proofs.BatchLemmas.{all_to}
use Rattle.caf_record.proofs.ListLemmas.{all_left, all_drop, all_map}
use Rattle.caf_carriers.specs.Counted.{IsCounted}
use Rattle.caf_carriers.specs.Home.{BelongsTo, IsHome, GoesHome}
use Rattle.caf_carriers.proofs.CountLemmas.{more_given, self_same, same_number}
use Rattle.caf_carriers.proofs.DueLemmas.{DueWaits, due_waits}
use Rattle.caf_carriers.proofs.BatchLemmas.{Facts, IsReady, on_batch}
use Rattle.caf_carriers.proofs.TotalLemmas.{IsSender, eq_comm, total_step, part_of_all}

-- ---- envelopes by sender

module _ (P : Taken → Type 0) where
  -- what holds of the envelopes of each sender holds of all
  all_senders : (es : List Taken) → ((x : ℕ) → AllByRecursion P (from_place x es)) → AllByRecursion P es
  all_senders [] h = tt
  all_senders (e ∷ es) h =
      (let k : AllByRecursion P (e ∷ from_place e.sender es) = rw (self_same e.sender) at (h e.sender) in k.0, all_senders es (λ x. go x (e.sender == x) refl))
    where
      go : (x : ℕ) (b : Bool) → (e.sender == x) ≡ b → AllByRecursion P (from_place x es)
      go x true q = let k : AllByRecursion P (e ∷ from_place x es) = rw q at (h x) in k.1
      go x false q = rw q at (h x)

sent_by : (x : ℕ) (es : List Taken) → AllByRecursion (λ e. e.sender ≡ x) (from_place x es)
sent_by x [] = tt
sent_by x (e ∷ es) = go (e.sender == x) refl (sent_by x es)
  where
    go : (b : Bool) → (e.sender == x) ≡ b → AllByRecursion (λ e. e.sender ≡ x) (from_place x es) → AllByRecursion (λ e. e.sender ≡ x) (from_place x (e ∷ es))
    go true q k = rw q (same_number e.sender x q, k)
    go false q k = rw q k

-- posts that go home are home where they arrive
home_to : (b : ℕ) (ps : List PlainPost) → AllByRecursion GoesHome ps → AllByRecursion (IsHome b) (to_place b ps)
home_to b [] h = tt
home_to b (p ∷ ps) h = go (p.to == b) refl (home_to b ps h.1)
  where
    go : (c : Bool) → (p.to == b) ≡ c → AllByRecursion (IsHome b) (to_place b ps) → AllByRecursion (IsHome b) (to_place b (p ∷ ps))
    go true q k = let here : IsHome b p.envelope = subst (λ (x : ℕ). BelongsTo x p.envelope.mid p.envelope.body) (same_number p.to b q) h.0 in rw q (here, k)
    go false q k = rw q k

all_leads : (K : ℕ → Type 0) (ps : List PlainPost) → AllByRecursion (GoesWithin K) ps → AllByRecursion (λ p. LeadsWithin K p.envelope) ps
all_leads K [] h = tt
all_leads K (p ∷ ps) h = (h.0.leads, all_leads K ps h.1)

all_targets : (K : ℕ → Type 0) (ps : List PlainPost) → AllByRecursion (GoesWithin K) ps → AllByRecursion (λ p. K p.to) ps
all_targets K [] h = tt
all_targets K (p ∷ ps) h = (h.0.to, all_targets K ps h.1)

-- ---- notices of the outside

pub no_response : (places ticks k stamp : ℕ) → IsHome places (outside_envelope ticks k stamp)
no_response places ticks k stamp = λ e. cc

pub leads_nowhere : (K : ℕ → Type 0) (ticks k stamp : ℕ) → LeadsWithin K (outside_envelope ticks k stamp)
leads_nowhere K ticks k stamp = go (k == 0) refl (k == ticks + 1) refl
  where
    go : (b : Bool) → (k == 0) ≡ b → (c : Bool) → (k == ticks + 1) ≡ c → LeadsWithin K (outside_envelope ticks k stamp)
    go true e c f = rw e tt
    go false e true f = rw (e, f) tt
    go false e false f = rw (e, f) tt

-- ---- states

-- every place is in order, and so is what waits for it
pub record InOrder {S : Type 0} (valid : S → Type 0) (rules : Rules S) (places n : ℕ) (s : State (Snapshot S)) : Type 0 where
  pub places_are : s.places ≡ places
  pub few : places ≤ outside
  pub at : (p : ℕ) → p < places → (s.snapshot p).place ≡ p
  pub occurs : (p : ℕ) → p < places → valid (s.snapshot p).behavior
  pub own : (p : ℕ) → p < places → rules.place (s.snapshot p).behavior ≡ (s.snapshot p).place
  pub within : (p : ℕ) → p < places → StaysWithin (λ q. q < places) rules (s.snapshot p)
  pub home : (p : ℕ) → p < places → AllCached (IsHome p) (s.snapshot p).caches
  pub ended : (p : ℕ) → p < places → ((s.snapshot p).quit ≡ None) ⊎ (waiting_count (s.snapshot p).pending n ≡ 0) × ((s.snapshot p).pending.due ≡ [])
  pub due : (p : ℕ) → p < places → DueWaits n (s.snapshot p).pending
  pub waiting_home : (x b : ℕ) → AllByRecursion (IsHome b) (s.waiting x b)
  pub waiting_within : (x b : ℕ) → AllByRecursion (LeadsWithin (λ q. q < places)) (s.waiting x b)
  pub senders : (x b : ℕ) → IsSender places x ⊎ (s.waiting x b ≡ [])

module _ {S : Type 0} (valid : S → Type 0) (rules : Rules S) (stays : StaysValid valid rules) (same : StaysSameActor valid rules) (peers : SendsToPeers valid rules) (answers : AnswersRequests valid rules) where
  -- ---- a turn

  module _ (a n places : ℕ) (is_place : a < places) (s : State (Snapshot S)) (t : Turn) (may : MayTake (machine_of rules) s t) (order : InOrder valid rules places n s) where
    abbrev played : Handled S
    played = batch_of rules (s.snapshot t.place) t.batch.taken

    abbrev later : State (Snapshot S)
    later = take_batch (machine_of rules) s t

    here : t.place < places
    here = subst (λ (k : ℕ). t.place < k) order.places_are may.place

    -- what holds of all that waits for the place holds of the batch
    pub of_batch : (P : Taken → Type 0) → ((x : ℕ) → AllByRecursion P (s.waiting x t.place)) → AllByRecursion P t.batch.taken
    of_batch P all =
        all_senders P t.batch.taken (λ x.
        let next = may.next x in
        all_left P (from_place x t.batch.taken) next.0 (subst (λ es. AllByRecursion P es) (sym next.1) (all x)))

    batch_home : AllByRecursion (IsHome t.place) t.batch.taken
    batch_home = of_batch (IsHome t.place) (λ x. order.waiting_home x t.place)

    batch_within : AllByRecursion (LeadsWithin (λ q. q < places)) t.batch.taken
    batch_within = of_batch (LeadsWithin (λ q. q < places)) (λ x. order.waiting_within x t.place)

    batch_senders : AllByRecursion (λ e. IsSender places e.sender) t.batch.taken
    batch_senders = all_senders (λ e. IsSender places e.sender) t.batch.taken (λ x. go x (order.senders x t.place))
      where
        go : (x : ℕ) → IsSender places x ⊎ (s.waiting x t.place ≡ []) → AllByRecursion (λ e. IsSender places e.sender) (from_place x t.batch.taken)
        go x (inl is) = all_map (λ (e : Taken). e.sender ≡ x) (λ e. IsSender places e.sender) (λ e q. subst (IsSender places) (sym q) is) (from_place x t.batch.taken) (sent_by x t.batch.taken)
        go x (inr none) =
            let next = may.next x in
            empty (from_place x t.batch.taken) next.0 (next.1 ∙ none)
          where
            empty : (xs ys : List Taken) → xs ++ ys ≡ [] → AllByRecursion (λ e. IsSender places e.sender) xs
            empty [] ys q = tt
            empty (z ∷ xs) ys q = cc

    sound : IsSound (λ q. q < places) (λ b. Unit {0}) valid rules played
    sound = within_batch valid rules stays same peers (λ q. q < places) (s.snapshot t.place) t.batch.taken (order.occurs t.place here) (order.own t.place here) (order.within t.place here) batch_within

    posts_go : AllByRecursion (GoesWithin (λ q. q < places)) played.posts
    posts_go = posts_within valid rules stays same peers (λ q. q < places) played.posts sound.posts

    -- ---- the counts of the batch

    ready : IsReady t.place n (s.snapshot t.place) t.batch.taken
    ready = record { at = order.at t.place here; home = order.home t.place here; batch_home = batch_home; ended = order.ended t.place here }

    abbrev made : ℕ
    made = carriers_at a n (s.snapshot t.place) + count_by (carries a n) t.batch.taken

    few : s.places ≤ outside
    few = subst (λ (k : ℕ). k ≤ outside) (sym order.places_are) order.few

    known_senders : AllByRecursion (λ e. IsSender s.places e.sender) t.batch.taken
    known_senders = subst (λ (k : ℕ). AllByRecursion (λ e. IsSender k e.sender) t.batch.taken) (sym order.places_are) batch_senders

    known_targets : AllByRecursion (λ (q : PlainPost). q.to < s.places) played.posts
    known_targets = subst (λ (k : ℕ). AllByRecursion (λ (q : PlainPost). q.to < k) played.posts) (sym order.places_are) (all_targets (λ q. q < places) _ posts_go)

    total : carriers a n later + made
        ≡ carriers a n s + (carriers_at a n played.snapshot + count_by (λ (q : PlainPost). carries a n q.envelope) played.posts)
    total = total_step a n (machine_of rules) s t may.place few may.next known_senders known_targets

    part : made ≤ carriers a n s
    part = part_of_all a n (machine_of rules) s t may.place few may.next known_senders known_targets

    abbrev others : ℕ
    others = carriers a n s - (carriers_at a n (s.snapshot t.place) + count_by (carries a n) t.batch.taken)

    -- by whether it is the requester's place
    facts_own : (t.place == a) ≡ true → 0 < (s.snapshot t.place).pending.next → waiting_count (s.snapshot t.place).pending n ≤ carriers a n s
        → Facts a n t.place true 0 others made (s.snapshot t.place).pending.next (waiting_count (s.snapshot t.place).pending n) (0 + times_answered n (batch_resolves rules (s.snapshot t.place) t.batch.taken))
        (0 + times_resolved n (batch_resolves rules (s.snapshot t.place) t.batch.taken)) played
    facts_own q low cover =
        let less = part in
        on_batch valid rules answers stays a n t.place true 0 others q (λ e. refl) (s.snapshot t.place) t.batch.taken (λ e. low) ready (omega arith) (order.occurs t.place here)

    facts_other : (t.place == a) ≡ false → (need : ℕ) → need ≤ carriers a n s
        → Facts a n t.place false need others made (s.snapshot t.place).pending.next 0 (0 + 0) (0 + 0) played
    facts_other q need cover =
        let less = part in
        on_batch valid rules answers stays a n t.place false need others q (λ e. cc) (s.snapshot t.place) t.batch.taken (λ e. cc) ready (omega arith) (order.occurs t.place here)

    -- ---- the snapshots after it

    pub snapshot_after : (p : ℕ) → (p == t.place) ≡ true → later.snapshot p ≡ played.snapshot
    snapshot_after p q = rw q (ap (λ (x : ℕ). (batch_of rules (s.snapshot x) t.batch.taken).snapshot) (same_number p t.place q))

    pub at_each : (P : ℕ → Snapshot S → Type 0) → P t.place played.snapshot → ((p : ℕ) → p < places → P p (s.snapshot p)) → (p : ℕ) → p < places → P p (later.snapshot p)
    at_each P mine others p less = go (p == t.place) refl
      where
        go : (b : Bool) → (p == t.place) ≡ b → P p (later.snapshot p)
        go true q =
            let is : p ≡ t.place = same_number p t.place q in
            let there : P p played.snapshot = subst (λ (x : ℕ). P x played.snapshot) (sym is) mine in
            subst (λ (u : Snapshot S). P p u) (sym (snapshot_after p q)) there
        go false q = rw q (others p less)

    -- ---- what waits after it

    pub all_waiting : (P : ℕ → Taken → Type 0) → ((x b : ℕ) → AllByRecursion (P b) (s.waiting x b)) → ((b : ℕ) → AllByRecursion (P b) (to_place b played.posts))
        → (x b : ℕ) → AllByRecursion (P b) (later.waiting x b)
    all_waiting P old new x b =
        all_append (P b) (without (b == t.place) (from_place x t.batch.taken) (s.waiting x b)) (when (x == t.place) (to_place b (batch_of rules (s.snapshot x) t.batch.taken).posts)) (left (b == t.place)) (news (x == t.place) refl)
      where
        left : (c : Bool) → AllByRecursion (P b) (without c (from_place x t.batch.taken) (s.waiting x b))
        left true = all_drop (P b) (length (from_place x t.batch.taken)) (s.waiting x b) (old x b)
        left false = old x b

        news : (c : Bool) → (x == t.place) ≡ c → AllByRecursion (P b) (when (x == t.place) (to_place b (batch_of rules (s.snapshot x) t.batch.taken).posts))
        news true q = rw q (subst (λ (y : ℕ). AllByRecursion (P b) (to_place b (batch_of rules (s.snapshot y) t.batch.taken).posts)) (sym (same_number x t.place q)) (new b))
        news false q = rw q tt

    senders_after : (x b : ℕ) → IsSender places x ⊎ (later.waiting x b ≡ [])
    senders_after x b = go (order.senders x b) (x == t.place) refl
      where
        drop_none : (c : Bool) (es : List Taken) → without c es [] ≡ []
        drop_none true es = none_left (length es)
          where
            none_left : (k : ℕ) → ◌≡◌ {A = List Taken} (drop k []) []
            none_left zero = refl
            none_left (suc k) = refl
        drop_none false es = refl

        go : IsSender places x ⊎ (s.waiting x b ≡ []) → (c : Bool) → (x == t.place) ≡ c → IsSender places x ⊎ (later.waiting x b ≡ [])
        go (inl is) c q = inl is
        go (inr none) true q = inl (inl (subst (λ (y : ℕ). y < places) (sym (same_number x t.place q)) here))
        go (inr none) false q =
            let left : without (b == t.place) (from_place x t.batch.taken) (s.waiting x b) ≡ [] = ap (without (b == t.place) (from_place x t.batch.taken)) none ∙ drop_none (b == t.place) (from_place x t.batch.taken) in
            inr (rw (q, left) refl)

    -- ---- together

    abbrev Homes : Type 0
    Homes = AllCached (IsHome t.place) played.snapshot.caches
        × ((played.snapshot.quit ≡ None) ⊎ (waiting_count played.snapshot.pending n ≡ 0) × (played.snapshot.pending.due ≡ []))
        × AllByRecursion GoesHome played.posts

    pub order_after : 1 ≤ (s.snapshot a).pending.next → waiting_count (s.snapshot a).pending n ≤ carriers a n s → InOrder valid rules places n later
    order_after low cover = record {
      places_are = order.places_are;
      few = order.few;
      at = at_each (λ p u. u.place ≡ p) (place_stays rules (s.snapshot t.place) t.batch.taken ∙ order.at t.place here) order.at;
      occurs = at_each (λ p u. valid u.behavior) sound.valid order.occurs;
      own = at_each (λ p u. rules.place u.behavior ≡ u.place) sound.own order.own;
      within = at_each (λ p u. StaysWithin (λ q. q < places) rules u) (stays_within valid rules stays same peers (λ q. q < places) played sound) order.within;
      home = at_each (λ p u. AllCached (IsHome p) u.caches) homes.0 order.home;
      ended = at_each (λ p u. (u.quit ≡ None) ⊎ (waiting_count u.pending n ≡ 0) × (u.pending.due ≡ [])) homes.1 order.ended;
      due = at_each (λ p u. DueWaits n u.pending) (due_waits rules n (s.snapshot t.place) t.batch.taken (order.due t.place here)) order.due;
      waiting_home = all_waiting (λ b. IsHome b) order.waiting_home (λ b. home_to b played.posts homes.2);
      waiting_within = all_waiting (λ b. LeadsWithin (λ q. q < places)) order.waiting_within
          (λ b. all_to (LeadsWithin (λ q. q < places)) b played.posts (all_leads (λ q. q < places) played.posts posts_go));
      senders = senders_after;
    }
      where
        homes : Homes
        homes = go (t.place == a) refl
          where
            go : (b : Bool) → (t.place == a) ≡ b → Homes
            go true q =
                let is : a ≡ t.place = sym (same_number t.place a q) in
                let enough : waiting_count (s.snapshot t.place).pending n ≤ carriers a n s = subst (λ (x : ℕ). waiting_count (s.snapshot x).pending n ≤ carriers a n s) is cover in
                let low_here : 1 ≤ (s.snapshot t.place).pending.next = subst (λ (x : ℕ). 1 ≤ (s.snapshot x).pending.next) is low in
                let f = facts_own q (omega arith) enough in (f.home, f.ended, f.goes)
            go false q = let f = facts_other q 0 (omega arith) in (f.home, f.ended, f.goes)

    pub counted_after : (c d : ℕ) → IsCounted a n s c d
        → IsCounted a n later (c + times_answered n (step_resolves rules a s (Take t))) (d + times_resolved n (step_resolves rules a s (Take t)))
    counted_after c d h = go (a == t.place) refl
      where
        was : (q : Option Reason) → (s.snapshot t.place).quit ≡ q → played.snapshot.quit ≡ None → (s.snapshot t.place).quit ≡ None
        was None e alive = e
        was (Some why) e alive =
            let some : (s.snapshot t.place).quit ≢ None = λ no. let wrong : Some why ≡ None = sym e ∙ no in cc in
            let stayed = (none_after_quitting rules (s.snapshot t.place) t.batch.taken some).quit in
            let wrong : Some why ≡ None = sym e ∙ (sym stayed ∙ alive) in cc

        own_turn : a ≡ t.place → (a == t.place) ≡ true
            → IsCounted a n later (c + times_answered n (step_resolves rules a s (Take t))) (d + times_resolved n (step_resolves rules a s (Take t)))
        own_turn is q =
            let home : (t.place == a) ≡ true = eq_comm t.place a ∙ q in
            let cover_here : waiting_count (s.snapshot t.place).pending n ≤ carriers a n s = subst (λ (x : ℕ). waiting_count (s.snapshot x).pending n ≤ carriers a n s) is h.cover in
            let low_place : 1 ≤ (s.snapshot t.place).pending.next = subst (λ (x : ℕ). 1 ≤ (s.snapshot x).pending.next) is h.low in
            let f = facts_own home (omega arith) cover_here in
            let all = total in
            let less = part in
            let f_most = f.most in
            let f_cover = f.cover in
            let f_once = f.once in
            let f_low = f.low in
            let is_played : later.snapshot a ≡ played.snapshot = snapshot_after a q in
            let resolved_now : step_resolves rules a s (Take t) ≡ batch_resolves rules (s.snapshot t.place) t.batch.taken = rw q (ap (λ (x : ℕ). batch_resolves rules (s.snapshot x) t.batch.taken) is) in
            let c_same : times_answered n (step_resolves rules a s (Take t)) ≡ times_answered n (batch_resolves rules (s.snapshot t.place) t.batch.taken) = ap (times_answered n) resolved_now in
            let d_same : times_resolved n (step_resolves rules a s (Take t)) ≡ times_resolved n (batch_resolves rules (s.snapshot t.place) t.batch.taken) = ap (times_resolved n) resolved_now in
            let next_now : (later.snapshot a).pending.next ≡ played.snapshot.pending.next = ap (λ (u : Snapshot S). u.pending.next) is_played in
            let next_was : (s.snapshot a).pending.next ≡ (s.snapshot t.place).pending.next = ap (λ (x : ℕ). (s.snapshot x).pending.next) is in
            let waits_now : waiting_count (later.snapshot a).pending n ≡ waiting_count played.snapshot.pending n = ap (λ (u : Snapshot S). waiting_count u.pending n) is_played in
            let waits_was : waiting_count (s.snapshot a).pending n ≡ waiting_count (s.snapshot t.place).pending n = ap (λ (x : ℕ). waiting_count (s.snapshot x).pending n) is in
            let low = h.low in
            let most = h.most in
            let once = h.once in
            let low_here : 1 ≤ (s.snapshot t.place).pending.next = omega arith in
            let more = more_given 1 (s.snapshot t.place).pending.next played.snapshot.pending.next n low_here f.low in
            let given_now : given_between 1 (later.snapshot a).pending.next n ≡ given_between 1 played.snapshot.pending.next n = ap (λ (k : ℕ). given_between 1 k n) next_now in
            let given_was : given_between 1 (s.snapshot a).pending.next n ≡ given_between 1 (s.snapshot t.place).pending.next n = ap (λ (k : ℕ). given_between 1 k n) next_was in
            record {
              low = omega arith;
              most = omega arith;
              cover = omega arith;
              once = omega arith;
              exact = λ alive.
                  let alive_now : played.snapshot.quit ≡ None = ap (λ (u : Snapshot S). u.quit) (sym is_played) ∙ alive in
                  let alive_then : (s.snapshot t.place).quit ≡ None = was (s.snapshot t.place).quit refl alive_now in
                  let alive_at : (s.snapshot a).quit ≡ None = ap (λ (x : ℕ). (s.snapshot x).quit) is ∙ alive_then in
                  let same_then = h.exact alive_at in
                  let same_now = f.exact alive_now in
                  omega arith;
            }

        go : (b : Bool) → (a == t.place) ≡ b
            → IsCounted a n later (c + times_answered n (step_resolves rules a s (Take t))) (d + times_resolved n (step_resolves rules a s (Take t)))
        go true q =
            own_turn (same_number a t.place q) q
        go false q =
            let away : (t.place == a) ≡ false = eq_comm t.place a ∙ q in
            let f = facts_other away (waiting_count (s.snapshot a).pending n) h.cover in
            let all = total in
            let less = part in
            let f_most = f.most in
            let f_cover = f.cover in
            let most = h.most in
            let cover = h.cover in
            let still : later.snapshot a ≡ s.snapshot a = rw q refl in
            let none : step_resolves rules a s (Take t) ≡ [] = rw q refl in
            let answers_none : times_answered n (step_resolves rules a s (Take t)) ≡ 0 = ap (times_answered n) none in
            let resolves_none : times_resolved n (step_resolves rules a s (Take t)) ≡ 0 = ap (times_resolved n) none in
            let next_same : (later.snapshot a).pending.next ≡ (s.snapshot a).pending.next = ap (λ (u : Snapshot S). u.pending.next) still in
            let given_same : given_between 1 (later.snapshot a).pending.next n ≡ given_between 1 (s.snapshot a).pending.next n = ap (λ (k : ℕ). given_between 1 k n) next_same in
            let waits_same : waiting_count (later.snapshot a).pending n ≡ waiting_count (s.snapshot a).pending n = ap (λ (u : Snapshot S). waiting_count u.pending n) still in
            let low = h.low in
            let once = h.once in
            record {
              low = omega arith;
              most = omega arith;
              cover = omega arith;
              once = omega arith;
              exact = λ alive. let same = h.exact (ap (λ (u : Snapshot S). u.quit) (sym still) ∙ alive) in omega arith;
            }

    -- a carrier arises only where its request is issued
    pub arises_after : 1 ≤ (s.snapshot a).pending.next → waiting_count (s.snapshot a).pending n ≤ carriers a n s
        → carriers a n later ≤ carriers a n s + given_between (s.snapshot a).pending.next (later.snapshot a).pending.next n
    arises_after low cover = go (a == t.place) refl
      where
        go : (b : Bool) → (a == t.place) ≡ b → carriers a n later ≤ carriers a n s + given_between (s.snapshot a).pending.next (later.snapshot a).pending.next n
        go true q =
            let is : a ≡ t.place = same_number a t.place q in
            let low_here : 1 ≤ (s.snapshot t.place).pending.next = subst (λ (x : ℕ). 1 ≤ (s.snapshot x).pending.next) is low in
            let cover_here : waiting_count (s.snapshot t.place).pending n ≤ carriers a n s = subst (λ (x : ℕ). waiting_count (s.snapshot x).pending n ≤ carriers a n s) is cover in
            let f = facts_own (eq_comm t.place a ∙ q) (omega arith) cover_here in
            let f_most = f.most in
            let all = total in
            let less = part in
            let next_now : (later.snapshot a).pending.next ≡ played.snapshot.pending.next = ap (λ (u : Snapshot S). u.pending.next) (snapshot_after a q) in
            let next_was : (s.snapshot a).pending.next ≡ (s.snapshot t.place).pending.next = ap (λ (x : ℕ). (s.snapshot x).pending.next) is in
            let given : given_between (s.snapshot a).pending.next (later.snapshot a).pending.next n ≡ given_between (s.snapshot t.place).pending.next played.snapshot.pending.next n =
            ap (λ (k : ℕ). given_between k (later.snapshot a).pending.next n) next_was ∙ ap (λ (k : ℕ). given_between (s.snapshot t.place).pending.next k n) next_now in
            omega arith
        go false q =
            let f = facts_other (eq_comm t.place a ∙ q) 0 (omega arith) in
            let f_most = f.most in
            let all = total in
            let less = part in
            omega arith

-- A batch that a driver plays is a step of the run.
use Rattle.std.proofs.Common.{◌≡◌, ◌≢◌, ℕ, ◌+◌, ◌-◌, ◌<◌, ◌≤◌, ◌==◌, ◌⊎◌, min, max, Bool, true, false, if◌then◌else◌, List, [], ◌∷◌, ◌++◌, length, map, Some, refl, ap, sym, ◌∙◌, subst, arith, inl, inr, length-append}
use Rattle.std.specs.Prelude.{slice_get, slice_set, slice_index_or}
use Rattle.std.proofs.lemmas.List.{append-nil}
use Rattle.caf_message.specs.declared.envelope.Taken.{Taken}
use Rattle.caf_mailbox.proofs.FilingLemmas.{counted}
use Rattle.caf_actor.specs.declared.journal.TakenBatch.{TakenBatch}
use Rattle.caf_actor.specs.declared.snapshot.Snapshot.{Snapshot}
use Rattle.caf_actor.specs.Rules.{Rules}
use Rattle.caf_actor.specs.Actor.{ActorState}
use Rattle.caf_actor.specs.Snapshot.{so_far, cached}
use Rattle.caf_actor.specs.Drain.{stamp_due, with_batch, batch_of, left_in_batch}
use Rattle.caf_actor.specs.Record.{Machine, machine_of, IsPrefix, from_place, to_place, joined, when}
use Rattle.caf_actor.specs.Run.{State, Turn, Take, opening_state, MayTake, without, take_batch, run, batches_of}
use Rattle.caf_actor.proofs.DrainLemmas.{cached_drain}
use Rattle.caf_record.specs.RunRecord.{journal_at}
use Rattle.caf_record.proofs.ListLemmas.{same_of}
use Rattle.caf_record.proofs.BatchLemmas.{joined_one}
use Rattle.caf_driver.specs.Population.{HasPlayed}
use Rattle.caf_driver.specs.Driver.{DriverState, journals_of, snapshot_in, ticks_in, unsaid, StandsAs, HasCounted, IsDriven}
use Rattle.caf_driver.proofs.ListLemmas.{not_of, get_less, set_get, field_at, field_written, field_kept, fields, fields_written}
use Rattle.caf_driver.proofs.StepLemmas.{batches_append, run_append, run_more, same_places}
use Rattle.caf_driver.proofs.DrivenLemmas.{nothing_unsaid, driven_by}

-- what left the lists, with a batch of so many
more_left : (first old news more left was listed now : ℕ) → first + old ≡ left + was → news ≡ old + more → listed ≡ was + more → now ≤ listed → first + news ≡ (left + (listed - now)) + now
more_left first old news more left was listed now before total filed less = omega arith

more_counted : (top left more handled : ℕ) → handled ≡ min left top → min (handled + more) top ≡ min (left + more) top
more_counted top left more handled is = omega arith

module _ {S : Type 0} (rules : Rules S) (start : ℕ → Snapshot S) where
  abbrev m : Machine (Snapshot S)
  m = machine_of rules

  -- ---- the counts of the actor

  module _ (es : List Taken) (before after : ActorState S) (played : HasPlayed rules es before after) where
    abbrev batch : TakenBatch
    batch = record { stamp = stamp_due before.snapshot.stamp es; taken = es }

    pub played_counted : (first : Snapshot S) → HasCounted first m before → HasCounted first m after
    played_counted first h =
        let taken : length (joined after.journal) ≡ length (joined before.journal) + length es =
        ap (λ bs. length (joined bs)) played.journal ∙ ap length (joined_one before.journal batch) ∙ length-append (joined before.journal) es in
        let listed : cached (with_batch before.snapshot es) ≡ cached before.snapshot + length es =
        counted before.snapshot.caches.urgent before.snapshot.caches.normal (with_batch before.snapshot es).caches.urgent (with_batch before.snapshot es).caches.normal es refl refl in
        let less : cached (batch_of rules before.snapshot es).snapshot ≤ cached (with_batch before.snapshot es) = cached_drain rules (so_far (with_batch before.snapshot es) []) in
        let same : cached (batch_of rules before.snapshot es).snapshot ≡ cached after.snapshot = ap (λ (s : Snapshot S). cached s) (sym played.snapshot) in
        record {
          left = h.left + left_in_batch rules before.snapshot es;
          all = more_left (cached first) (length (joined before.journal)) (length (joined after.journal)) (length es) h.left (cached before.snapshot) (cached (with_batch before.snapshot es)) (cached (batch_of rules before.snapshot es).snapshot) h.all taken listed less
              ∙ ap (λ n. (h.left + left_in_batch rules before.snapshot es) + n) same;
          counted = played.handled ∙ more_counted 18446744073709551615 h.left (left_in_batch rules before.snapshot es) before.handled h.counted;
        }

    -- ---- the state of the machine

    module _ (d e : DriverState S) (place : ℕ) (at : slice_get d.actors place ≡ Some before) (written : e.actors ≡ slice_set d.actors place after) where
      abbrev this : Turn
      this = record { place = place; batch = batch }

      module _ (some : 0 < d.spoken) (spoken : e.spoken ≡ d.spoken) (news : (a b : ℕ) → e.waiting a b ≡ without (b == place) (from_place a es) (d.waiting a b) ++ when (a == place) (to_place b (batch_of rules before.snapshot es).posts)) (s : State (Snapshot S)) (stands : StandsAs start d s) where
        here : (p : ℕ) → (p == place) ≡ true → s.snapshot p ≡ before.snapshot
        here p q =
            subst (λ x. s.snapshot x ≡ before.snapshot) (sym (same_of p place q))
            (stands.snapshots place ∙ field_at (λ (a : ActorState S). a.snapshot) d.actors place before (start place) at)

        place_after : (p : ℕ) (c : Bool) → (p == place) ≡ c → (take_batch m s this).snapshot p ≡ snapshot_in start e p
        place_after p true q =
            let same : p ≡ place = same_of p place q in
            let now : snapshot_in start e p ≡ after.snapshot =
            ap (λ (all : List (ActorState S)). slice_index_or (map (λ (a : ActorState S). a.snapshot) all) p (start p)) written
            ∙ subst (λ x. slice_index_or (map (λ (a : ActorState S). a.snapshot) (slice_set d.actors place after)) x (start x) ≡ after.snapshot) (sym same)
            (field_written (λ (a : ActorState S). a.snapshot) d.actors place before after (start place) at) in
            rw q (ap (λ x. (m.play x es).0) (here p q) ∙ sym played.snapshot ∙ sym now)
        place_after p false q =
            let now : snapshot_in start e p ≡ snapshot_in start d p =
            ap (λ (all : List (ActorState S)). slice_index_or (map (λ (a : ActorState S). a.snapshot) all) p (start p)) written
            ∙ field_kept (λ (a : ActorState S). a.snapshot) d.actors place p after (start p) (not_of p place q) in
            rw q (stands.snapshots p ∙ sym now)

        posts_after : (a b : ℕ) (c : Bool) → (a == place) ≡ c → when (a == place) (to_place b (m.play (s.snapshot a) es).1) ≡ when (a == place) (to_place b (batch_of rules before.snapshot es).posts)
        posts_after a b true q = rw q (ap (λ x. to_place b (m.play x es).1) (here a q))
        posts_after a b false q = rw q refl

        waits_now : (a b : ℕ) → s.waiting a b ≡ d.waiting a b
        waits_now a b = stands.waiting a b ∙ ap (λ xs. xs ++ d.waiting a b) (nothing_unsaid d some a b)

        waiting_after : (a b : ℕ) → (take_batch m s this).waiting a b ≡ unsaid e a b ++ e.waiting a b
        waiting_after a b =
            let said : 0 < e.spoken = omega arith in
            ap (λ w. without (b == place) (from_place a es) w ++ when (a == place) (to_place b (m.play (s.snapshot a) es).1)) (waits_now a b)
            ∙ ap (λ xs. without (b == place) (from_place a es) (d.waiting a b) ++ xs) (posts_after a b (a == place) refl)
            ∙ sym (news a b)
            ∙ sym (ap (λ xs. xs ++ e.waiting a b) (nothing_unsaid e said a b))

        turn_stands : StandsAs start e (take_batch m s this)
        turn_stands = record {
          snapshots = λ p. place_after p (p == place) refl;
          waiting = waiting_after;
          spoken = stands.spoken ∙ ap (max 1) (sym spoken);
        }

        turn_possible : s.places ≡ length (journals_of d) → es ≢ [] → ((a : ℕ) → IsPrefix (from_place a es) (d.waiting a place)) → MayTake m s this
        turn_possible count filled next =
            let all = fields (λ (a : ActorState S). a.journal) d.actors in
            let less = get_less d.actors place before at in
            record {
              place = rw (count, all) less;
              filled = filled;
              next = λ a. subst (λ w. IsPrefix (from_place a es) w) (sym (waits_now a place)) (next a);
              stamp = ap (λ (x : Snapshot S). m.due x es) (sym (stands.snapshots place ∙ field_at (λ (a : ActorState S). a.snapshot) d.actors place before (start place) at));
            }

      -- ---- the journals and the counts

      journal_after : (p : ℕ) (c : Bool) → (p == place) ≡ c → journal_at (journals_of d) p ++ batches_of p (Take this ∷ []) ≡ journal_at (journals_of e) p
      journal_after p true q =
          let same : p ≡ place = same_of p place q in
          let old : journal_at (journals_of d) p ≡ before.journal =
          subst (λ x. journal_at (journals_of d) x ≡ before.journal) (sym same) (field_at (λ (a : ActorState S). a.journal) d.actors place before [] at) in
          let now : journal_at (journals_of e) p ≡ after.journal =
          ap (λ (all : List (ActorState S)). slice_index_or (map (λ (a : ActorState S). a.journal) all) p []) written
          ∙ subst (λ x. slice_index_or (map (λ (a : ActorState S). a.journal) (slice_set d.actors place after)) x [] ≡ after.journal) (sym same)
          (field_written (λ (a : ActorState S). a.journal) d.actors place before after [] at) in
          rw q (ap (λ bs. bs ++ batch ∷ []) old ∙ sym played.journal ∙ sym now)
      journal_after p false q =
          let now : journal_at (journals_of e) p ≡ journal_at (journals_of d) p =
          ap (λ (all : List (ActorState S)). slice_index_or (map (λ (a : ActorState S). a.journal) all) p []) written
          ∙ field_kept (λ (a : ActorState S). a.journal) d.actors place p after [] (not_of p place q) in
          rw q (append-nil (journal_at (journals_of d) p) ∙ sym now)

      counted_after : ((p : ℕ) (a : ActorState S) → slice_get d.actors p ≡ Some a → HasCounted (start p) m a) → (p : ℕ) (a : ActorState S) → slice_get e.actors p ≡ Some a → HasCounted (start p) m a
      counted_after old p a found = by (set_get d.actors place p after a (ap (λ (all : List (ActorState S)). slice_get all p) (sym written) ∙ found))
        where
          by : ((p ≡ place) × (a ≡ after)) ⊎ ((p ≢ place) × (slice_get d.actors p ≡ Some a)) → HasCounted (start p) m a
          by (inl h) =
              subst (λ x. HasCounted (start x) m a) (sym h.0) (subst (λ x. HasCounted (start place) m x) (sym h.1) (played_counted (start place) (old place before at)))
          by (inr h) = old p a h.1

  -- ---- the step

  pub turn_driven : (d e : DriverState S) (place : ℕ) (es : List Taken) (before after : ActorState S) → slice_get d.actors place ≡ Some before → e.actors ≡ slice_set d.actors place after
      → HasPlayed rules es before after → es ≢ [] → ((a : ℕ) → IsPrefix (from_place a es) (d.waiting a place))
      → ((a b : ℕ) → e.waiting a b ≡ without (b == place) (from_place a es) (d.waiting a b) ++ when (a == place) (to_place b (batch_of rules before.snapshot es).posts))
      → e.spoken ≡ d.spoken → e.has_stopped ≡ d.has_stopped → 0 < d.spoken → IsDriven rules start d → IsDriven rules start e
  turn_driven d e place es before after at written played filled next news spoken stopped some driven =
      let n : ℕ = length (journals_of d) in
      let ticks : ℕ = ticks_in d in
      let s : State (Snapshot S) = run m ticks (opening_state n start) driven.steps in
      let t : Turn = this es before after played d e place at written in
      let same_ticks : ticks_in d ≡ ticks_in e =
      ap (λ k. if d.has_stopped then k - 2 else k - 1) (sym spoken) ∙ ap (λ c. if c then e.spoken - 2 else e.spoken - 1) (sym stopped) in
      let same_count : length (journals_of d) ≡ length (journals_of e) =
      sym (ap (λ (all : List (ActorState S)). length (map (λ (a : ActorState S). a.journal) all)) written ∙ fields_written (λ (a : ActorState S). a.journal) d.actors place after) in
      driven_by rules start ticks n e (driven.steps ++ Take t ∷ []) same_ticks same_count
      (run_more m ticks (opening_state n start) driven.steps (Take t) driven.possible
      (turn_possible es before after played d e place at written some spoken news s driven.stands (same_places m ticks (opening_state n start) driven.steps) filled next))
      (subst (λ x. StandsAs start e x) (sym (run_append m ticks (opening_state n start) driven.steps (Take t ∷ [])))
      (turn_stands es before after played d e place at written some spoken news s driven.stands))
      (λ p. batches_append p driven.steps (Take t ∷ []) ∙ ap (λ bs. bs ++ batches_of p (Take t ∷ [])) (driven.journals p) ∙ journal_after es before after played d e place at written p (p == place) refl)
      (counted_after es before after played d e place at written driven.counted)

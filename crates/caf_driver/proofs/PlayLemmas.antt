-- A notice that is played waits for place 0.
use Rattle.std.proofs.Common.{◌≡◌, ℕ, ◌+◌, ◌-◌, ◌<◌, ◌≤◌, ◌==◌, ◌&&◌, Bool, true, false, if◌then◌else◌, List, [], ◌∷◌, ◌++◌, length, refl, ap, sym, ◌∙◌, subst, arith, inl, inr, ◌⊎◌}
use Rattle.std.specs.List.{AllByRecursion}
use Rattle.std.proofs.lemmas.Bool.{cases_lt}
use Rattle.std.proofs.lemmas.Bool.Decides.{nat_tests}
use Rattle.std.proofs.lemmas.List.{append-nil}
use Rattle.caf_types.specs.Limits.{latest_stamp}
use Rattle.caf_types.specs.declared.notice.Notice.{Notice}
use Rattle.caf_types.specs.declared.notice.Notice.TheVariants as notice
use Rattle.caf_message.specs.declared.envelope.Taken.{Taken}
use Rattle.caf_message.specs.Entries.{TableEntries, entry_shape}
use Rattle.caf_message.specs.Envelope.{outside, from_outside}
use Rattle.caf_message.specs.Outside.{tick, notice_at, outside_envelope}
use Rattle.caf_actor.specs.declared.snapshot.Snapshot.{Snapshot}
use Rattle.caf_actor.specs.Actor.{ActorState}
use Rattle.caf_actor.specs.Record.{machine_of, latest, when}
use Rattle.caf_actor.specs.Rules.{Rules}
use Rattle.caf_mailbox.proofs.NextLemmas.{all_append}
use Rattle.caf_driver.specs.Mail.{waiting_in, HasPosted}
use Rattle.caf_driver.specs.Population.{PopulationSeen, IsSound, greatest_of, IsPopulation}
use Rattle.caf_driver.specs.Driver.{DriverState, ticks_in, journals_of, snapshot_in}
use Rattle.caf_driver.specs.Opening.{MayPlay, HasSpoken, is_stop_notice, stamp_due}
use Rattle.caf_driver.specs.Driving.{IsDriving, IsSettled}
use Rattle.caf_driver.proofs.ListLemmas.{get_some, field_at, fields}
use Rattle.caf_driver.proofs.PopulationLemmas.{greatest_latest}
use Rattle.caf_driver.proofs.DrivingLemmas.{greatest_least}

turned : (a b : ℕ) (c : Bool) → (a == b) ≡ c → (b == a) ≡ c
turned a b true q = grind (arith, nat_tests)
turned a b false q = grind (arith, nat_tests)

-- ---- which notice it is

at_start : (t : ℕ) → notice_at t 0 ≡ notice.Start
at_start t = refl

at_tick : (k : ℕ) → 0 < k → notice_at k k ≡ tick
at_tick k lt =
    let some : (k == 0) ≡ false = apart k 0 (omega arith) in
    let early : (k == k + 1) ≡ false = less k (k + 1) (omega arith) in
    rw (some, early) refl
  where
    apart : (a b : ℕ) → b < a → (a == b) ≡ false
    apart a b h = grind (arith, nat_tests)

    less : (a b : ℕ) → a < b → (a == b) ≡ false
    less a b h = grind (arith, nat_tests)

at_stop : (k t : ℕ) → k ≡ t + 1 → notice_at t k ≡ notice.Stop
at_stop k t e =
    let some : (k == 0) ≡ false = apart k 0 (omega arith) in
    let last : (k == t + 1) ≡ true = equal k (t + 1) e in
    rw (some, last) refl
  where
    apart : (a b : ℕ) → b < a → (a == b) ≡ false
    apart a b h = grind (arith, nat_tests)

    equal : (a b : ℕ) → a ≡ b → (a == b) ≡ true
    equal a b h = grind (arith, nat_tests)

module _ {S : Type 0} (old new : DriverState S) (what : Notice) (stamp : ℕ) (may : MayPlay old what) (spoken : new.spoken ≡ old.spoken + 1) (stopped : new.has_stopped ≡ is_stop_notice what) where
  pub is_next : what ≡ notice_at (ticks_in new) old.spoken
  is_next = go may
    where
      go : ((what ≡ notice.Start) × (old.spoken ≡ 0)) ⊎ (((what ≡ tick) ⊎ (what ≡ notice.Stop)) × ((0 < old.spoken) × ((old.has_stopped ≡ false) × ((a b : ℕ) → old.waiting a b ≡ [])))) → what ≡ notice_at (ticks_in new) old.spoken
      go (inl first) = first.0 ∙ sym (ap (notice_at (ticks_in new)) first.1)
      go (inr later) = which later.0
        where
          which : (what ≡ tick) ⊎ (what ≡ notice.Stop) → what ≡ notice_at (ticks_in new) old.spoken
          which (inl is) =
              let on : new.has_stopped ≡ false = stopped ∙ ap is_stop_notice is in
              let ticks : ticks_in new ≡ old.spoken = rw on (let more = spoken in omega arith) in
              is ∙ sym (ap (λ t. notice_at t old.spoken) ticks ∙ at_tick old.spoken later.1.0)
          which (inr is) =
              let off : new.has_stopped ≡ true = stopped ∙ ap is_stop_notice is in
              let ticks : ticks_in new ≡ old.spoken - 1 = rw off (let more = spoken in omega arith) in
              let some = later.1.0 in
              is ∙ sym (ap (λ t. notice_at t old.spoken) ticks ∙ at_stop old.spoken (old.spoken - 1) (omega arith))

  pub has_spoken : (before after : PopulationSeen S) → old.actors ≡ before.actors → new.actors ≡ old.actors → ((a b : ℕ) → old.waiting a b ≡ waiting_in before.mail a b) → ((a b : ℕ) → new.waiting a b ≡ waiting_in after.mail a b)
      → HasPosted before.mail 0 (from_outside old.spoken stamp what) after.mail → HasSpoken old what stamp new
  has_spoken before after oa na ow nw posted = record {
    actors = na;
    spoken = spoken;
    stopped = stopped;
    waiting = λ a b. nw a b ∙ posted.waiting a b ∙ go a b (a == outside) refl (b == 0) refl;
  }
    where
      go : (a b : ℕ) (c : Bool) → (a == outside) ≡ c → (d : Bool) → (b == 0) ≡ d
          → (if (a == outside) && (b == 0) then waiting_in before.mail a b ++ from_outside old.spoken stamp what ∷ [] else waiting_in before.mail a b) ≡ old.waiting a b ++ when ((outside == a) && (0 == b)) (outside_envelope (ticks_in new) old.spoken stamp ∷ [])
      go a b true q true r = rw (q, r, turned a outside true q, turned b 0 true r) (ap (λ xs. xs ++ from_outside old.spoken stamp what ∷ []) (sym (ow a b)) ∙ ap (λ x. old.waiting a b ++ x ∷ []) (ap (from_outside old.spoken stamp) is_next))
      go a b true q false r = rw (q, r, turned a outside true q, turned b 0 false r) (sym (ow a b) ∙ sym (append-nil (old.waiting a b)))
      go a b false q d r = rw (q, turned a outside false q) (sym (ow a b) ∙ sym (append-nil (old.waiting a b)))

-- ---- what the driver keeps

module _ {S : Type 0} (valid : S → Type 0) (rules : Rules S) (entries : TableEntries) where
  -- the notice leads nowhere and has no content
  pub notice_sound : (n latest seq stamp : ℕ) (what : Notice) → (what ≡ notice.Start) ⊎ ((what ≡ tick) ⊎ (what ≡ notice.Stop)) → stamp ≤ latest → IsSound (entry_shape entries) n latest (from_outside seq stamp what)
  notice_sound n latest seq stamp what (inl is) le = subst (λ w. IsSound (entry_shape entries) n latest (from_outside seq stamp w)) (sym is) (record { fits = tt; leads = tt; stamp = le })
  notice_sound n latest seq stamp what (inr (inl is)) le = subst (λ w. IsSound (entry_shape entries) n latest (from_outside seq stamp w)) (sym is) (record { fits = tt; leads = tt; stamp = le })
  notice_sound n latest seq stamp what (inr (inr is)) le = subst (λ w. IsSound (entry_shape entries) n latest (from_outside seq stamp w)) (sym is) (record { fits = tt; leads = tt; stamp = le })

  pub posted_sound : (before after : PopulationSeen S) (e : Taken) → IsPopulation valid rules entries before → IsSound (entry_shape entries) (length before.actors) before.latest e → after ≡ record before { mail = after.mail } → HasPosted before.mail 0 e after.mail → IsPopulation valid rules entries after
  posted_sound before after e h sound same posted = subst (IsPopulation valid rules entries) (sym same) (record {
    some = h.some;
    few = h.few;
    ready = h.ready;
    mail = posted.mail;
    boxes = posted.places ∙ h.boxes;
    sound = λ a b. subst (AllByRecursion (IsSound (entry_shape entries) (length before.actors) before.latest)) (sym (posted.waiting a b)) (go a b ((a == e.sender) && (b == 0)));
    latest = h.latest;
    handled = h.handled;
  })
    where
      go : (a b : ℕ) (c : Bool) → AllByRecursion (IsSound (entry_shape entries) (length before.actors) before.latest) (if c then waiting_in before.mail a b ++ e ∷ [] else waiting_in before.mail a b)
      go a b true = all_append (IsSound (entry_shape entries) (length before.actors) before.latest) (waiting_in before.mail a b) (e ∷ []) (h.sound a b) (sound, tt)
      go a b false = h.sound a b

  -- ---- the notices and the stamps

  latest_low : (p : PopulationSeen S) → IsPopulation valid rules entries p → p.latest ≤ latest_stamp
  latest_low p h = rw h.latest (greatest_least p.actors (λ i a q. (h.ready i a q).work.stamp))

  module _ (before : PopulationSeen S) (spoken : ℕ) (was : IsDriving valid rules entries before spoken) (d : DriverState S) (what : Notice) (may : MayPlay d what) (same : d.spoken ≡ spoken) (waits : (a b : ℕ) → d.waiting a b ≡ waiting_in before.mail a b) where
    -- at a rest all notices were taken, each with a stamp of its own
    heard_all : 0 < spoken → (waiting_in before.mail outside 0 ≡ []) × (spoken ≤ before.latest)
    heard_all some = go may
      where
        go : ((what ≡ notice.Start) × (d.spoken ≡ 0)) ⊎ (((what ≡ tick) ⊎ (what ≡ notice.Stop)) × ((0 < d.spoken) × ((d.has_stopped ≡ false) × ((a b : ℕ) → d.waiting a b ≡ [])))) → (waiting_in before.mail outside 0 ≡ []) × (spoken ≤ before.latest)
        go (inl first) = let none = first.1 in let is = same in absurd (omega arith)
        go (inr later) = let none = sym (waits outside 0) ∙ later.1.1.1 outside 0 in (none, was.heard none)

    pub spoken_low : spoken ≤ latest_stamp
    spoken_low = go (cases_lt 0 spoken)
      where
        go : (0 < spoken) ⊎ (spoken ≤ 0) → spoken ≤ latest_stamp
        go (inl some) = let low = (heard_all some).1 in let top = latest_low before was.population in omega arith
        go (inr none) = omega arith

    pub stamp_low : stamp_due spoken before.actors ≤ before.latest
    stamp_low = go (spoken == 0) refl
      where
        go : (b : Bool) → (spoken == 0) ≡ b → stamp_due spoken before.actors ≤ before.latest
        go true q = rw q (omega arith)
        go false q = rw q (let is = was.population.latest in omega arith)

    pub may_be : (what ≡ notice.Start) ⊎ ((what ≡ tick) ⊎ (what ≡ notice.Stop))
    may_be = go may
      where
        go : ((what ≡ notice.Start) × (d.spoken ≡ 0)) ⊎ (((what ≡ tick) ⊎ (what ≡ notice.Stop)) × ((0 < d.spoken) × ((d.has_stopped ≡ false) × ((a b : ℕ) → d.waiting a b ≡ [])))) → (what ≡ notice.Start) ⊎ ((what ≡ tick) ⊎ (what ≡ notice.Stop))
        go (inl first) = inl first.0
        go (inr later) = inr later.0

    pub starts_at_zero : what ≡ notice.Start → stamp_due d.spoken d.actors ≡ 0
    starts_at_zero is = go may
      where
        no_tick : tick ≡ notice.Start → ⊥
        no_tick e = cc

        no_stop : notice.Stop ≡ notice.Start → ⊥
        no_stop e = cc

        go : ((what ≡ notice.Start) × (d.spoken ≡ 0)) ⊎ (((what ≡ tick) ⊎ (what ≡ notice.Stop)) × ((0 < d.spoken) × ((d.has_stopped ≡ false) × ((a b : ℕ) → d.waiting a b ≡ [])))) → stamp_due d.spoken d.actors ≡ 0
        go (inl first) = rw first.1 refl
        go (inr later) = which later.0
          where
            which : (what ≡ tick) ⊎ (what ≡ notice.Stop) → stamp_due d.spoken d.actors ≡ 0
            which (inl other) = absurd (no_tick (sym other ∙ is))
            which (inr other) = absurd (no_stop (sym other ∙ is))

    pub driving_spoken : (after : PopulationSeen S) (stamp : ℕ) → stamp ≡ stamp_due spoken before.actors → IsPopulation valid rules entries after → HasPosted before.mail 0 (from_outside spoken stamp what) after.mail → IsDriving valid rules entries after (spoken + 1)
    driving_spoken after stamp is h posted = record {
      population = h;
      silent = λ none. absurd (omega arith);
      heard = λ none. absurd (some_last (waiting_in before.mail outside 0) (sym (posted.waiting outside 0) ∙ none));
      notices = subst (AllByRecursion (λ (e : Taken). spoken + 1 ≤ e.stamp + 1)) (sym (posted.waiting outside 0)) (go (spoken == 0) refl);
    }
      where
        some_last : (es : List Taken) → es ++ from_outside spoken stamp what ∷ [] ≡ [] → ⊥
        some_last [] e = cc
        some_last (x ∷ es) e = cc

        all_one : spoken ≡ 0 → (es : List Taken) → AllByRecursion (λ (e : Taken). spoken + 1 ≤ e.stamp + 1) es
        all_one none [] = tt
        all_one none (e ∷ es) = (omega arith, all_one none es)

        above : (n : ℕ) → (n == 0) ≡ false → 0 < n
        above n q = grind (arith, nat_tests)

        zero_of : (n : ℕ) → (n == 0) ≡ true → n ≡ 0
        zero_of n q = grind (arith, nat_tests)

        go : (b : Bool) → (spoken == 0) ≡ b → AllByRecursion (λ (e : Taken). spoken + 1 ≤ e.stamp + 1) (waiting_in before.mail outside 0 ++ from_outside spoken stamp what ∷ [])
        go true q = all_one (zero_of spoken q) (waiting_in before.mail outside 0 ++ from_outside spoken stamp what ∷ [])
        go false q =
            let all = heard_all (above spoken q) in
            let due : stamp ≡ greatest_of before.actors = is ∙ rw q refl in
            let latest = was.population.latest in
            let low = all.1 in
            subst (λ es. AllByRecursion (λ (e : Taken). spoken + 1 ≤ e.stamp + 1) (es ++ from_outside spoken stamp what ∷ [])) (sym all.0) (omega arith, tt)

-- ---- the premises of a run

module _ {S : Type 0} (rules : Rules S) (start : ℕ → Snapshot S) (d : DriverState S) (h : IsSettled rules d) where
  pub idle_of : (p : ℕ) → p < length (journals_of d) → (machine_of rules).is_idle (snapshot_in start d p) ≡ true
  idle_of p lt =
      let known = subst (λ n. p < n) (fields (λ (a : ActorState S). a.journal) d.actors) lt in
      let a = get_some d.actors p known in
      let is = field_at (λ (x : ActorState S). x.snapshot) d.actors p a.0 (start p) a.1 in
      subst (λ s. (machine_of rules).is_idle s ≡ true) (sym is) (h.idle p a.0 a.1)

  pub due_of : 0 < d.spoken → stamp_due d.spoken d.actors ≡ latest (machine_of rules) (length (journals_of d)) (snapshot_in start d)
  due_of some = let other : (d.spoken == 0) ≡ false = apart d.spoken some in rw other (greatest_latest rules start d)
    where
      apart : (n : ℕ) → 0 < n → (n == 0) ≡ false
      apart n lt = grind (arith, nat_tests)

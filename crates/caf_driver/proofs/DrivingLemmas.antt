-- What a driver keeps through a batch.
use Rattle.std.proofs.Common.{◌≡◌, ◌≢◌, ℕ, suc, ◌<◌, ◌≤◌, ◌==◌, ◌||◌, Bool, true, false, List, [], ◌∷◌, ◌++◌, length, drop, slice_get, Some, refl, ap, sym, ◌∙◌, subst, arith, inl, inr}
use Rattle.std.specs.List.{AllByRecursion, list_any}
use Rattle.std.proofs.lemmas.Bool.Decides.{nat_tests}
use Rattle.caf_types.specs.Limits.{places, latest_stamp}
use Rattle.caf_message.specs.declared.envelope.Taken.{Taken}
use Rattle.caf_message.specs.Entries.{TableEntries, entry_shape}
use Rattle.caf_actor.specs.Actor.{ActorState}
use Rattle.caf_actor.specs.Record.{IsPrefix, from_place}
use Rattle.caf_actor.specs.Rules.{Rules}
use Rattle.caf_actor.specs.Run.{without}
use Rattle.caf_record.proofs.BatchLemmas.{drop_prefix}
use Rattle.caf_record.proofs.ListLemmas.{same_of}
use Rattle.caf_driver.specs.Places.{has_place}
use Rattle.caf_driver.specs.Mail.{Waiting, waiting_in}
use Rattle.caf_driver.specs.Delivery.{HasTakenOut}
use Rattle.caf_driver.specs.Population.{PopulationSeen, IsSound, greatest_of, IsPopulation}
use Rattle.caf_driver.specs.Driver.{DriverState, IsSpent}
use Rattle.caf_driver.specs.Driving.{IsSettled}
use Rattle.caf_driver.proofs.ListLemmas.{get_some, not_of}
use Rattle.caf_driver.proofs.SpentLemmas.{offered_waits, offered_known}

-- ---- lists

all_right : {A : Type 0} (P : A → Type 0) (xs ys : List A) → AllByRecursion P (xs ++ ys) → AllByRecursion P ys
all_right P [] ys all = all
all_right P (x ∷ xs) ys all = all_right P xs ys all.1

all_left : {A : Type 0} (P : A → Type 0) (xs ys : List A) → AllByRecursion P (xs ++ ys) → AllByRecursion P xs
all_left P [] ys all = tt
all_left P (x ∷ xs) ys all = (all.0, all_left P xs ys all.1)

-- what holds of those of each sender holds of all
pub all_senders : (P : Taken → Type 0) (es : List Taken) → ((a : ℕ) → AllByRecursion P (from_place a es)) → AllByRecursion P es
all_senders P [] h = tt
all_senders P (e ∷ es) h = (first, all_senders P es (λ a. rest a (e.sender == a) refl))
  where
    self : (e.sender == e.sender) ≡ true
    self = grind (arith, nat_tests)

    first : P e
    first = let all : AllByRecursion P (e ∷ from_place e.sender es) = rw self at (h e.sender) in all.0

    rest : (a : ℕ) (b : Bool) → (e.sender == a) ≡ b → AllByRecursion P (from_place a es)
    rest a true q = let all : AllByRecursion P (e ∷ from_place a es) = rw q at (h a) in all.1
    rest a false q = rw q at (h a)

below : (n m : ℕ) → n ≤ m → n ≢ m → n < m
below n m le other = grind (arith, nat_tests)

pub greatest_least : {S : Type 0} (actors : List (ActorState S)) → ((i : ℕ) (a : ActorState S) → slice_get actors i ≡ Some a → a.snapshot.stamp ≤ latest_stamp) → greatest_of actors ≤ latest_stamp
greatest_least [] h = omega arith
greatest_least (a ∷ others) h =
    let first = h 0 a refl in
    let rest = greatest_least others (λ i b q. h (suc i) b q) in
    omega arith

-- ---- a batch is taken out

module _ (old : Waiting) (place : ℕ) (es : List Taken) (new : Waiting) (out : HasTakenOut old place es new) where
  pub next_of : (a : ℕ) → IsPrefix (from_place a es) (waiting_in old a place)
  next_of a = (waiting_in new a place, out.next a)

  pub without_of : (a b : ℕ) → waiting_in new a b ≡ without (b == place) (from_place a es) (waiting_in old a b)
  unfolding next_of
  without_of a b = go (b == place) refl
    where
      go : (c : Bool) → (b == place) ≡ c → waiting_in new a b ≡ without c (from_place a es) (waiting_in old a b)
      go true q = subst (λ k. waiting_in new a k ≡ drop (length (from_place a es)) (waiting_in old a k)) (sym (same_of b place q)) (sym (drop_prefix (from_place a es) (waiting_in old a place) (next_of a)))
      go false q = out.others a b q

  pub left_all : (P : Taken → Type 0) (a b : ℕ) → AllByRecursion P (waiting_in old a b) → AllByRecursion P (waiting_in new a b)
  left_all P a b all = go (b == place) refl
    where
      go : (c : Bool) → (b == place) ≡ c → AllByRecursion P (waiting_in new a b)
      go true q =
          let here = subst (λ k. AllByRecursion P (waiting_in old a k)) (same_of b place q) all in
          subst (λ k. AllByRecursion P (waiting_in new a k)) (sym (same_of b place q)) (all_right P (from_place a es) (waiting_in new a place) (subst (AllByRecursion P) (sym (out.next a)) here))
      go false q = subst (AllByRecursion P) (sym (out.others a b q)) all

  pub taken_all : (P : Taken → Type 0) → ((a : ℕ) → AllByRecursion P (waiting_in old a place)) → AllByRecursion P es
  taken_all P all = all_senders P es (λ a. all_left P (from_place a es) (waiting_in new a place) (subst (AllByRecursion P) (sym (out.next a)) (all a)))

module _ {S : Type 0} (valid : S → Type 0) (rules : Rules S) (entries : TableEntries) where
  -- with the batch taken out the population stands
  pub population_out : (p : PopulationSeen S) (place : ℕ) (es : List Taken) (mail : Waiting) → IsPopulation valid rules entries p → HasTakenOut p.mail place es mail → IsPopulation valid rules entries (record p { mail = mail })
  population_out p place es mail h out = record {
    some = h.some;
    few = h.few;
    ready = h.ready;
    mail = out.mail;
    boxes = out.places ∙ h.boxes;
    sound = λ a b. left_all p.mail place es mail out (IsSound (entry_shape entries) (length p.actors) p.latest) a b (h.sound a b);
    latest = h.latest;
    handled = h.handled;
  }

  pub settled_of : (d : DriverState S) (p : PopulationSeen S) → IsPopulation valid rules entries p → d.actors ≡ p.actors → IsSettled rules d
  settled_of d p h same = record {
    few = subst (λ list. length list ≤ places) (sym same) h.few;
    idle = λ i a q. (h.ready i a (ap (λ list. slice_get list i) (sym same) ∙ q)).idle;
  }

  -- nothing has a later stamp than the last
  pub low_stamps : (p : PopulationSeen S) → IsPopulation valid rules entries p → (es : List Taken) → AllByRecursion (IsSound (entry_shape entries) (length p.actors) p.latest) es → list_any (λ e. e.stamp == latest_stamp) es ≡ false → AllByRecursion (λ (e : Taken). e.stamp < latest_stamp) es
  low_stamps p h [] all none = tt
  low_stamps p h (e ∷ es) all none = go (e.stamp == latest_stamp) refl none (low_stamps p h es all.1)
    where
      most : p.latest ≤ latest_stamp
      most = rw h.latest (greatest_least p.actors (λ i a q. (h.ready i a q).work.stamp))

      go : (b : Bool) → (e.stamp == latest_stamp) ≡ b → (b || list_any (λ e. e.stamp == latest_stamp) es) ≡ false → (list_any (λ e. e.stamp == latest_stamp) es ≡ false → AllByRecursion (λ (e : Taken). e.stamp < latest_stamp) es) → AllByRecursion (λ (e : Taken). e.stamp < latest_stamp) (e ∷ es)
      go true q none on = cc
      go false q none on =
          let other = not_of e.stamp latest_stamp q in
          let low = all.0.stamp in
          let top = most in
          let less : e.stamp < latest_stamp = below e.stamp latest_stamp (omega arith) other in
          (less, on none)

  module _ (p : PopulationSeen S) (h : IsPopulation valid rules entries p) (place : ℕ) (offered : has_place p.mail.offered place ≡ true) (fresh : (q : ℕ) → IsSpent p.actors (waiting_in p.mail) q → ⊥) where
    -- where nothing is spent, the place and what waits for it have lesser stamps than the last
    pub early_stamp : (a : ActorState S) → slice_get p.actors place ≡ Some a → a.snapshot.stamp < latest_stamp
    early_stamp a q =
        let low = (h.ready place a q).work.stamp in
        less a.snapshot.stamp low (λ e. fresh place (record { actor = a; at = q; waits = offered_waits p.mail place h.mail offered; last = inl e }))
      where
        less : (n : ℕ) → n ≤ latest_stamp → (n ≡ latest_stamp → ⊥) → n < latest_stamp
        less n le not = go (n == latest_stamp) refl
          where
            go : (b : Bool) → (n == latest_stamp) ≡ b → n < latest_stamp
            go true q = absurd (not (same_of n latest_stamp q))
            go false q = let other = not_of n latest_stamp q in grind (arith, nat_tests)

    pub early_waiting : (a : ℕ) → AllByRecursion (λ (e : Taken). e.stamp < latest_stamp) (waiting_in p.mail a place)
    early_waiting a = go (list_any (λ e. e.stamp == latest_stamp) (waiting_in p.mail a place)) refl
      where
        go : (b : Bool) → list_any (λ e. e.stamp == latest_stamp) (waiting_in p.mail a place) ≡ b → AllByRecursion (λ (e : Taken). e.stamp < latest_stamp) (waiting_in p.mail a place)
        go true q =
            let known = subst (λ n. place < n) h.boxes (offered_known p.mail place h.mail offered) in
            let actor = get_some p.actors place known in
            absurd (fresh place (record { actor = actor.0; at = actor.1; waits = offered_waits p.mail place h.mail offered; last = inr (a, q) }))
        go false q = low_stamps p h (waiting_in p.mail a place) (h.sound a place) q

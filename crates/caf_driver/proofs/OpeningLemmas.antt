-- A driver at first, and when a notice is played.
use Rattle.std.proofs.Common.{◌≡◌, ℕ, suc, ◌+◌, ◌<◌, ◌≤◌, max, true, List, [], ◌∷◌, ◌++◌, length, take, slice_get, slice_index_or, Some, refl, ap, sym, ◌∙◌, subst, arith, inl, inr, ◌⊎◌}
use Rattle.std.specs.List.{AllByRecursion}
use Rattle.std.proofs.lemmas.List.{take_more}
use Rattle.std.proofs.lemmas.Bool.{cases_lt}
use Rattle.caf_types.specs.Limits.{places}
use Rattle.caf_message.specs.Entries.{TableEntries, entry_shape}
use Rattle.caf_actor.specs.declared.snapshot.Snapshot.{Snapshot}
use Rattle.caf_actor.specs.Actor.{ActorState, IsActor, IsAtWork, untried, CachesFit, DelaysFit}
use Rattle.caf_actor.specs.Leads.{LeadsWithin}
use Rattle.caf_actor.specs.Record.{machine_of}
use Rattle.caf_actor.specs.Rules.{Rules}
use Rattle.caf_actor.specs.Snapshot.{fresh}
use Rattle.caf_driver.specs.Mail.{Waiting, waiting_in, IsMail}
use Rattle.caf_driver.specs.Population.{IsPlace, IsReady, IsSound, greatest_of, handled_by, IsPopulation}
use Rattle.caf_driver.specs.Opening.{IsFresh, AreFresh}
use Rattle.caf_driver.proofs.IdleLemmas.{fresh_idle, fresh_caches, fresh_delays}
use Rattle.caf_driver.proofs.ListLemmas.{get_less}
use Rattle.caf_driver.proofs.TakenLemmas.{found}

-- ---- the greatest stamp

pub greatest_more : {S : Type 0} (actors : List (ActorState S)) (a : ActorState S) → greatest_of (actors ++ a ∷ []) ≡ max (greatest_of actors) a.snapshot.stamp
greatest_more [] a = omega arith
greatest_more (x ∷ actors) a = let rest = greatest_more actors a in omega arith

pub greatest_next : {S : Type 0} (actors : List (ActorState S)) (i : ℕ) (a : ActorState S) → a ≡ slice_index_or actors i a → i < length actors → greatest_of (take (i + 1) actors) ≡ max (greatest_of (take i actors)) a.snapshot.stamp
greatest_next actors i a e lt = ap greatest_of (take_more actors i a lt ∙ ap (λ x. take i actors ++ x ∷ []) (sym e)) ∙ greatest_more (take i actors) a

-- ---- actors that took nothing

is_place : (n p : ℕ) → p < n → IsPlace n p
is_place n p lt = grind (arith)

module _ {S : Type 0} (valid : S → Type 0) (rules : Rules S) (entries : TableEntries) where
  module _ (n p : ℕ) (a : ActorState S) (work : IsAtWork valid rules a) (is : IsFresh rules n p a) (lt : p < n) where
    whole : a ≡ untried (fresh rules a.snapshot.has_begun a.snapshot.place a.snapshot.behavior a.snapshot.stamp)
    whole = work.untried is.journal

    same : a.snapshot ≡ fresh rules a.snapshot.has_begun a.snapshot.place a.snapshot.behavior a.snapshot.stamp
    same = ap (λ x. x.snapshot) whole

    pub fresh_ready : IsReady valid rules entries n p a
    fresh_ready = record {
      whole = is.whole;
      work = work;
      place = is.place;
      known = record {
        place = subst (IsPlace n) (sym is.place) (is_place n p lt);
        targets = λ q t. is_place n q (is.targets q t);
        urgent = subst (λ (s : Snapshot S). AllByRecursion (LeadsWithin (IsPlace n)) s.caches.urgent) (sym same) tt;
        normal = subst (λ (s : Snapshot S). AllByRecursion (LeadsWithin (IsPlace n)) s.caches.normal) (sym same) tt;
        holds = subst (λ (s : Snapshot S). AllByRecursion (λ h. IsPlace n h.mid.requester) s.holds) (sym same) tt;
        links = subst (λ (s : Snapshot S). AllByRecursion (IsPlace n) s.observers.links) (sym same) tt;
        monitors = subst (λ (s : Snapshot S). AllByRecursion (IsPlace n) s.observers.monitors) (sym same) tt;
        delays = subst (λ (s : Snapshot S). AllByRecursion (λ d. IsPlace n d.to) s.delays) (sym same) tt;
      };
      caches = subst (λ (s : Snapshot S). CachesFit (entry_shape entries) s.caches) (sym same) (fresh_caches rules a.snapshot.has_begun a.snapshot.place a.snapshot.behavior a.snapshot.stamp (entry_shape entries));
      delays = subst (λ (s : Snapshot S). DelaysFit (entry_shape entries) s.delays) (sym same) (fresh_delays rules a.snapshot.has_begun a.snapshot.place a.snapshot.behavior a.snapshot.stamp (entry_shape entries));
      idle = subst (λ (s : Snapshot S). (machine_of rules).is_idle s ≡ true) (sym same) (fresh_idle rules a.snapshot.has_begun a.snapshot.place a.snapshot.behavior a.snapshot.stamp);
    }

    pub fresh_handled : a.handled ≡ 0
    fresh_handled = ap (λ x. x.handled) whole

  none_handled : (actors : List (ActorState S)) → ((i : ℕ) (a : ActorState S) → slice_get actors i ≡ Some a → a.handled ≡ 0) → handled_by actors ≡ 0
  none_handled [] h = refl
  none_handled (a ∷ others) h =
      let first = h 0 a refl in
      let rest = none_handled others (λ i b q. h (suc i) b q) in
      omega arith

  module _ (actors : List (ActorState S)) (work : (i : ℕ) (a : ActorState S) → slice_get actors i ≡ Some a → IsActor valid rules a) (are : AreFresh rules actors) where
    pub at_work : (i : ℕ) (a : ActorState S) → slice_get actors i ≡ Some a → IsAtWork valid rules a
    at_work i a q = work i a q (are i a q).whole

    pub nothing_taken : (i : ℕ) (a : ActorState S) → slice_get actors i ≡ Some a → (a.journal ≡ []) × (a.handled ≡ 0)
    nothing_taken i a q = ((are i a q).journal, fresh_handled (length actors) i a (at_work i a q) (are i a q) (get_less actors i a q))

    pub opening_population : (mail : Waiting) → 0 < length actors → length actors ≤ places → IsMail mail → length mail.arrivals ≡ length actors → ((a b : ℕ) → waiting_in mail a b ≡ [])
        → IsPopulation valid rules entries (record { actors = actors; mail = mail; latest = greatest_of actors; handled = 0 })
    opening_population mail some few is boxes empty = record {
      some = some;
      few = few;
      ready = λ i a q. fresh_ready (length actors) i a (at_work i a q) (are i a q) (get_less actors i a q);
      mail = is;
      boxes = boxes;
      sound = λ a b. subst (AllByRecursion (IsSound (entry_shape entries) (length actors) (greatest_of actors))) (sym (empty a b)) tt;
      latest = refl;
      handled = let none = none_handled actors (λ i a q. (nothing_taken i a q).1) in omega arith;
    }

-- what holds of those before and of the next holds of one more
pub with_next : {A : Type 0} (P : A → Type 0) (xs : List A) (i : ℕ) (x : A) → x ≡ slice_index_or xs i x → i < length xs → ((p : ℕ) (a : A) → p < i → slice_get xs p ≡ Some a → P a) → P x → (p : ℕ) (a : A) → p < i + 1 → slice_get xs p ≡ Some a → P a
with_next {A} P xs i x e lt before this p a less q = go (cases_lt p i)
  where
    go : (p < i) ⊎ (i ≤ p) → P a
    go (inl low) = before p a low q
    go (inr ge) =
        let same : p ≡ i = omega arith in
        let here : slice_get xs i ≡ Some a = ap (λ k. slice_get xs k) (sym same) ∙ q in
        let there : slice_get xs i ≡ Some x = found xs i x e lt in
        let both : Some x ≡ Some a = sym there ∙ here in
        let is : x ≡ a = cc in
        subst P is this

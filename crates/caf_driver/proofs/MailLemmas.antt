-- What waits for all places when what waits for one of them changes.
use Rattle.std.proofs.Common.{◌≡◌, ◌≢◌, ℕ, zero, suc, ◌<◌, ◌==◌, ◌&&◌, ◌||◌, not, Bool, true, false, List, [], ◌∷◌, ◌++◌, length, slice_index_or, refl, ap, sym, ◌∙◌, subst, arith, if◌then◌else◌}
use Rattle.std.proofs.lemmas.Bool.Decides.{nat_tests}
use Rattle.std.proofs.lemmas.List.{get_or-set_other, length-set}
use Rattle.caf_message.specs.declared.envelope.Taken.{Taken}
use Rattle.caf_driver.specs.Places.{is_filled, IsRising, has_place, place_in, place_out}
use Rattle.caf_driver.specs.Arrivals.{Arriving, nothing_arriving, from_sender, IsArriving, HasPushed, HasPopped}
use Rattle.caf_driver.specs.Mail.{Waiting, arriving_at, waiting_in, IsMail, HasArrivals}
use Rattle.caf_driver.proofs.PlaceLemmas.{has_in, rising_in, has_out, rising_out}
use Rattle.caf_driver.proofs.ArrivalLemmas.{filled_more}

same_of : (a b : ℕ) → (a == b) ≡ true → a ≡ b
same_of a b q = grind (arith, nat_tests)

other_of : (a b : ℕ) → (a == b) ≡ false → a ≢ b
other_of a b q e = let no : ⊥ = grind (arith, nat_tests) in no

pub self_of : (a : ℕ) → (a == a) ≡ true
self_of a = grind (arith, nat_tests)

turned : (a b : ℕ) (c : Bool) → (a == b) ≡ c → (b == a) ≡ c
turned a b true q = grind (arith, nat_tests)
turned a b false q = grind (arith, nat_tests)

-- where a sender has something, there are senders
pub has_filled : (list : List ℕ) (a : ℕ) → has_place list a ≡ true → is_filled list ≡ true
has_filled [] a q = cc
has_filled (x ∷ xs) a q = refl

pub filled_of : (es : List Taken) → es ≢ [] → is_filled es ≡ true
filled_of [] some = absurd (some refl)
filled_of (e ∷ es) some = refl

pub known_place : (ws : List Arriving) (b a : ℕ) → from_sender (slice_index_or ws b nothing_arriving) a ≢ [] → b < length ws
known_place [] b a some = absurd (some (go a))
  where
    go : (a : ℕ) → slice_index_or {A = List Taken} [] a [] ≡ []
    go a = refl
known_place (w ∷ ws) zero a some = omega arith
known_place (w ∷ ws) (suc b) a some = let less = known_place ws b a some in omega arith

-- of what waits for a place, something is offered where something waits
pub senders_filled : (w : Arriving) (a : ℕ) → IsArriving w → from_sender w a ≢ [] → is_filled w.senders ≡ true
senders_filled w a h some = has_filled w.senders a (h.offered a ∙ filled_of (from_sender w a) some)

module _ (old : Waiting) (place : ℕ) (new : Waiting) (has : HasArrivals old place new) where
  abbrev w : Arriving
  w = arriving_at new place

  at_new : (b : ℕ) → (b == place) ≡ false → arriving_at new b ≡ arriving_at old b
  at_new b q = ap (λ ws. slice_index_or ws b nothing_arriving) has.arrivals ∙ get_or-set_other old.arrivals place b w nothing_arriving (other_of b place q)

  pub places_same : length new.arrivals ≡ length old.arrivals
  places_same = ap length has.arrivals ∙ length-set old.arrivals place w

  module _ (h : IsMail old) (offered : List ℕ) where
    arrivals_new : (b : ℕ) (c : Bool) → (b == place) ≡ c → IsArriving (arriving_at new b)
    arrivals_new b true q = subst (λ k. IsArriving (arriving_at new k)) (sym (same_of b place q)) has.arriving
    arrivals_new b false q = subst IsArriving (sym (at_new b q)) (h.arrivals b)

    -- elsewhere what is offered is as before
    elsewhere : (b : ℕ) → (b == place) ≡ false → has_place old.offered b ≡ is_filled (arriving_at new b).senders
    elsewhere b q = h.offered b ∙ ap (λ x. is_filled x.senders) (sym (at_new b q))

    pub mail_with : is_filled (arriving_at old place).senders ≡ false → is_filled w.senders ≡ true → offered ≡ place_in place new.offered → IsMail (record new { offered = offered })
    mail_with none some is = subst (λ list. IsMail (record new { offered = list })) (sym (is ∙ ap (place_in place) has.offered)) (record {
      rising = rising_in place old.offered h.rising (h.offered place ∙ none);
      offered = λ b. has_in place old.offered b ∙ go b (b == place) refl;
      arrivals = λ b. arrivals_new b (b == place) refl;
    })
      where
        go : (b : ℕ) (c : Bool) → (b == place) ≡ c → ((place == b) || has_place old.offered b) ≡ is_filled (arriving_at new b).senders
        go b true q =
            let here : is_filled (arriving_at new b).senders ≡ true = subst (λ k. is_filled (arriving_at new k).senders ≡ true) (sym (same_of b place q)) some in
            rw (turned b place true q, here) refl
        go b false q = rw (turned b place false q) (elsewhere b q)

    pub mail_without : is_filled w.senders ≡ false → offered ≡ place_out place new.offered → IsMail (record new { offered = offered })
    mail_without none is = subst (λ list. IsMail (record new { offered = list })) (sym (is ∙ ap (place_out place) has.offered)) (record {
      rising = rising_out place old.offered h.rising;
      offered = λ b. has_out place old.offered b ∙ go b (b == place) refl;
      arrivals = λ b. arrivals_new b (b == place) refl;
    })
      where
        go : (b : ℕ) (c : Bool) → (b == place) ≡ c → (not (b == place) && has_place old.offered b) ≡ is_filled (arriving_at new b).senders
        go b true q =
            let here : is_filled (arriving_at new b).senders ≡ false = subst (λ k. is_filled (arriving_at new k).senders ≡ false) (sym (same_of b place q)) none in
            rw (q, here) refl
        go b false q = rw q (elsewhere b q)

  pub mail_same : IsMail old → is_filled (arriving_at old place).senders ≡ is_filled w.senders → IsMail new
  mail_same h both = record {
    rising = subst IsRising (sym has.offered) h.rising;
    offered = λ b. ap (λ list. has_place list b) has.offered ∙ go b (b == place) refl;
    arrivals = λ b. arrivals_new h [] b (b == place) refl;
  }
    where
      go : (b : ℕ) (c : Bool) → (b == place) ≡ c → has_place old.offered b ≡ is_filled (arriving_at new b).senders
      go b true q = h.offered b ∙ subst (λ k. is_filled (arriving_at old k).senders ≡ is_filled (arriving_at new k).senders) (sym (same_of b place q)) both
      go b false q = elsewhere h [] b q

  pub posted_waiting : (e : Taken) → HasPushed (arriving_at old place) e w → (a b : ℕ) → waiting_in new a b ≡ (if (a == e.sender) && (b == place) then waiting_in old a b ++ e ∷ [] else waiting_in old a b)
  posted_waiting e pushed a b = go (b == place) refl (a == e.sender) refl
    where
      go : (c : Bool) → (b == place) ≡ c → (d : Bool) → (a == e.sender) ≡ d → waiting_in new a b ≡ (if (a == e.sender) && (b == place) then waiting_in old a b ++ e ∷ [] else waiting_in old a b)
      go false q true r = rw (q, r) (ap (λ x. from_sender x a) (at_new b q))
      go false q false r = rw (q, r) (ap (λ x. from_sender x a) (at_new b q))
      go true q true r = rw (q, r) (subst (λ k. waiting_in new a k ≡ waiting_in old a k ++ e ∷ []) (sym (same_of b place q)) (pushed a ∙ rw r refl))
      go true q false r = rw (q, r) (subst (λ k. waiting_in new a k ≡ waiting_in old a k) (sym (same_of b place q)) (pushed a ∙ rw r refl))

  pub given_waiting : (sender : ℕ) (e : Taken) → HasPopped (arriving_at old place) sender e w → (a b : ℕ) → (if (a == sender) && (b == place) then e ∷ waiting_in new a b else waiting_in new a b) ≡ waiting_in old a b
  given_waiting sender e popped a b = go (b == place) refl (a == sender) refl
    where
      go : (c : Bool) → (b == place) ≡ c → (d : Bool) → (a == sender) ≡ d → (if (a == sender) && (b == place) then e ∷ waiting_in new a b else waiting_in new a b) ≡ waiting_in old a b
      go false q true r = rw (q, r) (ap (λ x. from_sender x a) (at_new b q))
      go false q false r = rw (q, r) (ap (λ x. from_sender x a) (at_new b q))
      go true q true r =
          let here : e ∷ waiting_in new a place ≡ waiting_in old a place = rw r at (popped a) in
          rw (q, r) (subst (λ k. e ∷ waiting_in new a k ≡ waiting_in old a k) (sym (same_of b place q)) here)
      go true q false r =
          let here : waiting_in new a place ≡ waiting_in old a place = rw r at (popped a) in
          rw (q, r) (subst (λ k. waiting_in new a k ≡ waiting_in old a k) (sym (same_of b place q)) here)

-- an envelope that came in is offered
pub pushed_filled : (old new : Arriving) (e : Taken) → IsArriving new → HasPushed old e new → is_filled new.senders ≡ true
pushed_filled old new e h pushed =
    let here : is_filled (from_sender new e.sender) ≡ true = ap is_filled (pushed e.sender ∙ rw (self_of e.sender) refl) ∙ filled_more (from_sender old e.sender) e in
    has_filled new.senders e.sender (h.offered e.sender ∙ here)

-- ---- nothing waits

pub one_more_empty : (ws : List Arriving) → ((b : ℕ) → slice_index_or ws b nothing_arriving ≡ nothing_arriving) → (b : ℕ) → slice_index_or (ws ++ nothing_arriving ∷ []) b nothing_arriving ≡ nothing_arriving
one_more_empty [] h zero = refl
one_more_empty [] h (suc b) = refl
one_more_empty (w ∷ ws) h zero = h 0
one_more_empty (w ∷ ws) h (suc b) = one_more_empty ws (λ k. h (suc k)) b

pub empty_mail : (v : Waiting) → v.offered ≡ [] → ((b : ℕ) → arriving_at v b ≡ nothing_arriving) → IsMail v
empty_mail v none all = record {
  rising = subst IsRising (sym none) tt;
  offered = λ b. ap (λ list. has_place list b) none ∙ ap (λ w. is_filled w.senders) (sym (all b));
  arrivals = λ b. subst IsArriving (sym (all b)) (record { rising = tt; offered = λ a. refl; own = λ a. tt });
}

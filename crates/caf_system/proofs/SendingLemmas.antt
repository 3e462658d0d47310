-- Lanes, as posts are pushed on them.
use Rattle.std.proofs.Common.{◌≡◌, ◌≢◌, ℕ, zero, suc, ◌<◌, ◌≤◌, ◌==◌, Bool, true, false, List, [], ◌∷◌, ◌++◌, length, slice_get, slice_set, Some, refl, ap, sym, ◌∙◌, subst, arith, append_assoc}
use Rattle.std.proofs.lemmas.Bool.Decides.{nat_tests}
use Rattle.std.proofs.lemmas.List.{append-nil, length-set}
use Rattle.caf_message.specs.declared.envelope.Taken.{Taken}
use Rattle.caf_actor.specs.PlainPost.{PlainPost}
use Rattle.caf_actor.specs.Record.{to_place}
use Rattle.caf_inbox.specs.Ends.{LaneSeen}
use Rattle.caf_driver.proofs.ListLemmas.{get_less, get_some}
use Rattle.caf_system.specs.Station.{AreLanesOf, HasSent}

-- ---- lists

module _ {A : Type 0} where
  set_at : (xs : List A) (i : ℕ) (x y : A) → slice_get xs i ≡ Some x → slice_get (slice_set xs i y) i ≡ Some y
  set_at [] i x y e = cc
  set_at (z ∷ zs) zero x y e = refl
  set_at (z ∷ zs) (suc i) x y e = set_at zs i x y e

  set_beside : (xs : List A) (i p : ℕ) (y : A) → p ≢ i → slice_get (slice_set xs i y) p ≡ slice_get xs p
  set_beside [] i p y d = refl
  set_beside (z ∷ zs) zero zero y d = absurd (d refl)
  set_beside (z ∷ zs) zero (suc p) y d = refl
  set_beside (z ∷ zs) (suc i) zero y d = refl
  set_beside (z ∷ zs) (suc i) (suc p) y d = set_beside zs i p y (λ e. d (ap suc e))

  pub same_some : (x y : A) → Some x ≡ Some y → x ≡ y
  same_some x y e = cc

-- ---- one post

differ : (a b : ℕ) → (a == b) ≡ false → b ≢ a
differ a b q e = grind (arith, nat_tests)

same_place : (a b : ℕ) → (a == b) ≡ true → a ≡ b
same_place a b q = grind (arith, nat_tests)

goes_there : (p : PlainPost) (b : ℕ) → (p.to == b) ≡ true → to_place b (p ∷ []) ≡ p.envelope ∷ []
goes_there p b q = rw q refl

goes_elsewhere : (p : PlainPost) (b : ℕ) → (p.to == b) ≡ false → to_place b (p ∷ []) ≡ []
goes_elsewhere p b q = rw q refl

-- a lane that stays
stays : (lanes new : List LaneSeen) (p : PlainPost) (b : ℕ) (l : LaneSeen) → slice_get new b ≡ Some l → (p.to == b) ≡ false
    → (k : LaneSeen) × (slice_get new b ≡ Some k) × (k.inbox ≡ l.inbox) × (k.sender ≡ l.sender) × (k.pushed ≡ l.pushed ++ to_place b (p ∷ []))
stays lanes new p b l at q = (l, at, refl, refl, sym (ap (λ es. l.pushed ++ es) (goes_elsewhere p b q) ∙ append-nil l.pushed))

pub sent_nowhere : (lanes : List LaneSeen) (p : PlainPost) → length lanes ≤ p.to → HasSent lanes (λ b. to_place b (p ∷ [])) lanes
sent_nowhere lanes p past = record { count = refl; lane = λ b l at. stays lanes lanes p b l at (other b (get_less lanes b l at)) }
  where
    other : (b : ℕ) → b < length lanes → (p.to == b) ≡ false
    other b less = grind (arith, nat_tests)

pub sent_one : (lanes : List LaneSeen) (p : PlainPost) (l k : LaneSeen) → slice_get lanes p.to ≡ Some l → k ≡ record l { pushed = l.pushed ++ p.envelope ∷ [] }
    → HasSent lanes (λ b. to_place b (p ∷ [])) (slice_set lanes p.to k)
sent_one lanes p l k at is = record { count = length-set lanes p.to k; lane = λ b x there. go b x there (p.to == b) refl }
  where
    go : (b : ℕ) (x : LaneSeen) → slice_get lanes b ≡ Some x → (c : Bool) → (p.to == b) ≡ c
        → (y : LaneSeen) × (slice_get (slice_set lanes p.to k) b ≡ Some y) × (y.inbox ≡ x.inbox) × (y.sender ≡ x.sender) × (y.pushed ≡ x.pushed ++ to_place b (p ∷ []))
    go b x there true q =
        let here : p.to ≡ b = same_place p.to b q in
        let same : x ≡ l = same_some x l (sym there ∙ ap (slice_get lanes) (sym here) ∙ at) in
        let written : slice_get (slice_set lanes p.to k) b ≡ Some k = ap (slice_get (slice_set lanes p.to k)) (sym here) ∙ set_at lanes p.to l k at in (
          k,
          written,
          ap (λ (y : LaneSeen). y.inbox) is ∙ ap (λ (y : LaneSeen). y.inbox) (sym same),
          ap (λ (y : LaneSeen). y.sender) is ∙ ap (λ (y : LaneSeen). y.sender) (sym same),
          ap (λ (y : LaneSeen). y.pushed) is ∙ ap (λ (y : LaneSeen). y.pushed ++ p.envelope ∷ []) (sym same) ∙ ap (λ es. x.pushed ++ es) (sym (goes_there p b q)),
        )
    go b x there false q = stays lanes (slice_set lanes p.to k) p b x (set_beside lanes p.to b k (differ p.to b q) ∙ there) q

-- ---- several posts

pub none_sent : (lanes : List LaneSeen) → HasSent lanes (λ b. []) lanes
none_sent lanes = record { count = refl; lane = λ b l at. (l, at, refl, refl, sym (append-nil l.pushed)) }

pub sent_then : (first then last : List LaneSeen) (to more : ℕ → List Taken) → HasSent first to then → HasSent then more last → HasSent first (λ b. to b ++ more b) last
sent_then first then last to more h k = record {
  count = k.count ∙ h.count;
  lane = λ b l at.
      let x = h.lane b l at in
      let y = k.lane b x.0 x.1 in
      (y.0, y.1, y.2 ∙ x.2, y.3 ∙ x.3, y.4 ∙ ap (λ es. es ++ more b) x.4 ∙ append_assoc l.pushed (to b) (more b));
}

pub sent_same : (old new : List LaneSeen) (to other : ℕ → List Taken) → ((b : ℕ) → to b ≡ other b) → HasSent old to new → HasSent old other new
sent_same old new to other e h = record {
  count = h.count;
  lane = λ b l at. let x = h.lane b l at in (x.0, x.1, x.2, x.3, x.4 ∙ ap (λ es. l.pushed ++ es) (e b));
}

pub own_still : (sender : ℕ) (old new : List LaneSeen) (to : ℕ → List Taken) → AreLanesOf sender old → HasSent old to new → AreLanesOf sender new
own_still sender old new to own h b k at =
    let less : b < length old = subst (λ n. b < n) h.count (get_less new b k at) in
    let was = get_some old b less in
    let now = h.lane b was.0 was.1 in
    let same : k ≡ now.0 = same_some k now.0 (sym at ∙ now.1) in
    ap (λ (l : LaneSeen). l.sender) same ∙ now.3 ∙ own b was.0 was.1

-- What waits after some of it was taken, and after posts came to it.
use Rattle.std.proofs.Common.{◌≡◌, ℕ, ◌==◌, Bool, true, false, List, [], ◌∷◌, ◌++◌, refl, ap, sym, ◌∙◌, subst, arith, append_assoc}
use Rattle.std.proofs.lemmas.Bool.Decides.{nat_tests}
use Rattle.std.proofs.lemmas.List.{append-nil}
use Rattle.caf_message.specs.declared.envelope.Taken.{Taken}
use Rattle.caf_actor.specs.PlainPost.{PlainPost}
use Rattle.caf_actor.specs.Record.{from_place, to_place, when}
use Rattle.caf_record.proofs.BatchLemmas.{from_append}
use Rattle.caf_driver.specs.Mail.{Waiting, waiting_in, IsMail, HasPosted, HasGiven}
use Rattle.caf_driver.specs.Delivery.{HasTakenOut}
use Rattle.caf_driver.proofs.MailLemmas.{self_of}

turned : (a b : ℕ) (c : Bool) → (a == b) ≡ c → (b == a) ≡ c
turned a b true q = grind (arith, nat_tests)
turned a b false q = grind (arith, nat_tests)

pub none_taken : (v : Waiting) (place : ℕ) → IsMail v → HasTakenOut v place [] v
none_taken v place h = record { mail = h; places = refl; next = λ a. refl; others = λ a b q. refl }

pub one_taken : (old mid new : Waiting) (place sender : ℕ) (es : List Taken) (e : Taken) → HasTakenOut old place es mid → HasGiven mid place sender e new → HasTakenOut old place (es ++ e ∷ []) new
one_taken old mid new place sender es e had has = record {
  mail = has.mail;
  places = has.places ∙ had.places;
  next = λ a. next a (a == sender) refl;
  others = λ a b q. others a b q (a == sender) refl;
}
  where
    others : (a b : ℕ) → (b == place) ≡ false → (c : Bool) → (a == sender) ≡ c → waiting_in new a b ≡ waiting_in old a b
    others a b q true r =
        let same : waiting_in new a b ≡ waiting_in mid a b = rw (r, q) at (has.waiting a b) in
        same ∙ had.others a b q
    others a b q false r =
        let same : waiting_in new a b ≡ waiting_in mid a b = rw r at (has.waiting a b) in
        same ∙ had.others a b q

    next : (a : ℕ) (c : Bool) → (a == sender) ≡ c → from_place a (es ++ e ∷ []) ++ waiting_in new a place ≡ waiting_in old a place
    next a true r =
        let first : e ∷ waiting_in new a place ≡ waiting_in mid a place = rw (r, self_of place) at (has.waiting a place) in
        let own : (e.sender == a) ≡ true = subst (λ k. (k == a) ≡ true) (sym has.own) (turned a sender true r) in
        let one : from_place a (e ∷ []) ≡ e ∷ [] = rw own refl in
        ap (λ xs. xs ++ waiting_in new a place) (from_append a es (e ∷ []) ∙ ap (λ xs. from_place a es ++ xs) one)
        ∙ append_assoc (from_place a es) (e ∷ []) (waiting_in new a place)
        ∙ ap (λ xs. from_place a es ++ xs) first ∙ had.next a
    next a false r =
        let same : waiting_in new a place ≡ waiting_in mid a place = rw r at (has.waiting a place) in
        let own : (e.sender == a) ≡ false = subst (λ k. (k == a) ≡ false) (sym has.own) (turned a sender false r) in
        let none : from_place a (e ∷ []) ≡ [] = rw own refl in
        ap (λ xs. xs ++ waiting_in new a place) (from_append a es (e ∷ []) ∙ ap (λ xs. from_place a es ++ xs) none ∙ append-nil (from_place a es))
        ∙ ap (λ xs. from_place a es ++ xs) same ∙ had.next a

-- one post more has come
pub one_delivered : (mid new : Waiting) (from : ℕ) (p : PlainPost) (ps : List PlainPost) → p.envelope.sender ≡ from → HasPosted mid p.to p.envelope new → (a b : ℕ)
    → waiting_in new a b ++ when (a == from) (to_place b ps) ≡ waiting_in mid a b ++ when (a == from) (to_place b (p ∷ ps))
one_delivered mid new from p ps own has a b = go (a == from) refl (b == p.to) refl
  where
    go : (c : Bool) → (a == from) ≡ c → (d : Bool) → (b == p.to) ≡ d → waiting_in new a b ++ when (a == from) (to_place b ps) ≡ waiting_in mid a b ++ when (a == from) (to_place b (p ∷ ps))
    go c q d r =
        let here : (a == p.envelope.sender) ≡ c = subst (λ k. (a == k) ≡ c) (sym own) q in
        let there : (p.to == b) ≡ d = turned b p.to d r in
        both c q d here r there
      where
        both : (c : Bool) → (a == from) ≡ c → (d : Bool) → (a == p.envelope.sender) ≡ c → (b == p.to) ≡ d → (p.to == b) ≡ d → waiting_in new a b ++ when (a == from) (to_place b ps) ≡ waiting_in mid a b ++ when (a == from) (to_place b (p ∷ ps))
        both true q true here r there =
            let more : waiting_in new a b ≡ waiting_in mid a b ++ p.envelope ∷ [] = has.waiting a b ∙ rw (here, r) refl in
            rw (q, there) (ap (λ xs. xs ++ to_place b ps) more ∙ append_assoc (waiting_in mid a b) (p.envelope ∷ []) (to_place b ps))
        both true q false here r there =
            let same : waiting_in new a b ≡ waiting_in mid a b = has.waiting a b ∙ rw (here, r) refl in
            rw (q, there) (ap (λ xs. xs ++ to_place b ps) same)
        both false q true here r there =
            let same : waiting_in new a b ≡ waiting_in mid a b = has.waiting a b ∙ rw here refl in
            rw q (ap (λ xs. xs ++ []) same)
        both false q false here r there =
            let same : waiting_in new a b ≡ waiting_in mid a b = has.waiting a b ∙ rw here refl in
            rw q (ap (λ xs. xs ++ []) same)

pub some_last : {A : Type 0} (xs : List A) (x : A) → xs ++ x ∷ [] ≡ [] → ⊥
some_last [] x e = cc
some_last (y ∷ xs) x e = cc

pub when_none : (c : Bool) → when c [] ≡ []
when_none true = refl
when_none false = refl

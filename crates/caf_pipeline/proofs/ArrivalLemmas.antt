-- In a record at rest what a place sent was taken.
use Rattle.std.proofs.Common.{◌≡◌, ℕ, ◌==◌, Bool, true, false, List, [], ◌∷◌, ◌++◌, length, drop, inl, inr, refl, sym, subst, ap, ◌∙◌}
use Rattle.std.specs.Prelude.{Contains, not, filter, ◌⊎◌, if◌then◌else◌}
use Rattle.std.proofs.Math.Seq.{drop-append_seam}
use Rattle.std.proofs.lemmas.List.{append-nil}
use Rattle.std.proofs.lemmas.List.Elements.{Contains-append_left, Contains-append_right, Contains-append_cases}
use Rattle.caf_index.proofs.ContainsLemmas.{contains-none, contains-here, contains-later, contains-cases}
use Rattle.caf_mailbox.specs.Caches.{is_urgent, is_normal}
use Rattle.caf_message.specs.declared.envelope.Taken.{Taken}
use Rattle.caf_record.proofs.ListLemmas.{self_equal}
use Rattle.caf_actor.specs.PlainPost.{PlainPost}
use Rattle.caf_actor.specs.Record.{Machine, Kept, IsLegal, IsAtRest, from_place, to_place, joined, posted, sent, taken_by, sent_by, outside_sends}
use Rattle.caf_actor.specs.declared.journal.TakenBatch.{TakenBatch}
use Rattle.caf_steady.specs.Reading.{in_turn, all_in_turn}

-- ---- what comes from a place

pub from_has : (a : ℕ) (es : List Taken) (e : Taken) → Contains (from_place a es) e → Contains es e
from_has a [] e has = has
from_has a (x ∷ xs) e has = go (x.sender == a) has (from_has a xs e)
  where
    go : (b : Bool) → Contains (if b then x ∷ from_place a xs else from_place a xs) e → (Contains (from_place a xs) e → Contains xs e) → Contains (x ∷ xs) e
    go true has later = elim (contains-cases x e (from_place a xs) has) [
      | inl is ↦ subst (Contains (x ∷ xs)) is (contains-here x xs)
      | inr more ↦ contains-later x e xs (later more)
    ]
    go false has later = contains-later x e xs (later has)

pub to_has : (ps : List PlainPost) (p : PlainPost) → Contains ps p → Contains (to_place p.to ps) p.envelope
to_has [] p has = absurd (contains-none p has)
to_has (x ∷ xs) p has = go (x.to == p.to) refl (contains-cases x p xs has) (to_has xs p)
  where
    go : (b : Bool) → (x.to == p.to) ≡ b → (x ≡ p) ⊎ Contains xs p → (Contains xs p → Contains (to_place p.to xs) p.envelope) → Contains (to_place p.to (x ∷ xs)) p.envelope
    go true q (inl is) later = rw q (subst (λ (y : PlainPost). Contains (y.envelope ∷ to_place p.to xs) p.envelope) (sym is) (contains-here p.envelope (to_place p.to xs)))
    go true q (inr more) later = rw q (contains-later x.envelope p.envelope (to_place p.to xs) (later more))
    go false q (inl is) later = let yes : (x.to == p.to) ≡ true = ap (λ (y : PlainPost). y.to == p.to) is ∙ self_equal p.to in let bad : false ≡ true = sym q ∙ yes in absurd cc
    go false q (inr more) later = rw q (later more)

-- ---- at rest

module _ {S : Type 0} (m : Machine S) (ticks : ℕ) (k : Kept S) (legal : IsLegal m ticks k) (rest : IsAtRest m k) where
  pub all_taken : (a b : ℕ) → sent_by m k a b ≡ taken_by k a b
  all_taken a b =
      let parts = legal.pairs a b in
      let left : parts.0 ≡ [] = sym (drop-append_seam (taken_by k a b) parts.0) ∙ ap (drop (length (taken_by k a b))) parts.1 ∙ rest.taken a b in
      sym parts.1 ∙ ap (λ (es : List Taken). taken_by k a b ++ es) left ∙ append-nil (taken_by k a b)

  pub arrives : (a : ℕ) (p : PlainPost) → Contains (posted m (k.start a) (k.journal a)) p → Contains (joined (k.journal p.to)) p.envelope
  arrives a p has =
      let there = to_has (posted m (k.start a) (k.journal a)) p has in
      let all = Contains-append_right (outside_sends k a p.to) (sent m (k.start a) (k.journal a) p.to) p.envelope there in
      from_has a (joined (k.journal p.to)) p.envelope (subst (λ (es : List Taken). Contains es p.envelope) (all_taken a p.to) all)

-- ---- each batch in turn

filter_has : (test : Taken → Bool) (es : List Taken) (e : Taken) → test e ≡ true → Contains es e → Contains (filter test es) e
filter_has test [] e passes has = absurd (contains-none e has)
filter_has test (x ∷ xs) e passes has = go (test x) refl (contains-cases x e xs has) (filter_has test xs e passes)
  where
    go : (b : Bool) → test x ≡ b → (x ≡ e) ⊎ Contains xs e → (Contains xs e → Contains (filter test xs) e) → Contains (filter test (x ∷ xs)) e
    go true q (inl is) later = rw q (subst (Contains (x ∷ filter test xs)) is (contains-here x (filter test xs)))
    go true q (inr more) later = rw q (contains-later x e (filter test xs) (later more))
    go false q (inl is) later = let yes : test x ≡ true = ap test is ∙ passes in let bad : false ≡ true = sym q ∙ yes in absurd cc
    go false q (inr more) later = rw q (later more)

pub turn_has : (es : List Taken) (e : Taken) → Contains es e → Contains (in_turn es) e
turn_has es e has = go (is_urgent e) refl
  where
    go : (b : Bool) → is_urgent e ≡ b → Contains (in_turn es) e
    go true q = Contains-append_left (filter is_urgent es) (filter is_normal es) e (filter_has is_urgent es e q has)
    go false q = Contains-append_right (filter is_urgent es) (filter is_normal es) e (filter_has is_normal es e (ap not q) has)

pub all_turns_have : (bs : List TakenBatch) (e : Taken) → Contains (joined bs) e → Contains (all_in_turn bs) e
all_turns_have [] e has = has
all_turns_have (b ∷ bs) e has = elim (Contains-append_cases b.taken (joined bs) e has) [
  | inl here ↦ Contains-append_left (in_turn b.taken) (all_in_turn bs) e (turn_has b.taken e here)
  | inr later ↦ Contains-append_right (in_turn b.taken) (all_in_turn bs) e (all_turns_have bs e later)
]

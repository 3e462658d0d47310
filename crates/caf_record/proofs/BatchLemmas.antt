-- What is taken and sent is put together from its parts.
use Rattle.std.proofs.Common.{◌≡◌, ℕ, ◌==◌, Bool, true, false, List, [], ◌∷◌, ◌++◌, length, drop, refl, ap, sym, ◌∙◌, subst, append_assoc}
use Rattle.std.proofs.lemmas.List.{append-nil}
use Rattle.std.proofs.lemmas.List.Elements.{filter-append}
use Rattle.std.specs.List.{AllByRecursion}
use Rattle.caf_message.specs.declared.envelope.Taken.{Taken}
use Rattle.caf_actor.specs.PlainPost.{PlainPost}
use Rattle.caf_actor.specs.declared.journal.TakenBatch.{TakenBatch}
use Rattle.caf_actor.specs.Record.{Machine, IsPrefix, from_place, to_place, joined, after, posted, sent, AreStamped, holds_notice, heard, told}

-- ---- envelopes and posts

pub from_append : (a : ℕ) (xs ys : List Taken) → from_place a (xs ++ ys) ≡ from_place a xs ++ from_place a ys
from_append a [] ys = refl
from_append a (x ∷ xs) ys = go (x.sender == a) refl (from_append a xs ys)
  where
    go : (b : Bool) → (x.sender == a) ≡ b → from_place a (xs ++ ys) ≡ from_place a xs ++ from_place a ys → from_place a ((x ∷ xs) ++ ys) ≡ from_place a (x ∷ xs) ++ from_place a ys
    go true e h = rw (e, h) refl
    go false e h = rw (e, h) refl

pub to_append : (b : ℕ) (ps qs : List PlainPost) → to_place b (ps ++ qs) ≡ to_place b ps ++ to_place b qs
to_append b [] qs = refl
to_append b (p ∷ ps) qs = go (p.to == b) refl (to_append b ps qs)
  where
    go : (c : Bool) → (p.to == b) ≡ c → to_place b (ps ++ qs) ≡ to_place b ps ++ to_place b qs → to_place b ((p ∷ ps) ++ qs) ≡ to_place b (p ∷ ps) ++ to_place b qs
    go true e h = rw (e, h) refl
    go false e h = rw (e, h) refl

module _ (P : Taken → Type 0) where
  pub all_from : (a : ℕ) (es : List Taken) → AllByRecursion P es → AllByRecursion P (from_place a es)
  all_from a [] h = tt
  all_from a (e ∷ es) h = go (e.sender == a) refl (all_from a es h.1)
    where
      go : (b : Bool) → (e.sender == a) ≡ b → AllByRecursion P (from_place a es) → AllByRecursion P (from_place a (e ∷ es))
      go true q k = rw q (h.0, k)
      go false q k = rw q k

  pub all_to : (b : ℕ) (ps : List PlainPost) → AllByRecursion (λ p. P p.envelope) ps → AllByRecursion P (to_place b ps)
  all_to b [] h = tt
  all_to b (p ∷ ps) h = go (p.to == b) refl (all_to b ps h.1)
    where
      go : (c : Bool) → (p.to == b) ≡ c → AllByRecursion P (to_place b ps) → AllByRecursion P (to_place b (p ∷ ps))
      go true q k = rw q (h.0, k)
      go false q k = rw q k

  -- what keeps `P` is a first part of what stands before those that don't
  pub within : (xs more w late : List Taken) → xs ++ more ≡ w ++ late → AllByRecursion P xs → AllByRecursion (λ e. P e → ⊥) late → IsPrefix xs w
  within [] more w late e low high = (w, refl)
  within (x ∷ xs) more [] [] e low high = cc
  within (x ∷ xs) more [] (l ∷ late) e low high =
      let same : x ≡ l = cc in
      absurd (high.0 (subst P same low.0))
  within (x ∷ xs) more (y ∷ w) late e low high =
      let same : x ≡ y = cc in
      let tail : xs ++ more ≡ w ++ late = cc in
      let p = within xs more w late tail low.1 high in
      (p.0, rw same (ap (λ zs. y ∷ zs) p.1))

-- what is left of a prefix
pub drop_prefix : (xs w : List Taken) (p : IsPrefix xs w) → drop (length xs) w ≡ p.0
drop_prefix xs w p = rw (← p.1) (go xs p.0)
  where
    go : (xs rest : List Taken) → drop (length xs) (xs ++ rest) ≡ rest
    go [] rest = refl
    go (x ∷ xs) rest = go xs rest

-- ---- batches

pub joined_append : (xs ys : List TakenBatch) → joined (xs ++ ys) ≡ joined xs ++ joined ys
joined_append [] ys = refl
joined_append (x ∷ xs) ys = ap (λ zs. x.taken ++ zs) (joined_append xs ys) ∙ sym (append_assoc x.taken (joined xs) (joined ys))

pub joined_one : (xs : List TakenBatch) (b : TakenBatch) → joined (xs ++ b ∷ []) ≡ joined xs ++ b.taken
joined_one xs b = joined_append xs (b ∷ []) ∙ ap (λ zs. joined xs ++ zs) (append-nil b.taken)

pub heard_append : (xs ys : List TakenBatch) → heard (xs ++ ys) ≡ heard xs ++ heard ys
heard_append xs ys = filter-append holds_notice xs ys

pub told_append : (xs ys : List TakenBatch) → told (xs ++ ys) ≡ told xs ++ joined (heard ys)
told_append xs ys = ap (λ zs. told [] ++ zs) (ap joined (heard_append xs ys) ∙ joined_append (heard xs) (heard ys))

module _ {S : Type 0} (m : Machine S) where
  pub after_append : (s : S) (xs ys : List TakenBatch) → after m s (xs ++ ys) ≡ after m (after m s xs) ys
  after_append s [] ys = refl
  after_append s (x ∷ xs) ys = after_append (m.play s x.taken).0 xs ys

  posted_append : (s : S) (xs ys : List TakenBatch) → posted m s (xs ++ ys) ≡ posted m s xs ++ posted m (after m s xs) ys
  posted_append s [] ys = refl
  posted_append s (x ∷ xs) ys =
      ap (λ zs. (m.play s x.taken).1 ++ zs) (posted_append (m.play s x.taken).0 xs ys)
      ∙ sym (append_assoc (m.play s x.taken).1 (posted m (m.play s x.taken).0 xs) (posted m (after m (m.play s x.taken).0 xs) ys))

  pub sent_append : (s : S) (xs ys : List TakenBatch) (b : ℕ) → sent m s (xs ++ ys) b ≡ sent m s xs b ++ sent m (after m s xs) ys b
  sent_append s xs ys b = ap (to_place b) (posted_append s xs ys) ∙ to_append b (posted m s xs) (posted m (after m s xs) ys)

  pub sent_one : (s : S) (xs : List TakenBatch) (t : TakenBatch) (b : ℕ) → sent m s (xs ++ t ∷ []) b ≡ sent m s xs b ++ to_place b (m.play (after m s xs) t.taken).1
  sent_one s xs t b = sent_append s xs (t ∷ []) b ∙ ap (λ zs. sent m s xs b ++ to_place b zs) (append-nil (m.play (after m s xs) t.taken).1)

  pub stamped_rest : (s : S) (xs ys : List TakenBatch) → AreStamped m s (xs ++ ys) → AreStamped m (after m s xs) ys
  stamped_rest s [] ys h = h
  stamped_rest s (x ∷ xs) ys h = stamped_rest (m.play s x.taken).0 xs ys h.1

  pub stamped_append : (s : S) (xs ys : List TakenBatch) → AreStamped m s xs → AreStamped m (after m s xs) ys → AreStamped m s (xs ++ ys)
  stamped_append s [] ys h k = k
  stamped_append s (x ∷ xs) ys h k = (h.0, stamped_append (m.play s x.taken).0 xs ys h.1 k)

-- A state that some batches lead to, and what a step does to it.
use Rattle.std.proofs.Common.{◌≡◌, ℕ, ◌<◌, ◌==◌, ◌&&◌, Bool, true, false, List, [], ◌∷◌, ◌++◌, Option, refl, ap, sym, ◌∙◌, subst, append_assoc, if◌then◌else◌}
use Rattle.std.specs.List.{AllByRecursion}
use Rattle.caf_message.specs.declared.envelope.Taken.{Taken}
use Rattle.caf_message.specs.Envelope.{outside}
use Rattle.caf_actor.specs.declared.journal.TakenBatch.{TakenBatch}
use Rattle.caf_actor.specs.Record.{Machine, IsPrefix, from_place, to_place, joined, after, sent, IsStill, Kept, when, told, sent_by, untaken, IsAtRest}
use Rattle.caf_actor.specs.Run.{Turn, without, State, take_batch, next_notice, send_notice, EndsAs}
use Rattle.caf_record.proofs.ListLemmas.{same_of, and_left}
use Rattle.std.proofs.lemmas.List.{append-nil}
use Rattle.caf_record.proofs.BatchLemmas.{from_append, drop_prefix, joined_one, after_append, sent_one}

-- the batches of each place, and one more
abbrev pub with_turn : (ℕ → List TakenBatch) → Turn → ℕ → List TakenBatch
with_turn done t p = if p == t.place then done p ++ t.batch ∷ [] else done p

-- what is posted has the stamp of its batch, what is taken has a lesser one, and a place's stamps rise
pub record HasStamps {S : Type 0} (m : Machine S) : Type 0 where
  pub posts : (s : S) (es : List Taken) → AllByRecursion (λ p. p.envelope.stamp ≡ m.due s es) (m.play s es).1
  pub taken : (s : S) (es : List Taken) → AllByRecursion (λ e. e.stamp < m.due s es) es
  pub rises : (s : S) (es : List Taken) → m.stamp_of s < m.due s es
  pub after : (s : S) (es : List Taken) → m.stamp_of (m.play s es).0 ≡ m.due s es

module _ {S : Type 0} (m : Machine S) (start : ℕ → S) where
  -- the state is where these batches lead, if the outside has sent so much
  pub record Stands (given : List Taken) (done : ℕ → List TakenBatch) (s : State S) : Type 0 where
    pub snapshots : (p : ℕ) → s.snapshot p ≡ after m (start p) (done p)
    pub pairs : (a b : ℕ) → from_place a (joined (done b)) ++ s.waiting a b ≡ when ((outside == a) && (0 == b)) given ++ sent m (start a) (done a) b

  -- ---- a place takes a batch

  module _ (given : List Taken) (done : ℕ → List TakenBatch) (s : State S) (t : Turn) (stands : Stands given done s) (next : (a : ℕ) → IsPrefix (from_place a t.batch.taken) (s.waiting a t.place)) where
    parted : (a b : ℕ) → (b == t.place) ≡ true → from_place a t.batch.taken ++ without true (from_place a t.batch.taken) (s.waiting a b) ≡ s.waiting a b
    parted a b q =
        let same : b ≡ t.place = same_of b t.place q in
        let p : IsPrefix (from_place a t.batch.taken) (s.waiting a b) = subst (λ x. IsPrefix (from_place a t.batch.taken) (s.waiting a x)) (sym same) (next a) in
        ap (λ xs. from_place a t.batch.taken ++ xs) (drop_prefix (from_place a t.batch.taken) (s.waiting a b) p) ∙ p.1

    -- what was taken, and what waits, before its news
    receiver : (a b : ℕ) (c : Bool) → (b == t.place) ≡ c → (news : List Taken) → from_place a (joined (with_turn done t b)) ++ (without (b == t.place) (from_place a t.batch.taken) (s.waiting a b) ++ news) ≡ (from_place a (joined (done b)) ++ s.waiting a b) ++ news
    receiver a b true q news =
        let left : List Taken = without true (from_place a t.batch.taken) (s.waiting a b) in
        rw q (
        ap (λ xs. from_place a xs ++ (left ++ news)) (joined_one (done b) t.batch) ∙
        ap (λ xs. xs ++ (left ++ news)) (from_append a (joined (done b)) t.batch.taken) ∙
        append_assoc (from_place a (joined (done b))) (from_place a t.batch.taken) (left ++ news) ∙
        ap (λ xs. from_place a (joined (done b)) ++ xs) (sym (append_assoc (from_place a t.batch.taken) left news) ∙ ap (λ xs. xs ++ news) (parted a b q)) ∙
        sym (append_assoc (from_place a (joined (done b))) (s.waiting a b) news))
    receiver a b false q news = rw q (sym (append_assoc (from_place a (joined (done b))) (s.waiting a b) news))

    -- what was sent, and the news
    sender : (a b : ℕ) (c : Bool) → (a == t.place) ≡ c → sent m (start a) (done a) b ++ when (a == t.place) (to_place b (m.play (s.snapshot a) t.batch.taken).1) ≡ sent m (start a) (with_turn done t a) b
    sender a b true q =
        rw q (ap (λ x. sent m (start a) (done a) b ++ to_place b (m.play x t.batch.taken).1) (stands.snapshots a) ∙ sym (sent_one m (start a) (done a) t.batch b))
    sender a b false q = rw q (append-nil (sent m (start a) (done a) b))

    place_after : (p : ℕ) (c : Bool) → (p == t.place) ≡ c → (take_batch m s t).snapshot p ≡ after m (start p) (with_turn done t p)
    place_after p true q =
        rw q (ap (λ x. (m.play x t.batch.taken).0) (stands.snapshots p) ∙ sym (after_append m (start p) (done p) (t.batch ∷ [])))
    place_after p false q = rw q (stands.snapshots p)

    pub take_stands : Stands given (with_turn done t) (take_batch m s t)
    take_stands = record {
      snapshots = λ p. place_after p (p == t.place) refl;
      pairs = λ a b.
          let news : List Taken = when (a == t.place) (to_place b (m.play (s.snapshot a) t.batch.taken).1) in
          let sends : List Taken = when ((outside == a) && (0 == b)) given in
          receiver a b (b == t.place) refl news ∙
          ap (λ xs. xs ++ news) (stands.pairs a b) ∙
          append_assoc sends (sent m (start a) (done a) b) news ∙
          ap (λ xs. sends ++ xs) (sender a b (a == t.place) refl);
    }

  -- ---- the outside sends a notice

  module _ (ticks : ℕ) (given : List Taken) (done : ℕ → List TakenBatch) (s : State S) (stands : Stands given done s) (none : done outside ≡ []) where
    notice_pair : (a b : ℕ) (c : Bool) → ((outside == a) && (0 == b)) ≡ c → from_place a (joined (done b)) ++ (send_notice m ticks s).waiting a b ≡ when ((outside == a) && (0 == b)) (given ++ next_notice m ticks s ∷ []) ++ sent m (start a) (done a) b
    notice_pair a b true q =
        let e : Taken = next_notice m ticks s in
        let h : from_place a (joined (done b)) ++ s.waiting a b ≡ given ++ sent m (start a) (done a) b = rw q at (stands.pairs a b) in
        let here : outside ≡ a = same_of outside a (and_left (outside == a) (0 == b) q) in
        let nothing : done a ≡ [] = subst (λ x. done x ≡ []) here none in
        let sends : sent m (start a) (done a) b ≡ [] = rw nothing refl in
        rw q (
        sym (append_assoc (from_place a (joined (done b))) (s.waiting a b) (e ∷ [])) ∙
        ap (λ xs. xs ++ e ∷ []) (h ∙ ap (λ xs. given ++ xs) sends ∙ append-nil given) ∙
        sym (ap (λ xs. (given ++ e ∷ []) ++ xs) sends ∙ append-nil (given ++ e ∷ [])))
    notice_pair a b false q =
        let h : from_place a (joined (done b)) ++ s.waiting a b ≡ sent m (start a) (done a) b = rw q at (stands.pairs a b) in
        rw q (ap (λ xs. from_place a (joined (done b)) ++ xs) (append-nil (s.waiting a b)) ∙ h)

    pub notice_stands : Stands (given ++ next_notice m ticks s ∷ []) done (send_notice m ticks s)
    notice_stands = record { snapshots = stands.snapshots; pairs = λ a b. notice_pair a b ((outside == a) && (0 == b)) refl }

  -- ---- the record of the batches

  module _ (places : ℕ) (cut : Option ℕ) (done : ℕ → List TakenBatch) (s : State S) (stands : Stands (told (done 0)) done s) where
    abbrev kept : Kept S
    kept = record { places = places; start = start; journal = done; cut = cut }

    pub untaken_waits : (a b : ℕ) → untaken m kept a b ≡ s.waiting a b
    untaken_waits a b = drop_prefix (from_place a (joined (done b))) (sent_by m kept a b) (s.waiting a b, stands.pairs a b)

    pub ends_as : EndsAs m kept s
    ends_as = record { snapshots = stands.snapshots; waiting = λ a b. sym (untaken_waits a b) }

    pub still_of : IsAtRest m kept → IsStill m places s.snapshot s.waiting
    still_of h = record {
      taken = λ a b. sym (untaken_waits a b) ∙ h.taken a b;
      idle = λ p lt. rw (stands.snapshots p) (h.idle p lt);
    }

    pub rest_of : IsStill m places s.snapshot s.waiting → IsAtRest m kept
    rest_of h = record {
      taken = λ a b. untaken_waits a b ∙ h.taken a b;
      idle = λ p lt. rw (← stands.snapshots p) (h.idle p lt);
    }

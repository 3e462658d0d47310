-- The merge of a legal record is a run.
use Rattle.std.proofs.Common.{◌≡◌, ◌≢◌, ℕ, ◌+◌, ◌<◌, ◌≤◌, ◌==◌, ◌&&◌, nat_lt, Bool, true, false, List, [], ◌∷◌, ◌++◌, length, filter, None, refl, ap, sym, ◌∙◌, subst, arith, append_assoc, length-append, inl, inr}
use Rattle.std.proofs.lemmas.Bool.{cases_lt, lt-ltb}
use Rattle.std.proofs.lemmas.Bool.Decides.{nat_tests}
use Rattle.std.proofs.lemmas.List.Elements.{filter-append}
use Rattle.std.proofs.Math.Path.{fun_ext}
use Rattle.std.specs.List.{AllByRecursion}
use Rattle.caf_message.specs.declared.envelope.Taken.{Taken}
use Rattle.caf_message.specs.Envelope.{outside}
use Rattle.caf_actor.specs.declared.journal.TakenBatch.{TakenBatch}
use Rattle.caf_actor.specs.PlainPost.{PlainPost}
use Rattle.caf_actor.specs.Record.{Machine, IsPrefix, from_place, joined, posted, sent, AreStamped, latest, IsStill, Kept, ends, before, when, holds_notice, heard, told, sent_by, IsAtRest, AreNotices, IsLegal}
use Rattle.caf_actor.specs.Run.{Turn, State, opening_state, MayTake, MaySpeak, take_batch, next_notice, send_notice, IsRun, run, EndsAs, IsHeard}
use Rattle.caf_actor.specs.Merge.{ComesBefore, AreInOrder, batches_in, IsMerge, steps_of}
use Rattle.caf_message.specs.Outside.{outside_envelope, is_rest_notice}
use Rattle.caf_record.proofs.ListLemmas.{self_equal, same_of, and_left, and_right, nil_left, nil_right, all_right, all_map, none_of, filter_all, filter_none}
use Rattle.std.proofs.lemmas.List.{append-nil, append_cancel_left}
use Rattle.caf_mailbox.proofs.NextLemmas.{all_append}
use Rattle.caf_record.proofs.BatchLemmas.{from_append, all_from, all_to, within, joined_append, heard_append, told_append, joined_one, sent_append, stamped_rest}
use Rattle.caf_record.proofs.StandsLemmas.{with_turn, HasStamps, Stands, take_stands, notice_stands, ends_as, still_of}

-- ---- stamps

module _ {S : Type 0} (m : Machine S) (has : HasStamps m) where
  all_weaker : (low due : ℕ) → low ≤ due → (ps : List PlainPost) → AllByRecursion (λ p. p.envelope.stamp ≡ due) ps → AllByRecursion (λ p. p.envelope.stamp < low → ⊥) ps
  all_weaker low due h [] k = tt
  all_weaker low due h (p ∷ ps) k = let e = k.0 in ((λ lt. absurd (omega arith)), all_weaker low due h ps k.1)

  -- what batches of no lesser stamp post has no lesser stamp
  late_posts : (low : ℕ) (s : S) (bs : List TakenBatch) → AreStamped m s bs → AllByRecursion (λ b. low ≤ b.stamp) bs → AllByRecursion (λ p. p.envelope.stamp < low → ⊥) (posted m s bs)
  late_posts low s [] h k = tt
  late_posts low s (b ∷ bs) h k =
      let due : low ≤ m.due s b.taken = rw (← h.0) k.0 in
      all_append (λ p. p.envelope.stamp < low → ⊥) (m.play s b.taken).1 (posted m (m.play s b.taken).0 bs)
      (all_weaker low (m.due s b.taken) due (m.play s b.taken).1 (has.posts s b.taken))
      (late_posts low (m.play s b.taken).0 bs h.1 k.1)

  late_turns : (low p : ℕ) (ts : List Turn) → AllByRecursion (λ u. low ≤ u.batch.stamp) ts → AllByRecursion (λ b. low ≤ b.stamp) (batches_in p ts)
  late_turns low p [] h = tt
  late_turns low p (t ∷ ts) h = go (p == t.place) refl (late_turns low p ts h.1)
    where
      go : (b : Bool) → (p == t.place) ≡ b → AllByRecursion (λ b. low ≤ b.stamp) (batches_in p ts) → AllByRecursion (λ b. low ≤ b.stamp) (batches_in p (t ∷ ts))
      go true q k = rw q (h.0, k)
      go false q k = rw q k

  not_less : (t u : Turn) → ComesBefore t u → t.batch.stamp ≤ u.batch.stamp
  not_less t u (inl lt) = omega arith
  not_less t u (inr same) = let e = same.0 in omega arith

  abbrev turn_at : ℕ → TakenBatch → Turn
  turn_at p b = record { place = p; batch = b }

  -- ---- the notices of the outside

  module _ (ticks : ℕ) (k : Kept S) where
    heard_rest : (n : ℕ) → 0 < n → (bs : List TakenBatch) → AreNotices m ticks k n bs → AllByRecursion (λ e. is_rest_notice e ≡ true) (joined bs)
    heard_rest n lt [] h = tt
    heard_rest n lt (b ∷ bs) h =
        let one : nat_lt 0 n ≡ true = lt-ltb 0 n lt in
        let next : 0 < n + 1 = omega arith in
        all_append (λ e. is_rest_notice e ≡ true) b.taken (joined bs)
        (subst (λ es. AllByRecursion (λ e. is_rest_notice e ≡ true) es) (sym h.0.alone) (one, tt))
        (heard_rest (n + 1) next bs h.1)

  -- ---- a legal record, after some of its turns

  module _ (ticks : ℕ) (k : Kept S) (legal : IsLegal m ticks k) where
    pub record Here (done : ℕ → List TakenBatch) (s : State S) (ts : List Turn) : Type 0 where
      pub split : (p : ℕ) → k.journal p ≡ done p ++ batches_in p ts
      pub stands : Stands m k.start (told (done 0)) done s
      pub places : s.places ≡ k.places
      pub spoken : length (heard (done 0)) + 1 ≡ s.spoken
      pub notices : AreNotices m ticks k s.spoken (heard (batches_in 0 ts))
      pub order : AreInOrder ts
      pub earlier : (p : ℕ) → AllByRecursion (λ b. AllByRecursion (ComesBefore (turn_at p b)) ts) (done p)
      pub below : (p : ℕ) → AllByRecursion (λ b. b.stamp ≤ m.stamp_of (s.snapshot p)) (done p)

    outside_none : k.journal outside ≡ []
    outside_none = legal.inside outside legal.places

    module _ (done : ℕ → List TakenBatch) (s : State S) (ts : List Turn) (h : Here done s ts) where
      done_none : done outside ≡ []
      done_none = nil_left (done outside) (batches_in outside ts) (sym outside_none ∙ h.split outside)

      left_none : batches_in outside ts ≡ []
      left_none = nil_right (done outside) (batches_in outside ts) (sym outside_none ∙ h.split outside)

      -- what is still to be sent
      abbrev late : ℕ → ℕ → List Taken
      late a b = when ((outside == a) && (0 == b)) (joined (heard (batches_in 0 ts))) ++ sent m (s.snapshot a) (batches_in a ts) b

      sent_pair : (a b : ℕ) (c : Bool) → ((outside == a) && (0 == b)) ≡ c → sent_by m k a b ≡ (when ((outside == a) && (0 == b)) (told (done 0)) ++ sent m (k.start a) (done a) b) ++ late a b
      sent_pair a b true q =
          let here : outside ≡ a = same_of outside a (and_left (outside == a) (0 == b) q) in
          let ja : k.journal a ≡ [] = subst (λ x. k.journal x ≡ []) here outside_none in
          let da : done a ≡ [] = subst (λ x. done x ≡ []) here done_none in
          let ra : batches_in a ts ≡ [] = subst (λ x. batches_in x ts ≡ []) here left_none in
          let now : List Taken = told (done 0) in
          let later : List Taken = joined (heard (batches_in 0 ts)) in
          let all : sent m (k.start a) (k.journal a) b ≡ [] = ap (λ bs. sent m (k.start a) bs b) ja in
          let before : sent m (k.start a) (done a) b ≡ [] = ap (λ bs. sent m (k.start a) bs b) da in
          let rest : sent m (s.snapshot a) (batches_in a ts) b ≡ [] = ap (λ bs. sent m (s.snapshot a) bs b) ra in
          rw q (
          ap (λ xs. told (k.journal 0) ++ xs) all ∙ append-nil (told (k.journal 0)) ∙ ap told (h.split 0) ∙ told_append (done 0) (batches_in 0 ts) ∙
          sym (ap (λ xs. xs ++ (later ++ sent m (s.snapshot a) (batches_in a ts) b)) (ap (λ xs. now ++ xs) before ∙ append-nil now) ∙ ap (λ xs. now ++ xs) (ap (λ xs. later ++ xs) rest ∙ append-nil later)))
      sent_pair a b false q =
          rw q (ap (λ bs. sent m (k.start a) bs b) (h.split a) ∙ sent_append m (k.start a) (done a) (batches_in a ts) b
          ∙ ap (λ x. sent m (k.start a) (done a) b ++ sent m x (batches_in a ts) b) (sym (h.stands.snapshots a)))

      -- what a place is still to take stands in what waits for it and what is still to be sent
      left_pair : (a b : ℕ) → IsPrefix (from_place a (joined (batches_in b ts))) (s.waiting a b ++ late a b)
      left_pair a b =
          let p = legal.pairs a b in
          let first : List Taken = from_place a (joined (done b)) in
          let rest : List Taken = from_place a (joined (batches_in b ts)) in
          let taken : from_place a (joined (k.journal b)) ≡ first ++ rest =
          ap (λ bs. from_place a (joined bs)) (h.split b) ∙ ap (from_place a) (joined_append (done b) (batches_in b ts)) ∙ from_append a (joined (done b)) (joined (batches_in b ts)) in (
            p.0,
            append_cancel_left first (rest ++ p.0) (s.waiting a b ++ late a b)
                (sym (append_assoc first rest p.0) ∙ ap (λ xs. xs ++ p.0) (sym taken) ∙ p.1 ∙ sent_pair a b ((outside == a) && (0 == b)) refl
                ∙ ap (λ xs. xs ++ late a b) (sym (h.stands.pairs a b)) ∙ append_assoc first (s.waiting a b) (late a b)),
          )

    -- ---- the next turn

    module _ (done : ℕ → List TakenBatch) (s : State S) (t : Turn) (ts : List Turn) (h : Here done s (t ∷ ts)) where
      own : batches_in t.place (t ∷ ts) ≡ t.batch ∷ batches_in t.place ts
      own = rw (self_equal t.place) refl

      journal_here : k.journal t.place ≡ done t.place ++ t.batch ∷ batches_in t.place ts
      journal_here = h.split t.place ∙ ap (λ xs. done t.place ++ xs) own

      place : t.place < s.places
      place = elim (cases_lt t.place k.places) [
        | inl lt ↦ rw h.places lt
        | inr ge ↦
            let none : t.batch ∷ batches_in t.place ts ≡ [] = nil_right (done t.place) (t.batch ∷ batches_in t.place ts) (sym (legal.inside t.place ge) ∙ journal_here) in cc
      ]

      filled : t.batch.taken ≢ []
      filled =
          (all_right (λ b. b.taken ≢ []) (done t.place) (t.batch ∷ batches_in t.place ts)
          (subst (λ bs. AllByRecursion (λ b. b.taken ≢ []) bs) journal_here (legal.filled t.place))).0

      due : t.batch.stamp ≡ m.due (s.snapshot t.place) t.batch.taken
      due =
          let h2 = stamped_rest m (k.start t.place) (done t.place) (t.batch ∷ batches_in t.place ts) (subst (λ bs. AreStamped m (k.start t.place) bs) journal_here (legal.stamped t.place)) in
          rw (h.stands.snapshots t.place) h2.0

      stamped_left : (a : ℕ) → AreStamped m (s.snapshot a) (batches_in a (t ∷ ts))
      stamped_left a = rw (h.stands.snapshots a) (stamped_rest m (k.start a) (done a) (batches_in a (t ∷ ts)) (subst (λ bs. AreStamped m (k.start a) bs) (h.split a) (legal.stamped a)))

      -- no turn from here on has a lesser stamp
      no_less : AllByRecursion (λ u. t.batch.stamp ≤ u.batch.stamp) (t ∷ ts)
      no_less = let here : t.batch.stamp ≤ t.batch.stamp = omega arith in (here, all_map (ComesBefore t) (λ u. t.batch.stamp ≤ u.batch.stamp) (λ u c. not_less t u c) ts h.order.0)

      -- what it takes from a sender comes first of what waits and of what is still to be sent
      pair : (a : ℕ) → IsPrefix (from_place a t.batch.taken) (s.waiting a t.place ++ late done s (t ∷ ts) h a t.place)
      pair a =
          let p = left_pair done s (t ∷ ts) h a t.place in
          let first : List Taken = from_place a t.batch.taken in
          let rest : List Taken = from_place a (joined (batches_in t.place ts)) in
          let parts : from_place a (joined (batches_in t.place (t ∷ ts))) ≡ first ++ rest = ap (λ bs. from_place a (joined bs)) own ∙ from_append a t.batch.taken (joined (batches_in t.place ts)) in
          (rest ++ p.0, sym (append_assoc first rest p.0) ∙ ap (λ xs. xs ++ p.0) (sym parts) ∙ p.1)

      next_place : (a : ℕ) → ((outside == a) && (0 == t.place)) ≡ false → IsPrefix (from_place a t.batch.taken) (s.waiting a t.place)
      next_place a q =
          let p = pair a in
          let low : AllByRecursion (λ e. e.stamp < t.batch.stamp) t.batch.taken = rw due (has.taken (s.snapshot t.place) t.batch.taken) in
          let high : AllByRecursion (λ e. e.stamp < t.batch.stamp → ⊥) (sent m (s.snapshot a) (batches_in a (t ∷ ts)) t.place) =
          all_to (λ e. e.stamp < t.batch.stamp → ⊥) t.place (posted m (s.snapshot a) (batches_in a (t ∷ ts)))
          (late_posts t.batch.stamp (s.snapshot a) (batches_in a (t ∷ ts)) (stamped_left a) (late_turns t.batch.stamp a (t ∷ ts) no_less)) in
          let e : from_place a t.batch.taken ++ p.0 ≡ s.waiting a t.place ++ sent m (s.snapshot a) (batches_in a (t ∷ ts)) t.place = rw q at p.1 in
          within (λ e. e.stamp < t.batch.stamp) (from_place a t.batch.taken) p.0 (s.waiting a t.place) (sent m (s.snapshot a) (batches_in a (t ∷ ts)) t.place) e
          (all_from (λ e. e.stamp < t.batch.stamp) a t.batch.taken low) high

      -- from the outside a batch without a notice takes Start alone
      next_outside : (a : ℕ) → ((outside == a) && (0 == t.place)) ≡ true → holds_notice t.batch ≡ false → IsPrefix (from_place a t.batch.taken) (s.waiting a t.place)
      next_outside a q quiet =
          let p = pair a in
          let here : outside ≡ a = same_of outside a (and_left (outside == a) (0 == t.place) q) in
          let ra : batches_in a (t ∷ ts) ≡ [] = subst (λ x. batches_in x (t ∷ ts) ≡ []) here (left_none done s (t ∷ ts) h) in
          let rest : sent m (s.snapshot a) (batches_in a (t ∷ ts)) t.place ≡ [] = ap (λ bs. sent m (s.snapshot a) bs t.place) ra in
          let later : List Taken = joined (heard (batches_in 0 (t ∷ ts))) in
          let some : 0 < s.spoken = let n = h.spoken in omega arith in
          let e : from_place a t.batch.taken ++ p.0 ≡ s.waiting a t.place ++ (later ++ sent m (s.snapshot a) (batches_in a (t ∷ ts)) t.place) = rw q at p.1 in
          within (λ e. is_rest_notice e ≡ false) (from_place a t.batch.taken) p.0 (s.waiting a t.place) later
          (e ∙ ap (λ xs. s.waiting a t.place ++ xs) (ap (λ xs. later ++ xs) rest ∙ append-nil later))
          (all_from (λ e. is_rest_notice e ≡ false) a t.batch.taken (none_of is_rest_notice t.batch.taken quiet))
          (all_map (λ e. is_rest_notice e ≡ true) (λ e. is_rest_notice e ≡ false → ⊥) (λ e yes no. let wrong : true ≡ false = sym yes ∙ no in cc) later
          (heard_rest ticks k s.spoken some (heard (batches_in 0 (t ∷ ts))) h.notices))

      -- what the turn leaves of the order
      earlier_after : (p : ℕ) (c : Bool) → (p == t.place) ≡ c → AllByRecursion (λ b. AllByRecursion (ComesBefore (turn_at p b)) ts) (with_turn done t p)
      earlier_after p c q =
          let old : AllByRecursion (λ b. AllByRecursion (ComesBefore (turn_at p b)) ts) (done p) =
          all_map (λ b. AllByRecursion (ComesBefore (turn_at p b)) (t ∷ ts)) (λ b. AllByRecursion (ComesBefore (turn_at p b)) ts) (λ b x. x.1) (done p) (h.earlier p) in
          go c q old
        where
          go : (c : Bool) → (p == t.place) ≡ c → AllByRecursion (λ b. AllByRecursion (ComesBefore (turn_at p b)) ts) (done p) → AllByRecursion (λ b. AllByRecursion (ComesBefore (turn_at p b)) ts) (with_turn done t p)
          go true q old =
              let same : t.place ≡ p = sym (same_of p t.place q) in
              rw q (all_append (λ b. AllByRecursion (ComesBefore (turn_at p b)) ts) (done p) (t.batch ∷ []) old (subst (λ x. AllByRecursion (ComesBefore (turn_at x t.batch)) ts) same h.order.0, tt))
          go false q old = rw q old

      below_after : (p : ℕ) (c : Bool) → (p == t.place) ≡ c → AllByRecursion (λ b. b.stamp ≤ m.stamp_of ((take_batch m s t).snapshot p)) (with_turn done t p)
      below_after p true q =
          let same : t.place ≡ p = sym (same_of p t.place q) in
          let top : ℕ = m.stamp_of (m.play (s.snapshot p) t.batch.taken).0 in
          let now : top ≡ m.due (s.snapshot p) t.batch.taken = has.after (s.snapshot p) t.batch.taken in
          let rises : m.stamp_of (s.snapshot p) < m.due (s.snapshot p) t.batch.taken = has.rises (s.snapshot p) t.batch.taken in
          let stamp : t.batch.stamp ≡ m.due (s.snapshot p) t.batch.taken = subst (λ x. t.batch.stamp ≡ m.due (s.snapshot x) t.batch.taken) same due in
          let last : t.batch.stamp ≤ top = omega arith in
          rw q (all_append (λ b. b.stamp ≤ top) (done p) (t.batch ∷ [])
          (all_map (λ b. b.stamp ≤ m.stamp_of (s.snapshot p)) (λ b. b.stamp ≤ top) (λ b le. omega arith) (done p) (h.below p)) (last, tt))
      below_after p false q = rw q (h.below p)

      split_after : (p : ℕ) (c : Bool) → (p == t.place) ≡ c → k.journal p ≡ with_turn done t p ++ batches_in p ts
      split_after p true q =
          let e : k.journal p ≡ done p ++ t.batch ∷ batches_in p ts = rw q at (h.split p) in
          rw q (e ∙ sym (append_assoc (done p) (t.batch ∷ []) (batches_in p ts)))
      split_after p false q = let e : k.journal p ≡ done p ++ batches_in p ts = rw q at (h.split p) in rw q e

      -- ---- a turn without a notice

      module _ (quiet : ((0 == t.place) && holds_notice t.batch) ≡ false) where
        next_any : (a : ℕ) (c : Bool) → ((outside == a) && (0 == t.place)) ≡ c → IsPrefix (from_place a t.batch.taken) (s.waiting a t.place)
        next_any a false q = next_place a q
        next_any a true q =
            let here : (0 == t.place) ≡ true = and_right (outside == a) (0 == t.place) q in
            next_outside a q (rw here at quiet)

        pub may_take : MayTake m s t
        may_take = record { place = place; filled = filled; next = λ a. next_any a ((outside == a) && (0 == t.place)) refl; stamp = due }

        heard_now : (c : Bool) → (0 == t.place) ≡ c → heard (with_turn done t 0) ≡ heard (done 0)
        heard_now true q =
            let none : holds_notice t.batch ≡ false = rw q at quiet in
            rw q (heard_append (done 0) (t.batch ∷ []) ∙ ap (λ bs. heard (done 0) ++ bs) (rw none refl) ∙ append-nil (heard (done 0)))
        heard_now false q = rw q refl

        heard_later : (c : Bool) → (0 == t.place) ≡ c → heard (batches_in 0 (t ∷ ts)) ≡ heard (batches_in 0 ts)
        heard_later true q = let none : holds_notice t.batch ≡ false = rw q at quiet in rw (q, none) refl
        heard_later false q = rw q refl

        pub on_quiet : Here (with_turn done t) (take_batch m s t) ts
        on_quiet =
            let now : heard (with_turn done t 0) ≡ heard (done 0) = heard_now (0 == t.place) refl in
            let same : told (done 0) ≡ told (with_turn done t 0) = ap (λ bs. told [] ++ joined bs) (sym now) in
            record {
              split = λ p. split_after p (p == t.place) refl;
              stands = subst (λ given. Stands m k.start given (with_turn done t) (take_batch m s t)) same (take_stands m k.start (told (done 0)) done s t h.stands may_take.next);
              places = h.places;
              spoken = ap (λ bs. length bs + 1) now ∙ h.spoken;
              notices = subst (λ bs. AreNotices m ticks k s.spoken bs) (heard_later (0 == t.place) refl) h.notices;
              order = h.order.1;
              earlier = λ p. earlier_after p (p == t.place) refl;
              below = λ p. below_after p (p == t.place) refl;
            }

      -- ---- a turn with a notice

      module _ (loud : ((0 == t.place) && holds_notice t.batch) ≡ true) where
        at_zero : (0 == t.place) ≡ true
        at_zero = and_left (0 == t.place) (holds_notice t.batch) loud

        holds : holds_notice t.batch ≡ true
        holds = and_right (0 == t.place) (holds_notice t.batch) loud

        heard_first : heard (batches_in 0 (t ∷ ts)) ≡ t.batch ∷ heard (batches_in 0 ts)
        heard_first = rw (at_zero, holds) refl

        first_notice : AreNotices m ticks k s.spoken (t.batch ∷ heard (batches_in 0 ts))
        first_notice = subst (λ bs. AreNotices m ticks k s.spoken bs) heard_first h.notices

        one_less : (p : ℕ) (b : TakenBatch) → ComesBefore (turn_at p b) t → b.stamp ≤ m.stamp_of (s.snapshot p) → nat_lt b.stamp t.batch.stamp ≡ true
        one_less p b (inl lt) le = lt-ltb b.stamp t.batch.stamp lt
        one_less p b (inr same) le =
            let zero : 0 ≡ t.place = same_of 0 t.place at_zero in
            let low : p ≤ t.place = same.1 in
            let here : t.place ≡ p = omega arith in
            let stamp : t.batch.stamp ≡ m.due (s.snapshot p) t.batch.taken = subst (λ x. t.batch.stamp ≡ m.due (s.snapshot x) t.batch.taken) here due in
            let rises : m.stamp_of (s.snapshot p) < m.due (s.snapshot p) t.batch.taken = has.rises (s.snapshot p) t.batch.taken in
            lt-ltb b.stamp t.batch.stamp (omega arith)

        lesser : (p : ℕ) (bs : List TakenBatch) → AllByRecursion (λ b. AllByRecursion (ComesBefore (turn_at p b)) (t ∷ ts)) bs → AllByRecursion (λ b. b.stamp ≤ m.stamp_of (s.snapshot p)) bs → AllByRecursion (λ b. nat_lt b.stamp t.batch.stamp ≡ true) bs
        lesser p [] before low = tt
        lesser p (b ∷ bs) before low = (one_less p b before.0.0 low.0, lesser p bs before.1 low.1)

        no_lesser : (b : TakenBatch) → t.batch.stamp ≤ b.stamp → nat_lt b.stamp t.batch.stamp ≡ false
        no_lesser b le = grind (arith, nat_tests)

        -- the batches with lesser stamps are those that were taken
        before_is : (p : ℕ) → (before k t.batch.stamp).journal p ≡ done p
        before_is p =
            let test : TakenBatch → Bool = λ b. nat_lt b.stamp t.batch.stamp in
            let rest : List TakenBatch = batches_in p (t ∷ ts) in
            ap (filter test) (h.split p) ∙ filter-append test (done p) rest
            ∙ ap (λ bs. bs ++ filter test rest) (filter_all test (done p) (lesser p (done p) (h.earlier p) (h.below p)))
            ∙ ap (λ bs. done p ++ bs) (filter_none test rest (all_map (λ b. t.batch.stamp ≤ b.stamp) (λ b. test b ≡ false) no_lesser rest (late_turns t.batch.stamp p (t ∷ ts) no_less)))
            ∙ append-nil (done p)

        abbrev kept_done : Kept S
        kept_done = record { places = k.places; start = k.start; journal = done; cut = None }

        same_before : before k t.batch.stamp ≡ kept_done
        same_before = ap (λ (j : ℕ → List TakenBatch). record { places = k.places; start = k.start; journal = j; cut = None }) (fun_ext before_is)

        still : IsStill m k.places s.snapshot s.waiting
        still = still_of m k.start k.places None done s h.stands (subst (λ r. IsAtRest m r) same_before first_notice.0.rest)

        pub may_speak : MaySpeak m ticks s
        may_speak = record { number = first_notice.0.number; rest = rw h.places still }

        same_ends : ends m (before k t.batch.stamp) ≡ s.snapshot
        same_ends = ap (λ r. ends m r) same_before ∙ fun_ext (λ p. sym (h.stands.snapshots p))

        taken_is : t.batch.taken ≡ next_notice m ticks s ∷ []
        taken_is =
            first_notice.0.alone
            ∙ ap (λ (at : ℕ → S). outside_envelope ticks s.spoken (latest m k.places at) ∷ []) same_ends
            ∙ ap (λ (n : ℕ). outside_envelope ticks s.spoken (latest m n s.snapshot) ∷ []) (sym h.places)

        abbrev pub told_state : State S
        told_state = send_notice m ticks s

        next_is : (a : ℕ) (c : Bool) → (outside == a) ≡ c → from_place a (next_notice m ticks s ∷ []) ≡ when ((outside == a) && (0 == t.place)) (next_notice m ticks s ∷ [])
        next_is a true q = rw (q, at_zero) refl
        next_is a false q = rw q refl

        next_told : (a : ℕ) → IsPrefix (from_place a t.batch.taken) (told_state.waiting a t.place)
        next_told a = (
          [],
          append-nil (from_place a t.batch.taken) ∙ ap (from_place a) taken_is ∙ next_is a (outside == a) refl
              ∙ sym (ap (λ xs. xs ++ when ((outside == a) && (0 == t.place)) (next_notice m ticks s ∷ [])) (still.taken a t.place)),
        )

        pub may_take_notice : MayTake m told_state t
        may_take_notice = record { place = place; filled = filled; next = next_told; stamp = due }

        heard_more : heard (with_turn done t 0) ≡ heard (done 0) ++ t.batch ∷ []
        heard_more = rw at_zero (heard_append (done 0) (t.batch ∷ []) ∙ ap (λ bs. heard (done 0) ++ bs) (rw holds refl))

        told_more : told (done 0) ++ next_notice m ticks s ∷ [] ≡ told (with_turn done t 0)
        told_more =
            sym (ap (λ bs. told [] ++ joined bs) heard_more ∙ ap (λ es. told [] ++ es) (joined_one (heard (done 0)) t.batch) ∙ ap (λ es. told (done 0) ++ es) taken_is)

        pub on_loud : Here (with_turn done t) (take_batch m told_state t) ts
        on_loud = record {
          split = λ p. split_after p (p == t.place) refl;
          stands = subst (λ given. Stands m k.start given (with_turn done t) (take_batch m told_state t)) told_more
              (take_stands m k.start (told (done 0) ++ next_notice m ticks s ∷ []) done told_state t (notice_stands m k.start ticks (told (done 0)) done s h.stands (done_none done s (t ∷ ts) h)) next_told);
          places = h.places;
          spoken = let n = h.spoken in ap (λ bs. length bs + 1) heard_more ∙ ap (λ x. x + 1) (length-append (heard (done 0)) (t.batch ∷ []) ∙ n);
          notices = first_notice.1;
          order = h.order.1;
          earlier = λ p. earlier_after p (p == t.place) refl;
          below = λ p. below_after p (p == t.place) refl;
        }

    -- ---- all turns

    abbrev Result : State S → List Turn → Type 0
    Result s ts = IsRun m ticks s (steps_of ts) × (EndsAs m k (run m ticks s (steps_of ts)) × IsHeard k (run m ticks s (steps_of ts)))

    runs : (ts : List Turn) (done : ℕ → List TakenBatch) (s : State S) → Here done s ts → Result s ts
    runs [] done s h =
        let same : k.journal ≡ done = fun_ext (λ p. h.split p ∙ append-nil (done p)) in (
          tt,
          (
            subst (λ (j : ℕ → List TakenBatch). EndsAs m (record { places = k.places; start = k.start; journal = j; cut = k.cut }) s) (sym same) (ends_as m k.start k.places k.cut done s h.stands),
            ap (λ (j : ℕ → List TakenBatch). length (heard (j 0)) + 1) same ∙ h.spoken,
          ),
        )
    runs (t ∷ ts) done s h = go (λ done s h. runs ts done s h) ((0 == t.place) && holds_notice t.batch) refl
      where
        go : ((done : ℕ → List TakenBatch) (s : State S) → Here done s ts → Result s ts) → (c : Bool) → ((0 == t.place) && holds_notice t.batch) ≡ c → Result s (t ∷ ts)
        go on false q =
            let later = on (with_turn done t) (take_batch m s t) (on_quiet done s t ts h q) in
            rw q ((may_take done s t ts h q, later.0), later.1)
        go on true q =
            let later = on (with_turn done t) (take_batch m (send_notice m ticks s) t) (on_loud done s t ts h q) in
            rw q ((may_speak done s t ts h q, (may_take_notice done s t ts h q, later.0)), later.1)

    pub merge_runs : (ts : List Turn) → IsMerge k ts → Result (opening_state k.places k.start) ts
    merge_runs ts merge = runs ts (λ p. []) (opening_state k.places k.start) (record {
      split = λ p. sym (merge.parts p);
      stands = record { snapshots = λ p. refl; pairs = λ a b. sym (append-nil (when ((outside == a) && (0 == b)) (told []))) };
      places = refl;
      spoken = refl;
      notices = subst (λ bs. AreNotices m ticks k 1 (heard bs)) (sym (merge.parts 0)) legal.notices;
      order = merge.order;
      earlier = λ p. tt;
      below = λ p. tt;
    })

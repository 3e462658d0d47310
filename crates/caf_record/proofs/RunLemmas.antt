-- What the places take in a run is a legal record.
use Rattle.std.proofs.Common.{◌≡◌, ◌≢◌, ℕ, zero, suc, ◌+◌, ◌<◌, ◌≤◌, ◌==◌, ◌&&◌, nat_lt, Bool, true, false, List, [], ◌∷◌, ◌++◌, length, drop, filter, None, refl, ap, sym, ◌∙◌, subst, arith, append_assoc, length-append, inl, inr}
use Rattle.std.proofs.lemmas.Bool.{cases_lt, lt-ltb}
use Rattle.std.proofs.lemmas.Bool.Decides.{nat_tests}
use Rattle.std.proofs.lemmas.List.Elements.{filter-append}
use Rattle.std.proofs.Math.Path.{fun_ext}
use Rattle.std.specs.List.{AllByRecursion, list_any}
use Rattle.caf_message.specs.declared.envelope.Taken.{Taken}
use Rattle.caf_message.specs.Envelope.{outside}
use Rattle.caf_actor.specs.declared.journal.TakenBatch.{TakenBatch}
use Rattle.caf_actor.specs.PlainPost.{PlainPost}
use Rattle.caf_actor.specs.Record.{Machine, IsPrefix, from_place, to_place, joined, after, AreStamped, latest, IsStill, Kept, ends, before, when, holds_notice, heard, told, IsAtRest, IsNotice, AreNotices, IsLegal, cut_in}
use Rattle.caf_actor.specs.Run.{Turn, without, State, opening_state, Step, Take, Speak, MayTake, MaySpeak, take_batch, next_notice, send_notice, IsRun, run, EndsAs, IsHeard, batches_of}
use Rattle.caf_message.specs.Outside.{outside_envelope, is_rest_notice}
use Rattle.caf_record.proofs.ListLemmas.{self_equal, same_of, and_left, and_right, nil_left, nil_right, all_left, all_map, all_drop, any_none, filter_all}
use Rattle.std.proofs.lemmas.List.{append-nil}
use Rattle.caf_mailbox.proofs.NextLemmas.{all_append, all_filter}
use Rattle.caf_record.proofs.BatchLemmas.{all_to, heard_append, joined_one, stamped_append}
use Rattle.caf_record.proofs.StandsLemmas.{with_turn, HasStamps, Stands, take_stands, notice_stands, ends_as, rest_of}

-- ---- small facts

no_lesser : (low : ℕ) (b : TakenBatch) → low ≤ b.stamp → nat_lt b.stamp low ≡ false
no_lesser low b le = grind (arith, nat_tests)

not_same : (p q : ℕ) → p < q → (q == p) ≡ false
not_same p q h = grind (arith, nat_tests)

-- a batch that has no notice from the outside has none
all_quiet : (es : List Taken) → AllByRecursion (λ e. is_rest_notice e ≡ false) (from_place outside es) → AllByRecursion (λ e. is_rest_notice e ≡ false) es
all_quiet [] h = tt
all_quiet (e ∷ es) h = go (e.sender == outside) refl (all_quiet es)
  where
    go : (b : Bool) → (e.sender == outside) ≡ b → (AllByRecursion (λ e. is_rest_notice e ≡ false) (from_place outside es) → AllByRecursion (λ e. is_rest_notice e ≡ false) es) → AllByRecursion (λ e. is_rest_notice e ≡ false) (e ∷ es)
    go true q on = let k : AllByRecursion (λ e. is_rest_notice e ≡ false) (e ∷ from_place outside es) = rw q at h in (k.0, on k.1)
    go false q on = let k : AllByRecursion (λ e. is_rest_notice e ≡ false) (from_place outside es) = rw q at h in (rw q refl, on k)

pub from_own : (x : Taken) (xs : List Taken) → from_place x.sender (x ∷ xs) ≡ x ∷ from_place x.sender xs
from_own x xs = rw (self_equal x.sender) refl

-- what is from a sender isn't nothing where there is such an envelope
from_second : (x y : Taken) (ys : List Taken) → from_place y.sender (x ∷ y ∷ ys) ≡ [] → ⊥
from_second x y ys e = go (x.sender == y.sender) refl
  where
    go : (b : Bool) → (x.sender == y.sender) ≡ b → ⊥
    go true q = let k : x ∷ from_place y.sender (y ∷ ys) ≡ [] = rw q at e in cc
    go false q =
        let k : from_place y.sender (y ∷ ys) ≡ [] = rw q at e in
        let l : y ∷ from_place y.sender ys ≡ [] = sym (from_own y ys) ∙ k in cc

-- where one envelope of the outside waits alone, a batch is that envelope at place 0
module _ (place : ℕ) (e : Taken) where
  abbrev alone : ℕ → List Taken
  alone a = when ((outside == a) && (0 == place)) (e ∷ [])

  is_only : (es : List Taken) → es ≢ [] → ((a : ℕ) → IsPrefix (from_place a es) (alone a)) → ((0 == place) ≡ true) × (es ≡ e ∷ [])
  is_only [] some next = absurd (some refl)
  is_only (x ∷ xs) some next = go ((outside == x.sender) && (0 == place)) refl
    where
      first : x ∷ (from_place x.sender xs ++ (next x.sender).0) ≡ alone x.sender
      first = ap (λ es. es ++ (next x.sender).0) (sym (from_own x xs)) ∙ (next x.sender).1

      others : (xs : List Taken) → ((a : ℕ) → IsPrefix (from_place a (x ∷ xs)) (alone a)) → (outside == x.sender) ≡ true → from_place x.sender xs ≡ [] → xs ≡ []
      others [] next q none = refl
      others (y ∷ ys) next q none = second ((outside == y.sender) && (0 == place)) refl
        where
          second : (c : Bool) → ((outside == y.sender) && (0 == place)) ≡ c → y ∷ ys ≡ []
          second true r =
              let here : outside ≡ x.sender = same_of outside x.sender q in
              let there : outside ≡ y.sender = same_of outside y.sender (and_left (outside == y.sender) (0 == place) r) in
              let gone : from_place y.sender (y ∷ ys) ≡ [] = subst (λ a. from_place a (y ∷ ys) ≡ []) (sym here ∙ there) none in
              let wrong : y ∷ from_place y.sender ys ≡ [] = sym (from_own y ys) ∙ gone in cc
          second false r =
              let p = next y.sender in
              let none : from_place y.sender (x ∷ y ∷ ys) ++ p.0 ≡ [] = rw r at p.1 in
              absurd (from_second x y ys (nil_left (from_place y.sender (x ∷ y ∷ ys)) p.0 (sym none)))

      go : (c : Bool) → ((outside == x.sender) && (0 == place)) ≡ c → ((0 == place) ≡ true) × ((x ∷ xs) ≡ e ∷ [])
      go false q = let wrong : x ∷ (from_place x.sender xs ++ (next x.sender).0) ≡ [] = rw q at first in cc
      go true q =
          let both : x ∷ (from_place x.sender xs ++ (next x.sender).0) ≡ e ∷ [] = rw q at first in
          let same : x ≡ e = cc in
          let rest : from_place x.sender xs ++ (next x.sender).0 ≡ [] = cc in
          let none : xs ≡ [] = others xs next (and_left (outside == x.sender) (0 == place) q) (nil_left (from_place x.sender xs) (next x.sender).0 (sym rest)) in
          (and_right (outside == x.sender) (0 == place) q, rw (same, none) refl)

-- ---- runs

module _ {S : Type 0} (m : Machine S) (has : HasStamps m) where
  latest_most : (n : ℕ) (at : ℕ → S) (p : ℕ) → p < n → m.stamp_of (at p) ≤ latest m n at
  latest_most zero at p lt = absurd (omega arith)
  latest_most (suc n) at p lt = elim (cases_lt p n) [ inl less ↦ (let h = latest_most n at p less in omega arith) | inr ge ↦ (let same : p ≡ n = omega arith in rw same (omega arith)) ]

  stamps_from : (low due : ℕ) → low ≤ due → (ps : List PlainPost) → AllByRecursion (λ p. p.envelope.stamp ≡ due) ps → AllByRecursion (λ p. low ≤ p.envelope.stamp) ps
  stamps_from low due h [] k = tt
  stamps_from low due h (p ∷ ps) k = let e = k.0 in (omega arith, stamps_from low due h ps k.1)

  module _ (ticks places : ℕ) (start : ℕ → S) (small : places ≤ outside) where
    abbrev kept : (ℕ → List TakenBatch) → Kept S
    kept done = record { places = places; start = start; journal = done; cut = cut_in (done 0) }

    -- all that the outside has sent was taken in these batches; what waits has no lesser stamp than the last notice
    pub record Heard (done : ℕ → List TakenBatch) (s : State S) : Type 0 where
      pub places_are : s.places ≡ places
      pub legal : IsLegal m ticks (kept done)
      pub below : (p : ℕ) → AllByRecursion (λ b. b.stamp ≤ m.stamp_of (s.snapshot p)) (done p)
      pub stands : Stands m start (told (done 0)) done s
      pub spoken : length (heard (done 0)) + 1 ≡ s.spoken
      pub quiet : AllByRecursion (λ e. is_rest_notice e ≡ false) (s.waiting outside 0)
      pub floor : ℕ
      pub reached : AllByRecursion (λ b. b.stamp ≤ floor) (heard (done 0))
      pub high : (a b : ℕ) → AllByRecursion (λ e. floor ≤ e.stamp) (s.waiting a b)

    -- ---- what any turn keeps

    module _ (given : List Taken) (done : ℕ → List TakenBatch) (s : State S) (t : Turn) (stands : Stands m start given done s) (may : MayTake m s t) (here : s.places ≡ places) (legal : IsLegal m ticks (kept done)) where
      is_place : t.place < places
      is_place = rw (← here) may.place

      inside_after : (p : ℕ) → places ≤ p → with_turn done t p ≡ []
      inside_after p le = let no : (p == t.place) ≡ false = not_same t.place p (let h = is_place in omega arith) in rw no (legal.inside p le)

      filled_after : (p : ℕ) (c : Bool) → (p == t.place) ≡ c → AllByRecursion (λ b. b.taken ≢ []) (with_turn done t p)
      filled_after p true q = rw q (all_append (λ b. b.taken ≢ []) (done p) (t.batch ∷ []) (legal.filled p) (may.filled, tt))
      filled_after p false q = rw q (legal.filled p)

      due_at : (p : ℕ) → (p == t.place) ≡ true → t.batch.stamp ≡ m.due (s.snapshot p) t.batch.taken
      due_at p q = subst (λ x. t.batch.stamp ≡ m.due (s.snapshot x) t.batch.taken) (sym (same_of p t.place q)) may.stamp

      stamped_after : (p : ℕ) (c : Bool) → (p == t.place) ≡ c → AreStamped m (start p) (with_turn done t p)
      stamped_after p true q =
          let due : t.batch.stamp ≡ m.due (after m (start p) (done p)) t.batch.taken = due_at p q ∙ ap (λ x. m.due x t.batch.taken) (stands.snapshots p) in
          rw q (stamped_append m (start p) (done p) (t.batch ∷ []) (legal.stamped p) (due, tt))
      stamped_after p false q = rw q (legal.stamped p)

      below_after : ((p : ℕ) → AllByRecursion (λ b. b.stamp ≤ m.stamp_of (s.snapshot p)) (done p)) → (p : ℕ) (c : Bool) → (p == t.place) ≡ c → AllByRecursion (λ b. b.stamp ≤ m.stamp_of ((take_batch m s t).snapshot p)) (with_turn done t p)
      below_after below p true q =
          let top : ℕ = m.stamp_of (m.play (s.snapshot p) t.batch.taken).0 in
          let now : top ≡ m.due (s.snapshot p) t.batch.taken = has.after (s.snapshot p) t.batch.taken in
          let rises : m.stamp_of (s.snapshot p) < m.due (s.snapshot p) t.batch.taken = has.rises (s.snapshot p) t.batch.taken in
          let stamp = due_at p q in
          let last : t.batch.stamp ≤ top = omega arith in
          rw q (all_append (λ b. b.stamp ≤ top) (done p) (t.batch ∷ [])
          (all_map (λ b. b.stamp ≤ m.stamp_of (s.snapshot p)) (λ b. b.stamp ≤ top) (λ b le. omega arith) (done p) (below p)) (last, tt))
      below_after below p false q = rw q (below p)

      -- no batch with a stamp up to the turn's sees the turn
      before_after : (stamp : ℕ) → stamp ≤ t.batch.stamp → before (kept (with_turn done t)) stamp ≡ before (kept done) stamp
      before_after stamp le =
          ap (λ (j : ℕ → List TakenBatch). record { places = places; start = start; journal = j; cut = None }) (fun_ext (λ p. go p (p == t.place) refl))
        where
          go : (p : ℕ) (c : Bool) → (p == t.place) ≡ c → filter (λ b. nat_lt b.stamp stamp) (with_turn done t p) ≡ filter (λ b. nat_lt b.stamp stamp) (done p)
          go p true q =
              let no : nat_lt t.batch.stamp stamp ≡ false = no_lesser stamp t.batch le in
              rw q (filter-append (λ b. nat_lt b.stamp stamp) (done p) (t.batch ∷ []) ∙ ap (λ bs. filter (λ b. nat_lt b.stamp stamp) (done p) ++ bs) (rw no refl) ∙ append-nil (filter (λ b. nat_lt b.stamp stamp) (done p)))
          go p false q = rw q refl

      notices_after : (n : ℕ) (bs : List TakenBatch) → AllByRecursion (λ b. b.stamp ≤ t.batch.stamp) bs → AreNotices m ticks (kept done) n bs → AreNotices m ticks (kept (with_turn done t)) n bs
      notices_after n [] low h = tt
      notices_after n (b ∷ bs) low h =
          let same = sym (before_after b.stamp low.0) in (
            record {
              number = h.0.number;
              alone = subst (λ (r : Kept S). b.taken ≡ outside_envelope ticks n (latest m places (ends m r)) ∷ []) same h.0.alone;
              rest = subst (λ (r : Kept S). IsAtRest m r) same h.0.rest;
            },
            notices_after (n + 1) bs low.1 h.1,
          )

      -- what it posts has its stamp
      posts_high : (low a b : ℕ) → low ≤ t.batch.stamp → AllByRecursion (λ e. low ≤ e.stamp) (when (a == t.place) (to_place b (m.play (s.snapshot a) t.batch.taken).1))
      posts_high low a b le = go (a == t.place) refl
        where
          go : (c : Bool) → (a == t.place) ≡ c → AllByRecursion (λ e. low ≤ e.stamp) (when (a == t.place) (to_place b (m.play (s.snapshot a) t.batch.taken).1))
          go true q =
              let stamp = due_at a q in
              let due : low ≤ m.due (s.snapshot a) t.batch.taken = omega arith in
              rw q (all_to (λ e. low ≤ e.stamp) b (m.play (s.snapshot a) t.batch.taken).1 (stamps_from low (m.due (s.snapshot a) t.batch.taken) due (m.play (s.snapshot a) t.batch.taken).1 (has.posts (s.snapshot a) t.batch.taken)))
          go false q = rw q tt

      outside_posts : (outside == t.place) ≡ false
      outside_posts = not_same t.place outside (let h = is_place in omega arith)

    -- ---- a turn where nothing of the outside waits but Start

    module _ (done : ℕ → List TakenBatch) (s : State S) (t : Turn) (h : Heard done s) (may : MayTake m s t) where
      past_of : (es : List Taken) → es ≢ [] → ((a : ℕ) → IsPrefix (from_place a es) (s.waiting a t.place)) → h.floor < m.due (s.snapshot t.place) es
      past_of [] some next = absurd (some refl)
      past_of (e ∷ es) some next =
          let p = next e.sender in
          let parts : (e ∷ from_place e.sender es) ++ p.0 ≡ s.waiting e.sender t.place = ap (λ xs. xs ++ p.0) (sym (from_own e es)) ∙ p.1 in
          let all = subst (λ xs. AllByRecursion (λ e. h.floor ≤ e.stamp) xs) (sym parts) (h.high e.sender t.place) in
          let low : h.floor ≤ e.stamp = all.0 in
          let less : e.stamp < m.due (s.snapshot t.place) (e ∷ es) = (has.taken (s.snapshot t.place) (e ∷ es)).0 in
          omega arith

      past : h.floor < t.batch.stamp
      past = rw may.stamp (past_of t.batch.taken may.filled may.next)

      no_notice : (0 == t.place) ≡ true → holds_notice t.batch ≡ false
      no_notice q =
          let here : t.place ≡ 0 = sym (same_of 0 t.place q) in
          let p : IsPrefix (from_place outside t.batch.taken) (s.waiting outside 0) = subst (λ x. IsPrefix (from_place outside t.batch.taken) (s.waiting outside x)) here (may.next outside) in
          let all = subst (λ xs. AllByRecursion (λ e. is_rest_notice e ≡ false) xs) (sym p.1) h.quiet in
          any_none is_rest_notice t.batch.taken (all_quiet t.batch.taken (all_left (λ e. is_rest_notice e ≡ false) (from_place outside t.batch.taken) p.0 all))

      heard_same : (c : Bool) → (0 == t.place) ≡ c → heard (with_turn done t 0) ≡ heard (done 0)
      heard_same true q = rw q (heard_append (done 0) (t.batch ∷ []) ∙ ap (λ bs. heard (done 0) ++ bs) (rw (no_notice q) refl) ∙ append-nil (heard (done 0)))
      heard_same false q = rw q refl

      same : heard (done 0) ≡ heard (with_turn done t 0)
      same = sym (heard_same (0 == t.place) refl)

      stands_on : Stands m start (told (with_turn done t 0)) (with_turn done t) (take_batch m s t)
      stands_on =
          subst (λ given. Stands m start given (with_turn done t) (take_batch m s t)) (ap (λ bs. told [] ++ joined bs) same) (take_stands m start (told (done 0)) done s t h.stands may.next)

      left_all : (P : Taken → Type 0) (a b : ℕ) → AllByRecursion P (s.waiting a b) → AllByRecursion P (without (b == t.place) (from_place a t.batch.taken) (s.waiting a b))
      left_all P a b all = go (b == t.place)
        where
          go : (c : Bool) → AllByRecursion P (without c (from_place a t.batch.taken) (s.waiting a b))
          go true = all_drop P (length (from_place a t.batch.taken)) (s.waiting a b) all
          go false = all

      legal_on : IsLegal m ticks (kept (with_turn done t))
      legal_on =
          let le : h.floor ≤ t.batch.stamp = (let p = past in omega arith) in
          record {
            places = small;
            inside = inside_after (told (done 0)) done s t h.stands may h.places_are h.legal;
            filled = λ p. filled_after (told (done 0)) done s t h.stands may h.places_are h.legal p (p == t.place) refl;
            stamped = λ p. stamped_after (told (done 0)) done s t h.stands may h.places_are h.legal p (p == t.place) refl;
            pairs = λ a b. ((take_batch m s t).waiting a b, stands_on.pairs a b);
            notices = subst (λ bs. AreNotices m ticks (kept (with_turn done t)) 1 bs) same
                (notices_after (told (done 0)) done s t h.stands may h.places_are h.legal 1 (heard (done 0))
                (all_map (λ b. b.stamp ≤ h.floor) (λ b. b.stamp ≤ t.batch.stamp) (λ b low. omega arith) (heard (done 0)) h.reached) h.legal.notices);
            cut = refl;
          }

      pub on_take : Heard (with_turn done t) (take_batch m s t)
      on_take =
          let le : h.floor ≤ t.batch.stamp = (let p = past in omega arith) in
          record {
            places_are = h.places_are;
            legal = legal_on;
            below = λ p. below_after (told (done 0)) done s t h.stands may h.places_are h.legal h.below p (p == t.place) refl;
            stands = stands_on;
            spoken = ap (λ bs. length bs + 1) (sym same) ∙ h.spoken;
            quiet =
                let no = outside_posts (told (done 0)) done s t h.stands may h.places_are h.legal in
                all_append (λ e. is_rest_notice e ≡ false) (without (0 == t.place) (from_place outside t.batch.taken) (s.waiting outside 0)) (when (outside == t.place) (to_place 0 (m.play (s.snapshot outside) t.batch.taken).1))
                (left_all (λ e. is_rest_notice e ≡ false) outside 0 h.quiet) (rw no tt);
            floor = h.floor;
            reached = subst (λ bs. AllByRecursion (λ b. b.stamp ≤ h.floor) bs) same h.reached;
            high = λ a b.
                all_append (λ e. h.floor ≤ e.stamp) (without (b == t.place) (from_place a t.batch.taken) (s.waiting a b)) (when (a == t.place) (to_place b (m.play (s.snapshot a) t.batch.taken).1))
                (left_all (λ e. h.floor ≤ e.stamp) a b (h.high a b)) (posts_high (told (done 0)) done s t h.stands may h.places_are h.legal h.floor a b le);
          }

    -- ---- the outside sends a notice, and a turn comes after it

    notices_append : (k : Kept S) (n : ℕ) (bs : List TakenBatch) (b : TakenBatch) → AreNotices m ticks k n bs → IsNotice m ticks k (n + length bs) b → AreNotices m ticks k n (bs ++ b ∷ [])
    notices_append k n [] b h is = let same : n + 0 ≡ n = omega arith in (subst (λ x. IsNotice m ticks k x b) same is, tt)
    notices_append k n (c ∷ bs) b h is =
        let same : n + suc (length bs) ≡ (n + 1) + length bs = omega arith in
        (h.0, notices_append k (n + 1) bs b h.1 (subst (λ x. IsNotice m ticks k x b) same is))

    drop_none : (n : ℕ) → drop {A = Taken} n [] ≡ []
    drop_none zero = refl
    drop_none (suc n) = refl

    module _ (done : ℕ → List TakenBatch) (s : State S) (t : Turn) (h : Heard done s) (say : MaySpeak m ticks s) (may : MayTake m (send_notice m ticks s) t) where
      abbrev spoken_state : State S
      spoken_state = send_notice m ticks s

      abbrev notice : Taken
      notice = next_notice m ticks s

      -- the notice alone waits, and the turn takes it
      waits : (a b : ℕ) → spoken_state.waiting a b ≡ when ((outside == a) && (0 == b)) (notice ∷ [])
      waits a b = ap (λ xs. xs ++ when ((outside == a) && (0 == b)) (notice ∷ [])) (say.rest.taken a b)

      only : ((0 == t.place) ≡ true) × (t.batch.taken ≡ notice ∷ [])
      only = is_only t.place notice t.batch.taken may.filled (λ a. subst (λ w. IsPrefix (from_place a t.batch.taken) w) (waits a t.place) (may.next a))

      left_none : (a b : ℕ) → without (b == t.place) (from_place a t.batch.taken) (spoken_state.waiting a b) ≡ []
      left_none a b = go ((outside == a) && (0 == b)) refl
        where
          nothing : (c : Bool) → spoken_state.waiting a b ≡ [] → without c (from_place a t.batch.taken) (spoken_state.waiting a b) ≡ []
          nothing true w = ap (drop (length (from_place a t.batch.taken))) w ∙ drop_none (length (from_place a t.batch.taken))
          nothing false w = w

          go : (c : Bool) → ((outside == a) && (0 == b)) ≡ c → without (b == t.place) (from_place a t.batch.taken) (spoken_state.waiting a b) ≡ []
          go false q = nothing (b == t.place) (waits a b ∙ ap (λ c. when c (notice ∷ [])) q)
          go true q =
              let zero_b : 0 ≡ b = same_of 0 b (and_right (outside == a) (0 == b) q) in
              let here : (b == t.place) ≡ true = subst (λ x. (x == t.place) ≡ true) zero_b only.0 in
              let from : (outside == a) ≡ true = and_left (outside == a) (0 == b) q in
              let one : from_place a t.batch.taken ≡ notice ∷ [] = ap (from_place a) only.1 ∙ rw from refl in
              let all : spoken_state.waiting a b ≡ notice ∷ [] = waits a b ∙ ap (λ c. when c (notice ∷ [])) q in
              rw here (ap (λ es. drop (length es) (spoken_state.waiting a b)) one ∙ ap (drop 1) all)

      -- the turn's stamp is greater than all before it
      latest_less : latest m s.places s.snapshot < t.batch.stamp
      latest_less =
          let all : AllByRecursion (λ e. e.stamp < m.due (s.snapshot t.place) t.batch.taken) (notice ∷ []) =
          subst (λ es. AllByRecursion (λ e. e.stamp < m.due (s.snapshot t.place) t.batch.taken) es) only.1 (has.taken (s.snapshot t.place) t.batch.taken) in
          let less : latest m s.places s.snapshot < m.due (s.snapshot t.place) t.batch.taken = all.0 in
          let stamp : t.batch.stamp ≡ m.due (s.snapshot t.place) t.batch.taken = may.stamp in
          omega arith

      done_less : (p : ℕ) → AllByRecursion (λ b. b.stamp < t.batch.stamp) (done p)
      done_less p = elim (cases_lt p places) [ inl lt ↦ within_places lt | inr ge ↦ subst (λ bs. AllByRecursion (λ b. b.stamp < t.batch.stamp) bs) (sym (h.legal.inside p ge)) tt ]
        where
          within_places : p < places → AllByRecursion (λ b. b.stamp < t.batch.stamp) (done p)
          within_places lt =
              let less = latest_less in
              let most : m.stamp_of (s.snapshot p) ≤ latest m s.places s.snapshot = latest_most s.places s.snapshot p (rw h.places_are lt) in
              all_map (λ b. b.stamp ≤ m.stamp_of (s.snapshot p)) (λ b. b.stamp < t.batch.stamp) (λ b le. omega arith) (done p) (h.below p)

      stands_spoken : Stands m start (told (done 0) ++ notice ∷ []) done spoken_state
      stands_spoken = notice_stands m start ticks (told (done 0)) done s h.stands (h.legal.inside outside small)

      -- the record before it is that of the batches before it, at rest
      abbrev kept_done : Kept S
      kept_done = record { places = places; start = start; journal = done; cut = None }

      same_stamp : t.batch.stamp ≤ t.batch.stamp
      same_stamp = omega arith

      before_now : before (kept (with_turn done t)) t.batch.stamp ≡ kept_done
      before_now =
          before_after (told (done 0) ++ notice ∷ []) done spoken_state t stands_spoken may h.places_are h.legal t.batch.stamp same_stamp
          ∙ ap (λ (j : ℕ → List TakenBatch). record { places = places; start = start; journal = j; cut = None })
          (fun_ext (λ p. filter_all (λ b. nat_lt b.stamp t.batch.stamp) (done p) (all_map (λ b. b.stamp < t.batch.stamp) (λ b. nat_lt b.stamp t.batch.stamp ≡ true) (λ b lt. lt-ltb b.stamp t.batch.stamp lt) (done p) (done_less p))))

      rest_now : IsAtRest m kept_done
      rest_now = rest_of m start places None done s h.stands (subst (λ n. IsStill m n s.snapshot s.waiting) h.places_are say.rest)

      this_notice : IsNotice m ticks (kept (with_turn done t)) s.spoken t.batch
      this_notice = record {
        number = say.number;
        alone = only.1
            ∙ ap (λ (n : ℕ). outside_envelope ticks s.spoken (latest m n s.snapshot) ∷ []) h.places_are
            ∙ ap (λ (at : ℕ → S). outside_envelope ticks s.spoken (latest m places at) ∷ []) (fun_ext h.stands.snapshots)
            ∙ ap (λ (r : Kept S). outside_envelope ticks s.spoken (latest m places (ends m r)) ∷ []) (sym before_now);
        rest = subst (λ (r : Kept S). IsAtRest m r) (sym before_now) rest_now;
      }

      holds : holds_notice t.batch ≡ true
      holds =
          let some : 0 < s.spoken = (let n = h.spoken in omega arith) in
          let is : is_rest_notice notice ≡ true = lt-ltb 0 s.spoken some in
          ap (list_any is_rest_notice) only.1 ∙ rw is refl

      heard_more : heard (with_turn done t 0) ≡ heard (done 0) ++ t.batch ∷ []
      heard_more = rw only.0 (heard_append (done 0) (t.batch ∷ []) ∙ ap (λ bs. heard (done 0) ++ bs) (rw holds refl))

      told_more : told (done 0) ++ notice ∷ [] ≡ told (with_turn done t 0)
      told_more =
          sym (ap (λ bs. told [] ++ joined bs) heard_more ∙ ap (λ es. told [] ++ es) (joined_one (heard (done 0)) t.batch) ∙ ap (λ es. told (done 0) ++ es) only.1)

      stands_notice : Stands m start (told (with_turn done t 0)) (with_turn done t) (take_batch m spoken_state t)
      stands_notice =
          subst (λ given. Stands m start given (with_turn done t) (take_batch m spoken_state t)) told_more
          (take_stands m start (told (done 0) ++ notice ∷ []) done spoken_state t stands_spoken may.next)

      reached_now : AllByRecursion (λ b. b.stamp ≤ t.batch.stamp) (heard (done 0))
      reached_now =
          all_filter holds_notice (λ b. b.stamp ≤ t.batch.stamp) (done 0)
          (all_map (λ b. b.stamp < t.batch.stamp) (λ b. b.stamp ≤ t.batch.stamp) (λ b lt. omega arith) (done 0) (done_less 0))

      legal_notice : IsLegal m ticks (kept (with_turn done t))
      legal_notice =
          let given : List Taken = told (done 0) ++ notice ∷ [] in
          let number : s.spoken ≡ 1 + length (heard (done 0)) = (let n = h.spoken in omega arith) in
          record {
            places = small;
            inside = inside_after given done spoken_state t stands_spoken may h.places_are h.legal;
            filled = λ p. filled_after given done spoken_state t stands_spoken may h.places_are h.legal p (p == t.place) refl;
            stamped = λ p. stamped_after given done spoken_state t stands_spoken may h.places_are h.legal p (p == t.place) refl;
            pairs = λ a b. ((take_batch m spoken_state t).waiting a b, stands_notice.pairs a b);
            notices = subst (λ bs. AreNotices m ticks (kept (with_turn done t)) 1 bs) (sym heard_more)
                (notices_append (kept (with_turn done t)) 1 (heard (done 0)) t.batch
                (notices_after given done spoken_state t stands_spoken may h.places_are h.legal 1 (heard (done 0)) reached_now h.legal.notices)
                (subst (λ n. IsNotice m ticks (kept (with_turn done t)) n t.batch) number this_notice));
            cut = refl;
          }

      pub on_notice : Heard (with_turn done t) (take_batch m spoken_state t)
      on_notice =
          let given : List Taken = told (done 0) ++ notice ∷ [] in
          record {
            places_are = h.places_are;
            legal = legal_notice;
            below = λ p. below_after given done spoken_state t stands_spoken may h.places_are h.legal h.below p (p == t.place) refl;
            stands = stands_notice;
            spoken = let n = h.spoken in ap (λ bs. length bs + 1) heard_more ∙ ap (λ x. x + 1) (length-append (heard (done 0)) (t.batch ∷ []) ∙ n);
            quiet =
                let no = outside_posts given done spoken_state t stands_spoken may h.places_are h.legal in
                all_append (λ e. is_rest_notice e ≡ false) (without (0 == t.place) (from_place outside t.batch.taken) (spoken_state.waiting outside 0)) (when (outside == t.place) (to_place 0 (m.play (s.snapshot outside) t.batch.taken).1))
                (subst (λ es. AllByRecursion (λ e. is_rest_notice e ≡ false) es) (sym (left_none outside 0)) tt) (rw no tt);
            floor = t.batch.stamp;
            reached = subst (λ bs. AllByRecursion (λ b. b.stamp ≤ t.batch.stamp) bs) (sym heard_more)
                (all_append (λ b. b.stamp ≤ t.batch.stamp) (heard (done 0)) (t.batch ∷ []) reached_now (same_stamp, tt));
            high = λ a b.
                all_append (λ e. t.batch.stamp ≤ e.stamp) (without (b == t.place) (from_place a t.batch.taken) (spoken_state.waiting a b)) (when (a == t.place) (to_place b (m.play (s.snapshot a) t.batch.taken).1))
                (subst (λ es. AllByRecursion (λ e. t.batch.stamp ≤ e.stamp) es) (sym (left_none a b)) tt)
                (posts_high given done spoken_state t stands_spoken may h.places_are h.legal t.batch.stamp a b same_stamp);
          }

    -- ---- all steps

    abbrev Final : (ℕ → List TakenBatch) → State S → Type 0
    Final journal s = IsLegal m ticks (kept journal) × (IsHeard (kept journal) s → EndsAs m (kept journal) s)

    more : (done : ℕ → List TakenBatch) (t : Turn) (steps : List Step) → ◌≡◌ {A = ℕ → List TakenBatch} (λ p. with_turn done t p ++ batches_of p steps) (λ p. done p ++ batches_of p (Take t ∷ steps))
    more done t steps = fun_ext (λ p. go p (p == t.place) refl)
      where
        go : (p : ℕ) (c : Bool) → (p == t.place) ≡ c → with_turn done t p ++ batches_of p steps ≡ done p ++ batches_of p (Take t ∷ steps)
        go p true q = rw q (append_assoc (done p) (t.batch ∷ []) (batches_of p steps))
        go p false q = rw q refl

    legal_runs : (steps : List Step) (done : ℕ → List TakenBatch) (s : State S) → Heard done s → IsRun m ticks s steps → Final (λ p. done p ++ batches_of p steps) (run m ticks s steps)
    legal_runs [] done s h r =
        subst (λ (j : ℕ → List TakenBatch). Final j s) (sym (fun_ext (λ p. append-nil (done p)))) (h.legal, λ heard. ends_as m start places (cut_in (done 0)) done s h.stands)
    legal_runs (Take t ∷ steps) done s h r =
        subst (λ (j : ℕ → List TakenBatch). Final j (run m ticks (take_batch m s t) steps)) (more done t steps) (legal_runs steps (with_turn done t) (take_batch m s t) (on_take done s t h r.0) r.1)
    legal_runs (Speak ∷ []) done s h r =
        subst (λ (j : ℕ → List TakenBatch). Final j (send_notice m ticks s)) (sym (fun_ext (λ p. append-nil (done p)))) (h.legal, λ heard. let n = h.spoken in absurd (omega arith))
    legal_runs (Speak ∷ Speak ∷ steps) done s h r =
        let none : [] ≡ s.waiting outside 0 ++ next_notice m ticks s ∷ [] = sym (r.1.0.rest.taken outside 0) in
        let wrong : next_notice m ticks s ∷ [] ≡ [] = nil_right (s.waiting outside 0) (next_notice m ticks s ∷ []) none in cc
    legal_runs (Speak ∷ Take t ∷ steps) done s h r =
        subst (λ (j : ℕ → List TakenBatch). Final j (run m ticks (take_batch m (send_notice m ticks s) t) steps)) (more done t steps)
        (legal_runs steps (with_turn done t) (take_batch m (send_notice m ticks s) t) (on_notice done s t h r.0 r.1.0) r.1.1)

    any_stamp : (es : List Taken) → AllByRecursion (λ e. 0 ≤ e.stamp) es
    any_stamp [] = tt
    any_stamp (e ∷ es) = (omega arith, any_stamp es)

    pub run_legal : (steps : List Step) → IsRun m ticks (opening_state places start) steps → Final (λ p. batches_of p steps) (run m ticks (opening_state places start) steps)
    run_legal steps r =
        let first : Stands m start (told []) (λ p. []) (opening_state places start) = record { snapshots = λ p. refl; pairs = λ a b. sym (append-nil (when ((outside == a) && (0 == b)) (told []))) } in
        legal_runs steps (λ p. []) (opening_state places start) (record {
          places_are = refl;
          legal = record { places = small; inside = λ p le. refl; filled = λ p. tt; stamped = λ p. tt; pairs = λ a b. ((opening_state places start).waiting a b, first.pairs a b); notices = tt; cut = refl };
          below = λ p. tt;
          stands = first;
          spoken = refl;
          quiet = (refl, tt);
          floor = 0;
          reached = tt;
          high = λ a b. any_stamp ((opening_state places start).waiting a b);
        }) r

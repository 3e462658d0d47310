-- Each access keeps the turn rule.
use Rattle.std.proofs.Common.{◌≡◌, ◌≢◌, ◌⊎◌, ℕ, zero, suc, ◌+◌, ◌*◌, ◌-◌, ◌^◌, ◌%◌, ◌<◌, ◌≤◌, ◌==◌, true, false, List, [], ◌∷◌, ◌++◌, length, set, map, replicate, slice_index, sym, refl, ap, ◌∙◌, subst, inl, inr, ⊎_elim, eq-eqb, ne_eqb, arith, Option, Some, None}
use Rattle.std.proofs.lemmas.List.{length-set, length-append, length-map, length-replicate, get_or-set_other, get_or-set_same}
use mathlib.Core.Option as maybe
use mathlib.Core.Option.{some, none, some-injective, some-ne-none}
use mathlib.Core.Logic.{dite}
use native.Mathlib.Decide.{ℕ_discrete}
use lib.ListN.{get_elem?}
use Rattle.atomic_table.specs.Table.{State, Me, Act, keeps, takes, gives, Valid, carried_after, Allows, Splits, Joins, Final, Seen, stepped, opening}
use Rattle.atomic_table.proofs.Lists.{at_set, set_here, set_else, at_map}
use Rattle.caf_turns.specs.declared.view.View.{View}
use Rattle.caf_turns.specs.declared.step.Step as events
use Rattle.caf_turns.specs.declared.step.Step.TheVariants.{Announce, Claim, Look, Settle, Free}
use Rattle.caf_turns.specs.Steps.{IsIn, without, announced, known_after, known, last_look, ReadsAtLeast}
use Rattle.caf_turns.specs.Rule.{Place, home, held, moving, Has, Opens, At, Knows, TurnRule, put_at}
use Rattle.caf_turns.specs.Views.{view, first_view, spent, kept_part, new_part, joined, lifted, carried, lowered, put}
use Rattle.caf_turns.specs.Limits.{all_parts, most_announcements, most_due}
use Rattle.caf_turns.specs.Steps as counted
use Rattle.caf_turns.specs.Views as spec
use Rattle.caf_turns.proofs.ListLemmas.{at_end, all_set, within, in_without, stays_in}
use Rattle.caf_turns.proofs.StepLemmas.{some_of, known_append, known_or, by_claim, by_settle, by_free, old_look, look_is, reads, announced_append, announced_end}
use Rattle.caf_turns.proofs.SumLemmas.{less, more, total_set, total_snoc, none_left, alone, total_few}

put_same : (place : ℕ → Place) (i k : ℕ) (p : Place) → k ≡ i → put_at place i p k ≡ p
put_same place i k p e = let q : (k == i) ≡ true = eq-eqb k i e in rw q refl

put_other : (place : ℕ → Place) (i k : ℕ) (p : Place) → k ≢ i → put_at place i p k ≡ place k
put_other place i k p n = let q : (k == i) ≡ false = ne_eqb k i n in rw q refl

abbrev seat_of : Place → ℕ
seat_of home = 0
seat_of (held j) = j
seat_of (moving j) = j

-- ---- who holds a body

one_seat : (j k : ℕ) (p : Place) → Has j p → Has k p → j ≡ k
one_seat j k home a b = absurd a
one_seat j k (held x) a b = sym a ∙ b
one_seat j k (moving x) a b = sym a ∙ b

not_has : (j : ℕ) (p : Place) → p ≢ held j → p ≢ moving j → Has j p → ⊥
not_has j home a b h = h
not_has j (held k) a b h = a (ap (λ (x : ℕ). held x) h)
not_has j (moving k) a b h = b (ap (λ (x : ℕ). moving x) h)

has_put : (place : ℕ → Place) (i : ℕ) (p : Place) (j k : ℕ) → (k ≡ i → Has j p) → Has j (place k) → Has j (put_at place i p k)
has_put place i p j k mine old = dite (ℕ_discrete k i) (λ same. subst (λ q. Has j q) (sym (put_same place i k p same)) (mine same)) (λ other. subst (λ q. Has j q) (sym (put_other place i k p other)) old)

module _ {T M : Type 0} (has : T → M → Type 0) (bodies : List T) where
  abbrev S : Type 0
  S = State (Option T) (View T)

  abbrev H : S → Type 0
  H = TurnRule has bodies

  abbrev due_of : S → ℕ → ℕ
  due_of s k = slice_index s.words (length bodies + k)

  -- what is due may rise, and to bodies of others also fall
  raised : (place : ℕ → Place) (due up : ℕ → ℕ) (j : ℕ) (u : View T) → ((k : ℕ) → k < length bodies → Has j (place k) → due k ≤ up k) → Knows has bodies place due j u → Knows has bodies place up j u
  raised place due up j u le old = record {
    same = old.same;
    has_out = old.has_out;
    is_out = old.is_out;
    has_hand = old.has_hand;
    is_hand = old.is_hand;
    looks = λ k r lt q. let a = old.looks k r lt q in let b = le k lt a.0 in let c = a.1 in (a.0, omega arith);
    few = old.few;
    idle = old.idle;
  }

  -- a step of a seat that leaves each body where it is
  quiet : (s : S) (h : H s) (id : ℕ) (v : View T) (e : events.Step) (ws : List ℕ) → get_elem? s.views id ≡ some v → length ws ≡ length s.words
      → ((k : ℕ) → k < length bodies → slice_index ws k ≡ slice_index s.words k)
      → ((k : ℕ) → k < length bodies → slice_index ws (length bodies + k) ≤ due_of s k + counted.announces e)
      → ((k j : ℕ) → k < length bodies → j ≢ id → Has j (h.place k) → due_of s k ≤ slice_index ws (length bodies + k))
      → ((k r : ℕ) → k < length bodies → last_look k (v.steps ++ e ∷ []) ≡ Some r → Has id (h.place k) × (r ≤ slice_index ws (length bodies + k)))
      → announced v.steps + counted.announces e + most_announcements * v.splits ≤ most_announcements * v.parts
      → H (record { words = ws; homes = s.homes; views = set s.views id (spec.stepped v e) })
  quiet s h id v e ws at long same most others looks few = let mine = h.each_seat id v at in let count = announced_end v.steps e in record {
    place = h.place;
    wide = long ∙ h.wide;
    deep = h.deep;
    each_body = λ i lt. rw (same i lt, length-set s.views id (spec.stepped v e)) (h.each_body i lt);
    each_due = λ i lt. let a = h.each_due i lt in let b = most i lt in let t = total_set (λ u. announced u.steps) s.views id v (spec.stepped v e) at in omega arith;
    each_seat = all_set (Knows has bodies h.place (λ k. slice_index ws (length bodies + k))) s.views id (spec.stepped v e)
        (record { same = mine.same; has_out = mine.has_out; is_out = mine.is_out; has_hand = mine.has_hand; is_hand = mine.is_hand; looks = looks; few = omega arith; idle = mine.idle })
        (λ j u apart f. raised h.place (due_of s) (λ k. slice_index ws (length bodies + k)) j u (λ k lt m. others k j lt apart m) (h.each_seat j u f));
    parts = let t = total_set (λ u. u.parts) s.views id v (spec.stepped v e) at in let p = h.parts in omega arith;
    rooms = let t = total_set (λ u. u.rooms) s.views id v (spec.stepped v e) at in let p = h.rooms in omega arith;
  }

  -- a step on the word of what is due to i, which becomes x
  on_due : (s : S) (h : H s) (slots id i x : ℕ) (v : View T) (e : events.Step) → length s.homes ≡ slots → get_elem? s.views id ≡ some v → i < slots
      → x ≤ slice_index s.words (slots + i) + counted.announces e
      → ((j : ℕ) → j ≢ id → Has j (h.place i) → slice_index s.words (slots + i) ≤ x)
      → ((k r : ℕ) → last_look k (v.steps ++ e ∷ []) ≡ Some r → ((k ≡ i) × Has id (h.place i) × (r ≤ x)) ⊎ ((last_look k v.steps ≡ Some r) × (k ≡ i → slice_index s.words (slots + i) ≤ x)))
      → announced v.steps + counted.announces e + most_announcements * v.splits ≤ most_announcements * v.parts
      → H (record { words = set s.words (slots + i) x; homes = s.homes; views = set s.views id (spec.stepped v e) })
  on_due s h slots id i x v e deep at lt most others looks few =
      let n : slots ≡ length bodies = sym deep ∙ h.deep in
      let long : slots + i < length s.words = let a = h.wide in omega arith in
      let was : due_of s i ≡ slice_index s.words (slots + i) = ap (λ z. slice_index s.words (z + i)) (sym n) in
      let hit : slice_index (set s.words (slots + i) x) (length bodies + i) ≡ x = subst (λ z. slice_index (set s.words (slots + i) x) (z + i) ≡ x) n (get_or-set_same s.words (slots + i) x 0 long) in
      let miss : (k : ℕ) → k ≢ i → slice_index (set s.words (slots + i) x) (length bodies + k) ≡ due_of s k = λ k ne. get_or-set_other s.words (slots + i) (length bodies + k) x 0 (λ q. ne (omega arith)) in
      let old = h.each_seat id v at in
      quiet s h id v e (set s.words (slots + i) x) at (length-set s.words (slots + i) x)
      (λ k below. get_or-set_other s.words (slots + i) k x 0 (λ q. absurd (omega arith)))
      (λ k below. dite (ℕ_discrete k i)
      (λ same. subst (λ z. slice_index (set s.words (slots + i) x) (length bodies + z) ≤ due_of s z + counted.announces e) (sym same) (rw (hit, was) most))
      (λ other. let m = miss k other in omega arith))
      (λ k j below apart m. dite (ℕ_discrete k i)
      (λ same. subst (λ z. due_of s z ≤ slice_index (set s.words (slots + i) x) (length bodies + z)) (sym same) (rw (hit, was) (others j apart (subst (λ z. Has j (h.place z)) same m))))
      (λ other. let m = miss k other in omega arith))
      (λ k r below q. ⊎_elim
      (λ (a : (k ≡ i) × Has id (h.place i) × (r ≤ x)). subst (λ z. Has id (h.place z) × (r ≤ slice_index (set s.words (slots + i) x) (length bodies + z))) (sym a.0) (a.1, rw hit a.2))
      (λ (a : (last_look k v.steps ≡ Some r) × (k ≡ i → slice_index s.words (slots + i) ≤ x)). let b = old.looks k r below a.0 in let c = b.1 in (
        b.0,
        dite (ℕ_discrete k i)
            (λ same. let d = a.1 same in let g : due_of s k ≡ due_of s i = ap (λ z. due_of s z) same in subst (λ z. r ≤ slice_index (set s.words (slots + i) x) (length bodies + z)) (sym same) (rw hit (omega arith)))
            (λ other. let m = miss k other in omega arith),
      ))
      (looks k r q))
      few

  -- each due word stays within 2^63
  pub due_small : (s : S) → H s → (slots i : ℕ) → length s.homes ≡ slots → i < slots → slice_index s.words (slots + i) ≤ most_due
  due_small s h slots i deep lt =
      let n : slots ≡ length bodies = sym deep ∙ h.deep in
      let below : i < length bodies = omega arith in
      let was : due_of s i ≡ slice_index s.words (slots + i) = ap (λ z. slice_index s.words (z + i)) (sym n) in
      let all = total_few s.views (λ j u e. let k = (h.each_seat j u e).few in omega arith) in
      let most = h.each_due i below in
      let p = h.parts in omega arith

  -- a step of a seat that moves the body i
  moves : (s : S) (h : H s) (id i : ℕ) (v w : View T) (p : Place) (x : ℕ) (slot : maybe.Option (Option T)) → get_elem? s.views id ≡ some v → i < length bodies
      → (w.parts ≡ v.parts) × (w.rooms ≡ v.rooms) × (announced w.steps ≡ announced v.steps)
      → At has bodies (length s.views) i x (some slot) p
      → ((j : ℕ) → j ≢ id → (h.place i ≢ held j) × (h.place i ≢ moving j))
      → ((j : ℕ) → j ≢ id → (p ≢ held j) × (p ≢ moving j))
      → Knows has bodies (put_at h.place i p) (due_of s) id w
      → H (record { words = set s.words i x; homes = set s.homes i slot; views = set s.views id w })
  moves s h id i v w p x slot at lt sums there mine own known =
      let far : (k : ℕ) → slice_index (set s.words i x) (length bodies + k) ≡ due_of s k = λ k. get_or-set_other s.words i (length bodies + k) x 0 (λ q. absurd (omega arith)) in
      let up : (k : ℕ) → due_of s k ≤ slice_index (set s.words i x) (length bodies + k) = λ k. let a = far k in omega arith in record {
        place = put_at h.place i p;
        wide = length-set s.words i x ∙ h.wide;
        deep = length-set s.homes i slot ∙ h.deep;
        each_body = λ k below. dite (ℕ_discrete k i)
            (λ same. let long : i < length s.words = let a = h.wide in omega arith in
            let deep : i < length s.homes = let a = h.deep in omega arith in
            let a : slice_index (set s.words i x) i ≡ x = get_or-set_same s.words i x 0 long in
            let b : get_elem? (set s.homes i slot) i ≡ some slot = set_here s.homes i slot deep in
            rw (same, put_same h.place i i p refl, a, b, length-set s.views id w) there)
            (λ other. let a : slice_index (set s.words i x) k ≡ slice_index s.words k = get_or-set_other s.words i k x 0 other in
            let b : get_elem? (set s.homes i slot) k ≡ get_elem? s.homes k = set_else s.homes i k slot other in
            rw (put_other h.place i k p other, a, b, length-set s.views id w) (h.each_body k below));
        each_due = λ k below. let a = h.each_due k below in let b = far k in let t = total_set (λ u. announced u.steps) s.views id v w at in let c = sums.2 in omega arith;
        each_seat = all_set (Knows has bodies (put_at h.place i p) (λ k. slice_index (set s.words i x) (length bodies + k))) s.views id w (raised (put_at h.place i p) (due_of s) (λ k. slice_index (set s.words i x) (length bodies + k)) id w (λ k below m. up k) known)
            (λ j u apart f. let old = h.each_seat j u f in raised (put_at h.place i p) (due_of s) (λ k. slice_index (set s.words i x) (length bodies + k)) j u (λ k below m. up k) (record {
              same = old.same;
              has_out = λ k m. dite (ℕ_discrete k i) (λ same. absurd ((mine j apart).0 (ap h.place (sym same) ∙ old.has_out k m))) (λ other. put_other h.place i k p other ∙ old.has_out k m);
              is_out = λ k lt e. dite (ℕ_discrete k i) (λ same. absurd ((own j apart).0 (sym (put_same h.place i k p same) ∙ e))) (λ other. old.is_out k lt (sym (put_other h.place i k p other) ∙ e));
              has_hand = λ k m. dite (ℕ_discrete k i) (λ same. absurd ((mine j apart).1 (ap h.place (sym same) ∙ old.has_hand k m))) (λ other. put_other h.place i k p other ∙ old.has_hand k m);
              is_hand = λ k lt e. dite (ℕ_discrete k i) (λ same. absurd ((own j apart).1 (sym (put_same h.place i k p same) ∙ e))) (λ other. old.is_hand k lt (sym (put_other h.place i k p other) ∙ e));
              looks = λ k r lt q. let a = old.looks k r lt q in
                  (has_put h.place i p j k (λ same. absurd (not_has j (h.place i) (mine j apart).0 (mine j apart).1 (subst (λ z. Has j (h.place z)) same a.0))) a.0, a.1);
              few = old.few;
              idle = old.idle;
            }));
        parts = let t = total_set (λ u. u.parts) s.views id v w at in let q = h.parts in let c = sums.0 in omega arith;
        rooms = let t = total_set (λ u. u.rooms) s.views id v w at in let q = h.rooms in let c = sums.1 in omega arith;
      }

  -- the accesses. A seat has nothing in its hand between two calls
  announces : (slots id i : ℕ) (v : View T) → v.splits < v.parts → announced v.steps < most_announcements → i < slots
      → Allows H slots id (v, []) (slots + i) (λ n. (n + 1) % 2 ^ 64) (λ r k. (k.0 ≡ spec.stepped v (Announce i r)) × (r < most_due) × (k.1 ≡ []))
  announces slots id i v spare few lt s h deep at small =
      let r : ℕ = slice_index s.words (slots + i) in
      let w : View T = spec.stepped v (Announce i r) in
      let next : (r + 1) % 2 ^ 64 ≡ r + 1 = more r (due_small s h slots i deep lt) in
      let old = (h.each_seat id v at).few in
      let after : H (record { words = set s.words (slots + i) (r + 1); homes = s.homes; views = set s.views id w }) =
      on_due s h slots id i (r + 1) v (Announce i r) deep at lt (omega arith) (λ j apart m. omega arith)
      (λ k q e. inr (sym (known_append k None v.steps (Announce i r ∷ [])) ∙ e, λ same. omega arith)) (omega arith) in
      let long : slots + i < length s.words = let a = h.wide in let b = h.deep in omega arith in
      let hit : slice_index (set s.words (slots + i) (r + 1)) (slots + i) ≡ r + 1 = get_or-set_same s.words (slots + i) (r + 1) 0 long in
      let top = due_small (record { words = set s.words (slots + i) (r + 1); homes = s.homes; views = set s.views id w }) after slots i deep lt in
      let below : r < most_due = omega arith in (
        w,
        keeps,
        tt,
        subst (λ z. H (record { words = set s.words (slots + i) z; homes = s.homes; views = set s.views id w })) (sym next) after,
        (refl, below, refl),
      )

  looks : (slots id i : ℕ) (v : View T) → IsIn i v.out → i < slots
      → Allows H slots id (v, []) (slots + i) (λ n. n) (λ r k. (k.0 ≡ spec.stepped v (Look i r)) × (r ≤ most_due) × (k.1 ≡ []))
  looks slots id i v out lt s h deep at small =
      let r : ℕ = slice_index s.words (slots + i) in
      let old = h.each_seat id v at in
      let own : Has id (h.place i) = subst (λ p. Has id p) (sym (old.has_out i out)) refl in
      let few = old.few in (
        spec.stepped v (Look i r),
        keeps,
        tt,
        on_due s h slots id i r v (Look i r) deep at lt (omega arith) (λ j apart m. omega arith)
            (λ k q e. ⊎_elim (λ (x : (k ≡ i) × (r ≡ q)). let z = x.1 in inl (x.0, own, omega arith)) (λ (x : last_look k v.steps ≡ Some q). inr (x, λ same. omega arith)) (look_is i r v.steps k q e))
            (omega arith),
        (refl, due_small s h slots i deep lt, refl),
      )

  settles : (slots id i k : ℕ) (v : View T) → ReadsAtLeast k (last_look i v.steps) → i < slots
      → Allows H slots id (v, []) (slots + i) (λ n. (n + (2 ^ 64 - k)) % 2 ^ 64) (λ r m. (m.0 ≡ spec.stepped v (Settle i k r)) × (k ≤ r) × (m.1 ≡ []))
  settles slots id i k v look lt s h deep at small =
      let r : ℕ = slice_index s.words (slots + i) in
      let old = h.each_seat id v at in
      let n : slots ≡ length bodies = sym deep ∙ h.deep in
      let was : due_of s i ≡ r = ap (λ z. slice_index s.words (z + i)) (sym n) in
      let a = reads k (last_look i v.steps) look in
      let b = old.looks i a.0 (omega arith) a.1 in
      let enough : k ≤ r = let c = a.2 in let d = b.1 in omega arith in
      let few = old.few in (
        spec.stepped v (Settle i k r),
        keeps,
        tt,
        subst (λ z. H (record { words = set s.words (slots + i) z; homes = s.homes; views = set s.views id (spec.stepped v (Settle i k r)) })) (sym (less r k enough small))
            (on_due s h slots id i (r - k) v (Settle i k r) deep at lt (omega arith) (λ j apart m. absurd (apart (one_seat j id (h.place i) m b.0)))
            (λ j q e. let x = old_look i (Settle i k r) (by_settle i k r) v.steps j q e in inr (x.1, λ same. absurd (x.0 same))) (omega arith)),
        (refl, enough, refl),
      )

  abbrev Tells : ℕ → View T → ℕ → Me (Option T) (View T) → Type 0
  Tells i v r k = (r ≡ 0 → (k.0 ≡ lifted i (spec.stepped v (Claim i r))) × ((y : T) × (k.1 ≡ (i, Some y) ∷ []) × Opens has v.opening i y)) × (r ≢ 0 → (r ≡ 1) × (k.0 ≡ spec.stepped v (Claim i r)) × (k.1 ≡ []))

  abbrev Claimed : S → ℕ → ℕ → View T → Type 0
  Claimed s id i v = (w : View T) × (a : Act (Option T)) × Valid s.homes [] a × H (stepped s i 1 id [] w a) × Tells i v (slice_index s.words i) (w, carried_after [] a)

  module _ (s : S) (h : H s) (id i : ℕ) (v : View T) (some_part : v.parts ≢ 0) (empty : v.hand ≡ None) (below : i < length bodies) (at : get_elem? s.views id ≡ some v) where
    mine : Knows has bodies h.place (due_of s) id v
    mine = h.each_seat id v at

    far : (k : ℕ) → slice_index (set s.words i 1) (length bodies + k) ≡ due_of s k
    far k = get_or-set_other s.words i (length bodies + k) 1 0 (λ q. absurd (omega arith))

    taken : slice_index s.words i ≡ 1 → Claimed s id i v
    taken one =
        let r : ℕ = slice_index s.words i in (
          spec.stepped v (Claim i r),
          keeps,
          tt,
          quiet s h id v (Claim i r) (set s.words i 1) at (length-set s.words i 1)
              (λ k lt. dite (ℕ_discrete k i)
              (λ same. let long : i < length s.words = let a = h.wide in omega arith in rw (same, one) (get_or-set_same s.words i 1 0 long))
              (λ other. get_or-set_other s.words i k 1 0 other))
              (λ k lt. let a = far k in omega arith)
              (λ k j lt apart m. let a = far k in omega arith)
              (λ k q lt e. let x = old_look i (Claim i r) (by_claim i r) v.steps k q e in let y = mine.looks k q lt x.1 in let a = far k in let b = y.1 in (y.0, omega arith))
              (let few = mine.few in omega arith),
          ((λ z. absurd (omega arith)), λ n. (one, refl, refl)),
        )

    claims_at : (p : Place) → h.place i ≡ p → At has bodies (length s.views) i (slice_index s.words i) (get_elem? s.homes i) p → Claimed s id i v
    claims_at home e b =
        let r : ℕ = slice_index s.words i in
        let w : View T = lifted i (spec.stepped v (Claim i r)) in
        let count : announced (v.steps ++ Claim i r ∷ []) ≡ announced v.steps = let a : announced (v.steps ++ Claim i r ∷ []) ≡ announced v.steps + 0 = announced_end v.steps (Claim i r) in omega arith in
        let old = h.each_seat id v at in (
          w,
          takes i (Some b.1.0),
          b.1.1,
          moves s h id i v w (moving id) 1 none at below (refl, refl, count) (refl, refl, within s.views id v at)
              (λ j apart. ((λ q. let z : home ≡ held j = sym e ∙ q in cc), λ q. let z : home ≡ moving j = sym e ∙ q in cc))
              (λ j apart. ((λ q. cc), λ q. apart (ap seat_of (sym q))))
              (record {
                same = old.same;
                has_out = λ k m. dite (ℕ_discrete k i) (λ same. let a = old.has_out k m in let z : home ≡ held id = sym e ∙ ap h.place (sym same) ∙ a in cc) (λ other. put_other h.place i k (moving id) other ∙ old.has_out k m);
                is_out = λ k lt q. dite (ℕ_discrete k i) (λ same. let z : moving id ≡ held id = sym (put_same h.place i k (moving id) same) ∙ q in cc) (λ other. old.is_out k lt (sym (put_other h.place i k (moving id) other) ∙ q));
                has_hand = λ k q. put_same h.place i k (moving id) (cc);
                is_hand = λ k lt q. dite (ℕ_discrete k i) (λ same. ap (λ (x : ℕ). Some x) (sym same)) (λ other. let z : v.hand ≡ Some k = old.is_hand k lt (sym (put_other h.place i k (moving id) other) ∙ q) in cc);
                looks = λ k q lt e. let x = old_look i (Claim i r) (by_claim i r) v.steps k q e in let y = old.looks k q lt x.1 in (has_put h.place i (moving id) id k (λ same. refl) y.0, y.1);
                few = let f = old.few in omega arith;
                idle = λ z. absurd (some_part z);
              }),
          ((λ z. (refl, (b.1.0, refl, subst (λ l. Opens has l i b.1.0) (sym (old.same some_part)) b.1.2))), λ n. absurd (n b.0)),
        )
    claims_at (held j) e b = taken b.0
    claims_at (moving j) e b = taken b.0

  pub claims : (slots id i : ℕ) (v : View T) → v.parts ≢ 0 → v.hand ≡ None → i < slots → Allows H slots id (v, []) i (λ n. 1) (Tells i v)
  claims slots id i v some_part empty lt s h deep at small = let below : i < length bodies = let a = h.deep in omega arith in claims_at s h id i v some_part empty below at (h.place i) refl (h.each_body i below)

  -- the empty slot goes home, and the body is out
  pub leaves : (slots id i : ℕ) (v : View T) → v.parts ≢ 0 → v.hand ≡ Some i → i < slots
      → Allows H slots id (v, (i, None) ∷ []) i (λ n. n) (λ r k. (k.0 ≡ carried i v) × (k.1 ≡ []))
  leaves slots id i v some_part hand lt s h deep at small =
      let below : i < length bodies = let a = h.deep in omega arith in
      let old = h.each_seat id v at in
      let e : h.place i ≡ moving id = old.has_hand i hand in
      let b : At has bodies (length s.views) i (slice_index s.words i) (get_elem? s.homes i) (moving id) = rw e at (h.each_body i below) in (
        carried i v,
        gives,
        tt,
        moves s h id i v (carried i v) (held id) (slice_index s.words i) (some None) at below (refl, refl, refl) (b.0, refl, b.2)
            (λ j apart. ((λ q. let z : moving id ≡ held j = sym e ∙ q in cc), λ q. apart (ap seat_of (sym q ∙ e))))
            (λ j apart. ((λ q. apart (ap seat_of (sym q))), λ q. cc))
            (record {
              same = old.same;
              has_out = λ k m. dite (ℕ_discrete k i) (λ same. put_same h.place i k (held id) same) (λ other. put_other h.place i k (held id) other ∙ ⊎_elim (λ x. absurd (other x)) (λ x. old.has_out k x) m);
              is_out = λ k lt q. dite (ℕ_discrete k i) (λ same. inl same) (λ other. inr (old.is_out k lt (sym (put_other h.place i k (held id) other) ∙ q)));
              has_hand = λ k q. cc;
              is_hand = λ k lt q. dite (ℕ_discrete k i) (λ same. let z : held id ≡ moving id = sym (put_same h.place i k (held id) same) ∙ q in cc)
                  (λ other. let z : v.hand ≡ Some k = old.is_hand k lt (sym (put_other h.place i k (held id) other) ∙ q) in absurd (other (some_of k i (sym z ∙ hand))));
              looks = λ k q lt e. let y = old.looks k q lt e in (has_put h.place i (held id) id k (λ same. refl) y.0, y.1);
              few = old.few;
              idle = λ z. absurd (some_part z);
            }),
        (refl, refl),
      )

  -- the empty slot comes into the hand again
  pub enters : (slots id i : ℕ) (v : View T) → v.parts ≢ 0 → v.hand ≡ None → IsIn i v.out → i < slots
      → Allows H slots id (v, []) i (λ n. n) (λ r k. (k.0 ≡ lowered i v) × (k.1 ≡ (i, None) ∷ []))
  enters slots id i v some_part empty out lt s h deep at small =
      let below : i < length bodies = let a = h.deep in omega arith in
      let old = h.each_seat id v at in
      let e : h.place i ≡ held id = old.has_out i out in
      let b : At has bodies (length s.views) i (slice_index s.words i) (get_elem? s.homes i) (held id) = rw e at (h.each_body i below) in (
        lowered i v,
        takes i None,
        b.1,
        moves s h id i v (lowered i v) (moving id) (slice_index s.words i) none at below (refl, refl, refl) (b.0, refl, b.2)
            (λ j apart. ((λ q. apart (ap seat_of (sym q ∙ e))), λ q. let z : held id ≡ moving j = sym e ∙ q in cc))
            (λ j apart. ((λ q. cc), λ q. apart (ap seat_of (sym q))))
            (record {
              same = old.same;
              has_out = λ k m. let x = in_without i k v.out m in put_other h.place i k (moving id) x.1 ∙ old.has_out k x.0;
              is_out = λ k lt q. dite (ℕ_discrete k i) (λ same. let z : moving id ≡ held id = sym (put_same h.place i k (moving id) same) ∙ q in cc)
                  (λ other. stays_in i k v.out (old.is_out k lt (sym (put_other h.place i k (moving id) other) ∙ q)) other);
              has_hand = λ k q. put_same h.place i k (moving id) (some_of k i (sym q));
              is_hand = λ k lt q. dite (ℕ_discrete k i) (λ same. ap (λ (x : ℕ). Some x) (sym same)) (λ other. let z : v.hand ≡ Some k = old.is_hand k lt (sym (put_other h.place i k (moving id) other) ∙ q) in cc);
              looks = λ k q lt e. let y = old.looks k q lt e in (has_put h.place i (moving id) id k (λ same. refl) y.0, y.1);
              few = old.few;
              idle = λ z. absurd (some_part z);
            }),
        (refl, refl),
      )

  -- the body goes home with its opening marks
  pub frees : (slots id i : ℕ) (v : View T) (y : T) → v.parts ≢ 0 → v.hand ≡ Some i → Opens has v.opening i y → i < slots
      → Allows H slots id (v, (i, Some y) ∷ []) i (λ n. 0) (λ r k. (k.0 ≡ put (spec.stepped v (Free i))) × (k.1 ≡ []))
  frees slots id i v y some_part hand opens lt s h deep at small =
      let below : i < length bodies = let a = h.deep in omega arith in
      let old = h.each_seat id v at in
      let w : View T = put (spec.stepped v (Free i)) in
      let count : announced (v.steps ++ Free i ∷ []) ≡ announced v.steps = let a : announced (v.steps ++ Free i ∷ []) ≡ announced v.steps + 0 = announced_end v.steps (Free i) in omega arith in
      let e : h.place i ≡ moving id = old.has_hand i hand in (
        w,
        gives,
        tt,
        moves s h id i v w home 0 (some (Some y)) at below (refl, refl, count) (refl, (y, refl, subst (λ l. Opens has l i y) (old.same some_part) opens))
            (λ j apart. ((λ q. let z : moving id ≡ held j = sym e ∙ q in cc), λ q. apart (ap seat_of (sym q ∙ e))))
            (λ j apart. ((λ q. cc), λ q. cc))
            (record {
              same = old.same;
              has_out = λ k m. dite (ℕ_discrete k i) (λ same. let a = old.has_out k m in let z : moving id ≡ held id = sym e ∙ ap h.place (sym same) ∙ a in cc) (λ other. put_other h.place i k home other ∙ old.has_out k m);
              is_out = λ k lt q. dite (ℕ_discrete k i) (λ same. let z : home ≡ held id = sym (put_same h.place i k home same) ∙ q in cc) (λ other. old.is_out k lt (sym (put_other h.place i k home other) ∙ q));
              has_hand = λ k q. cc;
              is_hand = λ k lt q. dite (ℕ_discrete k i) (λ same. let z : home ≡ moving id = sym (put_same h.place i k home same) ∙ q in cc)
                  (λ other. let z : v.hand ≡ Some k = old.is_hand k lt (sym (put_other h.place i k home other) ∙ q) in absurd (other (some_of k i (sym z ∙ hand))));
              looks = λ k q lt e. let x = old_look i (Free i) (by_free i) v.steps k q e in let y = old.looks k q lt x.1 in (has_put h.place i home id k (λ same. absurd (x.0 same)) y.0, y.1);
              few = let f = old.few in omega arith;
              idle = λ z. absurd (some_part z);
            }),
        (refl, refl),
      )

  -- ---- seats are made and joined

  at_more : (n m i x : ℕ) (o : maybe.Option (maybe.Option (Option T))) → n ≤ m → (p : Place) → At has bodies n i x o p → At has bodies m i x o p
  at_more n m i x o le home b = b
  at_more n m i x o le (held j) b = (b.0, b.1, let a = b.2 in omega arith)
  at_more n m i x o le (moving j) b = (b.0, b.1, let a = b.2 in omega arith)

  old_seat : (n i x : ℕ) (o : maybe.Option (maybe.Option (Option T))) (p : Place) → At has bodies n i x o p → (p ≢ held n) × (p ≢ moving n)
  old_seat n i x o home b = ((λ q. cc), λ q. cc)
  old_seat n i x o (held j) b = ((λ q. let e : j ≡ n = ap seat_of q in let a = b.2 in omega arith), λ q. cc)
  old_seat n i x o (moving j) b = ((λ q. cc), λ q. let e : j ≡ n = ap seat_of q in let a = b.2 in omega arith)

  pub splits : (id : ℕ) (v : View T) → v.splits < v.parts → 0 < v.splits → Splits H id v (kept_part v) (new_part v)
  splits id v spare many s h at =
      let old = h.each_seat id v at in
      let l : View T = kept_part v in
      let r : View T = new_part v in
      let some_part : v.parts ≢ 0 = λ z. omega arith in
      let few = old.few in
      let vs : List (View T) = set s.views id l in
      let count : length vs ≡ length s.views = length-set s.views id l in
      let grown : length (vs ++ r ∷ []) ≡ length s.views + 1 = length-append vs (r ∷ []) ∙ ap (λ (n : ℕ). n + 1) count in
      let le : length s.views ≤ length (vs ++ r ∷ []) = omega arith in
      record {
        place = h.place;
        wide = h.wide;
        deep = h.deep;
        each_body = λ i lt. at_more (length s.views) (length (vs ++ r ∷ [])) i (slice_index s.words i) (get_elem? s.homes i) le (h.place i) (h.each_body i lt);
        each_due = λ i lt. let a = total_snoc (λ y. announced y.steps) vs r in let b = total_set (λ y. announced y.steps) s.views id v l at in let c = h.each_due i lt in omega arith;
        each_seat = λ j u e. ⊎_elim
            (all_set (Knows has bodies h.place (due_of s)) s.views id l
            (record { same = λ z. old.same some_part; has_out = old.has_out; is_out = old.is_out; has_hand = old.has_hand; is_hand = old.is_hand; looks = old.looks; few = omega arith; idle = λ z. absurd (omega arith) })
            (λ j u apart f. h.each_seat j u f) j u)
            (λ (x : (j ≡ length vs) × (r ≡ u)). subst (λ (y : ℕ × View T). Knows has bodies h.place (due_of s) y.0 y.1) (λ i. (sym (x.0 ∙ count) i, x.1 i))
            (record {
              same = λ z. old.same some_part;
              has_out = λ i m. absurd m;
              is_out = λ i lt q. absurd ((old_seat (length s.views) i (slice_index s.words i) (get_elem? s.homes i) (h.place i) (h.each_body i lt)).0 q);
              has_hand = λ i q. cc;
              is_hand = λ i lt q. absurd ((old_seat (length s.views) i (slice_index s.words i) (get_elem? s.homes i) (h.place i) (h.each_body i lt)).1 q);
              looks = λ i q lt e. absurd (let z : None ≡ Some q = e in cc);
              few = omega arith;
              idle = λ z. absurd (omega arith);
            }))
            (at_end vs r u j e);
        parts = let a = total_snoc (λ y. y.parts) vs r in let b = total_set (λ y. y.parts) s.views id v l at in let c = h.parts in omega arith;
        rooms = let a = total_snoc (λ y. y.rooms) vs r in let b = total_set (λ y. y.rooms) s.views id v l at in let c = h.rooms in omega arith;
      }

  pub joins : (id : ℕ) (v : View T) (other : ℕ) (w : View T) → v.parts ≢ 0 → w.out ≡ [] → w.hand ≡ None
      → Joins H id v other w (joined v w) spent
  joins id v other w some_part none_out no_hand s h at two at' =
      let old = h.each_seat id v at in
      let b : View T = joined v w in
      let vs : List (View T) = set s.views id b in
      let was : get_elem? s.views other ≡ some w = ⊎_elim (λ x. absurd (two x.0)) (λ x. x.1) (at_set s.views id other b w at') in
      let theirs = h.each_seat other w was in
      let none : (k : ℕ) → k < length bodies → Has other (h.place k) → ⊥ = λ k lt m. not_has other (h.place k) (λ q. subst (λ l. IsIn k l) none_out (theirs.is_out k lt q)) (λ q. let z : w.hand ≡ Some k = theirs.is_hand k lt q in cc) m in
      let count = announced_append v.steps w.steps in
      record {
        place = h.place;
        wide = h.wide;
        deep = h.deep;
        each_body = λ i lt. rw (length-set vs other spent, length-set s.views id b) (h.each_body i lt);
        each_due = λ i lt. let a = total_set (λ y. announced y.steps) vs other w spent at' in let c = total_set (λ y. announced y.steps) s.views id v b at in let d = h.each_due i lt in omega arith;
        each_seat = all_set (Knows has bodies h.place (due_of s)) vs other spent
            (record {
              same = λ n. absurd (n refl);
              has_out = λ i m. absurd m;
              is_out = λ i lt q. subst (λ l. IsIn i l) none_out (theirs.is_out i lt q);
              has_hand = λ i q. cc;
              is_hand = λ i lt q. let z : w.hand ≡ Some i = theirs.is_hand i lt q in cc;
              looks = λ k q lt e. absurd (let z : None ≡ Some q = e in cc);
              few = omega arith;
              idle = λ z. (refl, refl, refl);
            })
            (λ j u apart f. all_set (Knows has bodies h.place (due_of s)) s.views id b
            (record {
              same = λ z. old.same some_part;
              has_out = old.has_out;
              is_out = old.is_out;
              has_hand = old.has_hand;
              is_hand = old.is_hand;
              looks = λ k q lt e. let f = sym (known_append k None v.steps w.steps) ∙ e in ⊎_elim (λ (x : known k (last_look k v.steps) w.steps ≡ last_look k v.steps). old.looks k q lt (sym x ∙ f))
                  (λ (x : known k (last_look k v.steps) w.steps ≡ last_look k w.steps). absurd (none k lt (theirs.looks k q lt (sym x ∙ f)).0)) (known_or k w.steps (last_look k v.steps));
              few = let x = old.few in let y = theirs.few in omega arith;
              idle = λ z. absurd (some_part (let a : v.parts + w.parts ≡ 0 = z in omega arith));
            })
            (λ j u apart f. h.each_seat j u f) j u f);
        parts = let a = total_set (λ y. y.parts) vs other w spent at' in let c = total_set (λ y. y.parts) s.views id v b at in let d = h.parts in omega arith;
        rooms = let a = total_set (λ y. y.rooms) vs other w spent at' in let c = total_set (λ y. y.rooms) s.views id v b at in let d = h.rooms in omega arith;
      }

  -- ---- the beginning and the end

  zeros : (n i : ℕ) → slice_index (replicate n 0) i ≡ 0
  zeros zero i = refl
  zeros (suc n) zero = refl
  zeros (suc n) (suc i) = zeros n i

  has_own : (i : ℕ) → i < length bodies → (y : T) × (get_elem? (map some (map Some bodies)) i ≡ some (some (Some y))) × Opens has bodies i y
  has_own i lt = let a = there bodies i lt in (a.0, at_map some (map Some bodies) i (Some a.0) (at_map Some bodies i a.0 a.1), (a.0, a.1, λ m x. x))
    where
      there : (l : List T) (i : ℕ) → i < length l → (a : T) × (get_elem? l i ≡ some a)
      there [] i h = absurd (omega arith)
      there (x ∷ xs) zero h = (x, refl)
      there (x ∷ xs) (suc i) h = there xs i (omega arith)

  pub begins : (words : List ℕ) (slots : List (Option T)) → words ≡ replicate (length bodies + length bodies) 0 → slots ≡ map Some bodies → H (opening words slots (first_view bodies))
  begins words slots e f = rw (e, f) (record {
    place = λ _. home;
    wide = length-replicate (length bodies + length bodies) 0;
    deep = length-map (map Some bodies) some ∙ length-map bodies Some;
    each_body = λ i lt. (zeros (length bodies + length bodies) i, has_own i lt);
    each_due = λ i lt. let a = zeros (length bodies + length bodies) (length bodies + i) in omega arith;
    each_seat = λ j v q. ⊎_elim (λ (x : get_elem? [] j ≡ some v). absurd (some-ne-none v (sym x)))
        (λ (x : (j ≡ 0) × (first_view bodies ≡ v)). subst (λ (y : ℕ × View T). Knows has bodies (λ _. home) (λ k. slice_index (replicate (length bodies + length bodies) 0) (length bodies + k)) y.0 y.1) (λ i. (sym x.0 i, x.1 i))
        (record { same = λ _. refl; has_out = λ i m. absurd m; is_out = λ i lt z. cc; has_hand = λ i z. cc; is_hand = λ i lt z. cc; looks = λ i r lt e. absurd (let z : None ≡ Some r = e in cc); few = omega arith; idle = λ z. absurd (omega arith) })) (at_end [] (first_view bodies) v j q);
    parts = refl;
    rooms = refl;
  })

  view_at : (l : List (View T)) (i : ℕ) → i < length l → (a : View T) × (get_elem? l i ≡ some a)
  view_at [] i h = absurd (omega arith)
  view_at (x ∷ xs) zero h = (x, refl)
  view_at (x ∷ xs) (suc i) h = view_at xs i (omega arith)

  module _ (s : S) (h : H s) (id : ℕ) (v : View T) (at : get_elem? s.views id ≡ some v) (every : v.parts ≡ all_parts) (none_out : v.out ≡ []) (no_hand : v.hand ≡ None) where
    -- no seat has the body
    no_seat : (i : ℕ) → i < length bodies → (j : ℕ) → j < length s.views → (h.place i ≢ held j) × (h.place i ≢ moving j)
    no_seat i lt j below = let u = view_at s.views j below in let k = h.each_seat j u.0 u.1 in
        let free : (u.0.out ≡ []) × (u.0.hand ≡ None) = dite (ℕ_discrete j id)
        (λ same. let z : v ≡ u.0 = some-injective v u.0 (sym at ∙ ap (λ n. get_elem? s.views n) (sym same) ∙ u.1) in (ap (λ (y : View T). y.out) (sym z) ∙ none_out, ap (λ (y : View T). y.hand) (sym z) ∙ no_hand))
        (λ other. let a = none_left (λ y. y.parts) s.views id j v u.0 at u.1 other in let b = h.parts in let c = k.idle (omega arith) in (c.0, c.1)) in
        ((λ q. subst (λ l. IsIn i l) free.0 (k.is_out i lt q)), λ q. let z : u.0.hand ≡ Some i = k.is_hand i lt q in let y = free.1 in cc)

    at_home : (i : ℕ) → i < length bodies → (p : Place) → h.place i ≡ p → At has bodies (length s.views) i (slice_index s.words i) (get_elem? s.homes i) p
        → (y : T) × (get_elem? s.homes i ≡ some (some (Some y))) × Opens has bodies i y
    at_home i lt home e b = b.1
    at_home i lt (held j) e b = absurd ((no_seat i lt j b.2).0 e)
    at_home i lt (moving j) e b = absurd ((no_seat i lt j b.2).1 e)

  -- the seat with all parts has the room
  pub has_room : (words : List ℕ) (slots : List (Option T)) (id : ℕ) (v : View T) → Final (Seen H id v) words slots → v.parts ≡ all_parts → v.rooms ≡ 1
  has_room words slots id v f every =
      let s = f.0 in let h = f.1.0 in let at = f.1.1 in
      let one = alone (λ y. y.rooms) s.views id v at (λ j u other e. let a = none_left (λ y. y.parts) s.views id j v u at e other in let b = h.parts in ((h.each_seat j u e).idle (omega arith)).2) in
      sym one ∙ h.rooms

  pub ends : (words : List ℕ) (slots : List (Option T)) (id : ℕ) (v : View T) → Final (Seen H id v) words slots → v.parts ≡ all_parts → v.out ≡ [] → v.hand ≡ None
      → (i : ℕ) → i < length v.opening → (y : T) × (get_elem? slots i ≡ some (Some y)) × Opens has v.opening i y
  ends words slots id v f every none_out no_hand i lt =
      let s = f.0 in let h = f.1.0 in let at = f.1.1 in
      let same : v.opening ≡ bodies = (h.each_seat id v at).same (λ z. omega arith) in
      let below : i < length bodies = subst (λ l. i < length l) same lt in
      let r = at_home s h id v at every none_out no_hand i below (h.place i) refl (h.each_body i below) in
      (r.0, f.4 i (Some r.0) r.1, subst (λ l. Opens has l i r.0) (sym same) r.2)

  -- ---- the same for a seat as it stands

  -- the number of a body, from the place of the word of what is due to it
  number : (slots i : ℕ) (v : View T) → length v.opening ≡ slots → slots + i - length v.opening ≡ i
  number slots i v long = omega arith

  pub announces_of : (slots id i : ℕ) (m : Me (Option T) (View T)) → m.0.splits < m.0.parts → m.1 ≡ [] → length m.0.opening ≡ slots → announced m.0.steps < most_announcements → i < slots
      → Allows H slots id m (slots + i) (λ n. (n + 1) % 2 ^ 64) (λ r k. (k.0 ≡ spec.stepped m.0 (Announce (slots + i - length m.0.opening) r)) × (r < most_due) × (k.1 ≡ m.1))
  announces_of slots id i m spare e long few lt = subst
      (λ (p : List (ℕ × Option T) × ℕ). Allows H slots id (m.0, p.0) (slots + i) (λ n. (n + 1) % 2 ^ 64) (λ r k. (k.0 ≡ spec.stepped m.0 (Announce p.1 r)) × (r < most_due) × (k.1 ≡ p.0)))
      (λ j. (sym e j, sym (number slots i m.0 long) j)) (announces slots id i m.0 spare few lt)

  pub looks_of : (slots id i : ℕ) (m : Me (Option T) (View T)) → m.1 ≡ [] → length m.0.opening ≡ slots → IsIn i m.0.out → i < slots
      → Allows H slots id m (slots + i) (λ n. n) (λ r k. (k.0 ≡ spec.stepped m.0 (Look (slots + i - length m.0.opening) r)) × (r ≤ most_due) × (k.1 ≡ m.1))
  looks_of slots id i m e long out lt = subst
      (λ (p : List (ℕ × Option T) × ℕ). Allows H slots id (m.0, p.0) (slots + i) (λ n. n) (λ r k. (k.0 ≡ spec.stepped m.0 (Look p.1 r)) × (r ≤ most_due) × (k.1 ≡ p.0)))
      (λ j. (sym e j, sym (number slots i m.0 long) j)) (looks slots id i m.0 out lt)

  pub settles_of : (slots id i k : ℕ) (m : Me (Option T) (View T)) → m.1 ≡ [] → length m.0.opening ≡ slots → ReadsAtLeast k (last_look i m.0.steps) → i < slots
      → Allows H slots id m (slots + i) (λ n. (n + (2 ^ 64 - k)) % 2 ^ 64) (λ r w. (w.0 ≡ spec.stepped m.0 (Settle (slots + i - length m.0.opening) k r)) × (k ≤ r) × (w.1 ≡ m.1))
  settles_of slots id i k m e long look lt = subst
      (λ (p : List (ℕ × Option T) × ℕ). Allows H slots id (m.0, p.0) (slots + i) (λ n. (n + (2 ^ 64 - k)) % 2 ^ 64) (λ r w. (w.0 ≡ spec.stepped m.0 (Settle p.1 k r)) × (k ≤ r) × (w.1 ≡ p.0)))
      (λ j. (sym e j, sym (number slots i m.0 long) j)) (settles slots id i k m.0 look lt)

  pub claims_of : (slots id i : ℕ) (m : Me (Option T) (View T)) → m.0.parts ≢ 0 → m.0.hand ≡ None → m.1 ≡ [] → i < slots → Allows H slots id m i (λ n. 1)
      (λ r k. (r ≡ 0 → (k.0 ≡ lifted i (spec.stepped m.0 (Claim i r))) × ((y : T) × (k.1 ≡ (i, Some y) ∷ m.1) × Opens has m.0.opening i y)) × (r ≢ 0 → (r ≡ 1) × (k.0 ≡ spec.stepped m.0 (Claim i r)) × (k.1 ≡ m.1)))
  claims_of slots id i m part empty e lt = subst
      (λ l. Allows H slots id (m.0, l) i (λ n. 1) (λ r k. (r ≡ 0 → (k.0 ≡ lifted i (spec.stepped m.0 (Claim i r))) × ((y : T) × (k.1 ≡ (i, Some y) ∷ l) × Opens has m.0.opening i y)) × (r ≢ 0 → (r ≡ 1) × (k.0 ≡ spec.stepped m.0 (Claim i r)) × (k.1 ≡ l))))
      (sym e) (claims slots id i m.0 part empty lt)

  pub leaves_of : (slots id i : ℕ) (m : Me (Option T) (View T)) → m.0.parts ≢ 0 → m.0.hand ≡ Some i → m.1 ≡ (i, None) ∷ [] → i < slots
      → Allows H slots id m i (λ n. n) (λ r k. (k.0 ≡ carried i m.0) × (k.1 ≡ []))
  leaves_of slots id i m part hand e lt = subst (λ l. Allows H slots id (m.0, l) i (λ n. n) (λ r k. (k.0 ≡ carried i m.0) × (k.1 ≡ []))) (sym e) (leaves slots id i m.0 part hand lt)

  pub enters_of : (slots id i : ℕ) (m : Me (Option T) (View T)) → m.0.parts ≢ 0 → m.0.hand ≡ None → IsIn i m.0.out → m.1 ≡ [] → i < slots
      → Allows H slots id m i (λ n. n) (λ r k. (k.0 ≡ lowered i m.0) × (k.1 ≡ (i, None) ∷ []))
  enters_of slots id i m part empty out e lt = subst (λ l. Allows H slots id (m.0, l) i (λ n. n) (λ r k. (k.0 ≡ lowered i m.0) × (k.1 ≡ (i, None) ∷ []))) (sym e) (enters slots id i m.0 part empty out lt)

  pub frees_of : (slots id i : ℕ) (m : Me (Option T) (View T)) (y : T) → m.0.parts ≢ 0 → m.0.hand ≡ Some i → Opens has m.0.opening i y → m.1 ≡ (i, Some y) ∷ [] → i < slots
      → Allows H slots id m i (λ n. 0) (λ r k. (k.0 ≡ put (spec.stepped m.0 (Free i))) × (k.1 ≡ []))
  frees_of slots id i m y part hand opens e lt = subst (λ l. Allows H slots id (m.0, l) i (λ n. 0) (λ r k. (k.0 ≡ put (spec.stepped m.0 (Free i))) × (k.1 ≡ []))) (sym e) (frees slots id i m.0 y part hand opens lt)

-- a list of bodies with one more
pub opens_more : {T M : Type 0} (has : T → M → Type 0) (opening items : List T) (i : ℕ) (y z : T) → length items ≡ i → y ≡ z → Opens has opening i z
    → ((k : ℕ) (body : T) → get_elem? items k ≡ some body → Opens has opening k body) → (k : ℕ) (body : T) → get_elem? (items ++ y ∷ []) k ≡ some body → Opens has opening k body
opens_more has opening items i y z long same o old k body e = ⊎_elim (λ x. old k body x)
    (λ (x : (k ≡ length items) × (y ≡ body)). subst (λ (p : ℕ × _). Opens has opening p.0 p.1) (λ j. (sym (x.0 ∙ long) j, (sym same ∙ x.1) j)) o) (at_end items y body k e)

-- Each step at a block keeps its rule.
use Rattle.std.proofs.Common.{◌≡◌, ◌≢◌, ℕ, zero, suc, ◌+◌, ◌-◌, ◌%◌, ◌^◌, ◌<◌, ◌≤◌, true, true≢false, List, [], ◌∷◌, ◌++◌, get_or, set, sym, refl, ap, ◌∙◌, subst, ⊎_elim, add-one, eqb-true, arith}
use Rattle.std.specs.List.{sum_by}
use Rattle.std.proofs.lemmas.List.Sums.{sum_by_push, sum_by-le-sum_by}
use mathlib.Core.Option.{none, some}
use lib.ListN.{get_elem?}
use Rattle.atomic_table.specs.Table.{State, step, keeps, Allows, Splits}
use Rattle.atomic_table.proofs.Lists.{at_set, at_snoc}
use Rattle.caf_steps.specs.Reference.{tested, read, written}
use Rattle.caf_tuple.specs.declared.block.View.{View}
use Rattle.caf_tuple.specs.Block.{refs_of, weight_by, weight_of, TupleRule}
use Rattle.caf_tuple.specs.Plays.{Seated, Retains, retained_view, old_view, new_view, seeing, Tests, Reads, Writes, released_view, Releases}
use Rattle.caf_tuple.proofs.SumLemmas.{sum_by-set_at, le-sum_by, two-le-sum_by, sum_by-alone}

abbrev Block : Type 0
Block = State (Unit {0}) View

refs-le-weight_by : (n room : ℕ) → n ≤ weight_by n room
refs-le-weight_by zero room = omega arith
refs-le-weight_by (suc n) room = omega arith

-- there are no more references than weight
refs-le-weight : (views : List View) → sum_by refs_of views ≤ sum_by weight_of views
refs-le-weight views = sum_by-le-sum_by refs_of weight_of views (λ v. refs-le-weight_by v.refs v.seen.room)

weight-one : (v : View) → v.refs ≡ 1 → weight_of v ≡ 1 + v.seen.room
weight-one v one = ap (λ (n : ℕ). weight_by n v.seen.room) one

weight-two : (v : View) → v.refs ≡ 2 → weight_of v ≡ 2 + v.seen.room
weight-two v two = ap (λ (n : ℕ). weight_by n v.seen.room) two

-- a load writes back what it read
set-get_or : (words : List ℕ) (i : ℕ) → set words i (get_or words i 0) ≡ words
set-get_or [] i = refl
set-get_or (w ∷ ws) zero = refl
set-get_or (w ∷ ws) (suc i) = ap (λ (rest : List ℕ). w ∷ rest) (set-get_or ws i)

-- a word of the payload stands one place behind its index
get_or-behind : (count : ℕ) (payload : List ℕ) (i : ℕ) → get_or (count ∷ payload) (i + 1) 0 ≡ get_or payload i 0
get_or-behind count payload i = rw add-one refl

set-behind : (count : ℕ) (payload : List ℕ) (i word : ℕ) → set (count ∷ payload) (i + 1) word ≡ count ∷ set payload i word
set-behind count payload i word = rw add-one refl

module _ (s : Block) (k : TupleRule s) (id : ℕ) (v : View) (at : get_elem? s.views id ≡ some v) (held : 0 < v.refs) where
  -- while a view has a reference, no other view is sole
  none-other-sole : (j : ℕ) (u : View) → j ≢ id → get_elem? s.views j ≡ some u → u.seen.sole ≡ true → ⊥
  none-other-sole j u other there sole = let gone : v.refs ≡ 0 = k.alone j id u v there sole (λ e. other (sym e)) at in omega arith

  -- One view changes, and the words with it. The others keep their references where the payload stays.
  changed : (w : View) (words payload : List ℕ) → words ≡ sum_by refs_of (set s.views id w) ∷ payload → (0 < w.refs → w.seen.content ≡ payload)
      → ((j : ℕ) (u : View) → j ≢ id → get_elem? s.views j ≡ some u → 0 < u.refs → k.payload ≡ payload)
      → (w.seen.sole ≡ true → w.refs ≡ 1) → (w.seen.sole ≡ true → (j : ℕ) (u : View) → j ≢ id → get_elem? s.views j ≡ some u → u.refs ≡ 0)
      → weight_of w ≤ weight_of v → TupleRule record { words = words; homes = s.homes; views = set s.views id w }
  changed w words payload are mine theirs single alone light = record {
    payload = payload;
    words_are = are;
    same = λ j u there some_refs. ⊎_elim
        (λ (x : (j ≡ id) × (w ≡ u)). subst (λ (y : View). 0 < y.refs → y.seen.content ≡ payload) x.1 mine some_refs)
        (λ (x : (j ≢ id) × (get_elem? s.views j ≡ some u)). k.same j u x.1 some_refs ∙ theirs j u x.0 x.1 some_refs)
        (at_set s.views id j w u there);
    single = λ j u there sole. ⊎_elim
        (λ (x : (j ≡ id) × (w ≡ u)). subst (λ (y : View). y.seen.sole ≡ true → y.refs ≡ 1) x.1 single sole)
        (λ (x : (j ≢ id) × (get_elem? s.views j ≡ some u)). k.single j u x.1 sole)
        (at_set s.views id j w u there);
    alone = λ j other u x there sole apart here. ⊎_elim
        (λ (a : (j ≡ id) × (w ≡ u)). ⊎_elim
        (λ (b : (other ≡ id) × (w ≡ x)). absurd (apart (b.0 ∙ sym a.0)))
        (λ (b : (other ≢ id) × (get_elem? s.views other ≡ some x)). alone (ap (λ (y : View). y.seen.sole) a.1 ∙ sole) other x b.0 b.1)
        (at_set s.views id other w x here))
        (λ (a : (j ≢ id) × (get_elem? s.views j ≡ some u)). absurd (none-other-sole j u a.0 a.1 sole))
        (at_set s.views id j w u there);
    bounded = let moved = sum_by-set_at weight_of s.views id v w at in let b = k.bounded in omega arith;
  }

pub retain-keeps : (slots id : ℕ) (me : Seated) → me.0.refs ≡ 1 → 1 ≤ me.0.seen.room → Allows TupleRule slots id me 0 (λ n. (n + 1) % 2 ^ 64) (Retains (step slots 0 1 0 none) me)
retain-keeps slots id me one more s k _ at small = let v : View = me.0 in let w : View = retained_view v in let held : 0 < v.refs = omega arith in
    let moved = sum_by-set_at refs_of s.views id v w at in let b = k.bounded in let fewer = refs-le-weight s.views in let heavy = weight-one v one in
    let here = le-sum_by weight_of s.views id v at in
    let n : ℕ = sum_by refs_of s.views in let m : ℕ = sum_by refs_of (set s.views id w) in let is : (n + 1) % 2 ^ 64 ≡ m = omega arith in (
      w,
      keeps,
      tt,
      changed s k id v at held w (set s.words 0 ((get_or s.words 0 0 + 1) % 2 ^ 64)) k.payload
          (ap (λ (ws : List ℕ). set ws 0 ((get_or ws 0 0 + 1) % 2 ^ 64)) k.words_are ∙ ap (λ (c : ℕ). c ∷ k.payload) is)
          (λ _. k.same id v at held) (λ _ _ _ _ _. refl) (λ sole. absurd (true≢false (sym sole))) (λ sole. absurd (true≢false (sym sole))) (omega arith),
      refl,
    )

pub split-keeps : (id : ℕ) (v : View) → v.refs ≡ 2 → Splits TupleRule id v (old_view v) (new_view v)
split-keeps id v two s k at = let l : View = old_view v in let r : View = new_view v in let held : 0 < v.refs = omega arith in
    let views : List View = set s.views id l in
    let moved = sum_by-set_at refs_of s.views id v l at in let added = sum_by_push refs_of views r in
    let moved' = sum_by-set_at weight_of s.views id v l at in let added' = sum_by_push weight_of views r in let heavy = weight-two v two in let b = k.bounded in
    let is : sum_by refs_of s.views ≡ sum_by refs_of (views ++ r ∷ []) = omega arith in
    let content : v.seen.content ≡ k.payload = k.same id v at held in
    let bound : sum_by weight_of (views ++ r ∷ []) ≤ 4611686018427387905 = omega arith in
    let not-sole : (j : ℕ) (u : View) → get_elem? (views ++ r ∷ []) j ≡ some u → u.seen.sole ≡ true → ⊥ = λ j u there sole. ⊎_elim
    (λ (x : get_elem? views j ≡ some u). ⊎_elim
    (λ (z : (j ≡ id) × (l ≡ u)). true≢false (sym (ap (λ (q : View). q.seen.sole) z.1 ∙ sole)))
    (λ (z : (j ≢ id) × (get_elem? s.views j ≡ some u)). none-other-sole s k id v at held j u z.0 z.1 sole)
    (at_set s.views id j l u x))
    (λ (x : r ≡ u). true≢false (sym (ap (λ (q : View). q.seen.sole) x ∙ sole)))
    (at_snoc views r u j there) in record {
      payload = k.payload;
      words_are = k.words_are ∙ ap (λ (c : ℕ). c ∷ k.payload) is;
      same = λ j u there some_refs. ⊎_elim
          (λ (x : get_elem? views j ≡ some u). ⊎_elim
          (λ (z : (j ≡ id) × (l ≡ u)). sym (ap (λ (q : View). q.seen.content) z.1) ∙ content)
          (λ (z : (j ≢ id) × (get_elem? s.views j ≡ some u)). k.same j u z.1 some_refs)
          (at_set s.views id j l u x))
          (λ (x : r ≡ u). sym (ap (λ (q : View). q.seen.content) x) ∙ content)
          (at_snoc views r u j there);
      single = λ j u there sole. absurd (not-sole j u there sole);
      alone = λ j other u x there sole apart here. absurd (not-sole j u there sole);
      bounded = bound;
    }

pub release-keeps : (slots id : ℕ) (me : Seated) → me.0.refs ≡ 1 → Allows TupleRule slots id me 0 (λ n. (n + (2 ^ 64 - 1)) % 2 ^ 64) (Releases (step slots 0 1 0 none) me)
release-keeps slots id me one s k _ at small = let v : View = me.0 in let w : View = released_view v in let held : 0 < v.refs = omega arith in
    let moved = sum_by-set_at refs_of s.views id v w at in let b = k.bounded in let fewer = refs-le-weight s.views in
    let n : ℕ = sum_by refs_of s.views in let m : ℕ = sum_by refs_of (set s.views id w) in let is : (n + (2 ^ 64 - 1)) % 2 ^ 64 ≡ m = omega arith in (
      w,
      keeps,
      tt,
      changed s k id v at held w (set s.words 0 ((get_or s.words 0 0 + (2 ^ 64 - 1)) % 2 ^ 64)) k.payload
          (ap (λ (ws : List ℕ). set ws 0 ((get_or ws 0 0 + (2 ^ 64 - 1)) % 2 ^ 64)) k.words_are ∙ ap (λ (c : ℕ). c ∷ k.payload) is)
          (λ some_refs. absurd (omega arith)) (λ _ _ _ _ _. refl) (λ sole. absurd (true≢false (sym sole))) (λ sole. absurd (true≢false (sym sole))) (omega arith),
      refl,
    )

pub test-keeps : (slots id : ℕ) (me : Seated) → me.0.refs ≡ 1 → Allows TupleRule slots id me 0 (λ n. n) (Tests (step slots 0 0 0 none) me)
test-keeps slots id me one s k _ at small = let v : View = me.0 in let n : ℕ = get_or s.words 0 0 in let w : View = seeing (tested n v.seen) v in let held : 0 < v.refs = omega arith in
    let moved = sum_by-set_at refs_of s.views id v w at in let here : refs_of v ≤ sum_by refs_of s.views = le-sum_by refs_of s.views id v at in
    let found : n ≡ sum_by refs_of s.views = ap (λ (ws : List ℕ). get_or ws 0 0) k.words_are in
    let is : sum_by refs_of s.views ≡ sum_by refs_of (set s.views id w) = omega arith in (
      w,
      keeps,
      tt,
      changed s k id v at held w (set s.words 0 n) k.payload
          (set-get_or s.words 0 ∙ k.words_are ∙ ap (λ (c : ℕ). c ∷ k.payload) is)
          (λ _. k.same id v at held) (λ _ _ _ _ _. refl) (λ _. one)
          (λ sole j u other there. let read_one = eqb-true n 1 sole in let both = two-le-sum_by refs_of s.views id j v u at there other in omega arith)
          (omega arith),
      (refl, omega arith, λ sole. let only = sum_by-alone refs_of s.views id v at (λ j u other there. k.alone id j v u at sole other there) in found ∙ only ∙ one),
    )

pub read-keeps : (slots id i : ℕ) (me : Seated) → me.0.refs ≡ 1 → Allows TupleRule slots id me (i + 1) (λ n. n) (Reads (step slots (i + 1) 0 0 none) me)
read-keeps slots id i me one s k _ at small = let v : View = me.0 in let n : ℕ = get_or s.words (i + 1) 0 in let w : View = seeing (read ((i + 1) - 1) n v.seen) v in let held : 0 < v.refs = omega arith in
    let moved = sum_by-set_at refs_of s.views id v w at in
    let is : sum_by refs_of s.views ≡ sum_by refs_of (set s.views id w) = omega arith in
    let content : v.seen.content ≡ k.payload = k.same id v at held in (
      w,
      keeps,
      tt,
      changed s k id v at held w (set s.words (i + 1) n) k.payload
          (set-get_or s.words (i + 1) ∙ k.words_are ∙ ap (λ (c : ℕ). c ∷ k.payload) is)
          (λ _. content) (λ _ _ _ _ _. refl) (λ _. one) (λ sole j u other there. k.alone id j v u at sole other there) (omega arith),
      (refl, ap (λ (ws : List ℕ). get_or ws (i + 1) 0) k.words_are ∙ get_or-behind (sum_by refs_of s.views) k.payload i ∙ ap (λ (l : List ℕ). get_or l i 0) (sym content) ∙ ap (λ (j : ℕ). get_or v.seen.content j 0) (omega arith)),
    )

pub write-keeps : (slots id i x : ℕ) (me : Seated) → me.0.refs ≡ 1 → me.0.seen.sole ≡ true → Allows TupleRule slots id me (i + 1) (λ _. x) (λ _. Writes (step slots (i + 1) x 0 none) me x)
write-keeps slots id i x me one sole s k _ at small = let v : View = me.0 in let w : View = seeing (written ((i + 1) - 1) x v.seen) v in let held : 0 < v.refs = omega arith in
    let moved = sum_by-set_at refs_of s.views id v w at in
    let is : sum_by refs_of s.views ≡ sum_by refs_of (set s.views id w) = omega arith in
    let content : v.seen.content ≡ k.payload = k.same id v at held in (
      w,
      keeps,
      tt,
      changed s k id v at held w (set s.words (i + 1) x) (set k.payload i x)
          (ap (λ (ws : List ℕ). set ws (i + 1) x) k.words_are ∙ set-behind (sum_by refs_of s.views) k.payload i x ∙ ap (λ (c : ℕ). c ∷ set k.payload i x) is)
          (λ _. ap (λ (j : ℕ). set v.seen.content j x) (omega arith) ∙ ap (λ (l : List ℕ). set l i x) content)
          (λ j u other there some_refs. let gone = k.alone id j v u at sole other there in absurd (omega arith))
          (λ _. one) (λ sole' j u other there. k.alone id j v u at sole other there) (omega arith),
      refl,
    )

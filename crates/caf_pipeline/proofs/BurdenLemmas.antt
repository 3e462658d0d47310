-- Envelopes weighed by where they go: what places took weighs no more than what was sent to them.
use Rattle.std.proofs.Common.{◌≡◌, ℕ, suc, ◌+◌, ◌≤◌, ◌<◌, ◌==◌, ◌&&◌, Bool, true, false, List, [], ◌∷◌, ◌++◌, length, map, cond, inl, inr, refl, sym, subst, ap, ◌∙◌, arith}
use Rattle.std.specs.Prelude.{◌⊎◌}
use Rattle.std.specs.List.{AllByRecursion}
use Rattle.std.proofs.lemmas.Bool.{cases_lt}
use Rattle.std.proofs.lemmas.Bool.Decides.{nat_tests}
use Rattle.caf_message.specs.declared.envelope.Taken.{Taken}
use Rattle.caf_message.specs.Envelope.{outside, start_envelope}
use Rattle.caf_actor.specs.PlainPost.{PlainPost}
use Rattle.caf_actor.specs.Record.{Machine, Kept, IsLegal, IsPrefix, to_place, joined, heard, told, when, posted, sent, taken_by, sent_by, outside_sends, sum_below}
use Rattle.caf_actor.specs.declared.journal.TakenBatch.{TakenBatch}
use Rattle.caf_carriers.proofs.CountLemmas.{sum_same, sum_less, sum_plus, sum_none, same_number}
use Rattle.caf_carriers.proofs.TotalLemmas.{eq_comm}
use Rattle.caf_steady.specs.Outline.{Bare, bare}
use Rattle.caf_pipeline.proofs.HeavyLemmas.{heavy, heavy_append, heavy_next, heavy_prefix, sum_most, sum_swap, by_sender, all_senders, are_from}

-- ---- by receiver

-- an envelope to place `b` weighs one more than `v b`
module _ (v : ℕ → ℕ) where
  abbrev pub weigh : List Bare → ℕ
  weigh [] = 0
  weigh (b ∷ bs) = suc (v b.to) + weigh bs

  pub weigh_append : (xs ys : List Bare) → weigh (xs ++ ys) ≡ weigh xs + weigh ys
  weigh_append [] ys = omega arith
  weigh_append (x ∷ xs) ys = let rest = weigh_append xs ys in omega (arith, rest)

  by_receiver : (n : ℕ) (ps : List PlainPost) → sum_below n (λ b. heavy (suc (v b)) (to_place b ps)) ≤ weigh (map bare ps)
  by_receiver n [] = let none = sum_none n (λ b. 0) (λ i less. refl) in omega (arith, none)
  by_receiver n (p ∷ ps) =
      let rest = by_receiver n ps in
      let each = sum_same n (λ b. heavy (suc (v b)) (to_place b (p ∷ ps))) (λ b. cond (b == p.to) (suc (v p.to)) 0 + heavy (suc (v b)) (to_place b ps)) (λ b less. to_one b (b == p.to) refl) in
      let parts = sum_plus n (λ b. cond (b == p.to) (suc (v p.to)) 0) (λ b. heavy (suc (v b)) (to_place b ps)) in
      let it = sum_most n p.to (suc (v p.to)) in
      omega (arith, rest, each, parts, it)
    where
      to_one : (b : ℕ) (c : Bool) → (b == p.to) ≡ c → heavy (suc (v b)) (to_place b (p ∷ ps)) ≡ cond (b == p.to) (suc (v p.to)) 0 + heavy (suc (v b)) (to_place b ps)
      to_one b true q =
          let r : (p.to == b) ≡ true = eq_comm p.to b ∙ q in
          let same : v b ≡ v p.to = ap v (same_number b p.to q) in
          rw (r, q) (omega (arith, same))
      to_one b false q = let r : (p.to == b) ≡ false = eq_comm p.to b ∙ q in rw (r, q) (omega arith)

  -- ---- a legal record in which the outside sent Start alone

  module _ {S : Type 0} (m : Machine S) (ticks : ℕ) (k : Kept S) (legal : IsLegal m ticks k) (silent : heard (k.journal 0) ≡ []) where
    abbrev took : ℕ → List Taken
    took p = joined (k.journal p)

    abbrev sends : ℕ → ℕ → List Taken
    sends a b = sent m (k.start a) (k.journal a) b

    -- a place that isn't there sends nothing
    none_sent : (a b : ℕ) → k.places ≤ a → sends a b ≡ []
    none_sent a b high = ap (λ (bs : List TakenBatch). sent m (k.start a) bs b) (legal.inside a high)

    none_told : (a b : ℕ) → (outside == a) ≡ false → outside_sends k a b ≡ []
    none_told a b other = ap (λ (c : Bool). when (c && (0 == b)) (told (k.journal 0))) other

    is_inside : (a : ℕ) → a < k.places → (outside == a) ≡ false
    is_inside a less = let few = legal.places in grind (arith, nat_tests, few, less)

    senders : (b : ℕ) → AllByRecursion (λ e. (e.sender < k.places) ⊎ (outside ≡ e.sender)) (took b)
    senders b = all_senders (λ e. (e.sender < k.places) ⊎ (outside ≡ e.sender)) (took b) (λ a. go a (outside == a) refl)
      where
        none : (a : ℕ) (es : List Taken) → IsPrefix es [] → AllByRecursion (λ e. (e.sender < k.places) ⊎ (outside ≡ e.sender)) es
        none a [] first = tt
        none a (e ∷ es) first = let bad : ◌≡◌ {A = List Taken} (e ∷ (es ++ first.0)) [] = first.1 in absurd cc

        those : (a : ℕ) → (a < k.places) ⊎ (outside ≡ a) → AllByRecursion (λ e. (e.sender < k.places) ⊎ (outside ≡ e.sender)) (taken_by k a b)
        those a is = as_from (taken_by k a b) (are_from a (took b))
          where
            as_from : (es : List Taken) → AllByRecursion (λ e. e.sender ≡ a) es → AllByRecursion (λ e. (e.sender < k.places) ⊎ (outside ≡ e.sender)) es
            as_from [] all = tt
            as_from (e ∷ es) all = (subst (λ (x : ℕ). (x < k.places) ⊎ (outside ≡ x)) (sym all.0) is, as_from es all.1)

        absent : (a : ℕ) → (outside == a) ≡ false → k.places ≤ a → sent_by m k a b ≡ []
        absent a other high = ap (λ (es : List Taken). es ++ sends a b) (none_told a b other) ∙ none_sent a b high

        go : (a : ℕ) (c : Bool) → (outside == a) ≡ c → AllByRecursion (λ e. (e.sender < k.places) ⊎ (outside ≡ e.sender)) (taken_by k a b)
        go a true q = those a (inr (same_number outside a q))
        go a false q = elim (cases_lt a k.places) [
          | inl less ↦ those a (inl less)
          | inr high ↦ none a (taken_by k a b) (subst (IsPrefix (taken_by k a b)) (absent a q high) (legal.pairs a b))
        ]

    -- what a place sends to another weighs as much as what it posts to it
    from_inside : (a b w : ℕ) → a < k.places → heavy w (taken_by k a b) ≤ heavy w (sends a b)
    from_inside a b w less =
        let most = heavy_prefix w (taken_by k a b) (sent_by m k a b) (legal.pairs a b) in
        let same = ap (λ (es : List Taken). heavy w (es ++ sends a b)) (none_told a b (is_inside a less)) in
        omega (arith, most, same)

    -- the outside sends Start to place 0
    from_outside : (b w : ℕ) → heavy w (taken_by k outside b) ≤ cond (b == 0) w 0
    from_outside b w = go (b == 0) refl
      where
        yes : (outside == outside) ≡ true
        yes = refl

        most : heavy w (taken_by k outside b) ≤ heavy w (outside_sends k outside b)
        most =
            let first = heavy_prefix w (taken_by k outside b) (sent_by m k outside b) (legal.pairs outside b) in
            let parts = heavy_append w (outside_sends k outside b) (sends outside b) in
            let none = ap (λ (es : List Taken). heavy w es) (none_sent outside b legal.places) in
            omega (arith, first, parts, none)

        go : (c : Bool) → (b == 0) ≡ c → heavy w (taken_by k outside b) ≤ cond (b == 0) w 0
        go true q =
            let r : (0 == b) ≡ true = eq_comm 0 b ∙ q in
            let one : heavy w (outside_sends k outside b) ≡ w + 0 = rw r (ap (λ (bs : List TakenBatch). heavy w (start_envelope ∷ joined bs)) silent) in
            let all = most in
            let here : cond (b == 0) w 0 ≡ w = rw q refl in
            omega (arith, one, all, here)
        go false q =
            let r : (0 == b) ≡ false = eq_comm 0 b ∙ q in
            let none : heavy w (outside_sends k outside b) ≡ 0 = rw r refl in
            let all = most in
            omega (arith, none, all)

    -- what all places took weighs no more than what they sent, and Start
    pub all_taken_weigh : sum_below k.places (λ b. heavy (suc (v b)) (took b)) ≤ sum_below k.places (λ a. weigh (map bare (posted m (k.start a) (k.journal a)))) + suc (v 0)
    all_taken_weigh =
        let n = k.places in
        let each = sum_less n (λ b. heavy (suc (v b)) (took b)) (λ b. sum_below n (λ a. heavy (suc (v b)) (sends a b)) + cond (b == 0) (suc (v 0)) 0) (λ b less. at b (b == 0) refl) in
        let parts = sum_plus n (λ b. sum_below n (λ a. heavy (suc (v b)) (sends a b))) (λ b. cond (b == 0) (suc (v 0)) 0) in
        let start = sum_most n 0 (suc (v 0)) in
        let turned = sum_swap n n (λ a b. heavy (suc (v b)) (sends a b)) in
        let received = sum_less n (λ a. sum_below n (λ b. heavy (suc (v b)) (sends a b))) (λ a. weigh (map bare (posted m (k.start a) (k.journal a)))) (λ a less. by_receiver n (posted m (k.start a) (k.journal a))) in
        omega (arith, each, parts, start, turned, received)
      where
        at : (b : ℕ) (c : Bool) → (b == 0) ≡ c → heavy (suc (v b)) (took b) ≤ sum_below k.places (λ a. heavy (suc (v b)) (sends a b)) + cond (b == 0) (suc (v 0)) 0
        at b c q =
            let w = suc (v b) in
            let parts = by_sender k.places w (took b) (senders b) in
            let inside = sum_less k.places (λ a. heavy w (taken_by k a b)) (λ a. heavy w (sends a b)) (λ a less. from_inside a b w less) in
            let out = from_outside b w in
            let same = start_only c q in
            omega (arith, parts, inside, out, same)
          where
            start_only : (c : Bool) → (b == 0) ≡ c → cond (b == 0) (suc (v b)) 0 ≡ cond (b == 0) (suc (v 0)) 0
            start_only true q = let here : v b ≡ v 0 = ap v (same_number b 0 q) in rw q (ap suc here)
            start_only false q = rw q refl

    -- ---- how many were taken

    -- where each place sends no more than what it has, and what it took brings, all together took no more than what they
    -- have, and Start
    pub taken_most : (has : ℕ → ℕ) → ((p : ℕ) → p < k.places → weigh (map bare (posted m (k.start p) (k.journal p))) ≤ has p + heavy (v p) (took p))
        → sum_below k.places (λ p. length (took p)) ≤ sum_below k.places has + suc (v 0)
    taken_most has pays =
        let n = k.places in
        let all = all_taken_weigh in
        let each = sum_same n (λ b. heavy (suc (v b)) (took b)) (λ b. length (took b) + heavy (v b) (took b)) (λ b less. heavy_next (v b) (took b)) in
        let parts = sum_plus n (λ b. length (took b)) (λ b. heavy (v b) (took b)) in
        let paid = sum_less n (λ p. weigh (map bare (posted m (k.start p) (k.journal p)))) (λ p. has p + heavy (v p) (took p)) pays in
        let halves = sum_plus n has (λ p. heavy (v p) (took p)) in
        omega (arith, all, each, parts, paid, halves)

-- At rest all that was taken weighs as much as all that was posted, whatever each body weighs at each place.
use Rattle.std.proofs.Common.{◌≡◌, ℕ, zero, suc, ◌+◌, ◌≤◌, ◌<◌, ◌==◌, Bool, true, false, cond, List, [], ◌∷◌, refl, sym, subst, ap, ◌∙◌, arith}
use Rattle.std.proofs.lemmas.Bool.Decides.{nat_tests}
use Rattle.caf_types.specs.declared.notice.Notice.TheVariants as notice
use Rattle.caf_message.specs.Envelope.{outside, start_envelope}
use Rattle.caf_message.specs.declared.envelope.Plain.{Plain}
use Rattle.caf_message.specs.declared.envelope.Plain.TheVariants as «plain»
use Rattle.caf_message.specs.declared.envelope.Taken.{Taken}
use Rattle.caf_record.proofs.RunLemmas.{from_own}
use Rattle.caf_carriers.proofs.CountLemmas.{sum_same, sum_plus, sum_none, sum_one, self_same, same_number}
use Rattle.caf_actor.specs.PlainPost.{PlainPost}
use Rattle.caf_actor.specs.Record.{Machine, Kept, IsLegal, IsAtRest, from_place, to_place, joined, posted, sent, sent_by, heard, sum_below}
use Rattle.caf_actor.specs.declared.journal.TakenBatch.{TakenBatch}
use Rattle.caf_pipeline.proofs.ArrivalLemmas.{all_taken}

-- ---- sums

pub sum_swap : (n k : ℕ) (g : ℕ → ℕ → ℕ) → sum_below n (λ b. sum_below k (λ a. g a b)) ≡ sum_below k (λ a. sum_below n (λ b. g a b))
sum_swap zero k g = sym (sum_none k (λ a. 0) (λ a low. refl))
sum_swap (suc n) k g = ap (λ x. x + sum_below k (λ a. g a n)) (sum_swap n k g) ∙ sym (sum_plus k (λ a. sum_below n (λ b. g a b)) (λ a. g a n))

-- ---- weights of bodies at places

module _ (w : ℕ → Plain → ℕ) where
  abbrev pub taken_weight : ℕ → List Taken → ℕ
  taken_weight b [] = 0
  taken_weight b (e ∷ es) = w b e.body + taken_weight b es

  abbrev pub posted_weight : List PlainPost → ℕ
  posted_weight [] = 0
  posted_weight (p ∷ ps) = w p.to p.envelope.body + posted_weight ps

  -- ---- by sender

  module _ (places b : ℕ) (few : places ≤ outside) where
    abbrev NoOthers : List Taken → Type 0
    NoOthers es = (a : ℕ) → places ≤ a → (outside == a) ≡ false → from_place a es ≡ []

    rest_none : (e : Taken) (es : List Taken) → NoOthers (e ∷ es) → NoOthers es
    rest_none e es none a above other = go (e.sender == a) refl
      where
        go : (c : Bool) → (e.sender == a) ≡ c → from_place a es ≡ []
        go true q = let bad : ◌≡◌ {A = List Taken} (e ∷ from_place a es) [] = rw q at (none a above other) in cc
        go false q = rw q at (none a above other)

    from_one : (a : ℕ) (e : Taken) (es : List Taken) → taken_weight b (from_place a (e ∷ es)) ≡ cond (a == e.sender) (w b e.body) 0 + taken_weight b (from_place a es)
    from_one a e es = go (e.sender == a) refl
      where
        go : (c : Bool) → (e.sender == a) ≡ c → taken_weight b (from_place a (e ∷ es)) ≡ cond (a == e.sender) (w b e.body) 0 + taken_weight b (from_place a es)
        go true q = let r : (a == e.sender) ≡ true = grind (arith, nat_tests) in rw (q, r) refl
        go false q = let r : (a == e.sender) ≡ false = grind (arith, nat_tests) in rw (q, r) (omega arith)

    pub by_sender : (es : List Taken) → NoOthers es → sum_below places (λ a. taken_weight b (from_place a es)) + taken_weight b (from_place outside es) ≡ taken_weight b es
    by_sender [] none = let nothing = sum_none places (λ a. 0) (λ a low. refl) in omega (arith, nothing)
    by_sender (e ∷ es) none = go (outside == e.sender) refl (by_sender es (rest_none e es none))
      where
        sums : sum_below places (λ a. taken_weight b (from_place a (e ∷ es))) ≡ sum_below places (λ a. cond (a == e.sender) (w b e.body) 0) + sum_below places (λ a. taken_weight b (from_place a es))
        sums =
            sum_same places (λ a. taken_weight b (from_place a (e ∷ es))) (λ a. cond (a == e.sender) (w b e.body) 0 + taken_weight b (from_place a es)) (λ a low. from_one a e es)
            ∙ sum_plus places (λ a. cond (a == e.sender) (w b e.body) 0) (λ a. taken_weight b (from_place a es))

        beyond : (outside == e.sender) ≡ false → places ≤ e.sender → ⊥
        beyond other above = let bad : ◌≡◌ {A = List Taken} (e ∷ from_place e.sender es) [] = sym (from_own e es) ∙ none e.sender above other in cc

        inside : (outside == e.sender) ≡ false → e.sender < places
        inside other = let never = beyond other in grind (arith, nat_tests, never)

        go : (c : Bool) → (outside == e.sender) ≡ c → sum_below places (λ a. taken_weight b (from_place a es)) + taken_weight b (from_place outside es) ≡ taken_weight b es
            → sum_below places (λ a. taken_weight b (from_place a (e ∷ es))) + taken_weight b (from_place outside (e ∷ es)) ≡ taken_weight b (e ∷ es)
        go false q rest =
            let it = sum_one places e.sender (w b e.body) (inside q) in
            let last = from_one outside e es in
            let none_here : cond (outside == e.sender) (w b e.body) 0 ≡ 0 = rw q refl in
            let both = sums in
            omega (arith, it, last, none_here, both, rest)
        go true q rest =
            let here = same_number outside e.sender q in
            let nothing : sum_below places (λ a. cond (a == e.sender) (w b e.body) 0) ≡ 0 =
            sum_none places (λ a. cond (a == e.sender) (w b e.body) 0) (λ a low. let no : (a == e.sender) ≡ false = grind (arith, nat_tests, here, few, low) in rw no refl) in
            let last = from_one outside e es in
            let it : cond (outside == e.sender) (w b e.body) 0 ≡ w b e.body = rw q refl in
            let both = sums in
            omega (arith, nothing, last, it, both, rest)

  -- ---- by receiver

  module _ (places : ℕ) where
    to_one : (b : ℕ) (p : PlainPost) (ps : List PlainPost) → taken_weight b (to_place b (p ∷ ps)) ≡ cond (b == p.to) (w p.to p.envelope.body) 0 + taken_weight b (to_place b ps)
    to_one b p ps = go (p.to == b) refl
      where
        go : (c : Bool) → (p.to == b) ≡ c → taken_weight b (to_place b (p ∷ ps)) ≡ cond (b == p.to) (w p.to p.envelope.body) 0 + taken_weight b (to_place b ps)
        go true q =
            let r : (b == p.to) ≡ true = grind (arith, nat_tests) in
            let same : w b p.envelope.body ≡ w p.to p.envelope.body = ap (λ x. w x p.envelope.body) (sym (same_number p.to b q)) in
            rw (q, r) (ap (λ x. x + taken_weight b (to_place b ps)) same)
        go false q = let r : (b == p.to) ≡ false = grind (arith, nat_tests) in rw (q, r) (omega arith)

    pub by_receiver : (ps : List PlainPost) → ((b : ℕ) → places ≤ b → to_place b ps ≡ []) → sum_below places (λ b. taken_weight b (to_place b ps)) ≡ posted_weight ps
    by_receiver [] none = sum_none places (λ b. 0) (λ b low. refl)
    by_receiver (p ∷ ps) none =
        let rest = by_receiver ps (λ b above. others b above (p.to == b) refl) in
        let sums = sum_same places (λ b. taken_weight b (to_place b (p ∷ ps))) (λ b. cond (b == p.to) (w p.to p.envelope.body) 0 + taken_weight b (to_place b ps)) (λ b low. to_one b p ps) in
        let parts = sum_plus places (λ b. cond (b == p.to) (w p.to p.envelope.body) 0) (λ b. taken_weight b (to_place b ps)) in
        let it = sum_one places p.to (w p.to p.envelope.body) inside in
        omega (arith, rest, sums, parts, it)
      where
        others : (b : ℕ) → places ≤ b → (c : Bool) → (p.to == b) ≡ c → to_place b ps ≡ []
        others b above true q = let bad : ◌≡◌ {A = List Taken} (p.envelope ∷ to_place b ps) [] = rw q at (none b above) in cc
        others b above false q = rw q at (none b above)

        now : places ≤ p.to → ⊥
        now above = let bad : ◌≡◌ {A = List Taken} (p.envelope ∷ to_place p.to ps) [] = rw (self_same p.to) at (none p.to above) in cc

        inside : p.to < places
        inside = let no = now in grind (arith, nat_tests, no)

-- ---- a record at rest

module _ {S : Type 0} (m : Machine S) (ticks : ℕ) (k : Kept S) (legal : IsLegal m ticks k) (rest : IsAtRest m k) (silent : heard (k.journal 0) ≡ []) (w : ℕ → Plain → ℕ)
    (start_none : w 0 («plain».System notice.Start) ≡ 0) where
  abbrev n : ℕ
  n = k.places

  -- what a place sent, and nothing of the outside
  inside_sends : (a b : ℕ) → (outside == a) ≡ false → sent_by m k a b ≡ sent m (k.start a) (k.journal a) b
  inside_sends a b other = rw other refl

  none_outside : (b a : ℕ) → n ≤ a → (outside == a) ≡ false → from_place a (joined (k.journal b)) ≡ []
  none_outside b a above other =
      sym (all_taken m ticks k legal rest a b) ∙ inside_sends a b other ∙ ap (λ (bs : List TakenBatch). sent m (k.start a) bs b) (legal.inside a above)

  none_beyond : (a b : ℕ) → (outside == a) ≡ false → n ≤ b → to_place b (posted m (k.start a) (k.journal a)) ≡ []
  none_beyond a b other above =
      sym (inside_sends a b other) ∙ all_taken m ticks k legal rest a b ∙ ap (λ (bs : List TakenBatch). from_place a (joined bs)) (legal.inside b above)

  not_outside : (a : ℕ) → a < n → (outside == a) ≡ false
  not_outside a low = let few = legal.places in grind (arith, nat_tests, few, low)

  outside_weighs : (b : ℕ) → taken_weight w b (from_place outside (joined (k.journal b))) ≡ 0
  outside_weighs b = ap (taken_weight w b) (sym (all_taken m ticks k legal rest outside b)) ∙ go (0 == b) refl
    where
      nothing : sent m (k.start outside) (k.journal outside) b ≡ []
      nothing = ap (λ (bs : List TakenBatch). sent m (k.start outside) bs b) (legal.inside outside legal.places)

      go : (c : Bool) → (0 == b) ≡ c → taken_weight w b (sent_by m k outside b) ≡ 0
      go true q =
          let here = same_number 0 b q in
          let all : sent_by m k outside b ≡ start_envelope ∷ [] = rw (q, nothing, silent) refl in
          let none : w b («plain».System notice.Start) ≡ 0 = subst (λ (x : ℕ). w x («plain».System notice.Start) ≡ 0) here start_none in
          ap (taken_weight w b) all ∙ ap (λ x. x + 0) none
      go false q = let all : sent_by m k outside b ≡ [] = rw (q, nothing) refl in ap (taken_weight w b) all

  pub all_weighs : sum_below n (λ b. taken_weight w b (joined (k.journal b))) ≡ sum_below n (λ a. posted_weight w (posted m (k.start a) (k.journal a)))
  all_weighs =
      sum_same n (λ b. taken_weight w b (joined (k.journal b))) (λ b. sum_below n (λ a. taken_weight w b (to_place b (posted m (k.start a) (k.journal a))))) (λ b low. at_receiver b)
      ∙ sum_swap n n (λ a b. taken_weight w b (to_place b (posted m (k.start a) (k.journal a))))
      ∙ sum_same n (λ a. sum_below n (λ b. taken_weight w b (to_place b (posted m (k.start a) (k.journal a))))) (λ a. posted_weight w (posted m (k.start a) (k.journal a)))
      (λ a low. by_receiver w n (posted m (k.start a) (k.journal a)) (λ b above. none_beyond a b (not_outside a low) above))
    where
      at_receiver : (b : ℕ) → taken_weight w b (joined (k.journal b)) ≡ sum_below n (λ a. taken_weight w b (to_place b (posted m (k.start a) (k.journal a))))
      at_receiver b =
          let senders = by_sender w n b legal.places (joined (k.journal b)) (λ a above other. none_outside b a above other) in
          let out = outside_weighs b in
          let same = sum_same n (λ a. taken_weight w b (from_place a (joined (k.journal b)))) (λ a. taken_weight w b (to_place b (posted m (k.start a) (k.journal a))))
          (λ a low. ap (taken_weight w b) (sym (all_taken m ticks k legal rest a b) ∙ inside_sends a b (not_outside a low))) in
          omega (arith, senders, out, same)

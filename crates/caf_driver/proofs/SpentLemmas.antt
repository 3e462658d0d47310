-- Which place has the last stamp, or something to take that has it.
use Rattle.std.proofs.Common.{◌≡◌, ◌≢◌, ℕ, zero, suc, ◌+◌, ◌<◌, ◌≤◌, ◌==◌, ◌||◌, Bool, true, false, List, [], ◌∷◌, ◌++◌, length, slice_get, slice_index_or, take, Some, refl, ap, sym, ◌∙◌, subst, arith, inl, inr, ◌⊎◌}
use Rattle.std.specs.List.{AllByRecursion, list_any}
use Rattle.std.proofs.lemmas.Bool.Decides.{nat_tests}
use Rattle.std.proofs.lemmas.List.{take_more}
use Rattle.std.proofs.lemmas.List.Folds.{list_any-append}
use Rattle.caf_types.specs.Limits.{latest_stamp}
use Rattle.caf_message.specs.declared.envelope.Taken.{Taken}
use Rattle.caf_message.specs.Entries.{TableEntries, entry_shape}
use Rattle.caf_actor.specs.Actor.{ActorState}
use Rattle.caf_actor.specs.Rules.{Rules}
use Rattle.caf_driver.specs.Places.{is_filled, IsRising, has_place}
use Rattle.caf_driver.specs.Arrivals.{has_last}
use Rattle.caf_driver.specs.Mail.{Waiting, arriving_at, waiting_in, IsMail}
use Rattle.caf_driver.specs.Population.{PopulationSeen, IsSound, IsPopulation}
use Rattle.caf_driver.specs.Driver.{IsSpent}
use Rattle.caf_driver.proofs.ArrivalLemmas.{any_at, at_any}
use Rattle.caf_driver.proofs.MailLemmas.{known_place, senders_filled}
use Rattle.caf_driver.proofs.PopulationLemmas.{greatest_most}

-- ---- what is offered waits, and what waits is offered

pub first_in : (list : List ℕ) → is_filled list ≡ true → (a : ℕ) × (has_place list a ≡ true)
first_in [] q = cc
first_in (x ∷ xs) q = let same : (x == x) ≡ true = grind (arith, nat_tests) in (x, rw same refl)

filled_some : (es : List Taken) → is_filled es ≡ true → es ≢ []
filled_some [] q e = cc
filled_some (x ∷ es) q e = cc

pub offered_waits : (v : Waiting) (place : ℕ) → IsMail v → has_place v.offered place ≡ true → (a : ℕ) × (waiting_in v a place ≢ [])
offered_waits v place h q =
    let sender = first_in (arriving_at v place).senders (sym (h.offered place) ∙ q) in
    (sender.0, filled_some (waiting_in v sender.0 place) (sym ((h.arrivals place).offered sender.0) ∙ sender.1))

pub waits_offered : (v : Waiting) (place a : ℕ) → IsMail v → waiting_in v a place ≢ [] → has_place v.offered place ≡ true
waits_offered v place a h some = h.offered place ∙ senders_filled (arriving_at v place) a (h.arrivals place) some

pub offered_known : (v : Waiting) (place : ℕ) → IsMail v → has_place v.offered place ≡ true → place < length v.arrivals
offered_known v place h q = let waits = offered_waits v place h q in known_place v.arrivals place waits.0 waits.1

-- ---- one place

module _ {S : Type 0} (actors : List (ActorState S)) (v : Waiting) (place : ℕ) (h : IsMail v) (actor : ActorState S) (at : slice_get actors place ≡ Some actor) where
  pub spent_own : has_place v.offered place ≡ true → actor.snapshot.stamp ≡ latest_stamp → IsSpent actors (waiting_in v) place
  spent_own q e = record { actor = actor; at = at; waits = offered_waits v place h q; last = inl e }

  pub spent_mail : has_place v.offered place ≡ true → list_any has_last (arriving_at v place).queues ≡ true → IsSpent actors (waiting_in v) place
  spent_mail q any = record { actor = actor; at = at; waits = offered_waits v place h q; last = inr (any_at (arriving_at v place).queues any) }

  pub not_spent : (actor.snapshot.stamp ≡ latest_stamp → ⊥) → list_any has_last (arriving_at v place).queues ≡ false → IsSpent actors (waiting_in v) place → ⊥
  not_spent early none s = go s.last
    where
      go : (s.actor.snapshot.stamp ≡ latest_stamp) ⊎ ((a : ℕ) × (list_any (λ e. e.stamp == latest_stamp) (waiting_in v a place) ≡ true)) → ⊥
      go (inl e) = let same : Some s.actor ≡ Some actor = sym s.at ∙ at in let is : s.actor ≡ actor = cc in early (sym (ap (λ x. x.snapshot.stamp) is) ∙ e)
      go (inr e) = let yes = at_any (arriving_at v place).queues e.0 e.1 in let wrong : false ≡ true = sym none ∙ yes in cc

-- ---- before the last stamp nothing is spent

none_last : (low : ℕ) → low < latest_stamp → (es : List Taken) → AllByRecursion (λ e. e.stamp ≤ low) es → list_any (λ e. e.stamp == latest_stamp) es ≡ false
none_last low lt [] all = refl
none_last low lt (e ∷ es) all =
    let le = all.0 in
    let no : (e.stamp == latest_stamp) ≡ false = other e.stamp (omega arith) in
    rw no (none_last low lt es all.1)
  where
    other : (n : ℕ) → n < latest_stamp → (n == latest_stamp) ≡ false
    other n less = grind (arith, nat_tests)

pub early_not_spent : {S : Type 0} (valid : S → Type 0) (rules : Rules S) (entries : TableEntries) (p : PopulationSeen S) → IsPopulation valid rules entries p → p.latest < latest_stamp → (place : ℕ) → IsSpent p.actors (waiting_in p.mail) place → ⊥
early_not_spent {S} valid rules entries p h lt place s = go s.last
  where
    go : (s.actor.snapshot.stamp ≡ latest_stamp) ⊎ ((a : ℕ) × (list_any (λ e. e.stamp == latest_stamp) (waiting_in p.mail a place) ≡ true)) → ⊥
    go (inl e) = let most = greatest_most p.actors place s.actor s.at in let is = h.latest in omega arith
    go (inr e) =
        let low = all_low (waiting_in p.mail e.0 place) (h.sound e.0 place) in
        let none = none_last p.latest lt (waiting_in p.mail e.0 place) low in
        let wrong : false ≡ true = sym none ∙ e.1 in cc
      where
        all_low : (es : List Taken) → AllByRecursion (IsSound (entry_shape entries) (length p.actors) p.latest) es → AllByRecursion (λ (x : Taken). x.stamp ≤ p.latest) es
        all_low [] all = tt
        all_low (x ∷ es) all = (all.0.stamp, all_low es all.1)

-- ---- going over the offered places

-- a lesser place in a rising list stands before
pub before_it : (list : List ℕ) (i place q : ℕ) → IsRising list → place ≡ slice_index_or list i place → i < length list → q < place → has_place list q ≡ true → has_place (take i list) q ≡ true
before_it [] i place q r e lt less has = cc
before_it (x ∷ xs) zero place q r e lt less has = go (x == q) refl has
  where
    past : (ys : List ℕ) → AllByRecursion (λ y. x < y) ys → has_place ys q ≡ true → ⊥
    past [] all h = cc
    past (y ∷ ys) all h = at (y == q) refl h (past ys all.1)
      where
        at : (b : Bool) → (y == q) ≡ b → (b || has_place ys q) ≡ true → (has_place ys q ≡ true → ⊥) → ⊥
        at true s t on = let more = all.0 in let no : ⊥ = grind (arith, nat_tests) in no
        at false s t on = on t

    go : (b : Bool) → (x == q) ≡ b → (b || has_place xs q) ≡ true → has_place (take zero (x ∷ xs)) q ≡ true
    go true s t = let no : ⊥ = grind (arith, nat_tests) in absurd no
    go false s t = absurd (past xs r.0 t)
before_it (x ∷ xs) (suc i) place q r e lt less has = go (x == q) refl has (before_it xs i place q r.1 e (omega arith) less)
  where
    go : (b : Bool) → (x == q) ≡ b → (b || has_place xs q) ≡ true → (has_place xs q ≡ true → has_place (take i xs) q ≡ true) → has_place (take (suc i) (x ∷ xs)) q ≡ true
    go true s t on = rw s refl
    go false s t on = rw s (on t)

-- one place more was gone over
pub more_places : (P : ℕ → Type 0) (xs : List ℕ) (i x : ℕ) → x ≡ slice_index_or xs i x → i < length xs → ((q : ℕ) → has_place (take i xs) q ≡ true → P q) → P x → (q : ℕ) → has_place (take (i + 1) xs) q ≡ true → P q
more_places P xs i x e lt before this q has = go (has_place (take i xs) q) refl
  where
    split : has_place (take (i + 1) xs) q ≡ (has_place (take i xs) q || ((x == q) || false))
    split = ap (λ ys. has_place ys q) (take_more xs i x lt ∙ ap (λ y. take i xs ++ y ∷ []) (sym e)) ∙ list_any-append (λ p. p == q) (take i xs) (x ∷ [])

    here : (b : Bool) → (x == q) ≡ b → (b || false) ≡ true → P q
    here true r t = let same : x ≡ q = grind (arith, nat_tests) in subst P same this
    here false r t = cc

    go : (b : Bool) → has_place (take i xs) q ≡ b → P q
    go true r = before q r
    go false r =
        let rest : ((x == q) || false) ≡ true = sym (split ∙ rw r refl) ∙ has in
        here (x == q) refl rest

-- where nothing is offered, nothing waits
pub rest_of : (v : Waiting) → IsMail v → v.offered ≡ [] → (a b : ℕ) → waiting_in v a b ≡ []
rest_of v h none a b = go (waiting_in v a b) refl
  where
    go : (es : List Taken) → waiting_in v a b ≡ es → waiting_in v a b ≡ []
    go [] q = q
    go (e ∷ es) q =
        let some : waiting_in v a b ≢ [] = λ empty. filled_not (sym q ∙ empty) in
        let offered : has_place v.offered b ≡ true = waits_offered v b a h some in
        let wrong : false ≡ true = sym (ap (λ list. has_place list b) none) ∙ offered in cc
      where
        filled_not : e ∷ es ≡ [] → ⊥
        filled_not eq = cc

pub some_waits : (v : Waiting) → IsMail v → v.offered ≢ [] → (a : ℕ) × (b : ℕ) × (waiting_in v a b ≢ [])
some_waits v h some = go v.offered refl
  where
    go : (list : List ℕ) → v.offered ≡ list → (a : ℕ) × (b : ℕ) × (waiting_in v a b ≢ [])
    go [] q = absurd (some q)
    go (x ∷ xs) q =
        let same : (x == x) ≡ true = grind (arith, nat_tests) in
        let has : has_place v.offered x ≡ true = ap (λ list. has_place list x) q ∙ rw same refl in
        let waits = offered_waits v x h has in
        (waits.0, x, waits.1)

pub waits_some : (v : Waiting) → IsMail v → (a b : ℕ) → waiting_in v a b ≢ [] → v.offered ≢ []
waits_some v h a b some none =
    let offered : has_place v.offered b ≡ true = waits_offered v b a h some in
    let wrong : false ≡ true = sym (ap (λ list. has_place list b) none) ∙ offered in cc

-- What a turn does to all carriers of a request.
use Rattle.std.proofs.Common.{◌≡◌, ℕ, ◌+◌, ◌≤◌, ◌<◌, ◌∙◌, sym, ap, subst, ◌==◌, Bool, true, false, List, [], ◌∷◌, ◌++◌, length, drop, count_by, cond, refl, arith, ◌⊎◌, inl, inr}
use Rattle.std.specs.List.{AllByRecursion}
use Rattle.std.proofs.lemmas.Bool.Decides.{nat_tests}
use Rattle.caf_message.specs.declared.envelope.Taken.{Taken}
use Rattle.caf_message.specs.Envelope.{outside}
use Rattle.caf_actor.specs.declared.snapshot.Snapshot.{Snapshot}
use Rattle.caf_actor.specs.PlainPost.{PlainPost}
use Rattle.caf_actor.specs.Record.{Machine, IsPrefix, from_place, to_place, when, sum_below}
use Rattle.caf_actor.specs.Run.{State, Turn, without, take_batch}
use Rattle.caf_actor.specs.Carriers.{carries, carriers_at, carriers_to, carriers}
use Rattle.caf_record.proofs.BatchLemmas.{drop_prefix}
use Rattle.caf_carriers.proofs.CountLemmas.{one, count-cons, count-append, sum_same, sum_less, sum_plus, sum_none, sum_but, sum_one, sum_at, self_same, same_number}

pub eq_comm : (i j : ℕ) → (i == j) ≡ (j == i)
eq_comm i j = grind (arith, nat_tests)

-- a sender is a place or the outside
abbrev pub IsSender : ℕ → ℕ → Type 0
IsSender places x = (x < places) ⊎ (outside ≡ x)

-- ---- a sum by sender, or by receiver, is the sum of all

module _ (a n places : ℕ) where
  abbrev pub weigh : List Taken → ℕ
  weigh es = count_by (carries a n) es

  abbrev pub weigh_posts : List PlainPost → ℕ
  weigh_posts ps = count_by (λ (q : PlainPost). carries a n q.envelope) ps

  from_one : (x : ℕ) (e : Taken) (es : List Taken) (b : Bool) → (x == e.sender) ≡ b → weigh (from_place x (e ∷ es)) ≡ cond (x == e.sender) (one (carries a n e)) 0 + weigh (from_place x es)
  from_one x e es true q = let r : (e.sender == x) ≡ true = eq_comm e.sender x ∙ q in rw (r, q) (count-cons (carries a n) e (from_place x es))
  from_one x e es false q = let r : (e.sender == x) ≡ false = eq_comm e.sender x ∙ q in rw (r, q) (omega arith)

  pub by_sender : places ≤ outside → (es : List Taken) → AllByRecursion (λ e. IsSender places e.sender) es → sum_below places (λ x. weigh (from_place x es)) + weigh (from_place outside es) ≡ weigh es
  by_sender few [] h = let none = sum_none places (λ x. 0) (λ i less. refl) in omega arith
  by_sender few (e ∷ es) h = go h.0 (by_sender few es h.1)
    where
      sums : sum_below places (λ x. weigh (from_place x (e ∷ es))) ≡ sum_below places (λ x. cond (x == e.sender) (one (carries a n e)) 0) + sum_below places (λ x. weigh (from_place x es))
      sums =
          sum_same places (λ x. weigh (from_place x (e ∷ es))) (λ x. cond (x == e.sender) (one (carries a n e)) 0 + weigh (from_place x es)) (λ x less. from_one x e es (x == e.sender) refl)
          ∙ sum_plus places (λ x. cond (x == e.sender) (one (carries a n e)) 0) (λ x. weigh (from_place x es))

      go : IsSender places e.sender → sum_below places (λ x. weigh (from_place x es)) + weigh (from_place outside es) ≡ weigh es
          → sum_below places (λ x. weigh (from_place x (e ∷ es))) + weigh (from_place outside (e ∷ es)) ≡ weigh (e ∷ es)
      go (inl inside) rest =
          let it = sum_one places e.sender (one (carries a n e)) inside in
          let no : (outside == e.sender) ≡ false = grind (arith, nat_tests) in
          let none : cond (outside == e.sender) (one (carries a n e)) 0 ≡ 0 = rw no refl in
          let last = from_one outside e es (outside == e.sender) refl in
          let all = count-cons (carries a n) e es in
          let both = sums in
          omega arith
      go (inr here) rest =
          let none : sum_below places (λ x. cond (x == e.sender) (one (carries a n e)) 0) ≡ 0 =
          sum_none places (λ x. cond (x == e.sender) (one (carries a n e)) 0) (λ x less. let no : (x == e.sender) ≡ false = grind (arith, nat_tests) in rw no refl) in
          let yes : (outside == e.sender) ≡ true = grind (arith, nat_tests) in
          let it : cond (outside == e.sender) (one (carries a n e)) 0 ≡ one (carries a n e) = rw yes refl in
          let last = from_one outside e es (outside == e.sender) refl in
          let all = count-cons (carries a n) e es in
          let both = sums in
          omega arith

  to_one : (b : ℕ) (q : PlainPost) (ps : List PlainPost) (c : Bool) → (b == q.to) ≡ c → weigh (to_place b (q ∷ ps)) ≡ cond (b == q.to) (one (carries a n q.envelope)) 0 + weigh (to_place b ps)
  to_one b q ps true e = let r : (q.to == b) ≡ true = eq_comm q.to b ∙ e in rw (r, e) (count-cons (carries a n) q.envelope (to_place b ps))
  to_one b q ps false e = let r : (q.to == b) ≡ false = eq_comm q.to b ∙ e in rw (r, e) (omega arith)

  pub by_receiver : (ps : List PlainPost) → AllByRecursion (λ q. q.to < places) ps → sum_below places (λ b. weigh (to_place b ps)) ≡ weigh_posts ps
  by_receiver [] h = sum_none places (λ b. 0) (λ i less. refl)
  by_receiver (q ∷ ps) h =
      let rest = by_receiver ps h.1 in
      let sums = sum_same places (λ b. weigh (to_place b (q ∷ ps))) (λ b. cond (b == q.to) (one (carries a n q.envelope)) 0 + weigh (to_place b ps)) (λ b less. to_one b q ps (b == q.to) refl) in
      let parts = sum_plus places (λ b. cond (b == q.to) (one (carries a n q.envelope)) 0) (λ b. weigh (to_place b ps)) in
      let it = sum_one places q.to (one (carries a n q.envelope)) h.0 in
      let all = count-cons (λ (r : PlainPost). carries a n r.envelope) q ps in
      omega arith

-- ---- one turn

module _ (a n : ℕ) {S : Type 0} (m : Machine (Snapshot S)) (s : State (Snapshot S)) (t : Turn) (here : t.place < s.places) (few : s.places ≤ outside)
    (next : (x : ℕ) → IsPrefix (from_place x t.batch.taken) (s.waiting x t.place)) (senders : AllByRecursion (λ e. IsSender s.places e.sender) t.batch.taken)
    (targets : AllByRecursion (λ q. q.to < s.places) (m.play (s.snapshot t.place) t.batch.taken).1) where
  abbrev sent_to : ℕ → ℕ
  sent_to b = weigh a n s.places (to_place b (m.play (s.snapshot t.place) t.batch.taken).1)

  abbrev taken_from : ℕ → ℕ
  taken_from x = weigh a n s.places (from_place x t.batch.taken)

  parted : (x : ℕ) → from_place x t.batch.taken ++ drop (length (from_place x t.batch.taken)) (s.waiting x t.place) ≡ s.waiting x t.place
  parted x = ap (λ es. from_place x t.batch.taken ++ es) (drop_prefix (from_place x t.batch.taken) (s.waiting x t.place) (next x)) ∙ (next x).1

  left_of : (x b : ℕ) (c : Bool) → (b == t.place) ≡ c → weigh a n s.places (without (b == t.place) (from_place x t.batch.taken) (s.waiting x b)) + cond (b == t.place) (taken_from x) 0 ≡ weigh a n s.places (s.waiting x b)
  left_of x b true q =
      let same : b ≡ t.place = same_number b t.place q in
      let all = ap (λ es. weigh a n s.places es) (parted x) in
      let sum = count-append (carries a n) (from_place x t.batch.taken) (drop (length (from_place x t.batch.taken)) (s.waiting x t.place)) in
      rw q (subst (λ (y : ℕ). weigh a n s.places (drop (length (from_place x t.batch.taken)) (s.waiting x y)) + taken_from x ≡ weigh a n s.places (s.waiting x y)) (sym same) (omega arith))
  left_of x b false q = rw q (omega arith)

  news_of : (x b : ℕ) (c : Bool) → (x == t.place) ≡ c → weigh a n s.places (when (x == t.place) (to_place b (m.play (s.snapshot x) t.batch.taken).1)) ≡ cond (x == t.place) (sent_to b) 0
  news_of x b true q =
      let same : x ≡ t.place = same_number x t.place q in
      rw q (ap (λ (y : ℕ). weigh a n s.places (to_place b (m.play (s.snapshot y) t.batch.taken).1)) same)
  news_of x b false q = rw q refl

  at_pair : (x b : ℕ) → weigh a n s.places ((take_batch m s t).waiting x b) + cond (b == t.place) (taken_from x) 0 ≡ weigh a n s.places (s.waiting x b) + cond (x == t.place) (sent_to b) 0
  at_pair x b =
      let sum = count-append (carries a n) (without (b == t.place) (from_place x t.batch.taken) (s.waiting x b)) (when (x == t.place) (to_place b (m.play (s.snapshot x) t.batch.taken).1)) in
      let left = left_of x b (b == t.place) refl in
      let news = news_of x b (x == t.place) refl in
      omega arith

  at_receiver : (b : ℕ) → carriers_to a n (take_batch m s t) b + cond (b == t.place) (weigh a n s.places t.batch.taken) 0 ≡ carriers_to a n s b + sent_to b
  at_receiver b =
      let sums = sum_same s.places (λ x. weigh a n s.places ((take_batch m s t).waiting x b) + cond (b == t.place) (taken_from x) 0) (λ x. weigh a n s.places (s.waiting x b) + cond (x == t.place) (sent_to b) 0) (λ x less. at_pair x b) in
      let left = sum_plus s.places (λ x. weigh a n s.places ((take_batch m s t).waiting x b)) (λ x. cond (b == t.place) (taken_from x) 0) in
      let right = sum_plus s.places (λ x. weigh a n s.places (s.waiting x b)) (λ x. cond (x == t.place) (sent_to b) 0) in
      let news = sum_one s.places t.place (sent_to b) here in
      let last = at_pair outside b in
      let no : (outside == t.place) ≡ false = grind (arith, nat_tests) in
      let none : cond (outside == t.place) (sent_to b) 0 ≡ 0 = rw no refl in
      let taken = taken_at (b == t.place) in
      omega arith
    where
      taken_at : (c : Bool) → sum_below s.places (λ x. cond c (taken_from x) 0) + cond c (taken_from outside) 0 ≡ cond c (weigh a n s.places t.batch.taken) 0
      taken_at true = by_sender a n s.places few t.batch.taken senders
      taken_at false = let none = sum_none s.places (λ x. 0) (λ x less. refl) in omega arith

  of_pairs : sum_below s.places (carriers_to a n (take_batch m s t)) + weigh a n s.places t.batch.taken ≡ sum_below s.places (carriers_to a n s) + weigh_posts a n s.places (m.play (s.snapshot t.place) t.batch.taken).1
  of_pairs =
      let sums = sum_same s.places (λ b. carriers_to a n (take_batch m s t) b + cond (b == t.place) (weigh a n s.places t.batch.taken) 0) (λ b. carriers_to a n s b + sent_to b) (λ b less. at_receiver b) in
      let left = sum_plus s.places (λ b. carriers_to a n (take_batch m s t) b) (λ b. cond (b == t.place) (weigh a n s.places t.batch.taken) 0) in
      let right = sum_plus s.places (λ b. carriers_to a n s b) (λ b. sent_to b) in
      let taken = sum_one s.places t.place (weigh a n s.places t.batch.taken) here in
      let all = by_receiver a n s.places (m.play (s.snapshot t.place) t.batch.taken).1 targets in
      omega arith

  of_places : sum_below s.places (λ p. carriers_at a n ((take_batch m s t).snapshot p)) + carriers_at a n (s.snapshot t.place)
      ≡ sum_below s.places (λ p. carriers_at a n (s.snapshot p)) + carriers_at a n (m.play (s.snapshot t.place) t.batch.taken).0
  of_places =
      let both = sum_but s.places t.place (λ p. carriers_at a n ((take_batch m s t).snapshot p)) (λ p. carriers_at a n (s.snapshot p)) here (λ i no. rw no refl) in
      let played : carriers_at a n ((take_batch m s t).snapshot t.place) ≡ carriers_at a n (m.play (s.snapshot t.place) t.batch.taken).0 = rw (self_same t.place) refl in
      omega arith

  -- what the turn adds to all is what it adds at its place
  pub total_step : carriers a n (take_batch m s t) + (carriers_at a n (s.snapshot t.place) + count_by (carries a n) t.batch.taken)
      ≡ carriers a n s + (carriers_at a n (m.play (s.snapshot t.place) t.batch.taken).0 + count_by (λ (q : PlainPost). carries a n q.envelope) (m.play (s.snapshot t.place) t.batch.taken).1)
  total_step = let places = of_places in let pairs = of_pairs in omega arith

  -- what the place has and takes is a part of all
  pub part_of_all : carriers_at a n (s.snapshot t.place) + count_by (carries a n) t.batch.taken ≤ carriers a n s
  part_of_all =
      let held = sum_at s.places t.place (λ p. carriers_at a n (s.snapshot p)) here in
      let row = sum_at s.places t.place (carriers_to a n s) here in
      let sum = by_sender a n s.places few t.batch.taken senders in
      let less = sum_less s.places taken_from (λ x. weigh a n s.places (s.waiting x t.place)) (λ x lt. fewer x) in
      let last = fewer outside in
      omega arith
    where
      fewer : (x : ℕ) → taken_from x ≤ weigh a n s.places (s.waiting x t.place)
      fewer x =
          let all = ap (λ es. weigh a n s.places es) (next x).1 in
          let both = count-append (carries a n) (from_place x t.batch.taken) (next x).0 in
          omega arith

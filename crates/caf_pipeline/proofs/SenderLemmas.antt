-- Who sent what was taken: at rest each envelope is Start, or one that a place sent.
use Rattle.std.proofs.Common.{◌≡◌, ℕ, ◌+◌, ◌≤◌, ◌<◌, ◌==◌, Bool, true, false, List, [], ◌∷◌, ◌++◌, map, inl, inr, refl, sym, subst, ap, ◌∙◌, arith}
use Rattle.std.specs.Prelude.{Contains, not, filter, ◌⊎◌}
use Rattle.std.proofs.lemmas.Bool.Decides.{nat_tests}
use Rattle.std.proofs.lemmas.List.Elements.{Contains-append_left, Contains-append_right, Contains-append_cases}
use Rattle.caf_index.proofs.ContainsLemmas.{contains-none, contains-here, contains-later, contains-cases, contains-map}
use Rattle.caf_mailbox.specs.Caches.{is_urgent, is_normal}
use Rattle.caf_message.specs.Envelope.{outside, start_envelope}
use Rattle.caf_message.specs.declared.envelope.Plain.{Plain}
use Rattle.caf_message.specs.declared.envelope.Taken.{Taken}
use Rattle.caf_carriers.proofs.CountLemmas.{self_same, same_number}
use Rattle.caf_actor.specs.PlainPost.{PlainPost}
use Rattle.caf_actor.specs.Record.{Machine, Kept, IsLegal, IsAtRest, from_place, to_place, joined, posted, sent, sent_by, heard}
use Rattle.caf_actor.specs.declared.journal.TakenBatch.{TakenBatch}
use Rattle.caf_steady.specs.Outline.{Bare, bare}
use Rattle.caf_steady.specs.Reading.{in_turn, all_in_turn}
use Rattle.caf_pipeline.proofs.ArrivalLemmas.{all_taken}
use Rattle.caf_pipeline.proofs.WeightLemmas.{taken_weight}

-- ---- lists

filter_has_back : (test : Taken → Bool) (es : List Taken) (e : Taken) → Contains (filter test es) e → Contains es e
filter_has_back test [] e has = absurd (contains-none e has)
filter_has_back test (x ∷ xs) e has = go (test x) refl (filter_has_back test xs e)
  where
    go : (b : Bool) → test x ≡ b → (Contains (filter test xs) e → Contains xs e) → Contains (x ∷ xs) e
    go true q later = elim (contains-cases x e (filter test xs) (let h : Contains (x ∷ filter test xs) e = rw q at has in h)) [
      | inl is ↦ subst (Contains (x ∷ xs)) is (contains-here x xs)
      | inr more ↦ contains-later x e xs (later more)
    ]
    go false q later = contains-later x e xs (later (rw q at has))

pub turn_had : (es : List Taken) (e : Taken) → Contains (in_turn es) e → Contains es e
turn_had es e has = elim (Contains-append_cases (filter is_urgent es) (filter is_normal es) e has) [
  | inl here ↦ filter_has_back is_urgent es e here
  | inr there ↦ filter_has_back is_normal es e there
]

pub all_turns_had : (bs : List TakenBatch) (e : Taken) → Contains (all_in_turn bs) e → Contains (joined bs) e
all_turns_had [] e has = has
all_turns_had (b ∷ bs) e has = elim (Contains-append_cases (in_turn b.taken) (all_in_turn bs) e has) [
  | inl here ↦ Contains-append_left b.taken (joined bs) e (turn_had b.taken e here)
  | inr later ↦ Contains-append_right b.taken (joined bs) e (all_turns_had bs e later)
]

own_has : (es : List Taken) (e : Taken) → Contains es e → Contains (from_place e.sender es) e
own_has [] e has = has
own_has (x ∷ xs) e has = go (x.sender == e.sender) refl (contains-cases x e xs has) (own_has xs e)
  where
    go : (b : Bool) → (x.sender == e.sender) ≡ b → (x ≡ e) ⊎ Contains xs e → (Contains xs e → Contains (from_place e.sender xs) e) → Contains (from_place e.sender (x ∷ xs)) e
    go true q (inl is) later = rw q (subst (λ (y : Taken). Contains (x ∷ from_place e.sender xs) y) is (contains-here x (from_place e.sender xs)))
    go true q (inr more) later = rw q (contains-later x e (from_place e.sender xs) (later more))
    go false q (inl is) later = let yes : (x.sender == e.sender) ≡ true = ap (λ (y : Taken). y.sender == e.sender) is ∙ self_same e.sender in let bad : false ≡ true = sym q ∙ yes in absurd cc
    go false q (inr more) later = rw q (later more)

pub record IsPosted (ps : List PlainPost) (b : ℕ) (e : Taken) : Type 0 where
  pub post : PlainPost
  pub there : Contains ps post
  pub to : post.to ≡ b
  pub envelope : post.envelope ≡ e

to_had : (ps : List PlainPost) (b : ℕ) (e : Taken) → Contains (to_place b ps) e → IsPosted ps b e
to_had [] b e has = absurd (contains-none e has)
to_had (p ∷ ps) b e has = go (p.to == b) refl (to_had ps b e)
  where
    more : IsPosted ps b e → IsPosted (p ∷ ps) b e
    more h = record { post = h.post; there = contains-later p h.post ps h.there; to = h.to; envelope = h.envelope }

    go : (c : Bool) → (p.to == b) ≡ c → (Contains (to_place b ps) e → IsPosted ps b e) → IsPosted (p ∷ ps) b e
    go true q later = elim (contains-cases p.envelope e (to_place b ps) (let h : Contains (p.envelope ∷ to_place b ps) e = rw q at has in h)) [
      | inl is ↦ record { post = p; there = contains-here p ps; to = same_number p.to b q; envelope = is }
      | inr rest ↦ more (later rest)
    ]
    go false q later = more (later (rw q at has))

-- ---- weights in any order

module _ (w : ℕ → Plain → ℕ) (b : ℕ) where
  weight_append : (es fs : List Taken) → taken_weight w b (es ++ fs) ≡ taken_weight w b es + taken_weight w b fs
  weight_append [] fs = omega arith
  weight_append (e ∷ es) fs = let rest = weight_append es fs in omega (arith, rest)

  parted_weighs : (test : Taken → Bool) (es : List Taken) → taken_weight w b (filter test es) + taken_weight w b (filter (λ e. not (test e)) es) ≡ taken_weight w b es
  parted_weighs test [] = omega arith
  parted_weighs test (e ∷ es) = go (test e) refl (parted_weighs test es)
    where
      go : (c : Bool) → test e ≡ c → taken_weight w b (filter test es) + taken_weight w b (filter (λ x. not (test x)) es) ≡ taken_weight w b es
          → taken_weight w b (filter test (e ∷ es)) + taken_weight w b (filter (λ x. not (test x)) (e ∷ es)) ≡ taken_weight w b (e ∷ es)
      go true q rest = let both : w b e.body + taken_weight w b (filter test es) + taken_weight w b (filter (λ x. not (test x)) es) ≡ taken_weight w b (e ∷ es) = omega (arith, rest) in rw q both
      go false q rest = let both : taken_weight w b (filter test es) + (w b e.body + taken_weight w b (filter (λ x. not (test x)) es)) ≡ taken_weight w b (e ∷ es) = omega (arith, rest) in rw q both

  pub turns_weigh : (bs : List TakenBatch) → taken_weight w b (all_in_turn bs) ≡ taken_weight w b (joined bs)
  turns_weigh [] = refl
  turns_weigh (t ∷ bs) =
      let both = weight_append (in_turn t.taken) (all_in_turn bs) in
      let parts = weight_append (filter is_urgent t.taken) (filter is_normal t.taken) in
      let one : taken_weight w b (filter is_urgent t.taken) + taken_weight w b (filter is_normal t.taken) ≡ taken_weight w b t.taken = parted_weighs is_urgent t.taken in
      let rest = turns_weigh bs in
      let all = weight_append t.taken (joined bs) in
      omega (arith, both, parts, one, rest, all)

-- ---- a record at rest

-- a place below sent it there
pub record IsSentBy (n : ℕ) (sent_of : ℕ → List Bare) (b : ℕ) (e : Taken) : Type 0 where
  pub place : ℕ
  pub below : place < n
  pub bare : Bare
  pub is_sent : Contains (sent_of place) bare
  pub to : bare.to ≡ b
  pub mid : bare.mid ≡ e.mid
  pub body : bare.body ≡ e.body

module _ {S : Type 0} (m : Machine S) (ticks : ℕ) (k : Kept S) (legal : IsLegal m ticks k) (rest : IsAtRest m k) (silent : heard (k.journal 0) ≡ []) where
  abbrev sent_of : ℕ → List Bare
  sent_of a = map bare (posted m (k.start a) (k.journal a))

  nothing_of : (a b : ℕ) → k.places ≤ a → sent m (k.start a) (k.journal a) b ≡ []
  nothing_of a b above = ap (λ (bs : List TakenBatch). sent m (k.start a) bs b) (legal.inside a above)

  pub from_where : (b : ℕ) (e : Taken) → Contains (joined (k.journal b)) e → (e ≡ start_envelope) ⊎ IsSentBy k.places sent_of b e
  from_where b e has = go (outside == e.sender) refl
    where
      there : Contains (sent_by m k e.sender b) e
      there = subst (λ (es : List Taken). Contains es e) (sym (all_taken m ticks k legal rest e.sender b)) (own_has (joined (k.journal b)) e has)

      of_outside : (c : Bool) → (outside == e.sender) ≡ true → (0 == b) ≡ c → (e ≡ start_envelope) ⊎ IsSentBy k.places sent_of b e
      of_outside c q r =
          let here = same_number outside e.sender q in
          let none : sent m (k.start e.sender) (k.journal e.sender) b ≡ [] = nothing_of e.sender b (subst (λ (x : ℕ). k.places ≤ x) here legal.places) in
          by c r none
        where
          by : (c : Bool) → (0 == b) ≡ c → sent m (k.start e.sender) (k.journal e.sender) b ≡ [] → (e ≡ start_envelope) ⊎ IsSentBy k.places sent_of b e
          by true r none =
              let only : sent_by m k e.sender b ≡ start_envelope ∷ [] = rw (q, r, none, silent) refl in
              elim (contains-cases start_envelope e [] (subst (λ (es : List Taken). Contains es e) only there)) [ inl is ↦ inl (sym is) | inr more ↦ absurd (contains-none e more) ]
          by false r none =
              let only : sent_by m k e.sender b ≡ [] = rw (q, r, none) refl in
              absurd (contains-none e (subst (λ (es : List Taken). Contains es e) only there))

      of_place : (outside == e.sender) ≡ false → IsSentBy k.places sent_of b e
      of_place other =
          let same : sent_by m k e.sender b ≡ sent m (k.start e.sender) (k.journal e.sender) b = rw other refl in
          let its = subst (λ (es : List Taken). Contains es e) same there in
          let beyond = λ (above : k.places ≤ e.sender). contains-none e (subst (λ (es : List Taken). Contains es e) (nothing_of e.sender b above) its) in
          let inside : e.sender < k.places = grind (arith, nat_tests, beyond) in
          let post = to_had (posted m (k.start e.sender) (k.journal e.sender)) b e its in
          record {
            place = e.sender;
            below = inside;
            bare = bare post.post;
            is_sent = contains-map bare post.post (posted m (k.start e.sender) (k.journal e.sender)) post.there;
            to = post.to;
            mid = ap (λ (x : Taken). x.mid) post.envelope;
            body = ap (λ (x : Taken). x.body) post.envelope;
          }

      go : (c : Bool) → (outside == e.sender) ≡ c → (e ≡ start_envelope) ⊎ IsSentBy k.places sent_of b e
      go true q = of_outside (0 == b) q refl
      go false q = inr (of_place q)

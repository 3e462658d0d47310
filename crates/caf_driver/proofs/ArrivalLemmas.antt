-- What a place's queues become when one of them changes.
use Rattle.std.proofs.Common.{◌≡◌, ◌≢◌, ℕ, zero, suc, ◌+◌, ◌<◌, ◌==◌, ◌&&◌, ◌||◌, not, Bool, true, false, List, [], ◌∷◌, ◌++◌, length, map, slice_index_or, slice_set, take, refl, ap, sym, ◌∙◌, subst, arith, if◌then◌else◌}
use Rattle.std.specs.List.{AllByRecursion, list_any}
use Rattle.std.proofs.lemmas.Bool.Decides.{nat_tests}
use Rattle.std.proofs.lemmas.List.{get_or-set_same, get_or-set_other, map-set, length-map, take_more}
use Rattle.std.proofs.lemmas.List.Folds.{list_any-append}
use Rattle.caf_message.specs.declared.envelope.Taken.{Taken}
use Rattle.caf_driver.specs.Places.{is_filled, IsRising, has_place, place_in, place_out}
use Rattle.caf_driver.specs.Arrivals.{Arriving, from_sender, has_last, IsArriving, length_of, HasQueue, HasPushed, HasPopped}
use Rattle.caf_driver.proofs.PlaceLemmas.{has_in, rising_in, has_out, rising_out}

same_of : (a b : ℕ) → (a == b) ≡ true → a ≡ b
same_of a b q = grind (arith, nat_tests)

other_of : (a b : ℕ) → (a == b) ≡ false → a ≢ b
other_of a b q e = let no : ⊥ = grind (arith, nat_tests) in no

self_of : (a : ℕ) → (a == a) ≡ true
self_of a = grind (arith, nat_tests)

pub map_at : {A : Type 0} (f : A → List Taken) (xs : List A) (i : ℕ) (d : A) → i < length xs → slice_index_or (map f xs) i [] ≡ f (slice_index_or xs i d)
map_at f [] i d lt = absurd (omega arith)
map_at f (x ∷ xs) zero d lt = refl
map_at f (x ∷ xs) (suc i) d lt = map_at f xs i d (omega arith)

pub queue_at : (qs : List (List Taken)) (i : ℕ) (queue : List Taken) (a : ℕ) → i < length qs → slice_index_or (slice_set qs i queue) a [] ≡ (if a == i then queue else slice_index_or qs a [])
queue_at qs i queue a lt = go (a == i) refl
  where
    go : (b : Bool) → (a == i) ≡ b → slice_index_or (slice_set qs i queue) a [] ≡ (if b then queue else slice_index_or qs a [])
    go true q = subst (λ k. slice_index_or (slice_set qs i queue) k [] ≡ queue) (sym (same_of a i q)) (get_or-set_same qs i queue [] lt)
    go false q = get_or-set_other qs i a queue [] (other_of a i q)

pub fewer_of : (qs : List (List Taken)) (i : ℕ) (e : Taken) (rest : List Taken) → slice_index_or qs i [] ≡ e ∷ rest → length_of (slice_set qs i rest) + 1 ≡ length_of qs
fewer_of [] i e rest q = cc
fewer_of (x ∷ qs) zero e rest q =
    let long : length x ≡ suc (length rest) = ap length q in
    omega arith
fewer_of (x ∷ qs) (suc i) e rest q =
    let less = fewer_of qs i e rest q in
    omega arith

-- a place past the end of the lists has nothing
pub known_of : (qs : List (List Taken)) (i : ℕ) → slice_index_or qs i [] ≢ [] → i < length qs
known_of [] i some = absurd (some refl)
known_of (x ∷ qs) zero some = omega arith
known_of (x ∷ qs) (suc i) some = let less = known_of qs i some in omega arith

-- one more queue, which is empty
pub grown : (qs : List (List Taken)) (a : ℕ) → slice_index_or (qs ++ [] ∷ []) a [] ≡ slice_index_or qs a []
grown [] zero = refl
grown [] (suc a) = refl
grown (x ∷ qs) zero = refl
grown (x ∷ qs) (suc a) = grown qs a

module _ (old : Arriving) (sender : ℕ) (queue : List Taken) (new : Arriving) (has : HasQueue old sender queue new) where
  pub from_new : (a : ℕ) → from_sender new a ≡ (if a == sender then queue else from_sender old a)
  from_new a = ap (λ qs. slice_index_or qs a []) has.queues ∙ queue_at old.queues sender queue a has.known

  own_new : IsArriving old → AllByRecursion (λ e. e.sender ≡ sender) queue → (a : ℕ) → AllByRecursion (λ e. e.sender ≡ a) (from_sender new a)
  own_new h all a = subst (λ es. AllByRecursion (λ e. e.sender ≡ a) es) (sym (from_new a)) (go (a == sender) refl)
    where
      go : (b : Bool) → (a == sender) ≡ b → AllByRecursion (λ e. e.sender ≡ a) (if b then queue else from_sender old a)
      go true q = subst (λ k. AllByRecursion (λ e. e.sender ≡ k) queue) (sym (same_of a sender q)) all
      go false q = h.own a

  -- the senders with this one, which had nothing
  pub with_sender : (senders : List ℕ) → senders ≡ place_in sender new.senders → IsArriving old → from_sender old sender ≡ [] → is_filled queue ≡ true → AllByRecursion (λ e. e.sender ≡ sender) queue → IsArriving (record new { senders = senders })
  with_sender senders is h none some all = subst (λ list. IsArriving (record new { senders = list })) (sym (is ∙ ap (place_in sender) has.senders)) (record {
    rising = rising_in sender old.senders h.rising (h.offered sender ∙ ap is_filled none);
    offered = λ a. has_in sender old.senders a ∙ go a (a == sender) refl;
    own = own_new h all;
  })
    where
      go : (a : ℕ) (b : Bool) → (a == sender) ≡ b → ((sender == a) || has_place old.senders a) ≡ is_filled (from_sender new a)
      go a true q =
          let same : a ≡ sender = same_of a sender q in
          let filled : is_filled (from_sender new a) ≡ true = ap is_filled (from_new a) ∙ rw q some in
          let here : (sender == a) ≡ true = subst (λ k. (sender == k) ≡ true) (sym same) (self_of sender) in
          rw (here, filled) refl
      go a false q =
          let there : (sender == a) ≡ false = grind (arith, nat_tests) in
          rw there (h.offered a ∙ ap is_filled (sym (from_new a ∙ rw q refl)))

  -- the senders without this one, which has nothing left
  pub without_sender : (senders : List ℕ) → senders ≡ place_out sender new.senders → IsArriving old → is_filled queue ≡ false → AllByRecursion (λ e. e.sender ≡ sender) queue → IsArriving (record new { senders = senders })
  without_sender senders is h none all = subst (λ list. IsArriving (record new { senders = list })) (sym (is ∙ ap (place_out sender) has.senders)) (record {
    rising = rising_out sender old.senders h.rising;
    offered = λ a. has_out sender old.senders a ∙ go a (a == sender) refl;
    own = own_new h all;
  })
    where
      go : (a : ℕ) (b : Bool) → (a == sender) ≡ b → (not (a == sender) && has_place old.senders a) ≡ is_filled (from_sender new a)
      go a true q = let empty : is_filled (from_sender new a) ≡ false = ap is_filled (from_new a) ∙ rw q none in rw (q, empty) refl
      go a false q = rw q (h.offered a ∙ ap is_filled (sym (from_new a ∙ rw q refl)))

  -- the senders are the same, where it had something and has something
  pub same_senders : IsArriving old → is_filled (from_sender old sender) ≡ true → is_filled queue ≡ true → AllByRecursion (λ e. e.sender ≡ sender) queue → IsArriving new
  same_senders h before some all = record {
    rising = subst IsRising (sym has.senders) h.rising;
    offered = λ a. ap (λ list. has_place list a) has.senders ∙ h.offered a ∙ go a (a == sender) refl;
    own = own_new h all;
  }
    where
      go : (a : ℕ) (b : Bool) → (a == sender) ≡ b → is_filled (from_sender old a) ≡ is_filled (from_sender new a)
      go a true q =
          let here : is_filled (from_sender old a) ≡ true = subst (λ k. is_filled (from_sender old k) ≡ true) (sym (same_of a sender q)) before in
          here ∙ sym (ap is_filled (from_new a) ∙ rw q some)
      go a false q = ap is_filled (sym (from_new a ∙ rw q refl))

-- ---- a queue in the code's own form

module _ {A : Type 0} (f : A → List Taken) (items : List A) (s : ℕ) (q next : A) (senders : List ℕ) (known : s < length (map f items)) (at : q ≡ slice_index_or items s q) where
  abbrev before : Arriving
  before = record { queues = map f items; senders = senders }

  abbrev after : Arriving
  after = record { queues = map f (slice_set items s next); senders = senders }

  pub queue_before : from_sender before s ≡ f q
  queue_before = map_at f items s q (subst (λ n. s < n) (length-map items f) known) ∙ ap f (sym at)

  pub set_queue : (queue : List Taken) → f next ≡ queue → HasQueue before s queue after
  set_queue queue is = record { queues = map-set f items s next ∙ ap (slice_set (map f items) s) is; senders = refl; known = known }

  pub queue_after : from_sender after s ≡ f next
  queue_after = from_new before s (f next) after (set_queue (f next) refl) s ∙ rw (self_of s) refl

-- ---- an envelope that comes, and one that goes

pub all_more : (P : Taken → Type 0) (es : List Taken) (e : Taken) → AllByRecursion P es → P e → AllByRecursion P (es ++ e ∷ [])
all_more P [] e all h = (h, tt)
all_more P (x ∷ es) e all h = (all.0, all_more P es e all.1 h)

pub filled_more : (es : List Taken) (e : Taken) → is_filled (es ++ e ∷ []) ≡ true
filled_more [] e = refl
filled_more (x ∷ es) e = refl

pub empty_of : (es : List Taken) → is_filled es ≡ false → es ≡ []
empty_of [] q = refl
empty_of (e ∷ es) q = cc

pub pushed_of : (old mid new : Arriving) (sender : ℕ) (e : Taken) → ((a : ℕ) → from_sender mid a ≡ from_sender old a) → HasQueue mid sender (from_sender mid sender ++ e ∷ []) new → e.sender ≡ sender → HasPushed old e new
pushed_of old mid new sender e same has own a = go (a == sender) refl
  where
    go : (b : Bool) → (a == sender) ≡ b → from_sender new a ≡ (if a == e.sender then from_sender old a ++ e ∷ [] else from_sender old a)
    go true q =
        let here : (a == e.sender) ≡ true = subst (λ k. (a == k) ≡ true) (sym own) q in
        let there : from_sender mid sender ≡ from_sender mid a = ap (from_sender mid) (sym (same_of a sender q)) in
        rw here (from_new mid sender (from_sender mid sender ++ e ∷ []) new has a ∙ rw q (ap (λ es. es ++ e ∷ []) (there ∙ same a)))
    go false q =
        let here : (a == e.sender) ≡ false = subst (λ k. (a == k) ≡ false) (sym own) q in
        rw here (from_new mid sender (from_sender mid sender ++ e ∷ []) new has a ∙ rw q (same a))

pub popped_of : (old new : Arriving) (sender : ℕ) (e : Taken) → from_sender old sender ≡ e ∷ from_sender new sender → HasQueue old sender (from_sender new sender) new → HasPopped old sender e new
popped_of old new sender e first has a = go (a == sender) refl
  where
    go : (b : Bool) → (a == sender) ≡ b → (if a == sender then e ∷ from_sender new a else from_sender new a) ≡ from_sender old a
    go true q = rw q (subst (λ k. e ∷ from_sender new k ≡ from_sender old k) (sym (same_of a sender q)) (sym first))
    go false q = rw q (from_new old sender (from_sender new sender) new has a ∙ rw q refl)

pub empty_filled : {A B : Type 0} (f : A → B) (xs : List A) → is_filled (map f xs) ≡ not (length xs == 0)
empty_filled f [] = refl
empty_filled f (x ∷ xs) = let no : (suc (length xs) == 0) ≡ false = grind (arith, nat_tests) in rw no refl

pub not_filled : (b c : Bool) → c ≡ not b → c ≡ true → b ≡ false
not_filled true c e q = let no : true ≡ false = sym q ∙ e in cc
not_filled false c e q = refl

pub is_some_filled : (b c : Bool) → c ≡ not b → c ≡ false → b ≡ true
is_some_filled true c e q = refl
is_some_filled false c e q = let no : false ≡ true = sym q ∙ e in cc

-- other lists of the same contents
pub same_arriving : (old mid : Arriving) → ((a : ℕ) → from_sender mid a ≡ from_sender old a) → mid.senders ≡ old.senders → IsArriving old → IsArriving mid
same_arriving old mid from senders h = record {
  rising = subst IsRising (sym senders) h.rising;
  offered = λ a. ap (λ list. has_place list a) senders ∙ h.offered a ∙ ap is_filled (sym (from a));
  own = λ a. subst (λ es. AllByRecursion (λ e. e.sender ≡ a) es) (sym (from a)) (h.own a);
}

-- ---- the last stamp

pub any_map : {A B : Type 0} (f : A → B) (p : B → Bool) (xs : List A) → list_any p (map f xs) ≡ list_any (λ x. p (f x)) xs
any_map f p [] = refl
any_map f p (x ∷ xs) = ap (λ b. p (f x) || b) (any_map f p xs)

pub any_found : {A : Type 0} (p : A → Bool) (xs : List A) (i : ℕ) (x : A) → x ≡ slice_index_or xs i x → i < length xs → p x ≡ true → list_any p xs ≡ true
any_found p [] i x e lt is = absurd (omega arith)
any_found p (y ∷ xs) zero x e lt is = let same : p y ≡ true = ap p (sym e) ∙ is in rw same refl
any_found p (y ∷ xs) (suc i) x e lt is = let later : list_any p xs ≡ true = any_found p xs i x e (omega arith) is in ap (λ b. p y || b) later ∙ or_true (p y)
  where
    or_true : (b : Bool) → (b || true) ≡ true
    or_true true = refl
    or_true false = refl

-- a queue with the last stamp is a sender's
pub any_at : (qs : List (List Taken)) → list_any has_last qs ≡ true → (a : ℕ) × (has_last (slice_index_or qs a []) ≡ true)
any_at [] q = cc
any_at (x ∷ qs) q = go (has_last x) refl q (any_at qs)
  where
    go : (b : Bool) → has_last x ≡ b → (b || list_any has_last qs) ≡ true → (list_any has_last qs ≡ true → (a : ℕ) × (has_last (slice_index_or qs a []) ≡ true)) → (a : ℕ) × (has_last (slice_index_or (x ∷ qs) a []) ≡ true)
    go true e r on = (0, e)
    go false e r on = let later = on r in (suc later.0, later.1)

pub at_any : (qs : List (List Taken)) (a : ℕ) → has_last (slice_index_or qs a []) ≡ true → list_any has_last qs ≡ true
at_any [] a q = cc
at_any (x ∷ qs) zero q = rw q refl
at_any (x ∷ qs) (suc a) q = let later = at_any qs a q in ap (λ b. has_last x || b) later ∙ or_true (has_last x)
  where
    or_true : (b : Bool) → (b || true) ≡ true
    or_true true = refl
    or_true false = refl

pub any_more : {A : Type 0} (p : A → Bool) (xs : List A) (i : ℕ) (x : A) → x ≡ slice_index_or xs i x → i < length xs → list_any p (take i xs) ≡ false → p x ≡ false → list_any p (take (i + 1) xs) ≡ false
any_more p xs i x e lt none is =
    ap (list_any p) (take_more xs i x lt) ∙ list_any-append p (take i xs) (slice_index_or xs i x ∷ []) ∙ rw none (ap (λ b. b || false) (ap p (sym e) ∙ is))

-- The responses of a line, as they are kept.
use Rattle.std.proofs.Common.{◌≡◌, ◌∙◌, ℕ, zero, suc, ◌+◌, ◌-◌, ◌<◌, ◌≤◌, Bool, true, false, cond, List, [], ◌∷◌, ◌++◌, length, Option, Some, None, refl, sym, ap, subst, arith, length-append, if◌then◌else◌}
use Rattle.std.specs.Prelude.{◌==◌, IfSome, IfNone, IsSome, is_some, slice_get}
use Rattle.std.specs.List.{AllByRecursion}
use Rattle.std.specs.List.Sorted.{IsStrictlySortedBy}
use Rattle.std.specs.Option.{option_map}
use Rattle.std.specs.Ordering.{nat_cmp, is_eq, is_gt, ordering_then}
use Rattle.std.specs.declared.cmp.Ordering.{Ordering}
use Rattle.std.specs.declared.cmp.Ordering.TheVariants.{Less, Equal, Greater}
use Rattle.std.specs.Map.{remove_entry, set_value, keys_of}
use Rattle.std.specs.BTreeMap.{insert_entry, is_at}
use Rattle.std.proofs.lemmas.Bool.Decides.{nat_tests}
use Rattle.std.proofs.lemmas.Map.Keys.{sorted_head, sorted_tail}
use Rattle.caf_message.specs.Envelope.{plain_envelope}
use Rattle.caf_message.specs.declared.envelope.Envelope.{Envelope}
use Rattle.caf_message.specs.Lists.{pick, keep}
use Rattle.caf_mailbox.specs.Arrived.{Arrived, number_taken, is_to}
use Rattle.caf_mailbox.specs.Order.{AreBelow}
use Rattle.caf_mailbox.specs.declared.responses.Slot.{Slot}
use Rattle.caf_mailbox.specs.Responses.{Slots, here_in, and_here, room_in, and_room, HereFirst, slot_at, is_for, pair_order, has_key, FollowsKeys, AreIndexed, AreListed, IsFirstTo, IsLastFree, first_number}
use Rattle.caf_mailbox.proofs.NextLemmas.{all_pick}

abbrev at : ℕ → ℕ → Bool
at n = is_at (nat_cmp n)

abbrev pub AreInOrder : Slots → Type 0
AreInOrder ss = IsStrictlySortedBy nat_cmp (keys_of ss)

abbrev AreAbove : ℕ → Slots → Type 0
AreAbove n ss = AllByRecursion (λ k. nat_cmp n k ≡ Less) (keys_of ss)

-- ---- numbers

less_so : (m n : ℕ) → nat_cmp m n ≡ Less → m < n
less_so m n h = grind (arith, nat_tests)

at_itself : (n : ℕ) → at n n ≡ true
at_itself n = grind (arith, nat_tests)

at_same : (m n : ℕ) → at m n ≡ true → m ≡ n
at_same m n h = grind (arith, nat_tests)

at_above : (m n : ℕ) → m < n → at n m ≡ false
at_above m n h = grind (arith, nat_tests)

after_itself : (m n : ℕ) → m < n → nat_cmp n m ≡ Greater
after_itself m n h = grind (arith, nat_tests)

equal_itself : (n : ℕ) → (n == n) ≡ true
equal_itself n = grind (arith, nat_tests)

equal_same : (m n : ℕ) → (m == n) ≡ true → m ≡ n
equal_same m n h = grind (arith, nat_tests)

-- ---- those behind the first one

above_found : (m n : ℕ) (ss : Slots) (s : Slot) → AreAbove m ss → slot_at ss n ≡ Some s → m < n
above_found m n [] s above found = cc
above_found m n (t ∷ ss) s above found = go (at n t.0) refl (λ f. above_found m n ss s above.1 f) found where
  go : (b : Bool) → at n t.0 ≡ b → (slot_at ss n ≡ Some s → m < n) → cond b (Some t.1) (slot_at ss n) ≡ Some s → m < n
  go true q rest f = let same = at_same n t.0 q in let less = less_so m t.0 above.0 in omega arith
  go false q rest f = rest f

above_here : (m : ℕ) (ss : Slots) → AreAbove m ss → AllByRecursion (λ z. m < z.0) (here_in ss)
above_here m [] above = tt
above_here m (t ∷ ss) above = go t.1.envelope (above_here m ss above.1) where
  go : (o : Option Envelope) → AllByRecursion (λ z. m < z.0) (here_in ss) → AllByRecursion (λ z. m < z.0) (and_here t.0 o (here_in ss))
  go None rest = rest
  go (Some e) rest = (less_so m t.0 above.0, rest)

-- a place behind the first one is found behind it
found_behind : (m : ℕ) (t : Slot) (ss : Slots) (n : ℕ) (s : Slot) → AreInOrder ((m, t) ∷ ss) → slot_at ss n ≡ Some s → slot_at ((m, t) ∷ ss) n ≡ Some s
found_behind m t ss n s order found =
    let above : AreAbove m ss = sorted_head nat_cmp m (keys_of ss) order in
    let apart = at_above m n (above_found m n ss s above found) in
    rw apart found

picked_above : (m n : ℕ) (test : Arrived → Bool) (ss : Slots) → AreAbove m ss → number_taken (pick test (here_in ss)) ≡ Some n → m < n
picked_above m n test ss above is = go (pick test (here_in ss)) refl is where
  go : (o : Option (Arrived × List Arrived)) → pick test (here_in ss) ≡ o → number_taken o ≡ Some n → m < n
  go None q f = cc
  go (Some p) q f =
      let less = (all_pick test (λ z. m < z.0) (here_in ss) p (above_here m ss above) q).0 in
      let same : p.0.0 ≡ n = cc in
      omega arith

-- ---- taking one out

-- what the place gives, and what is left
abbrev pub from_place : ℕ → Option Slot → List Arrived → Option (Arrived × List Arrived)
from_place n None left = None
from_place n (Some s) left = option_map (λ e. ((n, plain_envelope e), left)) s.envelope

keep_from : (z : Arrived) (n : ℕ) (o : Option Slot) (left : List Arrived) → from_place n o (z ∷ left) ≡ keep z (from_place n o left)
keep_from z n None left = refl
keep_from z n (Some s) left = go s.envelope where
  go : (e : Option Envelope) → option_map {U = Arrived × List Arrived} (λ e. ((n, plain_envelope e), z ∷ left)) e ≡ keep z (option_map (λ e. ((n, plain_envelope e), left)) e)
  go None = refl
  go (Some e) = refl

number_kept : (z : Arrived) (o : Option (Arrived × List Arrived)) → number_taken (keep z o) ≡ number_taken o
number_kept z None = refl
number_kept z (Some p) = refl

pub from_picked : (test : Arrived → Bool) (ss : Slots) (n : ℕ) → AreInOrder ss → number_taken (pick test (here_in ss)) ≡ Some n
    → from_place n (slot_at ss n) (here_in (remove_entry (at n) ss)) ≡ pick test (here_in ss)
from_picked test [] n order is = cc
from_picked test ((m, t) ∷ ss) n order is = go (λ f. from_picked test ss n (sorted_tail nat_cmp m (keys_of ss) order) f) t.envelope refl is where
  above : AreAbove m ss
  above = sorted_head nat_cmp m (keys_of ss) order

  Rest : Type 0
  Rest = number_taken (pick test (here_in ss)) ≡ Some n → from_place n (slot_at ss n) (here_in (remove_entry (at n) ss)) ≡ pick test (here_in ss)

  apart : number_taken (pick test (here_in ss)) ≡ Some n → at n m ≡ false
  apart f = at_above m n (picked_above m n test ss above f)

  go : Rest → (o : Option Envelope) → t.envelope ≡ o → number_taken (pick test (and_here m o (here_in ss))) ≡ Some n
      → from_place n (slot_at ((m, t) ∷ ss) n) (here_in (remove_entry (at n) ((m, t) ∷ ss))) ≡ pick test (and_here m t.envelope (here_in ss))
  go rest None q f = rw (apart f, q) (rest f)
  go rest (Some e) q f = by (test (m, plain_envelope e)) refl f where
    by : (b : Bool) → test (m, plain_envelope e) ≡ b → number_taken (if b then Some ((m, plain_envelope e), here_in ss) else keep (m, plain_envelope e) (pick test (here_in ss))) ≡ Some n
        → from_place n (slot_at ((m, t) ∷ ss) n) (here_in (remove_entry (at n) ((m, t) ∷ ss))) ≡ pick test (and_here m t.envelope (here_in ss))
    by true p f =
        let same : m ≡ n = cc in
        let found : at n m ≡ true = ap (at n) same ∙ at_itself n in
        rw (found, q, p) (ap (λ (k : ℕ). Some ((k, plain_envelope e), here_in ss)) (sym same))
    by false p f =
        let f' = sym (number_kept (m, plain_envelope e) (pick test (here_in ss))) ∙ f in
        rw (apart f', q, p) (keep_from (m, plain_envelope e) n (slot_at ss n) (here_in (remove_entry (at n) ss)) ∙ ap (keep (m, plain_envelope e)) (rest f'))

pub none_picked : (test : Arrived → Bool) (zs : List Arrived) → None ≡ number_taken (pick test zs) → None ≡ pick test zs
none_picked test zs is = go (pick test zs) is where
  go : (o : Option (Arrived × List Arrived)) → None ≡ number_taken o → None ≡ o
  go None f = refl
  go (Some p) f = cc

-- ---- without a place

none_left : (test : ℕ → Bool) (ss : Slots) → here_in ss ≡ [] → here_in (remove_entry test ss) ≡ []
none_left test [] e = refl
none_left test (t ∷ ss) e = go t.1.envelope refl (λ f. none_left test ss f) e where
  go : (o : Option Envelope) → t.1.envelope ≡ o → (here_in ss ≡ [] → here_in (remove_entry test ss) ≡ []) → and_here t.0 o (here_in ss) ≡ [] → here_in (cond (test t.0) ss (t ∷ remove_entry test ss)) ≡ []
  go (Some e) q less f = cc
  go None q less f = by (test t.0) (less f) where
    by : (b : Bool) → here_in (remove_entry test ss) ≡ [] → here_in (cond b ss (t ∷ remove_entry test ss)) ≡ []
    by true rest = f
    by false rest = rw q rest

pub no_room_left : (test : ℕ → Bool) (ss : Slots) → room_in ss ≡ [] → room_in (remove_entry test ss) ≡ []
no_room_left test [] e = refl
no_room_left test (t ∷ ss) e = go t.1.envelope refl (λ f. no_room_left test ss f) e where
  go : (o : Option Envelope) → t.1.envelope ≡ o → (room_in ss ≡ [] → room_in (remove_entry test ss) ≡ []) → and_room (t.0, t.1.request) o (room_in ss) ≡ [] → room_in (cond (test t.0) ss (t ∷ remove_entry test ss)) ≡ []
  go None q less f = cc
  go (Some e) q less f = by (test t.0) (less f) where
    by : (b : Bool) → room_in (remove_entry test ss) ≡ [] → room_in (cond b ss (t ∷ remove_entry test ss)) ≡ []
    by true rest = f
    by false rest = rw q rest

pub first_left : (test : ℕ → Bool) (ss : Slots) → HereFirst ss → HereFirst (remove_entry test ss)
first_left test [] first = tt
first_left test (t ∷ ss) first = go (test t.0) (first_left test ss first.1) where
  go : (b : Bool) → HereFirst (remove_entry test ss) → HereFirst (cond b ss (t ∷ remove_entry test ss))
  go true rest = first.1
  go false rest = (by t.1.envelope first.0, rest) where
    by : (o : Option Envelope) → IfNone o (here_in ss ≡ []) → IfNone o (here_in (remove_entry test ss) ≡ [])
    by None e = none_left test ss e
    by (Some e) h = tt

pub all_left : (P : ℕ × Slot → Type 0) (test : ℕ → Bool) (ss : Slots) → AllByRecursion P ss → AllByRecursion P (remove_entry test ss)
all_left P test [] all = tt
all_left P test (t ∷ ss) all = go (test t.0) (all_left P test ss all.1) where
  go : (b : Bool) → AllByRecursion P (remove_entry test ss) → AllByRecursion P (cond b ss (t ∷ remove_entry test ss))
  go true rest = all.1
  go false rest = (all.0, rest)

pub no_free_at : (ss : Slots) (n : ℕ) (s : Slot) → room_in ss ≡ [] → slot_at ss n ≡ Some s → s.envelope ≡ None → ⊥
no_free_at [] n s e found free = cc
no_free_at (t ∷ ss) n s e found free = go t.1.envelope refl (λ r f. no_free_at ss n s r f free) e where
  go : (o : Option Envelope) → t.1.envelope ≡ o → (room_in ss ≡ [] → slot_at ss n ≡ Some s → ⊥) → and_room (t.0, t.1.request) o (room_in ss) ≡ [] → ⊥
  go None q less f = cc
  go (Some x) q less f = by (at n t.0) found where
    by : (b : Bool) → cond b (Some t.1) (slot_at ss n) ≡ Some s → ⊥
    by true g = let same : t.1 ≡ s = cc in let wrong : Some x ≡ None = sym q ∙ ap (λ (u : Slot). u.envelope) same ∙ free in cc
    by false g = less f g

-- ---- the index

then_equal : (o p : Ordering) → is_eq (ordering_then o p) ≡ cond (is_eq o) (is_eq p) false
then_equal Less p = refl
then_equal Equal p = refl
then_equal Greater p = refl

other_request : (r n : ℕ) → at n r ≡ false → (n == r) ≡ false
other_request r n h = grind (arith, nat_tests)

-- one place changes, with its key
indexed : (ss ss' : Slots) (keys keys' : List (ℕ × ℕ)) (request n : ℕ) (w : Option Slot) (b : Bool) → ((q : ℕ) → slot_at ss' q ≡ cond (at n q) w (slot_at ss q))
    → ((q : ℕ × ℕ) → has_key keys' q ≡ cond (is_at (pair_order (request, n)) q) b (has_key keys q)) → is_for request w ≡ b
    → ((r : ℕ) → at request r ≡ false → (is_for r w ≡ false) × (is_for r (slot_at ss n) ≡ false)) → AreIndexed ss keys → AreIndexed ss' keys'
indexed ss ss' keys keys' request n w b places listed own others all r m = go (at n m) refl where
  key : has_key keys' (r, m) ≡ cond (cond (at request r) (at n m) false) b (has_key keys (r, m))
  key = listed (r, m) ∙ ap (λ (c : Bool). cond c b (has_key keys (r, m))) (then_equal (nat_cmp request r) (nat_cmp n m))

  go : (c : Bool) → at n m ≡ c → has_key keys' (r, m) ≡ is_for r (slot_at ss' m)
  go false q = key ∙ rw q (by (at request r)) ∙ all r m ∙ ap (is_for r) (sym place) where
    place : slot_at ss' m ≡ slot_at ss m
    place = places m ∙ rw q refl

    by : (d : Bool) → cond (cond d false false) b (has_key keys (r, m)) ≡ has_key keys (r, m)
    by true = refl
    by false = refl
  go true q = by (at request r) refl where
    same : n ≡ m
    same = at_same n m q

    place : slot_at ss' m ≡ w
    place = places m ∙ rw q refl

    by : (d : Bool) → at request r ≡ d → has_key keys' (r, m) ≡ is_for r (slot_at ss' m)
    by true p =
        let hit : has_key keys' (r, m) ≡ b = key ∙ rw (q, p) refl in
        hit ∙ sym own ∙ ap (λ (k : ℕ). is_for k w) (at_same request r p) ∙ ap (is_for r) (sym place)
    by false p =
        let miss : has_key keys' (r, m) ≡ has_key keys (r, m) = key ∙ rw (q, p) refl in
        miss ∙ all r m ∙ ap (λ (k : ℕ). is_for r (slot_at ss k)) (sym same) ∙ (others r p).1 ∙ sym (others r p).0 ∙ ap (is_for r) (sym place)

abbrev FollowsPlaces : Slots → Slots → ℕ → Option Slot → Type 0
FollowsPlaces ss ss' n w = (q : ℕ) → slot_at ss' q ≡ cond (at n q) w (slot_at ss q)

-- a place is new
pub indexed-made : (ss ss' : Slots) (keys keys' : List (ℕ × ℕ)) (n : ℕ) (s : Slot) → slot_at ss n ≡ None → FollowsPlaces ss ss' n (Some s) → FollowsKeys keys keys' (s.request, n) true → AreIndexed ss keys → AreIndexed ss' keys'
indexed-made ss ss' keys keys' n s none places listed all =
    indexed ss ss' keys keys' s.request n (Some s) true places listed (equal_itself s.request) (λ r p. (other_request r s.request p, ap (is_for r) none)) all

-- a place is gone
pub indexed-gone : (ss ss' : Slots) (keys keys' : List (ℕ × ℕ)) (n : ℕ) (s : Slot) → slot_at ss n ≡ Some s → FollowsPlaces ss ss' n None → FollowsKeys keys keys' (s.request, n) false → AreIndexed ss keys → AreIndexed ss' keys'
indexed-gone ss ss' keys keys' n s found places listed all =
    indexed ss ss' keys keys' s.request n None false places listed refl (λ r p. (refl, ap (is_for r) found ∙ other_request r s.request p)) all

-- a key came and went
pub indexed-back : (ss : Slots) (keys between keys' : List (ℕ × ℕ)) (request n : ℕ) → slot_at ss n ≡ None → FollowsKeys keys between (request, n) true → FollowsKeys between keys' (request, n) false → AreIndexed ss keys → AreIndexed ss keys'
indexed-back ss keys between keys' request n none one two all =
    indexed ss ss keys keys' request n None false (λ q. stays q (at n q) refl) listed refl (λ r p. (refl, ap (is_for r) none)) all
  where
    stays : (q : ℕ) (b : Bool) → at n q ≡ b → slot_at ss q ≡ cond (at n q) None (slot_at ss q)
    stays q true e = rw e (ap (slot_at ss) (sym (at_same n q e)) ∙ none)
    stays q false e = rw e refl

    both : (b : Bool) (c : Bool) → cond b false (cond b true c) ≡ cond b false c
    both true c = refl
    both false c = refl

    listed : FollowsKeys keys keys' (request, n) false
    listed q = two q ∙ ap (λ (c : Bool). cond (is_at (pair_order (request, n)) q) false c) (one q) ∙ both (is_at (pair_order (request, n)) q) (has_key keys q)

-- a response came into its place
pub indexed-filled : (ss ss' : Slots) (keys : List (ℕ × ℕ)) (n : ℕ) (s s' : Slot) → s'.request ≡ s.request → slot_at ss n ≡ Some s → FollowsPlaces ss ss' n (Some s') → AreIndexed ss keys → AreIndexed ss' keys
indexed-filled ss ss' keys n s s' same found places all r m = all r m ∙ go (at n m) refl where
  go : (b : Bool) → at n m ≡ b → is_for r (slot_at ss m) ≡ is_for r (slot_at ss' m)
  go true q =
      let place : slot_at ss' m ≡ Some s' = places m ∙ rw q refl in
      ap (λ (k : ℕ). is_for r (slot_at ss k)) (sym (at_same n m q)) ∙ ap (is_for r) found ∙ ap (λ (k : ℕ). k == r) (sym same) ∙ ap (is_for r) (sym place)
  go false q = let place : slot_at ss' m ≡ slot_at ss m = places m ∙ rw q refl in ap (is_for r) (sym place)

-- ---- one place more

keys_below : (n : ℕ) (ss : Slots) → AreBelow n (here_in ss) → AreBelow n (room_in ss) → AllByRecursion (λ k. suc k ≤ n) (keys_of ss)
keys_below n [] here room = tt
keys_below n (t ∷ ss) here room = go t.1.envelope here room (λ h r. keys_below n ss h r) where
  go : (o : Option Envelope) → AreBelow n (and_here t.0 o (here_in ss)) → AreBelow n (and_room (t.0, t.1.request) o (room_in ss)) → (AreBelow n (here_in ss) → AreBelow n (room_in ss) → AllByRecursion (λ k. suc k ≤ n) (keys_of ss))
      → AllByRecursion (λ k. suc k ≤ n) (keys_of (t ∷ ss))
  go None h r rest = (r.0, rest h r.1)
  go (Some e) h r rest = (h.0, rest h.1 r)

insert_last : (n : ℕ) (s : Slot) (ss : Slots) → AllByRecursion (λ k. suc k ≤ n) (keys_of ss) → insert_entry nat_cmp ss n s ≡ ss ++ (n, s) ∷ []
insert_last n s [] below = refl
insert_last n s (t ∷ ss) below = let first = below.0 in let less : t.0 < n = omega arith in rw (after_itself t.0 n less) (ap (λ us. t ∷ us) (insert_last n s ss below.1))

none_below : (n : ℕ) (ss : Slots) → AllByRecursion (λ k. suc k ≤ n) (keys_of ss) → slot_at ss n ≡ None
none_below n [] below = refl
none_below n (t ∷ ss) below = let first = below.0 in let less : t.0 < n = omega arith in rw (at_above t.0 n less) (none_below n ss below.1)

pub new_place : (n : ℕ) (ss : Slots) → AreBelow n (here_in ss) → AreBelow n (room_in ss) → slot_at ss n ≡ None
new_place n ss here room = none_below n ss (keys_below n ss here room)

pub last_place : (n : ℕ) (s : Slot) (ss : Slots) → AreBelow n (here_in ss) → AreBelow n (room_in ss) → insert_entry nat_cmp ss n s ≡ ss ++ (n, s) ∷ []
last_place n s ss here room = insert_last n s ss (keys_below n ss here room)

pub here-last : (ss : Slots) (t : ℕ × Slot) → t.1.envelope ≡ None → here_in (ss ++ t ∷ []) ≡ here_in ss
here-last [] t free = rw free refl
here-last (u ∷ ss) t free = ap (and_here u.0 u.1.envelope) (here-last ss t free)

pub room-last : (ss : Slots) (t : ℕ × Slot) → t.1.envelope ≡ None → room_in (ss ++ t ∷ []) ≡ room_in ss ++ (t.0, t.1.request) ∷ []
room-last [] t free = rw free refl
room-last (u ∷ ss) t free = go u.1.envelope (room-last ss t free) where
  go : (o : Option Envelope) → room_in (ss ++ t ∷ []) ≡ room_in ss ++ (t.0, t.1.request) ∷ [] → and_room (u.0, u.1.request) o (room_in (ss ++ t ∷ [])) ≡ and_room (u.0, u.1.request) o (room_in ss) ++ (t.0, t.1.request) ∷ []
  go None rest = ap (λ rs. (u.0, u.1.request) ∷ rs) rest
  go (Some e) rest = rest

pub first-last : (ss : Slots) (t : ℕ × Slot) → t.1.envelope ≡ None → HereFirst ss → HereFirst (ss ++ t ∷ [])
first-last [] t free first = (rw free refl, tt)
first-last (u ∷ ss) t free first = (go u.1.envelope first.0, first-last ss t free first.1) where
  go : (o : Option Envelope) → IfNone o (here_in ss ≡ []) → IfNone o (here_in (ss ++ t ∷ []) ≡ [])
  go None e = here-last ss t free ∙ e
  go (Some x) e = tt

pub first-fewer : (ss : Slots) (t : ℕ × Slot) → t.1.envelope ≡ None → HereFirst (ss ++ t ∷ []) → HereFirst ss
first-fewer [] t free first = tt
first-fewer (u ∷ ss) t free first = (go u.1.envelope first.0, first-fewer ss t free first.1) where
  go : (o : Option Envelope) → IfNone o (here_in (ss ++ t ∷ []) ≡ []) → IfNone o (here_in ss ≡ [])
  go None e = sym (here-last ss t free) ∙ e
  go (Some x) e = tt

pub all-last : (P : ℕ × Slot → Type 0) (ss : Slots) (t : ℕ × Slot) → P t → AllByRecursion P ss → AllByRecursion P (ss ++ t ∷ [])
all-last P [] t own all = (own, tt)
all-last P (u ∷ ss) t own all = (all.0, all-last P ss t own all.1)

pub all-fewer : (P : ℕ × Slot → Type 0) (ss : Slots) (t : ℕ × Slot) → AllByRecursion P (ss ++ t ∷ []) → AllByRecursion P ss
all-fewer P [] t all = tt
all-fewer P (u ∷ ss) t all = (all.0, all-fewer P ss t all.1)

pub get-last : (ss : Slots) (t : ℕ × Slot) → slice_get (ss ++ t ∷ []) (length ss) ≡ Some t
get-last [] t = refl
get-last (u ∷ ss) t = get-last ss t

some_here : (ss : Slots) (i : ℕ) (s : ℕ × Slot) (e : Envelope) → slice_get ss i ≡ Some s → s.1.envelope ≡ Some e → here_in ss ≡ [] → ⊥
some_here [] i s e found full none = cc
some_here (t ∷ ss) i s e found full none = go t.1.envelope refl none i found (λ k f n. some_here ss k s e f full n) where
  go : (o : Option Envelope) → t.1.envelope ≡ o → and_here t.0 o (here_in ss) ≡ [] → (i : ℕ) → slice_get (t ∷ ss) i ≡ Some s → ((k : ℕ) → slice_get ss k ≡ Some s → here_in ss ≡ [] → ⊥) → ⊥
  go (Some x) q f i g rest = cc
  go None q f zero g rest = let same : t ≡ s = cc in let wrong : None ≡ Some e = sym q ∙ ap (λ (u : ℕ × Slot). u.1.envelope) same ∙ full in cc
  go None q f (suc i) g rest = rest i g f

-- where a response is in the last place no place is free
pub full_last : (ss : Slots) (i : ℕ) (s : ℕ × Slot) (e : Envelope) → HereFirst ss → slice_get ss i ≡ Some s → length ss ≡ suc i → s.1.envelope ≡ Some e → room_in ss ≡ []
full_last [] i s e first found len full = cc
full_last (t ∷ []) zero s e first found len full = let same : t ≡ s = cc in let q : t.1.envelope ≡ Some e = ap (λ (u : ℕ × Slot). u.1.envelope) same ∙ full in rw q refl
full_last (t ∷ []) (suc i) s e first found len full = absurd (omega arith)
full_last (t ∷ u ∷ ss) zero s e first found len full = absurd (omega arith)
full_last (t ∷ u ∷ ss) (suc i) s e first found len full = go t.1.envelope first.0 (full_last (u ∷ ss) i s e first.1 found (omega arith) full) where
  go : (o : Option Envelope) → IfNone o (here_in (u ∷ ss) ≡ []) → room_in (u ∷ ss) ≡ [] → and_room (t.0, t.1.request) o (room_in (u ∷ ss)) ≡ []
  go None none rest = absurd (some_here (u ∷ ss) i s e found full none)
  go (Some x) none rest = rest

-- ---- a response comes into the first free place

pub record IsPut (ss ss' : Slots) (n r : ℕ) (x : Envelope) : Type 0 where
  pub here : here_in ss' ≡ here_in ss ++ (n, plain_envelope x) ∷ []
  pub room : room_in ss ≡ (n, r) ∷ room_in ss'
  pub first : HereFirst ss'

pub record IsFree (ss : Slots) (n r : ℕ) (s : Slot) : Type 0 where
  pub found : slot_at ss n ≡ Some s
  pub free : s.envelope ≡ None
  pub request : s.request ≡ r

pub free_at : (ss : Slots) (n r : ℕ) → AreInOrder ss → slice_get (room_in ss) 0 ≡ Some (n, r) → (s : Slot) × IsFree ss n r s
free_at [] n r order is = cc
free_at ((m, t) ∷ ss) n r order is = go t.envelope refl is (λ f. free_at ss n r (sorted_tail nat_cmp m (keys_of ss) order) f) where
  go : (o : Option Envelope) → t.envelope ≡ o → slice_get (and_room (m, t.request) o (room_in ss)) 0 ≡ Some (n, r) → (slice_get (room_in ss) 0 ≡ Some (n, r) → (s : Slot) × IsFree ss n r s) → (s : Slot) × IsFree ((m, t) ∷ ss) n r s
  go None q f rest =
      let both : (m, t.request) ≡ (n, r) = cc in
      let one : m ≡ n = ap (λ (k : ℕ × ℕ). k.0) both in
      let two : t.request ≡ r = ap (λ (k : ℕ × ℕ). k.1) both in
      let hit : at n m ≡ true = ap (at n) one ∙ at_itself n in
      (t, record { found = rw hit refl; free = q; request = two })
  go (Some e) q f rest = let h = rest f in (h.0, record { found = found_behind m t ss n h.0 order h.1.found; free = h.1.free; request = h.1.request })

pub put_place : (ss : Slots) (n r : ℕ) (s' : Slot) (x : Envelope) → AreInOrder ss → HereFirst ss → slice_get (room_in ss) 0 ≡ Some (n, r) → s'.envelope ≡ Some x → IsPut ss (set_value (at n) ss s') n r x
put_place [] n r s' x order first is full = cc
put_place ((m, t) ∷ ss) n r s' x order first is full = go t.envelope refl first.0 is (λ f. put_place ss n r s' x (sorted_tail nat_cmp m (keys_of ss) order) first.1 f full) where
  go : (o : Option Envelope) → t.envelope ≡ o → IfNone o (here_in ss ≡ []) → slice_get (and_room (m, t.request) o (room_in ss)) 0 ≡ Some (n, r)
      → (slice_get (room_in ss) 0 ≡ Some (n, r) → IsPut ss (set_value (at n) ss s') n r x) → IsPut ((m, t) ∷ ss) (set_value (at n) ((m, t) ∷ ss) s') n r x
  go None q none f rest =
      let both : (m, t.request) ≡ (n, r) = cc in
      let one : m ≡ n = ap (λ (k : ℕ × ℕ). k.0) both in
      let two : t.request ≡ r = ap (λ (k : ℕ × ℕ). k.1) both in
      let hit : at n m ≡ true = ap (at n) one ∙ at_itself n in
      let set : set_value (at n) ((m, t) ∷ ss) s' ≡ (m, s') ∷ ss = rw hit refl in
      subst (λ (us : Slots). IsPut ((m, t) ∷ ss) us n r x) (sym set) (record {
        here = rw (q, full, none) (ap (λ (k : ℕ). (k, plain_envelope x) ∷ []) one);
        room = rw (q, full) (ap (λ (k : ℕ × ℕ). k ∷ room_in ss) (ap (λ (k : ℕ). (k, t.request)) one ∙ ap (λ (k : ℕ). (n, k)) two));
        first = (rw full tt, first.1);
      })
  go (Some e) q none f rest =
      let h = rest f in
      let place = free_at ss n r (sorted_tail nat_cmp m (keys_of ss) order) f in
      let miss : at n m ≡ false = at_above m n (above_found m n ss place.0 (sorted_head nat_cmp m (keys_of ss) order) place.1.found) in
      let set : set_value (at n) ((m, t) ∷ ss) s' ≡ (m, t) ∷ set_value (at n) ss s' = rw miss refl in
      subst (λ (us : Slots). IsPut ((m, t) ∷ ss) us n r x) (sym set) (record {
        here = rw q (ap (λ (zs : List Arrived). (m, plain_envelope e) ∷ zs) h.here);
        room = rw q h.room;
        first = (rw q tt, h.first);
      })

pub all-set : (P : Slot → Type 0) (test : ℕ → Bool) (ss : Slots) (s' : Slot) → P s' → AllByRecursion (λ s. P s.1) ss → AllByRecursion (λ s. P s.1) (set_value test ss s')
all-set P test [] s' own all = tt
all-set P test (t ∷ ss) s' own all = go (test t.0) (all-set P test ss s' own all.1) where
  go : (b : Bool) → AllByRecursion (λ s. P s.1) (set_value test ss s') → AllByRecursion (λ s. P s.1) (cond b ((t.0, s') ∷ ss) (t ∷ set_value test ss s'))
  go true rest = (own, all.1)
  go false rest = (all.0, rest)

-- ---- the first one

pub first_is : (ss : Slots) (n : ℕ) (s : Slot) → HereFirst ss → slice_get ss 0 ≡ Some (n, s) → option_map (λ e. n) s.envelope ≡ first_number (here_in ss)
first_is [] n s first is = cc
first_is (t ∷ ss) n s first is = subst (λ (u : ℕ × Slot). option_map (λ e. u.0) u.1.envelope ≡ first_number (here_in (t ∷ ss))) same (go t.1.envelope first.0) where
  same : t ≡ (n, s)
  same = cc

  go : (o : Option Envelope) → IfNone o (here_in ss ≡ []) → option_map (λ e. t.0) o ≡ first_number (and_here t.0 o (here_in ss))
  go None none = rw none refl
  go (Some e) none = refl

module _ (test : Arrived → Bool) where
  pub none_passes : (zs : List Arrived) → AllByRecursion (λ z. test z ≡ false) zs → pick test zs ≡ None
  none_passes [] all = refl
  none_passes (z ∷ zs) all = rw (all.0, none_passes zs all.1) refl

  pub first_passes : (zs : List Arrived) → AllByRecursion (λ z. test z ≡ true) zs → first_number zs ≡ number_taken (pick test zs)
  first_passes [] all = refl
  first_passes (z ∷ zs) all = rw all.0 refl

  pub same_picked : (other : Arrived → Bool) (zs : List Arrived) → AllByRecursion (λ z. test z ≡ other z) zs → pick test zs ≡ pick other zs
  same_picked other [] all = refl
  same_picked other (z ∷ zs) all = rw (all.0, same_picked other zs all.1) refl

  -- what each place says of its response
  abbrev Each : (ℕ → Envelope → Type 0) → Slots → Type 0
  Each P ss = (m : ℕ) (s : Slot) (e : Envelope) → slot_at ss m ≡ Some s → s.envelope ≡ Some e → P m e

  each_behind : (P : ℕ → Envelope → Type 0) (m : ℕ) (t : Slot) (ss : Slots) → AreInOrder ((m, t) ∷ ss) → Each P ((m, t) ∷ ss) → Each P ss
  each_behind P m t ss order each k s e found full = each k s e (found_behind m t ss k s order found) full

  pub none_found : (ss : Slots) → AreInOrder ss → Each (λ m e. test (m, plain_envelope e) ≡ false) ss → pick test (here_in ss) ≡ None
  none_found [] order each = refl
  none_found ((m, t) ∷ ss) order each =
      go t.envelope refl (none_found ss (sorted_tail nat_cmp m (keys_of ss) order) (each_behind (λ k e. test (k, plain_envelope e) ≡ false) m t ss order each))
    where
      go : (o : Option Envelope) → t.envelope ≡ o → pick test (here_in ss) ≡ None → pick test (and_here m o (here_in ss)) ≡ None
      go None q rest = rest
      go (Some e) q rest = let fails = each m t e (rw (at_itself m) refl) q in rw (fails, rest) refl

  pub first_found : (n : ℕ) (s : Slot) (ss : Slots) → AreInOrder ss → HereFirst ss → slot_at ss n ≡ Some s → Each (λ m e. m < n → test (m, plain_envelope e) ≡ false) ss
      → ((e : Envelope) → s.envelope ≡ Some e → test (n, plain_envelope e) ≡ true) → option_map (λ e. n) s.envelope ≡ number_taken (pick test (here_in ss))
  first_found n s [] order first found each passes = cc
  first_found n s ((m, t) ∷ ss) order first found each passes =
      go (at n m) refl found (λ f. first_found n s ss (sorted_tail nat_cmp m (keys_of ss) order) first.1 f (each_behind (λ k e. k < n → test (k, plain_envelope e) ≡ false) m t ss order each) passes)
    where
      go : (b : Bool) → at n m ≡ b → cond b (Some t) (slot_at ss n) ≡ Some s → (slot_at ss n ≡ Some s → option_map (λ e. n) s.envelope ≡ number_taken (pick test (here_in ss)))
          → option_map (λ e. n) s.envelope ≡ number_taken (pick test (and_here m t.envelope (here_in ss)))
      go true q f rest = by t.envelope refl first.0 where
        here : t ≡ s
        here = cc

        own : n ≡ m
        own = at_same n m q

        by : (o : Option Envelope) → t.envelope ≡ o → IfNone o (here_in ss ≡ []) → option_map (λ e. n) s.envelope ≡ number_taken (pick test (and_here m t.envelope (here_in ss)))
        by None p none =
            let free : s.envelope ≡ None = sym (ap (λ (u : Slot). u.envelope) here) ∙ p in
            rw (p, free, none) refl
        by (Some e) p none =
            let full : s.envelope ≡ Some e = sym (ap (λ (u : Slot). u.envelope) here) ∙ p in
            let hit : test (m, plain_envelope e) ≡ true = ap (λ (k : ℕ). test (k, plain_envelope e)) (sym own) ∙ passes e full in
            rw (p, full, hit) (ap (λ (k : ℕ). Some k) own)
      go false q f rest = by t.envelope refl where
        less : m < n
        less = above_found m n ss s (sorted_head nat_cmp m (keys_of ss) order) f

        by : (o : Option Envelope) → t.envelope ≡ o → option_map (λ e. n) s.envelope ≡ number_taken (pick test (and_here m t.envelope (here_in ss)))
        by None p = rw p (rest f)
        by (Some e) p =
            let fails = each m t e (rw (at_itself m) refl) p less in
            rw (p, fails) (rest f ∙ sym (number_kept (m, plain_envelope e) (pick test (here_in ss))))

-- ---- by the number of its request

numbered_at : (ss : Slots) (m : ℕ) (s : Slot) → AllByRecursion (λ s. IfSome s.1.envelope (λ e. e.mid.number ≡ s.1.request)) ss → slot_at ss m ≡ Some s → IfSome s.envelope (λ e. e.mid.number ≡ s.request)
numbered_at [] m s all found = cc
numbered_at (t ∷ ss) m s all found = go (at m t.0) found (λ f. numbered_at ss m s all.1 f) where
  go : (b : Bool) → cond b (Some t.1) (slot_at ss m) ≡ Some s → (slot_at ss m ≡ Some s → IfSome s.envelope (λ e. e.mid.number ≡ s.request)) → IfSome s.envelope (λ e. e.mid.number ≡ s.request)
  go true f rest = let same : t.1 ≡ s = cc in subst (λ (u : Slot). IfSome u.envelope (λ e. e.mid.number ≡ u.request)) same all.0
  go false f rest = rest f

module _ (ss : Slots) (keys : List (ℕ × ℕ)) (listed : AreListed ss keys) (request : ℕ) where
  number_of : (m : ℕ) (s : Slot) (e : Envelope) → slot_at ss m ≡ Some s → s.envelope ≡ Some e → e.mid.number ≡ s.request
  number_of m s e found full = subst (λ (o : Option Envelope). IfSome o (λ x. x.mid.number ≡ s.request)) full (numbered_at ss m s listed.numbered found)

  -- a response is there as its key is
  is_there : (m : ℕ) (s : Slot) (e : Envelope) → slot_at ss m ≡ Some s → s.envelope ≡ Some e → has_key keys (request, m) ≡ is_to request (m, plain_envelope e)
  is_there m s e found full = listed.indexed request m ∙ ap (is_for request) found ∙ ap (λ (k : ℕ). k == request) (sym (number_of m s e found full))

  pub none_to : ((n : ℕ) → has_key keys (request, n) ≡ false) → pick (is_to request) (here_in ss) ≡ None
  none_to none = none_found (is_to request) ss listed.ordered (λ m s e found full. sym (is_there m s e found full) ∙ none m)

  pub first_to : (n : ℕ) (s : Slot) → IsFirstTo request n keys → slot_at ss n ≡ Some s → option_map (λ e. n) s.envelope ≡ number_taken (pick (is_to request) (here_in ss))
  first_to n s is found =
      first_found (is_to request) n s ss listed.ordered listed.first found (λ m t e f full less. sym (is_there m t e f full) ∙ is.least m less) (λ e full. sym (is_there n s e found full) ∙ is.there)

  pub is_found : (n : ℕ) → IsFirstTo request n keys → slot_at ss n ≡ None → ⊥
  is_found n is none = let wrong : true ≡ false = sym is.there ∙ listed.indexed request n ∙ ap (is_for request) none in cc

-- ---- what the calls do

some_same : {A : Type 0} {a b : A} → Some a ≡ Some b → a ≡ b
some_same e = cc

abbrev Numbered : Slot → Type 0
Numbered s = IfSome s.envelope (λ e. e.mid.number ≡ s.request)

module _ (ss ss' : Slots) (keys keys' : List (ℕ × ℕ)) (listed : AreListed ss keys) (n : ℕ) (order : AreInOrder ss') where
  pub made-listed : (request : ℕ) (s : Slot) → s.request ≡ request → s.envelope ≡ None → AreBelow n (here_in ss) → AreBelow n (room_in ss) → ss' ≡ insert_entry nat_cmp ss n s → FollowsPlaces ss ss' n (Some s)
      → FollowsKeys keys keys' (request, n) true → AreListed ss' keys'
  made-listed request s is free here room set places with_keys =
      let last : ss' ≡ ss ++ (n, s) ∷ [] = set ∙ last_place n s ss here room in
      record {
        ordered = order;
        first = subst HereFirst (sym last) (first-last ss (n, s) free listed.first);
        numbered = subst (λ (us : Slots). AllByRecursion (λ u. Numbered u.1) us) (sym last) (all-last (λ u. Numbered u.1) ss (n, s) (rw free tt) listed.numbered);
        indexed = indexed-made ss ss' keys keys' n s (new_place n ss here room) places (subst (λ (k : ℕ). FollowsKeys keys keys' (k, n) true) (sym is) with_keys) listed.indexed;
      }

  pub gone-listed : (s : Slot) → slot_at ss n ≡ Some s → ss' ≡ remove_entry (at n) ss → FollowsPlaces ss ss' n None → FollowsKeys keys keys' (s.request, n) false → AreListed ss' keys'
  gone-listed s found set places with_keys = record {
    ordered = order;
    first = subst HereFirst (sym set) (first_left (at n) ss listed.first);
    numbered = subst (λ (us : Slots). AllByRecursion (λ u. Numbered u.1) us) (sym set) (all_left (λ u. Numbered u.1) (at n) ss listed.numbered);
    indexed = indexed-gone ss ss' keys keys' n s found places with_keys listed.indexed;
  }

  pub last-listed : (s : Slot) → s.envelope ≡ None → slot_at ss n ≡ Some s → ss ≡ ss' ++ (n, s) ∷ [] → FollowsPlaces ss ss' n None → FollowsKeys keys keys' (s.request, n) false → AreListed ss' keys'
  last-listed s free found last places with_keys = record {
    ordered = order;
    first = first-fewer ss' (n, s) free (subst HereFirst last listed.first);
    numbered = all-fewer (λ u. Numbered u.1) ss' (n, s) (subst (λ (us : Slots). AllByRecursion (λ u. Numbered u.1) us) last listed.numbered);
    indexed = indexed-gone ss ss' keys keys' n s found places with_keys listed.indexed;
  }

  pub put-listed : (r : ℕ) (s s' : Slot) (x : Envelope) → slot_at ss n ≡ Some s → s'.request ≡ s.request → s'.envelope ≡ Some x → x.mid.number ≡ s.request → slice_get (room_in ss) 0 ≡ Some (n, r) → ss' ≡ set_value (at n) ss s'
      → FollowsPlaces ss ss' n (Some s') → keys' ≡ keys → AreListed ss' keys'
  put-listed r s s' x found same full number is set places keys_are =
      let put = put_place ss n r s' x listed.ordered listed.first is full in
      record {
        ordered = order;
        first = subst HereFirst (sym set) put.first;
        numbered = subst (λ (us : Slots). AllByRecursion (λ u. Numbered u.1) us) (sym set) (all-set Numbered (at n) ss s' (rw full (number ∙ sym same)) listed.numbered);
        indexed = subst (AreIndexed ss') (sym keys_are) (indexed-filled ss ss' keys n s s' same found places listed.indexed);
      }

-- where none is found, none is taken
pub taken_none : (ss : Slots) (here : List Arrived) (test : Arrived → Bool) (n : ℕ) (found : Option ℕ) → AreInOrder ss → here_in ss ≡ here → found ≡ Some n → found ≡ number_taken (pick test here) → None ≡ slot_at ss n → None ≡ pick test here
taken_none ss here test n found order seen one is none =
    let picked = from_picked test ss n order (ap (λ zs. number_taken (pick test zs)) seen ∙ sym is ∙ one) in
    ap (λ (o : Option Slot). from_place n o (here_in (remove_entry (at n) ss))) none ∙ picked ∙ ap (pick test) seen

pub taken_some : (ss ss' : Slots) (here : List Arrived) (test : Arrived → Bool) (n : ℕ) (found : Option ℕ) (s : Slot) (e : Envelope) → AreInOrder ss → here_in ss ≡ here → found ≡ Some n → found ≡ number_taken (pick test here) → Some s ≡ slot_at ss n
    → s.envelope ≡ Some e → ss' ≡ remove_entry (at n) ss → Some ((n, plain_envelope e), here_in ss') ≡ pick test here
taken_some ss ss' here test n found s e order seen one is there full set =
    let picked = from_picked test ss n order (ap (λ zs. number_taken (pick test zs)) seen ∙ sym is ∙ one) in
    let gives : from_place n (Some s) (here_in ss') ≡ Some ((n, plain_envelope e), here_in ss') = rw full refl in
    sym gives ∙ ap (λ (us : Slots). from_place n (Some s) (here_in us)) set ∙ ap (λ (o : Option Slot). from_place n o (here_in (remove_entry (at n) ss))) there ∙ picked ∙ ap (pick test) seen

-- ---- the first key of a request

abbrev pub IsLeast : List (ℕ × ℕ) → ℕ → ℕ × ℕ → Type 0
IsLeast keys request key = (q : ℕ × ℕ) → is_gt (pair_order (request, 0) q) ≡ false → has_key keys q ≡ true → is_gt (pair_order key q) ≡ false

pub in_range : (request n : ℕ) → is_gt (pair_order (request, 0) (request, n)) ≡ false
in_range request n = grind (arith, nat_tests)

greater_request : (a b request n : ℕ) → request < a → is_gt (pair_order (a, b) (request, n)) ≡ true
greater_request a b request n h = grind (arith, nat_tests)

greater_number : (request m n : ℕ) → n < m → is_gt (pair_order (request, m) (request, n)) ≡ true
greater_number request m n h = grind (arith, nat_tests)

no_less_request : (request a b : ℕ) → is_gt (pair_order (request, 0) (a, b)) ≡ false → request ≤ a
no_less_request request a b h = grind (arith, nat_tests)

pub not_there : (keys : List (ℕ × ℕ)) (q : ℕ × ℕ) → (has_key keys q ≡ true → ⊥) → has_key keys q ≡ false
not_there keys q wrong = go (has_key keys q) refl where
  go : (b : Bool) → has_key keys q ≡ b → b ≡ false
  go true e = absurd (wrong e)
  go false e = refl

pub past_first : (keys : List (ℕ × ℕ)) (request : ℕ) (key : ℕ × ℕ) → IsLeast keys request key → request < key.0 → (n : ℕ) → has_key keys (request, n) ≡ false
past_first keys request key least past n =
    not_there keys (request, n) (λ there. let wrong : true ≡ false = sym (greater_request key.0 key.1 request n past) ∙ least (request, n) (in_range request n) there in cc)

pub first_key : (keys : List (ℕ × ℕ)) (request : ℕ) (key : ℕ × ℕ) → IsLeast keys request key → is_gt (pair_order (request, 0) key) ≡ false → has_key keys key ≡ true → key.0 ≤ request → IsFirstTo request key.1 keys
first_key keys request key least from there within =
    let no_less = no_less_request request key.0 key.1 from in
    let same : key.0 ≡ request = omega arith in
    let is : key ≡ (request, key.1) = ap (λ (k : ℕ). (k, key.1)) same in
    record {
      there = subst (λ (k : ℕ × ℕ). has_key keys k ≡ true) is there;
      least = λ n less. not_there keys (request, n) (λ has.
          let le : is_gt (pair_order key (request, n)) ≡ false = least (request, n) (in_range request n) has in
          let wrong : true ≡ false = sym (greater_number request key.1 n less) ∙ subst (λ (k : ℕ × ℕ). is_gt (pair_order k (request, n)) ≡ false) is le in
          cc);
    }

-- ---- the last place

pub last_full : (ss : Slots) (s : ℕ × Slot) → 0 < length ss → slice_get ss (length ss - 1) ≡ Some s → is_some s.1.envelope ≡ true → HereFirst ss → room_in ss ≡ []
last_full ss s some last full first = go s.1.envelope refl full where
  go : (o : Option Envelope) → s.1.envelope ≡ o → is_some o ≡ true → room_in ss ≡ []
  go None q f = cc
  go (Some e) q f = full_last ss (length ss - 1) s e first last (omega arith) q

pub last_is_free : (ss ss' : Slots) (t : ℕ × Slot) → IsLastFree ss → ss ≡ ss' ++ t ∷ [] → t.1.envelope ≡ None
last_is_free ss ss' t free is =
    let len : length ss ≡ length ss' + 1 = ap length is ∙ length-append ss' (t ∷ []) in
    let place : length ss - 1 ≡ length ss' = omega arith in
    let last : slice_get ss (length ss - 1) ≡ Some t = ap (slice_get ss) place ∙ ap (λ (us : Slots). slice_get us (length ss')) is ∙ get-last ss' t in
    subst (λ (o : Option (ℕ × Slot)). IfSome o (λ u. u.1.envelope ≡ None)) last free.0

pub room-fewer : (ss ss' : Slots) (t : ℕ × Slot) → t.1.envelope ≡ None → ss ≡ ss' ++ t ∷ [] → length (room_in ss) ≡ suc (length (room_in ss'))
room-fewer ss ss' t free is =
    let len : length (room_in ss) ≡ length (room_in ss') + 1 = ap (λ (us : Slots). length (room_in us)) is ∙ ap length (room-last ss' t free) ∙ length-append (room_in ss') ((t.0, t.1.request) ∷ []) in
    omega arith

-- ---- a response comes in

module _ (ss ss' : Slots) (keys : List (ℕ × ℕ)) (listed : AreListed ss keys) (n : ℕ) (x : Envelope) (is : slice_get (room_in ss) 0 ≡ Some (n, x.mid.number)) where
  pub is_place : None ≡ slot_at ss n → ⊥
  is_place none = let place = free_at ss n x.mid.number listed.ordered is in let wrong : None ≡ Some place.0 = none ∙ place.1.found in cc

  pub came-listed : AreInOrder ss' → (s s' : Slot) → Some s ≡ slot_at ss n → s' ≡ record { request = s.request; envelope = Some x } → ss' ≡ set_value (at n) ss s' → (IsSome (slot_at ss n) → FollowsPlaces ss ss' n (Some s')) → AreListed ss' keys
  came-listed order s s' found new set places =
      let place = free_at ss n x.mid.number listed.ordered is in
      let same : place.0 ≡ s = some_same (sym place.1.found ∙ sym found) in
      put-listed ss ss' keys keys listed n order x.mid.number s s' x (sym found) (ap (λ (u : Slot). u.request) new) (ap (λ (u : Slot). u.envelope) new) (sym place.1.request ∙ ap (λ (u : Slot). u.request) same) is set
      (places (ap is_some (sym found))) refl

  pub came : (s' : Slot) (s : Slot) → s' ≡ record { request = s.request; envelope = Some x } → ss' ≡ set_value (at n) ss s' → IsPut ss ss' n x.mid.number x
  came s' s new set =
      let put = put_place ss n x.mid.number s' x listed.ordered listed.first is (ap (λ (u : Slot). u.envelope) new) in
      subst (λ (us : Slots). IsPut ss us n x.mid.number x) (sym set) put

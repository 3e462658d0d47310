-- What a hand finds, of what its ends find; and new hands.
use Rattle.std.proofs.Common.{◌≡◌, ◌⊎◌, ℕ, zero, suc, ◌+◌, ◌<◌, List, [], ◌∷◌, ◌++◌, length, slice_set, slice_index_or, replicate, All, take, drop, Option, Some, None, MatchOption, refl, ap, sym, ◌∙◌, subst, inl, inr, arith}
use Rattle.std.proofs.lemmas.List.Elements.{All-append}
use Rattle.caf_sched.specs.Ends.{Rose, OwnSeen, OtherSeen, new_own, new_other}
use Rattle.caf_sched.specs.Hand.{HandSeen, AllRose, NoneFell, DrewOne, SomeDrawn, SomeEmpty, new_hand, drawn_of, empties_of}

seam : {A : Type 0} (xs ys : List A) → take (length xs) (xs ++ ys) ≡ xs
seam [] ys = refl
seam (x ∷ xs) ys = ap (λ l. x ∷ l) (seam xs ys)

-- a row that was lent as a slice and came back
pub came_back : {A : Type 0} (n : ℕ) (new old : List A) → length new ≡ length old → n ≡ length old → take n (new ++ drop (length new) old) ≡ new
came_back n new old e f = rw (f, ← e) (seam new (drop (length new) old))

-- one end found nothing; so it is what the others found
pub found : (r : Option ℕ) (own own' : List ℕ) (e e' : ℕ) (old new : List (List ℕ)) (old' new' : List ℕ)
    → own' ≡ own → Rose e e' → MatchOption r ((new ≡ old) × AllRose old' new') (DrewOne old new)
    → MatchOption r ((own' ∷ new ≡ own ∷ old) × AllRose (e ∷ old') (e' ∷ new')) (DrewOne (own ∷ old) (own' ∷ new))
found None own own' e e' old new old' new' same rose h = (λ i. same i ∷ h.0 i, (rose, h.1))
found (Some t) own own' e e' old new old' new' same rose h = (suc h.0, let a = h.1 in omega arith, λ i. same i ∷ h.2 i)

pub none_fell : (xs : List ℕ) → NoneFell xs xs
none_fell [] = tt
none_fell (x ∷ xs) = (omega arith, none_fell xs)

all_one : {A : Type 0} (F : A → Type 0) (x : A) → F x → All F (x ∷ [])
all_one F x h zero d l = h
all_one F x h (suc k) d l = absurd (omega arith)

all_rest : {A : Type 0} (F : A → Type 0) (x : A) (xs : List A) → All F (x ∷ xs) → All F xs
all_rest F x xs h = λ k d l. h (suc k) d (omega arith)

drawn_same : (os : List OtherSeen) → All (λ o. o ≡ new_other) os → drawn_of os ≡ replicate (length os) []
drawn_same [] h = refl
drawn_same (o ∷ os) h = (λ i. (h 0 o (omega arith) i).drawn ∷ drawn_same os (all_rest (λ x. x ≡ new_other) o os h) i)

empties_same : (os : List OtherSeen) → All (λ o. o ≡ new_other) os → empties_of os ≡ replicate (length os) 0
empties_same [] h = refl
empties_same (o ∷ os) h = (λ i. (h 0 o (omega arith) i).empties ∷ empties_same os (all_rest (λ x. x ≡ new_other) o os h) i)

pub hand_is : (own : OwnSeen) (os : List OtherSeen) → own ≡ new_own → All (λ o. o ≡ new_other) os
    → record { puts = own.puts; drawn = own.drawn ∷ drawn_of os; empties = own.empties ∷ empties_of os } ≡ new_hand (length os + 1)
hand_is own os e h = let one : length os + 1 ≡ suc (length os) = omega arith in rw one (λ i. record { puts = (e i).puts; drawn = (e i).drawn ∷ drawn_same os h i; empties = (e i).empties ∷ empties_same os h i })

pub all_same : {A : Type 0} (a : A) (xs : List A) → All (λ x. x ≡ a) xs → xs ≡ replicate (length xs) a
all_same a [] h = refl
all_same a (x ∷ xs) h = λ i. h 0 x (omega arith) i ∷ all_same a xs (all_rest (λ y. y ≡ a) x xs h) i

pub one_hand_more : (n m : ℕ) (h : HandSeen) (hs : List HandSeen) → All (λ x. x ≡ new_hand n) hs → h ≡ new_hand (m + 1) → m + 1 ≡ n → All (λ x. x ≡ new_hand n) (hs ++ h ∷ [])
one_hand_more n m h hs old e f = All-append (λ x. x ≡ new_hand n) hs (h ∷ []) old (all_one (λ x. x ≡ new_hand n) h (e ∙ ap new_hand f))

rose_up : (e e' : ℕ) → Rose e e' → 0 < e'
rose_up e e' h = grind arith

some_at : (x : List ℕ) (t : ℕ) (ls : List (List ℕ)) → SomeDrawn ((x ++ t ∷ []) ∷ ls)
some_at [] t ls = tt
some_at (y ∷ x) t ls = tt

some_later : (x : List ℕ) (ls : List (List ℕ)) → SomeDrawn ls → SomeDrawn (x ∷ ls)
some_later [] ls h = h
some_later (t ∷ x) ls h = tt

some_set : (old : List (List ℕ)) (k : ℕ) (x : List ℕ) (t : ℕ) → k < length old → SomeDrawn (slice_set old k (x ++ t ∷ []))
some_set [] k x t h = absurd (omega arith)
some_set (y ∷ old) zero x t h = some_at x t old
some_set (y ∷ old) (suc k) x t h = some_later y (slice_set old k (x ++ t ∷ [])) (some_set old k x t (omega arith))

-- whatever a draw found, it was a draw
pub made : (r : Option ℕ) (old new : List (List ℕ)) (e e' : ℕ) (es es' : List ℕ) → MatchOption r ((new ≡ old) × AllRose (e ∷ es) (e' ∷ es')) (DrewOne old new) → SomeDrawn new ⊎ SomeEmpty (e' ∷ es')
made None old new e e' es es' h = inr (inl (rose_up e e' h.1.0))
made (Some t) old new e e' es es' h = inl (subst SomeDrawn (sym h.2) (some_set old h.0 (slice_index_or old h.0 []) t h.1))

pub made_own : (own own' : List ℕ) (t : ℕ) (ls : List (List ℕ)) (es : List ℕ) → own' ≡ own ++ t ∷ [] → SomeDrawn (own' ∷ ls) ⊎ SomeEmpty es
made_own own own' t ls es h = inl (subst (λ l. SomeDrawn (l ∷ ls)) (sym h) (some_at own t ls))

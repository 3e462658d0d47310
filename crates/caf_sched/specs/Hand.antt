-- What is seen of a hand, and what a draw does to it.
use Rattle.std.specs.Prelude.{◌≡◌, ◌⊎◌, ℕ, ◌<◌, ◌≤◌, List, [], ◌∷◌, ◌++◌, length, slice_set, slice_index_or, replicate}
use Rattle.caf_sched.specs.declared.hand.Draw.{Draw}
use Rattle.caf_sched.specs.declared.hand.Draw.TheVariants.{Ticket, Empty}
use Rattle.caf_sched.specs.Ends.{OtherSeen, Rose}

pub record HandSeen : Type 0 where
  -- the tickets that it put on its own deque
  pub puts : List ℕ
  -- the tickets that it popped or stole, by deque, its own first
  pub drawn : List (List ℕ)
  -- its empty tries, by deque, its own first
  pub empties : List ℕ

-- a new hand, of so many
abbrev pub new_hand : ℕ → HandSeen
new_hand workers = record { puts = []; drawn = replicate workers []; empties = replicate workers 0 }

-- exactly one of the lists grew, by this ticket at its end
abbrev pub DrewOne : List (List ℕ) → List (List ℕ) → ℕ → Type 0
DrewOne old new t = (deque : ℕ) × (deque < length old) × (new ≡ slice_set old deque (slice_index_or old deque [] ++ t ∷ []))

-- each count rose
abbrev pub AllRose : List ℕ → List ℕ → Type 0
AllRose [] [] = Unit {0}
AllRose [] (y ∷ ys) = ⊥
AllRose (x ∷ xs) [] = ⊥
AllRose (x ∷ xs) (y ∷ ys) = Rose x y × AllRose xs ys

-- as many counts, of which none fell
abbrev pub NoneFell : List ℕ → List ℕ → Type 0
NoneFell [] [] = Unit {0}
NoneFell [] (y ∷ ys) = ⊥
NoneFell (x ∷ xs) [] = ⊥
NoneFell (x ∷ xs) (y ∷ ys) = (x ≤ y) × NoneFell xs ys

-- what a draw found: a ticket of one deque, or nothing, and then each deque was tried in vain
abbrev pub Draws : HandSeen → HandSeen → Draw → Type 0
Draws old new (Ticket t) = DrewOne old.drawn new.drawn t
Draws old new Empty = (new.drawn ≡ old.drawn) × AllRose old.empties new.empties

abbrev pub SomeDrawn : List (List ℕ) → Type 0
SomeDrawn [] = ⊥
SomeDrawn ([] ∷ ls) = SomeDrawn ls
SomeDrawn ((t ∷ ts) ∷ ls) = Unit {0}

abbrev pub SomeEmpty : List ℕ → Type 0
SomeEmpty [] = ⊥
SomeEmpty (x ∷ xs) = (0 < x) ⊎ SomeEmpty xs

-- it made at least one draw: a drawn list isn't empty, or a count of empty tries is above 0
abbrev pub HasDrawn : HandSeen → Type 0
HasDrawn h = SomeDrawn h.drawn ⊎ SomeEmpty h.empties

abbrev pub drawn_of : List OtherSeen → List (List ℕ)
drawn_of [] = []
drawn_of (o ∷ os) = o.drawn ∷ drawn_of os

abbrev pub empties_of : List OtherSeen → List ℕ
empties_of [] = []
empties_of (o ∷ os) = o.empties ∷ empties_of os

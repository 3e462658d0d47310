-- What comes back of a crew.
use Rattle.std.specs.Prelude.{◌≡◌, ℕ, List, [], ◌∷◌, ◌++◌, length, All}
use mathlib.Core.Option.{some}
use lib.ListN.{get_elem?}
use Rattle.caf_turns.specs.Rule.{Opens}
use Rattle.caf_sched.specs.Hand.{HandSeen, HasDrawn}

-- as many bodies, each with every mark of the one that was given at its place
abbrev pub ComeBack : {T M : Type 0} → (T → M → Type 0) → List T → List T → Type 0
ComeBack {T} has given back = (length back ≡ length given) × ((i : ℕ) (body : T) → get_elem? back i ≡ some body → Opens has given i body)

abbrev pub IsPrefix : List ℕ → List ℕ → Type 0
IsPrefix xs ys = (rest : List ℕ) × (xs ++ rest ≡ ys)

-- the puts of the first hand begin with these tickets
abbrev pub BeginsWith : List ℕ → List HandSeen → Type 0
BeginsWith tickets [] = ⊥
BeginsWith tickets (h ∷ hands) = IsPrefix tickets h.puts

-- the hands after their use: as many, whose puts begin as they did, and each made a draw
pub record Used (given back : List HandSeen) : Type 0 where
  pub count : length back ≡ length given
  pub puts : (tickets : List ℕ) → BeginsWith tickets given → BeginsWith tickets back
  pub drawn : All HasDrawn back

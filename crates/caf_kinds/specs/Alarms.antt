-- The requests that an alarm holds, each under the number that it gave it.
use Rattle.std.specs.Prelude.{ℕ, ◌+◌, ◌≤◌, ◌==◌, Bool, List, [], ◌∷◌, ◌++◌, map}
use Rattle.std.specs.List.{AllByRecursion}
use Rattle.caf_actor.specs.declared.origin.Origin.{Origin}
use Rattle.caf_kinds.specs.declared.alarms.Asker.{Asker}

-- a held request, under the number that the alarm gave it
pub record Awaited : Type 0 where
  pub given : ℕ
  pub requester : ℕ
  pub number : ℕ

pub record Alarms : Type 0 where
  -- the number that was given last, 0 at first
  pub last : ℕ
  -- in the order of their numbers
  pub held : List Awaited

abbrev pub no_alarms : Alarms
no_alarms = record { last = 0; held = [] }

abbrev pub asker : Origin → Asker
asker origin = record { requester = origin.mid.requester; number = origin.mid.number }

abbrev pub awaited : ℕ → Asker → Awaited
awaited given a = record { given = given; requester = a.requester; number = a.number }

-- a request gets the next number
abbrev pub numbered : Alarms → Origin → Alarms
numbered s origin = record { last = s.last + 1; held = s.held ++ awaited (s.last + 1) (asker origin) ∷ [] }

abbrev pub has_number : ℕ → Awaited → Bool
has_number k a = a.given == k

-- ---- how they are kept: each under its number

abbrev pub all_awaited : List (ℕ × Asker) → List Awaited
all_awaited es = map (λ e. awaited e.0 e.1) es

abbrev pub WereGiven : ℕ → List (ℕ × Asker) → Type 0
WereGiven last es = AllByRecursion (λ e. e.0 ≤ last) es

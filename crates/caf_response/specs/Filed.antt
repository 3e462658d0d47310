-- How multiplexed requests are kept: each under its number.
use Rattle.std.specs.Prelude.{◌≡◌, ◌<◌, ℕ, List, map}
use Rattle.std.specs.List.{AllByRecursion}
use Rattle.caf_response.specs.declared.pending.Waiting.{Waiting}
use Rattle.caf_response.specs.Pending.{WaitingRequests, AreNumbered}

abbrev pub waiting_in : List (ℕ × Waiting) → List Waiting
waiting_in es = map (λ e. e.1) es

-- each stands under its number, which was given
abbrev pub AreFiled : ℕ → List (ℕ × Waiting) → Type 0
AreFiled next es = AllByRecursion (λ e. (e.0 ≡ e.1.number) × (e.0 < next)) es

-- what is kept so means these requests
abbrev pub seen_as : ℕ → List Waiting → List (ℕ × Waiting) → List (ℕ × ℕ) → WaitingRequests
seen_as next awaited es due = record { next = next; awaited = awaited; multiplexed = waiting_in es; due = due }

-- what `Pending` keeps at all times
pub record IsInForm (next : ℕ) (awaited : List Waiting) (es : List (ℕ × Waiting)) (due : List (ℕ × ℕ)) : Type 0 where
  pub filed : AreFiled next es
  pub numbered : AreNumbered (seen_as next awaited es due)

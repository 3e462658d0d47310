-- Who an actor is: what no reaction changes.
use Rattle.std.specs.Prelude.{ℕ, ◌<◌, ◌≤◌, List, length}
use Rattle.std.specs.List.{AllByRecursion}
use Rattle.caf_signature.specs.declared.interface.Signature.{Signature}

-- its place, its peers, and the places of its children
pub record Who : Type 0 where
  pub place : ℕ
  pub peers : List ℕ
  pub reserve : List ℕ

-- it has at most 255 peers, and the places of its children are below 256
pub record IsWho (who : Who) : Type 0 where
  pub peers : length who.peers ≤ 255
  pub reserve : AllByRecursion (λ p. p < 256) who.reserve

-- that, and what it takes
pub record Fixed : Type 0 where
  pub who : Who
  pub interface : List Signature

abbrev pub fixed : Who → List Signature → Fixed
fixed who interface = record { who = who; interface = interface }

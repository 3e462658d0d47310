-- A body, and the bodies that it may have been before.
use Rattle.std.specs.Prelude.{◌≡◌, ℕ, Bool, false, List, length, slice_get, Some}
use Rattle.caf_actor.specs.Rules.{Rules}
use Rattle.caf_system.specs.Station.{StationSeen, GoesOn}

pub record BodySeen (S : Type 0) : Type 0 where
  pub station : StationSeen S
  -- memory was wanted in a turn
  pub is_broken : Bool

-- unless it is broken, it went on from there
abbrev pub HasMark : {S : Type 0} → Rules S → BodySeen S → BodySeen S → Type 0
HasMark rules b m = b.is_broken ≡ false → (m.is_broken ≡ false) × GoesOn rules m.station b.station

-- as many bodies, of which each went on from the one that was at its place
pub record HaveGoneOn {S : Type 0} (rules : Rules S) (old new : List (BodySeen S)) : Type 0 where
  pub count : length new ≡ length old
  pub each : (p : ℕ) (was now : BodySeen S) → slice_get old p ≡ Some was → slice_get new p ≡ Some now → HasMark rules now was

-- Which places have quit, as a watcher knows, and the requests that it holds until they are so many.
use Rattle.std.specs.Prelude.{◌≡◌, ℕ, ◌+◌, ◌≤◌, nat_lt, nat_le, not, Bool, false, List, [], ◌∷◌, length, map, filter, if◌then◌else◌}
use Rattle.std.specs.List.{AllByRecursion}
use Rattle.caf_types.specs.ShapeTree.{place, list}
use Rattle.caf_words.specs.Datum.{no_data, more, a_place, a_list, data_of}
use Rattle.caf_observe.specs.Places.{with_place}
use Rattle.caf_actor.specs.declared.origin.Origin.{Origin}
use Rattle.caf_actor.specs.PlainOutput.{PlainOutput}
use Rattle.caf_actor.specs.PlainOutput as output
use Rattle.caf_kinds.specs.Asking.{Types, content}
use Rattle.caf_kinds.specs.declared.sights.Sought.{Sought}

pub record Sights : Type 0 where
  -- the places below 256 of which a down notice came, in rising order
  pub gone : List ℕ
  -- the held requests, in the order in which they came
  pub held : List Sought

abbrev pub no_sights : Sights
no_sights = record { gone = []; held = [] }

-- ---- messages

abbrev pub of_places : Types
of_places = (9, list place) ∷ []

-- [places]
abbrev pub places_content : List ℕ → List ℕ
places_content ps = content of_places (more (a_list (data_of (map a_place ps))) no_data)

-- ---- what is held

-- held until so many places have quit
abbrev pub sought : Origin → ℕ → Sought
sought origin least = record { requester = origin.mid.requester; number = origin.mid.number; least = least }

abbrev pub is_reached : ℕ → Sought → Bool
is_reached count h = nat_le h.least count

abbrev pub told : List ℕ → Sought → PlainOutput
told gone h = output.Deliver h.requester h.number (places_content gone)

-- ---- down notices

abbrev pub with_down : List ℕ → ℕ → List ℕ
with_down gone p = if nat_lt p 256 then with_place gone p else gone

-- where these places have quit, the held requests that they reach are told them, in the order in which they came
abbrev pub notified : Sights → List ℕ → Sights × List PlainOutput
notified s gone = (
  record { gone = gone; held = filter (λ h. not (is_reached (length gone) h)) s.held },
  map (told gone) (filter (is_reached (length gone)) s.held),
)

-- ---- what holds of sights

-- places below 256 in rising order, none of them before the first one
abbrev pub AreRising : ℕ → List ℕ → Type 0
AreRising first [] = first ≤ 256
AreRising first (p ∷ ps) = (first ≤ p) × AreRising (p + 1) ps

-- none of the held requests is reached
pub record AreSights (s : Sights) : Type 0 where
  pub gone : AreRising 0 s.gone
  pub held : AllByRecursion (λ h. is_reached (length s.gone) h ≡ false) s.held

-- What places mean as elements of messages.
use Rattle.std.specs.Prelude.{◌≡◌, ℕ, true, List, map}
use Rattle.std.proofs.lemmas.Bool.{lt-ltb}
use Rattle.caf_types.specs.ShapeTree as shapes
use Rattle.caf_words.specs.Datum.{Datum, a_place, a_list, data_of, fits}
use Rattle.caf_words.specs.Fitting.{list_fits}
use Rattle.caf_kinds.specs.declared.place.PlaceNumber.{PlaceNumber}
use Rattle.caf_kinds.specs.declared.place.PlaceList.{PlaceList}

abbrev pub numbers_of : List PlaceNumber → List ℕ
numbers_of ps = map (λ (p : PlaceNumber). p.number) ps

abbrev pub place_means : PlaceNumber → Datum
place_means p = a_place p.number

abbrev pub places_mean : PlaceList → Datum
places_mean ps = a_list (data_of (map place_means ps.0))

pub place_fits : (p : PlaceNumber) → fits shapes.place (place_means p) ≡ true
place_fits p = lt-ltb p.number 256 p.below

pub places_fit : (ps : PlaceList) → fits (shapes.list shapes.place) (places_mean ps) ≡ true
places_fit ps = list_fits shapes.place place_means place_fits ps.0

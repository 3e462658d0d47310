-- Who is told when an actor quits, and what.
use Rattle.std.specs.Prelude.{ℕ, List, [], ◌++◌, map}
use Rattle.std.specs.List.Sorted.{IsStrictlyIncreasing}
use Rattle.caf_types.specs.declared.reason.Reason.{Reason}
use Rattle.caf_types.specs.declared.notice.Notice.{Notice}
use Rattle.caf_types.specs.declared.notice.Notice.TheVariants.{Exit, Down}
use Rattle.caf_observe.specs.Places.{with_place, without_place}

pub record ObserverSets : Type 0 where
  pub links : List ℕ
  pub monitors : List ℕ

-- each place stands in each set at most once, in rising order
pub record AreSets (o : ObserverSets) : Type 0 where
  pub links : IsStrictlyIncreasing o.links
  pub monitors : IsStrictlyIncreasing o.monitors

abbrev pub no_observers : ObserverSets
no_observers = record { links = []; monitors = [] }

abbrev pub with_link : ObserverSets → ℕ → ObserverSets
with_link o place = record o { links = with_place o.links place }

abbrev pub without_link : ObserverSets → ℕ → ObserverSets
without_link o place = record o { links = without_place o.links place }

abbrev pub with_monitor : ObserverSets → ℕ → ObserverSets
with_monitor o place = record o { monitors = with_place o.monitors place }

abbrev pub without_monitor : ObserverSets → ℕ → ObserverSets
without_monitor o place = record o { monitors = without_place o.monitors place }

-- from the place `me`: an exit notice to each link, then a down notice to each monitor
abbrev pub farewell : ObserverSets → ℕ → Reason → List (ℕ × Notice)
farewell o me reason = map (λ place. (place, Exit me reason)) o.links ++ map (λ place. (place, Down me reason)) o.monitors

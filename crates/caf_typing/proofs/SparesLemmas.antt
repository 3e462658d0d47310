-- No actor of a scenario has the conductor as a peer or as a child.
use Rattle.std.proofs.Common.{◌≡◌, ℕ, zero, suc, ◌+◌, ◌<◌, ◌≤◌, Bool, true, false, List, [], ◌∷◌, ◌++◌, length, Option, Some, sym, ap, subst, arith}
use Rattle.std.specs.Prelude.{bytes_eq, cond}
use Rattle.std.specs.List.{AllByRecursion, range_with_len}
use Rattle.caf_kinds.specs.ConductorLaws.{all_joined}
use Rattle.caf_kinds.specs.declared.setup.KindName.{KindName}
use Rattle.caf_kinds.specs.declared.setup.KindName.TheVariants as name
use Rattle.caf_kinds.specs.declared.setup.Setup.{Setup}
use Rattle.caf_opening.specs.Opening.{IsSpared}
use Rattle.caf_scenario.specs.Actors.{Finder, actor_named, kind_of, named_from}
use Rattle.caf_scenario.specs.Builtin.{collector_place, plain_setup, counters_telling, builtin_setups}
use Rattle.caf_scenario.specs.Many.{all_children}
use Rattle.caf_scenario.specs.Scenario.{place_in, place_of, setups_said, children}
use Rattle.caf_scenario.specs.declared.written.WrittenActor.{WrittenActor}
use Rattle.caf_typing.specs.Opens.{ScenariosSpareConductor}
use Rattle.caf_typing.proofs.FaultLemmas.{all_to, all_mapped}
use Rattle.caf_typing.proofs.OpensLemmas.{whole_actors, no_later_fault}
use Rattle.caf_typing.proofs.PlaceLemmas.{IsWhole}

-- ---- a scenario that was read

here_or_later : (place : ℕ) (a : WrittenActor) (found : ℕ × KindName) (rest : Option (ℕ × KindName)) → (rest ≡ Some found → place + 1 ≤ found.0)
    → (b : Bool) → cond b (Some (place, kind_of a)) rest ≡ Some found → place ≤ found.0
here_or_later place a found rest later true e =
    let same : (place, kind_of a) ≡ found = cc in
    let at : place ≡ found.0 = ap (λ (f : ℕ × KindName). f.0) same in
    omega (arith, at)
here_or_later place a found rest later false e = let up = later e in omega (arith, up)

-- who is found stands at the first actor's place or behind it
found_from : (place : ℕ) (actors : List WrittenActor) (text : List ℕ) (found : ℕ × KindName) → named_from place actors text ≡ Some found → place ≤ found.0
found_from place [] text found e = absurd cc
found_from place (a ∷ others) text found e = here_or_later place a found (named_from (place + 1) others text) (found_from (place + 1) others text found) (bytes_eq a.name text) e

abbrev FindsOthers : Finder → Type 0
FindsOthers who = (text : List ℕ) (found : ℕ × KindName) → who text ≡ Some found → 0 < found.0

peer_other : (who : Finder) → FindsOthers who → (text : List ℕ) → (found : ℕ × KindName) × (who text ≡ Some found) → 0 < place_of who text
peer_other who others text found = subst (λ (o : Option (ℕ × KindName)). 0 < place_in o) (sym found.1) (others text found.0 found.1)

range_up : (first n : ℕ) → 0 < first → AllByRecursion (λ p. 0 < p) (range_with_len first n)
range_up first zero some = tt
range_up first (suc n) some = (some, range_up (first + 1) n (omega (arith, some)))

all_spared : (who : Finder) → FindsOthers who → (first : ℕ) (actors : List WrittenActor) → 0 < first → AllByRecursion (IsWhole who) actors
    → AllByRecursion IsSpared (setups_said who first actors)
all_spared who others first [] some whole = tt
all_spared who others first (a ∷ more) some whole = (
  record {
    peers = all_mapped (place_of who) (λ p. 0 < p) a.peers
        (all_to (λ text. (found : ℕ × KindName) × (who text ≡ Some found)) (λ text. 0 < place_of who text) (peer_other who others) a.peers whole.0.peers);
    reserve = range_up first a.children some;
  },
  all_spared who others (first + a.children) more (omega (arith, some)) whole.1,
)

children_spared : (n : ℕ) → AllByRecursion IsSpared (children n)
children_spared zero = tt
children_spared (suc n) = (record { peers = tt; reserve = tt }, children_spared n)

-- ---- the built-in one

counters_spared : (collector n : ℕ) → 0 < collector → AllByRecursion IsSpared (counters_telling collector n)
counters_spared collector zero some = tt
counters_spared collector (suc n) some = (record { peers = (some, tt); reserve = tt }, counters_spared collector n some)

builtin_spared : (n : ℕ) → AllByRecursion IsSpared (builtin_setups n)
builtin_spared n =
    let collector : 0 < collector_place n = omega arith in (
      record { peers = (omega arith, (omega arith, (collector, tt))); reserve = tt },
      (
        record { peers = (collector, tt); reserve = tt },
        (
          record { peers = range_up 4 n (omega arith); reserve = tt },
          all_joined IsSpared (counters_telling (collector_place n) n) (plain_setup name.Collector [] ∷ []) (counters_spared (collector_place n) n collector) (record { peers = tt; reserve = tt }, tt),
        ),
      ),
    )

-- ---- both

pub spared : ScenariosSpareConductor
spared = (
  λ bytes scenario valid of_bytes.
      let d = of_bytes.document in
      let who : Finder = actor_named d.actors in
      let finds : FindsOthers who = λ text found is. let up = found_from 1 d.actors text found is in omega (arith, up) in
      subst (AllByRecursion IsSpared) (sym of_bytes.said.setups)
      (all_joined IsSpared (setups_said who (length d.actors + 1) d.actors) (children (all_children d.actors))
      (all_spared who finds (length d.actors + 1) d.actors (omega arith) (whole_actors d (no_later_fault bytes scenario valid of_bytes)))
      (children_spared (all_children d.actors))),
  λ n scenario built. subst (AllByRecursion IsSpared) (sym built.setups) (builtin_spared n),
)

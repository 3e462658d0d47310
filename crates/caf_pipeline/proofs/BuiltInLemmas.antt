-- The built-in setups and script are undisturbed.
use Rattle.std.proofs.Common.{◌≡◌, ℕ, zero, suc, ◌+◌, ◌-◌, ◌<◌, ◌≤◌, List, [], ◌∷◌, ◌++◌, length, Some, inl, inr, refl, subst, ap, ◌∙◌, arith}
use Rattle.std.specs.Prelude.{slice_get, Contains}
use Rattle.std.specs.List.{AllByRecursion, range_with_len}
use Rattle.std.proofs.lemmas.List.FromFn.{length-range_with_len}
use Rattle.std.proofs.lemmas.List.{length-append}
use Rattle.caf_index.proofs.ContainsLemmas.{contains-none, contains-here, contains-later, contains-cases}
use Rattle.caf_kinds.specs.Setups.{setup_at}
use Rattle.caf_kinds.specs.declared.setup.KindName.{KindName}
use Rattle.caf_kinds.specs.declared.setup.KindName.TheVariants as name
use Rattle.caf_kinds.specs.declared.setup.Setup.{Setup}
use Rattle.caf_pipeline.specs.Undisturbed.{Pipeline, IsSetUp, IsPipeline, AreApart, places_of}
use Rattle.caf_pipeline.specs.BuiltIn.{collector_place, set_up, counters_telling, built_in_setups, BuiltInIsUndisturbed}
use Rattle.caf_pipeline.proofs.PlaceLemmas.{setup_from_1}

-- ---- ranges of places

all_in_range : (P : ℕ → Type 0) (from n : ℕ) → ((k : ℕ) → k < n → P (from + k)) → AllByRecursion P (range_with_len from n)
all_in_range P from zero each = tt
all_in_range P from (suc n) each = (
  subst P (let same : from + 0 ≡ from = omega arith in same) (each 0 (omega arith)),
  all_in_range P (from + 1) n (λ k low. subst P (let same : from + suc k ≡ from + 1 + k = omega arith in same) (each (suc k) (omega (arith, low)))),
)

none_below : (from n place : ℕ) → Contains (range_with_len from n) place → from ≤ place
none_below from zero place has = absurd (contains-none place has)
none_below from (suc n) place has = elim (contains-cases from place (range_with_len (from + 1) n) has) [
  | inl is ↦ omega (arith, is)
  | inr later ↦ (let rest = none_below (from + 1) n place later in omega (arith, rest))
]

range_apart : (from n : ℕ) → AreApart (range_with_len from n)
range_apart from zero = tt
range_apart from (suc n) = ((λ has. (let low = none_below (from + 1) n from has in omega (arith, low))), range_apart (from + 1) n)

in_range : (from n place : ℕ) → from ≤ place → place < from + n → Contains (range_with_len from n) place
in_range from zero place low high = absurd (omega (arith, low, high))
in_range from (suc n) place low high = go place (place - from) (let same : from + (place - from) ≡ place = omega (arith, low) in same) high (in_range (from + 1) n)
  where
    go : (place k : ℕ) → from + k ≡ place → place < from + suc n → ((q : ℕ) → from + 1 ≤ q → q < from + 1 + n → Contains (range_with_len (from + 1) n) q) → Contains (range_with_len from (suc n)) place
    go place zero same high rest = subst (Contains (range_with_len from (suc n))) (let here : from ≡ place = omega (arith, same) in here) (contains-here from (range_with_len (from + 1) n))
    go place (suc k) same high rest = contains-later from place (range_with_len (from + 1) n) (rest place (omega (arith, same)) (omega (arith, same, high)))

-- ---- the counters' setups, and the collector's behind them

telling_length : (collector n : ℕ) → length (counters_telling collector n) ≡ n
telling_length collector zero = refl
telling_length collector (suc n) = ap suc (telling_length collector n)

counter_there : (collector n k : ℕ) (last : Setup) → k < n → slice_get (counters_telling collector n ++ last ∷ []) k ≡ Some (set_up name.Counter (collector ∷ []))
counter_there collector zero k last low = absurd (omega (arith, low))
counter_there collector (suc n) zero last low = refl
counter_there collector (suc n) (suc k) last low = counter_there collector n k last (omega (arith, low))

last_there : (collector n : ℕ) (last : Setup) → slice_get (counters_telling collector n ++ last ∷ []) n ≡ Some last
last_there collector zero last = refl
last_there collector (suc n) last = last_there collector n last

-- ---- the pipeline

abbrev built_in_pipeline : ℕ → Pipeline
built_in_pipeline n = record { source = 1; lines = 2; relay = 3; counters = range_with_len 4 n; collector = collector_place n }

set_up_at : (setups : List Setup) (kind : KindName) (peers : List ℕ) (place : ℕ) → setup_at setups place ≡ Some (set_up kind peers) → IsSetUp setups kind peers place
set_up_at setups kind peers place e = record { setup = set_up kind peers; at = e; kind_is = refl; peers_are = refl; childless = refl }

behind_three : (n k : ℕ) → setup_at (built_in_setups n) (4 + k) ≡ slice_get (counters_telling (collector_place n) n ++ set_up name.Collector [] ∷ []) k
behind_three n k = ap (setup_at (built_in_setups n)) (let same : 4 + k ≡ suc (suc (suc k)) + 1 = omega arith in same) ∙ setup_from_1 (built_in_setups n) (suc (suc (suc k)))

count : (n : ℕ) → length (built_in_setups n) ≡ 4 + n
count n =
    let counters = telling_length (collector_place n) n in
    let joined = length-append (counters_telling (collector_place n) n) (set_up name.Collector [] ∷ []) in
    omega (arith, counters, joined)

no_others : (n place : ℕ) → 0 < place → place ≤ 4 + n → Contains (places_of (built_in_pipeline n)) place
no_others n zero some within = absurd (omega (arith, some))
no_others n (suc zero) some within = (0, omega arith, refl)
no_others n (suc (suc zero)) some within = (1, omega arith, refl)
no_others n (suc (suc (suc zero))) some within = (2, omega arith, refl)
no_others n (suc (suc (suc (suc k)))) some within = go (n - k) refl
  where
    go : (left : ℕ) → n - k ≡ left → Contains (places_of (built_in_pipeline n)) (suc (suc (suc (suc k))))
    go zero e =
        let same : collector_place n ≡ suc (suc (suc (suc k))) = omega (arith, e, within) in
        subst (Contains (places_of (built_in_pipeline n))) same (3, omega arith, refl)
    go (suc left) e =
        let range = range_with_len 4 n in
        let q = suc (suc (suc (suc k))) in
        let there = in_range 4 n q (omega arith) (omega (arith, e)) in
        contains-later 1 q (2 ∷ 3 ∷ collector_place n ∷ range) (contains-later 2 q (3 ∷ collector_place n ∷ range) (contains-later 3 q (collector_place n ∷ range) (contains-later (collector_place n) q range there)))

is_pipeline : (n : ℕ) → 1 ≤ n → IsPipeline (built_in_setups n) (built_in_pipeline n)
is_pipeline n some =
    let setups = built_in_setups n in
    let collector = collector_place n in
    let long = length-range_with_len 4 n in
    let size = count n in
    record {
      source = set_up_at setups name.Source (2 ∷ 3 ∷ collector ∷ []) 1 refl;
      lines = set_up_at setups name.Lines (collector ∷ []) 2 refl;
      relay = set_up_at setups name.Relay (range_with_len 4 n) 3 refl;
      counters = all_in_range (IsSetUp setups name.Counter (collector ∷ [])) 4 n (λ k low. set_up_at setups name.Counter (collector ∷ []) (4 + k) (behind_three n k ∙ counter_there collector n k (set_up name.Collector []) low));
      collector = set_up_at setups name.Collector [] collector (behind_three n n ∙ last_there collector n (set_up name.Collector []));
      some = omega (arith, some, long);
      apart = range_apart 4 n;
      no_others = λ place low high. no_others n place low (omega (arith, high, size));
    }

pub built_in : BuiltInIsUndisturbed
built_in n [] some few plays = absurd plays
built_in n (first ∷ []) some few plays = absurd plays
built_in n (first ∷ second ∷ []) some few plays =
    let size = count n in
    record { pipeline = built_in_pipeline n; actors = is_pipeline n some; plays = (plays.0, plays.1, tt); few = omega (arith, size, few); steps = omega arith }
built_in n (first ∷ second ∷ third ∷ others) some few plays = absurd plays

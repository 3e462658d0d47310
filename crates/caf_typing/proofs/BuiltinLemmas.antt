-- The built-in scenario can be opened.
use Rattle.std.proofs.Common.{◌≡◌, ℕ, zero, suc, ◌+◌, ◌<◌, ◌≤◌, true, List, [], ◌∷◌, ◌++◌, length, Option, Some, refl, sym, ap, subst, ◌∙◌, arith}
use Rattle.std.specs.Prelude.{nat_le, slice_get}
use Rattle.std.specs.List.{AllByRecursion, range_with_len}
use Rattle.std.proofs.lemmas.Bool.{le-leb}
use Rattle.std.proofs.lemmas.List.{length-append, length-map}
use Rattle.std.proofs.lemmas.List.FromFn.{length-range_with_len}
use Rattle.caf_types.specs.ShapeTree.{unit}
use Rattle.caf_message.specs.Content.{content_of}
use Rattle.caf_kinds.specs.ConductorLaws.{all_joined}
use Rattle.caf_kinds.specs.Kinds.{has_peers}
use Rattle.caf_kinds.specs.PipelineLaws.{both_true}
use Rattle.caf_kinds.specs.Setups.{setup_at}
use Rattle.caf_kinds.specs.declared.setup.KindName.TheVariants as name
use Rattle.caf_kinds.specs.declared.setup.Setup.{Setup}
use Rattle.caf_opening.specs.Opening.{CanStand, CanOpen}
use Rattle.caf_scenario.specs.Builtin.{collector_place, plain_setup, counters_telling, builtin_setups, builtin_script, one_unit}
use Rattle.caf_scenario.specs.Scenario.{plain_step}
use Rattle.caf_typing.specs.Opens.{BuiltinOpens}
use Rattle.caf_typing.proofs.MessageLemmas.{IsTypedMessage}
use Rattle.caf_typing.proofs.PlaceLemmas.{range_below, at_suc}
use Rattle.caf_typing.proofs.StepLemmas.{TakesSent, IsTypedPlain, plain_typed}

-- ---- actors

counters_stand : (count collector n : ℕ) → collector < count → AllByRecursion (CanStand count) (counters_telling collector n)
counters_stand count collector zero below = tt
counters_stand count collector (suc n) below =
    (record { kind = λ e. absurd cc; peers = refl; peers_below = (below, tt); reserve_below = tt }, counters_stand count collector n below)

length_counters : (collector n : ℕ) → length (counters_telling collector n) ≡ n
length_counters collector zero = refl
length_counters collector (suc n) = ap suc (length_counters collector n)

length_setups : (n : ℕ) → length (builtin_setups n) ≡ n + 4
length_setups n =
    let last : Setup = plain_setup name.Collector [] in
    let behind = length-append (counters_telling (collector_place n) n) (last ∷ []) in
    let counters = length_counters (collector_place n) n in
    let all : length (builtin_setups n) ≡ suc (suc (suc (length (counters_telling (collector_place n) n ++ last ∷ [])))) = refl in
    omega (arith, all, behind, counters)

relay_counted : (n : ℕ) → 1 ≤ n → n ≤ 200 → has_peers name.Relay (length (range_with_len 4 n)) ≡ true
relay_counted n some few =
    ap (has_peers name.Relay) (length-range_with_len 4 n)
    ∙ both_true (nat_le 1 n) (nat_le n 255) (le-leb 1 n some) (le-leb n 255 (omega (arith, few)))

setups_stand : (n count : ℕ) → 1 ≤ n → n ≤ 200 → n + 5 ≤ count → AllByRecursion (CanStand count) (builtin_setups n)
setups_stand n count some few room =
    let collector : collector_place n < count = omega (arith, room) in
    let source : AllByRecursion (λ p. p < count) (2 ∷ 3 ∷ collector_place n ∷ []) = (omega (arith, room), (omega (arith, room), (collector, tt))) in (
      record { kind = λ e. absurd cc; peers = refl; peers_below = source; reserve_below = tt },
      (
        record { kind = λ e. absurd cc; peers = refl; peers_below = (collector, tt); reserve_below = tt },
        (
          record { kind = λ e. absurd cc; peers = relay_counted n some few; peers_below = range_below 4 n count (omega (arith, room)); reserve_below = tt },
          all_joined (CanStand count) (counters_telling (collector_place n) n) (plain_setup name.Collector [] ∷ [])
              (counters_stand count (collector_place n) n collector)
              (record { kind = λ e. absurd cc; peers = refl; peers_below = tt; reserve_below = tt }, tt),
        ),
      ),
    )

-- ---- the script

start_taken : IsTypedMessage name.Source (206 ∷ []) one_unit
start_taken =
    let long : length (content_of (206 ∷ []) one_unit) ≡ 3 = refl in
    record { typed = record { shapes = unit ∷ []; known = refl; fit = refl }; small = omega (arith, long); taken = refl }

index_taken : IsTypedMessage name.Collector (208 ∷ []) one_unit
index_taken =
    let long : length (content_of (208 ∷ []) one_unit) ≡ 3 = refl in
    record { typed = record { shapes = unit ∷ []; known = refl; fit = refl }; small = omega (arith, long); taken = refl }

behind_counters : (collector n : ℕ) (s : Setup) → slice_get (counters_telling collector n ++ s ∷ []) n ≡ Some s
behind_counters collector zero s = refl
behind_counters collector (suc n) s = behind_counters collector n s

collector_at : (n : ℕ) → setup_at (builtin_setups n) (collector_place n) ≡ Some (plain_setup name.Collector [])
collector_at n =
    let place : collector_place n ≡ suc (suc (suc (suc n))) = omega arith in
    ap (setup_at (builtin_setups n)) place
    ∙ at_suc (builtin_setups n) (suc (suc (suc n)))
    ∙ behind_counters (collector_place n) n (plain_setup name.Collector [])

script_typed : (n : ℕ) → AllByRecursion (IsTypedPlain (builtin_setups n)) (builtin_script n)
script_typed n = (
  start_taken,
  (subst (λ (o : Option Setup). TakesSent o (208 ∷ []) one_unit) (sym (collector_at n)) index_taken, tt),
)

-- ---- both

pub opens : BuiltinOpens
opens n scenario files some few built lines =
    let count = length_setups n in
    let steps : length scenario.script ≡ 2 = sym (length-map scenario.script plain_step) ∙ ap length built.script in
    subst (λ (all : List Setup). CanOpen all scenario.script files) (sym built.setups) (record {
      each = setups_stand n (length (builtin_setups n) + 1) some few (omega (arith, count));
      few = omega (arith, count, few);
      steps = omega (arith, steps);
      typed = plain_typed (builtin_setups n) scenario.script (builtin_script n) built.script (script_typed n);
      lines = lines;
    })

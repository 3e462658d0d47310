-- The built-in scenario is well set.
use Rattle.std.proofs.Common.{◌≡◌, ℕ, zero, suc, ◌+◌, ◌<◌, List, [], ◌∷◌, ◌++◌, length, Option, Some, refl, sym, ap, subst, ◌∙◌, arith}
use Rattle.std.specs.Prelude.{slice_get}
use Rattle.std.specs.List.{AllByRecursion, range_with_len}
use Rattle.caf_mailbox.proofs.NextLemmas.{all_append}
use Rattle.caf_signature.specs.declared.interface.Signature.{Signature}
use Rattle.caf_kinds.specs.Peers.{wanted_of}
use Rattle.caf_kinds.specs.Setups.{setup_at}
use Rattle.caf_kinds.specs.declared.setup.KindName.{KindName}
use Rattle.caf_kinds.specs.declared.setup.KindName.TheVariants as name
use Rattle.caf_kinds.specs.declared.setup.Setup.{Setup}
use Rattle.caf_scenario.specs.Builtin.{collector_place, plain_setup, counters_telling, builtin_setups}
use Rattle.caf_typing.proofs.BuiltinLemmas.{opens}
use Rattle.caf_typing.proofs.PlaceLemmas.{at_suc}
use Rattle.caf_soundness.specs.Typed.{Serves, IsWellSet}
use Rattle.caf_soundness.specs.Scenarios.{BuiltinIsWellTyped}
use Rattle.caf_soundness.proofs.OpenLemmas.{well_typed}

-- ---- who stands where

behind_counters : (collector n : ℕ) (s : Setup) → slice_get (counters_telling collector n ++ s ∷ []) n ≡ Some s
behind_counters collector zero s = refl
behind_counters collector (suc n) s = behind_counters collector n s

one_counter : (collector n i : ℕ) (s : Setup) → i < n → slice_get (counters_telling collector n ++ s ∷ []) i ≡ Some (plain_setup name.Counter (collector ∷ []))
one_counter collector zero i s low = absurd (omega (arith, low))
one_counter collector (suc n) zero s low = refl
one_counter collector (suc n) (suc i) s low = one_counter collector n i s (omega (arith, low))

lines_at : (n : ℕ) → setup_at (builtin_setups n) 2 ≡ Some (plain_setup name.Lines (collector_place n ∷ []))
lines_at n = at_suc (builtin_setups n) 1

relay_at : (n : ℕ) → setup_at (builtin_setups n) 3 ≡ Some (plain_setup name.Relay (range_with_len 4 n))
relay_at n = at_suc (builtin_setups n) 2

counter_at : (n i : ℕ) → i < n → setup_at (builtin_setups n) (4 + i) ≡ Some (plain_setup name.Counter (collector_place n ∷ []))
counter_at n i low =
    let place : 4 + i ≡ suc (suc (suc (suc i))) = omega arith in
    ap (setup_at (builtin_setups n)) place
    ∙ at_suc (builtin_setups n) (suc (suc (suc i)))
    ∙ one_counter (collector_place n) n i (plain_setup name.Collector []) low

collector_at : (n : ℕ) → setup_at (builtin_setups n) (collector_place n) ≡ Some (plain_setup name.Collector [])
collector_at n =
    let place : collector_place n ≡ suc (suc (suc (suc n))) = omega arith in
    ap (setup_at (builtin_setups n)) place
    ∙ at_suc (builtin_setups n) (suc (suc (suc n)))
    ∙ behind_counters (collector_place n) n (plain_setup name.Collector [])

-- ---- whom they tell

module _ (n : ℕ) where
  abbrev At : ℕ → List Signature → Type 0
  At p wanted = Serves (setup_at (builtin_setups n) p) wanted

  collector_serves : (wanted : List Signature) → Serves (Some (plain_setup name.Collector [])) wanted → At (collector_place n) wanted
  collector_serves wanted h = subst (λ (o : Option Setup). Serves o wanted) (sym (collector_at n)) h

  source_peers : (i p : ℕ) → slice_get (2 ∷ 3 ∷ collector_place n ∷ []) i ≡ Some p → At p (wanted_of name.Source 3 i)
  source_peers zero p e = let same : 2 ≡ p = cc in subst (λ (q : ℕ). At q (wanted_of name.Source 3 0)) same (subst (λ (o : Option Setup). Serves o (wanted_of name.Source 3 0)) (sym (lines_at n)) refl)
  source_peers (suc zero) p e = let same : 3 ≡ p = cc in subst (λ (q : ℕ). At q (wanted_of name.Source 3 1)) same (subst (λ (o : Option Setup). Serves o (wanted_of name.Source 3 1)) (sym (relay_at n)) refl)
  source_peers (suc (suc zero)) p e = let same : collector_place n ≡ p = cc in subst (λ (q : ℕ). At q (wanted_of name.Source 3 2)) same (collector_serves (wanted_of name.Source 3 2) refl)
  source_peers (suc (suc (suc i))) p e = absurd cc

  one_peer : (k : KindName) → Serves (Some (plain_setup name.Collector [])) (wanted_of k 1 0) → (i p : ℕ) → slice_get (collector_place n ∷ []) i ≡ Some p → At p (wanted_of k 1 i)
  one_peer k h zero p e = let same : collector_place n ≡ p = cc in subst (λ (q : ℕ). At q (wanted_of k 1 0)) same (collector_serves (wanted_of k 1 0) h)
  one_peer k h (suc i) p e = absurd cc

  -- the place at that position, and that the position is one
  in_range : (first count i p : ℕ) → slice_get (range_with_len first count) i ≡ Some p → (p ≡ first + i) × (i < count)
  in_range first zero i p e = absurd cc
  in_range first (suc count) zero p e = let same : first ≡ p = cc in (omega (arith, same), omega arith)
  in_range first (suc count) (suc i) p e =
      let rest = in_range (first + 1) count i p e in
      let at = rest.0 in
      let low = rest.1 in
      (omega (arith, at), omega (arith, low))

  relay_peers : (i p : ℕ) → slice_get (range_with_len 4 n) i ≡ Some p → At p (wanted_of name.Relay (length (range_with_len 4 n)) i)
  relay_peers i p e =
      let at = in_range 4 n i p e in
      subst (λ (q : ℕ). At q (wanted_of name.Relay (length (range_with_len 4 n)) i)) (sym at.0)
      (subst (λ (o : Option Setup). Serves o (wanted_of name.Relay (length (range_with_len 4 n)) i)) (sym (counter_at n i at.1)) refl)

  counters_well : (count : ℕ) → AllByRecursion (IsWellSet (builtin_setups n)) (counters_telling (collector_place n) count)
  counters_well zero = tt
  counters_well (suc count) = (record { peers = one_peer name.Counter refl; reserve = tt }, counters_well count)

  all_well : AllByRecursion (IsWellSet (builtin_setups n)) (builtin_setups n)
  all_well = (
    record { peers = source_peers; reserve = tt },
    (
      record { peers = one_peer name.Lines refl; reserve = tt },
      (
        record { peers = relay_peers; reserve = tt },
        all_append (IsWellSet (builtin_setups n)) (counters_telling (collector_place n) n) (plain_setup name.Collector [] ∷ []) (counters_well n) (record { peers = λ i p e. absurd cc; reserve = tt }, tt),
      ),
    ),
  )

-- ---- the law

pub builtin_typed : BuiltinIsWellTyped
builtin_typed n scenario files some few built lines =
    well_typed scenario.setups scenario.script files (opens n scenario files some few built lines)
    (subst (λ (ss : List Setup). AllByRecursion (IsWellSet ss) ss) (sym built.setups) (all_well n))

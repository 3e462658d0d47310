-- Who stands at the places of a pipeline.
use Rattle.std.proofs.Common.{◌≡◌, ℕ, ◌+◌, ◌-◌, ◌<◌, ◌≤◌, Bool, true, false, List, [], ◌∷◌, length, Some, None, inl, inr, refl, sym, subst, ap, ◌∙◌, arith}
use Rattle.std.specs.Prelude.{slice_get, ◌==◌, if◌then◌else◌}
use Rattle.std.proofs.lemmas.Bool.Decides.{nat_tests}
use Rattle.caf_kinds.specs.Setups.{setup_at}
use Rattle.caf_kinds.specs.declared.setup.KindName.{KindName}
use Rattle.caf_kinds.specs.declared.setup.KindName.TheVariants as name
use Rattle.caf_kinds.specs.declared.setup.Setup.{Setup}
use Rattle.caf_index.proofs.ContainsLemmas.{contains-cases}
use Rattle.caf_pipeline.specs.Undisturbed.{Pipeline, IsSetUp, IsPipeline}
use Rattle.caf_pipeline.proofs.ListLemmas.{one_of, got_within}

-- the setups have the places from 1 on
pub setup_from_1 : (setups : List Setup) (k : ℕ) → setup_at setups (k + 1) ≡ slice_get setups k
setup_from_1 setups k = go (k + 1 == 0) refl
  where
    go : (b : Bool) → (k + 1 == 0) ≡ b → (if b then None else slice_get setups (k + 1 - 1)) ≡ slice_get setups k
    go true q = absurd (grind (arith, nat_tests, q))
    go false q = let same : k + 1 - 1 ≡ k = omega arith in ap (slice_get setups) same

-- a setup stands at one of their places
pub record IsOneOf (setups : List Setup) (place : ℕ) (setup : Setup) : Type 0 where
  pub from_1 : 0 < place
  pub within : place ≤ length setups
  pub got : slice_get setups (place - 1) ≡ Some setup

pub one_of_setups : (setups : List Setup) (place : ℕ) (setup : Setup) → setup_at setups place ≡ Some setup → IsOneOf setups place setup
one_of_setups setups place setup e = go (place == 0) refl
  where
    go : (b : Bool) → (place == 0) ≡ b → IsOneOf setups place setup
    go true q = let bad : None ≡ Some setup = subst (λ (c : Bool). (if c then None else slice_get setups (place - 1)) ≡ Some setup) q e in absurd cc
    go false q =
        let there : slice_get setups (place - 1) ≡ Some setup = subst (λ (c : Bool). (if c then None else slice_get setups (place - 1)) ≡ Some setup) q e in
        let some : 0 < place = grind (arith, nat_tests, q) in
        let within = got_within setups (place - 1) setup there in
        record { from_1 = some; within = omega (arith, some, within); got = there }

-- ---- how a setup of the pipeline looks

-- it is set up so
pub record IsSo (setup : Setup) (kind : KindName) (peers : List ℕ) : Type 0 where
  pub kind_is : setup.kind ≡ kind
  pub peers_are : setup.peers ≡ peers
  pub childless : setup.reserve ≡ []

pub setup_is_so : (setups : List Setup) (kind : KindName) (peers : List ℕ) (place : ℕ) (setup : Setup) → IsSetUp setups kind peers place → setup_at setups place ≡ Some setup → IsSo setup kind peers
setup_is_so setups kind peers place setup is e =
    let same : is.setup ≡ setup = (let both : Some is.setup ≡ Some setup = sym is.at ∙ e in cc) in
    subst (λ (s : Setup). IsSo s kind peers) same (record { kind_is = is.kind_is; peers_are = is.peers_are; childless = is.childless })

-- what holds of each setup of a pipeline's actors holds of whatever setup stands at a place
pub at_each_place : (P : Setup → Type 0) (setups : List Setup) (p : Pipeline) → IsPipeline setups p
    → ((s : Setup) → IsSo s name.Source (p.lines ∷ p.relay ∷ p.collector ∷ []) → P s)
    → ((s : Setup) → IsSo s name.Lines (p.collector ∷ []) → P s)
    → ((s : Setup) → IsSo s name.Relay p.counters → P s)
    → ((s : Setup) → IsSo s name.Collector [] → P s)
    → ((s : Setup) → IsSo s name.Counter (p.collector ∷ []) → P s)
    → (k : ℕ) (s : Setup) → slice_get setups k ≡ Some s → P s
at_each_place P setups p is source lines relay collector counter k s e =
    let at : setup_at setups (k + 1) ≡ Some s = setup_from_1 setups k ∙ e in
    let within = got_within setups k s e in
    let place = k + 1 in
    elim (contains-cases p.source place (p.lines ∷ p.relay ∷ p.collector ∷ p.counters) (is.no_others place (omega arith) (omega (arith, within)))) [
      | inl here ↦ source s (setup_is_so setups name.Source (p.lines ∷ p.relay ∷ p.collector ∷ []) place s (subst (IsSetUp setups name.Source (p.lines ∷ p.relay ∷ p.collector ∷ [])) here is.source) at)
      | inr more ↦ elim (contains-cases p.lines place (p.relay ∷ p.collector ∷ p.counters) more) [
        | inl here ↦ lines s (setup_is_so setups name.Lines (p.collector ∷ []) place s (subst (IsSetUp setups name.Lines (p.collector ∷ [])) here is.lines) at)
        | inr more ↦ elim (contains-cases p.relay place (p.collector ∷ p.counters) more) [
          | inl here ↦ relay s (setup_is_so setups name.Relay p.counters place s (subst (IsSetUp setups name.Relay p.counters) here is.relay) at)
          | inr more ↦ elim (contains-cases p.collector place p.counters more) [
            | inl here ↦ collector s (setup_is_so setups name.Collector [] place s (subst (IsSetUp setups name.Collector []) here is.collector) at)
            | inr more ↦ counter s (setup_is_so setups name.Counter (p.collector ∷ []) place s (one_of (IsSetUp setups name.Counter (p.collector ∷ [])) p.counters place is.counters more) at)
          ]
        ]
      ]
    ]

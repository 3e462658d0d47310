-- What the actor of a place begins as, in a record of an undisturbed run.
use Rattle.std.proofs.Common.{◌≡◌, ℕ, suc, ◌+◌, ◌-◌, ◌<◌, List, Some, sym, ap, ◌∙◌, arith}
use Rattle.caf_actor.specs.Record.{Kept}
use Rattle.caf_actor.specs.declared.snapshot.Snapshot.{Snapshot}
use Rattle.caf_kinds.specs.Setups.{setup_at}
use Rattle.caf_kinds.specs.Starting.{started, who_of}
use Rattle.caf_kinds.specs.declared.kind.Kind.{Kind}
use Rattle.caf_kinds.specs.declared.script.Step.{Step}
use Rattle.caf_kinds.specs.declared.setup.KindName.TheVariants as name
use Rattle.caf_kinds.specs.declared.setup.Setup.{Setup}
use Rattle.caf_opening.specs.Opening.{actor_at}
use Rattle.caf_pipeline.specs.Undisturbed.{Pipeline, IsPipeline}
use Rattle.caf_pipeline.specs.Contents.{OpensAs}
use Rattle.caf_pipeline.proofs.PlaceLemmas.{one_of_setups}
use Rattle.caf_pipeline.proofs.OpeningLemmas.{stands}

pub record StartsAs (setups : List Setup) (script : List Step) (files : List (List ℕ)) (k : Kept (Snapshot Kind)) (place : ℕ) (s : Setup) : Type 0 where
  pub own : List (List ℕ)
  pub within : place < k.places
  pub behavior : (k.start place).behavior ≡ started (who_of place s) s setups script own s.kind
  pub all : s.kind ≡ name.Source → own ≡ files

pub starts_as : (setups : List Setup) (p : Pipeline) (script : List Step) (files : List (List ℕ)) (k : Kept (Snapshot Kind)) → IsPipeline setups p → OpensAs setups script files k
    → (place : ℕ) (s : Setup) → setup_at setups place ≡ Some s → StartsAs setups script files k place s
starts_as setups p script files k is opens place s at =
    let one = one_of_setups setups place s at in
    let low = one.from_1 in
    let high = one.within in
    let places = opens.places in
    let stand = stands setups p script files is (place - 1) s one.got in
    let next : 1 + (place - 1) ≡ place = omega (arith, low) in
    let here : suc (place - 1) ≡ place = omega (arith, low) in
    let start = opens.start (suc (place - 1)) (actor_at setups script (1 + (place - 1)) s stand.own) stand.there in
    record {
      own = stand.own;
      within = omega (arith, high, places);
      behavior =
          ap (λ (q : ℕ). (k.start q).behavior) (sym here) ∙ ap (λ (x : Snapshot Kind). x.behavior) start
          ∙ ap (λ (q : ℕ). started (who_of q s) s setups script stand.own s.kind) next;
      all = stand.all;
    }

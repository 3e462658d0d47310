-- Each part of a pipeline begins steady, so each takes only what may come to it.
use Rattle.std.proofs.Common.{◌≡◌, ℕ, zero, suc, ◌+◌, ◌<◌, Bool, true, List, Some, refl, sym, subst, ap, ◌∙◌, arith}
use Rattle.std.specs.Prelude.{not, slice_get}
use Rattle.caf_actor.specs.PlainInput.{PlainInput}
use Rattle.caf_actor.specs.Snapshot.{fresh}
use Rattle.caf_actor.specs.Record.{Kept}
use Rattle.caf_actor.specs.declared.snapshot.Snapshot.{Snapshot}
use Rattle.caf_kinds.specs.FileChunks.{AreChunks, all_chunks}
use Rattle.caf_kinds.specs.Kinds.{kind_rules}
use Rattle.caf_kinds.specs.Setups.{setup_at}
use Rattle.caf_kinds.specs.Starting.{started, who_of}
use Rattle.caf_kinds.specs.Source as source
use Rattle.caf_kinds.specs.declared.kind.Kind.{Kind}
use Rattle.caf_kinds.specs.declared.script.Step.{Step}
use Rattle.caf_kinds.specs.declared.setup.KindName.{KindName}
use Rattle.caf_kinds.specs.declared.setup.KindName.TheVariants as name
use Rattle.caf_kinds.specs.declared.setup.Setup.{Setup}
use Rattle.caf_opening.specs.Opening.{is_child, actor_at, conductor_at_0, who_conducts}
use Rattle.caf_steady.specs.Classes.{AlwaysKeeps, BeginsSteady}
use Rattle.caf_steady.proofs.TakingLemmas.{takes_its_class}
use Rattle.caf_pipeline.specs.Undisturbed.{Pipeline, IsPipeline, IsPlainScript}
use Rattle.caf_pipeline.specs.Contents.{comes, OpensAs, PartsTakeTheirContents}
use Rattle.caf_pipeline.proofs.ListLemmas.{got_at}
use Rattle.caf_pipeline.proofs.PlaceLemmas.{setup_from_1, at_each_place}
use Rattle.caf_pipeline.proofs.OpeningLemmas.{are_chunks, source_place, stands, no_child}
use Rattle.caf_pipeline.proofs.TellerLemmas.{lines_keeps, relay_keeps, counter_keeps}
use Rattle.caf_pipeline.proofs.CollectorLemmas.{collector_keeps}
use Rattle.caf_pipeline.proofs.SourceLemmas.{source_keeps}
use Rattle.caf_pipeline.proofs.ConductorLemmas.{conductor_keeps}

module _ (setups : List Setup) (p : Pipeline) (script : List Step) (files : List (List ℕ)) (is : IsPipeline setups p) (chunks : AreChunks (all_chunks files)) where
  abbrev may : ℕ → PlainInput → Bool
  may = comes setups (all_chunks files)

  -- whatever stands at a place keeps to what may come there; a source has all files
  abbrev Keeps : Setup → Type 0
  Keeps s = (place : ℕ) (own : List (List ℕ)) → setup_at setups place ≡ Some s → (s.kind ≡ name.Source → own ≡ files)
      → AlwaysKeeps may kind_rules place (started (who_of place s) s setups script own s.kind)

  as_kind_is : (kind : KindName) (s : Setup) (place : ℕ) (own : List (List ℕ)) → s.kind ≡ kind → AlwaysKeeps may kind_rules place (started (who_of place s) s setups script own kind)
      → AlwaysKeeps may kind_rules place (started (who_of place s) s setups script own s.kind)
  as_kind_is kind s place own e keeps = subst (λ (k : KindName). AlwaysKeeps may kind_rules place (started (who_of place s) s setups script own k)) (sym e) keeps

  each_keeps : (k : ℕ) (s : Setup) → slice_get setups k ≡ Some s → Keeps s
  each_keeps = at_each_place Keeps setups p is
      (λ s so place own at all. as_kind_is name.Source s place own so.kind_is
      (source_keeps setups (all_chunks files) p is chunks place (who_of place s) (sym (source_place setups p is place s at so.kind_is)) (sym (source_place setups p is place s at so.kind_is)) so.peers_are s at so.kind_is (source.started (who_of place s) own) refl (ap all_chunks (all so.kind_is))))
      (λ s so place own at all. as_kind_is name.Lines s place own so.kind_is (lines_keeps setups (all_chunks files) p is chunks (who_of place s) place s at so.kind_is so.peers_are))
      (λ s so place own at all. as_kind_is name.Relay s place own so.kind_is (relay_keeps setups (all_chunks files) p is chunks (who_of place s) place s at so.kind_is so.peers_are))
      (λ s so place own at all. as_kind_is name.Collector s place own so.kind_is (collector_keeps setups (all_chunks files) chunks place s at so.kind_is _ refl))
      (λ s so place own at all. as_kind_is name.Counter s place own so.kind_is (counter_keeps setups (all_chunks files) p is chunks (who_of place s) place s at so.kind_is so.peers_are))

  fresh_begins : (place : ℕ) (b : Kind) (begun : Bool) → begun ≡ true → AlwaysKeeps may kind_rules place b → BeginsSteady may kind_rules place (fresh kind_rules begun place b 0)
  fresh_begins place b begun e keeps = record { at = refl; keeps = keeps; begun = e; here = refl; awaits = refl; empty = refl }

  pub begins : (k : Kept (Snapshot Kind)) → IsPlainScript p script → OpensAs setups script files k → (q : ℕ) → q < k.places → BeginsSteady may kind_rules q (k.start q)
  begins k plays opens zero low =
      subst (BeginsSteady may kind_rules 0) (sym (opens.start 0 (conductor_at_0 setups script) refl))
      (fresh_begins 0 _ true refl (conductor_keeps setups (all_chunks files) p is who_conducts script plays))
  begins k plays opens (suc j) low =
      let places = opens.places in
      let s = got_at setups j (omega (arith, low, places)) in
      let stand = stands setups p script files is j s.0 s.1 in
      let same : 1 + j ≡ suc j = omega arith in
      let next : j + 1 ≡ 1 + j = omega arith in
      let at : setup_at setups (1 + j) ≡ Some s.0 = ap (setup_at setups) (sym next) ∙ setup_from_1 setups j ∙ s.1 in
      subst (BeginsSteady may kind_rules (suc j)) (sym (opens.start (suc j) (actor_at setups script (1 + j) s.0 stand.own) stand.there))
      (subst (λ (q : ℕ). BeginsSteady may kind_rules q (actor_at setups script (1 + j) s.0 stand.own).snapshot) same
      (fresh_begins (1 + j) _ (not (is_child setups (1 + j))) (no_child setups p is (1 + j)) (each_keeps j s.0 s.1 (1 + j) stand.own at stand.all)))

pub parts_take_theirs : PartsTakeTheirContents
parts_take_theirs setups script files ticks k ts is are opens legal merge silent =
    takes_its_class kind_rules (comes setups (all_chunks files)) ticks k ts legal merge silent refl
    (begins setups is.pipeline script files is.actors (are_chunks files are) k is.plays opens)

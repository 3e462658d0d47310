-- That the record of each play keeps the product's word.
use Rattle.std.proofs.Common.{◌≡◌, ℕ, ◌+◌, ◌<◌, ◌≤◌, ◌^◌, Bool, true, false, List, [], ◌∷◌, length, Option, Some, None, refl, sym, subst, ap, ◌∙◌, arith}
use Rattle.std.specs.Prelude.{slice_get, count_by}
use Rattle.std.specs.List.{AllByRecursion}
use Rattle.caf_io.specs.Files.{Content}
use Rattle.caf_command.specs.declared.run_words.RunWords.{RunWords}
use Rattle.caf_corpus.specs.Corpus.{IsWithin}
use Rattle.caf_actor.specs.declared.snapshot.Snapshot.{Snapshot}
use Rattle.caf_actor.specs.Merge.{IsMerge}
use Rattle.caf_actor.specs.Record.{Kept, ends, IsLegal, IsComplete}
use Rattle.caf_actor.specs.Run.{Turn}
use Rattle.caf_driver.specs.Opening.{StartsAt}
use Rattle.caf_headline.specs.Fresh.{IsOpening}
use Rattle.caf_headline.specs.Promises.{CompleteRunsKeepTheirPromises}
use Rattle.caf_kinds.specs.Asking.{Types}
use Rattle.caf_kinds.specs.Core.{core}
use Rattle.caf_kinds.specs.FileChunks.{AreByteLists}
use Rattle.caf_kinds.specs.declared.kind.Kind.{Kind}
use Rattle.caf_kinds.specs.declared.script.Step.{Step}
use Rattle.caf_kinds.specs.declared.script.Step.TheVariants as step
use Rattle.caf_opening.specs.Opening.{CanOpen, SparesConductor, opening_of}
use Rattle.caf_pipeline.specs.Contents.{AreIndexable, OpensAs}
use Rattle.caf_pipeline.specs.Numbers.{EnoughIsNeverSpent}
use Rattle.caf_pipeline.specs.Text.{AreEnds, CompleteTextHasIndex}
use Rattle.caf_pipeline.specs.Undisturbed.{Pipeline, IsTold, IsRequested, IsPlainScript, IsUndisturbed}
use Rattle.caf_pipeline.proofs.ListLemmas.{got_at}
use Rattle.caf_play.specs.Ending.{machine, is_tick, ticks_of, IsOverBudget, EndsAs}
use Rattle.caf_play.specs.declared.played.Played.{Played}
use Rattle.caf_play.specs.declared.played.PlayEnd.TheVariants as play
use Rattle.caf_play.proofs.PlayLemmas.{some_start}
use Rattle.caf_record.specs.Merged.{LegalIsMerged, turns_of}
use Rattle.caf_record.specs.RunRecord.{record_of}
use Rattle.caf_scenario.specs.declared.scenario.Scenario.{Scenario}
use Rattle.caf_soundness.specs.Scenarios.{ValidScenarioIsWellTyped, BuiltinIsWellTyped}
use Rattle.caf_soundness.specs.Typed.{IsAlwaysWellTyped}
use Rattle.caf_typing.specs.Opens.{ValidScenarioOpens, BuiltinOpens, ScenariosSpareConductor}
use Rattle.caf_cli.specs.Play.{IsPlay}
use Rattle.caf_cli.specs.Promises.{IsChosen, KeepsWord, RunsKeepTheirWord}
use Rattle.caf_cli.proofs.ChosenLemmas.{chosen_opens}
use Rattle.caf_cli.proofs.ChunkLemmas.{within_is_indexable}
use Rattle.caf_cli.proofs.LinesLemmas.{within_is_short}

-- ---- an undisturbed script has no tick

told_once : (to : ℕ) (atom : Types) (s : Step) → IsTold to atom s → is_tick s ≡ false
unfolding is_tick
told_once to atom (step.Tell place priority types values) told = refl
told_once to atom (step.Request place priority mode types values) told = absurd told
told_once to atom (step.Within place priority mode types values ticks) told = absurd told
told_once to atom (step.Exit place reason) told = absurd told
told_once to atom step.Sync told = absurd told
told_once to atom step.Tick told = absurd told

asked_once : (to : ℕ) (atom : Types) (s : Step) → IsRequested to atom s → is_tick s ≡ false
unfolding is_tick
asked_once to atom (step.Request place priority mode types values) asked = refl
asked_once to atom (step.Tell place priority types values) asked = absurd asked
asked_once to atom (step.Within place priority mode types values ticks) asked = absurd asked
asked_once to atom (step.Exit place reason) asked = absurd asked
asked_once to atom step.Sync asked = absurd asked
asked_once to atom step.Tick asked = absurd asked

one_more : (s : Step) (steps : List Step) → is_tick s ≡ false → ticks_of steps ≡ 0 → ticks_of (s ∷ steps) ≡ 0
one_more s steps other none = rw (other, none) refl

others_once : (to : ℕ) (atom : Types) (steps : List Step) → AllByRecursion (IsRequested to atom) steps → ticks_of steps ≡ 0
others_once to atom [] all = refl
others_once to atom (s ∷ steps) all = one_more s steps (asked_once to atom s all.0) (others_once to atom steps all.1)

no_ticks : (p : Pipeline) (script : List Step) → IsPlainScript p script → ticks_of script ≡ 0
no_ticks p [] plays = absurd plays
no_ticks p (s ∷ []) plays = absurd plays
no_ticks p (first ∷ second ∷ others) plays =
    one_more first (second ∷ others) (told_once _ _ first plays.0) (one_more second others (asked_once _ _ second plays.1) (others_once _ _ others plays.2))

-- ---- the scenario

spared : ScenariosSpareConductor → (told : Option Content) (name : Option (List ℕ)) (scenario : Scenario) → IsChosen told name scenario → SparesConductor scenario.setups
spared law told (Some name) scenario chosen = law.0 chosen.bytes scenario chosen.valid chosen.said
spared law told None scenario chosen = law.1 4 scenario chosen

well_typed : ValidScenarioIsWellTyped → BuiltinIsWellTyped → (told : Option Content) (name : Option (List ℕ)) (scenario : Scenario) (files : List (List ℕ)) → IsChosen told name scenario → IsWithin files
    → IsAlwaysWellTyped scenario.setups scenario.script files
well_typed valid built_in told (Some name) scenario files chosen within = valid chosen.bytes scenario files chosen.valid chosen.said (within_is_short files within)
well_typed valid built_in told None scenario files chosen within = built_in 4 scenario files (omega arith) (omega arith) chosen (within_is_short files within)

-- ---- the record

module _ (scenario : Scenario) (files : List (List ℕ)) (budget : ℕ) (played : Played) (is : IsPlay scenario files budget played) (start : ℕ → Snapshot Kind) (begins : StartsAt start (opening_of scenario.setups scenario.script files)) where
  k : Kept (Snapshot Kind)
  k = record_of start played.kept

  opens : OpensAs scenario.setups scenario.script files (record_of start played.kept)
  opens = record { places = is.places; start = λ p a at. sym (begins p a at) }

  complete : played.end ≡ play.Done → IsComplete machine (ticks_of scenario.script) (record_of start played.kept)
  complete done = (subst (EndsAs (ticks_of scenario.script) budget (record_of start played.kept)) done (is.plays start begins).ended).complete

  are_ends : AreEnds (record_of start played.kept) played.kinds
  are_ends place low =
      let kinds = is.count in
      let places = is.places in
      let it = got_at played.kinds place (omega (arith, low, kinds, places)) in
      it.1 ∙ ap (λ (x : Kind). Some x) (sym ((is.plays start begins).kinds place it.0 it.1))

-- ---- all of it

module _ (valid : ValidScenarioOpens) (built_in : BuiltinOpens) (spares : ScenariosSpareConductor) (valid_typed : ValidScenarioIsWellTyped) (built_in_typed : BuiltinIsWellTyped)
    (promised : CompleteRunsKeepTheirPromises) (texts : CompleteTextHasIndex) (never : EnoughIsNeverSpent) (merged : LegalIsMerged machine) where
  pub keeps_word : RunsKeepTheirWord
  keeps_word told words scenario files played chosen within bytes few is =
      let budget = words.budget in
      let opening : IsOpening scenario.setups scenario.script files = record { opens = chosen_opens valid built_in told words.scenario scenario files chosen within; spared = spared spares told words.scenario scenario chosen; known = is.known } in
      let indexable = within_is_indexable files within bytes few in
      record {
        indexable = indexable;
        typed = λ start ticks ts begins legal merge.
            let begun = opens scenario files budget played is start begins in
            well_typed valid_typed built_in_typed told words.scenario scenario files chosen within ticks (record_of start played.kept) ts (record { places = begun.places; start = begun.start }) legal merge;
        promises = λ done start ts begins merge.
            promised scenario.setups scenario.script files (ticks_of scenario.script) (record_of start played.kept) ts opening
            (opens scenario files budget played is start begins) (complete scenario files budget played is start begins done) merge;
        index_text = λ undisturbed done.
            let some = some_start scenario.setups scenario.script (opening_of scenario.setups scenario.script files) in
            let start = some.0 in
            let whole = complete scenario files budget played is start some.1 done in
            let none = no_ticks undisturbed.pipeline scenario.script undisturbed.plays in
            texts scenario.setups scenario.script files (record_of start played.kept) (turns_of played.kept) core words.files played.kinds played.kept words.is_traced
            (record {
              undisturbed = undisturbed;
              indexable = indexable;
              opens = opens scenario files budget played is start some.1;
              complete = subst (λ (n : ℕ). IsComplete machine n (record_of start played.kept)) none whole;
              merge = merged (ticks_of scenario.script) start played.kept whole.legal;
            })
            (are_ends scenario files budget played is start some.1);
        in_budget = λ undisturbed room over.
            let some = some_start scenario.setups scenario.script (opening_of scenario.setups scenario.script files) in
            let start = some.0 in
            let spent : IsOverBudget (ticks_of scenario.script) words.budget (record_of start played.kept) =
            subst (EndsAs (ticks_of scenario.script) words.budget (record_of start played.kept)) over (is.plays start some.1).ended in
            let none = no_ticks undisturbed.pipeline scenario.script undisturbed.plays in
            let few_ticks = spent.few in
            let silent : spent.ticks ≡ 0 = omega (arith, none, few_ticks) in
            let less = never scenario.setups scenario.script files words.budget (record_of start played.kept) (turns_of played.kept) undisturbed indexable
            (opens scenario files words.budget played is start some.1) (subst (λ (n : ℕ). IsLegal machine n (record_of start played.kept)) silent spent.legal)
            (merged spent.ticks start played.kept spent.legal) spent.unstopped room in
            let all = spent.spent in
            absurd (omega (arith, less, all));
      }

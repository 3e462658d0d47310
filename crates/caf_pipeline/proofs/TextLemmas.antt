-- The text of a complete undisturbed run is that of the files' plain index, and the files' totals.
use Rattle.std.proofs.Common.{◌≡◌, ℕ, suc, ◌+◌, ◌-◌, ◌≤◌, ◌<◌, true, false, List, [], ◌∷◌, ◌++◌, length, Option, Some, refl, sym, subst, ap, ◌∙◌, arith}
use Rattle.std.specs.Prelude.{bytes_eq, slice_get}
use Rattle.std.specs.List.{AllByRecursion}
use Rattle.caf_types.specs.declared.shape.TypeId.{TypeId}
use Rattle.caf_words.specs.Several.{ids_of}
use Rattle.caf_signature.specs.Interface.{result_for}
use Rattle.caf_index.specs.Index.{Entries}
use Rattle.caf_index.specs.IndexText.{index_text_of}
use Rattle.caf_index.specs.PlainIndex.{plain_index_of}
use Rattle.caf_actor.specs.Record.{machine_of, ends}
use Rattle.caf_script.specs.Reply.{Reply, Answered}
use Rattle.caf_kinds.specs.Asking.{type_ids}
use Rattle.caf_kinds.specs.Collector.{asking_index, asking_totals}
use Rattle.caf_kinds.specs.Contents.{summary_means, total_means}
use Rattle.caf_kinds.specs.Kinds.{kind_rules, interface_of, name_of, index_of}
use Rattle.caf_kinds.specs.Source.{starting}
use Rattle.caf_kinds.specs.declared.kind.Kind.{Kind}
use Rattle.caf_kinds.specs.declared.kind.Kind.TheVariants as kind
use Rattle.caf_kinds.specs.declared.script.Step.{Step}
use Rattle.caf_kinds.specs.declared.script.Step.TheVariants as step
use Rattle.caf_kinds.specs.declared.setup.KindName.{KindName}
use Rattle.caf_kinds.specs.declared.setup.KindName.TheVariants as name
use Rattle.caf_kinds.proofs.AskedLemmas.{typed_as}
use Rattle.caf_report.specs.Lines.{value_line}
use Rattle.caf_report.specs.Report.{End, index_at, ids_or_none, answer_ids, or_unsent, asks_index, answer_text, request_text, step_text, steps_text, text_of_index, trace_part, replies_at, or_no_replies, ended}
use Rattle.caf_report.specs.Values.{values_text}
use Rattle.caf_pipeline.specs.Undisturbed.{Pipeline, IsTold, IsRequested, IsPlainScript}
use Rattle.caf_pipeline.specs.Answered.{summary_of, total_in, spelled, HasAnswers}
use Rattle.caf_pipeline.specs.Text.{totals_lines, CompleteTextHasIndex}
use Rattle.caf_pipeline.proofs.ClosedLemmas.{complete_requests_are_answered}
use Rattle.caf_pipeline.proofs.CompleteLemmas.{complete_files_are_indexed}
use Rattle.caf_pipeline.proofs.PlaceLemmas.{one_of_setups}

-- what has an index is a collector
is_collector : (b : Kind) (index : Entries) → index_of b ≡ Some index → name_of b ≡ name.Collector
is_collector (kind.Collector s) index e = refl
is_collector (kind.Echo s) index e = cc
is_collector (kind.Cell s) index e = cc
is_collector (kind.Calc s) index e = cc
is_collector (kind.Holder s) index e = cc
is_collector (kind.Quitter s) index e = cc
is_collector (kind.Source s) index e = cc
is_collector (kind.Relay s) index e = cc
is_collector (kind.Counter s) index e = cc
is_collector (kind.Lines s) index e = cc
is_collector (kind.Watcher s) index e = cc
is_collector (kind.Spawner s) index e = cc
is_collector (kind.Alarm s) index e = cc
is_collector (kind.Conductor s) index e = cc

told_text : (end : End) (place : ℕ) (s : Step) → IsTold place starting s → step_text end 0 s ≡ []
told_text end place (step.Tell to priority types values) is = refl
told_text end place (step.Request to priority mode types values) is = absurd is
told_text end place (step.Within to priority mode types values ticks) is = absurd is
told_text end place (step.Exit to reason) is = absurd is
told_text end place step.Sync is = absurd is
told_text end place step.Tick is = absurd is

module _ (end : End) (p : Pipeline) (files : List (List ℕ)) (b : Kind) (there : slice_get end.kinds p.collector ≡ Some b) (indexed : index_of b ≡ Some (plain_index_of files)) where
  abbrev totals_words : List ℕ
  totals_words = spelled (total_means (total_in files))

  index_text : (s : Step) (words : List ℕ) → IsRequested p.collector asking_index s → slice_get end.replies 1 ≡ Some (Answered words) → step_text end 1 s ≡ index_text_of end.names (plain_index_of files)
  index_text (step.Request to priority mode types values) words is replied =
      let asks : asks_index types ≡ true = ap (bytes_eq (208 ∷ [])) is.2.ids in
      let at : index_at (slice_get end.kinds to) ≡ Some (plain_index_of files) = ap (λ (q : ℕ). index_at (slice_get end.kinds q)) is.0 ∙ ap index_at there ∙ indexed in
      let answer : answer_text end (1 + 1) to types words ≡ text_of_index end.names (index_at (slice_get end.kinds to)) = rw asks refl in
      ap (λ (o : Option Reply). request_text end (1 + 1) to types (or_unsent o)) replied ∙ answer ∙ ap (text_of_index end.names) at
  index_text (step.Tell to priority types values) words is replied = absurd is
  index_text (step.Within to priority mode types values ticks) words is replied = absurd is
  index_text (step.Exit to reason) words is replied = absurd is
  index_text step.Sync words is replied = absurd is
  index_text step.Tick words is replied = absurd is

  totals_ids : (types : List TypeId) → ids_of types ≡ type_ids asking_totals → answer_ids (Some b) types ≡ 204 ∷ []
  totals_ids types ids =
      ap (λ (n : KindName). ids_or_none (result_for (interface_of n) types)) (is_collector b (plain_index_of files) indexed)
      ∙ ap (λ (ts : List TypeId). ids_or_none (result_for (interface_of name.Collector) ts)) (typed_as types (type_ids asking_totals) ids)

  total_text : (before : ℕ) (s : Step) → IsRequested p.collector asking_totals s → slice_get end.replies before ≡ Some (Answered totals_words)
      → step_text end before s ≡ value_line (before + 1) (values_text end.table (204 ∷ []) totals_words)
  total_text before (step.Request to priority mode types values) is replied =
      let asks : asks_index types ≡ false = ap (bytes_eq (208 ∷ [])) is.2.ids in
      let ids : answer_ids (slice_get end.kinds to) types ≡ 204 ∷ [] = ap (λ (q : ℕ). answer_ids (slice_get end.kinds q) types) is.0 ∙ ap (λ (o : Option Kind). answer_ids o types) there ∙ totals_ids types is.2.ids in
      let answer : answer_text end (before + 1) to types totals_words ≡ value_line (before + 1) (values_text end.table (answer_ids (slice_get end.kinds to) types) totals_words) = rw asks refl in
      ap (λ (o : Option Reply). request_text end (before + 1) to types (or_unsent o)) replied ∙ answer ∙ ap (λ (is : List ℕ). value_line (before + 1) (values_text end.table is totals_words)) ids
  total_text before (step.Tell to priority types values) is replied = absurd is
  total_text before (step.Within to priority mode types values ticks) is replied = absurd is
  total_text before (step.Exit to reason) is replied = absurd is
  total_text before step.Sync is replied = absurd is
  total_text before step.Tick is replied = absurd is

  totals_text : (before : ℕ) (steps : List Step) → AllByRecursion (IsRequested p.collector asking_totals) steps → ((m : ℕ) → before ≤ m → m < before + length steps → slice_get end.replies m ≡ Some (Answered totals_words))
      → steps_text end before steps ≡ totals_lines end.table files before (length steps)
  totals_text before [] all replied = refl
  totals_text before (s ∷ steps) all replied =
      let one = total_text before s all.0 (replied before (omega arith) (omega arith)) in
      let rest = totals_text (before + 1) steps all.1 (λ m low high. replied m (omega (arith, low)) (omega (arith, high))) in
      ap (λ (xs : List ℕ). xs ++ steps_text end (before + 1) steps) one ∙ ap (λ (xs : List ℕ). value_line (before + 1) (values_text end.table (204 ∷ []) totals_words) ++ xs) rest

  pub script_text : (script : List Step) → IsPlainScript p script → HasAnswers script files end.replies
      → steps_text end 0 script ≡ index_text_of end.names (plain_index_of files) ++ totals_lines end.table files 2 (length script - 2)
  script_text [] plays has = absurd plays
  script_text (first ∷ []) plays has = absurd plays
  script_text (first ∷ second ∷ others) plays has =
      let one = told_text end p.source first plays.0 in
      let two = index_text second (spelled (summary_means (summary_of (plain_index_of files)))) plays.1 has.index in
      let rest = totals_text 2 others plays.2 (λ m low high. has.totals m low (omega (arith, high))) in
      let long : suc (suc (length others)) - 2 ≡ length others = omega arith in
      ap (λ (xs : List ℕ). xs ++ (step_text end 1 second ++ steps_text end 2 others)) one
      ∙ ap (λ (xs : List ℕ). xs ++ steps_text end 2 others) two
      ∙ ap (λ (xs : List ℕ). index_text_of end.names (plain_index_of files) ++ xs) (rest ∙ ap (totals_lines end.table files 2) (sym long))

pub complete_text_has_index : CompleteTextHasIndex
complete_text_has_index setups script files k ts table names kinds kept is_traced is are =
    let p = is.undisturbed.pipeline in
    let answers = complete_requests_are_answered setups script files k ts is in
    let places = is.opens.places in
    let up = is.undisturbed.actors.collector in
    let one = one_of_setups setups p.collector up.setup up.at in
    let within = one.within in
    let end = ended table names kinds in
    let replies : end.replies ≡ answers.replies = ap replies_at (are 0 (omega (arith, places))) ∙ ap or_no_replies answers.has in
    ap (λ (xs : List ℕ). xs ++ trace_part is_traced kept)
    (script_text end p files (ends (machine_of kind_rules) k p.collector).behavior (are p.collector (omega (arith, places, within))) (complete_files_are_indexed setups script files k ts is) script is.undisturbed.plays
    (subst (HasAnswers script files) (sym replies) answers.are))

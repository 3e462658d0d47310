-- What was filed of the parts asks for a run where the words do.
use Rattle.std.proofs.Common.{◌≡◌, ℕ, ◌<◌, ◌≤◌, Bool, true, false, cond, List, [], ◌∷◌, length, Option, Some, None, sym, ap, subst, ◌∙◌, codes, arith}
use Rattle.std.specs.Prelude.{IsSome, ◌⊎◌}
use Rattle.std.specs.List.{list_all}
use Rattle.clap.specs.Walk.{Row}
use Rattle.clap.specs.Faults.{fault_of}
use Rattle.clap.specs.Simple.{matches_of}
use Rattle.caf_command.specs.Clap.{run_app, vals, traced_by}
use Rattle.caf_command.specs.Parts.{values_of, traces_of, files_of}
use Rattle.caf_command.specs.Command.{AsksRun, IsRun, IsNumberOr, IsGiven, listed}
use Rattle.caf_command.specs.Reading.{parts_from, is_known}
use Rattle.caf_command.specs.declared.options.Valued.{Valued}
use Rattle.caf_command.specs.declared.options.Valued.TheVariants.{Scenario, Workers, Budget}
use Rattle.caf_command.specs.Part.{Part}
use Rattle.caf_command.specs.declared.given.Given.{Given}
use Rattle.caf_command.specs.declared.run_words.RunWords.{RunWords}
use Rattle.caf_command.proofs.PartsLemmas.{parts_are_read, read_are_parts}
use Rattle.caf_command.proofs.MatchLemmas.{taken_words, parts_taken, once_each, parts_known, matched_values, matched_files, matched_trace}

-- the parts, filed
pub record IsFiled (parts : List Part) (given : Given) : Type 0 where
  pub scenarios : given.scenarios ≡ values_of Scenario parts
  pub workers : given.workers ≡ values_of Workers parts
  pub budgets : given.budgets ≡ values_of Budget parts
  pub traces : given.traces ≡ traces_of parts
  pub files : given.files ≡ files_of parts

module _ (words : List (List ℕ)) (parts : List Part) (given : Given) (read : parts_from words None ≡ Some parts) (filed : IsFiled parts given) where
  pub asks_run : (run : RunWords) → IsGiven given run → AsksRun words run
  asks_run run h = (
    parts,
    read_are_parts words None parts read,
    record {
      scenario = sym filed.scenarios ∙ h.scenario;
      worker_count = subst (λ v. IsNumberOr 64 4 v run.workers) filed.workers h.worker_count;
      message_count = subst (λ v. IsNumberOr 4294967296 10000000 v run.budget) filed.budgets h.message_count;
      trace = sym filed.traces ∙ h.trace;
      file_names = h.file_names ∙ filed.files;
      has_file = subst (λ v. IsSome run.scenario ⊎ (0 < length v)) filed.files h.has_file;
    },
  )

  pub run_asked : (run : RunWords) → AsksRun words run → IsGiven given run
  run_asked run asks =
      let same : asks.0 ≡ parts = let again = parts_are_read asks.0 words asks.1 in cc in
      let h = subst (λ ps. IsRun (values_of Scenario ps) (values_of Workers ps) (values_of Budget ps) (traces_of ps) (files_of ps) run) same asks.2 in
      record {
        scenario = filed.scenarios ∙ h.scenario;
        worker_count = subst (λ v. IsNumberOr 64 4 v run.workers) (sym filed.workers) h.worker_count;
        message_count = subst (λ v. IsNumberOr 4294967296 10000000 v run.budget) (sym filed.budgets) h.message_count;
        trace = filed.traces ∙ h.trace;
        file_names = h.file_names ∙ sym filed.files;
        has_file = subst (λ v. IsSome run.scenario ⊎ (0 < length v)) (sym filed.files) h.has_file;
      }

-- words of which no parts are read ask for no run
pub none_asked : (words : List (List ℕ)) → parts_from words None ≡ None → (run : RunWords) → AsksRun words run → ⊥
none_asked words none run asks = let read = parts_are_read asks.0 words asks.1 in absurd cc

pub not_known : (words : List (List ℕ)) → list_all is_known words ≡ false → (run : RunWords) → AsksRun words run → ⊥
not_known words unknown run asks = let known = parts_known words None asks.0 (parts_are_read asks.0 words asks.1) in absurd cc

listed-few : (o : Option (List ℕ)) → length (listed o) ≤ 1
listed-few None = omega arith
listed-few (Some x) = omega arith

number-few : (most otherwise : ℕ) (values : List (List ℕ)) (n : ℕ) → IsNumberOr most otherwise values n → length values ≤ 1
number-few most otherwise [] n h = omega arith
number-few most otherwise (x ∷ []) n h = omega arith
number-few most otherwise (x ∷ y ∷ more) n h = absurd h

trace-few : (t : Bool) (n : ℕ) → n ≡ cond t 1 0 → n ≤ 1
trace-few true n e = omega arith
trace-few false n e = omega arith

pub not_taken : (words : List (List ℕ)) → (fault_of run_app words ≡ [] → ⊥) → (run : RunWords) → AsksRun words run → ⊥
not_taken words refused run asks =
    let ps = asks.0 in
    let read = parts_are_read ps words asks.1 in
    let h = asks.2 in
    let few = λ (o : Valued). few-of ps run h o in
    refused (parts_taken words (parts_known words None ps read) ps read (once_each ps few (trace-few run.is_traced (traces_of ps) h.trace)))
  where
    few-of : (ps : List Part) (run : RunWords) → IsRun (values_of Scenario ps) (values_of Workers ps) (values_of Budget ps) (traces_of ps) (files_of ps) run → (o : Valued) → length (values_of o ps) ≤ 1
    few-of ps run h Scenario = rw h.scenario (listed-few run.scenario)
    few-of ps run h Workers = number-few 64 4 (values_of Workers ps) run.workers h.worker_count
    few-of ps run h Budget = number-few 4294967296 10000000 (values_of Budget ps) run.budget h.message_count

pub filed : (words : List (List ℕ)) (rows : List Row) (given : Given) → list_all is_known words ≡ true → fault_of run_app words ≡ [] → rows ≡ matches_of run_app words
    → given.scenarios ≡ vals (codes "scenario") rows → given.workers ≡ vals (codes "workers") rows → given.budgets ≡ vals (codes "max-messages") rows
    → given.traces ≡ traced_by (vals (codes "trace") rows) → given.files ≡ vals (codes "files") rows
    → (ps : List Part) × (parts_from words None ≡ Some ps) × IsFiled ps given
filed words rows given known taken is scenarios workers budgets traces files =
    let t = taken_words words known taken in
    let same = is ∙ t.3 in (
      t.0,
      t.1,
      record {
        scenarios = scenarios ∙ ap (vals (codes "scenario")) same ∙ matched_values Scenario t.0 t.2;
        workers = workers ∙ ap (vals (codes "workers")) same ∙ matched_values Workers t.0 t.2;
        budgets = budgets ∙ ap (vals (codes "max-messages")) same ∙ matched_values Budget t.0 t.2;
        traces = traces ∙ ap (λ r. traced_by (vals (codes "trace") r)) same ∙ matched_trace t.0 t.2;
        files = files ∙ ap (vals (codes "files")) same ∙ matched_files t.0 t.2;
      },
    )

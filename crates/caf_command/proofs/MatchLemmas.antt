-- When clap takes the words behind `run`, and what its matches are.
use Rattle.std.proofs.Common.{◌≡◌, ◌+◌, ◌≤◌, Bool, true, false, cond, List, [], ◌∷◌, ◌++◌, length, Option, Some, None, refl, ap, sym, subst, ◌∙◌, codes, arith}
use Rattle.std.specs.Prelude.{option_map, map, find, ◌||◌, is_some}
use Rattle.std.specs.List.{list_all}
use Rattle.std.specs.Str.{bytes_eq}
use Rattle.clap.specs.Walk.{Row, Text, Walk, idle, has_row, finished, with_default, settled_rows}
use Rattle.clap.specs.Kinds.{Kinds, or_else}
use Rattle.clap.specs.Faults.{walk_fault, settle_fault, defaults_fault, fault_of, default_fault, entered_fault, check_fault}
use Rattle.clap.specs.Simple.{matches_of, built, entered}
use Rattle.clap.proofs.OnLiterals.{clap_on_literals}
use Rattle.caf_command.specs.Clap.{id_of, vals, traced_by, run_app}
use Rattle.clap.specs.Matches.{matched_of, raw_values}
use Rattle.clap.specs.Walk.{row_of, rows_of, all_of, with_values, reading_by}
use Rattle.clap.specs.Facts.{Entry}
use Rattle.clap.specs.declared.parser.matches.Found.{Found}
use Rattle.clap.specs.declared.parser.matches.ValueSource.TheVariants.{DefaultValue}
use Rattle.std.proofs.lemmas.List.{append-nil}
use Rattle.caf_command.specs.Parts.{values_of, traces_of, files_of}
use Rattle.caf_command.proofs.RowsLemmas.{vals-with, vals-uses, has-uses, once, taken, times, is_there, taken-values, taken-files, times-trace, times-taken, part_id, part_values, is_single, well}
use Rattle.caf_command.specs.Reading.{parts_from, is_known, after, word_met, value_met}
use Rattle.caf_command.specs.Words.{is_plain}
use Rattle.caf_command.specs.Met.{Met}
use Rattle.caf_command.specs.Met as word
use Rattle.caf_command.specs.declared.options.Valued.{Valued}
use Rattle.caf_command.specs.declared.options.Valued.TheVariants.{Scenario, Workers, Budget}
use Rattle.caf_command.specs.Part.{Part}
use Rattle.caf_command.specs.Part as part
use Rattle.caf_command.proofs.ClapLemmas.{nothing, shape, state, rule_for, trace_rule, files_rule}
use Rattle.caf_command.proofs.SimLemmas.{Follows, follows, total, end_of, uses, uses_fault}

or_first : (a b : Kinds) → or_else a b ≡ [] → a ≡ []
or_first [] b e = refl
or_first (k ∷ ks) b e = absurd cc

or_later : (a b : Kinds) → or_else a b ≡ [] → b ≡ []
or_later [] b e = e
or_later (k ∷ ks) b e = absurd cc

cond_same : {A : Type 0} (t : Bool) (x : A) → cond t x x ≡ x
cond_same true x = refl
cond_same false x = refl

or_true : (t : Bool) → (t || true) ≡ true
or_true true = refl
or_true false = refl

abbrev pub start : Walk
start = state [] None idle

abbrev pub full : List Row → List Row
full rows = with_default rows trace_rule

finish : (words : List Text) → matches_of run_app words ≡ full (settled_rows shape.rules (end_of start words).held.pending (end_of start words).held.rows)
unfolding clap_on_literals
finish words =
    let rows = settled_rows shape.rules (end_of start words).held.pending (end_of start words).held.rows in
    rw (cond_same (has_row (codes "scenario") rows) rows, cond_same (has_row (codes "workers") rows) rows, cond_same (has_row (codes "max-messages") rows) rows) (cond_same (has_row (codes "files") (full rows)) (full rows))

fault-parts : (words : List Text) → fault_of run_app words ≡ [] → total start words ≡ []
unfolding clap_on_literals
fault-parts words e =
    let walked = or_first (walk_fault shape [] start words) _ e in
    let settled = or_first (settle_fault shape.rules false (end_of start words).held) _ (or_later _ _ (or_later (walk_fault shape [] start words) _ e)) in
    ap (λ k. or_else k (settle_fault shape.rules false (end_of start words).held)) walked ∙ settled

both_none : (a b : Kinds) → a ≡ [] → b ≡ [] → or_else a b ≡ []
both_none [] b e f = f
both_none (k ∷ ks) b e f = absurd cc

no-default : (rows : List Row) (o : Valued) → default_fault rows (rule_for o) ≡ []
no-default rows Scenario = rw (or_true (has_row (codes "scenario") rows)) refl
no-default rows Workers = rw (or_true (has_row (codes "workers") rows)) refl
no-default rows Budget = rw (or_true (has_row (codes "max-messages") rows)) refl

no-default_trace : (rows : List Row) → default_fault rows trace_rule ≡ []
no-default_trace rows = by-cond (has_row (codes "trace") rows)
  where
    by-cond : (t : Bool) → cond {A = Kinds} (t || false) [] [] ≡ []
    by-cond true = refl
    by-cond false = refl

no-default_files : (rows : List Row) → default_fault rows files_rule ≡ []
no-default_files rows = rw (or_true (has_row (codes "files") rows)) refl

no-defaults : (rows : List Row) → defaults_fault rows shape.rules ≡ []
unfolding clap_on_literals
no-defaults rows =
    let r1 = with_default rows (rule_for Scenario) in
    let r2 = with_default r1 (rule_for Workers) in
    let r3 = with_default r2 (rule_for Budget) in
    let r4 = with_default r3 trace_rule in
    both_none _ _ (no-default rows Scenario) (both_none _ _ (no-default r1 Workers) (both_none _ _ (no-default r2 Budget) (both_none _ _ (no-default_trace r3) (both_none _ _ (no-default_files r4) refl))))

parts-fault : (words : List Text) → total start words ≡ [] → (end_of start words).stopped ≡ None → fault_of run_app words ≡ []
unfolding clap_on_literals
parts-fault words e stop =
    let walked = or_first (walk_fault shape [] start words) _ e in
    let settled = or_later (walk_fault shape [] start words) _ e in
    let below : entered_fault (built run_app) (end_of start words).stopped ≡ [] = rw stop refl in
    let rows = settled_rows shape.rules (end_of start words).held.pending (end_of start words).held.rows in
    let check : check_fault shape (finished shape.rules (end_of start words).held) (is_some (entered (built run_app) (end_of start words).stopped)) ≡ [] = rw stop refl in
    both_none (walk_fault shape [] start words) _ walked (both_none (entered_fault (built run_app) (end_of start words).stopped) _ below
    (both_none (settle_fault shape.rules false (end_of start words).held) _ settled (both_none (defaults_fault rows shape.rules) _ (no-defaults rows) check)))

-- the parts of words that are taken, and the matches
pub taken_words : (words : List Text) → list_all is_known words ≡ true → fault_of run_app words ≡ []
    → (ps : List Part) × (parts_from words None ≡ Some ps) × (uses_fault [] ps ≡ []) × (matches_of run_app words ≡ full (uses [] ps))
taken_words words known e =
    by-parts (parts_from words None) refl ((follows words known).0 [] None nothing)
  where
    by-parts : (o : Option (List Part)) → parts_from words None ≡ o → Follows start words [] [] o
        → (ps : List Part) × (parts_from words None ≡ Some ps) × (uses_fault [] ps ≡ []) × (matches_of run_app words ≡ full (uses [] ps))
    by-parts None is never = absurd (never (fault-parts words e))
    by-parts (Some ps) is h = (ps, is, sym h.0 ∙ fault-parts words e, finish words ∙ ap full h.1)

-- words that are parts of which each may stand there are taken
pub parts_taken : (words : List Text) → list_all is_known words ≡ true → (ps : List Part) → parts_from words None ≡ Some ps → uses_fault [] ps ≡ [] → fault_of run_app words ≡ []
parts_taken words known ps is none =
    let h = subst (λ o. Follows start words [] [] o) is ((follows words known).0 [] None nothing) in
    parts-fault words (h.0 ∙ none) h.2

-- ---- what is matched under an id

raw_entries : (id : Text) (entries : List Entry) → option_map raw_values (option_map (λ (e : Entry). e.1) (find (λ (e : Entry). bytes_eq e.0.now id) entries)) ≡ option_map (λ (r : Row). r.values) (find (λ (r : Row). bytes_eq r.id id) (map row_of entries))
raw_entries id [] = refl
raw_entries id (e ∷ es) =
    elim (bytes_eq e.0.now id) as (λ t. option_map raw_values (option_map (λ (e : Entry). e.1) (cond t (Some e) (find (λ (e : Entry). bytes_eq e.0.now id) es))) ≡ option_map (λ (r : Row). r.values) (cond t (Some (row_of e)) (find (λ (r : Row). bytes_eq r.id id) (map row_of es)))) [
      | true ↦ refl
      | false ↦ raw_entries id es
    ]

pub raw_under : (found : Found) (id : Text) → option_map raw_values (matched_of found id) ≡ all_of id (rows_of found)
raw_under found id = raw_entries id found.entries.items

-- ---- what the matches of parts are

vals-full : (id : Text) (rows : List Row) → bytes_eq (codes "trace") id ≡ false → vals id (full rows) ≡ vals id rows
vals-full id rows other =
    elim (has_row (codes "trace") rows) as (λ t. vals id (cond t rows (with_values (codes "trace") (reading_by trace_rule) DefaultValue (codes "false" ∷ []) rows)) ≡ vals id rows) [
      | true ↦ refl
      | false ↦ vals-with (codes "trace") (reading_by trace_rule) DefaultValue (codes "false" ∷ []) id rows ∙ rw other (append-nil (vals id rows))
    ]

id-of_other : (o : Valued) → bytes_eq (codes "trace") (id_of o) ≡ false
id-of_other Scenario = refl
id-of_other Workers = refl
id-of_other Budget = refl

pub matched_values : (o : Valued) (ps : List Part) → uses_fault [] ps ≡ [] → vals (id_of o) (full (uses [] ps)) ≡ values_of o ps
matched_values o ps e = vals-full (id_of o) (uses [] ps) (id-of_other o) ∙ vals-uses (id_of o) ps [] e ∙ taken-values o ps

pub matched_files : (ps : List Part) → uses_fault [] ps ≡ [] → vals (codes "files") (full (uses [] ps)) ≡ files_of ps
matched_files ps e = vals-full (codes "files") (uses [] ps) refl ∙ vals-uses (codes "files") ps [] e ∙ taken-files ps

untraced : (ps : List Part) → is_there (codes "trace") ps ≡ false → (taken (codes "trace") ps ≡ []) × (times (codes "trace") ps ≡ 0)
untraced [] e = (refl, refl)
untraced (p ∷ ps) e =
    elim (bytes_eq (part_id p) (codes "trace")) as (λ t. (t || is_there (codes "trace") ps) ≡ false → (cond t (part_values p) [] ++ taken (codes "trace") ps ≡ []) × (cond t 1 0 + times (codes "trace") ps ≡ 0)) [
      | true ↦ λ s. absurd cc
      | false ↦ λ s. let ih = untraced ps s in (ih.0, omega (arith, ih.1))
    ] e

is-traced : (ps : List Part) → is_there (codes "trace") ps ≡ true → (traced_by (taken (codes "trace") ps) ≡ 1) × (1 ≤ times (codes "trace") ps)
is-traced [] e = absurd cc
is-traced (part.Trace ∷ ps) e = (refl, omega arith)
is-traced (part.Value Scenario v ∷ ps) e = let ih = is-traced ps e in (ih.0, omega (arith, ih.1))
is-traced (part.Value Workers v ∷ ps) e = let ih = is-traced ps e in (ih.0, omega (arith, ih.1))
is-traced (part.Value Budget v ∷ ps) e = let ih = is-traced ps e in (ih.0, omega (arith, ih.1))
is-traced (part.File f ∷ ps) e = let ih = is-traced ps e in (ih.0, omega (arith, ih.1))

pub matched_trace : (ps : List Part) → uses_fault [] ps ≡ [] → traced_by (vals (codes "trace") (full (uses [] ps))) ≡ traces_of ps
matched_trace ps e =
    let got = vals-uses (codes "trace") ps [] e in
    let most = once (codes "trace") refl ps [] e in
    let count = times-trace ps in
    elim (has_row (codes "trace") (uses [] ps)) as (λ t. is_there (codes "trace") ps ≡ t → traced_by (vals (codes "trace") (cond t (uses [] ps) (with_values (codes "trace") (reading_by trace_rule) DefaultValue (codes "false" ∷ []) (uses [] ps)))) ≡ traces_of ps) [
      | true ↦ λ there. let is = is-traced ps there in ap traced_by got ∙ omega (arith, is.0, is.1, most, count)
      | false ↦ λ there. let is = untraced ps there in ap traced_by (vals-with (codes "trace") (reading_by trace_rule) DefaultValue (codes "false" ∷ []) (codes "trace") (uses [] ps) ∙ ap (λ xs. xs ++ codes "false" ∷ []) (got ∙ is.0)) ∙ omega (arith, is.1, count)
    ] (sym (has-uses (codes "trace") ps [] e))

-- parts that ask for a run are taken
pub once_each : (ps : List Part) → ((o : Valued) → length (values_of o ps) ≤ 1) → traces_of ps ≤ 1 → uses_fault [] ps ≡ []
once_each ps values traces = well ps [] each
  where
    each : (q : Part) → is_single q ≡ true → cond (has_row (part_id q) []) 1 0 + times (part_id q) ps ≤ 1
    each (part.Value o v) e = omega (arith, times-taken (id_of o) ps, ap length (taken-values o ps), values o)
    each part.Trace e = omega (arith, times-trace ps, traces)
    each (part.File f) e = absurd cc

known-rest : (words : List Text) → ((waits : Option Valued) (ps : List Part) → parts_from words waits ≡ Some ps → list_all is_known words ≡ true)
    → (ps : List Part) (m : Option Met) → after m (parts_from words) ≡ Some ps → list_all is_known words ≡ true
known-rest words ih ps None e = absurd cc
known-rest words ih ps (Some (word.Opening o)) e = ih (Some o) ps e
known-rest words ih ps (Some (word.Part p)) e =
    elim (parts_from words None) as (λ r. parts_from words None ≡ r → option_map (λ parts. p ∷ parts) r ≡ Some ps → list_all is_known words ≡ true) [
      | None ↦ λ _ s. absurd cc
      | Some qs ↦ λ is s. ih None qs is
    ] refl e

known-here : (text : Text) (words : List Text) (ps : List Part) (m : Option Met) → word_met None text ≡ m → after m (parts_from words) ≡ Some ps → is_known text ≡ true
known-here text words ps None is e = absurd cc
known-here text words ps (Some m) is e = ap is_some is

value-known : (text : Text) (words : List Text) (o : Valued) (ps : List Part) → after (value_met o text) (parts_from words) ≡ Some ps → is_known text ≡ true
value-known text words o ps e =
    elim (is_plain text) as (λ t. is_plain text ≡ t → after (cond t (Some (word.Part (part.Value o text))) None) (parts_from words) ≡ Some ps → is_known text ≡ true) [
      | true ↦ λ plain s. rw plain refl
      | false ↦ λ _ s. absurd cc
    ] refl e

-- words of which parts are read are known
pub parts_known : (words : List Text) (waits : Option Valued) (ps : List Part) → parts_from words waits ≡ Some ps → list_all is_known words ≡ true
parts_known [] waits ps e = refl
parts_known (text ∷ words) None ps e = rw (known-here text words ps (word_met None text) refl e, known-rest words (parts_known words) ps (word_met None text) e) refl
parts_known (text ∷ words) (Some o) ps e = rw (value-known text words o ps e, known-rest words (parts_known words) ps (value_met o text) e) refl

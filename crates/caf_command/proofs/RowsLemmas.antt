-- What clap's matches have of the parts.
use Rattle.std.proofs.Common.{◌≡◌, ℕ, ◌+◌, ◌≤◌, Bool, true, false, cond, List, [], ◌∷◌, ◌++◌, length, Some, refl, ap, sym, ◌∙◌, codes, arith}
use Rattle.std.specs.Prelude.{option_map, unwrap_or, find, ◌||◌, ◌&&◌}
use Rattle.std.specs.Str.{bytes_eq}
use Rattle.std.proofs.lemmas.List.{append-nil, append_assoc, length-append}
use Rattle.std.proofs.lemmas.List.Sums.{sum_by-cons}
use Rattle.caf_command.specs.Parts.{values_in, values_of, traces_in, traces_of, files_in, files_of}
use Rattle.std.proofs.lemmas.Slice.Eq.{bytes_eq-Decides}
use Rattle.clap.specs.Walk.{Row, Text, without, with_values, more_values, has_row, reading_by}
use Rattle.clap.specs.Kinds.{Kinds, or_else}
use Rattle.clap.specs.declared.builder.value_parser.Reading.{Reading}
use Rattle.clap.specs.declared.parser.matches.ValueSource.{ValueSource}
use Rattle.clap.specs.declared.parser.matches.ValueSource.TheVariants.{CommandLine}
use Rattle.clap.specs.declared.error.kind.ErrorKind.TheVariants as kind
use Rattle.clap.proofs.OnLiterals.{clap_on_literals}
use Rattle.caf_command.specs.declared.options.Valued.{Valued}
use Rattle.caf_command.specs.declared.options.Valued.TheVariants.{Scenario, Workers, Budget}
use Rattle.caf_command.specs.Part.{Part}
use Rattle.caf_command.specs.Part as part
use Rattle.caf_command.proofs.ClapLemmas.{rule_for, trace_rule, files_rule}
use Rattle.caf_command.specs.Clap.{id_of, vals}
use Rattle.caf_command.proofs.SimLemmas.{use_part, part_fault, uses, uses_fault}

without-absent : (id : Text) (rows : List Row) → has_row id rows ≡ false → without id rows ≡ rows
without-absent id [] e = refl
without-absent id (r ∷ rs) e =
    elim (bytes_eq r.id id) as (λ t. (t || has_row id rs) ≡ false → cond t rs (r ∷ without id rs) ≡ r ∷ rs) [
      | true ↦ λ s. absurd cc
      | false ↦ λ s. ap (λ xs. r ∷ xs) (without-absent id rs s)
    ] e

one : (t : Bool) → or_else (cond (t && true) (kind.ArgumentConflict ∷ []) []) [] ≡ cond t (kind.ArgumentConflict ∷ []) []
one true = refl
one false = refl

-- what an id gets
abbrev pub to_id : Text → Text → List Text → List Text
to_id id other values = cond (bytes_eq id other) values []

module _ (id : Text) (how : Reading) (s : ValueSource) (values : List Text) (other : Text) where
  find-step : (r : Row) (rs : List Row) → vals other (r ∷ rs) ≡ cond (bytes_eq r.id other) r.values (vals other rs)
  find-step r rs = elim (bytes_eq r.id other) as (λ t. unwrap_or (option_map (λ (x : Row). x.values) (cond t (Some r) (find (λ (x : Row). bytes_eq x.id other) rs))) [] ≡ cond t r.values (vals other rs)) [
    | true ↦ refl
    | false ↦ refl
  ]

  same-id : (a b : Text) → bytes_eq a b ≡ true → bytes_eq a other ≡ bytes_eq b other
  same-id a b e = ap (λ x. bytes_eq x other) ((bytes_eq-Decides a b).0 e)

  kept-if : (t : Bool) (x : List Text) → cond t x [] ≡ cond t (x ++ []) []
  kept-if true x = sym (append-nil x)
  kept-if false x = refl

  pub vals-with : (rows : List Row) → vals other (with_values id how s values rows) ≡ vals other rows ++ to_id id other values
  vals-with [] = find-step _ []
  vals-with (r ∷ rs) =
      elim (bytes_eq r.id id) as (λ t. bytes_eq r.id id ≡ t → vals other (cond t (more_values s values r ++ rs) (r ∷ with_values id how s values rs)) ≡ vals other (r ∷ rs) ++ to_id id other values) [
        | true ↦ λ e.
            find-step _ rs ∙ here (bytes_eq r.id other) (bytes_eq id other) (same-id r.id id e) (vals other rs) ∙ ap (λ xs. xs ++ to_id id other values) (sym (find-step r rs))
        | false ↦ λ e. find-step r _ ∙ apart (bytes_eq r.id other) (bytes_eq id other) (λ a b. let x = (bytes_eq-Decides r.id other).0 a in let y = (bytes_eq-Decides id other).0 b in let z = (bytes_eq-Decides r.id id).1 (cc (x, y)) in absurd cc) (vals other rs) _ (vals-with rs)
            ∙ ap (λ xs. xs ++ to_id id other values) (sym (find-step r rs))
      ] refl
    where
      here : (a b : Bool) → a ≡ b → (rest : List Text) → cond a (r.values ++ values) rest ≡ cond a r.values rest ++ cond b values []
      here true true e rest = refl
      here true false e rest = absurd cc
      here false true e rest = absurd cc
      here false false e rest = sym (append-nil rest)

      apart : (a b : Bool) → (a ≡ true → b ≡ true → ⊥) → (rest later : List Text) → later ≡ rest ++ cond b values [] → cond a r.values later ≡ cond a r.values rest ++ cond b values []
      apart true true never rest later e = absurd (never refl refl)
      apart true false never rest later e = sym (append-nil r.values)
      apart false b never rest later e = e

  pub has-with : (rows : List Row) → has_row other (with_values id how s values rows) ≡ (has_row other rows || bytes_eq id other)
  has-with [] = or-false (bytes_eq id other)
    where
      or-false : (b : Bool) → (b || false) ≡ b
      or-false true = refl
      or-false false = refl
  has-with (r ∷ rs) =
      elim (bytes_eq r.id id) as (λ t. bytes_eq r.id id ≡ t → has_row other (cond t (more_values s values r ++ rs) (r ∷ with_values id how s values rs)) ≡ (has_row other (r ∷ rs) || bytes_eq id other)) [
        | true ↦ λ e. here (bytes_eq r.id other) (bytes_eq id other) (has_row other rs) (same-id r.id id e)
        | false ↦ λ e. ap (λ x. bytes_eq r.id other || x) (has-with rs) ∙ three (bytes_eq r.id other) (has_row other rs) (bytes_eq id other)
      ] refl
    where
      here : (a b c : Bool) → a ≡ b → (a || c) ≡ ((a || c) || b)
      here true b c e = refl
      here false true c e = absurd cc
      here false false true e = refl
      here false false false e = refl

      three : (a b c : Bool) → (a || (b || c)) ≡ ((a || b) || c)
      three true b c = refl
      three false b c = refl

abbrev pub part_id : Part → Text
part_id (part.Value o v) = id_of o
part_id part.Trace = codes "trace"
part_id (part.File f) = codes "files"

abbrev pub part_values : Part → List Text
part_values (part.Value o v) = v ∷ []
part_values part.Trace = codes "true" ∷ []
part_values (part.File f) = f ∷ []

-- whether the part may be used but once
abbrev pub is_single : Part → Bool
is_single (part.File f) = false
is_single _ = true

abbrev conflict : Bool → Kinds
conflict t = cond t (kind.ArgumentConflict ∷ []) []

part_fault-is : (rows : List Row) (p : Part) → part_fault rows p ≡ conflict (is_single p && has_row (part_id p) rows)
unfolding clap_on_literals
part_fault-is rows (part.Value Scenario v) = one (has_row (codes "scenario") rows)
part_fault-is rows (part.Value Workers v) = one (has_row (codes "workers") rows)
part_fault-is rows (part.Value Budget v) = one (has_row (codes "max-messages") rows)
part_fault-is rows part.Trace = one (has_row (codes "trace") rows)
part_fault-is rows (part.File f) = refl

abbrev Used : List Row → Part → Type 0
Used rows p = (how : Reading) × (use_part rows p ≡ with_values (part_id p) how CommandLine (part_values p) rows)

used-is : (rows : List Row) (p : Part) → (is_single p && has_row (part_id p) rows) ≡ false → Used rows p
unfolding clap_on_literals
used-is rows (part.Value Scenario v) e = (reading_by (rule_for Scenario), ap (λ r. with_values (codes "scenario") (reading_by (rule_for Scenario)) CommandLine (v ∷ []) r) (without-absent (codes "scenario") rows e))
used-is rows (part.Value Workers v) e = (reading_by (rule_for Workers), ap (λ r. with_values (codes "workers") (reading_by (rule_for Workers)) CommandLine (v ∷ []) r) (without-absent (codes "workers") rows e))
used-is rows (part.Value Budget v) e = (reading_by (rule_for Budget), ap (λ r. with_values (codes "max-messages") (reading_by (rule_for Budget)) CommandLine (v ∷ []) r) (without-absent (codes "max-messages") rows e))
used-is rows part.Trace e = (reading_by trace_rule, ap (λ r. with_values (codes "trace") (reading_by trace_rule) CommandLine (codes "true" ∷ []) r) (without-absent (codes "trace") rows e))
used-is rows (part.File f) e = (reading_by files_rule, refl)

-- ---- all parts

abbrev pub taken : Text → List Part → List Text
taken id [] = []
taken id (p ∷ ps) = to_id (part_id p) id (part_values p) ++ taken id ps

abbrev pub is_there : Text → List Part → Bool
is_there id [] = false
is_there id (p ∷ ps) = bytes_eq (part_id p) id || is_there id ps

abbrev pub times : Text → List Part → ℕ
times id [] = 0
times id (p ∷ ps) = cond (bytes_eq (part_id p) id) 1 0 + times id ps

no-conflict : (t : Bool) → conflict t ≡ [] → t ≡ false
no-conflict true e = absurd cc
no-conflict false e = refl

or-first : (a b : Kinds) → or_else a b ≡ [] → a ≡ []
or-first [] b e = refl
or-first (k ∷ ks) b e = absurd cc

or-later : (a b : Kinds) → or_else a b ≡ [] → b ≡ []
or-later [] b e = e
or-later (k ∷ ks) b e = absurd cc

free-of : (rows : List Row) (p : Part) (ps : List Part) → uses_fault rows (p ∷ ps) ≡ [] → (is_single p && has_row (part_id p) rows) ≡ false
free-of rows p ps e = no-conflict _ (sym (part_fault-is rows p) ∙ or-first (part_fault rows p) (uses_fault (use_part rows p) ps) e)

vals-use : (id : Text) (rows : List Row) (p : Part) → Used rows p → vals id (use_part rows p) ≡ vals id rows ++ to_id (part_id p) id (part_values p)
vals-use id rows p u = ap (vals id) u.1 ∙ vals-with (part_id p) u.0 CommandLine (part_values p) id rows

has-use : (id : Text) (rows : List Row) (p : Part) → Used rows p → has_row id (use_part rows p) ≡ (has_row id rows || bytes_eq (part_id p) id)
has-use id rows p u = ap (has_row id) u.1 ∙ has-with (part_id p) u.0 CommandLine (part_values p) id rows

pub vals-uses : (id : Text) (ps : List Part) (rows : List Row) → uses_fault rows ps ≡ [] → vals id (uses rows ps) ≡ vals id rows ++ taken id ps
vals-uses id [] rows e = sym (append-nil (vals id rows))
vals-uses id (p ∷ ps) rows e =
    let used = used-is rows p (free-of rows p ps e) in
    vals-uses id ps (use_part rows p) (or-later (part_fault rows p) (uses_fault (use_part rows p) ps) e)
    ∙ ap (λ xs. xs ++ taken id ps) (vals-use id rows p used)
    ∙ append_assoc (vals id rows) (to_id (part_id p) id (part_values p)) (taken id ps)

or-three : (a b c : Bool) → ((a || b) || c) ≡ (a || (b || c))
or-three true b c = refl
or-three false b c = refl

or-none : (a : Bool) → a ≡ (a || false)
or-none true = refl
or-none false = refl

pub has-uses : (id : Text) (ps : List Part) (rows : List Row) → uses_fault rows ps ≡ [] → has_row id (uses rows ps) ≡ (has_row id rows || is_there id ps)
has-uses id [] rows e = or-none (has_row id rows)
has-uses id (p ∷ ps) rows e =
    let used = used-is rows p (free-of rows p ps e) in
    has-uses id ps (use_part rows p) (or-later (part_fault rows p) (uses_fault (use_part rows p) ps) e)
    ∙ ap (λ x. x || is_there id ps) (has-use id rows p used)
    ∙ or-three (has_row id rows) (bytes_eq (part_id p) id) (is_there id ps)

count-or : (a b : Bool) (n : ℕ) → (a ≡ true → b ≡ true → ⊥) → cond (a || b) 1 0 + n ≡ cond a 1 0 + (cond b 1 0 + n)
count-or true true n never = absurd (never refl refl)
count-or true false n never = omega arith
count-or false b n never = omega arith

single-of : (p : Part) (id : Text) → bytes_eq (codes "files") id ≡ false → bytes_eq (part_id p) id ≡ true → is_single p ≡ true
single-of (part.Value o v) id other same = refl
single-of part.Trace id other same = refl
single-of (part.File f) id other same = absurd cc

has-same : (rows : List Row) (a b : Text) → bytes_eq a b ≡ true → has_row a rows ≡ has_row b rows
has-same rows a b e = ap (λ x. has_row x rows) ((bytes_eq-Decides a b).0 e)

not-twice : (rows : List Row) (p : Part) (id : Text) → bytes_eq (codes "files") id ≡ false → (is_single p && has_row (part_id p) rows) ≡ false → has_row id rows ≡ true → bytes_eq (part_id p) id ≡ true → ⊥
not-twice rows p id other free has same =
    let single = single-of p id other same in
    let there : has_row (part_id p) rows ≡ true = has-same rows (part_id p) id same ∙ has in
    let both : (is_single p && has_row (part_id p) rows) ≡ true = rw (single, there) refl in
    absurd cc

-- what isn't refused stands there once at most
pub once : (id : Text) → bytes_eq (codes "files") id ≡ false → (ps : List Part) (rows : List Row) → uses_fault rows ps ≡ [] → cond (has_row id rows) 1 0 + times id ps ≤ 1
once id other [] rows e = at-most (has_row id rows)
  where
    at-most : (b : Bool) → cond b 1 0 + 0 ≤ 1
    at-most true = omega arith
    at-most false = omega arith
once id other (p ∷ ps) rows e =
    let free = free-of rows p ps e in
    let used = used-is rows p free in
    let ih = once id other ps (use_part rows p) (or-later (part_fault rows p) (uses_fault (use_part rows p) ps) e) in
    let has = ap (λ b. cond b 1 0 + times id ps) (has-use id rows p used) in
    let count = count-or (has_row id rows) (bytes_eq (part_id p) id) (times id ps) (not-twice rows p id other free) in
    omega (arith, ih, has, count)

same-id-of : (a : Text) → bytes_eq a a ≡ true
same-id-of a = (bytes_eq-Decides a a).1 refl

single-id : (q : Part) → is_single q ≡ true → bytes_eq (codes "files") (part_id q) ≡ false
single-id (part.Value Scenario v) e = refl
single-id (part.Value Workers v) e = refl
single-id (part.Value Budget v) e = refl
single-id part.Trace e = refl
single-id (part.File f) e = absurd cc

none-there : (t : Bool) (b : Bool) (n : ℕ) → b ≡ true → cond t 1 0 + (cond b 1 0 + n) ≤ 1 → t ≡ false
none-there true true n same e = absurd (omega arith)
none-there true false n same e = absurd cc
none-there false b n same e = refl

free-by : (rows : List Row) (q : Part) (ps : List Part) → (is_single q ≡ true → cond (has_row (part_id q) rows) 1 0 + times (part_id q) (q ∷ ps) ≤ 1)
    → (t : Bool) → is_single q ≡ t → (is_single q && has_row (part_id q) rows) ≡ false
free-by rows q ps few false e = rw e refl
free-by rows q ps few true e = rw (e, none-there (has_row (part_id q) rows) (bytes_eq (part_id q) (part_id q)) (times (part_id q) ps) (same-id-of (part_id q)) (few e)) refl

-- parts of which each may stand there are not refused
pub well : (ps : List Part) (rows : List Row) → ((q : Part) → is_single q ≡ true → cond (has_row (part_id q) rows) 1 0 + times (part_id q) ps ≤ 1) → uses_fault rows ps ≡ []
well [] rows few = refl
well (p ∷ ps) rows few =
    let free = free-by rows p ps (few p) (is_single p) refl in
    let used = used-is rows p free in
    let none : part_fault rows p ≡ [] = part_fault-is rows p ∙ ap conflict free in
    ap (λ k. or_else k (uses_fault (use_part rows p) ps)) none
    ∙ well ps (use_part rows p) (λ q single.
    let id = part_id q in
    let other = single-id q single in
    let has = ap (λ b. cond b 1 0 + times id ps) (has-use id rows p used) in
    let count = count-or (has_row id rows) (bytes_eq (part_id p) id) (times id ps) (not-twice rows p id other free) in
    let bound = few q single in
    omega (arith, has, count, bound))

-- ---- each option's own

given-value : (o : Valued) (p : Part) → to_id (part_id p) (id_of o) (part_values p) ≡ values_in o p
given-value Scenario (part.Value Scenario v) = refl
given-value Scenario (part.Value Workers v) = refl
given-value Scenario (part.Value Budget v) = refl
given-value Workers (part.Value Scenario v) = refl
given-value Workers (part.Value Workers v) = refl
given-value Workers (part.Value Budget v) = refl
given-value Budget (part.Value Scenario v) = refl
given-value Budget (part.Value Workers v) = refl
given-value Budget (part.Value Budget v) = refl
given-value Scenario part.Trace = refl
given-value Workers part.Trace = refl
given-value Budget part.Trace = refl
given-value Scenario (part.File f) = refl
given-value Workers (part.File f) = refl
given-value Budget (part.File f) = refl

pub taken-values : (o : Valued) (ps : List Part) → taken (id_of o) ps ≡ values_of o ps
taken-values o [] = refl
taken-values o (p ∷ ps) = ap (λ xs. xs ++ taken (id_of o) ps) (given-value o p) ∙ ap (λ ys. values_in o p ++ ys) (taken-values o ps)

given-file : (p : Part) → to_id (part_id p) (codes "files") (part_values p) ≡ files_in p
given-file (part.Value Scenario v) = refl
given-file (part.Value Workers v) = refl
given-file (part.Value Budget v) = refl
given-file part.Trace = refl
given-file (part.File f) = refl

pub taken-files : (ps : List Part) → taken (codes "files") ps ≡ files_of ps
taken-files [] = refl
taken-files (p ∷ ps) = ap (λ xs. xs ++ taken (codes "files") ps) (given-file p) ∙ ap (λ ys. files_in p ++ ys) (taken-files ps)

one-value : (p : Part) (id : Text) → cond (bytes_eq (part_id p) id) 1 0 ≡ length (to_id (part_id p) id (part_values p))
one-value (part.Value o v) id = by-cond (bytes_eq (id_of o) id) v
  where
    by-cond : (t : Bool) (v : Text) → cond t 1 0 ≡ length (cond t (v ∷ []) [])
    by-cond true v = refl
    by-cond false v = refl
one-value part.Trace id = by-cond (bytes_eq (codes "trace") id)
  where
    by-cond : (t : Bool) → cond t 1 0 ≡ length (cond t (codes "true" ∷ []) [])
    by-cond true = refl
    by-cond false = refl
one-value (part.File f) id = by-cond (bytes_eq (codes "files") id)
  where
    by-cond : (t : Bool) → cond t 1 0 ≡ length (cond t (f ∷ []) [])
    by-cond true = refl
    by-cond false = refl

pub times-taken : (id : Text) (ps : List Part) → times id ps ≡ length (taken id ps)
times-taken id [] = refl
times-taken id (p ∷ ps) =
    let ih = times-taken id ps in
    let here = one-value p id in
    let both = length-append (to_id (part_id p) id (part_values p)) (taken id ps) in
    omega (arith, ih, here, both)

pub times-trace : (ps : List Part) → times (codes "trace") ps ≡ traces_of ps
times-trace [] = refl
times-trace (p ∷ ps) = ap (λ n. n + times (codes "trace") ps) (here p) ∙ ap (λ n. traces_in p + n) (times-trace ps) ∙ sym (sum_by-cons traces_in p ps)
  where
    here : (q : Part) → cond (bytes_eq (part_id q) (codes "trace")) 1 0 ≡ traces_in q
    here (part.Value Scenario v) = refl
    here (part.Value Workers v) = refl
    here (part.Value Budget v) = refl
    here part.Trace = refl
    here (part.File f) = refl

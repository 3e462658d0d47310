use Rattle.std.proofs.Common.{◌≡◌, ℕ, Bool, true, false, eqb, List, [], ◌∷◌, ◌++◌, Option, Some, None, refl, codes}
use Rattle.std.specs.Prelude.{slice_index_or, ◌&&◌}
use Rattle.clap.specs.Words.{Row, Rule, Text, is_simple_and_free, built}
use Rattle.clap.specs.Walk.{Held, Walk, Waiting, idle, option, positional, walked, settled_rows, used, is_pending}
use Rattle.clap.specs.Faults.{turn_fault, settle_fault, use_fault}
use Rattle.clap.specs.Kinds.{Kinds, or_else}
use Rattle.clap.specs.declared.error.kind.ErrorKind.TheVariants as kind
use Rattle.clap.specs.Simple.{Shape}
use Rattle.clap.proofs.OnLiterals.{clap_on_literals}
use Rattle.caf_command.specs.Clap.{id_of, named, run_app}
use Rattle.caf_command.specs.Options.{name_of}
use Rattle.caf_command.specs.declared.options.Valued.{Valued}
use Rattle.caf_command.specs.declared.options.Valued.TheVariants.{Scenario, Workers, Budget}

pub is_free : is_simple_and_free run_app ≡ true
unfolding clap_on_literals
is_free = refl

-- the built command's shape
abbrev pub shape : Shape
shape = (built run_app).top

pub or_nil : (k : Kinds) → or_else k [] ≡ k
or_nil [] = refl
or_nil (x ∷ xs) = refl

and_false : (b : Bool) → (b && false) ≡ false
and_false true = refl
and_false false = refl

abbrev pub rule_for : Valued → Rule
rule_for Scenario = slice_index_or shape.rules 0 named
rule_for Workers = slice_index_or shape.rules 1 named
rule_for Budget = slice_index_or shape.rules 2 named

abbrev pub trace_rule : Rule
trace_rule = slice_index_or shape.rules 3 named

abbrev pub files_rule : Rule
files_rule = slice_index_or shape.rules 4 named

abbrev pub state : List Row → Option (Text × List Text) → Waiting → Walk
state rows pending waiting = record { held = record { rows = rows; pending = pending; skip = 0 }; waiting = waiting; position = 1; is_trailing = false; stopped = None }

abbrev pub held : List Row → Option (Text × List Text) → Held
held rows pending = record { rows = rows; pending = pending; skip = 0 }

abbrev pub settled_of : List Row → Option (Text × List Text) → List Row
settled_of rows pending = settled_rows shape.rules pending rows

-- between two parts nothing waits, or a positional
pub data Between : Type 0 where
  nothing : Between
  files : Between

abbrev pub waiting_for : Between → Waiting
waiting_for nothing = idle
waiting_for files = positional

module _ (rows : List Row) (pending : Option (Text × List Text)) where
  pub name_walks : (q : Between) (o : Valued) → walked shape.rules [] (state rows pending (waiting_for q)) (name_of o) ≡ state (settled_of rows pending) (Some (id_of o, [])) (option (id_of o))
  unfolding clap_on_literals
  name_walks nothing Scenario = refl
  name_walks nothing Workers = refl
  name_walks nothing Budget = refl
  name_walks files Scenario = refl
  name_walks files Workers = refl
  name_walks files Budget = refl

  pub name_fault : (q : Between) (o : Valued) → turn_fault shape [] (state rows pending (waiting_for q)) (name_of o) ≡ settle_fault shape.rules false (held rows pending)
  unfolding clap_on_literals
  name_fault nothing Scenario = or_nil _
  name_fault nothing Workers = or_nil _
  name_fault nothing Budget = or_nil _
  name_fault files Scenario = or_nil _
  name_fault files Workers = or_nil _
  name_fault files Budget = or_nil _

  pub joined_walks : (q : Between) (o : Valued) (v : List ℕ) → walked shape.rules [] (state rows pending (waiting_for q)) (name_of o ++ 61 ∷ v) ≡ state (used (rule_for o) (v ∷ []) (settled_of rows pending)) None idle
  unfolding clap_on_literals
  joined_walks nothing Scenario v = refl
  joined_walks nothing Workers v = refl
  joined_walks nothing Budget v = refl
  joined_walks files Scenario v = refl
  joined_walks files Workers v = refl
  joined_walks files Budget v = refl

  pub joined_fault : (q : Between) (o : Valued) (v : List ℕ) → turn_fault shape [] (state rows pending (waiting_for q)) (name_of o ++ 61 ∷ v) ≡ or_else (settle_fault shape.rules false (held rows pending)) (use_fault false (rule_for o) (v ∷ []) (settled_of rows pending))
  unfolding clap_on_literals
  joined_fault nothing Scenario v = or_nil _
  joined_fault nothing Workers v = or_nil _
  joined_fault nothing Budget v = or_nil _
  joined_fault files Scenario v = or_nil _
  joined_fault files Workers v = or_nil _
  joined_fault files Budget v = or_nil _

  pub trace_walks : (q : Between) → walked shape.rules [] (state rows pending (waiting_for q)) (codes "--trace") ≡ state (used trace_rule [] (settled_of rows pending)) None idle
  unfolding clap_on_literals
  trace_walks nothing = refl
  trace_walks files = refl

  pub trace_fault : (q : Between) → turn_fault shape [] (state rows pending (waiting_for q)) (codes "--trace") ≡ or_else (settle_fault shape.rules false (held rows pending)) (use_fault false trace_rule [] (settled_of rows pending))
  unfolding clap_on_literals
  trace_fault nothing = or_nil _
  trace_fault files = or_nil _

  pub file_walks : (q : Between) (b : ℕ) (bs : List ℕ) → eqb b 45 ≡ false → walked shape.rules [] (state rows pending (waiting_for q)) (b ∷ bs) ≡ state (settled_of rows pending) (Some (codes "files", (b ∷ bs) ∷ [])) positional
  unfolding clap_on_literals
  file_walks nothing b bs e = rw (e, e, and_false (is_pending files_rule pending)) refl
  file_walks files b bs e = rw (e, e, and_false (is_pending files_rule pending)) refl

  pub file_fault : (q : Between) (b : ℕ) (bs : List ℕ) → eqb b 45 ≡ false → turn_fault shape [] (state rows pending (waiting_for q)) (b ∷ bs) ≡ settle_fault shape.rules false (held rows pending)
  unfolding clap_on_literals
  file_fault nothing b bs e = rw (e, e, and_false (is_pending files_rule pending)) refl
  file_fault files b bs e = rw (e, e, and_false (is_pending files_rule pending)) refl

module _ (rows : List Row) where
  abbrev pub waits_for : Valued → Walk
  waits_for o = state rows (Some (id_of o, [])) (option (id_of o))

  pub value_walks : (o : Valued) (b : ℕ) (bs : List ℕ) → eqb b 45 ≡ false → walked shape.rules [] (waits_for o) (b ∷ bs) ≡ state rows (Some (id_of o, (b ∷ bs) ∷ [])) idle
  unfolding clap_on_literals
  value_walks Scenario b bs e = rw (e, e) refl
  value_walks Workers b bs e = rw (e, e) refl
  value_walks Budget b bs e = rw (e, e) refl

  pub value_fault : (o : Valued) (b : ℕ) (bs : List ℕ) → eqb b 45 ≡ false → turn_fault shape [] (waits_for o) (b ∷ bs) ≡ []
  unfolding clap_on_literals
  value_fault Scenario b bs e = rw (e, e) refl
  value_fault Workers b bs e = rw (e, e) refl
  value_fault Budget b bs e = rw (e, e) refl

  -- an option that waits for its value is refused
  pub waits_fault : (o : Valued) → settle_fault shape.rules false (held rows (Some (id_of o, []))) ≡ kind.InvalidValue ∷ []
  unfolding clap_on_literals
  waits_fault Scenario = refl
  waits_fault Workers = refl
  waits_fault Budget = refl

  pub waits_name_fault : (o p : Valued) → turn_fault shape [] (waits_for o) (name_of p) ≡ kind.InvalidValue ∷ []
  unfolding clap_on_literals
  waits_name_fault Scenario Scenario = refl
  waits_name_fault Scenario Workers = refl
  waits_name_fault Scenario Budget = refl
  waits_name_fault Workers Scenario = refl
  waits_name_fault Workers Workers = refl
  waits_name_fault Workers Budget = refl
  waits_name_fault Budget Scenario = refl
  waits_name_fault Budget Workers = refl
  waits_name_fault Budget Budget = refl

  pub waits_trace_fault : (o : Valued) → turn_fault shape [] (waits_for o) (codes "--trace") ≡ kind.InvalidValue ∷ []
  unfolding clap_on_literals
  waits_trace_fault Scenario = refl
  waits_trace_fault Workers = refl
  waits_trace_fault Budget = refl

  pub waits_joined_fault : (o p : Valued) (v : List ℕ) → turn_fault shape [] (waits_for o) (name_of p ++ 61 ∷ v) ≡ kind.InvalidValue ∷ []
  unfolding clap_on_literals
  waits_joined_fault Scenario Scenario v = refl
  waits_joined_fault Scenario Workers v = refl
  waits_joined_fault Scenario Budget v = refl
  waits_joined_fault Workers Scenario v = refl
  waits_joined_fault Workers Workers v = refl
  waits_joined_fault Workers Budget v = refl
  waits_joined_fault Budget Scenario v = refl
  waits_joined_fault Budget Workers v = refl
  waits_joined_fault Budget Budget v = refl

  -- what settling an option with its value, or a file, comes to
  pub value_settles : (o : Valued) (v : List ℕ) → settled_of rows (Some (id_of o, v ∷ [])) ≡ used (rule_for o) (v ∷ []) rows
  unfolding clap_on_literals
  value_settles Scenario v = refl
  value_settles Workers v = refl
  value_settles Budget v = refl

  pub value_settle_fault : (o : Valued) (v : List ℕ) → settle_fault shape.rules false (held rows (Some (id_of o, v ∷ []))) ≡ use_fault false (rule_for o) (v ∷ []) rows
  unfolding clap_on_literals
  value_settle_fault Scenario v = refl
  value_settle_fault Workers v = refl
  value_settle_fault Budget v = refl

  pub file_settles : (f : List ℕ) → settled_of rows (Some (codes "files", f ∷ [])) ≡ used files_rule (f ∷ []) rows
  unfolding clap_on_literals
  file_settles f = refl

  pub file_settle_fault : (f : List ℕ) → settle_fault shape.rules false (held rows (Some (codes "files", f ∷ []))) ≡ use_fault false files_rule (f ∷ []) rows
  unfolding clap_on_literals
  file_settle_fault f = refl

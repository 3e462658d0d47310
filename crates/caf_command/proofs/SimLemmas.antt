-- What clap makes of the words behind `run` is what their parts are.
use Rattle.std.proofs.Common.{◌≡◌, ℕ, Bool, true, false, eqb, List, [], ◌∷◌, ◌++◌, Option, Some, None, MatchOption, refl, ap, sym, subst, ◌∙◌, codes}
use Rattle.std.specs.Prelude.{option_map, is_some, fold, not, ◌&&◌}
use Rattle.std.specs.List.{list_all}
use Rattle.clap.specs.Walk.{Walk, Row, Rule, Text, idle, positional, walked, used, settled_rows}
use Rattle.clap.specs.Faults.{turn_fault, walk_fault, settle_fault, use_fault}
use Rattle.clap.specs.Kinds.{Kinds, or_else}
use Rattle.clap.specs.declared.error.kind.ErrorKind.{ErrorKind}
use Rattle.clap.specs.declared.error.kind.ErrorKind.TheVariants as kind
use Rattle.caf_command.specs.Words.{is_plain}
use Rattle.caf_command.specs.Options.{name_of}
use Rattle.caf_command.specs.Clap.{id_of}
use Rattle.caf_command.specs.Reading.{value_met, word_met, after, parts_from, is_known}
use Rattle.caf_command.specs.declared.options.Valued.{Valued}
use Rattle.caf_command.specs.Part.{Part}
use Rattle.caf_command.specs.Part as part
use Rattle.caf_command.specs.Met.{Met}
use Rattle.caf_command.specs.Met as word
use Rattle.caf_command.proofs.PartsLemmas.{KnownAs, known_as}
use Rattle.caf_command.proofs.ClapLemmas.{shape, rule_for, trace_rule, files_rule, state, held, settled_of, Between, nothing, files, waiting_for, waits_for, or_nil, name_walks, name_fault, joined_walks, joined_fault, trace_walks, trace_fault, file_walks, file_fault, value_walks, value_fault, waits_fault, waits_name_fault, waits_trace_fault, waits_joined_fault, value_settles, value_settle_fault, file_settles, file_settle_fault}

or_assoc : (a b c : Kinds) → or_else (or_else a b) c ≡ or_else a (or_else b c)
or_assoc [] b c = refl
or_assoc (k ∷ ks) b c = refl

or_second : (a b : Kinds) → or_else a b ≡ [] → b ≡ []
or_second [] b e = e
or_second (k ∷ ks) b e = absurd cc

abbrev pub rule_of_part : Part → Rule
rule_of_part (part.Value o v) = rule_for o
rule_of_part part.Trace = trace_rule
rule_of_part (part.File f) = files_rule

abbrev pub given_in : Part → List Text
given_in (part.Value o v) = v ∷ []
given_in part.Trace = []
given_in (part.File f) = f ∷ []

abbrev pub use_part : List Row → Part → List Row
use_part rows p = used (rule_of_part p) (given_in p) rows

abbrev pub part_fault : List Row → Part → Kinds
part_fault rows p = use_fault false (rule_of_part p) (given_in p) rows

abbrev pub uses : List Row → List Part → List Row
uses rows [] = rows
uses rows (p ∷ ps) = uses (use_part rows p) ps

abbrev pub uses_fault : List Row → List Part → Kinds
uses_fault rows [] = []
uses_fault rows (p ∷ ps) = or_else (part_fault rows p) (uses_fault (use_part rows p) ps)

abbrev pub end_of : Walk → List Text → Walk
end_of w words = fold (walked shape.rules []) w words

abbrev pub total : Walk → List Text → Kinds
total w words = or_else (walk_fault shape [] w words) (settle_fault shape.rules false (end_of w words).held)

abbrev pub Ends : Walk → List Text → Kinds → List Row → List Part → Type 0
Ends w words first rows ps = (total w words ≡ or_else first (uses_fault rows ps))
    × (settled_rows shape.rules (end_of w words).held.pending (end_of w words).held.rows ≡ uses rows ps)
    × ((end_of w words).stopped ≡ None)

abbrev pub Follows : Walk → List Text → Kinds → List Row → Option (List Part) → Type 0
Follows w words first rows parts = MatchOption parts (total w words ≡ [] → ⊥) (Ends w words first rows)

total_more : (w : Walk) (text : Text) (words : List Text) → total w (text ∷ words) ≡ or_else (turn_fault shape [] w text) (total (walked shape.rules [] w text) words)
unfolding walk_fault
total_more w text words = or_assoc (turn_fault shape [] w text) (walk_fault shape [] (walked shape.rules [] w text) words) _

step_follows : (w later : Walk) (text : Text) (words : List Text) (turn first : Kinds) (rows : List Row) (parts : Option (List Part))
    → walked shape.rules [] w text ≡ later → turn_fault shape [] w text ≡ turn → Follows later words first rows parts → Follows w (text ∷ words) (or_else turn first) rows parts
step_follows w later text words turn first rows None walks fault never =
    λ e. never (ap (λ x. total x words) (sym walks) ∙ or_second (turn_fault shape [] w text) (total (walked shape.rules [] w text) words) (sym (total_more w text words) ∙ e))
step_follows w later text words turn first rows (Some ps) walks fault h = (
  total_more w text words ∙ ap (λ k. or_else k (total (walked shape.rules [] w text) words)) fault
      ∙ ap (λ x. or_else turn (total x words)) walks ∙ ap (or_else turn) h.0 ∙ sym (or_assoc turn first (uses_fault rows ps)),
  ap (λ x. settled_rows shape.rules (end_of x words).held.pending (end_of x words).held.rows) walks ∙ h.1,
  ap (λ x. (end_of x words).stopped) walks ∙ h.2,
)

follows_part : (w : Walk) (words : List Text) (first : Kinds) (rows : List Row) (p : Part) (parts : Option (List Part))
    → Follows w words (or_else first (part_fault rows p)) (use_part rows p) parts → Follows w words first rows (option_map (λ ps. p ∷ ps) parts)
follows_part w words first rows p None h = h
follows_part w words first rows p (Some ps) h = (h.0 ∙ or_assoc first (part_fault rows p) (uses_fault (use_part rows p) ps), h.1, h.2)

abbrev pub Between-follows : List Text → Type 0
Between-follows words = (rows : List Row) (pending : Option (Text × List Text)) (q : Between)
    → Follows (state rows pending (waiting_for q)) words (settle_fault shape.rules false (held rows pending)) (settled_of rows pending) (parts_from words None)

abbrev pub Waits-follows : List Text → Type 0
Waits-follows words = (rows : List Row) (o : Valued) → Follows (waits_for rows o) words [] rows (parts_from words (Some o))

first-by : (head : Text) → is_plain head ≡ true → (P : Text → Type 0) → ((b : ℕ) (bs : List ℕ) → eqb b 45 ≡ false → P (b ∷ bs)) → P head
first-by [] plain P f = absurd cc
first-by (b ∷ bs) plain P f = f b bs (not-true (eqb b 45) plain)
  where
    not-true : (t : Bool) → not t ≡ true → t ≡ false
    not-true true e = absurd cc
    not-true false e = refl

module _ (words : List Text) (between : Between-follows words) (waits : Waits-follows words) where
  same-parts : (w : Walk) (text : Text) (first : Kinds) (rows : List Row) (m : Option Met) → word_met None text ≡ m
      → Follows w (text ∷ words) first rows (after m (parts_from words)) → Follows w (text ∷ words) first rows (parts_from (text ∷ words) None)
  same-parts w text first rows m e h = subst (λ x. Follows w (text ∷ words) first rows (after x (parts_from words))) (sym e) h

  between-step : (rows : List Row) (pending : Option (Text × List Text)) (q : Between) (text : Text) (m : Met) → KnownAs m text
      → Follows (state rows pending (waiting_for q)) (text ∷ words) (settle_fault shape.rules false (held rows pending)) (settled_of rows pending) (after (Some m) (parts_from words))
  between-step rows pending q text (word.Opening o) is =
      let settle = settle_fault shape.rules false (held rows pending) in
      rw is (subst (λ k. Follows (state rows pending (waiting_for q)) (name_of o ∷ words) k (settled_of rows pending) (parts_from words (Some o))) (or_nil settle)
      (step_follows _ _ (name_of o) words settle [] (settled_of rows pending) (parts_from words (Some o)) (name_walks rows pending q o) (name_fault rows pending q o) (waits (settled_of rows pending) o)))
  between-step rows pending q text (word.Part (part.Value o v)) is =
      let settle = settle_fault shape.rules false (held rows pending) in
      let p = part.Value o v in
      let S = settled_of rows pending in
      rw is.1 (follows_part _ _ settle S p (parts_from words None)
      (subst (λ k. Follows (state rows pending (waiting_for q)) ((name_of o ++ 61 ∷ v) ∷ words) k (use_part S p) (parts_from words None)) (or_nil (or_else settle (part_fault S p)))
      (step_follows _ _ (name_of o ++ 61 ∷ v) words (or_else settle (part_fault S p)) [] (use_part S p) (parts_from words None) (joined_walks rows pending q o v) (joined_fault rows pending q o v) (between (use_part S p) None nothing))))
  between-step rows pending q text (word.Part part.Trace) is =
      let settle = settle_fault shape.rules false (held rows pending) in
      let S = settled_of rows pending in
      rw is (follows_part _ _ settle S part.Trace (parts_from words None)
      (subst (λ k. Follows (state rows pending (waiting_for q)) (codes "--trace" ∷ words) k (use_part S part.Trace) (parts_from words None)) (or_nil (or_else settle (part_fault S part.Trace)))
      (step_follows _ _ (codes "--trace") words (or_else settle (part_fault S part.Trace)) [] (use_part S part.Trace) (parts_from words None) (trace_walks rows pending q) (trace_fault rows pending q) (between (use_part S part.Trace) None nothing))))
  between-step rows pending q text (word.Part (part.File f)) is =
      let settle = settle_fault shape.rules false (held rows pending) in
      let S = settled_of rows pending in
      rw is.1 (first-by f is.0 (λ g. Follows (state rows pending (waiting_for q)) (g ∷ words) settle S (option_map (λ ps. part.File g ∷ ps) (parts_from words None)))
      (λ b bs e. follows_part _ _ settle S (part.File (b ∷ bs)) (parts_from words None)
      (step_follows _ _ (b ∷ bs) words settle (part_fault S (part.File (b ∷ bs))) (use_part S (part.File (b ∷ bs))) (parts_from words None) (file_walks rows pending q b bs e) (file_fault rows pending q b bs e)
      (subst (λ k. Follows (state S (Some (codes "files", (b ∷ bs) ∷ [])) positional) words k (use_part S (part.File (b ∷ bs))) (parts_from words None)) (file_settle_fault S (b ∷ bs))
      (subst (λ r. Follows (state S (Some (codes "files", (b ∷ bs) ∷ [])) positional) words (settle_fault shape.rules false (held S (Some (codes "files", (b ∷ bs) ∷ [])))) r (parts_from words None)) (file_settles S (b ∷ bs))
      (between S (Some (codes "files", (b ∷ bs) ∷ [])) files))))))

  waits-value : (rows : List Row) (o : Valued) (b : ℕ) (bs : List ℕ) → eqb b 45 ≡ false
      → Follows (waits_for rows o) ((b ∷ bs) ∷ words) [] rows (after (value_met o (b ∷ bs)) (parts_from words))
  waits-value rows o b bs e =
      let v = b ∷ bs in
      let p = part.Value o v in
      let met : value_met o v ≡ Some (word.Part p) = rw e refl in
      subst (λ x. Follows (waits_for rows o) (v ∷ words) [] rows (after x (parts_from words))) (sym met)
      (follows_part _ _ [] rows p (parts_from words None)
      (step_follows _ _ v words [] (part_fault rows p) (use_part rows p) (parts_from words None) (value_walks rows o b bs e) (value_fault rows o b bs e)
      (subst (λ k. Follows (state rows (Some (id_of o, v ∷ [])) idle) words k (use_part rows p) (parts_from words None)) (value_settle_fault rows o v)
      (subst (λ r. Follows (state rows (Some (id_of o, v ∷ [])) idle) words (settle_fault shape.rules false (held rows (Some (id_of o, v ∷ [])))) r (parts_from words None)) (value_settles rows o v)
      (between rows (Some (id_of o, v ∷ [])) nothing)))))

  waits-refuses : (rows : List Row) (o : Valued) (text : Text) → turn_fault shape [] (waits_for rows o) text ≡ kind.InvalidValue ∷ [] → total (waits_for rows o) (text ∷ words) ≡ [] → ⊥
  waits-refuses rows o text fault e =
      let none : or_else (kind.InvalidValue ∷ []) (total (walked shape.rules [] (waits_for rows o) text) words) ≡ [] =
      ap (λ k. or_else k (total (walked shape.rules [] (waits_for rows o) text) words)) (sym fault) ∙ sym (total_more (waits_for rows o) text words) ∙ e in
      absurd cc

  waits-dash : (rows : List Row) (o : Valued) (text : Text) (m : Met) → is_plain text ≡ false → KnownAs m text → total (waits_for rows o) (text ∷ words) ≡ [] → ⊥
  waits-dash rows o text (word.Opening p) dash is = waits-refuses rows o text (rw is (waits_name_fault rows o p))
  waits-dash rows o text (word.Part (part.Value p v)) dash is = waits-refuses rows o text (rw is.1 (waits_joined_fault rows o p v))
  waits-dash rows o text (word.Part part.Trace) dash is = waits-refuses rows o text (rw is (waits_trace_fault rows o))
  waits-dash rows o text (word.Part (part.File f)) dash is = absurd (let plain = is.0 in let same = ap is_plain is.1 in cc)

  waits-step : (rows : List Row) (o : Valued) (text : Text) (m : Met) → word_met None text ≡ Some m
      → Follows (waits_for rows o) (text ∷ words) [] rows (after (value_met o text) (parts_from words))
  waits-step rows o text m known =
      elim (is_plain text) as (λ t. is_plain text ≡ t → Follows (waits_for rows o) (text ∷ words) [] rows (after (value_met o text) (parts_from words))) [
        | true ↦ λ plain. first-by text plain (λ g. Follows (waits_for rows o) (g ∷ words) [] rows (after (value_met o g) (parts_from words))) (λ b bs e. waits-value rows o b bs e)
        | false ↦ λ dash.
            let met : value_met o text ≡ None = rw dash refl in
            subst (λ x. Follows (waits_for rows o) (text ∷ words) [] rows (after x (parts_from words))) (sym met) (waits-dash rows o text m dash (known_as text m known))
      ] refl

one-is-some : (ks : Kinds) (k : ErrorKind) → ks ≡ k ∷ [] → ks ≡ [] → ⊥
one-is-some ks k one none = absurd cc

known-met : (text : Text) → is_known text ≡ true → (m : Met) × (word_met None text ≡ Some m)
known-met text e = go (word_met None text) refl e
  where
    go : (o : Option Met) → word_met None text ≡ o → is_some o ≡ true → (m : Met) × (word_met None text ≡ Some m)
    go None is t = absurd cc
    go (Some m) is t = (m, is)

both-true : (a b : Bool) → (a && b) ≡ true → (a ≡ true) × (b ≡ true)
both-true true true e = (refl, refl)
both-true true false e = absurd cc
both-true false b e = absurd cc

pub follows : (words : List Text) → list_all is_known words ≡ true → Between-follows words × Waits-follows words
unfolding walk_fault
follows [] known = (
  λ rows pending q. (sym (or_nil _), refl, refl),
  λ rows o e. one-is-some _ kind.InvalidValue (waits_fault rows o) e,
)
follows (text ∷ words) known =
    let both = both-true (is_known text) (list_all is_known words) known in
    let ih = follows words both.1 in
    let met = known-met text both.0 in (
      λ rows pending q. same-parts words ih.0 ih.1 (state rows pending (waiting_for q)) text (settle_fault shape.rules false (held rows pending)) (settled_of rows pending) (Some met.0) met.1
          (between-step words ih.0 ih.1 rows pending q text met.0 (known_as text met.0 met.1)),
      λ rows o. waits-step words ih.0 ih.1 rows o text met.0 met.1,
    )

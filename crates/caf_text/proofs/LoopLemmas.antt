-- Reading values one after the other, as a loop does.
use Rattle.std.proofs.Common.{◌≡◌, ℕ, suc, ◌-◌, ◌+◌, ◌<◌, true, false, List, [], ◌∷◌, ◌++◌, length, drop, get_or, Ok, Err, refl, sym, ap, ◌∙◌, arith}
use Rattle.std.proofs.lemmas.List.{drop_more}
use Rattle.caf_types.specs.ShapeTree.{ShapeTree}
use Rattle.caf_types.specs.Shape.{parts, tree, field_view, tree_step, field_step}
use Rattle.caf_types.specs.declared.shape.Shape.TheFolds.{fold_out-Field}
use Rattle.caf_types.specs.declared.shape.Field.{Field}
use Rattle.caf_words.specs.Datum.{Datum, Data, no_data, more, front_of, data_of}
use Rattle.caf_words.specs.Reading.{Got, ◌>>=◌, then_more}
use Rattle.caf_words.specs.Answer.{Fails}
use Rattle.caf_text.specs.TextForm.{comma}
use Rattle.caf_text.specs.TextReading.{literal, separator, after_value, values, reading, field_at, fields_at}
use Rattle.caf_words.specs.declared.stop.Stop.{Stop}
use Rattle.caf_words.specs.declared.stop.Stop.TheVariants as stops

front_more : (front : List Datum) (d : Datum) (ds : Data) → front_of (front ++ d ∷ []) ds ≡ front_of front (more d ds)
front_more [] d ds = refl
front_more (e ∷ front) d ds = ap (more e) (front_more front d ds)

-- what was read before, and what is still read
abbrev pub with_front : List Datum → Got Data → Got Data
with_front front read = read >>= λ x. Ok (front_of front x.0, x.1)

regroup : (front : List Datum) (d : Datum) (read : Got Data) → with_front front (read >>= λ y. Ok (more d y.0, y.1)) ≡ with_front (front ++ d ∷ []) read
regroup front d (Ok y) = ap (λ ds. Ok (ds, y.1)) (sym (front_more front d y.0))
regroup front d (Err e) = refl

-- ---- lists

abbrev pub round : (List ℕ → Got Datum) → (List ℕ → Got Data) → List ℕ → Got Data
round one others cs = one cs >>= λ x. separator x.1 >>= λ s. after_value others x.0 s.0 s.1

pub round_more : (one : List ℕ → Got Datum) (n i : ℕ) (cs : List ℕ) → i < n → values one (n - i) cs ≡ round one (values one (n - (i + 1))) cs
round_more one n i cs lt = let k : n - i ≡ suc (n - (i + 1)) = omega arith in rw k refl

pub round_on : (front : List Datum) (one : List ℕ → Got Datum) (others : List ℕ → Got Data) (d : Datum) (cs rest after : List ℕ) (total : Got Data)
    → one cs ≡ Ok (d, rest) → separator rest ≡ Ok (false, after) → with_front front (round one others cs) ≡ total → with_front (front ++ d ∷ []) (others after) ≡ total
round_on front one others d cs rest after total e s so_far = sym (regroup front d (others after)) ∙ (rw (e, s) at so_far)

pub round_last : (front : List Datum) (one : List ℕ → Got Datum) (others : List ℕ → Got Data) (d : Datum) (cs rest after : List ℕ) (total : Got Data)
    → one cs ≡ Ok (d, rest) → separator rest ≡ Ok (true, after) → with_front front (round one others cs) ≡ total → total ≡ Ok (data_of (front ++ d ∷ []), after)
round_last front one others d cs rest after total e s so_far =
    sym so_far ∙ rw (e, s) (ap (λ ds. Ok (ds, after)) (sym (front_more front d no_data)))

pub round_stops : (e : Stop) (front : List Datum) (one : List ℕ → Got Datum) (others : List ℕ → Got Data) (cs : List ℕ) (total : Got Data)
    → Fails e (one cs) → with_front front (round one others cs) ≡ total → Fails e total
round_stops stops.Memory front one others cs total h so_far = tt
round_stops (stops.Left n) front one others cs total h so_far = sym so_far ∙ rw h refl

pub round_stops_behind : (e : Stop) (front : List Datum) (one : List ℕ → Got Datum) (others : List ℕ → Got Data) (d : Datum) (cs rest : List ℕ) (total : Got Data)
    → one cs ≡ Ok (d, rest) → Fails e (separator rest) → with_front front (round one others cs) ≡ total → Fails e total
round_stops_behind stops.Memory front one others d cs rest total is h so_far = tt
round_stops_behind (stops.Left n) front one others d cs rest total is h so_far = sym so_far ∙ rw (is, h) refl

-- ---- fields

pub goes_on : (front : List Datum) (one : Got Datum) (others : List ℕ → Got Data) (d : Datum) (rest : List ℕ) (total : Got Data)
    → one ≡ Ok (d, rest) → with_front front (then_more one others) ≡ total → with_front (front ++ d ∷ []) (others rest) ≡ total
goes_on front one others d rest total e so_far = sym (regroup front d (others rest)) ∙ (rw e at so_far)

field_is : (f : Field) → field_view f ≡ (f.name, tree f.shape)
field_is f = fold_out-Field ShapeTree (List ℕ × ShapeTree) tree_step field_step f

pub fields_more : (fs : List Field) (i : ℕ) (f : Field) (before cs : List ℕ) → i < length fs → f ≡ get_or fs i f
    → fields_at (parts (drop i fs)) before cs ≡ then_more (field_at before f.name (reading (tree f.shape)) cs) (fields_at (parts (drop (i + 1) fs)) comma)
fields_more fs i f before cs lt is =
    let e : drop i fs ≡ f ∷ drop (i + 1) fs = drop_more fs i f lt ∙ ap (λ (g : Field). g ∷ drop (i + 1) fs) (sym is) in
    ap (λ (gs : List Field). fields_at (parts gs) before cs) e
    ∙ ap (λ (p : List ℕ × ShapeTree). then_more (field_at before p.0 (reading p.1) cs) (fields_at (parts (drop (i + 1) fs)) comma)) (field_is f)

-- ---- literals

pub literal_short : (xs rest : List ℕ) (i : ℕ) (total : Got (Unit {0})) → i < length xs → length rest < 1 → literal (drop i xs) rest ≡ total → total ≡ Err 0
literal_short xs [] i total lt none so_far = sym so_far ∙ ap (λ ys. literal ys []) (drop_more xs i (get_or xs i 0) lt)
literal_short xs (c ∷ rest) i total lt none so_far = absurd (omega arith)

-- Telling and taking the values of lists and objects one after the other.
use Rattle.std.proofs.Common.{◌≡◌, ℕ, ◌+◌, ◌<◌, ◌≤◌, true, List, [], ◌∷◌, ◌++◌, map, length, drop, get_or, Some, None, is_some, refl, sym, ap, subst, ◌∙◌, arith}
use Rattle.std.proofs.lemmas.List.{drop_more, drop_all}
use Rattle.caf_types.specs.ShapeTree.{ShapeTree, list, count_parts}
use Rattle.caf_types.specs.Shape.{tree, parts, field_view, tree_step, field_step}
use Rattle.caf_types.specs.declared.shape.Field.{Field}
use Rattle.caf_types.specs.declared.shape.Shape.TheFolds.{fold_out-Field}
use Rattle.caf_words.specs.Datum.{Datum, Data, more, a_list, data_of, count}
use Rattle.caf_words.specs.Value.{datum}
use Rattle.caf_words.specs.declared.value.Value.{Value}
use Rattle.caf_events.specs.Event as event
use Rattle.caf_events.specs.Event.{Event, events, part_events}
use Rattle.caf_events.specs.Taking.{Took, ◌>>=◌, next, field_in, list_in, then_more, many, taking, taking_parts}
use Rattle.caf_events.proofs.LoopLemmas.{with_front, goes_on}

pub count_values : (vs : List Value) → count (data_of (map datum vs)) ≡ length vs
count_values [] = refl
count_values (v ∷ vs) = omega (arith, count_values vs)

pub count_fields : (fs : List Field) → count_parts (parts fs) ≡ length fs
count_fields [] = refl
count_fields (f ∷ fs) = omega (arith, count_fields fs)

-- the field at i and its value come before the others
pub part_more : (fs : List Field) (vs : List Value) (i : ℕ) (f : Field) (v : Value) → i < length fs → f ≡ get_or fs i f → i < length vs → v ≡ get_or vs i v
    → part_events (parts (drop i fs)) (data_of (map datum (drop i vs)))
    ≡ event.field f.name ∷ (events (tree f.shape) (datum v) ++ part_events (parts (drop (i + 1) fs)) (data_of (map datum (drop (i + 1) vs))))
part_more fs vs i f v lt is lt_value is_value =
    ap (λ gs. part_events (parts gs) (data_of (map datum (drop i vs)))) (drop_more fs i f lt ∙ ap (λ x. x ∷ drop (i + 1) fs) (sym is))
    ∙ ap (λ ws. part_events (parts (f ∷ drop (i + 1) fs)) (data_of (map datum ws))) (drop_more vs i v lt_value ∙ ap (λ x. x ∷ drop (i + 1) vs) (sym is_value))
    ∙ ap (λ (p : List ℕ × ShapeTree). event.field p.0 ∷ (events p.1 (datum v) ++ part_events (parts (drop (i + 1) fs)) (data_of (map datum (drop (i + 1) vs))))) (fold_out-Field ShapeTree (List ℕ × ShapeTree) tree_step field_step f)

pub parts_done : (fs : List Field) (vs : List Value) (i : ℕ) → length fs ≤ i → part_events (parts (drop i fs)) (data_of (map datum (drop i vs))) ≡ []
parts_done fs vs i le = ap (λ gs. part_events (parts gs) (data_of (map datum (drop i vs)))) (drop_all i fs le)

none_behind : (fs : List Field) → part_events (parts fs) (data_of []) ≡ []
none_behind [] = refl
none_behind (f ∷ fs) = refl

pub values_done : (fs : List Field) (vs : List Value) (i : ℕ) → length vs ≤ i → part_events (parts (drop i fs)) (data_of (map datum (drop i vs))) ≡ []
values_done fs vs i le = ap (λ ws. part_events (parts (drop i fs)) (data_of (map datum ws))) (drop_all i vs le) ∙ none_behind (drop i fs)

-- taking the field at i and its value, and then the others
pub taking_more : (fs : List Field) (i : ℕ) (f : Field) (es : List Event) → i < length fs → f ≡ get_or fs i f
    → taking_parts (parts (drop i fs)) es ≡ (next (field_in f.name) es >>= λ _ es. then_more (taking (tree f.shape)) (taking_parts (parts (drop (i + 1) fs))) es)
taking_more fs i f es lt is =
    ap (λ gs. taking_parts (parts gs) es) (drop_more fs i f lt ∙ ap (λ x. x ∷ drop (i + 1) fs) (sym is))
    ∙ ap (λ (p : List ℕ × ShapeTree). next (field_in p.0) es >>= λ _ es. then_more (taking p.1) (taking_parts (parts (drop (i + 1) fs))) es) (fold_out-Field ShapeTree (List ℕ × ShapeTree) tree_step field_step f)

-- taking a list by its length and its values
pub list_taken : (f : ShapeTree) (n : ℕ) (ds : Data) (es fs rest : List Event) → next list_in es ≡ Some (n, fs) → many (taking f) n fs ≡ Some (ds, rest) → taking (list f) es ≡ Some (a_list ds, rest)
list_taken f n ds es fs rest p q = rw (p, q) refl

-- the field was taken, and its value; the others come next
pub field_goes_on : (front : List Datum) (one : List Event → Took Datum) (others : List Event → Took Data) (name : List ℕ) (d : Datum) (es fs rest : List Event) (total : Took Data)
    → next (field_in name) es ≡ Some (tt, fs) → one fs ≡ Some (d, rest) → with_front front (next (field_in name) es >>= λ _ es. then_more one others es) ≡ total → with_front (front ++ d ∷ []) (others rest) ≡ total
field_goes_on front one others name d es fs rest total p e so_far = goes_on front one others d fs rest total e (rw p at so_far)

-- Lengths of lists of parts and values.
use Rattle.std.proofs.Common.{◌≡◌, Ok, Err, eq-eqb, ℕ, zero, suc, ◌+◌, ◌≤◌, false, eqb, List, [], ◌∷◌, length, map, drop, refl, sym, ap, ◌∙◌, arith, get_or, ◌<◌}
use Rattle.std.proofs.lemmas.List.{drop_all, drop_more}
use Rattle.std.proofs.lemmas.Bool.Decides.{nat_tests}
use Rattle.std.proofs.lemmas.Bool.{ne_eqb}
use Rattle.caf_types.specs.Shape.{parts, tree, field_view, tree_step, field_step}
use Rattle.caf_types.specs.ShapeTree.{ShapeTree, no_parts, count_parts}
use Rattle.caf_types.specs.declared.shape.Shape.TheFolds.{fold_out-Field}
use Rattle.caf_types.specs.declared.shape.Field.{Field}
use Rattle.caf_types.specs.declared.shape.Shape.{Shape}
use Rattle.caf_words.specs.Datum.{Datum, count, data_of, is_none, each_fits, an_object}
use Rattle.caf_words.specs.Reading.{◌>>=◌, first_of, object_at, reading, each_reading, then_more}
use Rattle.caf_words.specs.Several.{several}
use Rattle.caf_words.specs.Value.{datum}
use Rattle.caf_words.specs.declared.value.Value.{Value}

pub count_fields : (fs : List Field) → count_parts (parts fs) ≡ length fs
count_fields [] = refl
count_fields (f ∷ fs) = omega (arith, count_fields fs)

suc-not_zero : (n : ℕ) → eqb (suc n) 0 ≡ false
suc-not_zero n = grind (arith, nat_tests)

suc_both : (n m : ℕ) → eqb (suc n) (suc m) ≡ eqb n m
suc_both n m = grind (arith, nat_tests)

pub none_left : (n : ℕ) (vs : List Value) → n ≤ length vs → is_none (data_of (map datum (drop n vs))) ≡ eqb (length vs) n
none_left zero [] h = refl
none_left zero (v ∷ vs) h = sym (suc-not_zero (length vs))
none_left (suc n) [] h = absurd (omega arith)
none_left (suc n) (v ∷ vs) h = none_left n vs (omega arith) ∙ sym (suc_both (length vs) n)

pub fits_at_end : (fs : List Field) (vs : List Value) (n : ℕ) → length fs ≤ n → n ≤ length vs → each_fits (parts (drop n fs)) (data_of (map datum (drop n vs))) ≡ eqb (length vs) n
fits_at_end fs vs n done within =
    let e : parts (drop n fs) ≡ no_parts = ap parts (drop_all n fs done) in
    rw e (none_left n vs within)

-- an object, once its number of fields was read
pub object_wrong : (fs : List Field) (ws rest : List ℕ) (w : ℕ) → first_of ws ≡ Ok (w, rest) → (w ≡ length fs → ⊥) → object_at (count_parts (parts fs)) (each_reading (parts fs)) ws ≡ Err (length ws)
object_wrong fs ws rest w first other = rw (first, count_fields fs, ne_eqb w (length fs) other) refl

pub object_right : (fs : List Field) (ws rest : List ℕ) (w : ℕ) → first_of ws ≡ Ok (w, rest) → w ≡ length fs → object_at (count_parts (parts fs)) (each_reading (parts fs)) ws ≡ (each_reading (parts fs) rest >>= λ x. Ok (an_object x.0, x.1))
object_right fs ws rest w first same = rw (first, count_fields fs, eq-eqb w (length fs) same) refl

pub field_is : (f : Field) → (field_view f).1 ≡ tree f.shape
field_is f = ap (λ (p : List ℕ × ShapeTree). p.1) (fold_out-Field ShapeTree (List ℕ × ShapeTree) tree_step field_step f)

pub shapes_more : (shapes : List Shape) (i : ℕ) (shape : Shape) (ws : List ℕ) → i < length shapes → shape ≡ get_or shapes i shape → several (map tree (drop i shapes)) ws ≡ then_more (reading (tree shape) ws) (several (map tree (drop (i + 1) shapes)))
shapes_more shapes i shape ws lt is =
    let e : drop i shapes ≡ shape ∷ drop (i + 1) shapes = drop_more shapes i shape lt ∙ ap (λ (other : Shape). other ∷ drop (i + 1) shapes) (sym is) in
    ap (λ (others : List Shape). several (map tree others) ws) e

pub fields_more : (fs : List Field) (i : ℕ) (f : Field) (ws : List ℕ) → i < length fs → f ≡ get_or fs i f → each_reading (parts (drop i fs)) ws ≡ then_more (reading (tree f.shape) ws) (each_reading (parts (drop (i + 1) fs)))
fields_more fs i f ws lt is =
    let e : drop i fs ≡ f ∷ drop (i + 1) fs = drop_more fs i f lt ∙ ap (λ (g : Field). g ∷ drop (i + 1) fs) (sym is) in
    ap (λ (gs : List Field). each_reading (parts gs) ws) e
    ∙ ap (λ (g : ShapeTree). then_more (reading g ws) (each_reading (parts (drop (i + 1) fs)))) (field_is f)

pub count_of : {A : Type 0} (means : A → Datum) (xs : List A) → count (data_of (map means xs)) ≡ length xs
count_of means [] = refl
count_of means (x ∷ xs) = omega (arith, count_of means xs)

pub count_values : (vs : List Value) → count (data_of (map datum vs)) ≡ length vs
count_values vs = count_of datum vs

-- Reading the parts of a value one after the other, as a loop does.
use Rattle.std.proofs.Common.{◌≡◌, ℕ, ◌+◌, ◌<◌, List, [], ◌∷◌, ◌++◌, drop, get_or, length, Ok, Err, refl, sym, ap, ◌∙◌}
use Rattle.caf_types.specs.ShapeTree.{ShapeTree}
use Rattle.caf_types.specs.Shape.{tree, parts, field_view, tree_step, field_step}
use Rattle.caf_types.specs.declared.shape.Field.{Field}
use Rattle.caf_types.specs.declared.shape.Shape.TheFolds.{fold_out-Field}
use Rattle.serde_json.specs.Data.{Data as Json}
use Rattle.serde_json.specs.View.{view, items_view}
use Rattle.serde_json.specs.Find.{get}
use Rattle.serde_json.specs.declared.value.Value.{Value}
use Rattle.std.proofs.lemmas.List.{drop_more}
use Rattle.caf_words.specs.Datum.{Datum, Data, more, front_of}
use Rattle.caf_json.specs.Reading.{Read, ◌>>=◌, then_more, inside, each_read, member_read, parts_read, unjson}
use Rattle.caf_json.specs.Answer.{Fails}
use Rattle.caf_events.specs.declared.fault.LoadFault.{LoadFault}
use Rattle.caf_events.specs.declared.fault.LoadFault.TheVariants as faults

abbrev pub with_front : List Datum → Read Data → Read Data
with_front front read = read >>= λ ds. Ok (front_of front ds)

front_more : (front : List Datum) (d : Datum) (ds : Data) → front_of (front ++ d ∷ []) ds ≡ front_of front (more d ds)
front_more [] d ds = refl
front_more (e ∷ front) d ds = ap (more e) (front_more front d ds)

regroup : (front : List Datum) (d : Datum) (read : Read Data) → with_front front (read >>= λ ds. Ok (more d ds)) ≡ with_front (front ++ d ∷ []) read
regroup front d (Ok y) = ap Ok (sym (front_more front d y))
regroup front d (Err e) = refl

pub goes_on : (front : List Datum) (one : Read Datum) (others : Read Data) (d : Datum) (total : Read Data)
    → one ≡ Ok d → with_front front (then_more one others) ≡ total → with_front (front ++ d ∷ []) others ≡ total
goes_on front one others d total e so_far = sym (regroup front d others) ∙ (rw e at so_far)

pub ends : (e : LoadFault) (front : List Datum) (one : Read Datum) (others total : Read Data) → Fails e one → with_front front (then_more one others) ≡ total → Fails e total
ends faults.Memory front one others total h so_far = tt
ends (faults.Unfit p) front one others total h so_far = sym so_far ∙ rw h refl

pub items_more : (one : Json → Read Datum) (n : ℕ) (items : List Value) (i : ℕ) (it : Value) → i < length items → it ≡ get_or items i it
    → each_read one n (items_view (drop i items)) ≡ then_more (inside n (one (view it))) (each_read one (n + 1) (items_view (drop (i + 1) items)))
items_more one n items i it lt is = ap (λ xs. each_read one n (items_view xs)) (drop_more items i it lt ∙ ap (λ x. x ∷ drop (i + 1) items) (sym is))

field_name : (f : Field) → (field_view f).0 ≡ f.name
field_name f = ap (λ (p : List ℕ × ShapeTree). p.0) (fold_out-Field ShapeTree (List ℕ × ShapeTree) tree_step field_step f)

field_shape : (f : Field) → (field_view f).1 ≡ tree f.shape
field_shape f = ap (λ (p : List ℕ × ShapeTree). p.1) (fold_out-Field ShapeTree (List ℕ × ShapeTree) tree_step field_step f)

pub fields_more : (fs : List Field) (i n : ℕ) (f : Field) (d : Json) → i < length fs → f ≡ get_or fs i f
    → parts_read (parts (drop i fs)) n d ≡ then_more (inside n (member_read (unjson (tree f.shape)) (get f.name d))) (parts_read (parts (drop (i + 1) fs)) (n + 1) d)
fields_more fs i n f d lt is =
    ap (λ gs. parts_read (parts gs) n d) (drop_more fs i f lt ∙ ap (λ x. x ∷ drop (i + 1) fs) (sym is))
    ∙ ap (λ (p : List ℕ × ShapeTree). then_more (inside n (member_read (unjson p.1) (get p.0 d))) (parts_read (parts (drop (i + 1) fs)) (n + 1) d)) (fold_out-Field ShapeTree (List ℕ × ShapeTree) tree_step field_step f)

-- Values of types, and their text.
use Rattle.std.proofs.Common.{◌≡◌, ℕ, zero, suc, ◌+◌, ◌<◌, ◌≤◌, true, false, Bool, List, [], ◌∷◌, ◌++◌, length, map, drop, get_or, Option, Some, None, refl, sym, ap, subst, ◌∙◌, arith, append_assoc}
use Rattle.std.specs.Prelude.{◌&&◌}
use Rattle.std.proofs.lemmas.List.{drop_more}
use Rattle.caf_types.specs.ShapeTree.{ShapeTree}
use Rattle.caf_types.specs.Table.{Table, shape_at}
use Rattle.caf_types.specs.declared.shape.TypeId.{TypeId}
use Rattle.caf_words.specs.Datum.{Data, data_of, fits}
use Rattle.caf_words.specs.Several.{ids_of, joined, several_fit, shapes_at, ShapesSpell, TypesSpell}
use Rattle.caf_words.specs.Value.{datum}
use Rattle.caf_words.specs.declared.value.Value.{Value}
use Rattle.caf_words.proofs.SeveralLemmas.{several_kept, whole_again}
use Rattle.caf_report.specs.Values.{AreOfShapes, AreOfTypes, IsOfShape, form_at, forms, forms_read, values_text}

abbrev pub plain : List Value → Data
plain values = data_of (map datum values)

-- ---- what was read

of_shapes : (o : Option (List ShapeTree)) (ds : Data) (words : List ℕ) → ShapesSpell o ds words → AreOfShapes o ds
of_shapes None ds words s = s
of_shapes (Some fs) ds words s = (several_kept fs ds words s).fits

pub of_types : (t : Table) (ids : List ℕ) (ds : Data) (words : List ℕ) → TypesSpell t ids ds words → AreOfTypes t ids ds
of_types t ids ds words s = of_shapes (shapes_at t ids) ds words s

pub text_read : (t : Table) (ids : List ℕ) (ds : Data) (words : List ℕ) → TypesSpell t ids ds words → values_text t ids words ≡ forms t ids ds
text_read t ids ds words s = ap (forms_read t ids) (whole_again t ids words ds s)

-- ---- the first of some values

and_left : (a b : Bool) → (a && b) ≡ true → a ≡ true
and_left true b e = refl
and_left false b e = absurd cc

and_right : (a b : Bool) → (a && b) ≡ true → b ≡ true
and_right true b e = e
and_right false b e = absurd cc

pub some_value : (o : Option ShapeTree) (p : Option (List ShapeTree)) (vs : List Value) → AreOfShapes (joined o p) (plain vs) → 0 < length vs
some_value None p vs h = absurd h
some_value (Some f) None vs h = absurd h
some_value (Some f) (Some fs) [] h = absurd cc
some_value (Some f) (Some fs) (v ∷ vs) h = omega arith

pub first_value : (o : Option ShapeTree) (p : Option (List ShapeTree)) (v : Value) (vs : List Value) → AreOfShapes (joined o p) (plain (v ∷ vs)) → IsOfShape o (datum v) × AreOfShapes p (plain vs)
first_value None p v vs h = absurd h
first_value (Some f) None v vs h = absurd h
first_value (Some f) (Some fs) v vs h = (and_left (fits f (datum v)) (several_fit fs (plain vs)) h, and_right (fits f (datum v)) (several_fit fs (plain vs)) h)

is_within : {A : Type 0} (i : ℕ) (xs : List A) → 0 < length (drop i xs) → i < length xs
is_within zero xs h = h
is_within (suc i) [] h = absurd (omega (arith, h))
is_within (suc i) (x ∷ xs) h = let r = is_within i xs h in omega (arith, r)

-- there are as many values as types
pub as_many : (t : Table) (types : List TypeId) (values : List Value) → AreOfTypes t (ids_of types) (plain values) → length types ≤ length values
as_many t [] values h = omega arith
as_many t (x ∷ xs) [] h =
    let some = some_value (shape_at t x.0) (shapes_at t (ids_of xs)) [] h in
    absurd (omega (arith, some))
as_many t (x ∷ xs) (v ∷ vs) h =
    let r = as_many t xs vs (first_value (shape_at t x.0) (shapes_at t (ids_of xs)) v vs h).1 in
    omega (arith, r)

-- ---- the loop over the types

module _ (t : Table) (types : List TypeId) (values : List Value) (i : ℕ) (d : TypeId) where
  abbrev id : ℕ
  id = (get_or types i d).0

  next_types : i < length types → AreOfTypes t (ids_of (drop i types)) (plain (drop i values)) → AreOfShapes (joined (shape_at t id) (shapes_at t (ids_of (drop (i + 1) types)))) (plain (drop i values))
  next_types lt h = subst (λ (xs : List TypeId). AreOfTypes t (ids_of xs) (plain (drop i values))) (drop_more types i d lt) h

  pub as_far : i < length types → AreOfTypes t (ids_of (drop i types)) (plain (drop i values)) → i < length values
  as_far lt h = is_within i values (some_value (shape_at t id) (shapes_at t (ids_of (drop (i + 1) types))) (drop i values) (next_types lt h))

  pub next_fits : (v : Value) → v ≡ get_or values i v → i < length types → AreOfTypes t (ids_of (drop i types)) (plain (drop i values)) → IsOfShape (shape_at t id) (datum v) × AreOfTypes t (ids_of (drop (i + 1) types)) (plain (drop (i + 1) values))
  next_fits v is lt h =
      let e : drop i values ≡ v ∷ drop (i + 1) values = drop_more values i v (as_far lt h) ∙ ap (λ (x : Value). x ∷ drop (i + 1) values) (sym is) in
      first_value (shape_at t id) (shapes_at t (ids_of (drop (i + 1) types))) v (drop (i + 1) values) (subst (λ (vs : List Value). AreOfShapes (joined (shape_at t id) (shapes_at t (ids_of (drop (i + 1) types)))) (plain vs)) e (next_types lt h))

  pub next_text : (v : Value) → v ≡ get_or values i v → i < length types → AreOfTypes t (ids_of (drop i types)) (plain (drop i values)) → (text next whole : List ℕ)
      → text ++ forms t (ids_of (drop i types)) (plain (drop i values)) ≡ whole → next ≡ text ++ 32 ∷ form_at (shape_at t id) (datum v)
      → next ++ forms t (ids_of (drop (i + 1) types)) (plain (drop (i + 1) values)) ≡ whole
  next_text v is lt h text next whole so step =
      let e : drop i values ≡ v ∷ drop (i + 1) values = drop_more values i v (as_far lt h) ∙ ap (λ (x : Value). x ∷ drop (i + 1) values) (sym is) in
      let others = forms t (ids_of (drop (i + 1) types)) (plain (drop (i + 1) values)) in
      ap (λ (w : List ℕ). w ++ others) step
      ∙ append_assoc text (32 ∷ form_at (shape_at t id) (datum v)) others
      ∙ ap (λ (w : List ℕ). text ++ w) (sym (ap (λ (xs : List TypeId). forms t (ids_of xs) (plain (drop i values))) (drop_more types i d lt) ∙ ap (λ (vs : List Value). forms t (ids_of (get_or types i d ∷ drop (i + 1) types)) (plain vs)) e))
      ∙ so

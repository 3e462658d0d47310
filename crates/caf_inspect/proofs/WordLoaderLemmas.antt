-- Words that spell one value of a type.
use Rattle.std.proofs.Common.{◌≡◌, ℕ, List, [], ◌∷◌, ◌++◌, map, Option, Some, None, is_some, true, refl, sym, ap, subst, ◌∙◌}
use Rattle.std.proofs.lemmas.List.{append-nil}
use Rattle.caf_types.specs.ShapeTree.{ShapeTree}
use Rattle.caf_types.specs.Table.{Table, shape_at}
use Rattle.caf_words.specs.Datum.{Datum, Data, no_data, more, data_of}
use Rattle.caf_words.specs.Several.{TypesSpell, ShapesSpell, joined, shapes_at}
use Rattle.caf_words.specs.Spelling.{Spells}
use Rattle.caf_words.specs.Answer.{Faulty}
use Rattle.caf_words.specs.declared.stop.SpellFault.{SpellFault}
use Rattle.caf_words.specs.declared.stop.SpellFault.TheVariants as spell_faults
use Rattle.caf_words.specs.Value.{datum}
use Rattle.caf_events.specs.LoadAnswer.{Refused}
use Rattle.caf_inspect.specs.LoadAnswer.{WordsFailAt, Placed}
use Rattle.caf_events.specs.declared.fault.LoadFault.{LoadFault}
use Rattle.caf_events.specs.declared.fault.LoadFault.TheVariants as faults
use Rattle.caf_words.specs.declared.value.Value.{Value}

one_shape : (t : Table) (id : ℕ) (f : ShapeTree) → shape_at t id ≡ Some f → shapes_at t (id ∷ []) ≡ Some (f ∷ [])
one_shape t id f h = ap (λ o. joined o (Some [])) h

-- the words of several values are those of the one
pub one_spelled : (t : Table) (id : ℕ) (f : ShapeTree) (ds : Data) (ws : List ℕ) → shape_at t id ≡ Some f → TypesSpell t (id ∷ []) ds ws → (d : Datum) × (ds ≡ more d no_data) × Spells f d ws
one_spelled t id f ds ws h s =
    let p = subst (λ o. ShapesSpell o ds ws) (one_shape t id f h) s in
    (p.0, p.2 ∙ ap (more p.0) p.6.0, subst (Spells f p.0) (sym (p.7 ∙ ap (λ (b : List ℕ). p.3 ++ b) p.6.1 ∙ append-nil p.3)) p.5)

pub spelled_once : (t : Table) (id : ℕ) (f : ShapeTree) (d : Datum) (ws : List ℕ) → shape_at t id ≡ Some f → Spells f d ws → TypesSpell t (id ∷ []) (more d no_data) ws
spelled_once t id f d ws h s =
    subst (λ o. ShapesSpell o (more d no_data) ws) (sym (one_shape t id f h)) (d, no_data, refl, ws, [], s, (refl, refl), sym (append-nil ws))

-- the last of them is that one
pub last_of : (vs : List Value) (v : Value) (d : Datum) → data_of (map datum (vs ++ v ∷ [])) ≡ more d no_data → datum v ≡ d
last_of [] v d h = cc
last_of (x ∷ []) v d h = absurd cc
last_of (x ∷ (y ∷ ys)) v d h = absurd cc

some_joined : (o : Option ShapeTree) → is_some o ≡ true → is_some (joined o (Some [])) ≡ true
some_joined (Some f) h = refl
some_joined None h = absurd cc

pub has_shapes : (t : Table) (id : ℕ) → is_some (shape_at t id) ≡ true → is_some (shapes_at t (id ∷ [])) ≡ true
has_shapes t id h = some_joined (shape_at t id) h

-- one value was read, so there is a last one
pub not_none : (t : Table) (id : ℕ) (vs : List Value) (ws : List ℕ) → is_some (shape_at t id) ≡ true → TypesSpell t (id ∷ []) (data_of (map datum vs)) ws → vs ≡ [] → ⊥
not_none t id vs ws h s none = go (shape_at t id) refl h
  where
    go : (o : Option ShapeTree) → shape_at t id ≡ o → is_some o ≡ true → ⊥
    go (Some f) e g =
        let p = one_spelled t id f (data_of (map datum vs)) ws e s in
        let q : no_data ≡ more p.0 no_data = subst (λ (xs : List Value). data_of (map datum xs) ≡ more p.0 no_data) none p.1 in
        absurd cc
    go None e g = absurd cc

pub found_one : (t : Table) (id : ℕ) (f : ShapeTree) (front vs : List Value) (v : Value) (ws : List ℕ) → shape_at t id ≡ Some f → TypesSpell t (id ∷ []) (data_of (map datum vs)) ws → vs ≡ front ++ v ∷ [] → Spells f (datum v) ws
found_one t id f front vs v ws h s is =
    let p = one_spelled t id f (data_of (map datum vs)) ws h s in
    let q : data_of (map datum (front ++ v ∷ [])) ≡ more p.0 no_data = subst (λ (xs : List Value). data_of (map datum xs) ≡ more p.0 no_data) is p.1 in
    subst (λ d. Spells f d ws) (sym (last_of front v p.0 q)) p.2

pub refused_by : (t : Table) (id : ℕ) (f : ShapeTree) (ws : List ℕ) (fault : SpellFault) (answer : LoadFault) → shape_at t id ≡ Some f → Faulty fault t (id ∷ []) ws → Placed fault answer
    → Refused (λ d. Spells f d ws) (WordsFailAt t id ws) answer
refused_by t id f ws fault faults.Memory h q p = tt
refused_by t id f ws spell_faults.Memory (faults.Unfit path) h q p = absurd p
refused_by t id f ws (spell_faults.At place) (faults.Unfit path) h q p = ((place, q.1, p, q.2, q.3), λ d s. q.0 (more d no_data) (spelled_once t id f d ws h s))

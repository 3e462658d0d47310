-- What content of a row's types asks is what the row means.
use Rattle.std.proofs.Common.{◌≡◌, ℕ, ◌+◌, ◌==◌, Bool, true, false, ◌&&◌, List, [], ◌∷◌, length, drop, map, Option, Some, None, refl, sym, ap, subst, ◌∙◌}
use Rattle.std.specs.Prelude.{bytes_eq}
use Rattle.std.proofs.lemmas.Slice.Eq.{bytes_eq-Decides}
use Rattle.std.specs.Cmp.Lexicographic.{pointwise}
use Rattle.caf_types.specs.ShapeTree.{ShapeTree, text}
use Rattle.caf_types.specs.declared.shape.TypeId.{TypeId}
use Rattle.caf_types.specs.Table.{Table, shape_at}
use Rattle.caf_words.specs.Datum.{Data}
use Rattle.caf_words.specs.Several.{ids_of, SeveralSpell}
use Rattle.caf_words.specs.Spelling.{spellings}
use Rattle.caf_words.proofs.RowLemmas.{read_whole}
use Rattle.caf_words.proofs.SeveralLemmas.{several_kept}
use Rattle.caf_message.specs.Content.{ids_in}
use Rattle.caf_message.specs.Entries.{HasEntries}
use Rattle.caf_message.specs.Fits.{AreValues, HaveShapes, Means}
use Rattle.caf_message.proofs.ContentLemmas.{same_ids, drop-content}
use Rattle.caf_message.proofs.FitsLemmas.{same_shapes, entry_shapes_stand}
use Rattle.caf_kinds.specs.Core.{core, core_entries}
use Rattle.caf_kinds.specs.Asking.{type_id, of_text, AreCoreRow, asked_of}
use Rattle.caf_kinds.specs.Lawful.{IsRowContent, IsContentOf}
use Rattle.caf_kinds.specs.Laws.{core_is_needed}

have_more : (little great : ℕ → Option ShapeTree) → ((id : ℕ) (f : ShapeTree) → little id ≡ Some f → great id ≡ Some f) → (ids : List ℕ) (fs : List ShapeTree) → HaveShapes little ids fs → HaveShapes great ids fs
have_more little great grows [] [] e = refl
have_more little great grows [] (f ∷ fs) e = absurd cc
have_more little great grows (id ∷ ids) [] e = absurd cc
have_more little great grows (id ∷ ids) (f ∷ fs) e =
    let here : little id ≡ Some f = cc in
    let others : map little ids ≡ map (λ (g : ShapeTree). Some g) fs = cc in
    rw (grows id f here, have_more little great grows ids fs others) refl

-- a table that has the needed entries has the shapes of the kinds' table
pub table_has : (t : Table) → HasEntries t core_entries → (ids : List ℕ) (shapes : List ShapeTree) → AreCoreRow ids shapes → HaveShapes (shape_at t) ids shapes
table_has t has ids shapes e = have_more (shape_at core) (shape_at t) (λ id f q. entry_shapes_stand t core_entries has id f (core_is_needed id f q)) ids shapes e

-- the content is that of the values, which are of the shapes and in range
pub row_is : (shape_of : ℕ → Option ShapeTree) (words ids : List ℕ) (shapes : List ShapeTree) (values : Data) → HaveShapes shape_of ids shapes → Means shape_of words ids values → IsRowContent ids shapes words values
row_is shape_of words ids shapes values have m =
    let same : m.shapes ≡ shapes = same_shapes m.shapes shapes (sym m.have_shapes ∙ have) in
    let kept = several_kept shapes values (spellings values) (subst (λ (fs : List ShapeTree). AreValues fs values) same m.are_values) in
    record { words_are = m.words_are; fit = kept.fits; range = kept.range }

spelled : (shape_of : ℕ → Option ShapeTree) (words ids : List ℕ) (shapes : List ShapeTree) (values : Data) → HaveShapes shape_of ids shapes → Means shape_of words ids values → SeveralSpell shapes values (spellings values)
spelled shape_of words ids shapes values have m =
    let same : m.shapes ≡ shapes = same_shapes m.shapes shapes (sym m.have_shapes ∙ have) in
    subst (λ (fs : List ShapeTree). AreValues fs values) same m.are_values

-- what is asked is what the content means
pub asked_is_meant : (shape_of : ℕ → Option ShapeTree) (words ids : List ℕ) (shapes : List ShapeTree) (values : Data) → HaveShapes shape_of ids shapes → Means shape_of words ids values → asked_of ids shapes words ≡ Some values
unfolding asked_of
asked_is_meant shape_of words ids shapes values have m =
    let is = row_is shape_of words ids shapes values have m in
    let here : bytes_eq ids (ids_in words) ≡ true = (bytes_eq-Decides ids (ids_in words)).1 (sym (same_ids words ids values m.words_are)) in
    let behind : drop (length ids + 1) words ≡ spellings values = ap (drop (length ids + 1)) m.words_are ∙ drop-content ids values in
    let read = read_whole shapes values (spellings values) (spelled shape_of words ids shapes values have m) in
    rw (here, behind, read, is.fit, is.range) refl

-- content of other types asks nothing
pub asked_is_none : (words ids : List ℕ) (shapes : List ShapeTree) → (ids_in words ≡ ids → ⊥) → asked_of ids shapes words ≡ None
unfolding asked_of
asked_is_none words ids shapes other = go (bytes_eq ids (ids_in words)) refl
  where
    go : (b : Bool) → bytes_eq ids (ids_in words) ≡ b → asked_of ids shapes words ≡ None
    go true e = absurd (other (sym ((bytes_eq-Decides ids (ids_in words)).0 e)))
    go false e = rw e refl

-- content of one text is what a holder holds
pub is_text : (old new : List ℕ) (values : Data) → new ≡ old → IsRowContent (4 ∷ []) (text ∷ []) old values → IsContentOf of_text new
is_text old new values same is = record { core = refl; values = values; words_are = same ∙ is.words_are; fit = is.fit; range = is.range }

-- ---- lists of type IDs

-- a list is that of its numbers
pub typed : (types : List TypeId) → types ≡ map type_id (map (λ (id : TypeId). id.0) types)
typed [] = refl
typed (t ∷ ts) = ap (λ (us : List TypeId). t ∷ us) (typed ts)

pub typed_as : (types : List TypeId) (ids : List ℕ) → ids_of types ≡ ids → types ≡ map type_id ids
typed_as types ids e = typed types ∙ ap (map type_id) e

-- compared as they are and by their numbers
pub same_numbers : (xs ys : List TypeId) → pointwise (λ (a b : TypeId). a.0 == b.0) xs ys ≡ bytes_eq (ids_of xs) (ids_of ys)
same_numbers [] [] = refl
same_numbers [] (y ∷ ys) = refl
same_numbers (x ∷ xs) [] = refl
same_numbers (x ∷ xs) (y ∷ ys) = ap (λ (rest : Bool). x.0 == y.0 && rest) (same_numbers xs ys)

-- Replies as they are kept, and as they are seen.
use Rattle.std.proofs.Common.{◌≡◌, ℕ, ◌+◌, ◌<◌, ◌||◌, Bool, true, List, [], ◌∷◌, ◌++◌, arith, length, map, drop, Option, Some, None, refl, sym, ap, subst, ◌∙◌}
use Rattle.std.specs.Prelude.{is_some}
use Rattle.std.specs.List.{list_any}
use Rattle.caf_types.specs.ShapeTree.{ShapeTree}
use Rattle.std.proofs.lemmas.List.{length-map, length-append}
use Rattle.caf_types.specs.declared.shape.TypeId.{TypeId}
use Rattle.caf_types.specs.Table.{Table}
use Rattle.caf_words.specs.Datum.{Data}
use Rattle.caf_words.specs.Spelling.{spellings}
use Rattle.caf_words.specs.Answer.{Faulty}
use Rattle.caf_words.specs.declared.stop.SpellFault.{SpellFault}
use Rattle.caf_words.specs.declared.stop.SpellFault.TheVariants.{At}
use Rattle.caf_words.specs.Several.{ids_of, shapes_at, ShapesSpell, TypesSpell}
use Rattle.caf_message.specs.Content.{ids_in}
use Rattle.caf_message.specs.Fits.{FitsTable}
use Rattle.caf_message.proofs.ContentLemmas.{same_ids}
use Rattle.caf_message.proofs.FitsLemmas.{spelled_behind, several_spelled}

pub any_mapped : {A B : Type 0} (test : B → Bool) (f : A → B) (xs : List A) → list_any (λ x. test (f x)) xs ≡ list_any test (map f xs)
any_mapped test f [] = refl
any_mapped test f (x ∷ xs) = ap (λ (b : Bool). test (f x) || b) (any_mapped test f xs)

are_found : (o : Option (List ShapeTree)) (ds : Data) (ws : List ℕ) → ShapesSpell o ds ws → is_some o ≡ true
are_found None ds ws spell = absurd spell
are_found (Some fs) ds ws spell = refl

-- the table has the types of a content that fits it
pub has_types : (t : Table) (words ids : List ℕ) → FitsTable t words → ids_in words ≡ ids → is_some (shapes_at t ids) ≡ true
has_types t words ids fit same = are_found (shapes_at t ids) fit.values (drop (length ids + 1) words) (spelled_behind t words ids fit same)

words_spelled : (o : Option (List ShapeTree)) (ds : Data) (ws : List ℕ) → ShapesSpell o ds ws → spellings ds ≡ ws
words_spelled None ds ws spell = absurd spell
words_spelled (Some fs) ds ws spell = sym (several_spelled fs ds ws spell)

-- the words are the spellings of what was read from them
pub are_words : (t : Table) (ids : List ℕ) (ds : Data) (ws : List ℕ) → TypesSpell t ids ds ws → spellings ds ≡ ws
are_words t ids ds ws spell = words_spelled (shapes_at t ids) ds ws spell

-- behind its IDs stand the spellings of its values
pub spelled_words : (t : Table) (words : List ℕ) (types : List TypeId) (fit : FitsTable t words) → ids_in words ≡ ids_of types → TypesSpell t (ids_of types) fit.values (drop (length types + 1) words)
spelled_words t words types fit same =
    subst (λ (n : ℕ). TypesSpell t (ids_of types) fit.values (drop (n + 1) words)) (length-map types (λ (id : TypeId). id.0))
    (spelled_behind t words (ids_of types) fit same)

-- words that are spellings have no fault
pub never_faulty : (fault : SpellFault) (place : ℕ) (t : Table) (ids : List ℕ) (ds : Data) (ws : List ℕ) → fault ≡ At place → Faulty fault t ids ws → TypesSpell t ids ds ws → ⊥
never_faulty fault place t ids ds ws e faulty spell = (subst (λ (f : SpellFault). Faulty f t ids ws) e faulty).0 ds spell

-- behind its IDs there may be words: it has its IDs, and their number before them
pub has_words : (t : Table) (words : List ℕ) (types : List TypeId) (fit : FitsTable t words) → ids_in words ≡ ids_of types → length types < length words
has_words t words types fit same =
    let own : fit.ids ≡ ids_of types = sym (same_ids words fit.ids fit.values fit.means.words_are) ∙ same in
    let long : length words ≡ length (length fit.ids ∷ (fit.ids ++ spellings fit.values)) = ap length fit.means.words_are in
    let joined = length-append fit.ids (spellings fit.values) in
    let ids : length fit.ids ≡ length types = ap length own ∙ length-map types (λ (id : TypeId). id.0) in
    omega (arith, long, joined, ids)

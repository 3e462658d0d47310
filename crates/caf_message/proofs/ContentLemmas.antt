-- The parts of a content.
use Rattle.std.proofs.Common.{◌≡◌, ℕ, suc, ◌+◌, ◌<◌, List, [], ◌∷◌, ◌++◌, length, drop, get_or, refl, sym, ap, subst, ◌∙◌, add-one, arith, length-append}
use Rattle.std.proofs.Math.Seq.{take-append_seam, drop-append_seam}
use Rattle.std.proofs.Math.ListN.{get_or-append}
use Rattle.std.proofs.lemmas.List.{length-map, append_assoc, append-nil, get_or-map}
use Rattle.caf_types.specs.declared.shape.TypeId.{TypeId}
use Rattle.caf_words.specs.Datum.{Datum, Data, count, data_of}
use Rattle.caf_words.specs.Spelling.{spelling, spellings}
use Rattle.caf_words.specs.Several.{ids_of}
use Rattle.caf_message.specs.Content.{content_of, ids_in, IsContent}

pub ids_in-content : (ids : List ℕ) (values : Data) → ids_in (content_of ids values) ≡ ids
ids_in-content ids values = take-append_seam ids (spellings values)

-- the IDs of the one content are those of the other
pub same_ids : (words ids : List ℕ) (values : Data) → words ≡ content_of ids values → ids_in words ≡ ids
same_ids words ids values is = ap ids_in is ∙ ids_in-content ids values

pub drop-content : (ids : List ℕ) (values : Data) → drop (length ids + 1) (content_of ids values) ≡ spellings values
drop-content ids values = rw add-one (drop-append_seam ids (spellings values))

-- what stands behind the same IDs is the same
pub same_words : (words ids others : List ℕ) (values rivals : Data) → words ≡ content_of ids values → words ≡ content_of others rivals → ids ≡ others → spellings values ≡ spellings rivals
same_words words ids others values rivals is is' same =
    sym (drop-content ids values) ∙ ap (drop (length ids + 1)) (sym is ∙ is') ∙ ap (λ (xs : List ℕ). drop (length xs + 1) (content_of others rivals)) same ∙ drop-content others rivals

pub spellings-push : (values : List Datum) (value : Datum) → spellings (data_of (values ++ value ∷ [])) ≡ spellings (data_of values) ++ spelling value
spellings-push [] value = append-nil (spelling value)
spellings-push (v ∷ vs) value = ap (λ (ws : List ℕ). spelling v ++ ws) (spellings-push vs value) ∙ sym (append_assoc (spelling v) (spellings (data_of vs)) (spelling value))

pub count-data_of : (values : List Datum) → count (data_of values) ≡ length values
count-data_of [] = refl
count-data_of (v ∷ vs) = add-one (count (data_of vs)) ∙ ap suc (count-data_of vs)

pub length-ids_of : (types : List TypeId) → length (ids_of types) ≡ length types
length-ids_of types = length-map types (λ (id : TypeId). id.0)

-- ---- the head of a content: the number of IDs, and these

pub positive : (words : List ℕ) → IsContent words → 0 < length words
positive words c = subst (λ (ws : List ℕ). 0 < length ws) (sym c.words_are) (omega arith)

pub head_count : (words : List ℕ) → IsContent words → length (ids_in words) ≡ get_or words 0 0
head_count words c = ap length (same_ids words c.ids c.values c.words_are) ∙ sym (ap (λ (ws : List ℕ). get_or ws 0 0) c.words_are)

pub head_within : (words : List ℕ) → IsContent words → length (ids_in words) < length words
head_within words c =
    let ids_are = ap length (same_ids words c.ids c.values c.words_are) in
    let whole : length words ≡ suc (length c.ids + length (spellings c.values)) = ap length c.words_are ∙ ap suc (length-append c.ids (spellings c.values)) in
    omega (arith, ids_are, whole)

pub id_at : (words : List ℕ) → IsContent words → (i : ℕ) → i < length (ids_in words) → get_or words (i + 1) 0 ≡ get_or (ids_in words) i 0
id_at words c i within =
    let ids_are = same_ids words c.ids c.values c.words_are in
    let here : i < length c.ids = subst (λ (ids : List ℕ). i < length ids) ids_are within in
    ap (λ (ws : List ℕ). get_or ws (i + 1) 0) c.words_are ∙ rw add-one (get_or-append c.ids (spellings c.values) 0 i here) ∙ ap (λ (ids : List ℕ). get_or ids i 0) (sym ids_are)

-- ---- types as numbers

pub number_at : (types : List TypeId) (i : ℕ) (blank : TypeId) → i < length types → get_or (ids_of types) i 0 ≡ (get_or types i blank).0
number_at types i blank within = get_or-map (λ (id : TypeId). id.0) types i blank 0 within

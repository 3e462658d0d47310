-- The events of a value write its text form.
use Rattle.std.proofs.Common.{◌≡◌, ℕ, zero, suc, ◌+◌, List, [], ◌∷◌, ◌++◌, refl, sym, ap, subst, ◌∙◌, append_assoc, append-nil, arith}
use Rattle.caf_types.specs.ShapeTree.{ShapeTree, unit, flag, unsigned, signed, text, bytes, place, list, object, Parts, no_parts, part, count_parts}
use Rattle.caf_words.specs.Datum.{Datum, Data, no_data, more, count}
use Rattle.caf_text.specs.TextForm.{comma, colon, joined, text_form, fields_text}
use Rattle.caf_events.specs.Event as event
use Rattle.caf_events.specs.Event.{Event, events, each_events, part_events}
use Rattle.caf_inspect.specs.TextStack.{Frame, in_list, in_object, State, state, give, steps, step}
use Rattle.caf_events.proofs.OfShapeLemmas.{IsOf, PartsAre, AllAre, count_of}

abbrev Builds : (Datum → Type 0) → (Datum → List Event) → (Datum → List ℕ) → Type 0
Builds P one form_of = (d : Datum) → P d → (fs : List Frame) (t : List ℕ) (rest : List Event) → steps (state fs t) (one d ++ rest) ≡ steps (give fs (t ++ form_of d)) rest

-- ---- lists

last_item : (t f x : List ℕ) → (t ++ f) ++ x ≡ t ++ ((f ++ []) ++ x)
last_item t f x = append_assoc t f x ∙ ap (λ y. t ++ (y ++ x)) (sym (append-nil f))

next_item : (t f c j x : List ℕ) → ((t ++ f) ++ c) ++ (j ++ x) ≡ t ++ ((f ++ (c ++ j)) ++ x)
next_item t f c j x =
    append_assoc (t ++ f) c (j ++ x) ∙ append_assoc t f (c ++ (j ++ x))
    ∙ ap (λ y. t ++ y) (sym (append_assoc f (c ++ j) x ∙ ap (λ y. f ++ y) (append_assoc c j x)))

joined_comma : (form_of : Datum → List ℕ) (ds : Data) (n : ℕ) → count ds ≡ n + 1 → joined form_of comma ds ≡ comma ++ joined form_of [] ds
joined_comma form_of no_data n c = absurd (omega arith)
joined_comma form_of (more d ds) n c = refl

items_built : (P : Datum → Type 0) (one : Datum → List Event) (form_of : Datum → List ℕ) → Builds P one form_of
    → (ds : Data) → AllAre P ds → (n : ℕ) → count ds ≡ n + 1 → (fs : List Frame) (t : List ℕ) (rest : List Event)
    → steps (state (in_list n ∷ fs) t) (each_events one ds ++ rest) ≡ steps (give fs (t ++ (joined form_of [] ds ++ 93 ∷ []))) rest
items_built P one form_of g no_data h n c fs t rest = absurd (omega arith)
items_built P one form_of g (more d no_data) h zero c fs t rest =
    rw (append_assoc (one d) [] rest) (g d h.0 (in_list 0 ∷ fs) t rest ∙ ap (λ x. steps (give fs x) rest) (last_item t (form_of d) (93 ∷ [])))
items_built P one form_of g (more d (more e ds)) h zero c fs t rest = absurd (omega arith)
items_built P one form_of g (more d ds) h (suc n) c fs t rest =
    rw (append_assoc (one d) (each_events one ds) rest)
    (g d h.0 (in_list (suc n) ∷ fs) t (each_events one ds ++ rest)
    ∙ items_built P one form_of g ds h.1 n (omega arith) fs ((t ++ form_of d) ++ comma) rest
    ∙ ap (λ x. steps (give fs x) rest) (next_item t (form_of d) comma (joined form_of [] ds) (93 ∷ []) ∙ ap (λ y. t ++ ((form_of d ++ y) ++ 93 ∷ [])) (sym (joined_comma form_of ds n (omega arith)))))

list_built : (f : ShapeTree) → Builds (IsOf f) (events f) (text_form f) → (ds : Data) → AllAre (IsOf f) ds → (fs : List Frame) (t : List ℕ) (rest : List Event)
    → steps (step (state fs t) (event.list (count ds))) (each_events (events f) ds ++ rest) ≡ steps (give fs (t ++ 91 ∷ (joined (text_form f) [] ds ++ 93 ∷ []))) rest
list_built f g no_data h fs t rest = refl
list_built f g (more d ds) h fs t rest =
    let k : count ds + 1 ≡ suc (count ds) = omega arith in
    rw k (items_built (IsOf f) (events f) (text_form f) g (more d ds) h (count ds) refl fs (t ++ 91 ∷ []) rest
    ∙ ap (λ x. steps (give fs x) rest) (append_assoc t (91 ∷ []) (joined (text_form f) [] (more d ds) ++ 93 ∷ [])))

-- ---- objects

abbrev PartsBuild : Parts → Type 0
PartsBuild ps = (ds : Data) → PartsAre ps ds → (n : ℕ) → count ds ≡ n + 1 → (fs : List Frame) (t : List ℕ) (rest : List Event)
    → steps (state (in_object n ∷ fs) t) (part_events ps ds ++ rest) ≡ steps (give fs (t ++ (fields_text ps [] ds ++ 125 ∷ []))) rest

-- behind the last part there are no others
nothing_behind : (ps : Parts) (before : List ℕ) → PartsAre ps no_data → (part_events ps no_data ≡ []) × (fields_text ps before no_data ≡ [])
nothing_behind no_parts before h = (refl, refl)
nothing_behind (part name f ps) before h = absurd cc

fields_comma : (ps : Parts) (ds : Data) (n : ℕ) → PartsAre ps ds → count ds ≡ n + 1 → fields_text ps comma ds ≡ comma ++ fields_text ps [] ds
fields_comma no_parts ds n h c = absurd (let e : count ds ≡ 0 = ap count h in omega arith)
fields_comma (part name f ps) no_data n h c = absurd (omega arith)
fields_comma (part name f ps) (more d ds) n h c = refl

named : (t name f : List ℕ) → ((t ++ name) ++ colon) ++ f ≡ t ++ (name ++ (colon ++ f))
named t name f = append_assoc (t ++ name) colon f ∙ append_assoc t name (colon ++ f)

last_field : (t name f x : List ℕ) → (((t ++ name) ++ colon) ++ f) ++ x ≡ t ++ ((name ++ (colon ++ (f ++ []))) ++ x)
last_field t name f x = ap (λ y. y ++ x) (named t name f) ∙ append_assoc t (name ++ (colon ++ f)) x ∙ ap (λ y. t ++ ((name ++ (colon ++ y)) ++ x)) (sym (append-nil f))

next_field : (t name f c j x : List ℕ) → ((((t ++ name) ++ colon) ++ f) ++ c) ++ (j ++ x) ≡ t ++ ((name ++ (colon ++ (f ++ (c ++ j)))) ++ x)
next_field t name f c j x =
    ap (λ y. (y ++ c) ++ (j ++ x)) (named t name f)
    ∙ next_item t (name ++ (colon ++ f)) c j x
    ∙ ap (λ y. t ++ (y ++ x)) (append_assoc name (colon ++ f) (c ++ j) ∙ ap (λ y. name ++ y) (append_assoc colon f (c ++ j)))

part_built : (name : List ℕ) (f : ShapeTree) (ps : Parts) → Builds (IsOf f) (events f) (text_form f) → PartsBuild ps
    → (d : Datum) (ds : Data) → IsOf f d → PartsAre ps ds → (n : ℕ) → count (more d ds) ≡ n + 1 → (fs : List Frame) (t : List ℕ) (rest : List Event)
    → steps (state (in_object n ∷ fs) t) (part_events (part name f ps) (more d ds) ++ rest) ≡ steps (give fs (t ++ (fields_text (part name f ps) [] (more d ds) ++ 125 ∷ []))) rest
part_built name f ps g k d no_data h hs zero c fs t rest =
    let e = nothing_behind ps comma hs in
    rw (append_assoc (events f d) (part_events ps no_data) rest, e.0, e.1)
    (g d h (in_object 0 ∷ fs) ((t ++ name) ++ colon) rest ∙ ap (λ x. steps (give fs x) rest) (last_field t name (text_form f d) (125 ∷ [])))
part_built name f ps g k d (more e ds) h hs zero c fs t rest = absurd (omega arith)
part_built name f ps g k d ds h hs (suc n) c fs t rest =
    rw (append_assoc (events f d) (part_events ps ds) rest)
    (g d h (in_object (suc n) ∷ fs) ((t ++ name) ++ colon) (part_events ps ds ++ rest)
    ∙ k ds hs n (omega arith) fs ((((t ++ name) ++ colon) ++ text_form f d) ++ comma) rest
    ∙ ap (λ x. steps (give fs x) rest) (next_field t name (text_form f d) comma (fields_text ps [] ds) (125 ∷ []) ∙ ap (λ y. t ++ ((name ++ (colon ++ (text_form f d ++ y))) ++ 125 ∷ [])) (sym (fields_comma ps ds n hs (omega arith)))))

object_built : (ps : Parts) → PartsBuild ps → (ds : Data) → PartsAre ps ds → (fs : List Frame) (t : List ℕ) (rest : List Event)
    → steps (step (state fs t) (event.object (count_parts ps))) (part_events ps ds ++ rest) ≡ steps (give fs (t ++ 123 ∷ (fields_text ps [] ds ++ 125 ∷ []))) rest
object_built ps k no_data h fs t rest =
    let e = nothing_behind ps [] h in
    rw (sym (count_of ps no_data h), e.0, e.1) refl
object_built ps k (more d ds) h fs t rest =
    let n : count_parts ps ≡ suc (count ds) = sym (count_of ps (more d ds) h) ∙ (let q : count ds + 1 ≡ suc (count ds) = omega arith in q) in
    rw n (k (more d ds) h (count ds) refl fs (t ++ 123 ∷ []) rest ∙ ap (λ x. steps (give fs x) rest) (append_assoc t (123 ∷ []) (fields_text ps [] (more d ds) ++ 125 ∷ [])))

mutual
  pub all_built : (f : ShapeTree) → Builds (IsOf f) (events f) (text_form f)
  all_built unit d h fs t rest = rw h refl
  all_built flag d h fs t rest = rw (h.1) refl
  all_built unsigned d h fs t rest = rw (h.1) refl
  all_built signed d h fs t rest = rw (h.1) refl
  all_built text d h fs t rest = rw (h.1) refl
  all_built bytes d h fs t rest = rw (h.1) refl
  all_built place d h fs t rest = rw (h.2) refl
  all_built (list f) d h fs t rest = rw (h.2) (list_built f (all_built f) h.0 h.1 fs t rest)
  all_built (object ps) d h fs t rest = rw (h.2) (object_built ps (parts_built ps) h.0 h.1 fs t rest)

  parts_built : (ps : Parts) → PartsBuild ps
  parts_built no_parts ds h n c fs t rest = absurd (let e : count ds ≡ 0 = ap count h in omega arith)
  parts_built (part name f ps) ds h n c fs t rest =
      subst (λ x. steps (state (in_object n ∷ fs) t) (part_events (part name f ps) x ++ rest) ≡ steps (give fs (t ++ (fields_text (part name f ps) [] x ++ 125 ∷ []))) rest) (sym h.4)
      (part_built name f ps (all_built f) (parts_built ps) h.0 h.1 h.2 h.3 n (ap count (sym h.4) ∙ c) fs t rest)

text_in : State → List ℕ
text_in (state fs t) = t

-- a saver that was told the events of one value holds its form
pub built_whole : (f : ShapeTree) (d : Datum) (fs : List Frame) (t : List ℕ) → IsOf f d → state fs t ≡ steps (state [] []) (events f d) → t ≡ text_form f d
unfolding text_in
built_whole f d fs t h is = ap text_in (is ∙ ap (steps (state [] [])) (sym (append-nil (events f d))) ∙ all_built f d h [] [] [])

-- The events of a value build its JSON form.
use Rattle.std.proofs.Common.{◌≡◌, ℕ, zero, suc, ◌+◌, List, [], ◌∷◌, ◌++◌, refl, sym, ap, subst, ◌∙◌, append_assoc, arith}
use Rattle.std.proofs.lemmas.List.{append-nil}
use Rattle.serde_json.specs.Data.{Data as Json, null, array, object as members_in, Items, no_items, item, Members, no_members, put}
use Rattle.serde_json.specs.View.{items_of}
use Rattle.caf_types.specs.ShapeTree.{ShapeTree, unit, flag, unsigned, signed, text, bytes, place, list, object, Parts, no_parts, part, count_parts}
use Rattle.caf_words.specs.Datum.{Datum, Data, no_data, more, count}
use Rattle.caf_events.specs.Event as event
use Rattle.caf_events.specs.Event.{Event, events, each_events, part_events}
use Rattle.caf_json.specs.Stack.{json, each_json, members_json, Frame, in_array, in_object, State, state, give, steps, step}
use Rattle.caf_events.proofs.OfShapeLemmas.{IsOf, PartsAre, AllAre}
use Rattle.caf_events.proofs.OfShapeLemmas.{count_of}

abbrev items_onto : List Json → Items → Items
items_onto [] its = its
items_onto (j ∷ js) its = item j (items_onto js its)

onto_more : (js : List Json) (j : Json) (its : Items) → items_onto (js ++ j ∷ []) its ≡ items_onto js (item j its)
onto_more [] j its = refl
onto_more (k ∷ js) j its = ap (item k) (onto_more js j its)

onto_none : (js : List Json) → items_of js ≡ items_onto js no_items
onto_none [] = refl
onto_none (j ∷ js) = ap (item j) (onto_none js)

abbrev Builds : (Datum → Type 0) → (Datum → List Event) → (Datum → Json) → Type 0
Builds P one form_of = (d : Datum) → P d → (fs : List Frame) (last : Json) (rest : List Event) → steps (state fs last) (one d ++ rest) ≡ steps (give fs last (form_of d)) rest

items_built : (P : Datum → Type 0) (one : Datum → List Event) (form_of : Datum → Json) → Builds P one form_of
    → (ds : Data) → AllAre P ds → (n : ℕ) → count ds ≡ n + 1 → (js : List Json) (fs : List Frame) (last : Json) (rest : List Event)
    → steps (state (in_array n js ∷ fs) last) (each_events one ds ++ rest) ≡ steps (give fs last (array (items_onto js (each_json form_of ds)))) rest
items_built P one form_of g no_data h n c js fs last rest = absurd (omega arith)
items_built P one form_of g (more d no_data) h zero c js fs last rest =
    rw (append_assoc (one d) [] rest)
    (g d h.0 (in_array 0 js ∷ fs) last rest ∙ ap (λ its. steps (give fs last (array its)) rest) (onto_none (js ++ form_of d ∷ []) ∙ onto_more js (form_of d) no_items))
items_built P one form_of g (more d (more e ds)) h zero c js fs last rest = absurd (omega arith)
items_built P one form_of g (more d ds) h (suc n) c js fs last rest =
    rw (append_assoc (one d) (each_events one ds) rest)
    (g d h.0 (in_array (suc n) js ∷ fs) last (each_events one ds ++ rest)
    ∙ items_built P one form_of g ds h.1 n (omega arith) (js ++ form_of d ∷ []) fs last rest
    ∙ ap (λ its. steps (give fs last (array its)) rest) (onto_more js (form_of d) (each_json form_of ds)))

list_built : (f : ShapeTree) → Builds (IsOf f) (events f) (json f) → (ds : Data) → AllAre (IsOf f) ds → (fs : List Frame) (last : Json) (rest : List Event)
    → steps (step (state fs last) (event.list (count ds))) (each_events (events f) ds ++ rest) ≡ steps (give fs last (array (each_json (json f) ds))) rest
list_built f g no_data h fs last rest = refl
list_built f g (more d ds) h fs last rest =
    let k : count ds + 1 ≡ suc (count ds) = omega arith in
    rw k (items_built (IsOf f) (events f) (json f) g (more d ds) h (count ds) refl [] fs last rest)

abbrev PartsBuild : Parts → Type 0
PartsBuild ps = (ds : Data) → PartsAre ps ds → (n : ℕ) → count ds ≡ n + 1 → (ms : Members) (key : List ℕ) (fs : List Frame) (last : Json) (rest : List Event)
    → steps (state (in_object n ms key ∷ fs) last) (part_events ps ds ++ rest) ≡ steps (give fs last (members_in (members_json ps ds ms))) rest

-- behind the last part there are no others
nothing_behind : (ps : Parts) → PartsAre ps no_data → (part_events ps no_data ≡ []) × ((ms : Members) → members_json ps no_data ms ≡ ms)
nothing_behind no_parts h = (refl, λ ms. refl)
nothing_behind (part name f ps) h = absurd cc

part_built : (name : List ℕ) (f : ShapeTree) (ps : Parts) → Builds (IsOf f) (events f) (json f) → PartsBuild ps
    → (d : Datum) (ds : Data) → IsOf f d → PartsAre ps ds → (n : ℕ) → count (more d ds) ≡ n + 1 → (ms : Members) (key : List ℕ) (fs : List Frame) (last : Json) (rest : List Event)
    → steps (state (in_object n ms key ∷ fs) last) (part_events (part name f ps) (more d ds) ++ rest) ≡ steps (give fs last (members_in (members_json (part name f ps) (more d ds) ms))) rest
part_built name f ps g k d no_data h hs zero c ms key fs last rest =
    let e = nothing_behind ps hs in
    rw (append_assoc (events f d) (part_events ps no_data) rest, e.0, e.1 (put name (json f d) ms)) (g d h (in_object 0 ms name ∷ fs) last rest)
part_built name f ps g k d (more e ds) h hs zero c ms key fs last rest = absurd (omega arith)
part_built name f ps g k d ds h hs (suc n) c ms key fs last rest =
    rw (append_assoc (events f d) (part_events ps ds) rest)
    (g d h (in_object (suc n) ms name ∷ fs) last (part_events ps ds ++ rest) ∙ k ds hs n (omega arith) (put name (json f d) ms) name fs last rest)

object_built : (ps : Parts) → PartsBuild ps → (ds : Data) → PartsAre ps ds → (fs : List Frame) (last : Json) (rest : List Event)
    → steps (step (state fs last) (event.object (count_parts ps))) (part_events ps ds ++ rest) ≡ steps (give fs last (members_in (members_json ps ds no_members))) rest
object_built ps k no_data h fs last rest =
    let e = nothing_behind ps h in
    rw (sym (count_of ps no_data h), e.0, e.1 no_members) refl
object_built ps k (more d ds) h fs last rest =
    let n : count_parts ps ≡ suc (count ds) = sym (count_of ps (more d ds) h) ∙ (let q : count ds + 1 ≡ suc (count ds) = omega arith in q) in
    rw n (k (more d ds) h (count ds) refl no_members [] fs last rest)

mutual
  pub all_built : (f : ShapeTree) → Builds (IsOf f) (events f) (json f)
  all_built unit d h fs last rest = rw h refl
  all_built flag d h fs last rest = rw (h.1) refl
  all_built unsigned d h fs last rest = rw (h.1) refl
  all_built signed d h fs last rest = rw (h.1) refl
  all_built text d h fs last rest = rw (h.1) refl
  all_built bytes d h fs last rest = rw (h.1) refl
  all_built place d h fs last rest = rw (h.2) refl
  all_built (list f) d h fs last rest = rw (h.2) (list_built f (all_built f) h.0 h.1 fs last rest)
  all_built (object ps) d h fs last rest = rw (h.2) (object_built ps (parts_built ps) h.0 h.1 fs last rest)

  parts_built : (ps : Parts) → PartsBuild ps
  parts_built no_parts ds h n c ms key fs last rest = absurd (let e : count ds ≡ 0 = ap count h in omega arith)
  parts_built (part name f ps) ds h n c ms key fs last rest =
      subst (λ x. steps (state (in_object n ms key ∷ fs) last) (part_events (part name f ps) x ++ rest) ≡ steps (give fs last (members_in (members_json (part name f ps) x ms))) rest) (sym h.4)
      (part_built name f ps (all_built f) (parts_built ps) h.0 h.1 h.2 h.3 n (ap count (sym h.4) ∙ c) ms key fs last rest)

last_in : State → Json
last_in (state fs last) = last

-- a saver that was told the events of one value holds its form
pub built_whole : (f : ShapeTree) (d : Datum) (fs : List Frame) (last : Json) → IsOf f d → state fs last ≡ steps (state [] null) (events f d) → last ≡ json f d
unfolding last_in
built_whole f d fs last h is =
    ap last_in (is ∙ ap (steps (state [] null)) (sym (append-nil (events f d))) ∙ all_built f d h [] null [])

-- what the events of one value build
pub steps_whole : (f : ShapeTree) (d : Datum) → IsOf f d → steps (state [] null) (events f d) ≡ state [] (json f d)
steps_whole f d h = ap (steps (state [] null)) (sym (append-nil (events f d))) ∙ all_built f d h [] null []

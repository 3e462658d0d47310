-- The elements of a message, one after the other.
use Rattle.std.proofs.Common.{◌≡◌, ℕ, ◌+◌, ◌<◌, List, [], ◌∷◌, ◌++◌, map, drop, get_or, length, Option, Some, sym, ap, ◌∙◌, append_assoc}
use Rattle.serde_json.specs.View.{view}
use Rattle.serde_json.specs.declared.value.Value.{Value as Json}
use Rattle.caf_words.specs.Datum.{Datum}
use Rattle.caf_scenario.specs.Elements.{element_of, with_element, elements_of, ids_in}
use Rattle.caf_scenario.specs.Contents.{data_in}
use Rattle.caf_scenario.proofs.ListLemmas.{next_left}

elements_more : (xs : List Json) (i : ℕ) (x : Json) (e : ℕ × Datum) → i < length xs → x ≡ get_or xs i x → element_of (view x) ≡ Some e
    → elements_of (map view (drop i xs)) ≡ e ∷ elements_of (map view (drop (i + 1) xs))
elements_more xs i x e lt is some =
    ap (λ (ys : List Json). elements_of (map view ys)) (next_left xs i x lt is)
    ∙ ap (λ (o : Option (ℕ × Datum)). with_element o (elements_of (map view (drop (i + 1) xs)))) some

pub ids_on : (front : List ℕ) (xs : List Json) (i : ℕ) (x : Json) (e : ℕ × Datum) (total : List ℕ) → i < length xs → x ≡ get_or xs i x → element_of (view x) ≡ Some e
    → front ++ ids_in (elements_of (map view (drop i xs))) ≡ total → (front ++ e.0 ∷ []) ++ ids_in (elements_of (map view (drop (i + 1) xs))) ≡ total
ids_on front xs i x e total lt is some so_far =
    append_assoc front (e.0 ∷ []) (ids_in (elements_of (map view (drop (i + 1) xs))))
    ∙ ap (λ (es : List (ℕ × Datum)). front ++ ids_in es) (sym (elements_more xs i x e lt is some))
    ∙ so_far

pub data_on : (front : List Datum) (xs : List Json) (i : ℕ) (x : Json) (e : ℕ × Datum) (total : List Datum) → i < length xs → x ≡ get_or xs i x → element_of (view x) ≡ Some e
    → front ++ data_in (elements_of (map view (drop i xs))) ≡ total → (front ++ e.1 ∷ []) ++ data_in (elements_of (map view (drop (i + 1) xs))) ≡ total
data_on front xs i x e total lt is some so_far =
    append_assoc front (e.1 ∷ []) (data_in (elements_of (map view (drop (i + 1) xs))))
    ∙ ap (λ (es : List (ℕ × Datum)). front ++ data_in es) (sym (elements_more xs i x e lt is some))
    ∙ so_far

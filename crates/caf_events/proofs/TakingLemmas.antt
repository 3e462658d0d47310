-- The events of a value are taken as that value, and only they are.
use Rattle.std.proofs.Common.{◌≡◌, ℕ, suc, ◌+◌, true, List, [], ◌++◌, Some, None, is_some, bytes_eq, eq-eqb, lt-ltb, refl, sym, ap, subst, ◌∙◌, append_assoc, arith}
use Rattle.std.proofs.lemmas.List.{append-nil}
use Rattle.std.proofs.lemmas.Slice.Eq.{bytes_eq-Decides}
use Rattle.caf_types.specs.ShapeTree as tree
use Rattle.caf_types.specs.ShapeTree.{ShapeTree, Parts, no_parts, part, count_parts}
use Rattle.caf_words.specs.Datum.{Datum, Data, no_data, more, count, fits}
use Rattle.caf_events.specs.Event.{Event, events, each_events, part_events}
use Rattle.caf_events.proofs.OfShapeLemmas.{IsOf, PartsAre, AllAre, is_of}
use Rattle.caf_events.specs.Taking.{Took, done, then_more, many, taking, taking_parts}

more_again : (d : Datum) (ds : Data) (xs ys rest : List Event) (one : List Event → Took Datum) (others : List Event → Took Data)
    → one (xs ++ (ys ++ rest)) ≡ Some (d, ys ++ rest) → others (ys ++ rest) ≡ Some (ds, rest) → then_more one others ((xs ++ ys) ++ rest) ≡ Some (more d ds, rest)
more_again d ds xs ys rest one others p q = rw (append_assoc xs ys rest, p, q) refl

many_again : (P : Datum → Type 0) (one : Datum → List Event) (take : List Event → Took Datum) → ((d : Datum) → P d → (rest : List Event) → take (one d ++ rest) ≡ Some (d, rest))
    → (ds : Data) → AllAre P ds → (rest : List Event) → many take (count ds) (each_events one ds ++ rest) ≡ Some (ds, rest)
many_again P one take g no_data h rest = refl
many_again P one take g (more d ds) h rest =
    let k : suc (count ds) ≡ count ds + 1 = omega arith in
    subst (λ n. many take n ((one d ++ each_events one ds) ++ rest) ≡ Some (more d ds, rest)) k
    (more_again d ds (one d) (each_events one ds) rest take (many take (count ds)) (g d h.0 (each_events one ds ++ rest)) (many_again P one take g ds h.1 rest))

same : (name : List ℕ) → bytes_eq name name ≡ true
same name = (bytes_eq-Decides name name).1 refl

mutual
  pub all_again : (f : ShapeTree) (d : Datum) → IsOf f d → (rest : List Event) → taking f (events f d ++ rest) ≡ Some (d, rest)
  all_again tree.unit d h rest = rw h refl
  all_again tree.flag d h rest = rw (h.1) refl
  all_again tree.unsigned d h rest = rw (h.1) refl
  all_again tree.signed d h rest = rw (h.1) refl
  all_again tree.text d h rest = rw (h.1) refl
  all_again tree.bytes d h rest = rw (h.1) refl
  all_again tree.place d h rest = rw (h.2, lt-ltb h.0 256 h.1) refl
  all_again (tree.list f) d h rest = rw (h.2, many_again (IsOf f) (events f) (taking f) (all_again f) h.0 h.1 rest) refl
  all_again (tree.object ps) d h rest = rw (h.2, eq-eqb (count_parts ps) (count_parts ps) refl, parts_again ps h.0 h.1 rest) refl

  parts_again : (ps : Parts) (ds : Data) → PartsAre ps ds → (rest : List Event) → taking_parts ps (part_events ps ds ++ rest) ≡ Some (ds, rest)
  parts_again no_parts ds h rest = rw h refl
  parts_again (part name f ps) ds h rest =
      rw (h.4, same name) (more_again h.0 h.1 (events f h.0) (part_events ps h.1) rest (taking f) (taking_parts ps) (all_again f h.0 h.2 (part_events ps h.1 ++ rest)) (parts_again ps h.1 h.3 rest))

-- a loader whose events are those of a value
pub taken_whole : (f : ShapeTree) (d : Datum) (es : List Event) → fits f d ≡ true → es ≡ events f d → taking f es ≡ Some (d, [])
taken_whole f d es h e = ap (taking f) (e ∙ sym (append-nil (events f d))) ∙ all_again f d (is_of f d h) []

pub can_be_taken : (f : ShapeTree) (d : Datum) (es : List Event) → fits f d ≡ true → es ≡ events f d → is_some (taking f es) ≡ true
can_be_taken f d es h is = ap is_some (taken_whole f d es h is)

value_or : Datum → Took Datum → Datum
value_or d (Some x) = x.0
value_or d None = d

same_value : (d e : Datum) (es fs : List Event) → done d es ≡ done e fs → d ≡ e
unfolding value_or
same_value d e es fs p = ap (value_or d) p

meant : (f : ShapeTree) (d e : Datum) (es rest : List Event) → fits f d ≡ true → es ≡ events f d → taking f es ≡ Some (e, rest) → e ≡ d
meant f d e es rest h is took = same_value e d rest [] (sym took ∙ taken_whole f d es h is)

-- what was loaded means the value that was read
pub loaded : (Has : Datum → Type 0) (f : ShapeTree) (d e : Datum) (es rest : List Event) → Has d → fits f d ≡ true → es ≡ events f d → taking f es ≡ Some (e, rest) → Has e
loaded Has f d e es rest has h is took = subst Has (sym (meant f d e es rest h is took)) has

pub same_form : (f g : ShapeTree) → Some f ≡ Some g → f ≡ g
same_form f g e = cc

-- what a loader of a value has started with
pub started : (Has : Datum → Type 0) (At : List ℕ → Type 0) (f : ShapeTree) (d : Datum) (es : List Event) → Has d → fits f d ≡ true → es ≡ events f d
    → (e : Datum) × Has e × (fits f e ≡ true) × (es ≡ events f e) × (taking f es ≡ Some (e, []))
started Has At f d es has fit is = (d, has, fit, is, taken_whole f d es fit is)

-- A loader that was started with the ID of a type, and a value of the type that was loaded from it.
use Rattle.std.proofs.Common.{◌≡◌, ℕ, true, List, [], Some, is_some, sym, subst}
use Rattle.caf_types.specs.ShapeTree.{ShapeTree}
use Rattle.caf_types.specs.Table.{Table, shape_at}
use Rattle.caf_words.specs.Datum.{Datum, fits}
use Rattle.caf_events.specs.Event.{Event, events}
use Rattle.caf_events.specs.Taking.{taking}
use Rattle.caf_events.proofs.TakingLemmas.{can_be_taken, loaded}

-- what a loader has left, where it started: the events of a value of the shape
abbrev Begun : (ShapeTree → Datum → Type 0) → ShapeTree → List Event → Type 0
Begun Has f es = (d : Datum) × Has f d × (fits f d ≡ true) × (es ≡ events f d) × (taking f es ≡ Some (d, []))

module _ (Has : ShapeTree → Datum → Type 0) (es : List Event) (t : Table) (n id : ℕ) (f : ShapeTree) (started : (g : ShapeTree) → shape_at t n ≡ Some g → Begun Has g es) (is : n ≡ id) (has : shape_at t id ≡ Some f) where
  begun : Begun Has f es
  begun = started f (subst (λ k. shape_at t k ≡ Some f) (sym is) has)

  -- the events of a value of the type come next
  pub can_load : is_some (taking f es) ≡ true
  can_load = let s = begun in can_be_taken f s.0 es s.2 s.3

  -- the value that they are loaded as has the form
  pub has_loaded : (e : Datum) (rest : List Event) → taking f es ≡ Some (e, rest) → Has f e
  has_loaded e rest took = let s = begun in loaded (Has f) f s.0 e es rest s.1 s.2 s.3 took

-- Taking a value of a shape from the front of events; none where the next events are those of no value of it.
use Rattle.std.specs.Prelude.{ℕ, zero, suc, ◌==◌, nat_lt, if◌then◌else◌, Bool, true, false, ℤ, List, [], ◌∷◌, Option, Some, None, bytes_eq}
use Rattle.caf_types.specs.ShapeTree as tree
use Rattle.caf_types.specs.Limits.{places}
use Rattle.caf_types.specs.ShapeTree.{ShapeTree, Parts, no_parts, part, count_parts}
use Rattle.caf_words.specs.Datum.{Datum, a_unit, a_flag, an_unsigned, a_signed, a_text, some_bytes, a_place, a_list, an_object, Data, no_data, more}
use Rattle.caf_events.specs.Event.{Event, unit, flag, unsigned, signed, text, bytes, place, list, object, field}

-- something, and the events after it
abbrev pub Took : Type 0 → Type 0
Took A = Option (A × List Event)

infixl 10 ◌>>=◌
abbrev pub ◌>>=◌ : {A B : Type 0} → Took A → (A → List Event → Took B) → Took B
(Some x) >>= f = f x.0 x.1
None >>= f = None

abbrev pub done : {A : Type 0} → A → List Event → Took A
done x es = Some (x, es)

abbrev pub given : {A : Type 0} → Option A → List Event → Took A
given None es = None
given (Some x) es = Some (x, es)

-- what the next event means
abbrev pub next : {A : Type 0} → (Event → Option A) → List Event → Took A
next meaning [] = None
next meaning (e ∷ es) = given (meaning e) es

abbrev pub so : Bool → Option (Unit {0})
so true = Some tt
so false = None

-- ---- what each kind of event means

abbrev pub unit_in : Event → Option (Unit {0})
unit_in unit = Some tt
unit_in _ = None

abbrev pub flag_in : Event → Option Bool
flag_in (flag b) = Some b
flag_in _ = None

abbrev pub unsigned_in : Event → Option ℕ
unsigned_in (unsigned n) = Some n
unsigned_in _ = None

abbrev pub signed_in : Event → Option ℤ
signed_in (signed z) = Some z
signed_in _ = None

abbrev pub text_in : Event → Option (List ℕ)
text_in (text bs) = Some bs
text_in _ = None

abbrev pub bytes_in : Event → Option (List ℕ)
bytes_in (bytes bs) = Some bs
bytes_in _ = None

abbrev pub place_in : Event → Option ℕ
place_in (place n) = Some n
place_in _ = None

abbrev pub list_in : Event → Option ℕ
list_in (list n) = Some n
list_in _ = None

abbrev pub object_in : Event → Option ℕ
object_in (object n) = Some n
object_in _ = None

-- the field of that name
abbrev pub field_in : List ℕ → Event → Option (Unit {0})
field_in name (field other) = so (bytes_eq name other)
field_in name _ = None

-- ---- a value

abbrev pub then_more : (List Event → Took Datum) → (List Event → Took Data) → List Event → Took Data
then_more one others es = one es >>= λ d es. others es >>= λ ds es. done (more d ds) es

abbrev pub many : (List Event → Took Datum) → ℕ → List Event → Took Data
many one zero es = done no_data es
many one (suc n) es = then_more one (many one n) es

-- the number of a place
abbrev pub below_places : ℕ → Option ℕ
below_places n = if nat_lt n places then Some n else None

abbrev pub counted : ℕ → ℕ → Option (Unit {0})
counted n m = so (n == m)

abbrev mutual
  pub taking : ShapeTree → List Event → Took Datum
  taking tree.unit es = next unit_in es >>= λ _ es. done a_unit es
  taking tree.flag es = next flag_in es >>= λ b es. done (a_flag b) es
  taking tree.unsigned es = next unsigned_in es >>= λ n es. done (an_unsigned n) es
  taking tree.signed es = next signed_in es >>= λ z es. done (a_signed z) es
  taking tree.text es = next text_in es >>= λ bs es. done (a_text bs) es
  taking tree.bytes es = next bytes_in es >>= λ bs es. done (some_bytes bs) es
  taking tree.place es = next place_in es >>= λ n es. given (below_places n) es >>= λ n es. done (a_place n) es
  taking (tree.list f) es = next list_in es >>= λ n es. many (taking f) n es >>= λ ds es. done (a_list ds) es
  taking (tree.object ps) es =
      next object_in es >>= λ n es. given (counted n (count_parts ps)) es >>= λ _ es. taking_parts ps es >>= λ ds es. done (an_object ds) es

  pub taking_parts : Parts → List Event → Took Data
  taking_parts no_parts es = done no_data es
  taking_parts (part name f ps) es = next (field_in name) es >>= λ _ es. then_more (taking f) (taking_parts ps) es

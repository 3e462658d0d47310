-- The bank's table, and which contents fit it.
use Rattle.std.specs.Prelude.{◌≡◌, ℕ, ◌==◌, Bool, true, List, [], ◌∷◌, cond, Option, Some, refl, min}
use Rattle.std.proofs.Common.{ap, sym, ◌∙◌}
use Rattle.std.proofs.lemmas.Cmp.{eq_by_cmp_equiv}
use Rattle.std.specs.Cmp.{nat_cmp_total, unsigned_tied}
use Rattle.std.specs.Option.{option_map}
use Rattle.std.specs.Ordering.{nat_cmp, eq_by_cmp}
use Rattle.std.specs.FinMap as finite
use Rattle.caf_types.specs.ShapeTree.{ShapeTree}
use Rattle.caf_types.specs.Table.{Named, Table, type_at, shape_at}
use Rattle.caf_words.specs.Datum.{Data, no_data, more, an_unsigned, are_in_range}
use Rattle.caf_words.specs.Several.{several_fit}
use Rattle.caf_words.proofs.SeveralLemmas.{several_spelled}
use Rattle.caf_message.specs.Entries.{HasEntries, entry_shape}
use Rattle.caf_message.specs.Fits.{Fits, HaveShapes}
use Rattle.caf_message.proofs.FitsLemmas.{content_fits, entry_shapes_stand}
use Rattle.caf_kinds.specs.Asking.{Types, type_ids, type_shapes, of_unsigned, content}
use Rattle.caf_kinds.specs.Keeping.{below}
use Rattle.example_bank.specs.Types.{bank, bank_entries, AreBankRow, number_content}

-- ---- entries

found_is : (es : List (ℕ × Named)) (id : ℕ) → finite.find nat_cmp id es ≡ type_at es id
found_is [] id = refl
found_is (e ∷ es) id =
    let flipped : eq_by_cmp nat_cmp id e.0 ≡ (e.0 == id) = (eq_by_cmp_equiv nat_cmp_total).symm id e.0 ∙ unsigned_tied e.0 id in
    ap (λ (b : Bool). cond b (Some e.1) (finite.find nat_cmp id es)) flipped ∙ ap (λ (o : Option Named). cond (e.0 == id) (Some e.1) o) (found_is es id)

entry_at : (id : ℕ) → finite.get bank_entries id ≡ type_at bank.types id
entry_at id = finite.get-from_entries nat_cmp_total bank.types id ∙ found_is bank.types id

-- the bank's table has what the bank needs
pub bank_has : (t : Table) → t ≡ bank → HasEntries t bank_entries
bank_has t same id n e = ap (λ (u : Table). type_at u.types id) same ∙ sym (entry_at id) ∙ e

-- ---- shapes

-- the IDs of the bank's table have its shapes
abbrev pub Grows : (ℕ → Option ShapeTree) → Type 0
Grows shape_of = (id : ℕ) (f : ShapeTree) → shape_at bank id ≡ Some f → shape_of id ≡ Some f

pub entries_grow : Grows (entry_shape bank_entries)
entries_grow id f e = ap (option_map (λ (n : Named). n.shape)) (entry_at id) ∙ e

pub table_grows : (t : Table) → HasEntries t bank_entries → Grows (shape_at t)
table_grows t has id f e = entry_shapes_stand t bank_entries has id f (entries_grow id f e)

pub row_has : (shape_of : ℕ → Option ShapeTree) → Grows shape_of → (ids : List ℕ) (shapes : List ShapeTree) → AreBankRow ids shapes → HaveShapes shape_of ids shapes
row_has shape_of grows [] [] e = refl
row_has shape_of grows [] (f ∷ fs) e = absurd cc
row_has shape_of grows (id ∷ ids) [] e = absurd cc
row_has shape_of grows (id ∷ ids) (f ∷ fs) e =
    let here : shape_at bank id ≡ Some f = cc in
    let others : AreBankRow ids fs = cc in
    rw (grows id f here, row_has shape_of grows ids fs others) refl

-- ---- contents

module _ (shape_of : ℕ → Option ShapeTree) (grows : Grows shape_of) where
  -- values of types of the table
  pub fits : (types : Types) (values : Data) → AreBankRow (type_ids types) (type_shapes types) → several_fit (type_shapes types) values ≡ true → are_in_range values ≡ true → Fits shape_of (content types values)
  fits types values known fit range =
      content_fits shape_of (type_ids types) (type_shapes types) values (row_has shape_of grows (type_ids types) (type_shapes types) known)
      (several_spelled (type_shapes types) values fit range)

  pub number_fits : (n : ℕ) → Fits shape_of (number_content n)
  number_fits n = fits of_unsigned (more (an_unsigned (min n 18446744073709551615)) no_data) refl refl (rw (below n) refl)

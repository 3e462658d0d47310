-- The table of the kinds has what the kinds need.
use Rattle.std.proofs.Common.{◌≡◌, ℕ, ◌==◌, Bool, cond, List, [], ◌∷◌, Option, Some, refl, ap, sym, ◌∙◌}
use Rattle.std.proofs.lemmas.Cmp.{eq_by_cmp_equiv}
use Rattle.std.specs.Cmp.{nat_cmp_total, unsigned_tied}
use Rattle.std.specs.FinMap as finite
use Rattle.std.specs.Ordering.{nat_cmp, eq_by_cmp}
use Rattle.caf_types.specs.Table.{Named, Table, type_at}
use Rattle.caf_message.specs.Entries.{HasEntries}
use Rattle.caf_kinds.specs.Core.{core, core_entries}

found_is : (es : List (ℕ × Named)) (id : ℕ) → finite.find nat_cmp id es ≡ type_at es id
found_is [] id = refl
found_is (e ∷ es) id =
    let flipped : eq_by_cmp nat_cmp id e.0 ≡ (e.0 == id) = (eq_by_cmp_equiv nat_cmp_total).symm id e.0 ∙ unsigned_tied e.0 id in
    ap (λ (b : Bool). cond b (Some e.1) (finite.find nat_cmp id es)) flipped ∙ ap (λ (o : Option Named). cond (e.0 == id) (Some e.1) o) (found_is es id)

pub core_has : (t : Table) → t ≡ core → HasEntries t core_entries
core_has t same id n e =
    ap (λ (u : Table). type_at u.types id) same
    ∙ sym (finite.get-from_entries nat_cmp_total core.types id ∙ found_is core.types id) ∙ e

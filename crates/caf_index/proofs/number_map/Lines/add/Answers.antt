use Rattle.std.proofs.Common.{sym, ap, subst, ◌∙◌, not}
use Rattle.std.specs.Prelude.{is_some}
use Rattle.std.specs.Cmp.{nat_cmp_total}
use Rattle.std.specs.FinMap as map
use Rattle.std.specs.FinMap.{nat_cmp-IsAntisymmetric}
use Rattle.caf_index.specs.NumberMap.{IsFoundAt, IsPlaceFor}
use Rattle.caf_index.proofs.NumberMapLemmas.{insert_present, sorted-placed, view-placed, get-placed, get-found}
use Rattle.caf_index.proofs.number_map.Lines.add.Goals as goal

pub invariant_of-self-in-Err : goal.invariant_of-self-in-Err
invariant_of-self-in-Err c =
    sorted-placed c.args.line tt c.self.inside.entries.items _ c.in-Err.place c.self.invariant
    (subst (λ xs. IsPlaceFor xs c.args.line c.in-Err.place) c.as_slice.ensures.value c.in-Err.ensures.absent) c.in_ok-insert-in-Err.ensures.items

pub returns-in-Ok-clause-added : goal.returns-in-Ok-clause-added
returns-in-Ok-clause-added c =
    let found = subst (λ xs. IsFoundAt xs c.args.line c.in-Ok.field-0) c.as_slice.ensures.value c.in-Ok.ensures.found in
    let present = get-found c.args.line c.self.inside.entries.items c.in-Ok.field-0 c.self.invariant found (0, tt) in
    sym (insert_present nat_cmp_total nat_cmp-IsAntisymmetric c.args.self.now c.args.line tt (ap (λ m. map.get m c.args.line) (sym c.self.view_is) ∙ present))

pub returns-in-Ok-clause-is_new : goal.returns-in-Ok-clause-is_new
returns-in-Ok-clause-is_new c =
    let found = subst (λ xs. IsFoundAt xs c.args.line c.in-Ok.field-0) c.as_slice.ensures.value c.in-Ok.ensures.found in
    let present = get-found c.args.line c.self.inside.entries.items c.in-Ok.field-0 c.self.invariant found (0, tt) in
    sym (ap (λ o. not (is_some o)) (ap (λ m. map.get m c.args.line) (sym c.self.view_is) ∙ present))

pub returns-in_ok-insert-in-Err-clause-added : goal.returns-in_ok-insert-in-Err-clause-added
returns-in_ok-insert-in-Err-clause-added c =
    view-placed c.args.line tt c.self.inside.entries.items _ c.in-Err.place c.self.invariant
    (subst (λ xs. IsPlaceFor xs c.args.line c.in-Err.place) c.as_slice.ensures.value c.in-Err.ensures.absent) c.in_ok-insert-in-Err.ensures.items
    ∙ ap (λ m. map.insert m c.args.line tt) c.self.view_is

pub returns-in_ok-insert-in-Err-clause-is_new : goal.returns-in_ok-insert-in-Err-clause-is_new
returns-in_ok-insert-in-Err-clause-is_new c =
    let absent = get-placed c.args.line c.self.inside.entries.items c.in-Err.place c.self.invariant
    (subst (λ xs. IsPlaceFor xs c.args.line c.in-Err.place) c.as_slice.ensures.value c.in-Err.ensures.absent) in
    sym (ap (λ o. not (is_some o)) (ap (λ m. map.get m c.args.line) (sym c.self.view_is) ∙ absent))

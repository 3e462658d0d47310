use Rattle.std.proofs.Common.{ℕ, refl, sym, ap, subst, ◌∙◌, not, Some}
use Rattle.std.specs.Prelude.{unwrap_or, is_some}
use Rattle.std.specs.Ordering.{nat_cmp}
use Rattle.std.specs.FinMap as map
use Rattle.caf_index.specs.Index.{Lines}
use Rattle.caf_index.specs.NumberMap.{IsFoundAt, IsPlaceFor}
use Rattle.caf_index.proofs.NumberMapLemmas.{sorted-placed, view-placed, get-placed, sorted-found, view-found, get-found}
use Rattle.caf_index.proofs.number_map.Files.add_in_file.Goals as goal

pub invariant_of-self-in-Ok : goal.invariant_of-self-in-Ok
invariant_of-self-in-Ok c =
    let es = c.self.inside.entries.items in
    let found = subst (λ xs. IsFoundAt xs c.args.file c.in-Ok.place) c.as_slice.ensures.value c.in-Ok.ensures.found in
    let here = c.index_mut-entry.ensures.value in
    let key = ap (λ (e : ℕ × Lines). e.0) here ∙ found.1 c.index_mut-entry.result.now in
    sorted-found c.args.file c.index_mut-entry.result.now.0 c.add.new.self es _ c.in-Ok.place c.self.invariant found key refl

pub returns-in_ok-is_new-in-Ok-clause-added : goal.returns-in_ok-is_new-in-Ok-clause-added
returns-in_ok-is_new-in-Ok-clause-added c =
    let es = c.self.inside.entries.items in
    let found = subst (λ xs. IsFoundAt xs c.args.file c.in-Ok.place) c.as_slice.ensures.value c.in-Ok.ensures.found in
    let here = c.index_mut-entry.ensures.value in
    let key = ap (λ (e : ℕ × Lines). e.0) here ∙ found.1 c.index_mut-entry.result.now in
    let had = ap (λ m. map.get m c.args.file) (sym c.self.view_is) ∙ get-found c.args.file es c.in-Ok.place c.self.invariant found c.index_mut-entry.result.now
    ∙ ap (λ (e : ℕ × Lines). Some e.1) (sym here) in
    view-found c.args.file c.index_mut-entry.result.now.0 c.add.new.self es _ c.in-Ok.place c.self.invariant found key refl
    ∙ ap (λ m. map.insert m c.args.file c.add.new.self) c.self.view_is
    ∙ ap (map.insert c.args.self.now c.args.file) (c.in_ok-is_new-in-Ok.ensures.added ∙ ap (λ o. map.insert (unwrap_or o map.empty) c.args.line tt) (sym had))

pub returns-in_ok-is_new-in-Ok-clause-is_new : goal.returns-in_ok-is_new-in-Ok-clause-is_new
returns-in_ok-is_new-in-Ok-clause-is_new c =
    let es = c.self.inside.entries.items in
    let found = subst (λ xs. IsFoundAt xs c.args.file c.in-Ok.place) c.as_slice.ensures.value c.in-Ok.ensures.found in
    let here = c.index_mut-entry.ensures.value in
    let had = ap (λ m. map.get m c.args.file) (sym c.self.view_is) ∙ get-found c.args.file es c.in-Ok.place c.self.invariant found c.index_mut-entry.result.now
    ∙ ap (λ (e : ℕ × Lines). Some e.1) (sym here) in
    c.in_ok-is_new-in-Ok.ensures.is_new ∙ ap (λ o. not (map.contains_key (unwrap_or o map.empty) c.args.line)) (sym had)

pub invariant_of-self-in-Err : goal.invariant_of-self-in-Err
invariant_of-self-in-Err c =
    sorted-placed c.args.file c.add-in-Err.new.self c.self.inside.entries.items _ c.in-Err.place c.self.invariant
    (subst (λ xs. IsPlaceFor xs c.args.file c.in-Err.place) c.as_slice.ensures.value c.in-Err.ensures.absent) c.in_ok-insert-in-Err.ensures.items

pub returns-in_ok-insert-in-Err-clause-added : goal.returns-in_ok-insert-in-Err-clause-added
returns-in_ok-insert-in-Err-clause-added c =
    let place = subst (λ xs. IsPlaceFor xs c.args.file c.in-Err.place) c.as_slice.ensures.value c.in-Err.ensures.absent in
    let had = ap (λ m. map.get m c.args.file) (sym c.self.view_is) ∙ get-placed c.args.file c.self.inside.entries.items c.in-Err.place c.self.invariant place in
    view-placed c.args.file c.add-in-Err.new.self c.self.inside.entries.items _ c.in-Err.place c.self.invariant place c.in_ok-insert-in-Err.ensures.items
    ∙ ap (λ m. map.insert m c.args.file c.add-in-Err.new.self) c.self.view_is
    ∙ ap (map.insert c.args.self.now c.args.file)
    (c.in_ok-add-in-Err.ensures.added ∙ ap (λ m. map.insert m c.args.line tt) c.new-lines.ensures ∙ ap (λ o. map.insert (unwrap_or o map.empty) c.args.line tt) (sym had))

pub returns-in_ok-insert-in-Err-clause-is_new : goal.returns-in_ok-insert-in-Err-clause-is_new
returns-in_ok-insert-in-Err-clause-is_new c =
    let place = subst (λ xs. IsPlaceFor xs c.args.file c.in-Err.place) c.as_slice.ensures.value c.in-Err.ensures.absent in
    let had = ap (λ m. map.get m c.args.file) (sym c.self.view_is) ∙ get-placed c.args.file c.self.inside.entries.items c.in-Err.place c.self.invariant place in
    sym (ap (λ o. not (map.contains_key (unwrap_or o map.empty) c.args.line)) had
    ∙ ap not (ap is_some (map.get-empty nat_cmp c.args.line)))

use Rattle.std.proofs.Common.{◌≡◌, ℕ, sym, ap, subst, ◌∙◌, Some, None}
use Rattle.caf_types.specs.Table.{type_at, id_of}
use Rattle.caf_types.specs.Shape.{entry_view}
use Rattle.caf_types.specs.Listing.{Listing, types_of}
use Rattle.caf_types.proofs.FilingLemmas.{type_at-none, type_at-past, type_at-other, type_at-there, id_of-there, listed_there, listed_past}
use Rattle.caf_types.proofs.table.TypeTable.entry.Goals as goal

pub returns-in_err-position-clause-entry : goal.returns-in_err-position-clause-entry
returns-in_err-position-clause-entry c =
    let none = type_at-none _ c.args.id _ _ c.self.invariant (sym c.in_err-position.ensures.value) in
    rw c.from_residual.ensures (sym (subst (λ (v : Listing). type_at (types_of v.types) c.args.id ≡ None) c.self.view_is none))

pub returns-in_err-listed-clause-entry : goal.returns-in_err-listed-clause-entry
returns-in_err-listed-clause-entry c =
    let there = listed_past _ _ c.in_ok-position.field-0.now c.as_slice.ensures.value c.in_err-listed.ensures in
    let none = type_at-past _ c.in_ok-position.field-0.now c.args.id _ _ c.self.invariant (sym c.in_ok-position.ensures.value) there in
    rw c.from_residual-in_err-listed.ensures (sym (subst (λ (v : Listing). type_at (types_of v.types) c.args.id ≡ None) c.self.view_is none))

pub returns-then-listed-id-clause-entry : goal.returns-then-listed-id-clause-entry
returns-then-listed-id-clause-entry c =
    let there = listed_there _ _ c.in_ok-position.field-0.now c.in_ok-listed.listed.now c.as_slice.ensures.value c.in_ok-listed.ensures in
    let here = type_at-there _ c.in_ok-position.field-0.now _ _ _ c.self.invariant there in
    sym (subst (λ (v : Listing). type_at (types_of v.types) c.args.id ≡ Some (entry_view c.in_ok-listed.listed.now.entry)) c.self.view_is (subst (λ (n : ℕ). type_at (types_of c.self.inside.types.items) n ≡ Some (entry_view c.in_ok-listed.listed.now.entry)) c.if-listed-id.true here))

pub returns-then-listed-id-clause-found : goal.returns-then-listed-id-clause-found
returns-then-listed-id-clause-found c =
    let there = listed_there _ _ c.in_ok-position.field-0.now c.in_ok-listed.listed.now c.as_slice.ensures.value c.in_ok-listed.ensures in
    let here = id_of-there _ c.in_ok-position.field-0.now _ _ _ c.self.invariant there in
    subst (λ (v : Listing). id_of (types_of v.types) c.in_ok-listed.listed.now.entry.name ≡ Some c.args.id) c.self.view_is (here ∙ ap (λ (n : ℕ). Some n) c.if-listed-id.true)

pub returns-else-listed-id-clause-entry : goal.returns-else-listed-id-clause-entry
returns-else-listed-id-clause-entry c =
    let there = listed_there _ _ c.in_ok-position.field-0.now c.in_ok-listed.listed.now c.as_slice.ensures.value c.in_ok-listed.ensures in
    let none = type_at-other _ c.in_ok-position.field-0.now c.args.id _ _ _ c.self.invariant (sym c.in_ok-position.ensures.value) there c.if-listed-id.false in
    sym (subst (λ (v : Listing). type_at (types_of v.types) c.args.id ≡ None) c.self.view_is none)

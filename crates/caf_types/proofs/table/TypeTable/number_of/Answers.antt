use Rattle.std.proofs.Common.{◌≡◌, ℕ, sym, ap, subst, ◌∙◌, Some, None, List, false}
use Rattle.std.specs.Option.{option_map}
use Rattle.std.specs.Prelude.{bytes_eq}
use Rattle.std.proofs.lemmas.Slice.Eq.{bytes_eq-Decides}
use Rattle.caf_types.specs.Table.{Named, type_at, id_of}
use Rattle.caf_types.specs.Listing.{Listing, types_of}
use Rattle.caf_types.proofs.FilingLemmas.{id_of-none, id_of-past, id_of-other, type_at-there, id_of-there, listed_there, listed_past}
use Rattle.caf_types.proofs.table.TypeTable.number_of.Goals as goal

pub returns-in_err-position-clause-id : goal.returns-in_err-position-clause-id
returns-in_err-position-clause-id c =
    let none = id_of-none _ c.args.name.now _ _ c.self.invariant (sym c.in_err-position.ensures.value) in
    c.from_residual.ensures ∙ sym (subst (λ (v : Listing). id_of (types_of v.types) c.args.name.now ≡ None) c.self.view_is none)

pub returns-in_err-listed-clause-id : goal.returns-in_err-listed-clause-id
returns-in_err-listed-clause-id c =
    let there = listed_past _ _ c.in_ok-position.field-0.now c.as_slice.ensures.value c.in_err-listed.ensures in
    let none = id_of-past _ c.in_ok-position.field-0.now c.args.name.now _ _ c.self.invariant (sym c.in_ok-position.ensures.value) there in
    c.from_residual-in_err-listed.ensures ∙ sym (subst (λ (v : Listing). id_of (types_of v.types) c.args.name.now ≡ None) c.self.view_is none)

pub returns-then-eq-clause-id : goal.returns-then-eq-clause-id
returns-then-eq-clause-id c =
    let there = listed_there _ _ c.in_ok-position.field-0.now c.in_ok-listed.listed.now c.as_slice.ensures.value c.in_ok-listed.ensures in
    let here = id_of-there _ c.in_ok-position.field-0.now _ _ _ c.self.invariant there in
    let name = sym c.as_str.ensures.text ∙ (bytes_eq-Decides c.as_str.result.now c.args.name.now).0 (sym c.if-eq.ensures) in
    sym (subst (λ (v : Listing). id_of (types_of v.types) c.args.name.now ≡ Some c.in_ok-listed.listed.now.id) c.self.view_is (subst (λ (n : List ℕ). id_of (types_of c.self.inside.types.items) n ≡ Some c.in_ok-listed.listed.now.id) name here))

pub returns-then-eq-clause-named : goal.returns-then-eq-clause-named
returns-then-eq-clause-named c =
    let there = listed_there _ _ c.in_ok-position.field-0.now c.in_ok-listed.listed.now c.as_slice.ensures.value c.in_ok-listed.ensures in
    let here = type_at-there _ c.in_ok-position.field-0.now _ _ _ c.self.invariant there in
    let name = sym c.as_str.ensures.text ∙ (bytes_eq-Decides c.as_str.result.now c.args.name.now).0 (sym c.if-eq.ensures) in
    subst (λ (v : Listing). option_map (λ (n : Named). n.name) (type_at (types_of v.types) c.in_ok-listed.listed.now.id) ≡ Some c.args.name.now) c.self.view_is
    (ap (option_map (λ (n : Named). n.name)) here ∙ ap (λ (n : List ℕ). Some n) name)

pub returns-else-eq-clause-id : goal.returns-else-eq-clause-id
returns-else-eq-clause-id c =
    let there = listed_there _ _ c.in_ok-position.field-0.now c.in_ok-listed.listed.now c.as_slice.ensures.value c.in_ok-listed.ensures in
    let apart : bytes_eq c.in_ok-listed.listed.now.entry.name c.args.name.now ≡ false = subst (λ (n : List ℕ). bytes_eq n c.args.name.now ≡ false) c.as_str.ensures.text (sym c.if-eq.ensures) in
    let none = id_of-other _ c.in_ok-position.field-0.now c.args.name.now _ _ _ c.self.invariant (sym c.in_ok-position.ensures.value) there apart in
    sym (subst (λ (v : Listing). id_of (types_of v.types) c.args.name.now ≡ None) c.self.view_is none)

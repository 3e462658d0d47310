use Rattle.std.proofs.Common.{◌≡◌, true, false, ◌∙◌, sym, ap}
use Rattle.std.specs.Prelude.{nat_lt, ◌||◌}
use Rattle.std.specs.Option.{option_map}
use Rattle.caf_types.specs.Table.{Named, has_name, clashes}
use Rattle.caf_types.specs.Shape.{entry_views}
use Rattle.caf_types.specs.TypeTable.{seen}
use Rattle.caf_types.proofs.TableLemmas.{clash_here, clash_later, at_get}
use Rattle.caf_types.proofs.table.TypeTable.first_clash.Goals as goal

pub returns-then-has_clash : goal.returns-then-has_clash
returns-then-has_clash c =
    let e = c.index-entries-i.result in
    let ts = (seen c.args.self.now).types in
    let name : c.as_str-name.result.now ≡ e.name = c.as_str-name.ensures.text in
    let clash : clashes ts (entry_views c.args.entries.now) e.name ≡ true =
    ap (clashes ts (entry_views c.args.entries.now)) (sym name) ∙ ap (λ n. has_name ts c.as_str-name.result.now || nat_lt 1 n) (sym (c.in_ok-counts.ensures c.as_str-name.result.now)) ∙ sym c.if-has_clash.ensures in (
      e,
      at_get c.args.entries.now c.loop-i.i e c.loop-i-test.true c.index-entries-i.is,
      ap (option_map (λ (n : Named). n.name)) (clash_here (λ (n : Named). clashes ts (entry_views c.args.entries.now) n.name) c.args.entries.now c.loop-i.i e c.loop-i-test.true c.index-entries-i.is c.loop-i.invariant clash),
    )

pub loop-i-preserved : goal.loop-i-preserved
loop-i-preserved c =
    let e = c.index-entries-i.result in
    let ts = (seen c.args.self.now).types in
    let name : c.as_str-name.result.now ≡ e.name = c.as_str-name.ensures.text in
    let none : clashes ts (entry_views c.args.entries.now) e.name ≡ false =
    ap (clashes ts (entry_views c.args.entries.now)) (sym name) ∙ ap (λ n. has_name ts c.as_str-name.result.now || nat_lt 1 n) (sym (c.in_ok-counts.ensures c.as_str-name.result.now)) ∙ sym c.if-has_clash.ensures in
    clash_later (λ (n : Named). clashes ts (entry_views c.args.entries.now) n.name) c.args.entries.now c.loop-i.i e c.loop-i-test.true c.index-entries-i.is c.loop-i.invariant none

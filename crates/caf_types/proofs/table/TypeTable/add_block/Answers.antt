use Rattle.std.proofs.Common.{List, sym, subst, ap, ◌∙◌}
use Rattle.caf_types.specs.declared.shape.Entry.{Entry}
use Rattle.caf_types.specs.Table.{numbered, first_taken}
use Rattle.caf_types.specs.Shape.{entry_views}
use Rattle.caf_types.specs.Listing.{types_of}
use Rattle.caf_types.specs.New.{AreNew}
use Rattle.caf_types.proofs.NewLemmas.{block_new}
use Rattle.caf_types.proofs.table.TypeTable.add_block.Goals as goal

pub add_named_types-requires-clause-new : goal.add_named_types-requires-clause-new
add_named_types-requires-clause-new c =
    let ts = types_of c.args.self.now.types in
    let named = rw c.in-Ok.is at c.in_ok-entries.ensures in
    let free = ap (λ (es : List Entry). first_taken ts c.args.first (entry_views es)) (sym c.as_slice.ensures) ∙ sym c.first_taken.ensures ∙ c.in_default.is in
    subst (λ (es : List Entry). AreNew ts (numbered c.args.first (entry_views es))) (sym named.0) (block_new ts c.args.first (entry_views c.args.entries) free named.1)

use Rattle.std.proofs.Common.{sym}
use Rattle.caf_types.specs.Table.{shape_at}
use Rattle.caf_types.specs.TypeTable.{seen}
use Rattle.caf_kinds.proofs.AskedLemmas.{asked_is_meant, asked_is_none}
use Rattle.example_bank.specs.Entries.{table_grows, row_has}
use Rattle.example_bank.proofs.contents.row_in.Goals as goal

pub view-requires-clause-row_fits : goal.view-requires-clause-row_fits
view-requires-clause-row_fits g c =
    let t = seen c.args.table.now in
    row_has (shape_at t) (table_grows t c.requires.entries) g.T.Row.ids g.T.Row.shapes c.requires.known

pub returns-in-Ok-clause-row : goal.returns-in-Ok-clause-row
returns-in-Ok-clause-row g c =
    let t = seen c.args.table.now in
    sym (asked_is_meant (shape_at t) c.args.message.now.content g.T.Row.ids g.T.Row.shapes (g.T.Row.means c.in-Ok.row)
    (row_has (shape_at t) (table_grows t c.requires.entries) g.T.Row.ids g.T.Row.shapes c.requires.known) c.in-Ok.ensures.row)

pub returns-in-Err-Types-clause-row : goal.returns-in-Err-Types-clause-row
returns-in-Err-Types-clause-row g c =
    sym (asked_is_none c.args.message.now.content g.T.Row.ids g.T.Row.shapes (rw c.in-Err-Types.field-0-is at c.in-Err-Types.ensures.types))

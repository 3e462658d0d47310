use Rattle.std.proofs.Common.{[]}
use Rattle.caf_types.specs.Shape.{tree}
use Rattle.caf_words.specs.Value.{datum}
use Rattle.caf_report.proofs.values.form_of.Goals as goal

pub finish-requires : goal.finish-requires
finish-requires c = (tree c.args.shape.now, datum c.args.value.now, c.requires, c.in_ok-save_value.ensures.after [] c.new-saver.ensures)

pub returns : goal.returns
returns c = c.finish.ensures.form (tree c.args.shape.now) (datum c.args.value.now) c.requires (c.in_ok-save_value.ensures.after [] c.new-saver.ensures)

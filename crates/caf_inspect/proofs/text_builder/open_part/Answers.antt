use Rattle.std.proofs.Common.{◌∙◌, ap}
use Rattle.caf_inspect.specs.TextBuilder.{frames_of}
use Rattle.caf_inspect.proofs.TextBuilderLemmas.{last_first}
use Rattle.caf_inspect.proofs.text_builder.open_part.Goals as goal

pub returns : goal.returns
returns c = ap frames_of c.in_ok-add_part.ensures ∙ last_first c.args.parts.now.items c.args.part

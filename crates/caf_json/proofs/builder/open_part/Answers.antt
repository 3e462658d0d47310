use Rattle.std.proofs.Common.{◌∙◌, ap}
use Rattle.caf_json.specs.Builder.{frames_of}
use Rattle.caf_json.proofs.BuilderLemmas.{last_first}
use Rattle.caf_json.proofs.builder.open_part.Goals as goal

pub returns-clause-added : goal.returns-clause-added
returns-clause-added c = ap frames_of c.in_ok-add_part.ensures.added ∙ last_first c.args.parts.now.items c.args.part

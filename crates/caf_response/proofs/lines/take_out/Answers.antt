use Rattle.std.proofs.Common.{◌∙◌, sym, ap}
use Rattle.std.specs.Prelude.{is_some}
use Rattle.caf_message.specs.Lists.{pick}
use Rattle.caf_response.specs.Lines.{in_lines, has_key}
use Rattle.caf_response.proofs.PickLemmas.{is_some-pick, is_some-taken}
use Rattle.caf_response.proofs.lines.take_out.Goals as goal

pub returns-in-Some-clause-some : goal.returns-in-Some-clause-some
returns-in-Some-clause-some g c =
    sym (sym (is_some-pick (has_key g.T.Lined.key c.args.key) (in_lines c.args.lines.now.entries)) ∙ ap is_some c.in-Some.ensures.taken)

pub returns-in-None-clause-some : goal.returns-in-None-clause-some
returns-in-None-clause-some g c =
    is_some-taken (has_key g.T.Lined.key c.args.key) c.take_alone.result _ (in_lines c.args.lines.now.entries)
    (c.take_alone.ensures.taken ∙ ap (pick (has_key g.T.Lined.key c.args.key)) c.in-None.ensures.kept)

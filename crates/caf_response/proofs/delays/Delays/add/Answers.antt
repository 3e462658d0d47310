use Rattle.caf_response.specs.Lines.{in_lines}
use Rattle.caf_response.proofs.DelayLemmas.{added-plain}
use Rattle.caf_response.proofs.delays.Delays.add.Goals as goal
use Rattle.caf_response.proofs.delays.Delays.add.Goals.{in-Ok, in-Err}

pub returns-clause-added : goal.returns-clause-added
returns-clause-added c = elim c.match-add_to.branch [
  | in-Ok w ↦
      rw w.result-is
      (added-plain (in_lines c.self.inside.lines.entries) (in_lines c.add_to.new.lines.entries) (record { due = c.args.due; to = c.args.to; priority = c.args.priority; message = c.args.message }) c.args.self.now c.self.view_is w.in-Ok.ensures.added)
  | in-Err w ↦ rw w.result-is tt
]

use Rattle.std.proofs.Common.{ap}
use Rattle.std.specs.Option.{option_map}
use Rattle.std.specs.Prelude.{is_some}
use Rattle.caf_response.specs.Delays.{as_parcel}
use Rattle.caf_response.specs.Lines.{in_lines}
use Rattle.caf_response.proofs.DelayLemmas.{given-plain, none-plain, given-some}
use Rattle.caf_response.proofs.delays.Delays.next.Goals as goal
use Rattle.caf_response.proofs.delays.Delays.next.Goals.{in-Some, in-None}

pub returns-clause-next : goal.returns-clause-next
returns-clause-next c = elim c.match-take_within.branch [
  | in-Some w ↦
      rw w.result-is
      (given-plain w.in-Some.item (in_lines c.self.inside.lines.entries) (in_lines c.take_within.new.lines.entries) c.args.now w.in-Some.ensures.taken c.args.self.now c.self.view_is)
  | in-None w ↦ rw w.result-is (ap (option_map as_parcel) (none-plain (in_lines c.self.inside.lines.entries) c.args.now w.in-None.ensures.taken c.args.self.now c.self.view_is))
]

pub returns-clause-some : goal.returns-clause-some
returns-clause-some c = elim c.match-take_within.branch [
  | in-Some w ↦
      rw w.result-is
      (given-some w.in-Some.item (in_lines c.self.inside.lines.entries) (in_lines c.take_within.new.lines.entries) c.args.now w.in-Some.ensures.taken c.args.self.now c.self.view_is)
  | in-None w ↦ rw w.result-is (ap is_some (none-plain (in_lines c.self.inside.lines.entries) c.args.now w.in-None.ensures.taken c.args.self.now c.self.view_is))
]

use Rattle.caf_actor.specs.Record.{machine_of}
use Rattle.caf_record.proofs.OutsideLemmas.{hears}
use Rattle.caf_record.proofs.laws.outside_in_turn.Goals as goal

pub returns : goal.returns
returns g c = λ ticks k legal. hears (machine_of g.B.Behavior.rules) ticks k legal

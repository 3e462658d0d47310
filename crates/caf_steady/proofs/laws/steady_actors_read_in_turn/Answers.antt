use Rattle.caf_steady.proofs.ReadingLemmas.{reads_in_turn}
use Rattle.caf_steady.proofs.laws.steady_actors_read_in_turn.Goals as goal

pub returns : goal.returns
returns g c = reads_in_turn g.B.Behavior.rules

use Rattle.std.proofs.Common.{rules}
use Rattle.caf_turns.proofs.RuleLemmas.{splits}
use Rattle.caf_turns.proofs.turns.Turns.split.Goals as goal

pub split_seat-seat-requires : goal.split_seat-seat-requires
split_seat-seat-requires g c = (search rules, search rules, splits _ _ _ _ c.seat.invariant.6 (search rules))

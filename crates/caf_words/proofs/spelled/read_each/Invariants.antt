use Rattle.std.proofs.Common.{◌≡◌, map, ◌-◌}
use Rattle.caf_words.specs.Reading.{many, reading}
use Rattle.caf_words.proofs.LoopLemmas.{with_front}
use Rattle.caf_words.proofs.spelled.read_each.Given as goal

abbrev pub invariant-loop : goal.invariant-loop
invariant-loop g l = with_front (map g.T.Spelled.means l.items) (many (reading g.T.Spelled.shape) (l.count - l.counter) l.rest) ≡ many (reading g.T.Spelled.shape) l.count l.words

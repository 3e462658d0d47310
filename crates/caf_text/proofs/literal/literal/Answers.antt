use Rattle.caf_text.proofs.LoopLemmas.{literal_short}
use Rattle.caf_text.proofs.literal.literal.Goals as goal

pub returns-in-empty : goal.returns-in-empty
returns-in-empty c = literal_short c.args.word.now c.loop-byte.rest.now c.loop-byte.byte-index _ c.loop-byte-test.true c.in-empty.len_below c.loop-byte.invariant

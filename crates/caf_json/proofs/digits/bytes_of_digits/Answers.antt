use Rattle.std.proofs.Common.{sym}
use Rattle.caf_json.proofs.DigitsLoopLemmas.{one_more}
use Rattle.caf_json.proofs.digits.bytes_of_digits.Goals as goal

pub loop-rest-preserved : goal.loop-rest-preserved
loop-rest-preserved c =
    rw (c.in_ok-add_byte.ensures, c.split_at.ensures.back)
    (one_more c.loop-rest.bytes.items c.loop-rest.rest.now c.in-Some.byte _ c.loop-rest-test.true (sym c.in-Some.ensures) c.loop-rest.invariant)

use Rattle.caf_events.proofs.TellingLemmas.{tells_cons}
use Rattle.caf_inspect.proofs.tests.SummaryInspect.save.Goals as goal

pub returns : goal.returns
returns g c =
    tells_cons c.in_ok-object.ensures.added
    (tells_cons c.in_ok-field.ensures.added (tells_cons c.in_ok-unsigned.ensures.added
    (tells_cons c.in_ok-field-2.ensures.added (tells_cons c.in_ok-unsigned-2.ensures.added
    (tells_cons c.in_ok-field-3.ensures.added (rw c.as_str.ensures at c.in_ok-text.ensures.added))))))

-- What the JSON saver was told.
use Rattle.std.specs.Prelude.{◌≡◌, true, false, List, []}
use Rattle.serde_json.specs.Data.{null}
use Rattle.caf_events.specs.Event.{Event}
use Rattle.caf_events.specs.Item.{events_in}
use Rattle.caf_events.specs.Range.{AreInRange}
use Rattle.caf_json.specs.Stack.{state, steps}
use Rattle.caf_json.specs.Builder.{built, IsOpen}
use Rattle.caf_json.specs.declared.saver.JsonSaver.{JsonSaver}

-- the saver was told the events: it has built what they build, or is to build it anew, which is so only
-- while they aren't a whole value
pub record SavesJson (saver : JsonSaver) (es : List Event) : Type 0 where
  pub listed : events_in saver.items.items ≡ es
  pub whole : saver.is_broken ≡ false → built saver.builder ≡ steps (state [] null) es
  pub broken : saver.is_broken ≡ true → IsOpen (steps (state [] null) es)
  pub range : AreInRange es

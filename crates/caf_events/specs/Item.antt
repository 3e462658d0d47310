-- The events that a loader keeps.
use Rattle.std.specs.Prelude.{List, map}
use Rattle.caf_events.specs.Event.{Event, unit, flag, unsigned, signed, text, bytes, place, list, object, field}
use Rattle.caf_events.specs.declared.item.Item.{Item}
use Rattle.caf_events.specs.declared.item.Item.TheVariants as items

abbrev pub event_of : Item → Event
event_of items.Unit = unit
event_of (items.Flag b) = flag b
event_of (items.Unsigned n) = unsigned n
event_of (items.Signed z) = signed z
event_of (items.Text t) = text t
event_of (items.Bytes bs) = bytes bs
event_of (items.Place n) = place n
event_of (items.List n) = list n
event_of (items.Object n) = object n
event_of (items.Field name) = field name

abbrev pub events_in : List Item → List Event
events_in items = map event_of items

-- What a queue of events holds.
use Rattle.std.specs.Prelude.{◌≡◌, List}
use Rattle.caf_events.specs.Event.{Event}
use Rattle.caf_events.specs.Item.{events_in}
use Rattle.caf_events.specs.declared.queue.EventQueue.{EventQueue}

-- the events that were told and not yet taken
abbrev pub queued : EventQueue → List Event
queued queue = events_in queue.items.items

abbrev pub QueueHas : EventQueue → List Event → Type 0
QueueHas queue es = queued queue ≡ es

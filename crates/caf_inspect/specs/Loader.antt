-- The events that a loader has left.
use Rattle.std.specs.Prelude.{List}
use Rattle.caf_events.specs.Event.{Event}
use Rattle.caf_events.specs.Queue.{queued}
use Rattle.caf_inspect.specs.declared.loader.Loader.{Loader}

abbrev pub loader_left : {F : Type 0} → Loader F → List Event
loader_left loader = queued loader.events

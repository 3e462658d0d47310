-- The same notice for each of several places.
use Rattle.std.specs.Prelude.{ℕ}
use Rattle.caf_types.specs.declared.reason.Reason.TheVariants.{Kill}
use Rattle.caf_actor.specs.PlainOutput.{PlainOutput}
use Rattle.caf_actor.specs.PlainOutput as output
use Rattle.caf_kinds.specs.declared.signal.Signal.{Signal}
use Rattle.caf_kinds.specs.declared.signal.Signal.TheVariants as signal

abbrev pub signalled : Signal → ℕ → PlainOutput
signalled signal.Watch p = output.Watch p
signalled signal.Link p = output.Link p
signalled signal.Tick p = output.Tick p
signalled signal.Kill p = output.Exit p Kill

-- What the text saver was told.
use Rattle.std.specs.Prelude.{◌≡◌, List, [], string_bytes}
use Rattle.caf_events.specs.Event.{Event}
use Rattle.caf_events.specs.Range.{AreInRange}
use Rattle.caf_inspect.specs.TextBuilder.{frames_of}
use Rattle.caf_inspect.specs.TextStack.{State, state, steps}
use Rattle.caf_inspect.specs.declared.text_saver.TextSaver.{TextSaver}

abbrev pub text_state : TextSaver → State
text_state saver = state (frames_of saver.parts.items) (string_bytes saver.text)

-- the saver is where the events lead
pub record SavesText (saver : TextSaver) (es : List Event) : Type 0 where
  pub form : text_state saver ≡ steps (state [] []) es
  pub range : AreInRange es

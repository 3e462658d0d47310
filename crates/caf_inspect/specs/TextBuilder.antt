-- What a builder of text has written.
use Rattle.std.specs.Prelude.{List, [], ◌∷◌, string_bytes}
use Rattle.caf_inspect.specs.TextStack.{Frame, in_list, in_object, State, state}
use Rattle.caf_inspect.specs.declared.text_builder.Open.{Open}
use Rattle.caf_inspect.specs.declared.text_builder.Open.TheVariants as parts
use Rattle.caf_inspect.specs.declared.text_builder.TextBuilder.{TextBuilder}

abbrev pub frame_of : Open → Frame
frame_of (parts.List missing) = in_list missing
frame_of (parts.Object missing) = in_object missing

-- a part that was opened later stands before those around it
abbrev pub frames_onto : List Frame → List Open → List Frame
frames_onto fs [] = fs
frames_onto fs (p ∷ ps) = frames_onto (frame_of p ∷ fs) ps

abbrev pub frames_of : List Open → List Frame
frames_of ps = frames_onto [] ps

abbrev pub built : TextBuilder → State
built builder = state (frames_of builder.parts.items) (string_bytes builder.text)

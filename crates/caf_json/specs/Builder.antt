-- What a builder of JSON has built.
use Rattle.std.specs.Prelude.{List, [], ◌∷◌, map}
use Rattle.serde_json.specs.View.{view, members_view}
use Rattle.caf_json.specs.Stack.{Frame, in_array, in_object, State, state, give}
use Rattle.serde_json.specs.Data.{Data as Json}
use Rattle.caf_json.specs.declared.part.Part.{Part}
use Rattle.caf_json.specs.declared.part.Part.TheVariants as parts
use Rattle.caf_json.specs.declared.builder.Builder.{Builder}
use Rattle.caf_json.specs.declared.builder.Filled.{Filled}
use Rattle.caf_json.specs.declared.builder.Filled.TheVariants as filled

abbrev pub frame_of : Part → Frame
frame_of (parts.Array missing items) = in_array missing (map view items.items)
frame_of (parts.Object missing members key) = in_object missing (members_view members.entries) key

-- a part that was opened later stands before those around it
abbrev pub frames_onto : List Frame → List Part → List Frame
frames_onto fs [] = fs
frames_onto fs (p ∷ ps) = frames_onto (frame_of p ∷ fs) ps

abbrev pub frames_of : List Part → List Frame
frames_of ps = frames_onto [] ps

abbrev pub built : Builder → State
built builder = state (frames_of builder.parts.items) (view builder.last)

-- what became of an open part: it is still open among those around it, or whole and put into them
abbrev pub filled_state : List Frame → Json → Filled → State
filled_state fs last (filled.Open p) = state (frame_of p ∷ fs) last
filled_state fs last (filled.Whole j) = give fs last (view j)

-- an array or an object is open
abbrev pub IsOpen : State → Type 0
IsOpen (state [] last) = ⊥
IsOpen (state (f ∷ fs) last) = Unit {0}

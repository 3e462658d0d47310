-- Writing a text form from events, with the open lists and objects on a stack.
use Rattle.std.specs.Prelude.{ℕ, zero, suc, List, [], ◌∷◌, ◌++◌}
use Rattle.caf_text.specs.TextForm.{comma, colon, scalar_text}
use Rattle.caf_words.specs.Datum.{a_unit, a_flag, an_unsigned, a_signed, a_text, some_bytes, a_place}
use Rattle.caf_events.specs.Event as event
use Rattle.caf_events.specs.Event.{Event}

-- an open part: how many values are missing behind the next one
pub data Frame : Type 0 where
  in_list : ℕ → Frame
  in_object : ℕ → Frame

-- the open parts, the innermost first, and the text so far
pub data State : Type 0 where
  state : List Frame → List ℕ → State

-- behind a value stands a comma, or where it was the last one the closing byte
abbrev pub given : ℕ → (ℕ → Frame) → ℕ → List Frame → List ℕ → (List ℕ → State) → State
given zero frame closing fs t up = up (t ++ closing ∷ [])
given (suc n) frame closing fs t up = state (frame n ∷ fs) (t ++ comma)

-- a value was written into the innermost open part
abbrev pub give : List Frame → List ℕ → State
give [] t = state [] t
give (in_list n ∷ fs) t = given n in_list 93 fs t (give fs)
give (in_object n ∷ fs) t = given n in_object 125 fs t (give fs)

abbrev pub opened : ℕ → (ℕ → Frame) → ℕ → ℕ → List Frame → List ℕ → State
opened zero frame opening closing fs t = give fs (t ++ opening ∷ closing ∷ [])
opened (suc n) frame opening closing fs t = state (frame n ∷ fs) (t ++ opening ∷ [])

abbrev pub take_in : Event → List Frame → List ℕ → State
take_in event.unit fs t = give fs (t ++ scalar_text a_unit)
take_in (event.flag b) fs t = give fs (t ++ scalar_text (a_flag b))
take_in (event.unsigned n) fs t = give fs (t ++ scalar_text (an_unsigned n))
take_in (event.signed z) fs t = give fs (t ++ scalar_text (a_signed z))
take_in (event.text bs) fs t = give fs (t ++ scalar_text (a_text bs))
take_in (event.bytes bs) fs t = give fs (t ++ scalar_text (some_bytes bs))
take_in (event.place n) fs t = give fs (t ++ scalar_text (a_place n))
take_in (event.list n) fs t = opened n in_list 91 93 fs t
take_in (event.object n) fs t = opened n in_object 123 125 fs t
take_in (event.field name) fs t = state fs ((t ++ name) ++ colon)

abbrev pub step : State → Event → State
step (state fs t) e = take_in e fs t

abbrev pub steps : State → List Event → State
steps s [] = s
steps s (e ∷ es) = steps (step s e) es

-- with a text in front of what was written
abbrev pub put_behind : List ℕ → State → State
put_behind front (state fs t) = state fs (front ++ t)

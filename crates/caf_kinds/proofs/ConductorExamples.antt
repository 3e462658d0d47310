-- What a conductor does, worked by hand: it asks a cell for its number, waits for it, tells it to keep 7, and asks
-- once more after a tick.
use Rattle.std.proofs.Common.{◌≡◌, ℕ, false, List, [], ◌∷◌, refl}
use Rattle.caf_types.specs.declared.notice.Priority.TheVariants as priority
use Rattle.caf_types.specs.declared.reason.Reason.TheVariants as reason
use Rattle.caf_types.specs.declared.sec.Sec.TheVariants as sec
use Rattle.caf_types.specs.declared.shape.TypeId.{TypeId}
use Rattle.caf_response.specs.declared.pending.Mode.TheVariants as mode
use Rattle.caf_actor.specs.PlainInput.{Start, Stop, Response, Failed, Tick}
use Rattle.caf_actor.specs.PlainOutput.{PlainOutput}
use Rattle.caf_actor.specs.PlainOutput as output
use Rattle.caf_actor.specs.PlainReaction as answer
use Rattle.caf_script.specs.Step.{Step}
use Rattle.caf_script.specs.Step as step
use Rattle.caf_script.specs.Reply.{Reply, Unsent, Open, Answered}
use Rattle.caf_script.specs.Reply as reply
use Rattle.caf_kinds.specs.Who.{Who}
use Rattle.caf_kinds.specs.Reacting.{sends}
use Rattle.caf_kinds.specs.Conductor.{Conducting, reacted}

abbrev place_0 : Who
place_0 = record { place = 0; peers = 1 ∷ 2 ∷ []; reserve = [] }

abbrev a_number : List TypeId
a_number = record { 0 = 3 } ∷ []

-- [get], as the request of that step
abbrev get : ℕ → PlainOutput
get n = output.Request 1 priority.Normal mode.Multiplexed n a_number (1 ∷ 215 ∷ 0 ∷ [])

-- [put, 7]
abbrev put : PlainOutput
put = output.Tell 1 priority.Normal (2 ∷ 214 ∷ 3 ∷ 0 ∷ 7 ∷ [])

abbrev behind_it : List Step
behind_it = step.Send put ∷ step.Tick ∷ step.Ask (get 5) a_number ∷ []

abbrev conducting : List Step → List (List TypeId) → List Reply → Conducting
conducting plan expected replies = record { identity = place_0; script = record { plan = plan; expected = expected; replies = replies; ticks = 0; is_over = false } }

abbrev at_first : Conducting
at_first = conducting (step.Ask (get 1) a_number ∷ step.Sync ∷ behind_it) [] (Unsent ∷ Unsent ∷ Unsent ∷ Unsent ∷ Unsent ∷ [])

abbrev asked : Conducting
asked = conducting (step.Sync ∷ behind_it) (a_number ∷ []) (Open ∷ Unsent ∷ Unsent ∷ Unsent ∷ Unsent ∷ [])

asks_first : reacted at_first Start ≡ (asked, sends (get 1 ∷ []) answer.Nothing)
asks_first = refl

-- the number 4 comes: the sync is passed, and the next step waits for a tick
abbrev answered : Conducting
answered = conducting (step.Tick ∷ step.Ask (get 5) a_number ∷ []) (a_number ∷ [] ∷ [] ∷ []) (Answered (4 ∷ []) ∷ Unsent ∷ Unsent ∷ Unsent ∷ Unsent ∷ [])

goes_on_at_the_answer : reacted asked (Response 1 (1 ∷ 3 ∷ 4 ∷ [])) ≡ (answered, sends (put ∷ []) answer.Nothing)
goes_on_at_the_answer = refl

-- content of other types is no answer
other_types_are_an_error : (reacted asked (Response 1 (1 ∷ 2 ∷ 4 ∷ []))).0.script.replies ≡ reply.Failed sec.UnexpectedResponse ∷ Unsent ∷ Unsent ∷ Unsent ∷ Unsent ∷ []
other_types_are_an_error = refl

-- an error passes the sync too
goes_on_at_an_error : (reacted asked (Failed 1 sec.BrokenPromise)).1 ≡ sends (put ∷ []) answer.Nothing
goes_on_at_an_error = refl

-- the tick is handed on, and then the last request goes out
hands_the_tick_on : (reacted answered Tick).1 ≡ sends (output.Tick 1 ∷ output.Tick 2 ∷ get 5 ∷ []) answer.Nothing
hands_the_tick_on = refl

-- a tick that comes while a request waits is used later
keeps_a_tick : (reacted (reacted asked Tick).0 (Response 1 (1 ∷ 3 ∷ 4 ∷ []))).1 ≡ sends (put ∷ get 5 ∷ []) answer.Nothing
keeps_a_tick = refl

ends_all : (reacted asked Stop).1 ≡ sends (output.Exit 1 reason.Kill ∷ output.Exit 2 reason.Kill ∷ []) answer.Nothing
ends_all = refl

-- after Stop an answer is kept, and nothing is sent
is_silent_then : (reacted (reacted asked Stop).0 (Response 1 (1 ∷ 3 ∷ 4 ∷ []))).1 ≡ sends [] answer.Nothing
is_silent_then = refl

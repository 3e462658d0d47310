-- A step in form: what it does, its further members in order, then those that are too many.
use Rattle.std.specs.Prelude.{ℕ, codes, List, Option, Some, None, Ok}
use Rattle.serde_json.specs.Data.{Data as Json}
use Rattle.serde_json.specs.Find.{get}
use Rattle.caf_response.specs.declared.pending.Mode.{Mode}
use Rattle.caf_response.specs.declared.pending.Mode.TheVariants as mode
use Rattle.caf_types.specs.declared.notice.Priority.TheVariants as priority
use Rattle.caf_scenario.specs.declared.forms.Deed.{Deed}
use Rattle.caf_scenario.specs.declared.forms.Deed.TheVariants as deed
use Rattle.caf_scenario.specs.declared.surplus.Bearer.TheVariants as bearer
use Rattle.caf_scenario.specs.declared.written.Way.{Way}
use Rattle.caf_scenario.specs.declared.written.Way.TheVariants as way
use Rattle.caf_scenario.specs.Path.{at_member, step_path}
use Rattle.caf_scenario.specs.Forms.{name_in, number_in, priority_in, reason_in, deed_in, message_in, must_have, may_have}
use Rattle.caf_scenario.specs.Surplus.{surplus_in, nothing_more}
use Rattle.caf_scenario.specs.ActorForm.{in_object}
use Rattle.caf_scenario.specs.Written.{StepText, send, exit, sync, tick}
use Rattle.caf_scenario.specs.Read.{Cause, field, Read, ◌>>=◌, or_cause}

-- ---- content

abbrev pub tell_in : List ℕ → Json → Read StepText
tell_in path json =
    must_have name_in path (codes "to") json >>= λ to.
    must_have message_in path (codes "message") json >>= λ message.
    may_have priority_in priority.Normal path (codes "priority") json >>= λ priority.
    nothing_more (at_member path) (surplus_in bearer.Tell json) (send way.Tell to message priority)

-- a request that waits so many ticks, or as long as it takes
abbrev pub way_of : Mode → Cause → Option Json → Read Way
way_of mode e None = Ok (way.Request mode)
way_of mode e (Some json) = or_cause e (number_in 1 1000 json) >>= λ ticks. Ok (way.Within mode ticks)

abbrev pub request_in : Mode → List ℕ → Json → Read StepText
request_in mode path json =
    must_have name_in path (codes "to") json >>= λ to.
    must_have message_in path (codes "message") json >>= λ message.
    may_have priority_in priority.Normal path (codes "priority") json >>= λ priority.
    way_of mode (field (at_member path (codes "within"))) (get (codes "within") json) >>= λ way.
    nothing_more (at_member path) (surplus_in bearer.Request json) (send way to message priority)

-- ---- the others

abbrev pub exit_in : List ℕ → Json → Read StepText
exit_in path json =
    must_have name_in path (codes "to") json >>= λ to.
    must_have reason_in path (codes "reason") json >>= λ reason.
    nothing_more (at_member path) (surplus_in bearer.Exit json) (exit to reason)

abbrev pub bare_in : StepText → List ℕ → Json → Read StepText
bare_in step path json = nothing_more (at_member path) (surplus_in bearer.Bare json) step

-- ---- the step at a position

abbrev pub deed_done : Deed → List ℕ → Json → Read StepText
deed_done deed.Tell path json = tell_in path json
deed_done deed.Request path json = request_in mode.Multiplexed path json
deed_done deed.Await path json = request_in mode.Awaited path json
deed_done deed.Exit path json = exit_in path json
deed_done deed.Sync path json = bare_in sync path json
deed_done deed.Tick path json = bare_in tick path json

abbrev pub step_of : ℕ → Json → Read StepText
step_of i json = in_object (step_path i) json (must_have deed_in (step_path i) (codes "do") json >>= λ deed. deed_done deed (step_path i) json)

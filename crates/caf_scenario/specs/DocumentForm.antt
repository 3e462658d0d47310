-- A document in form: its actors, its steps, and no other member.
use Rattle.std.specs.Prelude.{codes, List, [], option_and_then}
use Rattle.serde_json.specs.Data.{Data as Json}
use Rattle.serde_json.specs.Find.{get}
use Rattle.caf_scenario.specs.declared.surplus.Bearer.TheVariants as bearer
use Rattle.caf_scenario.specs.declared.written.WrittenActor.{WrittenActor}
use Rattle.caf_scenario.specs.Forms.{elements_in}
use Rattle.caf_scenario.specs.Surplus.{surplus_in, nothing_more}
use Rattle.caf_scenario.specs.ActorForm.{in_object, actor_of}
use Rattle.caf_scenario.specs.StepForm.{step_of}
use Rattle.caf_scenario.specs.Written.{StepText, Document}
use Rattle.caf_scenario.specs.Read.{field, Read, ◌>>=◌, or_cause, each_of}

abbrev pub actors_in : Json → Read (List WrittenActor)
actors_in json = or_cause (field (codes "actors")) (option_and_then elements_in (get (codes "actors") json)) >>= each_of actor_of 0

abbrev pub script_in : Json → Read (List StepText)
script_in json = or_cause (field (codes "script")) (option_and_then elements_in (get (codes "script") json)) >>= each_of step_of 0

-- actors with all that is in them come before the script, and the script before members that are too many
abbrev pub document_of : Json → Read Document
document_of json = in_object [] json (
    actors_in json >>= λ actors.
    script_in json >>= λ script.
    nothing_more (λ name. name) (surplus_in bearer.Document json) (record { actors = actors; script = script }))

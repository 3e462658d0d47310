-- The steps of a script: what each sends, and what it waits for.
use Rattle.std.specs.Prelude.{List, [], ◌∷◌}
use Rattle.caf_types.specs.declared.shape.TypeId.{TypeId}
use Rattle.caf_actor.specs.PlainForms.{plain_output}
use Rattle.caf_actor.specs.PlainOutput.{PlainOutput}
use Rattle.caf_script.specs.declared.step.Planned.{Planned}
use Rattle.caf_script.specs.declared.step.Planned.TheVariants as planned
use Rattle.caf_script.specs.declared.step.Wait.{Wait}
use Rattle.caf_script.specs.declared.step.Wait.TheVariants as wait

-- a step, with contents as words
pub data Step : Type 0 where
  Send : PlainOutput → Step
  Ask : PlainOutput → List TypeId → Step
  Sync : Step
  Tick : Step

abbrev pub plain_step : Planned → Step
plain_step (planned.Send o) = Send (plain_output o)
plain_step (planned.Ask o types) = Ask (plain_output o) types
plain_step planned.Sync = Sync
plain_step planned.Tick = Tick

abbrev pub waits_for : Step → Wait
waits_for (Send o) = wait.Nothing
waits_for (Ask o types) = wait.Nothing
waits_for Sync = wait.Replies
waits_for Tick = wait.Tick

-- what it sends
abbrev pub sent : Step → List PlainOutput
sent (Send o) = o ∷ []
sent (Ask o types) = o ∷ []
sent Sync = []
sent Tick = []

-- the types of its answer; none where it is no request
abbrev pub expects : Step → List TypeId
expects (Ask o types) = types
expects _ = []

-- What the conductor of an undisturbed script sends.
use Rattle.std.specs.Prelude.{◌≡◌, ℕ, ◌+◌, List, [], ◌∷◌, length}
use Rattle.caf_types.specs.declared.shape.TypeId.{TypeId}
use Rattle.caf_response.specs.declared.pending.Mode.TheVariants.{Multiplexed}
use Rattle.caf_actor.specs.PlainInput.{Start}
use Rattle.caf_actor.specs.PlainOutput.{PlainOutput, Tell, Request}
use Rattle.caf_kinds.specs.Conductor.{Conducting}
use Rattle.caf_kinds.specs.Conductor as conductor
use Rattle.caf_kinds.specs.Asking.{type_id}
use Rattle.caf_kinds.specs.Planning.{conductor_of}
use Rattle.caf_kinds.specs.Who.{Who}
use Rattle.caf_kinds.specs.declared.script.Step.{Step}
use Rattle.caf_kinds.specs.declared.setup.Setup.{Setup}
use Rattle.caf_pipeline.specs.Undisturbed.{Pipeline, IsUndisturbed}
use Rattle.caf_pipeline.specs.Parts.{start_content, index_content, totals_content}

-- a summary is content of the type 203, a total of the type 204
abbrev pub summary_types : List TypeId
summary_types = type_id 203 ∷ []

abbrev pub total_types : List TypeId
total_types = type_id 204 ∷ []

abbrev pub IsTell : ℕ → List ℕ → PlainOutput → Type 0
IsTell place words (Tell to priority said) = (to ≡ place) × (said ≡ words)
IsTell place words _ = ⊥

-- a request with that tag, which expects those types
abbrev pub IsRequest : ℕ → ℕ → List TypeId → List ℕ → PlainOutput → Type 0
IsRequest place number types words (Request to priority mode tag expected said) = (to ≡ place) × (mode ≡ Multiplexed) × (tag ≡ number) × (expected ≡ types) × (said ≡ words)
IsRequest place number types words _ = ⊥

-- requests of the totals, with tags from that one on
abbrev pub AreTotals : ℕ → ℕ → List PlainOutput → Type 0
AreTotals place number [] = Unit {0}
AreTotals place number (o ∷ os) = IsRequest place number total_types totals_content o × AreTotals place (number + 1) os

-- one message for each step: the source is told to start, and the collector is asked for the index, and for totals
abbrev pub AreSent : Pipeline → List PlainOutput → Type 0
AreSent p (first ∷ second ∷ others) = IsTell p.source start_content first × IsRequest p.collector 2 summary_types index_content second × AreTotals p.collector 3 others
AreSent p _ = ⊥

-- at Start the conductor sends one message for each step, and has none left
pub record PlaysAll (p : Pipeline) (script : List Step) (s : Conducting) : Type 0 where
  pub sent : AreSent p (conductor.reacted s Start).1.outputs
  pub each : length (conductor.reacted s Start).1.outputs ≡ length script
  pub none_left : (conductor.reacted s Start).0.script.plan ≡ []

abbrev pub UndisturbedScriptIsSent : Type 0
UndisturbedScriptIsSent = (who : Who) (setups : List Setup) (script : List Step) (is : IsUndisturbed setups script) → PlaysAll is.pipeline script (conductor_of who setups script)

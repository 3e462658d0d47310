-- The scenario that the words choose can be played over files within the limits.
use Rattle.std.proofs.Common.{ℕ, List, Option, Some, None, arith}
use Rattle.caf_io.specs.Files.{Content}
use Rattle.caf_corpus.specs.Corpus.{IsWithin}
use Rattle.caf_opening.specs.Opening.{CanOpen}
use Rattle.caf_scenario.specs.declared.scenario.Scenario.{Scenario}
use Rattle.caf_typing.specs.Opens.{ValidScenarioOpens, BuiltinOpens}
use Rattle.caf_cli.specs.Promises.{IsChosen}
use Rattle.caf_cli.proofs.LinesLemmas.{within_is_short}

pub chosen_opens : ValidScenarioOpens → BuiltinOpens → (told : Option Content) (name : Option (List ℕ)) (scenario : Scenario) (corpus : List (List ℕ))
    → IsChosen told name scenario → IsWithin corpus → CanOpen scenario.setups scenario.script corpus
chosen_opens valid built_in told (Some name) scenario corpus chosen within = valid chosen.bytes scenario corpus chosen.valid chosen.said (within_is_short corpus within)
chosen_opens valid built_in told None scenario corpus chosen within = built_in 4 scenario corpus (omega arith) (omega arith) chosen (within_is_short corpus within)

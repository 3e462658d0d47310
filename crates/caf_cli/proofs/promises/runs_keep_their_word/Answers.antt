use Rattle.caf_cli.proofs.WordLemmas.{keeps_word}
use Rattle.caf_cli.proofs.promises.runs_keep_their_word.Goals as goal

pub returns : goal.returns
returns c =
    keeps_word c.valid_scenario_opens.ensures c.builtin_opens.ensures c.scenarios_spare_the_conductor.ensures c.valid_scenario_is_well_typed.ensures c.builtin_is_well_typed.ensures
    c.complete_runs_keep_their_promises.ensures c.complete_text_has_index.ensures c.enough_is_never_spent.ensures c.legal_is_merged.ensures

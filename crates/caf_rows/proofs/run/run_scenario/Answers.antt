use Rattle.std.proofs.Common.{sym, subst}
use Rattle.caf_typing.specs.Opens.{HaveShortLines}
use Rattle.caf_rows.proofs.run.run_scenario.Goals as goal

pub run_of-requires-clause-opens : goal.run_of-requires-clause-opens
run_of-requires-clause-opens c =
    c.valid_scenario_opens.ensures c.args.bytes.now c.in_ok-scenario.scenario c.new.result c.in_ok-scenario.ensures.0 c.in_ok-scenario.ensures.1
    (subst HaveShortLines (sym c.new.ensures) tt)

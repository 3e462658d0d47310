use Rattle.caf_driver.specs.Driving.{state_of}
use Rattle.caf_staged.proofs.RunLemmas.{starts_of, far_at_first}
use Rattle.caf_staged.proofs.run.ScriptedRun.new.Goals as goal

pub invariant_of-result : goal.invariant_of-result
invariant_of-result c =
    let first = starts_of c.args.actors c.requires.some in
    let made = c.in_ok-driver.ensures in
    (c.in_ok-table.ensures, far_at_first (state_of c.in_ok-driver.driver) (first.0, made.driven first.0 first.1) made.opening.0)

use Rattle.std.proofs.Common.{sym, subst}
use Rattle.caf_types.specs.TypeTable.{seen}
use Rattle.caf_driver.specs.Driving.{state_of}
use Rattle.caf_scripted.proofs.BatchLemmas.{has_numbers}
use Rattle.caf_staged.specs.declared.phase.Phase.{Phase}
use Rattle.caf_staged.specs.Run.{IsSoFar}
use Rattle.caf_staged.proofs.RunLemmas.{stands_going, far_after}
use Rattle.caf_staged.proofs.run.ScriptedRun.drive.Goals as goal

pub drive-requires-clause-entries : goal.drive-requires-clause-entries
drive-requires-clause-entries g c = has_numbers (seen c.self.inside.table) c.self.invariant.0

pub invariant_of-self-2 : goal.invariant_of-self-2
invariant_of-self-2 g c =
    let old = c.self.inside.driver in
    let new = c.drive.new.self in
    let far = c.self.invariant.1 in
    let going = sym c.if-not-is_going.ensures in
    let stands = stands_going (state_of old) c.self.inside.phase far going in
    let did = c.in_ok-end.ensures in (
      c.self.invariant.0,
      subst (λ (p : Phase). IsSoFar p (state_of new)) (sym c.after-self-inside.ensures)
          (far_after stands.0 (state_of old) (state_of new) c.args.budget did.notices.0 did.notices.1 (did.driven stands.0 stands.1) (did.legal stands.0 stands.1) c.self.inside.phase c.in_ok-end.end going far (did.ends stands.0 stands.1)),
    )

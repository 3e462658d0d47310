use Rattle.std.proofs.Common.{rules, ◌≡◌, ◌<◌, Some, ap, sym, refl, subst, ◌∙◌, [], ◌∷◌, ◌++◌}
use Rattle.caf_turns.specs.declared.step.Step.TheVariants.{Look}
use Rattle.caf_turns.specs.Steps.{announced, last_look}
use Rattle.caf_turns.proofs.StepLemmas.{looked, quiet_end}
use Rattle.caf_turns.proofs.RuleLemmas.{looks_of}
use Rattle.caf_turns.proofs.turns.Turns.look.Goals as goal

pub load-requires : goal.load-requires
load-requires g c =
    let v = c.seat.invariant in
    let same : c.seat.inside.seat.table_id ≡ c.self.inside.table.shared.table_id = search rules in
    let lt : c.args.i < c.self.inside.table.shared.table_id.slots = search rules in
    (same, search rules, rw c.slot_count.ensures (looks_of _ _ _ _ c.args.i _ v.0 (search rules) (search rules) lt))

pub returns-clause-known : goal.returns-clause-known
returns-clause-known g c =
    let e : c.load.new.seat.me.0.steps ≡ c.args.seat.now.steps ++ Look c.args.i c.load.result ∷ [] = search rules in
    subst (λ l. last_look c.args.i l ≡ Some c.load.result) (sym e) (looked c.args.i c.load.result c.args.seat.now.steps)

pub returns-clause-announced : goal.returns-clause-announced
returns-clause-announced g c =
    let e : c.load.new.seat.me.0.steps ≡ c.args.seat.now.steps ++ Look c.args.i c.load.result ∷ [] = search rules in
    ap (λ l. announced l) e ∙ quiet_end c.args.seat.now.steps (Look c.args.i c.load.result) refl

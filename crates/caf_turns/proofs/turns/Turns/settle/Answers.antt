use Rattle.std.proofs.Common.{rules, ◌≡◌, ◌<◌, ap, refl, ◌∙◌, [], ◌∷◌, ◌++◌}
use Rattle.caf_turns.specs.declared.step.Step.TheVariants.{Settle}
use Rattle.caf_turns.specs.Steps.{announced}
use Rattle.caf_turns.proofs.StepLemmas.{quiet_end}
use Rattle.caf_turns.proofs.RuleLemmas.{settles_of}
use Rattle.caf_turns.proofs.turns.Turns.settle.Goals as goal

pub fetch_sub-was-requires : goal.fetch_sub-was-requires
fetch_sub-was-requires g c =
    let v = c.seat.invariant in
    let same : c.seat.inside.seat.table_id ≡ c.self.inside.table.shared.table_id = search rules in
    let lt : c.args.i < c.self.inside.table.shared.table_id.slots = search rules in
    (same, search rules, rw c.slot_count.ensures (settles_of _ _ _ _ c.args.i c.args.k _ v.0 (search rules) (search rules) lt))

pub returns-clause-announced : goal.returns-clause-announced
returns-clause-announced g c =
    let e : c.fetch_sub-was.new.seat.me.0.steps ≡ c.args.seat.now.steps ++ Settle c.args.i c.args.k c.fetch_sub-was.result ∷ [] = search rules in
    ap (λ l. announced l) e ∙ quiet_end c.args.seat.now.steps (Settle c.args.i c.args.k c.fetch_sub-was.result) refl

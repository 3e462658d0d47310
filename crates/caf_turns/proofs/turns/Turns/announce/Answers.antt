use Rattle.std.proofs.Common.{rules, ◌≡◌, ◌<◌, ap, ◌∙◌, [], ◌∷◌, ◌++◌}
use Rattle.caf_turns.specs.declared.step.Step.TheVariants.{Announce}
use Rattle.caf_turns.specs.Steps.{announced}
use Rattle.caf_turns.proofs.StepLemmas.{announced_end}
use Rattle.caf_turns.proofs.RuleLemmas.{announces_of}
use Rattle.caf_turns.proofs.turns.Turns.announce.Goals as goal

pub fetch_add-was-requires : goal.fetch_add-was-requires
fetch_add-was-requires g c =
    let v = c.seat.invariant in
    let same : c.seat.inside.seat.table_id ≡ c.self.inside.table.shared.table_id = search rules in
    let lt : c.args.i < c.self.inside.table.shared.table_id.slots = search rules in
    (same, search rules, rw c.slot_count.ensures (announces_of _ _ _ _ c.args.i _ v.6 v.0 (search rules) (search rules) lt))

pub returns-clause-announced : goal.returns-clause-announced
returns-clause-announced g c =
    let e : c.fetch_add-was.new.seat.me.0.steps ≡ c.args.seat.now.steps ++ Announce c.args.i c.fetch_add-was.result ∷ [] = search rules in
    ap (λ l. announced l) e ∙ announced_end c.args.seat.now.steps (Announce c.args.i c.fetch_add-was.result)

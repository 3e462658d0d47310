use Rattle.std.proofs.Common.{rules, ◌≡◌, ◌<◌, None, ap, sym, refl, ◌∙◌, [], ◌∷◌, ◌++◌}
use Rattle.caf_turns.specs.declared.step.Step.TheVariants.{Claim}
use Rattle.caf_turns.specs.Steps.{announced}
use Rattle.caf_turns.proofs.StepLemmas.{quiet_end}
use Rattle.caf_turns.proofs.ListLemmas.{in_front, behind}
use Rattle.caf_turns.proofs.RuleLemmas.{claims_of, leaves_of}
use Rattle.caf_turns.proofs.turns.Turns.claim.Goals as goal

pub swap-requires : goal.swap-requires
swap-requires g c =
    let v = c.seat.invariant in
    let same : c.seat.inside.seat.table_id ≡ c.self.inside.table.shared.table_id = search rules in
    let lt : c.args.i < c.self.inside.table.shared.table_id.slots = search rules in
    (same, search rules, claims_of _ _ _ _ c.args.i _ v.2 v.1 v.0 lt)

pub exchange-body-requires : goal.exchange-body-requires
exchange-body-requires g c =
    let told = c.swap.ensures.2.0 (search rules) in
    (search rules, in_front _ _ _ _ told.1.1)

pub load-requires : goal.load-requires
load-requires g c =
    let v = c.seat.invariant in
    let lt : c.args.i < c.self.inside.table.shared.table_id.slots = search rules in
    let told = c.swap.ensures.2.0 (search rules) in
    let ex = c.exchange-body.ensures in
    let p = ap (λ k. k.0) ex.3 ∙ told.0 in
    let tail = behind _ _ _ _ told.1.1 ∙ v.0 in
    (search rules, search rules, leaves_of _ _ _ _ c.args.i _ (λ z. v.2 (sym (ap (λ y. y.parts) p) ∙ z)) (ap (λ y. y.hand) p) (ap (λ k. k.1) ex.3 ∙ ap (λ l. (c.args.i, None) ∷ l) tail) lt)

pub returns-then-swap-ne0-clause-announced : goal.returns-then-swap-ne0-clause-announced
returns-then-swap-ne0-clause-announced g c =
    let e : c.swap.new.seat.me.0.steps ≡ c.args.seat.now.steps ++ Claim c.args.i 1 ∷ [] = search rules in
    ap (λ l. announced l) e ∙ quiet_end c.args.seat.now.steps (Claim c.args.i 1) refl

pub returns-clause-announced : goal.returns-clause-announced
returns-clause-announced g c =
    let e : c.load.new.seat.me.0.steps ≡ c.args.seat.now.steps ++ Claim c.args.i 0 ∷ [] = search rules in
    ap (λ l. announced l) e ∙ quiet_end c.args.seat.now.steps (Claim c.args.i 0) refl

use Rattle.std.proofs.Common.{rules, ◌≡◌, ◌<◌, Some, ap, sym, refl, subst, ◌∙◌, [], ◌∷◌, ◌++◌}
use Rattle.caf_turns.specs.declared.step.Step.TheVariants.{Free}
use Rattle.caf_turns.specs.Steps.{announced}
use Rattle.caf_turns.proofs.StepLemmas.{quiet_end}
use Rattle.atomic_table.specs.Table.{rest}
use Rattle.caf_turns.specs.Rule.{Opens}
use Rattle.caf_turns.proofs.RuleLemmas.{enters_of, frees_of}
use Rattle.caf_turns.proofs.turns.Turns.give.Goals as goal

pub load-requires : goal.load-requires
load-requires g c =
    let v = c.seat.invariant in
    let same : c.seat.inside.seat.table_id ≡ c.self.inside.table.shared.table_id = search rules in
    let lt : c.args.i < c.self.inside.table.shared.table_id.slots = search rules in
    (same, search rules, enters_of _ _ _ _ c.args.i _ v.2 v.1 (search rules) v.0 lt)

pub store-requires : goal.store-requires
store-requires g c =
    let v = c.seat.invariant in
    let lt : c.args.i < c.self.inside.table.shared.table_id.slots = search rules in
    let told = c.load.ensures.2 in
    let ex = c.exchange-empty.ensures in
    let p = ap (λ k. k.0) ex.3 ∙ told.0 in
    let tail = ap rest told.1 in
    let opening = ap (λ y. y.opening) p ∙ ap (λ s. s.opening) c.seat.view_is in (
      search rules,
      search rules,
      frees_of _ _ _ _ c.args.i _ c.args.body (λ z. v.2 (sym (ap (λ y. y.parts) p) ∙ z)) (ap (λ y. y.hand) p)
          (subst (λ l. Opens g.T.Marked.has_mark l c.args.i c.args.body) (sym opening) c.requires.marks)
          (ap (λ k. k.1) ex.3 ∙ ap (λ l. (c.args.i, Some c.args.body) ∷ l) tail) lt,
    )

pub returns-clause-announced : goal.returns-clause-announced
returns-clause-announced g c =
    let e : c.store.new.seat.me.0.steps ≡ c.args.seat.now.steps ++ Free c.args.i ∷ [] = search rules in
    ap (λ l. announced l) e ∙ quiet_end c.args.seat.now.steps (Free c.args.i) refl

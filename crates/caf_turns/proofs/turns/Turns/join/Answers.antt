use Rattle.std.proofs.Common.{rules, ◌≡◌, ◌+◌, ◌++◌, sym, subst}
use Rattle.caf_turns.specs.Steps.{announced}
use Rattle.caf_turns.proofs.StepLemmas.{announced_append}
use Rattle.caf_turns.proofs.RuleLemmas.{joins}
use Rattle.caf_turns.proofs.turns.Turns.join.Goals as goal

pub join_seat-requires : goal.join_seat-requires
join_seat-requires g c = (search rules, search rules, c.from.invariant.0, search rules, joins _ _ _ _ _ _ c.into.invariant.2 (search rules) c.from.invariant.1)

pub returns-clause-announced : goal.returns-clause-announced
returns-clause-announced g c =
    let e : c.join_seat.new.seat.me.0.steps ≡ c.args.into.now.steps ++ c.args.from.steps = search rules in
    subst (λ l. announced l ≡ announced c.args.into.now.steps + announced c.args.from.steps) (sym e) (announced_append _ _)

use Rattle.std.proofs.Common.{rules, ◌≡◌, ◌≢◌, map, Some, None, sym, subst, ◌∙◌}
use Rattle.std.specs.List.{AllByRecursion}
use Rattle.caf_turns.proofs.ListLemmas.{all_some, same_bodies}
use Rattle.caf_turns.proofs.RuleLemmas.{begins}
use Rattle.caf_turns.proofs.turns.Turns.make.Goals as goal

pub new-requires : goal.new-requires
new-requires g c = begins _ _ _ _ (search rules) (search rules)

pub emptied-requires-clause-full : goal.emptied-requires-clause-full
emptied-requires-clause-full g c =
    let e : c.in-Err.field-0.slots.items ≡ map Some c.args.bodies.items = search rules in
    subst (λ l. AllByRecursion (λ o. o ≢ None) l) (sym e) (all_some c.args.bodies.items)

pub returns-clause-kept : goal.returns-clause-kept
returns-clause-kept g c =
    let e : c.in-Err.field-0.slots.items ≡ map Some c.args.bodies.items = search rules in
    same_bodies c.emptied.result.items c.args.bodies.items (c.emptied.ensures ∙ e)

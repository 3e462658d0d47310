use Rattle.std.proofs.Common.{length, ap, sym, subst, ◌∙◌}
use Rattle.caf_driver.specs.Opening.{AreFresh}
use Rattle.caf_kinds.specs.Kinds.{kind_rules}
use Rattle.caf_opening.proofs.OpeningLemmas.{opened, opening_length, opening_fresh}
use Rattle.caf_opening.proofs.opening.opening_actors.Goals as goal

pub returns-clause-count : goal.returns-clause-count
returns-clause-count c =
    ap length (opened c.args.places.now c.args.script.now c.args.files _ _ _ c.in_ok-conductor.field-0 c.new-actors.ensures c.in_ok-push.ensures.added c.in_ok-conductor.ensures.actor c.in_ok-add_others.ensures.added)
    ∙ opening_length c.args.places.now c.args.script.now c.args.files

pub returns-clause-fresh : goal.returns-clause-fresh
returns-clause-fresh c =
    subst (AreFresh kind_rules)
    (sym (opened c.args.places.now c.args.script.now c.args.files _ _ _ c.in_ok-conductor.field-0 c.new-actors.ensures c.in_ok-push.ensures.added c.in_ok-conductor.ensures.actor c.in_ok-add_others.ensures.added))
    (opening_fresh c.args.places.now c.args.script.now c.args.files c.requires)

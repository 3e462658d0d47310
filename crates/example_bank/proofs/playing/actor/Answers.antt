use Rattle.std.proofs.Common.{refl, sym, subst, arith}
use Rattle.caf_driver.specs.Opening.{IsFresh}
use Rattle.example_bank.specs.Member.{rules}
use Rattle.example_bank.proofs.FreshLemmas.{if_ok, is_fresh}
use Rattle.example_bank.proofs.playing.actor.Goals as goal

pub new-requires-2-clause-place : goal.new-requires-2-clause-place
new-requires-2-clause-place c = omega (arith, c.requires)

pub returns : goal.returns
returns c =
    if_ok _ (IsFresh rules 3 c.args.place)
    (λ a is. subst (IsFresh rules 3 c.args.place) (sym is) (is_fresh c.args.place c.requires _ refl c.new.ensures))
    c.new-2.result c.new-2.ensures

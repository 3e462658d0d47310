use Rattle.example_bank.proofs.FreshLemmas.{three_fresh}
use Rattle.example_bank.proofs.playing.actors.Goals as goal

pub returns-clause-fresh : goal.returns-clause-fresh
returns-clause-fresh c =
    rw (c.in_ok-push-3.ensures.added, c.in_ok-push-2.ensures.added, c.in_ok-push.ensures.added, c.new-actors.ensures)
    (three_fresh _ _ _ c.in_ok-actor.ensures c.in_ok-actor-2.ensures c.in_ok-actor-3.ensures)

use Rattle.std.proofs.Common.{subst}
use Rattle.std.specs.List.{AllByRecursion}
use Rattle.caf_rows.specs.Fitting.{KeepsFitting}
use Rattle.caf_rows.proofs.FittingLemmas.{last_of}
use Rattle.caf_rows.proofs.tests.sharing.last_actor.Goals as goal

pub returns-clause-last : goal.returns-clause-last
returns-clause-last c =
    last_of KeepsFitting c.pop.new.self.items c.in_ok-actor.actor (subst (AllByRecursion KeepsFitting) c.in_ok-actor.ensures.items c.requires)

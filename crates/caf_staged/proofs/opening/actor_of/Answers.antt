use Rattle.std.proofs.Common.{true, false, sym}
use Rattle.caf_staged.proofs.OpeningLemmas.{fresh_actor}
use Rattle.caf_staged.proofs.opening.actor_of.Goals as goal

pub returns-then-role : goal.returns-then-role
returns-then-role c = fresh_actor false c.in_ok-behavior.behavior c.args.count c.args.place c.args.role.now.stamp c.in_ok-vacant.field-0 c.in_ok-vacant.ensures (sym c.if-not-belongs.ensures) c.requires.place

pub returns : goal.returns
returns c = fresh_actor true c.in_ok-behavior.behavior c.args.count c.args.place c.args.role.now.stamp c.in_ok-new.field-0 c.in_ok-new.ensures (sym c.if-not-belongs.ensures) c.requires.place

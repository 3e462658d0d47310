use Rattle.caf_types.specs.TypeTable.{seen}
use Rattle.caf_system.proofs.CrewLemmas.{all_served, have_gone_on}
use Rattle.caf_system.proofs.crew.run_bodies.Goals as goal

pub run_crew-requires-clause-entries : goal.run_crew-requires-clause-entries
run_crew-requires-clause-entries g c = λ lives outlive. all_served g.B.Behavior.rules g.B.Entries.entries (seen c.args.table.now) c.requires.entries c.args.bodies.items

pub returns : goal.returns
returns g c = have_gone_on g.B.Behavior.rules c.args.bodies.items c.in_ok-crewed.crewed.bodies.items c.in_ok-crewed.ensures.bodies

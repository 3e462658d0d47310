use Rattle.caf_types.specs.TypeTable.{seen}
use Rattle.caf_sched.specs.Worker.{Worked}
use Rattle.caf_sched.proofs.CrewLemmas.{may_begin, zip_ok, came_seats, came_used, parts_back}
use Rattle.caf_sched.proofs.run.use_hands.Goals as goal

pub work_all-requires-after_bounds : goal.work_all-requires-after_bounds
work_all-requires-after_bounds g c κs within = may_begin g.W.Marked.has_mark g.W.Work.has_entries (seen c.args.table.now) c.args.shared.now.turns c.args.seat.now.opening c.in_ok-workers.workers.items c.requires.entries c.in_ok-workers.ensures.seats

pub join_all-requires-clause-seats : goal.join_all-requires-clause-seats
join_all-requires-clause-seats g c =
    let back = zip_ok Worked c.in_ok-workers.workers.items c.in_ok-done.done.items c.in_ok-back.back.items c.in_ok-done.ensures c.in_ok-back.ensures in
    came_seats c.args.shared.now.turns c.args.seat.now.opening c.in_ok-workers.workers.items c.in_ok-done.done.items c.in_ok-workers.ensures.seats back

pub returns-clause-parts : goal.returns-clause-parts
returns-clause-parts g c =
    let back = zip_ok Worked c.in_ok-workers.workers.items c.in_ok-done.done.items c.in_ok-back.back.items c.in_ok-done.ensures c.in_ok-back.ensures in
    parts_back c.args.shared.now.turns c.args.seat.now.opening _ _ c.in_ok-workers.workers.items c.in_ok-done.done.items c.in_ok-workers.ensures.seats back c.in_ok-workers.ensures.parts c.in_ok-hands.ensures.parts

pub returns-clause-hands : goal.returns-clause-hands
returns-clause-hands g c =
    let back = zip_ok Worked c.in_ok-workers.workers.items c.in_ok-done.done.items c.in_ok-back.back.items c.in_ok-done.ensures c.in_ok-back.ensures in
    came_used _ _ c.in_ok-workers.workers.items c.in_ok-done.done.items c.in_ok-workers.ensures.hands back c.in_ok-hands.ensures.hands

use Rattle.std.proofs.Common.{rules, ◌≡◌, length, sym, subst}
use Rattle.caf_types.specs.TypeTable.{seen}
use Rattle.caf_sched.specs.Crew.{BeginsWith, ComeBack}
use Rattle.caf_sched.specs.Tickets.{places_in}
use Rattle.caf_sched.specs.Work.{AreServed}
use Rattle.caf_sched.proofs.run.run_crew.Goals as goal

pub use_hands-requires-clause-entries : goal.use_hands-requires-clause-entries
use_hands-requires-clause-entries g c κs within =
    let opening : c.into_seat-seat.result.opening ≡ c.args.bodies.items = search rules in
    subst (λ o. AreServed g.W.Marked.has_mark g.W.Work.has_entries (seen c.args.table.now) o) (sym opening) c.requires.entries

pub returns-clause-bodies : goal.returns-clause-bodies
returns-clause-bodies g c =
    let opening : c.use_hands.new.seat.opening ≡ c.args.bodies.items = search rules in
    subst (λ o. ComeBack g.W.Marked.has_mark o c.close.result.items) opening (c.close.ensures.count, c.close.ensures.marks)

pub returns-clause-first : goal.returns-clause-first
returns-clause-first g c =
    let slots : c.in-Ok.turns.slots ≡ length c.args.bodies.items = c.in-Ok.ensures.made.0 in
    let items = c.in_ok-hands-2.hands.items in
    rw c.of_vec.ensures (subst (λ n. BeginsWith (places_in n c.args.first.now) items) slots
    (subst (λ l. BeginsWith (places_in c.in-Ok.turns.slots l) items) c.as_slice.ensures (c.in_ok-hands-2.ensures.hands.puts _ c.in_ok-hands.ensures.hands.1)))

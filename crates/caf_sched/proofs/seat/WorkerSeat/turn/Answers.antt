use Rattle.std.proofs.Common.{rules, ◌≡◌, [], ◌∷◌, ◌++◌, sym, subst}
use Rattle.caf_types.specs.TypeTable.{seen}
use Rattle.caf_turns.specs.declared.step.Step.TheVariants.{Claim, Look, Settle, Free}
use Rattle.caf_sched.specs.Work.{AreServed}
use Rattle.caf_sched.proofs.StepLemmas.{tickets_of_busy, tickets_of_turn}
use Rattle.caf_sched.proofs.CrewLemmas.{served_body}
use Rattle.caf_sched.proofs.seat.WorkerSeat.turn.Goals as goal

pub returns-in_default-clause-tickets : goal.returns-in_default-clause-tickets
returns-in_default-clause-tickets g c = rw (← c.self.view_is) (tickets_of_busy c.args.place _ _ (λ i. (c.in_default.ensures.body i).steps))

pub take_turn-sent-requires : goal.take_turn-sent-requires
take_turn-sent-requires g c =
    let has = g.W.Marked.has_mark in let entries = g.W.Work.has_entries in let table = seen c.args.table.now in
    served_body has entries table c.self.inside.seat.opening c.args.place c.in-Some.body
    (subst (λ s. AreServed has entries table s.opening) (sym c.self.view_is) c.requires.entries) c.in-Some.ensures.body.1

pub returns-clause-tickets : goal.returns-clause-tickets
returns-clause-tickets g c =
    let more = c.settle-again.ensures.more in
    let steps : c.give.new.seat.steps ≡ c.self.inside.seat.steps ++ Claim c.args.place 0 ∷ [] ++ Look c.args.place c.look-due.result ∷ [] ++ Settle c.args.place c.look-due.result more.0 ∷ [] ++ Free c.args.place ∷ [] = search rules in
    rw (← c.self.view_is) (tickets_of_turn c.args.place c.look-due.result more.0 c.settle-again.result _ _ steps more.3)

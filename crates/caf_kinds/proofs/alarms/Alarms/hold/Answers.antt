use Rattle.std.proofs.Common.{◌≡◌, ◌+◌, List, ap, subst, ◌∙◌}
use Rattle.caf_kinds.specs.Alarms.{Awaited, Alarms, asker, numbered, all_awaited}
use Rattle.caf_kinds.proofs.AlarmLemmas.{insert-last, given-insert}
use Rattle.caf_kinds.proofs.alarms.Alarms.hold.Goals as goal

pub invariant_of-self-2 : goal.invariant_of-self-2
invariant_of-self-2 c = rw c.in_ok-insert.ensures.entries (given-insert c.self.inside.last (asker c.args.origin) c.self.inside.askers.entries c.self.invariant)

pub returns-clause-held : goal.returns-clause-held
returns-clause-held c =
    let last = c.self.inside.last in
    subst (λ (s : Alarms). record { last = last + 1; held = all_awaited c.insert.new.self.entries } ≡ numbered s c.args.origin) c.self.view_is
    (ap (λ (hs : List Awaited). let all : Alarms = record { last = last + 1; held = hs } in all)
    (ap all_awaited c.in_ok-insert.ensures.entries ∙ insert-last last (asker c.args.origin) c.self.inside.askers.entries c.self.invariant))

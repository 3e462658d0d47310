use Rattle.std.proofs.Common.{◌≡◌, subst}
use Rattle.std.specs.Option.{option_map}
use Rattle.caf_message.specs.Lists.{pick}
use Rattle.caf_kinds.specs.Alarms.{Alarms, awaited, has_number, all_awaited}
use Rattle.caf_kinds.specs.declared.alarms.Asker.{Asker}
use Rattle.caf_kinds.proofs.AlarmLemmas.{given-remove, taken_is}
use Rattle.caf_kinds.proofs.alarms.Alarms.take.Goals as goal

pub invariant_of-self : goal.invariant_of-self
invariant_of-self c = rw c.remove.ensures.entries (given-remove c.self.inside.last _ c.self.inside.askers.entries c.self.invariant)

pub returns-clause-taken : goal.returns-clause-taken
returns-clause-taken c =
    let n = c.args.number in
    subst (λ (s : Alarms). option_map (λ (a : Asker). (awaited n a, all_awaited c.remove.new.self.entries)) c.remove.result ≡ pick (has_number n) s.held) c.self.view_is
    (taken_is n c.self.inside.askers.entries c.remove.new.self.entries c.remove.result c.remove.ensures.value c.remove.ensures.entries)

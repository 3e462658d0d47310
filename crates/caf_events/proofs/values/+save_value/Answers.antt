use Rattle.std.proofs.Common.{subst, sym, [], ◌∷◌}
use Rattle.caf_events.specs.Event.{list, object}
use Rattle.caf_events.specs.Tells.{Tells}
use Rattle.caf_events.proofs.TellingLemmas.{tells_cons}
use Rattle.caf_events.proofs.ValueLemmas.{count_values, count_fields}
use Rattle.caf_events.proofs.values.+save_value.Goals as goal

pub save_items-returns : goal.save_items-returns
save_items-returns g t c =
    tells_cons (subst (λ n. Tells g.S.Save.told c.args.saver.now c.list.new.self (list n ∷ [])) (sym (count_values c.args.values.now)) c.in_ok-list.ensures.added) c.in_ok-save_each.ensures

pub save_object-returns : goal.save_object-returns
save_object-returns g t c =
    tells_cons (subst (λ n. Tells g.S.Save.told c.args.saver.now c.object.new.self (object n ∷ [])) (sym (count_fields c.args.fields.now)) c.in_ok-object.ensures.added) c.in_ok-save_fields.ensures

use Rattle.std.proofs.Common.{subst, sym, map, ◌∙◌, ◌∷◌, []}
use Rattle.caf_words.specs.Datum.{data_of}
use Rattle.caf_events.specs.Event.{list, events, each_events}
use Rattle.caf_events.specs.Tells.{Tells}
use Rattle.caf_events.proofs.TellingLemmas.{tells_cons}
use Rattle.caf_events.proofs.LoopLemmas.{count_means}
use Rattle.caf_events.proofs.lists.save_list.Goals as goal

pub returns : goal.returns
returns g c =
    tells_cons (subst (λ n. Tells g.S.Save.told c.args.saver.now c.list.new.self (list n ∷ [])) (c.len.ensures ∙ sym (count_means g.T.Inspect.means c.args.items.now)) c.in_ok-list.ensures.added)
    (subst (λ xs. Tells g.S.Save.told c.list.new.self c.save_each.new.saver (each_events (events g.T.Inspect.shape) (data_of (map g.T.Inspect.means xs)))) c.as_slice.ensures c.in_ok-save_each.ensures)

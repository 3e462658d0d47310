use Rattle.std.proofs.Common.{◌≡◌, ◌∙◌, ◌∷◌, ◌++◌, [], List, length, sym, ap}
use Rattle.std.proofs.lemmas.List.{map_push}
use Rattle.caf_events.specs.Item.{event_of, events_in}
use Rattle.caf_json.specs.Builder.{built}
use Rattle.caf_json.specs.Stack.{step}
use Rattle.caf_json.proofs.SaverLemmas.{json_told, json_kept, item_behind, front_again}
use Rattle.caf_json.proofs.saver.JsonSaver.add.Goals as goal

pub returns-in-Ok-clause-added : goal.returns-in-Ok-clause-added
returns-in-Ok-clause-added c =
    let here : c.index-as_slice-before.result ≡ c.args.item =
    item_behind c.args.self.now.items.items c.as_slice.result.now c.args.item c.index-as_slice-before.result _ (c.as_slice.ensures.value ∙ c.in_ok-list.ensures.added) (ap length c.as_slice-before.ensures.value) c.index-as_slice-before.is in
    json_told (ap events_in c.in_ok-list.ensures.added ∙ map_push event_of c.args.self.now.items.items c.args.item) c.requires.whole c.requires.whole
    (c.in-Ok.ensures.added ∙ ap (λ it. step (built c.args.self.now.builder) (event_of it)) here) c.requires.range

pub returns-in-Err-clause-kept : goal.returns-in-Err-clause-kept
returns-in-Err-clause-kept c =
    json_kept (ap events_in (front_again c.args.self.now.items.items c.list.new.items.items c.truncate.new.self.items c.args.item _ c.in_ok-list.ensures.added (ap length c.as_slice-before.ensures.value) c.truncate.ensures.items)) c.requires.whole
    (λ b. c.in-Err.ensures.kept (c.is_open-is_open.ensures.none b)) c.is_open-is_open.ensures.open

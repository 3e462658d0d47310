use Rattle.std.proofs.Common.{◌≡◌, ◌≢◌, ◌++◌, [], map, Some, ap, sym, subst, ◌∙◌, refl}
use Rattle.std.specs.List.{AllByRecursion}
use Rattle.caf_types.specs.Table.{shape_at}
use Rattle.caf_types.specs.TypeTable.{seen}
use Rattle.caf_message.specs.Entries.{entry_shape}
use Rattle.caf_message.specs.Envelope.{plain_envelope, EnvelopeFits}
use Rattle.caf_message.proofs.FitsLemmas.{entry_shapes_stand}
use Rattle.caf_actor.specs.PlainForms.{plain_post}
use Rattle.caf_actor.specs.PlainPost.{PlainPost}
use Rattle.caf_actor.specs.Record.{to_place}
use Rattle.caf_inbox.specs.Ends.{ReaderSeen}
use Rattle.caf_inbox.specs.Senders.{AreFrom}
use Rattle.caf_driver.specs.Population.{HasPlayed}
use Rattle.caf_driver.proofs.FitLemmas.{all_more_fit}
use Rattle.caf_system.specs.Station.{StationSeen, AreLanesOf, IsStation, HasSent, GoesOn}
use Rattle.caf_system.proofs.StationLemmas.{goes_nowhere, goes_on_by, station_after, station_holding, station_idle, own_posts, of_some, of_if_some, of_none, map_filled}
use Rattle.caf_system.proofs.station.Station.turn.Goals as goal

pub returns-then-not-is_empty-clause-goes_on : goal.returns-then-not-is_empty-clause-goes_on
returns-then-not-is_empty-clause-goes_on g c =
    let rules = g.B.Behavior.rules in
    let entries = g.B.Entries.entries in
    goes_nowhere rules c.args.self.now c.args.self.now refl refl refl refl

pub returns-in_default-clause-station : goal.returns-in_default-clause-station
returns-in_default-clause-station g c =
    let rules = g.B.Behavior.rules in
    let entries = g.B.Entries.entries in
    let old : StationSeen g.row.B.Denot = record { actor = c.self.inside.actor; reader = c.self.inside.reader; lanes = c.self.inside.lanes.items; held = map plain_envelope c.self.inside.held } in
    let view : old ≡ c.args.self.now = c.self.view_is in
    let h = subst (IsStation entries) (sym view) c.requires.station in
    let new : StationSeen g.row.B.Denot = record { actor = c.self.inside.actor; reader = c.take.new.self; lanes = c.self.inside.lanes.items; held = map plain_envelope c.self.inside.held } in
    let inbox = ap (λ (r : ReaderSeen). r.inbox) c.in_ok-batch.ensures.same in
    let senders = ap (λ (r : ReaderSeen). r.senders) c.in_ok-batch.ensures.same in
    let taken = of_none (c.take.new.self.taken ≡ c.self.inside.reader.taken) (λ batch. (batch ≢ []) × (c.take.new.self.taken ≡ c.self.inside.reader.taken ++ map plain_envelope batch)) c.in_ok-batch.field-0 c.in_default.not-Some c.in_ok-batch.ensures.taken in
    station_idle rules old new entries h refl refl refl senders taken

pub returns-in_default-clause-goes_on : goal.returns-in_default-clause-goes_on
returns-in_default-clause-goes_on g c =
    let rules = g.B.Behavior.rules in
    let entries = g.B.Entries.entries in
    let old : StationSeen g.row.B.Denot = record { actor = c.self.inside.actor; reader = c.self.inside.reader; lanes = c.self.inside.lanes.items; held = map plain_envelope c.self.inside.held } in
    let view : old ≡ c.args.self.now = c.self.view_is in
    let h = subst (IsStation entries) (sym view) c.requires.station in
    let new : StationSeen g.row.B.Denot = record { actor = c.self.inside.actor; reader = c.take.new.self; lanes = c.self.inside.lanes.items; held = map plain_envelope c.self.inside.held } in
    let inbox = ap (λ (r : ReaderSeen). r.inbox) c.in_ok-batch.ensures.same in
    let senders = ap (λ (r : ReaderSeen). r.senders) c.in_ok-batch.ensures.same in
    subst (λ s. GoesOn rules s new) view (goes_nowhere rules old new refl refl inbox senders)

pub returns-then-stamp-ge-LATEST_STAMP-clause-station : goal.returns-then-stamp-ge-LATEST_STAMP-clause-station
returns-then-stamp-ge-LATEST_STAMP-clause-station g c =
    let rules = g.B.Behavior.rules in
    let entries = g.B.Entries.entries in
    let old : StationSeen g.row.B.Denot = record { actor = c.self.inside.actor; reader = c.self.inside.reader; lanes = c.self.inside.lanes.items; held = map plain_envelope c.self.inside.held } in
    let view : old ≡ c.args.self.now = c.self.view_is in
    let h = subst (IsStation entries) (sym view) c.requires.station in
    let new : StationSeen g.row.B.Denot = record { actor = c.self.inside.actor; reader = c.take.new.self; lanes = c.self.inside.lanes.items; held = map plain_envelope c.in-Some.batch } in
    let inbox = ap (λ (r : ReaderSeen). r.inbox) c.in_ok-batch.ensures.same in
    let senders = ap (λ (r : ReaderSeen). r.senders) c.in_ok-batch.ensures.same in
    let empty : c.self.inside.held ≡ [] = c.if-not-is_empty.ensures.0 refl in
    let none = ap (map plain_envelope) empty in
    let some : c.in_ok-batch.field-0 ≡ Some c.in-Some.batch = search rules in
    let es = map plain_envelope c.in-Some.batch in
    let got = of_some (c.take.new.self.taken ≡ c.self.inside.reader.taken) (λ batch. (batch ≢ []) × (c.take.new.self.taken ≡ c.self.inside.reader.taken ++ map plain_envelope batch)) c.in_ok-batch.field-0 c.in-Some.batch some c.in_ok-batch.ensures.taken in
    let taken = got.1 in
    let from = of_if_some (λ batch. AreFrom c.take.new.self.senders (map plain_envelope batch)) c.in_ok-batch.field-0 c.in-Some.batch some c.in_ok-batch.ensures.senders in
    let fits = of_if_some (λ batch. AllByRecursion (EnvelopeFits (entry_shape entries)) (map plain_envelope batch)) c.in_ok-batch.field-0 c.in-Some.batch some c.in_ok-batch.ensures.fits in
    station_holding rules es old new entries h refl refl senders none refl taken from

pub returns-then-stamp-ge-LATEST_STAMP-clause-goes_on : goal.returns-then-stamp-ge-LATEST_STAMP-clause-goes_on
returns-then-stamp-ge-LATEST_STAMP-clause-goes_on g c =
    let rules = g.B.Behavior.rules in
    let entries = g.B.Entries.entries in
    let old : StationSeen g.row.B.Denot = record { actor = c.self.inside.actor; reader = c.self.inside.reader; lanes = c.self.inside.lanes.items; held = map plain_envelope c.self.inside.held } in
    let view : old ≡ c.args.self.now = c.self.view_is in
    let h = subst (IsStation entries) (sym view) c.requires.station in
    let new : StationSeen g.row.B.Denot = record { actor = c.self.inside.actor; reader = c.take.new.self; lanes = c.self.inside.lanes.items; held = map plain_envelope c.in-Some.batch } in
    let inbox = ap (λ (r : ReaderSeen). r.inbox) c.in_ok-batch.ensures.same in
    let senders = ap (λ (r : ReaderSeen). r.senders) c.in_ok-batch.ensures.same in
    subst (λ s. GoesOn rules s new) view (goes_nowhere rules old new refl refl inbox senders)

pub batch-requires-clause-fits : goal.batch-requires-clause-fits
batch-requires-clause-fits g c =
    let rules = g.B.Behavior.rules in
    let entries = g.B.Entries.entries in
    let table = seen c.args.table.now in
    let more = all_more_fit (entry_shape entries) (shape_at table) (entry_shapes_stand table entries c.requires.entries) in
    let some : c.in_ok-batch.field-0 ≡ Some c.in-Some.batch = search rules in
    more (map plain_envelope c.in-Some.batch) (of_if_some (λ batch. AllByRecursion (EnvelopeFits (entry_shape entries)) (map plain_envelope batch)) c.in_ok-batch.field-0 c.in-Some.batch some c.in_ok-batch.ensures.fits)

pub batch-requires-clause-lists_fit : goal.batch-requires-clause-lists_fit
batch-requires-clause-lists_fit g c =
    let rules = g.B.Behavior.rules in
    let entries = g.B.Entries.entries in
    let old : StationSeen g.row.B.Denot = record { actor = c.self.inside.actor; reader = c.self.inside.reader; lanes = c.self.inside.lanes.items; held = map plain_envelope c.self.inside.held } in
    let view : old ≡ c.args.self.now = c.self.view_is in
    let h = subst (IsStation entries) (sym view) c.requires.station in
    let table = seen c.args.table.now in
    let more = all_more_fit (entry_shape entries) (shape_at table) (entry_shapes_stand table entries c.requires.entries) in
    λ whole. record { urgent = more old.actor.snapshot.caches.urgent h.caches.urgent; normal = more old.actor.snapshot.caches.normal h.caches.normal }

pub send-requires-clause-own : goal.send-requires-clause-own
send-requires-clause-own g c =
    let rules = g.B.Behavior.rules in
    let entries = g.B.Entries.entries in
    let old : StationSeen g.row.B.Denot = record { actor = c.self.inside.actor; reader = c.self.inside.reader; lanes = c.self.inside.lanes.items; held = map plain_envelope c.self.inside.held } in
    let view : old ≡ c.args.self.now = c.self.view_is in
    let h = subst (IsStation entries) (sym view) c.requires.station in
    let es = map plain_envelope c.in-Some.batch in
    let posts : map plain_post c.into_vec.result.items ≡ _ = ap (map plain_post) c.into_vec.ensures ∙ c.in_ok-posts.ensures.posts in
    subst (λ ps. AllByRecursion (λ (p : PlainPost). AreLanesOf p.envelope.sender old.lanes) ps) (sym posts) (own_posts rules old.actor.snapshot es old.lanes h.lanes)

pub returns-clause-station : goal.returns-clause-station
returns-clause-station g c =
    let rules = g.B.Behavior.rules in
    let entries = g.B.Entries.entries in
    let old : StationSeen g.row.B.Denot = record { actor = c.self.inside.actor; reader = c.self.inside.reader; lanes = c.self.inside.lanes.items; held = map plain_envelope c.self.inside.held } in
    let view : old ≡ c.args.self.now = c.self.view_is in
    let h = subst (IsStation entries) (sym view) c.requires.station in
    let new : StationSeen g.row.B.Denot = record { actor = c.batch-2.new.self; reader = c.take.new.self; lanes = c.send.new.lanes.items; held = map plain_envelope c.self.inside.held } in
    let inbox = ap (λ (r : ReaderSeen). r.inbox) c.in_ok-batch.ensures.same in
    let senders = ap (λ (r : ReaderSeen). r.senders) c.in_ok-batch.ensures.same in
    let some : c.in_ok-batch.field-0 ≡ Some c.in-Some.batch = search rules in
    let es = map plain_envelope c.in-Some.batch in
    let got = of_some (c.take.new.self.taken ≡ c.self.inside.reader.taken) (λ batch. (batch ≢ []) × (c.take.new.self.taken ≡ c.self.inside.reader.taken ++ map plain_envelope batch)) c.in_ok-batch.field-0 c.in-Some.batch some c.in_ok-batch.ensures.taken in
    let taken = got.1 in
    let from = of_if_some (λ batch. AreFrom c.take.new.self.senders (map plain_envelope batch)) c.in_ok-batch.field-0 c.in-Some.batch some c.in_ok-batch.ensures.senders in
    let fits = of_if_some (λ batch. AllByRecursion (EnvelopeFits (entry_shape entries)) (map plain_envelope batch)) c.in_ok-batch.field-0 c.in-Some.batch some c.in_ok-batch.ensures.fits in
    let b = c.in_ok-posts.ensures in
    let played : HasPlayed rules es old.actor new.actor = record { snapshot = b.snapshot; journal = b.journal; handled = b.handled } in
    let posts : map plain_post c.into_vec.result.items ≡ _ = ap (map plain_post) c.into_vec.ensures ∙ b.posts in
    let pushed = subst (λ ps. HasSent old.lanes (λ p. to_place p ps) new.lanes) posts c.in_ok-send.ensures in
    let filled = map_filled plain_envelope c.in-Some.batch got.0 in
    let empty : c.self.inside.held ≡ [] = c.if-not-is_empty.ensures.0 refl in
    let none = ap (map plain_envelope) empty in
    station_after rules es old new filled played pushed inbox senders entries h none none b.whole.1 taken from
    (b.fit (entry_shape entries) h.caches fits) (b.delays_fit h.caches h.delays fits)

pub returns-clause-goes_on : goal.returns-clause-goes_on
returns-clause-goes_on g c =
    let rules = g.B.Behavior.rules in
    let entries = g.B.Entries.entries in
    let old : StationSeen g.row.B.Denot = record { actor = c.self.inside.actor; reader = c.self.inside.reader; lanes = c.self.inside.lanes.items; held = map plain_envelope c.self.inside.held } in
    let view : old ≡ c.args.self.now = c.self.view_is in
    let h = subst (IsStation entries) (sym view) c.requires.station in
    let new : StationSeen g.row.B.Denot = record { actor = c.batch-2.new.self; reader = c.take.new.self; lanes = c.send.new.lanes.items; held = map plain_envelope c.self.inside.held } in
    let inbox = ap (λ (r : ReaderSeen). r.inbox) c.in_ok-batch.ensures.same in
    let senders = ap (λ (r : ReaderSeen). r.senders) c.in_ok-batch.ensures.same in
    let some : c.in_ok-batch.field-0 ≡ Some c.in-Some.batch = search rules in
    let es = map plain_envelope c.in-Some.batch in
    let got = of_some (c.take.new.self.taken ≡ c.self.inside.reader.taken) (λ batch. (batch ≢ []) × (c.take.new.self.taken ≡ c.self.inside.reader.taken ++ map plain_envelope batch)) c.in_ok-batch.field-0 c.in-Some.batch some c.in_ok-batch.ensures.taken in
    let taken = got.1 in
    let from = of_if_some (λ batch. AreFrom c.take.new.self.senders (map plain_envelope batch)) c.in_ok-batch.field-0 c.in-Some.batch some c.in_ok-batch.ensures.senders in
    let fits = of_if_some (λ batch. AllByRecursion (EnvelopeFits (entry_shape entries)) (map plain_envelope batch)) c.in_ok-batch.field-0 c.in-Some.batch some c.in_ok-batch.ensures.fits in
    let b = c.in_ok-posts.ensures in
    let played : HasPlayed rules es old.actor new.actor = record { snapshot = b.snapshot; journal = b.journal; handled = b.handled } in
    let posts : map plain_post c.into_vec.result.items ≡ _ = ap (map plain_post) c.into_vec.ensures ∙ b.posts in
    let pushed = subst (λ ps. HasSent old.lanes (λ p. to_place p ps) new.lanes) posts c.in_ok-send.ensures in
    let filled = map_filled plain_envelope c.in-Some.batch got.0 in
    subst (λ s. GoesOn rules s new) view (goes_on_by rules es old new filled played pushed inbox senders)

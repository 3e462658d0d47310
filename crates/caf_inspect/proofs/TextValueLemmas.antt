-- The values that a saver was told keep to the ranges of texts.
use Rattle.std.proofs.Common.{◌≡◌, true, List}
use Rattle.caf_types.specs.ShapeTree.{ShapeTree, unit, flag, unsigned, signed, text, bytes, place, list, object, Parts, no_parts, part}
use Rattle.caf_words.specs.Datum.{Datum, a_unit, a_flag, an_unsigned, a_signed, a_text, some_bytes, a_place, a_list, an_object, Data, no_data, more, fits, each_fits, all_fit}
use Rattle.caf_text.specs.TextForm.{KeepsRanges, KeepRanges}
use Rattle.caf_text.proofs.NumberLemmas.{both}
use Rattle.caf_events.specs.Event.{Event, events, each_events, part_events}
use Rattle.caf_events.proofs.RangeLemmas.{range_split}
use Rattle.caf_events.specs.Range.{AreInRange}

each_keeps : (f : ShapeTree) → ((d : Datum) → fits f d ≡ true → AreInRange (events f d) → KeepsRanges d) → (ds : Data) → all_fit (fits f) ds ≡ true → AreInRange (each_events (events f) ds) → KeepRanges ds
each_keeps f one no_data h r = tt
each_keeps f one (more d ds) h r =
    let b = both (fits f d) (all_fit (fits f) ds) h in
    let p = range_split (events f d) (each_events (events f) ds) r in
    (one d b.0 p.0, each_keeps f one ds b.1 p.1)

mutual
  pub keeps : (f : ShapeTree) (d : Datum) → fits f d ≡ true → AreInRange (events f d) → KeepsRanges d
  keeps unit a_unit h r = tt
  keeps flag (a_flag b) h r = tt
  keeps unsigned (an_unsigned n) h r = r.0
  keeps signed (a_signed z) h r = r.0
  keeps text (a_text bs) h r = r.0.2
  keeps bytes (some_bytes bs) h r = r.0.0
  keeps place (a_place n) h r = tt
  keeps (list f) (a_list ds) h r = each_keeps f (keeps f) ds h r.1
  keeps (object ps) (an_object ds) h r = parts_keep ps ds h r.1
  keeps _ _ h r = absurd cc

  parts_keep : (ps : Parts) (ds : Data) → each_fits ps ds ≡ true → AreInRange (part_events ps ds) → KeepRanges ds
  parts_keep no_parts no_data h r = tt
  parts_keep no_parts (more d ds) h r = absurd cc
  parts_keep (part name f ps) no_data h r = absurd cc
  parts_keep (part name f ps) (more d ds) h r =
      let b = both (fits f d) (each_fits ps ds) h in
      let p = range_split (events f d) (part_events ps ds) r.1 in
      (keeps f d b.0 p.0, parts_keep ps ds b.1 p.1)

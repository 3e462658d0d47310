use Rattle.std.proofs.Common.{codes, map}
use Rattle.std.proofs.lemmas.List.{map_push}
use Rattle.serde_json.specs.View.{view}
use Rattle.caf_types.specs.declared.shape.TypeId.{TypeId}
use Rattle.caf_words.specs.Several.{ids_of}
use Rattle.caf_words.specs.Value.{datum}
use Rattle.caf_scenario.specs.Path.{at_member, spot_path}
use Rattle.caf_scenario.specs.Contents.{element_seen}
use Rattle.caf_scenario.specs.Steps.{element_fault}
use Rattle.caf_scenario.proofs.FirstLemmas.{goes_past}
use Rattle.caf_scenario.proofs.ElementLemmas.{ids_on, data_on}
use Rattle.caf_scenario.proofs.elements.contents_of.Goals as goal

pub loop-i-preserved : goal.loop-i-preserved
loop-i-preserved c =
    let elements = c.args.elements.now in
    let element = c.index-elements-i.result in
    let read = c.in_ok-read.read in
    record {
      faults = goes_past view (element_fault (at_member (spot_path c.args.spot) (codes "message"))) c.loop-i.i c.loop-i.i elements element _
          c.loop-i-test.true c.index-elements-i.is c.in_ok-read.ensures.0 c.loop-i.invariant.faults;
      ids = rw (c.in_ok-push.ensures.added, map_push (λ (id : TypeId). id.0) c.loop-i.types read.id)
          (ids_on (ids_of c.loop-i.types) elements c.loop-i.i element (element_seen read) _ c.loop-i-test.true c.index-elements-i.is c.in_ok-read.ensures.1 c.loop-i.invariant.ids);
      values = rw (c.in_ok-push-2.ensures.added, map_push datum c.loop-i.values read.value)
          (data_on (map datum c.loop-i.values) elements c.loop-i.i element (element_seen read) _ c.loop-i-test.true c.index-elements-i.is c.in_ok-read.ensures.1 c.loop-i.invariant.values);
    }

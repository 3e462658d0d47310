use Rattle.std.proofs.Common.{◌≡◌, ◌++◌, drop, map, codes}
use Rattle.serde_json.specs.View.{view}
use Rattle.caf_words.specs.Several.{ids_of}
use Rattle.caf_words.specs.Value.{datum}
use Rattle.caf_scenario.specs.Path.{at_member, spot_path}
use Rattle.caf_scenario.specs.First.{first_of}
use Rattle.caf_scenario.specs.Elements.{ids_in, elements_of}
use Rattle.caf_scenario.specs.Contents.{data_in}
use Rattle.caf_scenario.specs.Steps.{element_fault}
use Rattle.caf_scenario.proofs.elements.contents_of.Given as goal

abbrev pub invariant-loop-i : goal.invariant-loop-i
invariant-loop-i l = record {
  faults : first_of (element_fault (at_member (spot_path l.spot) (codes "message"))) l.i (map view (drop l.i l.elements)) ≡ first_of (element_fault (at_member (spot_path l.spot) (codes "message"))) 0 (map view l.elements);
  ids : ids_of l.types ++ ids_in (elements_of (map view (drop l.i l.elements))) ≡ ids_in (elements_of (map view l.elements));
  values : map datum l.values ++ data_in (elements_of (map view (drop l.i l.elements))) ≡ data_in (elements_of (map view l.elements));
}

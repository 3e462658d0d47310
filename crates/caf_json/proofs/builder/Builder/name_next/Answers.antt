use Rattle.std.proofs.Common.{◌∙◌, sym, ap}
use Rattle.serde_json.specs.View.{view}
use Rattle.caf_json.specs.Builder.{frames_of}
use Rattle.caf_json.specs.Stack.{state, named}
use Rattle.caf_json.proofs.BuilderLemmas.{last_first}
use Rattle.caf_json.proofs.builder.Builder.name_next.Goals as goal

pub returns-in_ok-open_part-in-Some-clause-added : goal.returns-in_ok-open_part-in-Some-clause-added
returns-in_ok-open_part-in-Some-clause-added c =
    ap (λ fs. state fs (view c.args.self.now.last))
    (c.in_ok-open_part-in-Some.ensures.added
    ∙ c.in_ok-part-in-Some.ensures (frames_of c.pop.new.self.items)
    ∙ ap (named c.args.name.now) (sym (last_first c.pop.new.self.items c.in-Some.part) ∙ ap frames_of (sym c.in-Some.ensures.items)))

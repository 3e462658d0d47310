use Rattle.std.proofs.Common.{◌∙◌, sym, ap, arith}
use Rattle.serde_json.specs.View.{view}
use Rattle.caf_json.specs.Builder.{frames_of, filled_state}
use Rattle.caf_json.specs.Stack.{state}
use Rattle.caf_json.proofs.BuilderLemmas.{into_last, on_err}
use Rattle.caf_json.proofs.builder.Builder.put.Goals as goal

pub returns-in-Open-clause-added : goal.returns-in-Open-clause-added
returns-in-Open-clause-added c =
    let last = view c.loop-part.self.last in
    ap (λ fs. state fs last) c.in_ok-open_part-in-Open.ensures.added
    ∙ into_last c.loop-part.self.parts.items c.pop.new.self.items c.in-Some.part last (view c.loop-part.value) _ _ c.in-Some.ensures.items (ap (filled_state (frames_of c.pop.new.self.items) last) (sym c.in-Open.is) ∙ c.in_ok-part.ensures (frames_of c.pop.new.self.items) last) c.loop-part.invariant.same

pub loop-part-preserved : goal.loop-part-preserved
loop-part-preserved c =
    let last = view c.loop-part.self.last in
    record {
      same = into_last c.loop-part.self.parts.items c.pop.new.self.items c.in-Some.part last (view c.loop-part.value) _ _ c.in-Some.ensures.items (ap (filled_state (frames_of c.pop.new.self.items) last) (sym c.in-Whole.is) ∙ c.in_ok-part.ensures (frames_of c.pop.new.self.items) last) c.loop-part.invariant.same;
      fewer = omega (arith, c.in-Some.ensures.cases);
    }

pub returns-in_err-part-clause-kept : goal.returns-in_err-part-clause-kept
returns-in_err-part-clause-kept c = on_err _ (λ none. absurd (omega (arith, c.in-Some.ensures.cases)))

pub returns-in_err-open_part-in-Open-clause-kept : goal.returns-in_err-open_part-in-Open-clause-kept
returns-in_err-open_part-in-Open-clause-kept c = on_err _ (λ none. absurd (omega (arith, c.in-Some.ensures.cases)))

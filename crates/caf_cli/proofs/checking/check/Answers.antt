use Rattle.std.proofs.Common.{ℕ, List, inl, subst, ◌∙◌}
use Rattle.caf_cli.specs.Ends.{HasTried}
use Rattle.caf_cli.proofs.checking.check.Goals as goal

pub returns-clause-ends : goal.returns-clause-ends
returns-clause-ends g c = inl (record {
  scenario = c.in-Ok-scenario_in.scenario;
  reads = c.in-Ok-scenario_in.ensures.reads;
  tried = subst (λ (text : List ℕ). HasTried text (g.S.Sink.written c.args.out.now) (g.S.Sink.written c.write_text.new.out) c.write_text.result) (c.as_slice.ensures ∙ c.in-Ok-text_of.ensures) c.write_text.ensures.tried;
})

use Rattle.std.proofs.Common.{ap}
use Rattle.caf_actor.specs.PlainForms.{plain_reaction}
use Rattle.caf_kinds.specs.Source.{Sourced}
use Rattle.caf_kinds.proofs.SourceLemmas.{went_on}
use Rattle.caf_kinds.proofs.source.Source.go_on.Goals as goal

pub returns : goal.returns
returns c =
    went_on c.args.self.now c.self.inside.identity c.self.inside.chunks c.batch_end-end.result c.stage_after-stage.result (plain_reaction c.in_ok-reaction.reaction)
    (ap (λ (s : Sourced). s.identity) c.self.view_is) (ap (λ (s : Sourced). s.chunks) c.self.view_is) c.batch_end-end.ensures c.stage_after-stage.ensures c.in_ok-reaction.ensures

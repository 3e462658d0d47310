use Rattle.std.proofs.Common.{◌≡◌, None, ℕ, List, sym, subst, ◌∙◌}
use Rattle.std.specs.BTreeMap.{get_by_text}
use Rattle.caf_scenario.specs.declared.written.WrittenActor.{WrittenActor}
use Rattle.caf_scenario.specs.Written.{document_seen}
use Rattle.caf_scenario.specs.Actors.{actor_named, actors_fault}
use Rattle.caf_scenario.proofs.ValidLemmas.{later}
use Rattle.caf_scenario.proofs.scenario.scenario_of.Goals as goal

pub returns : goal.returns
returns c =
    later (document_seen c.args.written.now) (get_by_text c.in_ok-names.names) c.played_by.result
    (sym c.is_many.ensures ∙ c.if-is_many.false)
    (subst (λ (actors : List WrittenActor). actors_fault actors ≡ None) c.as_slice.ensures c.in_ok-names.ensures.0)
    (subst (λ (actors : List WrittenActor). (name : List ℕ) → get_by_text c.in_ok-names.names name ≡ actor_named actors name) c.as_slice.ensures c.in_ok-names.ensures.1)
    c.played_by.ensures

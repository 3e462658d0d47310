use Rattle.std.proofs.Common.{ℕ, List, sym, ◌∙◌, subst}
use Rattle.std.specs.Prelude.{IsTrue}
use Rattle.caf_types.specs.Name.{is_name}
use Rattle.caf_scenario.proofs.BuiltinLemmas.{counter_named}
use Rattle.caf_scenario.proofs.built_in.counter_name.Goals as goal

pub of-requires : goal.of-requires
of-requires c = subst (λ (text : List ℕ). IsTrue (is_name text)) (sym (c.as_str.ensures.value ∙ c.in_ok-text.ensures)) (counter_named c.args.number c.requires.few)

use Rattle.std.proofs.Common.{◌∙◌, ap}
use Rattle.std.specs.Option.{option_map}
use Rattle.caf_types.specs.Table.{Named, type_at, type_in}
use Rattle.caf_types.proofs.TableLemmas.{type_joins, id_joins, map_or_else}
use Rattle.caf_types.proofs.laws.block_joins.Goals as goal

pub returns-clause-shapes : goal.returns-clause-shapes
returns-clause-shapes c = λ t block first ns id.
    ap (option_map (λ (n : Named). n.shape)) (type_joins t.types first id ns) ∙ map_or_else (λ (n : Named). n.shape) (type_at t.types id) (type_in first ns id)

pub returns-clause-names : goal.returns-clause-names
returns-clause-names c = λ t block first ns id.
    ap (option_map (λ (n : Named). n.name)) (type_joins t.types first id ns) ∙ map_or_else (λ (n : Named). n.name) (type_at t.types id) (type_in first ns id)

pub returns-clause-found : goal.returns-clause-found
returns-clause-found c = λ t block first ns name. id_joins t.types first ns name

use Rattle.std.proofs.Common.{ap, ◌∙◌}
use Rattle.std.specs.FinMap as finite
use Rattle.caf_signature.specs.Registry.{registrations}
use Rattle.caf_signature.proofs.RegistryLemmas.{insert-registrations}
use Rattle.caf_signature.proofs.registry.insert.Goals as goal

pub returns-clause-added : goal.returns-clause-added
returns-clause-added c =
    insert-registrations _ _ c.args.entries.now c.insert.new.self c.in_ok-insert.ensures.updates
    ∙ ap (λ name. finite.insert (registrations c.args.entries.now.entries) name c.args.registered) c.in_ok-key.ensures.ok

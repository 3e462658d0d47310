use Rattle.std.proofs.Common.{sym, ◌∙◌}
use Rattle.caf_signature.proofs.RegistryLemmas.{get-registrations}
use Rattle.caf_signature.proofs.registry.Registry.registered.Goals as goal

pub returns : goal.returns
returns c = rw (← c.self.view_is) (c.get.ensures.value ∙ sym (get-registrations _ _))

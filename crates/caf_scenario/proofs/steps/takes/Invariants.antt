use Rattle.std.proofs.Common.{◌≡◌, drop}
use Rattle.caf_words.specs.Several.{ids_of}
use Rattle.caf_actor.specs.Rules.{is_input}
use Rattle.caf_scenario.proofs.steps.takes.Given as goal

-- none before it has the types
abbrev pub invariant-loop-signature : goal.invariant-loop-signature
invariant-loop-signature l = is_input (drop l.signature-index l.signature-items) (ids_of l.types) ≡ is_input l.interface (ids_of l.types)

use Rattle.caf_command.proofs.LawLemmas.{one_asked_for}
use Rattle.caf_command.proofs.law.ask_for_one_command.Goals as goal

pub returns : goal.returns
returns c = one_asked_for

use Rattle.caf_script.proofs.ScriptLemmas.{plays_in_order}
use Rattle.caf_script.proofs.laws.plays_in_order.Goals as goal

pub returns : goal.returns
returns c = plays_in_order

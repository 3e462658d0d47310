use Rattle.caf_message.proofs.StepLemmas.{on_err, gave_up_as_before}
use Rattle.caf_message.proofs.laws.write_over.Goals as goal

pub returns-in_err-done-clause-refused : goal.returns-in_err-done-clause-refused
returns-in_err-done-clause-refused c = on_err c.from_residual.result (gave_up_as_before c.args.tuple.now c.own.new.tuple c.in_err-done.ensures.refused)

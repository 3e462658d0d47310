use Rattle.std.proofs.Common.{rules, ◌≡◌, codes}
use Rattle.std.proofs.lemmas.Result.{err_from_is_err_and}
use Rattle.caf_command.proofs.LawLemmas.{no_run}
use Rattle.caf_command.proofs.command.named.Goals as goal

pub returns-in_err-run_words-clause-refused : goal.returns-in_err-run_words-clause-refused
returns-in_err-run_words-clause-refused c = λ e.
    let p = err_from_is_err_and c.from_residual.result c.from_residual.ensures.1 in
    let is_run : c.args.name.now ≡ codes "run" = search rules in
    no_run c.args.name.now c.args.rest.now is_run (c.run_words.ensures.refused (cc (c.in_err-run_words.was, p.1, p.2, e)))

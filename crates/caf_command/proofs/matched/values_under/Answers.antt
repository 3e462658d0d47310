use Rattle.std.proofs.Common.{◌≡◌, [], None, ap, ◌∙◌}
use Rattle.std.specs.Prelude.{unwrap_or}
use Rattle.std.proofs.lemmas.Result.{IfOk-weaker}
use Rattle.clap.specs.Words.{found_of, rows_of}
use Rattle.clap.specs.Walk.{all_of}
use Rattle.caf_command.proofs.MatchLemmas.{raw_under}
use Rattle.caf_command.proofs.matched.values_under.Goals as goal

pub returns-in-None : goal.returns-in-None
returns-in-None c =
    let none : None ≡ all_of c.args.id.now (rows_of (found_of c.args.matches.now)) = c.in-None.ensures ∙ raw_under (found_of c.args.matches.now) c.args.id.now in
    c.new.ensures ∙ ap (λ o. unwrap_or o []) none

pub returns-in-Some : goal.returns-in-Some
returns-in-Some c =
    let some = c.in-Some.ensures ∙ raw_under (found_of c.args.matches.now) c.args.id.now in
    IfOk-weaker c.copied.result _ _ (λ values h. h ∙ ap (λ o. unwrap_or o []) some) c.copied.ensures

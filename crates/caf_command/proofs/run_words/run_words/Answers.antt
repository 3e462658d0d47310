use Rattle.std.proofs.Common.{rules, ◌≡◌, ℕ, List, [], true, false, map, Bor, ap, subst, sym, ◌∙◌}
use Rattle.std.specs.List.{list_all}
use Rattle.std.proofs.lemmas.Result.{err_from_is_err_and, IfOk-weaker}
use Rattle.clap.specs.Words.{found_of, rows_of}
use Rattle.clap.specs.Faults.{fault_of}
use Rattle.clap.specs.Simple.{matches_of}
use Rattle.caf_command.specs.Clap.{run_app}
use Rattle.caf_command.specs.Command.{AsksRun, IsGiven}
use Rattle.caf_command.specs.Reading.{is_known}
use Rattle.caf_command.proofs.RunLemmas.{asks_run, run_asked, not_known, not_taken, filed}
use Rattle.caf_command.proofs.run_words.run_words.Goals as goal

pub returns-then-not-are_known-clause-refused : goal.returns-then-not-are_known-clause-refused
returns-then-not-are_known-clause-refused c = λ _.
    let unknown : list_all is_known c.args.words.now ≡ false = search rules in
    not_known c.args.words.now unknown

pub returns-in_err-matches-clause-refused : goal.returns-in_err-matches-clause-refused
returns-in_err-matches-clause-refused c = λ e.
    let p = err_from_is_err_and c.from_residual-in_err-matches.result c.from_residual-in_err-matches.ensures.1 in
    let same : map (λ (t : Bor (List ℕ)). t.now) c.as_slice.result.now ≡ c.args.words.now = ap (map (λ (t : Bor (List ℕ)). t.now)) c.as_slice.ensures.value ∙ c.in_ok-texts.ensures in
    let refused = c.run_matches.ensures.refused (cc (c.in_err-matches.was, p.1, p.2, e)) in
    not_taken c.args.words.now (λ taken. refused (subst (λ ws. fault_of run_app ws ≡ []) (sym same) taken))

pub returns-clause-asks : goal.returns-clause-asks
returns-clause-asks c =
    let known : list_all is_known c.args.words.now ≡ true = search rules in
    let same : map (λ (t : Bor (List ℕ)). t.now) c.as_slice.result.now ≡ c.args.words.now = ap (map (λ (t : Bor (List ℕ)). t.now)) c.as_slice.ensures.value ∙ c.in_ok-texts.ensures in
    let g = c.in_ok-given.ensures in
    let f = filed c.args.words.now (rows_of (found_of c.in_ok-matches.matches)) c.in_ok-given.given known (subst (λ ws. fault_of run_app ws ≡ []) same c.in_ok-matches.ensures.taken)
    (c.in_ok-matches.ensures.matches ∙ ap (matches_of run_app) same) g.scenarios g.workers g.budgets g.traces g.files in
    IfOk-weaker c.run_of.result (λ run. IsGiven c.in_ok-given.given run) (λ run. AsksRun c.args.words.now run)
    (asks_run c.args.words.now f.0 c.in_ok-given.given f.1 f.2) c.run_of.ensures.asks

pub returns-clause-refused : goal.returns-clause-refused
returns-clause-refused c = λ e run asks.
    let known : list_all is_known c.args.words.now ≡ true = search rules in
    let same : map (λ (t : Bor (List ℕ)). t.now) c.as_slice.result.now ≡ c.args.words.now = ap (map (λ (t : Bor (List ℕ)). t.now)) c.as_slice.ensures.value ∙ c.in_ok-texts.ensures in
    let g = c.in_ok-given.ensures in
    let f = filed c.args.words.now (rows_of (found_of c.in_ok-matches.matches)) c.in_ok-given.given known (subst (λ ws. fault_of run_app ws ≡ []) same c.in_ok-matches.ensures.taken)
    (c.in_ok-matches.ensures.matches ∙ ap (matches_of run_app) same) g.scenarios g.workers g.budgets g.traces g.files in
    c.run_of.ensures.refused e run (run_asked c.args.words.now f.0 c.in_ok-given.given f.1 f.2 run asks)

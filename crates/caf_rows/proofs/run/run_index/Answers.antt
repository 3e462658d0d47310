use Rattle.std.proofs.Common.{sym, ◌∙◌, arith}
use Rattle.caf_rows.proofs.ShortLemmas.{all_short}
use Rattle.caf_rows.proofs.run.run_index.Goals as goal

pub run_of-requires-clause-opens : goal.run_of-requires-clause-opens
run_of-requires-clause-opens c =
    let few = c.if-counters-lt1.false in
    let many = c.if-counters-gt200.false in
    c.builtin_opens.ensures c.args.counters c.in_ok-scenario.scenario c.args.files (omega (arith, few)) (omega (arith, many)) c.in_ok-scenario.ensures
    (all_short c.args.files (sym c.are_short.ensures ∙ c.if-not-are_short.false))

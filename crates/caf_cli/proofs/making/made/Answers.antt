use Rattle.std.proofs.Common.{◌≡◌, ℕ, true, List, sym, subst, ap, ◌∙◌, arith}
use Rattle.std.specs.Prelude.{slice_get}
use Rattle.std.specs.List.{AllByRecursion}
use Rattle.caf_generator.specs.MakeLine.{make_line_of}
use Rattle.caf_generator.specs.declared.counts.Counts.{Counts}
use Rattle.caf_kinds.specs.Starting.{has_short_lines}
use Rattle.caf_report.specs.Report.{index_at}
use Rattle.caf_cli.specs.Make.{sizes_of, with_index}
use Rattle.caf_cli.specs.Play.{IsPlay}
use Rattle.caf_cli.proofs.GeneratedLemmas.{generated_short}
use Rattle.caf_cli.proofs.making.made.Goals as goal

pub play_over-requires-clause-opens : goal.play_over-requires-clause-opens
play_over-requires-clause-opens c =
    let short = subst (AllByRecursion (λ bytes. has_short_lines 0 bytes ≡ true)) (sym c.in_ok-files.ensures) (generated_short c.args.lines) in
    c.builtin_opens.ensures 4 c.in_ok-scenario.scenario c.in_ok-files.files (omega arith) (omega arith) c.in_ok-scenario.ensures short

pub returns-in-Done-clause-made : goal.returns-in-Done-clause-made
returns-in-Done-clause-made c = record {
  play = record {
    scenario = c.in_ok-scenario.scenario;
    built_in = c.in_ok-scenario.ensures;
    played = c.in_ok-played.played;
    play = subst (λ (files : List (List ℕ)). IsPlay c.in_ok-scenario.scenario files 10000000 c.in_ok-played.played) c.in_ok-files.ensures c.in_ok-played.ensures;
    so = c.in-Done.is;
  };
  text_is = c.in_ok-line_of-in-Done.ensures ∙ ap (λ (sizes : Counts). make_line_of (with_index sizes (index_at (slice_get c.in_ok-played.played.kinds 8)))) (c.in_ok-sizes.ensures ∙ ap sizes_of c.in_ok-files.ensures);
}

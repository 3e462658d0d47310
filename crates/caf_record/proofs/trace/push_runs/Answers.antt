use Rattle.std.proofs.Common.{◌≡◌, ◌++◌, sym, ap, ◌∙◌, subst}
use Rattle.std.specs.Prelude.{flat_map}
use Rattle.caf_record.specs.Trace.{run_text, runs_of}
use Rattle.caf_record.proofs.SenderRunLemmas.{run_more, run_of}
use Rattle.caf_record.proofs.trace.push_runs.Goals as goal

pub loop-first-preserved : goal.loop-first-preserved
loop-first-preserved c =
    let text = c.loop-first.text.items in
    let whole = c.args.text.now.items ++ flat_map run_text (runs_of c.args.taken.now) in
    subst (λ es. c.push_run.new.text.items ++ flat_map run_text (runs_of es) ≡ whole) (sym c.split_at.ensures.back)
    (run_more c.loop-first.rest.now c.in-Some.first.now c.run_length.result text c.push_run.new.text.items whole
    (sym c.in-Some.ensures.value) c.run_length.ensures.count c.loop-first.invariant
    (c.in_ok-push_run.ensures ∙ ap (λ n. text ++ run_text (run_of c.in-Some.first.now.sender n)) c.split_at.ensures.front_len))

use Rattle.std.proofs.Common.{rules, IfOk, slice_index_or, sym, subst}
use Rattle.caf_types.specs.TypeTable.{seen}
use Rattle.caf_sched.specs.Worker.{IsHired, Worked}
use Rattle.caf_sched.proofs.CrewLemmas.{all_zip}
use Rattle.caf_sched.proofs.run.work_all.Goals as goal

pub map_vec-requires-after_bounds : goal.map_vec-requires-after_bounds
map_vec-requires-after_bounds g c κs within = λ i x h e.
    let hired : IsHired g.W.Marked.has_mark g.W.Work.has_entries (seen c.args.table.now) c.args.shared.now.turns x = subst (λ w. IsHired g.W.Marked.has_mark g.W.Work.has_entries (seen c.args.table.now) c.args.shared.now.turns w) (sym e) (c.requires i x h) in
    search rules

pub returns : goal.returns
returns g c = all_zip (λ w r. IfOk r (Worked w)) c.args.workers.items c.in_ok-back.back.items (search rules)
    (λ i d e h. let j = (c.in_ok-back.ensures.each i e h).1 in subst (λ x. IfOk (slice_index_or c.in_ok-back.back.items i e) (Worked x)) (sym (j.job_is d)) j.call.met)

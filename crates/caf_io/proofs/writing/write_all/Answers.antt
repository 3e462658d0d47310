use Rattle.std.proofs.Common.{sym, rules, []}
use Rattle.std.proofs.lemmas.List.{append-nil}
use Rattle.caf_io.specs.Sink.{AddsPrefix}
use Rattle.caf_io.proofs.WritingLemmas.{both_parts, one_more, part_of_it}
use Rattle.caf_io.proofs.writing.write_all.Goals as goal

pub returns-in_err-write-clause-part : goal.returns-in_err-write-clause-part
returns-in_err-write-clause-part g c =
    let cut = both_parts 65536 c.loop-rest.rest.now c.split_at.result.0.now c.split_at.result.1.now c.split_at.ensures.front c.split_at.ensures.back in
    let part = part_of_it _ _ _ _ _ _ _ c.loop-rest.invariant.0 cut c.in_err-write.ensures.part in
    search rules

pub loop-rest-preserved : goal.loop-rest-preserved
loop-rest-preserved g c =
    let cut = both_parts 65536 c.loop-rest.rest.now c.split_at.result.0.now c.split_at.result.1.now c.split_at.ensures.front c.split_at.ensures.back in
    let more = one_more _ _ _ _ _ _ _ c.loop-rest.invariant.0 cut c.in_ok-write.ensures.whole in
    search rules

pub returns-clause-part : goal.returns-clause-part
returns-clause-part g c =
    let step : AddsPrefix _ _ c.loop-rest.rest.now → AddsPrefix _ _ c.args.text.now =
    λ some. part_of_it _ (g.S.Sink.written c.loop-rest.out) (g.S.Sink.written c.write-2.new.self) _ _ _ []
    c.loop-rest.invariant.0 (sym (append-nil c.loop-rest.rest.now)) some in
    search rules

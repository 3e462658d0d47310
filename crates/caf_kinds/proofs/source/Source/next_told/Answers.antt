use Rattle.std.proofs.Common.{ap, arith}
use Rattle.caf_kinds.specs.Source.{Sourced}
use Rattle.caf_kinds.proofs.SourceLemmas.{next_length, told_more, told_all}
use Rattle.caf_kinds.proofs.source.Source.next_told.Goals as goal

pub told_to_all-requires : goal.told_to_all-requires
told_to_all-requires c = let told = ap (λ (s : Sourced). s.told) c.self.view_is in omega (arith, told, next_length c.args.self.now)

pub loop-number-preserved : goal.loop-number-preserved
loop-number-preserved c =
    let told = ap (λ (s : Sourced). s.told) c.self.view_is in
    told_more c.args.self.now c.loop-number.number c.loop-number.outputs c.push.new.self c.in_ok-told_to_all.field-0 (omega (arith, told)) (omega (arith, told, next_length c.args.self.now)) c.loop-number.invariant c.in_ok-push.ensures.added c.in_ok-told_to_all.ensures

pub returns : goal.returns
returns c =
    let told = ap (λ (s : Sourced). s.told) c.self.view_is in
    told_all c.args.self.now c.loop-number.number c.args.end c.loop-number.outputs (omega (arith, told)) c.requires c.loop-number.invariant

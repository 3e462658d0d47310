use Rattle.std.proofs.Common.{length, ap, sym, arith}
use Rattle.caf_kinds.specs.Source.{Sourced}
use Rattle.caf_kinds.proofs.SourceLemmas.{goes_on_with, ends_with}
use Rattle.caf_kinds.proofs.source.Source.stage_after.Goals as goal

pub returns-then-end-chunks : goal.returns-then-end-chunks
returns-then-end-chunks c =
    let chunks = ap (λ (s : Sourced). length s.chunks) c.self.view_is in
    sym (goes_on_with c.args.self.now c.args.end c.requires (omega (arith, chunks))).1

pub returns-else-end-chunks : goal.returns-else-end-chunks
returns-else-end-chunks c =
    let chunks = ap (λ (s : Sourced). length s.chunks) c.self.view_is in
    sym (ends_with c.args.self.now c.args.end c.requires (omega (arith, chunks))).1

use Rattle.std.proofs.Common.{length, ap, arith}
use Rattle.caf_kinds.specs.Source.{Sourced}
use Rattle.caf_kinds.proofs.SourceLemmas.{next_length}
use Rattle.caf_kinds.proofs.source.Source.batch_end.Goals as goal

pub returns-then-left-lt-BATCH : goal.returns-then-left-lt-BATCH
returns-then-left-lt-BATCH c =
    let told = ap (λ (s : Sourced). s.told) c.self.view_is in
    let chunks = ap (λ (s : Sourced). length s.chunks) c.self.view_is in
    omega (arith, told, chunks, next_length c.args.self.now, c.saturating_sub-left.ensures)

pub returns-else-left-lt-BATCH : goal.returns-else-left-lt-BATCH
returns-else-left-lt-BATCH c =
    let told = ap (λ (s : Sourced). s.told) c.self.view_is in
    let chunks = ap (λ (s : Sourced). length s.chunks) c.self.view_is in
    omega (arith, told, chunks, next_length c.args.self.now, c.saturating_sub-left.ensures)

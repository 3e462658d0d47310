use Rattle.std.proofs.Common.{◌<◌, ◌≤◌, length, ap, ◌∙◌, arith}
use Rattle.caf_index.proofs.ChunkLemmas.{end-some, end-fits, turn-next, turn-more, turn-begin}
use Rattle.caf_index.specs.declared.chunk.Chunk.{Chunk}
use Rattle.caf_index.proofs.chunk.chunks.Goals as goal
use Rattle.caf_index.proofs.chunk.chunks.Goals.{then-current+then-end-current-gt-CHUNK_BYTES+in_ok-push, else-current, else-current-via-then-current+else-end-current-gt-CHUNK_BYTES, else-current-via-else-current}

pub loop-current-smaller : goal.loop-current-smaller
loop-current-smaller c =
    let past = end-some c.args.bytes.now c.loop-current.current.to c.line_end-end.result c.loop-current-test.true c.line_end-end.ensures in
    omega (arith, past, c.loop-current-test.true)

pub loop-current-preserved : goal.loop-current-preserved
loop-current-preserved c =
    let bytes = c.args.bytes.now in
    let old = c.loop-current.current in
    let end = c.line_end-end.result in
    let kept = c.loop-current.invariant in
    let past : old.to < end = end-some bytes old.to end c.loop-current-test.true c.line_end-end.ensures in
    let fits : end ≤ length bytes = end-fits bytes old.to end c.loop-current-test.true c.line_end-end.ensures in
    let before : c.if-current.current.from ≤ old.to = elim c.if-current.branch [
      | then-current+then-end-current-gt-CHUNK_BYTES+in_ok-push w ↦ (let is = ap (λ (k : Chunk). k.from) w.current-is in omega (arith, is))
      | else-current w ↦ (let is = ap (λ (k : Chunk). k.from) w.current-is in omega (arith, is, kept.order))
    ] in
    record {
      order = omega (arith, past, before);
      within = fits;
      counted = omega (arith, past, kept.counted);
      begun = λ none. absurd (omega (arith, past, before, none));
      all = elim c.if-current.branch [
        | then-current+then-end-current-gt-CHUNK_BYTES+in_ok-push w ↦ turn-next bytes c.loop-current.chunks old c.loop-current.line end c.loop-current-test.true c.line_end-end.ensures kept.all _ _ w.if-current.true w.if-end-current-gt-CHUNK_BYTES.true (w.chunks-is ∙ w.in_ok-push.ensures.added) w.current-is
        | else-current w ↦ elim w.else-current.branch [
          | else-current-via-then-current+else-end-current-gt-CHUNK_BYTES v ↦ turn-more bytes c.loop-current.chunks old c.loop-current.line end c.loop-current-test.true c.line_end-end.ensures kept.all _ _ v.if-current.true (omega (arith, v.if-end-current-gt-CHUNK_BYTES.false)) w.chunks-is w.current-is
          | else-current-via-else-current v ↦ turn-begin bytes c.loop-current.chunks old c.loop-current.line end c.loop-current-test.true c.line_end-end.ensures kept.all _ _ kept.order v.if-current.false (kept.begun v.if-current.false) w.chunks-is w.current-is
        ]
      ];
    }

use Rattle.std.proofs.Common.{ap, sym, ◌∙◌}
use Rattle.caf_words.specs.Datum.{are_bytes}
use Rattle.caf_kinds.proofs.ChunkPlaceLemmas.{bytes_more}
use Rattle.caf_cli.proofs.promises.know_files.Goals as goal

pub loop-bytes-preserved : goal.loop-bytes-preserved
loop-bytes-preserved c =
    bytes_more c.args.files.now c.loop-bytes.bytes-index c.bytes-item.result c.loop-bytes-test.true c.bytes-item.is
    (ap are_bytes (sym c.as_slice.ensures) ∙ c.know_bytes.ensures) c.loop-bytes.invariant

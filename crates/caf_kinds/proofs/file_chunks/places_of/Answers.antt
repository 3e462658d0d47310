use Rattle.std.proofs.Common.{◌+◌, ◌++◌, List, length, ap, ◌∙◌}
use Rattle.caf_index.specs.Chunks.{chunks_of}
use Rattle.caf_index.specs.declared.chunk.Chunk.{Chunk as Span}
use Rattle.caf_kinds.specs.FileChunks.{places_numbered}
use Rattle.caf_kinds.proofs.ChunkPlaceLemmas.{places_more}
use Rattle.caf_kinds.proofs.file_chunks.places_of.Goals as goal

pub loop-before-preserved : goal.loop-before-preserved
loop-before-preserved c =
    let places = c.loop-before.places in
    let before = c.loop-before.before in
    let spans = c.as_slice-in-loop-before.ensures ∙ c.in_ok-spans.ensures ∙ ap chunks_of c.as_slice.ensures in
    let more = c.in_ok-add_places.ensures ∙ ap (λ (ss : List Span). places ++ places_numbered (before + 1) (length places) ss) spans in
    places_more c.args.files.now before c.index-files-before.result places c.add_places.new.places c.loop-before-test.true c.index-files-before.is c.loop-before.invariant more

use Rattle.caf_kinds.proofs.ChunkPlaceLemmas.{is_one_of, is_small}
use Rattle.caf_kinds.proofs.file_chunks.FileChunks.message.Goals as goal

pub small_message-requires : goal.small_message-requires
small_message-requires c = is_small c.in_ok-chunk.chunk (is_one_of c.args.self.now c.args.i c.in_ok-chunk.chunk c.requires c.know.ensures c.in_ok-chunk.ensures)

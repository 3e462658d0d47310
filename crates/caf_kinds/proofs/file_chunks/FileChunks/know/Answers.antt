use Rattle.std.proofs.Common.{subst}
use Rattle.caf_kinds.specs.FileChunks.{AreChunks}
use Rattle.caf_kinds.proofs.ChunkPlaceLemmas.{places_are_chunks}
use Rattle.caf_kinds.proofs.file_chunks.FileChunks.know.Goals as goal

pub returns : goal.returns
returns c = subst AreChunks c.self.view_is (places_are_chunks c.self.inside.files c.self.inside.places c.self.invariant)

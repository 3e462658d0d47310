-- The postings of a chunk are no larger than a message.
use Rattle.std.specs.Prelude.{◌≤◌, length}
use Rattle.caf_kinds.specs.Counter.{postings_at}
use Rattle.caf_kinds.specs.Pipeline.{postings_content}
use Rattle.caf_kinds.specs.declared.contents.Chunk.{Chunk}

-- a chunk has at most 1,048,576 bytes, a message at most 4,194,304 words
abbrev pub PostingsFitAMessage : Type 0
PostingsFitAMessage = (c : Chunk) → length c.bytes ≤ 1048576 → length (postings_content (postings_at c)) ≤ 4194304

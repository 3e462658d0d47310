-- A counter tells its peer the postings of each chunk, and counts the chunks.
use Rattle.std.specs.Prelude.{ℕ, ◌+◌, nat_le, Bool, List, [], ◌∷◌, length, map, slice_get, if◌then◌else◌, Option, Some, None}
use Rattle.caf_signature.specs.declared.interface.Signature.{Signature}
use Rattle.caf_actor.specs.PlainInput.{PlainInput, Content}
use Rattle.caf_actor.specs.PlainReaction.{PlainReaction}
use Rattle.caf_index.specs.Postings.{postings_of}
use Rattle.caf_index.specs.declared.posting.Posting.{Posting}
use Rattle.caf_kinds.specs.Asking.{of_unit, of_unsigned, takes, has, asked}
use Rattle.caf_kinds.specs.Reacting.{Reacted, quiet, answers, unsigned, failed}
use Rattle.caf_kinds.specs.Pipeline.{of_chunk, counting, chunk_in, postings_content, stopped, to_peer, sends}
use Rattle.caf_kinds.specs.declared.contents.Chunk.{Chunk}
use Rattle.caf_kinds.specs.declared.contents.Item.{Item}
use Rattle.caf_kinds.specs.declared.contents.Postings.{Postings}
use Rattle.caf_kinds.specs.declared.counter.Counter.{Counter}

abbrev pub interface : List Signature
interface = takes of_chunk of_unit ∷ takes counting of_unsigned ∷ []

abbrev pub item_of : Posting → Item
item_of p = record { word = p.word; line = p.line }

-- the postings of the chunk's bytes, from its line on
abbrev pub postings_at : Chunk → Postings
postings_at c = record { file = c.file; items = map item_of (postings_of c.line c.bytes) }

-- the content is no larger than a message
abbrev pub is_small : List ℕ → Bool
is_small words = nat_le (length words) 4194304

-- the postings go to the peer; where they are too large for a message, nothing does
abbrev pub told : Counter → List ℕ → PlainReaction
told s words = if is_small words then sends (to_peer (slice_get s.identity.peers 0) words) else answers failed

-- one chunk more
abbrev pub counted : Counter → Counter
counted s = record s { count = stopped (s.count + 1) }

abbrev pub on_chunk : Counter → Option Chunk → Reacted Counter
on_chunk s (Some c) = (counted s, told s (postings_content (postings_at c)))
on_chunk s None = (s, answers failed)

abbrev pub given : Counter → List ℕ → Reacted Counter
given s words =
    if has of_chunk words then on_chunk s (chunk_in (asked of_chunk words))
    else if has counting words then (s, answers (unsigned s.count))
    else (s, answers failed)

abbrev pub reacted : Counter → PlainInput → Reacted Counter
reacted s (Content origin words) = given s words
reacted s _ = (s, quiet)

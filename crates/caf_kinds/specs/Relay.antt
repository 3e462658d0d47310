-- A relay hands each chunk on, in lower case, to one of its peers in turn.
use Rattle.std.specs.Prelude.{ℕ, ◌%◌, Bool, List, [], ◌∷◌, length, map, slice_get, bytes_eq, if◌then◌else◌, Option, Some, None}
use Rattle.caf_signature.specs.declared.interface.Signature.{Signature}
use Rattle.caf_actor.specs.PlainInput.{PlainInput, Content}
use Rattle.caf_actor.specs.PlainReaction.{PlainReaction}
use Rattle.caf_index.specs.Words.{lower_case}
use Rattle.caf_kinds.specs.Asking.{of_unit, of_unsigned, type_ids, takes, has, asked}
use Rattle.caf_kinds.specs.Reacting.{Reacted, quiet, answers, failed}
use Rattle.caf_kinds.specs.Pipeline.{of_chunk, counting, chunk_in, chunk_content, to_peer, passed_to, sends}
use Rattle.caf_kinds.specs.declared.contents.Chunk.{Chunk}
use Rattle.caf_kinds.specs.declared.relay.Relay.{Relay}

abbrev pub interface : List Signature
interface = takes of_chunk of_unit ∷ takes counting of_unsigned ∷ []

-- the chunk with `A` to `Z` as `a` to `z`
abbrev pub lowered : Chunk → Chunk
lowered c = record c { bytes = map lower_case c.bytes }

-- the peer at position (number modulo the number of peers)
abbrev pub peer_for : List ℕ → ℕ → Option ℕ
peer_for peers number = slice_get peers (number % length peers)

abbrev pub on_chunk : Relay → Option Chunk → PlainReaction
on_chunk s (Some c) = sends (to_peer (peer_for s.identity.peers c.number) (chunk_content (lowered c)))
on_chunk s None = answers failed

-- [count] is passed on to the first peer
abbrev pub given : Relay → List ℕ → PlainReaction
given s words =
    if has of_chunk words then on_chunk s (chunk_in (asked of_chunk words))
    else if has counting words then answers (passed_to (slice_get s.identity.peers 0))
    else answers failed

abbrev pub delegates : List ℕ → Bool
delegates ids = bytes_eq (type_ids counting) ids

abbrev pub reacted : Relay → PlainInput → Reacted Relay
reacted s (Content origin words) = (s, given s words)
reacted s _ = (s, quiet)

-- A lines tells its peer how many lines and bytes each chunk has.
use Rattle.std.specs.Prelude.{ℕ, ◌-◌, not, Bool, false, List, [], ◌∷◌, length, slice_get, if◌then◌else◌, Option, Some, None}
use Rattle.caf_signature.specs.declared.interface.Signature.{Signature}
use Rattle.caf_actor.specs.PlainInput.{PlainInput, Content}
use Rattle.caf_actor.specs.PlainReaction.{PlainReaction}
use Rattle.caf_index.specs.Words.{is_line_end}
use Rattle.caf_index.specs.Chunks.{lines_of}
use Rattle.caf_kinds.specs.Asking.{of_unit, takes, has, asked}
use Rattle.caf_kinds.specs.Reacting.{Reacted, quiet, answers, failed}
use Rattle.caf_kinds.specs.Pipeline.{of_chunk, chunk_in, extent_content, to_peer, sends}
use Rattle.caf_kinds.specs.declared.contents.Chunk.{Chunk}
use Rattle.caf_kinds.specs.declared.contents.Extent.{Extent}
use Rattle.caf_kinds.specs.declared.lines.Lines.{Lines}

abbrev pub interface : List Signature
interface = takes of_chunk of_unit ∷ []

-- whether bytes end in a line without an end
abbrev pub is_open_behind : Option ℕ → Bool
is_open_behind None = false
is_open_behind (Some byte) = not (is_line_end byte)

abbrev pub ends_open : List ℕ → Bool
ends_open bytes = is_open_behind (slice_get bytes (length bytes - 1))

-- how many lines and bytes the chunk has
abbrev pub extent_of : Chunk → Extent
extent_of c = record { file = c.file; lines = length (lines_of c.bytes); bytes = length c.bytes }

abbrev pub on_chunk : Lines → Option Chunk → PlainReaction
on_chunk s (Some c) = sends (to_peer (slice_get s.identity.peers 0) (extent_content (extent_of c)))
on_chunk s None = answers failed

abbrev pub given : Lines → List ℕ → PlainReaction
given s words = if has of_chunk words then on_chunk s (chunk_in (asked of_chunk words)) else answers failed

abbrev pub reacted : Lines → PlainInput → Reacted Lines
reacted s (Content origin words) = (s, given s words)
reacted s _ = (s, quiet)

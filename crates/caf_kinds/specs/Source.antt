-- A source tells the chunks of its files to its takers, some at a time, and then to its last peer how many there were.
use Rattle.std.specs.Prelude.{ℕ, ◌+◌, ◌-◌, ◌≤◌, List, [], ◌∷◌, ◌++◌, length, map, take, drop, slice_get, if◌then◌else◌, Option}
use Rattle.caf_types.specs.declared.notice.Priority.TheVariants as priority
use Rattle.caf_words.specs.Datum.{no_data, more, a_unit}
use Rattle.caf_signature.specs.declared.interface.Signature.{Signature}
use Rattle.caf_actor.specs.PlainInput.{PlainInput, Content}
use Rattle.caf_actor.specs.PlainOutput.{PlainOutput}
use Rattle.caf_actor.specs.PlainOutput as output
use Rattle.caf_actor.specs.PlainReaction.{PlainReaction}
use Rattle.caf_kinds.specs.Asking.{Types, atom, of_unit, takes, has, content}
use Rattle.caf_kinds.specs.Who.{Who}
use Rattle.caf_kinds.specs.Reacting.{Reacted, quiet, answers, done, failed}
use Rattle.caf_kinds.specs.Pipeline.{chunk_content, finish_content, stopped, to_peer, sends}
use Rattle.caf_kinds.specs.FileChunks.{all_chunks, AreChunks}
use Rattle.caf_kinds.specs.declared.contents.Chunk.{Chunk}
use Rattle.caf_kinds.specs.declared.contents.Finish.{Finish}
use Rattle.caf_kinds.specs.declared.source.Stage.{Stage}
use Rattle.caf_kinds.specs.declared.source.Stage.TheVariants as stage

abbrev pub starting : Types
starting = atom 206 []

abbrev pub going_on : Types
going_on = atom 207 []

abbrev pub interface : List Signature
interface = takes starting of_unit ∷ takes going_on of_unit ∷ []

-- who it is, the chunks of all files, how many of them were told, and whether it waits for [start], tells, or is done
pub record Sourced : Type 0 where
  pub identity : Who
  pub chunks : List Chunk
  pub told : ℕ
  pub stage : Stage

abbrev pub started : Who → List (List ℕ) → Sourced
started who files = record { identity = who; chunks = all_chunks files; told = 0; stage = stage.Waiting }

-- it has at most 16 takers and the last peer
pub record IsValid (s : Sourced) : Type 0 where
  pub chunks : AreChunks s.chunks
  pub peers : length s.identity.peers ≤ 17

-- ---- what it tells

-- the peers but the last one
abbrev pub takers : Sourced → List ℕ
takers s = take (length s.identity.peers - 1) s.identity.peers

abbrev pub last_peer : Sourced → Option ℕ
last_peer s = slice_get s.identity.peers (length s.identity.peers - 1)

-- a chunk goes to all takers at once
abbrev pub tells_all : Sourced → Chunk → PlainOutput
tells_all s c = output.TellMany (takers s) priority.Normal (chunk_content c)

abbrev pub more_content : List ℕ
more_content = content going_on (more a_unit no_data)

abbrev pub tells_itself : Sourced → PlainOutput
tells_itself s = output.Tell s.identity.place priority.Normal more_content

abbrev pub finish_of : ℕ → Finish
finish_of chunks = record { chunks = stopped chunks }

-- behind the chunks of this time: where some are left it goes on, else it tells how many there were
abbrev pub follows : Sourced → List Chunk → List PlainOutput
follows s [] = to_peer (last_peer s) (finish_content (finish_of (length s.chunks)))
follows s (c ∷ cs) = tells_itself s ∷ []

abbrev pub stage_with : List Chunk → Stage
stage_with [] = stage.Done
stage_with (c ∷ cs) = stage.Telling

-- ---- inputs

abbrev pub batch : ℕ
batch = 32

-- the chunks of this time, and those that are left for later ones
abbrev pub next_chunks : Sourced → List Chunk
next_chunks s = take batch (drop s.told s.chunks)

abbrev pub chunks_left : Sourced → List Chunk
chunks_left s = drop batch (drop s.told s.chunks)

abbrev pub reaction_on : Sourced → PlainReaction
reaction_on s = sends (map (tells_all s) (next_chunks s) ++ follows s (chunks_left s))

abbrev pub goes_on : Sourced → Reacted Sourced
goes_on s = (record s { told = s.told + length (next_chunks s); stage = stage_with (chunks_left s) }, reaction_on s)

-- [more] before the first [start], or when all chunks were told, does nothing
abbrev pub on_more : Stage → Sourced → Reacted Sourced
on_more stage.Telling s = goes_on s
on_more _ s = (s, answers done)

-- the first [start] makes it go on; later ones do nothing
abbrev pub on_start : Stage → Sourced → Reacted Sourced
on_start stage.Waiting s = (record s { stage = stage.Telling }, sends (tells_itself s ∷ []))
on_start _ s = (s, answers done)

abbrev pub given : Sourced → List ℕ → Reacted Sourced
given s words =
    if has starting words then on_start s.stage s
    else if has going_on words then on_more s.stage s
    else (s, answers failed)

abbrev pub reacted : Sourced → PlainInput → Reacted Sourced
reacted s (Content origin words) = given s words
reacted s _ = (s, quiet)

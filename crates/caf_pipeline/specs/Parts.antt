-- What each part of a pipeline does with what it takes.
use Rattle.std.specs.Prelude.{◌≡◌, ℕ, List, [], ◌∷◌, Some}
use Rattle.caf_types.specs.declared.notice.Priority.TheVariants as priority
use Rattle.caf_words.specs.Datum.{a_unit, more, no_data}
use Rattle.caf_actor.specs.declared.origin.Origin.{Origin}
use Rattle.caf_actor.specs.PlainInput.{Content}
use Rattle.caf_actor.specs.PlainOutput.{Tell}
use Rattle.caf_kinds.specs.Asking.{Types, content}
use Rattle.caf_kinds.specs.Collector.{asking_index, asking_totals, delivers, with_postings, with_extent, with_finish, in_tally, on_question}
use Rattle.caf_kinds.specs.Counter.{postings_at, counted}
use Rattle.caf_kinds.specs.FileChunks.{IsChunk}
use Rattle.caf_kinds.specs.Kinds.{reacted, as_kind}
use Rattle.caf_kinds.specs.Lines.{extent_of}
use Rattle.caf_kinds.specs.Pipeline.{chunk_content, postings_content, extent_content, finish_content, sends}
use Rattle.caf_kinds.specs.Relay.{lowered, peer_for}
use Rattle.caf_kinds.specs.Source.{Sourced, starting, more_content, finish_of, tells_itself, goes_on}
use Rattle.caf_kinds.specs.declared.collector.Collector.{Collector}
use Rattle.caf_kinds.specs.declared.contents.Chunk.{Chunk}
use Rattle.caf_kinds.specs.declared.counter.Counter.{Counter}
use Rattle.caf_kinds.specs.declared.kind.Kind.TheVariants as kind
use Rattle.caf_kinds.specs.declared.lines.Lines.{Lines}
use Rattle.caf_kinds.specs.declared.questions.Question.TheVariants as question
use Rattle.caf_kinds.specs.declared.relay.Relay.{Relay}
use Rattle.caf_kinds.specs.declared.source.Stage.TheVariants as stage

-- the message of one atom
abbrev pub atom_content : Types → List ℕ
atom_content atom = content atom (more a_unit no_data)

abbrev pub start_content : List ℕ
start_content = atom_content starting

abbrev pub index_content : List ℕ
index_content = atom_content asking_index

abbrev pub totals_content : List ℕ
totals_content = atom_content asking_totals

-- what is told of a chunk: its postings, and how many lines and bytes it has
abbrev pub told_postings : Chunk → List ℕ
told_postings c = postings_content (postings_at c)

abbrev pub told_extent : Chunk → List ℕ
told_extent c = extent_content (extent_of c)

abbrev pub told_finish : ℕ → List ℕ
told_finish chunks = finish_content (finish_of chunks)

pub record PartsHandOn : Type 0 where
  -- the source tells itself to go on, and then the next chunks, and goes on or tells how many there were
  pub starts : (s : Sourced) (o : Origin) → s.stage ≡ stage.Waiting
      → reacted (kind.Source s) (Content o start_content) ≡ (kind.Source (record s { stage = stage.Telling }), sends (tells_itself s ∷ []))
  pub tells : (s : Sourced) (o : Origin) → s.stage ≡ stage.Telling → reacted (kind.Source s) (Content o more_content) ≡ as_kind kind.Source (goes_on s)
  -- lines tells how many lines and bytes the chunk has
  pub measures : (s : Lines) (o : Origin) (c : Chunk) (to : ℕ) → IsChunk c → s.identity.peers ≡ to ∷ []
      → reacted (kind.Lines s) (Content o (chunk_content c)) ≡ (kind.Lines s, sends (Tell to priority.Normal (told_extent c) ∷ []))
  -- the relay tells the chunk in lower case, which is a chunk and has the same postings, to the peer of its number
  pub relays : (s : Relay) (o : Origin) (c : Chunk) (to : ℕ) → IsChunk c → peer_for s.identity.peers c.number ≡ Some to
      → reacted (kind.Relay s) (Content o (chunk_content c)) ≡ (kind.Relay s, sends (Tell to priority.Normal (chunk_content (lowered c)) ∷ []))
  pub lowered_is_chunk : (c : Chunk) → IsChunk c → IsChunk (lowered c)
  pub lowered_postings : (c : Chunk) → postings_at (lowered c) ≡ postings_at c
  -- a counter tells the chunk's postings, whatever they are, and counts it
  pub counts : (s : Counter) (o : Origin) (c : Chunk) (to : ℕ) → IsChunk c → s.identity.peers ≡ to ∷ []
      → reacted (kind.Counter s) (Content o (chunk_content c)) ≡ (kind.Counter (counted s), sends (Tell to priority.Normal (told_postings c) ∷ []))
  -- the collector puts the postings into its index, adds extents up, and keeps how many chunks there were; and each
  -- time it answers what it can
  pub indexes : (s : Collector) (o : Origin) (c : Chunk) → IsChunk c
      → reacted (kind.Collector s) (Content o (told_postings c)) ≡ as_kind kind.Collector (delivers (with_postings s (postings_at c)))
  pub adds : (s : Collector) (o : Origin) (c : Chunk) → IsChunk c
      → reacted (kind.Collector s) (Content o (told_extent c)) ≡ as_kind kind.Collector (delivers (in_tally s (with_extent s.tally (extent_of c))))
  pub finishes : (s : Collector) (o : Origin) (chunks : ℕ)
      → reacted (kind.Collector s) (Content o (told_finish chunks)) ≡ as_kind kind.Collector (delivers (in_tally s (with_finish s.tally (finish_of chunks))))
  pub is_asked_index : (s : Collector) (o : Origin) → reacted (kind.Collector s) (Content o index_content) ≡ as_kind kind.Collector (on_question s o question.Index)
  pub is_asked_totals : (s : Collector) (o : Origin) → reacted (kind.Collector s) (Content o totals_content) ≡ as_kind kind.Collector (on_question s o question.Totals)

-- What the actors of a pipeline tell one another, and to whom.
use Rattle.std.specs.Prelude.{ℕ, min, List, [], ◌∷◌, Option, Some, None}
use Rattle.caf_types.specs.declared.notice.Priority.TheVariants as priority
use Rattle.caf_words.specs.Datum.{Data, no_data, more, an_unsigned, a_text, some_bytes, a_list, an_object}
use Rattle.caf_actor.specs.PlainOutput.{PlainOutput}
use Rattle.caf_actor.specs.PlainOutput as output
use Rattle.caf_actor.specs.PlainReaction.{PlainAnswer, PlainReaction}
use Rattle.caf_actor.specs.PlainReaction as answer
use Rattle.caf_kinds.specs.Core.{chunk, postings, extent, summary, total, finish}
use Rattle.caf_kinds.specs.Asking.{Types, atom, content}
use Rattle.caf_kinds.specs.Contents.{chunk_means, postings_means, extent_means, summary_means, total_means, finish_means}
use Rattle.caf_kinds.specs.Reacting.{done, failed}
use Rattle.caf_kinds.specs.declared.contents.Chunk.{Chunk}
use Rattle.caf_kinds.specs.declared.contents.Item.{Item}
use Rattle.caf_kinds.specs.declared.contents.Postings.{Postings}
use Rattle.caf_kinds.specs.declared.contents.Extent.{Extent}
use Rattle.caf_kinds.specs.declared.contents.Summary.{Summary}
use Rattle.caf_kinds.specs.declared.contents.Total.{Total}
use Rattle.caf_kinds.specs.declared.contents.Finish.{Finish}

-- ---- types

abbrev pub of_chunk : Types
of_chunk = (200, chunk) ∷ []

abbrev pub of_postings : Types
of_postings = (201, postings) ∷ []

abbrev pub of_extent : Types
of_extent = (202, extent) ∷ []

abbrev pub of_summary : Types
of_summary = (203, summary) ∷ []

abbrev pub of_total : Types
of_total = (204, total) ∷ []

abbrev pub of_finish : Types
of_finish = (205, finish) ∷ []

abbrev pub counting : Types
counting = atom 210 []

-- ---- contents

abbrev pub chunk_content : Chunk → List ℕ
chunk_content c = content of_chunk (more (chunk_means c) no_data)

abbrev pub postings_content : Postings → List ℕ
postings_content p = content of_postings (more (postings_means p) no_data)

abbrev pub extent_content : Extent → List ℕ
extent_content e = content of_extent (more (extent_means e) no_data)

abbrev pub summary_content : Summary → List ℕ
summary_content s = content of_summary (more (summary_means s) no_data)

abbrev pub total_content : Total → List ℕ
total_content t = content of_total (more (total_means t) no_data)

abbrev pub finish_content : Finish → List ℕ
finish_content f = content of_finish (more (finish_means f) no_data)

-- numbers stop at 2^64 - 1
abbrev pub stopped : ℕ → ℕ
stopped n = min n 18446744073709551615

-- ---- what was asked, as one object

abbrev pub chunk_in : Option Data → Option Chunk
chunk_in (Some (more (an_object (more (an_unsigned file) (more (an_unsigned number) (more (an_unsigned line) (more (some_bytes bytes) no_data))))) no_data)) =
    Some (record { file = file; number = number; line = line; bytes = bytes })
chunk_in _ = None

abbrev pub items_in : Data → List Item
items_in (more (an_object (more (a_text word) (more (an_unsigned line) no_data))) items) = record { word = word; line = line } ∷ items_in items
items_in _ = []

abbrev pub postings_in : Option Data → Option Postings
postings_in (Some (more (an_object (more (an_unsigned file) (more (a_list items) no_data))) no_data)) = Some (record { file = file; items = items_in items })
postings_in _ = None

abbrev pub extent_in : Option Data → Option Extent
extent_in (Some (more (an_object (more (an_unsigned file) (more (an_unsigned lines) (more (an_unsigned bytes) no_data)))) no_data)) =
    Some (record { file = file; lines = lines; bytes = bytes })
extent_in _ = None

abbrev pub finish_in : Option Data → Option Finish
finish_in (Some (more (an_object (more (an_unsigned chunks) no_data)) no_data)) = Some (record { chunks = chunks })
finish_in _ = None

-- ---- reactions

-- content of normal priority to a peer, where there is that peer
abbrev pub to_peer : Option ℕ → List ℕ → List PlainOutput
to_peer None words = []
to_peer (Some peer) words = output.Tell peer priority.Normal words ∷ []

-- it is passed on to a peer, where there is that peer
abbrev pub passed_to : Option ℕ → PlainAnswer
passed_to None = failed
passed_to (Some peer) = answer.Delegate peer

-- outputs, and the answer unit
abbrev pub sends : List PlainOutput → PlainReaction
sends outputs = record { outputs = outputs; answer = done; quit = None }

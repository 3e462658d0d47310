-- The types that the kinds of actors speak with: the block `core`, behind the types that every table has.
use Rattle.std.specs.Prelude.{List, [], ◌∷◌, ◌++◌, codes}
use Rattle.std.specs.Ordering.{nat_cmp}
use Rattle.std.specs.FinMap as finite
use Rattle.caf_types.specs.ShapeTree.{ShapeTree, unit, unsigned, text, bytes, list, object, no_parts, part}
use Rattle.caf_types.specs.Table.{Named, named, Table, built_in, with_block}
use Rattle.caf_message.specs.Entries.{TableEntries}

-- ---- shapes

-- whole lines of a file: its number, the chunk's number, the number of the first line, and the bytes
abbrev pub chunk : ShapeTree
chunk = object (part (codes "file") unsigned (part (codes "number") unsigned (part (codes "line") unsigned (part (codes "bytes") bytes no_parts))))

-- that a word stands in a line
abbrev pub item : ShapeTree
item = object (part (codes "word") text (part (codes "line") unsigned no_parts))

abbrev pub postings : ShapeTree
postings = object (part (codes "file") unsigned (part (codes "items") (list item) no_parts))

-- how many lines and bytes a chunk of a file has
abbrev pub extent : ShapeTree
extent = object (part (codes "file") unsigned (part (codes "lines") unsigned (part (codes "bytes") unsigned no_parts)))

-- how many words and entries an index has
abbrev pub summary : ShapeTree
summary = object (part (codes "words") unsigned (part (codes "postings") unsigned no_parts))

abbrev pub total : ShapeTree
total = object (part (codes "lines") unsigned (part (codes "bytes") unsigned no_parts))

-- how many chunks there were
abbrev pub finish : ShapeTree
finish = object (part (codes "chunks") unsigned no_parts)

-- ---- the table

-- IDs 200 to 205
abbrev pub core_objects : List Named
core_objects =
    named (codes "chunk") chunk ∷ named (codes "postings") postings ∷ named (codes "extent") extent
    ∷ named (codes "summary") summary ∷ named (codes "total") total ∷ named (codes "finish") finish ∷ []

-- IDs 206 to 225: atoms, each of which tells a message from others
abbrev pub core_atoms : List Named
core_atoms =
    named (codes "start") unit ∷ named (codes "more") unit ∷ named (codes "index") unit ∷ named (codes "totals") unit
    ∷ named (codes "count") unit ∷ named (codes "add") unit ∷ named (codes "sub") unit ∷ named (codes "mul") unit
    ∷ named (codes "put") unit ∷ named (codes "get") unit ∷ named (codes "wake") unit ∷ named (codes "rest") unit
    ∷ named (codes "settle") unit ∷ named (codes "leave") unit ∷ named (codes "watch") unit ∷ named (codes "link") unit
    ∷ named (codes "seen") unit ∷ named (codes "spawn") unit ∷ named (codes "alarm") unit ∷ named (codes "ring") unit ∷ []

abbrev pub core_types : List Named
core_types = core_objects ++ core_atoms

abbrev pub core : Table
core = with_block built_in (codes "core") 200 core_types

-- what a table has to have for the kinds: all of these types
abbrev pub core_entries : TableEntries
core_entries = finite.from_entries {R = nat_cmp} core.types

-- What the contents of the block `core` mean.
use Rattle.std.specs.Prelude.{map}
use Rattle.caf_words.specs.Datum.{Datum, no_data, more, an_unsigned, a_text, some_bytes, a_list, an_object, data_of}
use Rattle.caf_kinds.specs.declared.contents.Chunk.{Chunk}
use Rattle.caf_kinds.specs.declared.contents.Item.{Item}
use Rattle.caf_kinds.specs.declared.contents.Postings.{Postings}
use Rattle.caf_kinds.specs.declared.contents.Extent.{Extent}
use Rattle.caf_kinds.specs.declared.contents.Summary.{Summary}
use Rattle.caf_kinds.specs.declared.contents.Total.{Total}
use Rattle.caf_kinds.specs.declared.contents.Finish.{Finish}

abbrev pub chunk_means : Chunk → Datum
chunk_means c = an_object (more (an_unsigned c.file) (more (an_unsigned c.number) (more (an_unsigned c.line) (more (some_bytes c.bytes) no_data))))

abbrev pub item_means : Item → Datum
item_means i = an_object (more (a_text i.word) (more (an_unsigned i.line) no_data))

abbrev pub postings_means : Postings → Datum
postings_means p = an_object (more (an_unsigned p.file) (more (a_list (data_of (map item_means p.items))) no_data))

abbrev pub extent_means : Extent → Datum
extent_means e = an_object (more (an_unsigned e.file) (more (an_unsigned e.lines) (more (an_unsigned e.bytes) no_data)))

abbrev pub summary_means : Summary → Datum
summary_means s = an_object (more (an_unsigned s.words) (more (an_unsigned s.postings) no_data))

abbrev pub total_means : Total → Datum
total_means t = an_object (more (an_unsigned t.lines) (more (an_unsigned t.bytes) no_data))

abbrev pub finish_means : Finish → Datum
finish_means f = an_object (more (an_unsigned f.chunks) no_data)

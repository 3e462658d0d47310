-- What content puts into the collector's index: the postings of a chunk are its entries, and other content has none.
use Rattle.std.proofs.Common.{◌≡◌, ℕ, ◌+◌, ◌-◌, Bool, true, false, List, [], ◌∷◌, ◌++◌, map, Option, Some, None, refl, sym, subst, ap, ◌∙◌, arith}
use Rattle.std.specs.Prelude.{Contains, slice_get, if◌then◌else◌}
use Rattle.caf_actor.specs.Answering.{is_asked}
use Rattle.caf_actor.specs.declared.origin.Origin.{Origin}
use Rattle.caf_index.specs.Chunks.{chunk_bytes}
use Rattle.caf_index.specs.Filled.{Entry, with_entries, IsFromAChunk}
use Rattle.caf_index.specs.Index.{Entries, with_entry}
use Rattle.caf_index.specs.Postings.{posting_at, postings_of}
use Rattle.caf_index.proofs.ContainsLemmas.{from-map}
use Rattle.caf_kinds.specs.Asking.{has, asked}
use Rattle.caf_kinds.specs.Collector.{asking_index, asking_totals, entry_of, is_answerable, on_postings, on_extent, on_finish, on_question, given}
use Rattle.caf_kinds.specs.Counter.{item_of}
use Rattle.caf_kinds.specs.FileChunks.{IsChunk, all_chunks}
use Rattle.caf_kinds.specs.Pipeline.{of_postings, of_extent, of_finish, postings_in, extent_in, finish_in}
use Rattle.caf_kinds.specs.Reacting.{Reacted}
use Rattle.caf_kinds.specs.declared.collector.Collector.{Collector}
use Rattle.caf_kinds.specs.declared.contents.Chunk.{Chunk}
use Rattle.caf_kinds.specs.declared.contents.Extent.{Extent}
use Rattle.caf_kinds.specs.declared.contents.Finish.{Finish}
use Rattle.caf_kinds.specs.declared.contents.Postings.{Postings}
use Rattle.caf_kinds.specs.declared.questions.Question.{Question}
use Rattle.caf_kinds.specs.declared.questions.Question.TheVariants as question
use Rattle.caf_pipeline.specs.Parts.{told_postings}
use Rattle.caf_pipeline.proofs.ChunkLemmas.{of_files}
use Rattle.caf_pipeline.proofs.PartLemmas.{postings_back}

-- ---- entries of content

abbrev pub entries_asked : Option Postings → List Entry
entries_asked None = []
entries_asked (Some p) = map (entry_of p.file) p.items

abbrev pub entries_in : List ℕ → List Entry
entries_in words = if has of_postings words then entries_asked (postings_in (asked of_postings words)) else []

-- the index after content has its entries more
abbrev HasMore : Collector → List Entry → Reacted Collector → Type 0
HasMore s es r = r.0.index ≡ with_entries s.index es

postings_more : (s : Collector) (o : Option Postings) → HasMore s (entries_asked o) (on_postings s o)
postings_more s None = refl
postings_more s (Some p) = refl

extent_more : (s : Collector) (o : Option Extent) → HasMore s [] (on_extent s o)
extent_more s None = refl
extent_more s (Some x) = refl

finish_more : (s : Collector) (o : Option Finish) → HasMore s [] (on_finish s o)
finish_more s None = refl
finish_more s (Some f) = refl

question_more : (s : Collector) (o : Origin) (q : Question) → HasMore s [] (on_question s o q)
question_more s o q = go (is_answerable s.tally q) refl
  where
    held : is_answerable s.tally q ≡ false → (b : Bool) → is_asked o ≡ b → HasMore s [] (on_question s o q)
    held e true f = rw (e, f) refl
    held e false f = rw (e, f) refl

    go : (b : Bool) → is_answerable s.tally q ≡ b → HasMore s [] (on_question s o q)
    go true e = rw e refl
    go false e = held e (is_asked o) refl

pub index_after : (s : Collector) (o : Origin) (words : List ℕ) → (given s o words).0.index ≡ with_entries s.index (entries_in words)
index_after s o words = first (has of_postings words) refl
  where
    fifth : has of_postings words ≡ false → has of_extent words ≡ false → has of_finish words ≡ false → has asking_index words ≡ false → (b : Bool) → has asking_totals words ≡ b → (given s o words).0.index ≡ with_entries s.index (entries_in words)
    fifth a e f i true q = rw (a, e, f, i, q) (question_more s o question.Totals)
    fifth a e f i false q = rw (a, e, f, i, q) refl

    fourth : has of_postings words ≡ false → has of_extent words ≡ false → has of_finish words ≡ false → (b : Bool) → has asking_index words ≡ b → (given s o words).0.index ≡ with_entries s.index (entries_in words)
    fourth a e f true q = rw (a, e, f, q) (question_more s o question.Index)
    fourth a e f false q = fifth a e f q (has asking_totals words) refl

    third : has of_postings words ≡ false → has of_extent words ≡ false → (b : Bool) → has of_finish words ≡ b → (given s o words).0.index ≡ with_entries s.index (entries_in words)
    third a e true q = rw (a, e, q) (finish_more s (finish_in (asked of_finish words)))
    third a e false q = fourth a e q (has asking_index words) refl

    second : has of_postings words ≡ false → (b : Bool) → has of_extent words ≡ b → (given s o words).0.index ≡ with_entries s.index (entries_in words)
    second a true q = rw (a, q) (extent_more s (extent_in (asked of_extent words)))
    second a false q = third a q (has of_finish words) refl

    first : (b : Bool) → has of_postings words ≡ b → (given s o words).0.index ≡ with_entries s.index (entries_in words)
    first true q = rw q (postings_more s (postings_in (asked of_postings words)))
    first false q = second q (has of_extent words) refl

pub entries_on : (index : Entries) (es fs : List Entry) → with_entries index (es ++ fs) ≡ with_entries (with_entries index es) fs
entries_on index [] fs = refl
entries_on index (e ∷ es) fs = entries_on (with_entry index e.word e.file e.line) es fs

-- ---- the entries of a chunk

pub chunk_entries : (c : Chunk) → IsChunk c → entries_in (told_postings c) ≡ map (entry_of c.file) (map item_of (postings_of c.line c.bytes))
chunk_entries c is = ap entries_asked (postings_back c is)

pub from_chunk : (files : List (List ℕ)) (c : Chunk) → Contains (all_chunks files) c → IsChunk c → (e : Entry) → Contains (entries_in (told_postings c)) e → IsFromAChunk files e
from_chunk files c has is e listed =
    let item = from-map (entry_of c.file) e (map item_of (postings_of c.line c.bytes)) (subst (λ (es : List Entry). Contains es e) (chunk_entries c is) listed) in
    let posting = from-map item_of item.0 (postings_of c.line c.bytes) item.1 in
    let file = of_files 1 0 files c has in
    let made : entry_of c.file (item_of posting.0) ≡ e = ap (entry_of c.file) posting.2 ∙ item.2 in
    let number : e.file ≡ 1 + file.before = sym (ap (λ (x : Entry). x.file) made) ∙ file.one.file_is in
    let before : file.before ≡ e.file - 1 = omega (arith, number) in
    let same : posting.0 ≡ posting_at e.word e.line = ap (λ (x : Entry). posting_at x.word x.line) made in
    record {
      from_one = omega (arith, number);
      bytes = file.bytes;
      is_file = subst (λ (n : ℕ). slice_get files n ≡ Some file.bytes) before file.is_file;
      posting = record {
        chunk = file.one.span;
        is_chunk = file.one.there;
        listed = subst (Contains (postings_of file.one.span.line (chunk_bytes file.bytes file.one.span))) same
            (subst (λ (bytes : List ℕ). Contains (postings_of file.one.span.line bytes) posting.0) file.one.bytes_are
            (subst (λ (line : ℕ). Contains (postings_of line c.bytes) posting.0) file.one.line_is posting.1));
      };
    }

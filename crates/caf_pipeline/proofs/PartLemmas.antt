-- Each part of a pipeline does with what it takes what its kind says.
use Rattle.std.proofs.Common.{◌≡◌, ℕ, Bool, true, false, List, [], ◌∷◌, length, map, Option, Some, refl, ap, ◌∙◌, arith}
use Rattle.std.specs.Prelude.{◌^◌, nat_lt, slice_get, if◌then◌else◌}
use Rattle.std.specs.List.{list_all}
use Rattle.std.proofs.lemmas.Bool.{lt-ltb, le-leb}
use Rattle.std.proofs.lemmas.Bool.Decides.{nat_tests}
use Rattle.std.proofs.lemmas.List.{length-map}
use Rattle.caf_types.specs.Table.{shape_at}
use Rattle.caf_types.specs.declared.notice.Priority.TheVariants as priority
use Rattle.caf_words.specs.Datum.{Data, no_data, more, data_of, is_in_range, are_in_range, are_bytes}
use Rattle.caf_words.specs.Several.{several_fit}
use Rattle.caf_words.specs.Fitting.{both_hold, list_fits}
use Rattle.caf_words.proofs.SeveralLemmas.{several_spelled}
use Rattle.caf_actor.specs.declared.origin.Origin.{Origin}
use Rattle.caf_actor.specs.PlainInput.{Content}
use Rattle.caf_actor.specs.PlainOutput.{Tell}
use Rattle.caf_index.specs.Words.{lower_case}
use Rattle.caf_index.specs.Chunks.{lines_of}
use Rattle.caf_index.specs.Postings.{stopped, posting_cmp, sorted_once}
use Rattle.caf_index.proofs.PostingLemmas.{words-lower}
use Rattle.caf_kinds.specs.Core.{core, item}
use Rattle.caf_kinds.specs.Asking.{Types, AreCore, type_ids, type_shapes, asked, content}
use Rattle.caf_kinds.specs.Contents.{chunk_means, item_means, postings_means, extent_means, finish_means}
use Rattle.caf_kinds.specs.Collector.{on_postings, on_extent, on_finish}
use Rattle.caf_kinds.specs.Counter as counter
use Rattle.caf_kinds.specs.Counter.{item_of, postings_at, is_small, counted, told}
use Rattle.caf_kinds.specs.FileChunks.{IsChunk}
use Rattle.caf_kinds.specs.Keeping.{first_of_and, second_of_and, below}
use Rattle.caf_kinds.specs.Kinds.{as_kind, reacted}
use Rattle.caf_kinds.specs.Lines as lines
use Rattle.caf_kinds.specs.Lines.{extent_of}
use Rattle.caf_kinds.specs.LinesLaws.{few_lines}
use Rattle.caf_kinds.specs.Pipeline.{of_chunk, of_postings, of_extent, of_finish, chunk_content, chunk_in, items_in, postings_in, extent_in, finish_in, to_peer, sends}
use Rattle.caf_kinds.specs.PipelineLaws.{both_true, has_ranges, in_range}
use Rattle.caf_kinds.specs.Reacting.{answers, failed}
use Rattle.caf_kinds.specs.Relay as relay
use Rattle.caf_kinds.specs.Relay.{lowered, peer_for}
use Rattle.caf_kinds.specs.Source as source
use Rattle.caf_kinds.specs.Source.{Sourced, finish_of, on_start, on_more}
use Rattle.caf_kinds.specs.declared.contents.Chunk.{Chunk}
use Rattle.caf_kinds.specs.declared.contents.Item.{Item}
use Rattle.caf_kinds.specs.declared.contents.Postings.{Postings}
use Rattle.caf_kinds.specs.declared.contents.Extent.{Extent}
use Rattle.caf_kinds.specs.declared.contents.Finish.{Finish}
use Rattle.caf_kinds.specs.declared.counter.Counter.{Counter}
use Rattle.caf_kinds.specs.declared.kind.Kind.TheVariants as kind
use Rattle.caf_kinds.specs.declared.lines.Lines.{Lines}
use Rattle.caf_kinds.specs.declared.relay.Relay.{Relay}
use Rattle.caf_kinds.specs.declared.source.Stage.{Stage}
use Rattle.caf_kinds.proofs.AskedLemmas.{asked_is_meant}
use Rattle.caf_pipeline.specs.Parts.{start_content, told_postings, told_extent, told_finish, PartsHandOn}
use Rattle.caf_pipeline.proofs.PostingsLemmas.{postings_fit}
use Rattle.caf_pipeline.proofs.RangeLemmas.{postings_range}

-- ---- what was spelled is what was asked

asked_back : (types : Types) (values : Data) → AreCore types → several_fit (type_shapes types) values ≡ true → are_in_range values ≡ true → asked types (content types values) ≡ Some values
asked_back types values known fit range =
    asked_is_meant (shape_at core) (content types values) (type_ids types) (type_shapes types) values known
    (record { shapes = type_shapes types; have_shapes = known; are_values = several_spelled (type_shapes types) values fit range; words_are = refl })

pub chunk_back : (c : Chunk) → IsChunk c → chunk_in (asked of_chunk (chunk_content c)) ≡ Some c
chunk_back c is = ap chunk_in (asked_back of_chunk (more (chunk_means c) no_data) refl refl (both_true (is_in_range (chunk_means c)) true is.range refl))

items_back : (items : List Item) → items_in (data_of (map item_means items)) ≡ items
items_back [] = refl
items_back (i ∷ items) = ap (λ (is : List Item). i ∷ is) (items_back items)

pub postings_back : (c : Chunk) → IsChunk c → postings_in (asked of_postings (told_postings c)) ≡ Some (postings_at c)
postings_back c is =
    let p = postings_at c in
    let fit : several_fit (type_shapes of_postings) (more (postings_means p) no_data) ≡ true = both_hold (both_hold (list_fits item item_means (λ it. refl) p.items) refl) refl in
    ap postings_in (asked_back of_postings (more (postings_means p) no_data) refl fit (both_true (is_in_range (postings_means p)) true (postings_range c (has_ranges c is.range)) refl))
    ∙ ap (λ (items : List Item). Some (record { file = c.file; items = items })) (items_back p.items)

pub extent_back : (c : Chunk) → IsChunk c → extent_in (asked of_extent (told_extent c)) ≡ Some (extent_of c)
extent_back c is =
    let h = has_ranges c is.range in
    let few = few_lines c.bytes in
    let short = is.short in
    let lines = lt-ltb (length (lines_of c.bytes)) (2 ^ 64) (omega (arith, few, short)) in
    let bytes = lt-ltb (length c.bytes) (2 ^ 64) (omega (arith, short)) in
    ap extent_in (asked_back of_extent (more (extent_means (extent_of c)) no_data) refl refl
    (both_true (is_in_range (extent_means (extent_of c))) true
    (both_true (nat_lt c.file (2 ^ 64)) _ h.file (both_true (nat_lt (length (lines_of c.bytes)) (2 ^ 64)) _ lines (both_true (nat_lt (length c.bytes) (2 ^ 64)) true bytes refl))) refl))

finish_back : (chunks : ℕ) → finish_in (asked of_finish (told_finish chunks)) ≡ Some (finish_of chunks)
finish_back chunks =
    ap finish_in (asked_back of_finish (more (finish_means (finish_of chunks)) no_data) refl refl
    (both_true (is_in_range (finish_means (finish_of chunks))) true (both_true (nat_lt (finish_of chunks).chunks (2 ^ 64)) true (below chunks) refl) refl))

-- ---- lower case

lower_byte : (b : ℕ) → nat_lt b 256 ≡ true → nat_lt (lower_case b) 256 ≡ true
lower_byte b e = grind (arith, nat_tests)

lower_bytes : (bs : List ℕ) → list_all (λ b. nat_lt b 256) bs ≡ true → list_all (λ b. nat_lt b 256) (map lower_case bs) ≡ true
lower_bytes [] e = refl
lower_bytes (b ∷ bs) e =
    both_true (nat_lt (lower_case b) 256) _ (lower_byte b (first_of_and (nat_lt b 256) (list_all (λ b. nat_lt b 256) bs) e)) (lower_bytes bs (second_of_and (nat_lt b 256) (list_all (λ b. nat_lt b 256) bs) e))

lower_are_bytes : (bs : List ℕ) → are_bytes bs ≡ true → are_bytes (map lower_case bs) ≡ true
lower_are_bytes bs e =
    both_true (nat_lt (length (map lower_case bs)) (2 ^ 64)) _
    (ap (λ n. nat_lt n (2 ^ 64)) (length-map bs lower_case) ∙ first_of_and (nat_lt (length bs) (2 ^ 64)) (list_all (λ b. nat_lt b 256) bs) e)
    (lower_bytes bs (second_of_and (nat_lt (length bs) (2 ^ 64)) (list_all (λ b. nat_lt b 256) bs) e))

lowered_chunk : (c : Chunk) → IsChunk c → IsChunk (lowered c)
lowered_chunk c is =
    let h = has_ranges c is.range in
    let long = length-map c.bytes lower_case in
    let short = is.short in
    record {
      range = in_range (lowered c) (record { file = h.file; number = h.number; line = h.line; bytes = lower_are_bytes c.bytes h.bytes });
      short = omega (arith, long, short);
    }

lowered_same : (c : Chunk) → postings_at (lowered c) ≡ postings_at c
lowered_same c = ap (λ ws. record { file = c.file; items = map item_of (sorted_once posting_cmp (map stopped ws)) }) (words-lower false c.line c.bytes)

-- ---- reactions

starts : (s : Sourced) (o : Origin) (at : Stage) → s.stage ≡ at → reacted (kind.Source s) (Content o start_content) ≡ as_kind kind.Source (on_start at s)
starts s o at e = ap (λ (t : Stage). as_kind kind.Source (on_start t s)) e

tells : (s : Sourced) (o : Origin) (at : Stage) → s.stage ≡ at → reacted (kind.Source s) (Content o source.more_content) ≡ as_kind kind.Source (on_more at s)
tells s o at e = ap (λ (t : Stage). as_kind kind.Source (on_more t s)) e

first_peer : (peers : List ℕ) (to : ℕ) → peers ≡ to ∷ [] → slice_get peers 0 ≡ Some to
first_peer peers to e = ap (λ (ps : List ℕ). slice_get ps 0) e

measures : (s : Lines) (o : Origin) (c : Chunk) (to : ℕ) → IsChunk c → s.identity.peers ≡ to ∷ []
    → reacted (kind.Lines s) (Content o (chunk_content c)) ≡ (kind.Lines s, sends (Tell to priority.Normal (told_extent c) ∷ []))
measures s o c to is e =
    ap (λ (d : Option Chunk). (kind.Lines s, lines.on_chunk s d)) (chunk_back c is)
    ∙ ap (λ (p : Option ℕ). (kind.Lines s, sends (to_peer p (told_extent c)))) (first_peer s.identity.peers to e)

relays : (s : Relay) (o : Origin) (c : Chunk) (to : ℕ) → IsChunk c → peer_for s.identity.peers c.number ≡ Some to
    → reacted (kind.Relay s) (Content o (chunk_content c)) ≡ (kind.Relay s, sends (Tell to priority.Normal (chunk_content (lowered c)) ∷ []))
relays s o c to is e =
    ap (λ (d : Option Chunk). (kind.Relay s, relay.on_chunk s d)) (chunk_back c is)
    ∙ ap (λ (p : Option ℕ). (kind.Relay s, sends (to_peer p (chunk_content (lowered c))))) e

counts : (s : Counter) (o : Origin) (c : Chunk) (to : ℕ) → IsChunk c → s.identity.peers ≡ to ∷ []
    → reacted (kind.Counter s) (Content o (chunk_content c)) ≡ (kind.Counter (counted s), sends (Tell to priority.Normal (told_postings c) ∷ []))
counts s o c to is e =
    let small : is_small (told_postings c) ≡ true = le-leb (length (told_postings c)) 4194304 (postings_fit c is.short) in
    ap (λ (d : Option Chunk). as_kind kind.Counter (counter.on_chunk s d)) (chunk_back c is)
    ∙ ap (λ (b : Bool). (kind.Counter (counted s), (if b then sends (to_peer (slice_get s.identity.peers 0) (told_postings c)) else answers failed))) small
    ∙ ap (λ (p : Option ℕ). (kind.Counter (counted s), sends (to_peer p (told_postings c)))) (first_peer s.identity.peers to e)

pub hands_on : PartsHandOn
hands_on = record {
  starts = λ s o e. starts s o _ e;
  tells = λ s o e. tells s o _ e;
  measures = measures;
  relays = relays;
  lowered_is_chunk = lowered_chunk;
  lowered_postings = lowered_same;
  counts = counts;
  indexes = λ s o c is. ap (λ (p : Option Postings). as_kind kind.Collector (on_postings s p)) (postings_back c is);
  adds = λ s o c is. ap (λ (x : Option Extent). as_kind kind.Collector (on_extent s x)) (extent_back c is);
  finishes = λ s o chunks. ap (λ (f : Option Finish). as_kind kind.Collector (on_finish s f)) (finish_back chunks);
  is_asked_index = λ s o. refl;
  is_asked_totals = λ s o. refl;
}

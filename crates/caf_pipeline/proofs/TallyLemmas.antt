-- What a collector has counted and what is still to come: once it can answer a question, its answer is the final one.
use Rattle.std.proofs.Common.{◌≡◌, ℕ, ◌+◌, ◌≤◌, ◌<◌, true, false, List, [], ◌∷◌, ◌++◌, Option, Some, None, inl, inr, sym, ap, ◌∙◌, arith}
use Rattle.std.specs.Prelude.{◌^◌, ◌⊎◌}
use Rattle.std.specs.FinMap as finite
use Rattle.std.proofs.lemmas.Bool.{le-leb, leb-true}
use Rattle.caf_index.specs.Filled.{Entry, with_entries}
use Rattle.caf_index.specs.Index.{Entries, entry_count}
use Rattle.caf_message.specs.declared.envelope.Plain.{Plain}
use Rattle.caf_message.specs.declared.envelope.Plain.TheVariants as «plain»
use Rattle.caf_message.specs.declared.envelope.Taken.{Taken}
use Rattle.caf_kinds.specs.Collector.{is_reached, is_answerable, total_of, reply, with_items, one_postings_more, with_extent, sum_with, with_finish}
use Rattle.caf_kinds.specs.Counter.{postings_at}
use Rattle.caf_kinds.specs.FileChunks.{IsChunk}
use Rattle.caf_kinds.specs.Lines.{extent_of}
use Rattle.caf_kinds.specs.Pipeline.{summary_content, total_content, stopped}
use Rattle.caf_kinds.specs.Relay.{lowered}
use Rattle.caf_kinds.specs.Source.{finish_of}
use Rattle.caf_kinds.specs.declared.contents.Chunk.{Chunk}
use Rattle.caf_kinds.specs.declared.questions.Question.{Question}
use Rattle.caf_kinds.specs.declared.questions.Question.TheVariants as question
use Rattle.caf_kinds.specs.declared.tally.Tally.{Tally}
use Rattle.caf_pipeline.specs.Contents.{counted}
use Rattle.caf_pipeline.specs.Parts.{told_extent, told_finish}
use Rattle.caf_pipeline.proofs.EntryLemmas.{entries_in, entries_on, chunk_entries}
use Rattle.caf_pipeline.proofs.IndexedLemmas.{words_of, told_entries}
use Rattle.caf_pipeline.proofs.PartLemmas.{extent_back}
use Rattle.caf_pipeline.proofs.PassingLemmas.{of_extent_in, collector_weight}
use Rattle.caf_pipeline.proofs.ComingLemmas.{body_weight, came, none_each, one_each, lines_each, bytes_each, postings_in, extents_in, finishes_in, no_entries, no_extents}

-- ---- the final answers

abbrev pub final_answer : Entries → ℕ → ℕ → Question → List ℕ
final_answer index lines bytes question.Index = summary_content (record { words = stopped (finite.len index); postings = stopped (entry_count index) })
final_answer index lines bytes question.Totals = total_content (total_of lines bytes)

-- with what is to come: so many chunks, lines and bytes, and that index
pub record Tallied (n lines bytes : ℕ) (index : Entries) (t : Tally) (now : Entries) (es : List Taken) : Type 0 where
  pub postings_are : t.postings + postings_in es ≡ n
  pub extents_are : t.extents + extents_in es ≡ n
  pub lines_are : stopped (t.lines + came 0 0 lines_each es) ≡ stopped lines
  pub bytes_are : stopped (t.bytes + came 0 0 bytes_each es) ≡ stopped bytes
  pub finish_is : ((t.chunks ≡ None) × (finishes_in es ≡ 1)) ⊎ ((t.chunks ≡ Some n) × (finishes_in es ≡ 0))
  pub index_is : with_entries now (told_entries es) ≡ index

module _ (n lines bytes : ℕ) (index : Entries) where
  abbrev Is : Tally → Entries → List Taken → Type 0
  Is = Tallied n lines bytes index

  reached : (t : Tally) (now : Entries) (es : List Taken) (count : ℕ) → Is t now es → is_reached t.chunks count ≡ true → n ≤ count
  reached t now es count h e = go h.finish_is
    where
      go : ((t.chunks ≡ None) × (finishes_in es ≡ 1)) ⊎ ((t.chunks ≡ Some n) × (finishes_in es ≡ 0)) → n ≤ count
      go (inl none) = let bad : false ≡ true = ap (λ (o : Option ℕ). is_reached o count) (sym none.0) ∙ e in cc
      go (inr some) = leb-true n count (ap (λ (o : Option ℕ). is_reached o count) (sym some.0) ∙ e)

  pub answers_right : (q : Question) (t : Tally) (now : Entries) (es : List Taken) → Is t now es → is_answerable t q ≡ true → reply now t q ≡ final_answer index lines bytes q
  answers_right question.Index t now es h e =
      let all = reached t now es t.postings h e in
      let sum = h.postings_are in
      let none = no_entries es (omega (arith, all, sum)) in
      let same : now ≡ index = ap (with_entries now) (sym none) ∙ h.index_is in
      ap (λ (x : Entries). reply x t question.Index) same
  answers_right question.Totals t now es h e =
      let all = reached t now es t.extents h e in
      let sum = h.extents_are in
      let none : extents_in es ≡ 0 = omega (arith, all, sum) in
      let no_lines = no_extents lines_each es none in
      let no_bytes = no_extents bytes_each es none in
      let l : stopped t.lines ≡ stopped lines = ap (λ x. stopped x) (let same : t.lines ≡ t.lines + came 0 0 lines_each es = omega (arith, no_lines) in same) ∙ h.lines_are in
      let b : stopped t.bytes ≡ stopped bytes = ap (λ x. stopped x) (let same : t.bytes ≡ t.bytes + came 0 0 bytes_each es = omega (arith, no_bytes) in same) ∙ h.bytes_are in
      ap (λ x. total_content (record { lines = x; bytes = stopped t.bytes })) l ∙ ap (λ x. total_content (record { lines = stopped lines; bytes = x })) b

  -- with nothing to come it can answer all
  pub all_answerable : (q : Question) (t : Tally) (now : Entries) → Is t now [] → is_answerable t q ≡ true
  all_answerable q t now h = go h.finish_is
    where
      by : (q : Question) → t.chunks ≡ Some n → is_answerable t q ≡ true
      by question.Index e = let sum = h.postings_are in ap (λ (o : Option ℕ). is_reached o t.postings) e ∙ le-leb n t.postings (omega (arith, sum))
      by question.Totals e = let sum = h.extents_are in ap (λ (o : Option ℕ). is_reached o t.extents) e ∙ le-leb n t.extents (omega (arith, sum))

      go : ((t.chunks ≡ None) × (finishes_in [] ≡ 1)) ⊎ ((t.chunks ≡ Some n) × (finishes_in [] ≡ 0)) → is_answerable t q ≡ true
      go (inl none) = let bad : 0 ≡ 1 = none.1 in absurd (omega (arith, bad))
      go (inr some) = by q some.0

  -- ---- one more

  -- the content weighs nothing, and has no entries
  pub at_nothing : (t : Tally) (now : Entries) (e : Taken) (es : List Taken) (words : List ℕ) → e.body ≡ «plain».Content words
      → collector_weight 1 0 none_each words ≡ 0 → collector_weight 0 0 one_each words ≡ 0 → collector_weight 0 0 lines_each words ≡ 0 → collector_weight 0 0 bytes_each words ≡ 0 → collector_weight 0 1 none_each words ≡ 0
      → entries_in words ≡ [] → Is t now (e ∷ es) → Is t now es
  at_nothing t now e es words body p x l b f entries h =
      let pw = ap (body_weight 1 0 none_each) body in
      let xw = ap (body_weight 0 0 one_each) body in
      let lw = ap (body_weight 0 0 lines_each) body in
      let bw = ap (body_weight 0 0 bytes_each) body in
      let fw = ap (body_weight 0 1 none_each) body in
      let ps = h.postings_are in
      let xs = h.extents_are in
      record {
        postings_are = omega (arith, pw, p, ps);
        extents_are = omega (arith, xw, x, xs);
        lines_are = ap (λ y. stopped y) (let same : t.lines + came 0 0 lines_each es ≡ t.lines + (body_weight 0 0 lines_each e.body + came 0 0 lines_each es) = omega (arith, lw, l) in same) ∙ h.lines_are;
        bytes_are = ap (λ y. stopped y) (let same : t.bytes + came 0 0 bytes_each es ≡ t.bytes + (body_weight 0 0 bytes_each e.body + came 0 0 bytes_each es) = omega (arith, bw, b) in same) ∙ h.bytes_are;
        finish_is = elim h.finish_is [
          | inl none ↦ inl (none.0, (let one = none.1 in omega (arith, fw, f, one)))
          | inr some ↦ inr (some.0, (let zero_is = some.1 in omega (arith, fw, f, zero_is)))
        ];
        index_is = ap (λ (ys : List Entry). with_entries now (ys ++ told_entries es)) (sym (ap (λ (x : Plain). entries_in (words_of x)) body ∙ entries)) ∙ h.index_is;
      }

  pub at_postings : n < 2 ^ 64 → (t : Tally) (now : Entries) (e : Taken) (es : List Taken) (c : Chunk) → IsChunk (lowered c) → e.body ≡ «plain».Content (counted c) → Is t now (e ∷ es)
      → Is (one_postings_more t) (with_items now (postings_at (lowered c))) es
  at_postings few t now e es c is body h =
      let pw = ap (body_weight 1 0 none_each) body in
      let xw = ap (body_weight 0 0 one_each) body in
      let lw = ap (body_weight 0 0 lines_each) body in
      let bw = ap (body_weight 0 0 bytes_each) body in
      let fw = ap (body_weight 0 1 none_each) body in
      let ps = h.postings_are in
      let xs = h.extents_are in
      record {
        postings_are = omega (arith, pw, ps, few);
        extents_are = omega (arith, xw, xs);
        lines_are = ap (λ y. stopped y) (let same : t.lines + came 0 0 lines_each es ≡ t.lines + (body_weight 0 0 lines_each e.body + came 0 0 lines_each es) = omega (arith, lw) in same) ∙ h.lines_are;
        bytes_are = ap (λ y. stopped y) (let same : t.bytes + came 0 0 bytes_each es ≡ t.bytes + (body_weight 0 0 bytes_each e.body + came 0 0 bytes_each es) = omega (arith, bw) in same) ∙ h.bytes_are;
        finish_is = elim h.finish_is [
          | inl none ↦ inl (none.0, (let one = none.1 in omega (arith, fw, one)))
          | inr some ↦ inr (some.0, (let zero_is = some.1 in omega (arith, fw, zero_is)))
        ];
        index_is =
            ap (λ (ys : List Entry). with_entries (with_entries now ys) (told_entries es)) (sym (chunk_entries (lowered c) is))
            ∙ sym (entries_on now (entries_in (counted c)) (told_entries es))
            ∙ ap (λ (x : Plain). with_entries now (entries_in (words_of x) ++ told_entries es)) (sym body) ∙ h.index_is;
      }

  pub at_extent : n < 2 ^ 64 → (t : Tally) (now : Entries) (e : Taken) (es : List Taken) (c : Chunk) → IsChunk c → e.body ≡ «plain».Content (told_extent c) → Is t now (e ∷ es) → Is (with_extent t (extent_of c)) now es
  at_extent few t now e es c is body h =
      let back = extent_back c is in
      let pw = ap (body_weight 1 0 none_each) body ∙ ap (of_extent_in none_each) back in
      let xw = ap (body_weight 0 0 one_each) body ∙ ap (of_extent_in one_each) back in
      let lw = ap (body_weight 0 0 lines_each) body ∙ ap (of_extent_in lines_each) back in
      let bw = ap (body_weight 0 0 bytes_each) body ∙ ap (of_extent_in bytes_each) back in
      let fw = ap (body_weight 0 1 none_each) body ∙ ap (of_extent_in none_each) back in
      let ps = h.postings_are in
      let xs = h.extents_are in
      let ls = h.lines_are in
      let bs = h.bytes_are in
      record {
        postings_are = omega (arith, pw, ps);
        extents_are = omega (arith, xw, xs, few);
        lines_are = omega (arith, lw, ls);
        bytes_are = omega (arith, bw, bs);
        finish_is = elim h.finish_is [
          | inl none ↦ inl (none.0, (let one = none.1 in omega (arith, fw, one)))
          | inr some ↦ inr (some.0, (let zero_is = some.1 in omega (arith, fw, zero_is)))
        ];
        index_is = ap (λ (x : Plain). with_entries now (entries_in (words_of x) ++ told_entries es)) (sym body) ∙ h.index_is;
      }

  pub at_finish : n < 2 ^ 64 → (t : Tally) (now : Entries) (e : Taken) (es : List Taken) → e.body ≡ «plain».Content (told_finish n) → Is t now (e ∷ es) → Is (with_finish t (finish_of n)) now es
  at_finish few t now e es body h =
      let pw = ap (body_weight 1 0 none_each) body in
      let xw = ap (body_weight 0 0 one_each) body in
      let lw = ap (body_weight 0 0 lines_each) body in
      let bw = ap (body_weight 0 0 bytes_each) body in
      let fw = ap (body_weight 0 1 none_each) body in
      let ps = h.postings_are in
      let xs = h.extents_are in
      let ls = h.lines_are in
      let bs = h.bytes_are in
      let whole : stopped n ≡ n = omega (arith, few) in
      record {
        postings_are = omega (arith, pw, ps);
        extents_are = omega (arith, xw, xs);
        lines_are = omega (arith, lw, ls);
        bytes_are = omega (arith, bw, bs);
        finish_is = elim h.finish_is [
          | inl none ↦ inr (ap (λ (o : Option ℕ). Some (sum_with o (stopped n))) none.0 ∙ ap (λ x. Some x) whole, (let one = none.1 in omega (arith, fw, one)))
          | inr some ↦ absurd (let zero_is = some.1 in omega (arith, fw, zero_is))
        ];
        index_is = ap (λ (x : Plain). with_entries now (entries_in (words_of x) ++ told_entries es)) (sym body) ∙ h.index_is;
      }

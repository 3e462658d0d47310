use Rattle.std.proofs.Common.{◌≡◌, ◌+◌, ◌∷◌, [], ◌++◌, get_or, drop, ap, sym, ◌∙◌, arith, string_bytes}
use Rattle.caf_index.specs.Words.{words_of, next_line}
use Rattle.caf_index.specs.PlainIndex.{with_words}
use Rattle.caf_index.proofs.WordLemmas.{words_after, drop_here, byte_in_word, byte_in_gap, same_line}
use Rattle.caf_index.proofs.words.add_words.Goals as goal
use Rattle.caf_index.proofs.words.add_words.Goals.{then-is_word_byte+in_ok-push, else-is_word_byte+in_ok-end_word+then-byte-eq10, else-is_word_byte+in_ok-end_word+else-byte-eq10}

pub loop-byte-preserved : goal.loop-byte-preserved
loop-byte-preserved c =
    let bytes = c.args.bytes.now in
    let at = c.loop-byte.byte-index in
    let b = get_or bytes at 0 in
    let rest = drop (at + 1) bytes in
    let here : drop at bytes ≡ b ∷ rest = drop_here bytes at c.loop-byte-test.true in
    let before : with_words c.loop-byte.index c.args.file (words_after (string_bytes c.loop-byte.word) c.loop-byte.line (b ∷ rest)) ≡ with_words c.args.index.now c.args.file (words_of bytes) =
    ap (λ bs. with_words c.loop-byte.index c.args.file (words_after (string_bytes c.loop-byte.word) c.loop-byte.line bs)) (sym here) ∙ c.loop-byte.invariant.words in
    record {
      words = elim c.if-is_word_byte.branch [
        | then-is_word_byte+in_ok-push w ↦ byte_in_word c.loop-byte.index _ c.args.file (string_bytes c.loop-byte.word) _ c.loop-byte.line _ b rest (sym c.is_word_byte.ensures ∙ w.if-is_word_byte.true) w.index-is w.line-is
            (ap string_bytes w.word-is ∙ w.in_ok-push.ensures.bytes ∙ ap (λ t. string_bytes c.loop-byte.word ++ t) (w.in_ok-push.ensures.ascii w.lower_case.ensures.ascii) ∙ ap (λ x. string_bytes c.loop-byte.word ++ x ∷ []) w.lower_case.ensures.value) ∙ before
        | else-is_word_byte+in_ok-end_word+then-byte-eq10 w ↦ byte_in_gap c.loop-byte.index _ c.args.file (string_bytes c.loop-byte.word) _ c.loop-byte.line _ b rest (sym c.is_word_byte.ensures ∙ w.if-is_word_byte.false)
            (w.index-is ∙ w.in_ok-end_word.ensures.added) (ap string_bytes w.word-is ∙ w.in_ok-end_word.ensures.emptied) (w.line-is ∙ sym (ap (next_line c.loop-byte.line) w.if-byte-eq10.true)) ∙ before
        | else-is_word_byte+in_ok-end_word+else-byte-eq10 w ↦ byte_in_gap c.loop-byte.index _ c.args.file (string_bytes c.loop-byte.word) _ c.loop-byte.line _ b rest (sym c.is_word_byte.ensures ∙ w.if-is_word_byte.false)
            (w.index-is ∙ w.in_ok-end_word.ensures.added) (ap string_bytes w.word-is ∙ w.in_ok-end_word.ensures.emptied) (w.line-is ∙ same_line c.loop-byte.line b w.if-byte-eq10.false) ∙ before
      ];
      counted = elim c.if-is_word_byte.branch [
        | then-is_word_byte+in_ok-push w ↦ omega (arith, c.loop-byte.invariant.counted, w.line-is)
        | else-is_word_byte+in_ok-end_word+then-byte-eq10 w ↦ omega (arith, c.loop-byte.invariant.counted, w.line-is)
        | else-is_word_byte+in_ok-end_word+else-byte-eq10 w ↦ omega (arith, c.loop-byte.invariant.counted, w.line-is)
      ];
    }

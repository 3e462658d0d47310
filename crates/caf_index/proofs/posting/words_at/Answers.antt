use Rattle.std.proofs.Common.{◌≡◌, ℕ, ◌+◌, ◌-◌, ◌^◌, min, get_or, sym, ap, ◌∙◌, arith}
use Rattle.std.specs.Prelude.{map}
use Rattle.caf_index.specs.Words.{next_line}
use Rattle.caf_index.specs.Postings.{posting_at}
use Rattle.caf_index.proofs.WordLemmas.{same_line}
use Rattle.caf_index.proofs.PostingLemmas.{run-more, run-none, turn-word, turn-gap, turn-end}
use Rattle.caf_index.proofs.posting.words_at.Goals as goal
use Rattle.caf_index.proofs.posting.words_at.Goals.{then-not-is_word_byte+in_ok-push_word+then-byte-eq10, then-not-is_word_byte+in_ok-push_word+else-byte-eq10, else-not-is_word_byte}

-- a line end where the numbers stop
stop : (line b new : ℕ) → b ≡ 10 → new ≡ min (line + 1) (2 ^ 64 - 1) → min new (2 ^ 64 - 1) ≡ min (next_line line b) (2 ^ 64 - 1)
stop line b new is next =
    let same : min new (2 ^ 64 - 1) ≡ min (line + 1) (2 ^ 64 - 1) = omega (arith, next) in
    same ∙ ap (λ (k : ℕ). min (next_line line k) (2 ^ 64 - 1)) (sym is)

pub loop-at-preserved : goal.loop-at-preserved
loop-at-preserved c =
    let text = c.args.text.now in
    let old = c.loop-at in
    let kept = c.loop-at.invariant in
    record {
      order = elim c.if-not-is_word_byte.branch [
        | then-not-is_word_byte+in_ok-push_word+then-byte-eq10 w ↦ omega (arith, w.from-is)
        | then-not-is_word_byte+in_ok-push_word+else-byte-eq10 w ↦ omega (arith, w.from-is)
        | else-not-is_word_byte w ↦ omega (arith, w.from-is, kept.order)
      ];
      run = elim c.if-not-is_word_byte.branch [
        | then-not-is_word_byte+in_ok-push_word+then-byte-eq10 w ↦ run-none text c.args.first (map (λ word. posting_at word.0.now word.1) old.words.items) old.from old.line old.at c.loop-at-test.true kept.order kept.all _ w.from-is
        | then-not-is_word_byte+in_ok-push_word+else-byte-eq10 w ↦ run-none text c.args.first (map (λ word. posting_at word.0.now word.1) old.words.items) old.from old.line old.at c.loop-at-test.true kept.order kept.all _ w.from-is
        | else-not-is_word_byte w ↦ run-more text c.args.first (map (λ word. posting_at word.0.now word.1) old.words.items) old.from old.line old.at c.loop-at-test.true kept.order kept.all _ kept.run (sym w.if-not-is_word_byte.ensures) w.from-is
      ];
      all = elim c.if-not-is_word_byte.branch [
        | then-not-is_word_byte+in_ok-push_word+then-byte-eq10 w ↦ turn-gap text c.args.first (map (λ word. posting_at word.0.now word.1) old.words.items) old.from old.line old.at c.loop-at-test.true kept.order kept.all _ _ _ (sym w.if-not-is_word_byte.ensures) (ap (λ v. map (λ word. posting_at word.0.now word.1) v.items) w.words-is ∙ w.in_ok-push_word.ensures) w.from-is (stop old.line (get_or text old.at 0) _ w.if-byte-eq10.true (w.line-is ∙ w.saturating_add-line.ensures))
        | then-not-is_word_byte+in_ok-push_word+else-byte-eq10 w ↦ turn-gap text c.args.first (map (λ word. posting_at word.0.now word.1) old.words.items) old.from old.line old.at c.loop-at-test.true kept.order kept.all _ _ _ (sym w.if-not-is_word_byte.ensures) (ap (λ v. map (λ word. posting_at word.0.now word.1) v.items) w.words-is ∙ w.in_ok-push_word.ensures) w.from-is (ap (λ (n : ℕ). min n (2 ^ 64 - 1)) (w.line-is ∙ same_line old.line (get_or text old.at 0) w.if-byte-eq10.false))
        | else-not-is_word_byte w ↦ turn-word text c.args.first (map (λ word. posting_at word.0.now word.1) old.words.items) old.from old.line old.at c.loop-at-test.true kept.order kept.all _ _ _ c.requires (sym w.if-not-is_word_byte.ensures) (ap (λ v. map (λ word. posting_at word.0.now word.1) v.items) w.words-is) w.from-is w.line-is
      ];
    }

pub returns : goal.returns
returns c = turn-end c.args.text.now c.args.first (map (λ word. posting_at word.0.now word.1) c.loop-at.words.items) _ c.loop-at.from c.loop-at.line c.loop-at.at c.loop-at-test.false c.loop-at.invariant.all c.in_ok-push_word-2.ensures

use Rattle.std.proofs.Common.{◌≡◌, ℕ, List, ap, sym, subst, ◌∙◌}
use Rattle.std.specs.Prelude.{◌&&◌, ◌==◌, ◌↔◌, map, false, nat_eq, Contains, IfOk, Result, Ok, Err}
use Rattle.std.specs.List.Sorted.{IsStrictlySortedBy}
use Rattle.std.specs.Cmp.{both_tied, unsigned_ties}
use Rattle.std.specs.Cmp.Lexicographic.{pointwise, texts_ties}
use Rattle.std.proofs.lemmas.List.Filters.{dedup_is}
use denote.Ref.{Bor}
use Rattle.caf_index.specs.Words.{lower_case}
use Rattle.caf_index.specs.Postings.{posting_at, stopped, words_from, posting_cmp, sorted_once, postings_of, IsPostingOf}
use Rattle.caf_index.specs.declared.posting.Posting.{Posting}
use Rattle.caf_index.proofs.SortedOnceLemmas.{sorted-dedup, strict-once}
use Rattle.caf_index.proofs.ChunkPostingsLemmas.{postings-exact}
use Rattle.caf_index.proofs.PostingLemmas.{text-lower, words-lower, postings-total, postings-apart}
use Rattle.caf_index.proofs.posting.postings.Goals as goal

-- what is true of the value is true of the result
if_ok : {T E : Type 0} (P : T → Type 0) (r : Result T E) (v : T) → IfOk r (λ x. x ≡ v) → P v → IfOk r P
if_ok P (Ok x) v is holds = subst P (sym is) holds
if_ok P (Err e) v is holds = tt

pub words_at-requires : goal.words_at-requires
words_at-requires c =
    let text = c.as_slice.ensures.value ∙ c.in_ok-text.ensures in
    ap (map lower_case) text ∙ text-lower c.args.bytes.now ∙ sym text

pub returns : goal.returns
returns c =
    let text = c.as_slice.ensures.value ∙ c.in_ok-text.ensures in
    let words = c.in_ok-words.ensures ∙ ap (words_from c.args.line) text ∙ ap (map stopped) (words-lower false c.args.line c.args.bytes.now) in
    let sorted = sorted-dedup (λ (w : Bor (List ℕ) × ℕ). posting_at w.0.now w.1) posting_cmp postings-total postings-apart (λ (x y : Bor (List ℕ) × ℕ). pointwise nat_eq x.0.now y.0.now && (x.1 == y.1)) (λ x y. both_tied _ _ _ _ (texts_ties x.0.now y.0.now) (unsigned_ties x.1 y.1))
    _ _ _ c.in_ok-sort.ensures.permutation c.in_ok-sort.ensures.sorted (dedup_is _ _ _ c.dedup.ensures.filtered) in
    let value = subst (λ ps. IfOk c.listed.result (λ postings. postings ≡ ps)) (ap (map (λ (w : Bor (List ℕ) × ℕ). posting_at w.0.now w.1)) c.as_slice-2.ensures.value ∙ sorted ∙ ap (sorted_once posting_cmp) words) c.listed.ensures in
    record {
      value = value;
      sorted = if_ok (IsStrictlySortedBy posting_cmp) c.listed.result (postings_of c.args.line c.args.bytes.now) value (strict-once posting_cmp postings-total (words_from c.args.line c.args.bytes.now));
      exact = if_ok (λ postings. (posting : Posting) → Contains postings posting ↔ IsPostingOf c.args.line c.args.bytes.now posting) c.listed.result (postings_of c.args.line c.args.bytes.now) value (postings-exact c.args.line c.args.bytes.now);
    }

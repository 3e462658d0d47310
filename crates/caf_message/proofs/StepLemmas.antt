-- Steps that reads, a test and writes add.
use Rattle.std.proofs.Common.{◌≡◌, ℕ, ◌+◌, ◌-◌, ◌<◌, true, List, [], ◌∷◌, ◌++◌, length, take, drop, set, get_or, refl, sym, ap, subst, ◌∙◌, append_assoc, arith, Result, Ok, Err}
use Rattle.std.proofs.lemmas.List.{append-nil, set-get_or, set-append_right, drop_more, take_more, length-take-le}
use Rattle.std.specs.Result.{OnErr}
use Rattle.caf_steps.specs.declared.step.Step.{Step}
use Rattle.caf_steps.specs.declared.step.Step.TheVariants.{Test, Read, Write}
use Rattle.caf_steps.specs.declared.reference.Reference.{Reference}
use Rattle.caf_steps.specs.Reference.{looked, reads_from, read, written}
use Rattle.caf_steps.proofs.ReferenceLemmas.{looked-more}
use Rattle.caf_tuple.specs.Tuple.{GaveUp}
use Rattle.caf_message.specs.declared.replacing.Replaced.{Replaced}
use Rattle.caf_message.specs.declared.replacing.Replaced.TheVariants.{Fresh, InPlace, Copied}
use Rattle.caf_message.specs.Message.{BecomesSole, Replaces, HasLooked, IsRead, IsReadOrWrite, Each, IsTestAndReads, IsAsBefore, Rewrites}

pub Each-append : (P : Step → Type 0) (xs ys : List Step) → Each P xs → Each P ys → Each P (xs ++ ys)
Each-append P [] ys all others = others
Each-append P (x ∷ xs) ys all others = (all.0, Each-append P xs ys all.1 others)

pub reads_are_reads : (i : ℕ) (words : List ℕ) → Each IsRead (reads_from i words)
reads_are_reads i [] = tt
reads_are_reads i (w ∷ ws) = (tt, reads_are_reads (i + 1) ws)

only_reads : (i : ℕ) (words : List ℕ) → IsTestAndReads (reads_from i words)
only_reads i [] = tt
only_reads i (w ∷ ws) = (tt, reads_are_reads (i + 1) ws)

-- ---- reading on

-- after the first words one more was read
pub look_on : (n word : ℕ) (old r s : Reference) → n < length old.content → r ≡ looked n old → s ≡ read n word r → word ≡ get_or r.content n 0 → s ≡ looked (n + 1) old
look_on n word old r s within so_far step value =
    let is : word ≡ get_or old.content n 0 = value ∙ ap (λ (q : Reference). get_or q.content n 0) so_far in
    step ∙ ap (λ (q : Reference). read n word q) so_far ∙ ap (λ (w : ℕ). read n w (looked n old)) is ∙ sym (looked-more n old within)

-- ---- refused calls

pub on_err : {A E : Type 0} (r : Result A E) {P : Type 0} → P → OnErr r P
on_err (Ok x) p = tt
on_err (Err e) p = p

pub unchanged : (old : Reference) → IsAsBefore old old
unchanged old = record { content = refl; room = refl; more = []; steps = sym (append-nil old.steps); few = tt }

pub looked_as_before : (old new : Reference) → HasLooked old new → IsAsBefore old new
looked_as_before old new h = record {
  content = ap (λ (r : Reference). r.content) h.is;
  room = ap (λ (r : Reference). r.room) h.is;
  more = reads_from 0 (take h.words old.content);
  steps = ap (λ (r : Reference). r.steps) h.is;
  few = only_reads 0 (take h.words old.content);
}

pub gave_up_as_before : (old new : Reference) → GaveUp old new → IsAsBefore old new
gave_up_as_before old new g = record {
  content = ap (λ (r : Reference). r.content) g.steps_are;
  room = ap (λ (r : Reference). r.room) g.steps_are;
  more = Test g.count ∷ reads_from 0 (take g.words old.content);
  steps = ap (λ (r : Reference). r.steps) g.steps_are ∙ append_assoc old.steps (Test g.count ∷ []) (reads_from 0 (take g.words old.content));
  few = reads_are_reads 0 (take g.words old.content);
}

-- ---- writing

pub rewrites_none : (r : Reference) → r.sole ≡ true → Rewrites r.content r r
rewrites_none r sole = record { content = refl; room = refl; sole = sole; more = []; steps = sym (append-nil r.steps); only = tt }

pub rewrites_again : (ws vs : List ℕ) (a b c : Reference) → Rewrites ws a b → Rewrites vs b c → Rewrites vs a c
rewrites_again ws vs a b c first then_ = record {
  content = then_.content;
  room = then_.room ∙ first.room;
  sole = then_.sole;
  more = first.more ++ then_.more;
  steps = then_.steps ∙ ap (λ (ss : List Step). ss ++ then_.more) first.steps ∙ append_assoc a.steps first.more then_.more;
  only = Each-append IsReadOrWrite first.more then_.more first.only then_.only;
}

pub rewrites_as : (ws vs : List ℕ) (a b : Reference) → ws ≡ vs → Rewrites ws a b → Rewrites vs a b
rewrites_as ws vs a b same r = subst (λ (us : List ℕ). Rewrites us a b) same r

-- another word was read, and then written over
pub wrote : (old r s : Reference) (i seen word : ℕ) → old.sole ≡ true → r ≡ read i seen old → s ≡ written i word r → Rewrites (set old.content i word) old s
wrote old r s i seen word sole reads writes = record {
  content = ap (λ (q : Reference). q.content) writes ∙ ap (λ (q : Reference). set q.content i word) reads;
  room = ap (λ (q : Reference). q.room) writes ∙ ap (λ (q : Reference). q.room) reads;
  sole = ap (λ (q : Reference). q.sole) writes ∙ ap (λ (q : Reference). q.sole) reads ∙ sole;
  more = Read i seen ∷ Write i word ∷ [];
  steps = ap (λ (q : Reference). q.steps) writes ∙ ap (λ (q : Reference). q.steps ++ Write i word ∷ []) reads ∙ append_assoc old.steps (Read i seen ∷ []) (Write i word ∷ []);
  only = (tt, (tt, tt));
}

-- the word stood there already
pub left : (old r : Reference) (i seen word : ℕ) → old.sole ≡ true → r ≡ read i seen old → seen ≡ get_or old.content i 0 → seen ≡ word → Rewrites (set old.content i word) old r
left old r i seen word sole reads value same = record {
  content = ap (λ (q : Reference). q.content) reads ∙ sym (set-get_or old.content i 0) ∙ ap (λ (w : ℕ). set old.content i w) (sym value ∙ same);
  room = ap (λ (q : Reference). q.room) reads;
  sole = ap (λ (q : Reference). q.sole) reads ∙ sole;
  more = Read i seen ∷ [];
  steps = ap (λ (q : Reference). q.steps) reads;
  only = (tt, tt);
}

-- one word more of the new ones, and one less of the old ones
pub one_more : (ws xs : List ℕ) (i : ℕ) → i < length ws → length ws ≡ length xs → set (take i ws ++ drop i xs) i (get_or ws i 0) ≡ take (i + 1) ws ++ drop (i + 1) xs
one_more ws xs i within same =
    let word : ℕ = get_or ws i 0 in
    let front : length (take i ws) ≡ i = length-take-le i ws (omega arith) in
    let behind : i < length xs = omega arith in
    let zero_left : i - i ≡ 0 = omega arith in
    set-append_right (take i ws) (drop i xs) i i word front (omega arith)
    ∙ ap (λ (n : ℕ). take i ws ++ set (drop i xs) n word) zero_left
    ∙ ap (λ (ys : List ℕ). take i ws ++ set ys 0 word) (drop_more xs i 0 behind)
    ∙ sym (append_assoc (take i ws) (word ∷ []) (drop (i + 1) xs))
    ∙ ap (λ (ys : List ℕ). ys ++ drop (i + 1) xs) (sym (take_more ws i 0 within))

-- what became sole and was then written is replaced
pub replaced_by : (replaced : Replaced) (words : List ℕ) (old mid new : Reference) → length words ≡ length old.content → BecomesSole replaced old mid → Rewrites words mid new → Replaces replaced words old new
replaced_by Fresh words old mid new same own writes = absurd own
replaced_by InPlace words old mid new same own writes = (same, subst (λ (r : Reference). Rewrites words r new) own writes)
replaced_by (Copied count) words old mid new same own writes = (same, own.0, subst (λ (r : Reference). Rewrites words r new) own.1 writes)

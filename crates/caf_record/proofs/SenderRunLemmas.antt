-- The longest run at the front is as long as the envelopes from the front on have the first one's sender.
use Rattle.std.proofs.Common.{◌≡◌, ℕ, suc, ◌+◌, ◌==◌, Bool, true, false, List, [], ◌∷◌, ◌++◌, drop, refl, ap, sym, ◌∙◌, subst, arith, append_assoc}
use Rattle.std.specs.Prelude.{flat_map, slice_get, Some}
use Rattle.std.specs.List.{prefix_len}
use Rattle.caf_message.specs.declared.envelope.Taken.{Taken}
use Rattle.caf_record.specs.Trace.{SenderRun, one_before, runs_of, run_text}
use Rattle.caf_record.proofs.ListLemmas.{self_equal, same_of}

abbrev pub front : ℕ → List Taken → ℕ
front sender es = prefix_len (λ e. e.sender == sender) es

abbrev pub run_of : ℕ → ℕ → SenderRun
run_of sender count = record { sender = sender; count = count }

-- the first of the runs is of this sender, so one of another sender begins a run of its own
one_apart : (s a : ℕ) (rs : List SenderRun) → (a == s) ≡ false → one_before s (one_before a rs) ≡ run_of s 1 ∷ one_before a rs
one_apart s a [] q = rw q refl
one_apart s a (r ∷ rs) q = go (r.sender == a) refl
  where
    go : (b : Bool) → (r.sender == a) ≡ b → one_before s (one_before a (r ∷ rs)) ≡ run_of s 1 ∷ one_before a (r ∷ rs)
    go true e = let same : r.sender ≡ a = same_of r.sender a e in let no : (r.sender == s) ≡ false = subst (λ x. (x == s) ≡ false) (sym same) q in rw (e, no) refl
    go false e = rw (e, q) refl

front_run : (s : ℕ) (es : List Taken) → one_before s (runs_of es) ≡ run_of s (1 + front s es) ∷ runs_of (drop (front s es) es)
front_run s [] = refl
front_run s (e ∷ es) = go (e.sender == s) refl (front_run s es)
  where
    go : (b : Bool) → (e.sender == s) ≡ b → one_before s (runs_of es) ≡ run_of s (1 + front s es) ∷ runs_of (drop (front s es) es) → one_before s (runs_of (e ∷ es)) ≡ run_of s (1 + front s (e ∷ es)) ∷ runs_of (drop (front s (e ∷ es)) (e ∷ es))
    go true q h =
        let same : e.sender ≡ s = same_of e.sender s q in
        let more : 1 + front s es ≡ suc (front s es) = omega arith in
        let count : 1 + front s es + 1 ≡ 1 + suc (front s es) = omega arith in
        rw (q, more) (
        ap (λ a. one_before s (one_before a (runs_of es))) same ∙ ap (one_before s) h
        ∙ (let own = self_equal s in rw own (ap (λ n. run_of s n ∷ runs_of (drop (front s es) es)) count)))
    go false q h = rw q (one_apart s e.sender (runs_of es) q)

-- the runs of a list that isn't empty
first_run : (e : Taken) (es : List Taken) → runs_of (e ∷ es) ≡ run_of e.sender (front e.sender (e ∷ es)) ∷ runs_of (drop (front e.sender (e ∷ es)) (e ∷ es))
first_run e es =
    let own = self_equal e.sender in
    let more : 1 + front e.sender es ≡ suc (front e.sender es) = omega arith in
    rw (own, more) (subst (λ n. one_before e.sender (runs_of es) ≡ run_of e.sender n ∷ runs_of (drop (front e.sender es) es)) more (front_run e.sender es))

-- the text and the runs that are left are the whole, before and after one run
pub run_more : (es : List Taken) (e : Taken) (count : ℕ) (text next whole : List ℕ) → slice_get es 0 ≡ Some e → count ≡ front e.sender es → text ++ flat_map run_text (runs_of es) ≡ whole → next ≡ text ++ run_text (run_of e.sender count)
    → next ++ flat_map run_text (runs_of (drop count es)) ≡ whole
run_more [] e count text next whole first is before step = cc
run_more (x ∷ xs) e count text next whole first is before step =
    let same : x ≡ e = cc in
    let length_is : count ≡ front x.sender (x ∷ xs) = is ∙ ap (λ (y : Taken). front y.sender (x ∷ xs)) (sym same) in
    let run : next ≡ text ++ run_text (run_of x.sender count) = step ∙ ap (λ (y : Taken). text ++ run_text (run_of y.sender count)) (sym same) in
    let later : List ℕ = flat_map run_text (runs_of (drop count (x ∷ xs))) in
    ap (λ t. t ++ later) run ∙ append_assoc text (run_text (run_of x.sender count)) later
    ∙ ap (λ t. text ++ t) (ap (λ n. flat_map run_text (run_of x.sender n ∷ runs_of (drop n (x ∷ xs)))) length_is ∙ ap (flat_map run_text) (sym (first_run x xs)))
    ∙ before

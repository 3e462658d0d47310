-- The batches of a record, place by place: where each stands, and which of them are of one place.
use Rattle.std.proofs.Common.{◌≡◌, ◌≢◌, ℕ, zero, suc, ◌+◌, ◌≤◌, ◌==◌, Bool, true, false, List, [], ◌∷◌, ◌++◌, Option, Some, refl, ap, sym, ◌∙◌, subst, arith, ne_eqb}
use Rattle.std.specs.Prelude.{map, slice_get}
use Rattle.std.specs.List.{AllByRecursion, filter_map}
use Rattle.std.proofs.lemmas.List.{append-nil, map-append}
use Rattle.caf_mailbox.proofs.NextLemmas.{all_append}
use Rattle.caf_actor.specs.declared.journal.TakenBatch.{TakenBatch}
use Rattle.caf_actor.specs.Run.{Turn}
use Rattle.caf_actor.specs.Merge.{batches_in}
use Rattle.caf_record.specs.declared.run_record.RunRecord.{RunRecord}
use Rattle.caf_record.specs.RunRecord.{journal_at}
use Rattle.caf_record.specs.Merged.{Entry, numbered, entries_from, merged, merge_of, turns_of, turn_at, turns_at, merge_order}
use Rattle.caf_record.proofs.ListLemmas.{self_equal, all_map}
use Rattle.caf_record.proofs.InOrderLemmas.{all-in_order}

abbrev pub turns : List Entry → List Turn
turns es = map (λ e. e.turn) es

-- ---- of one place

pub numbered_all : (P : TakenBatch → Type 0) (place n : ℕ) (bs : List TakenBatch) → AllByRecursion P bs → AllByRecursion (λ e. P e.turn.batch) (numbered place n bs)
numbered_all P place n [] h = tt
numbered_all P place n (b ∷ bs) h = (h.0, numbered_all P place (n + 1) bs h.1)

pub numbered_place : (place n : ℕ) (bs : List TakenBatch) → AllByRecursion (λ e. e.turn.place ≡ place) (numbered place n bs)
numbered_place place n [] = tt
numbered_place place n (b ∷ bs) = (refl, numbered_place place (n + 1) bs)

pub entries_past : (low place : ℕ) (journals : List (List TakenBatch)) → low ≤ place → AllByRecursion (λ e. low ≤ e.turn.place) (entries_from place journals)
entries_past low place [] le = tt
entries_past low place (journal ∷ journals) le =
    let next : low ≤ place + 1 = omega arith in
    all_append (λ e. low ≤ e.turn.place) (numbered place 0 journal) (entries_from (place + 1) journals)
    (all_map (λ e. e.turn.place ≡ place) (λ e. low ≤ e.turn.place) (λ e is. omega arith) (numbered place 0 journal) (numbered_place place 0 journal))
    (entries_past low (place + 1) journals next)

-- ---- where each stands

numbered_found : (look : ℕ → Option TakenBatch) (place n : ℕ) (bs : List TakenBatch) → ((i : ℕ) → look (n + i) ≡ slice_get bs i) → AllByRecursion (λ e. look e.number ≡ Some e.turn.batch) (numbered place n bs)
numbered_found look place n [] h = tt
numbered_found look place n (b ∷ bs) h =
    let here : n + 0 ≡ n = omega arith in (
      subst (λ k. look k ≡ Some b) here (h 0),
      numbered_found look place (n + 1) bs (λ i. let same : n + suc i ≡ n + 1 + i = omega arith in subst (λ k. look k ≡ slice_get bs i) same (h (suc i))),
    )

-- the record has the entry's batch at its place and number
abbrev pub IsFound : (ℕ → List TakenBatch) → Entry → Type 0
IsFound at e = slice_get (at e.turn.place) e.number ≡ Some e.turn.batch

entries_found : (at : ℕ → List TakenBatch) (place : ℕ) (journals : List (List TakenBatch)) → ((i : ℕ) → at (place + i) ≡ journal_at journals i) → AllByRecursion (IsFound at) (entries_from place journals)
entries_found at place [] h = tt
entries_found at place (journal ∷ journals) h =
    let here : place + 0 ≡ place = omega arith in
    let own : at place ≡ journal = subst (λ p. at p ≡ journal) here (h 0) in
    all_append (IsFound at) (numbered place 0 journal) (entries_from (place + 1) journals)
    (both (numbered place 0 journal) (numbered_place place 0 journal) (numbered_found (slice_get (at place)) place 0 journal (λ i. let same : 0 + i ≡ i = omega arith in ap (slice_get (at place)) same ∙ ap (λ j. slice_get j i) own)))
    (entries_found at (place + 1) journals (λ i. let same : place + suc i ≡ place + 1 + i = omega arith in subst (λ p. at p ≡ journal_at journals i) same (h (suc i))))
  where
    both : (es : List Entry) → AllByRecursion (λ e. e.turn.place ≡ place) es → AllByRecursion (λ e. slice_get (at place) e.number ≡ Some e.turn.batch) es → AllByRecursion (IsFound at) es
    both [] p q = tt
    both (e ∷ es) p q = (subst (λ x. slice_get (at x) e.number ≡ Some e.turn.batch) (sym p.0) q.0, both es p.1 q.1)

pub merged_found : (journals : List (List TakenBatch)) → AllByRecursion (IsFound (journal_at journals)) (merged journals)
merged_found journals =
    all-in_order merge_order (IsFound (journal_at journals)) (entries_from 0 journals)
    (entries_found (journal_at journals) 0 journals (λ i. let same : 0 + i ≡ i = omega arith in ap (journal_at journals) same))

-- the turns that the list of places and numbers names
pub named_turns : (kept : RunRecord) → turns_at kept (merge_of kept) ≡ turns_of kept
named_turns kept = go (merged kept.journals) (merged_found kept.journals)
  where
    go : (es : List Entry) → AllByRecursion (IsFound (journal_at kept.journals)) es → filter_map (turn_at kept) (map (λ e. (e.turn.place, e.number)) es) ≡ turns es
    go [] h = refl
    go (e ∷ es) h = rw h.0 (ap (λ ts. e.turn ∷ ts) (go es h.1))

-- ---- those of a place among all

batches_append : (p : ℕ) (ts us : List Turn) → batches_in p (ts ++ us) ≡ batches_in p ts ++ batches_in p us
batches_append p [] us = refl
batches_append p (t ∷ ts) us = go (p == t.place) refl (batches_append p ts us)
  where
    go : (c : Bool) → (p == t.place) ≡ c → batches_in p (ts ++ us) ≡ batches_in p ts ++ batches_in p us → batches_in p ((t ∷ ts) ++ us) ≡ batches_in p (t ∷ ts) ++ batches_in p us
    go true q h = rw q (ap (λ bs. t.batch ∷ bs) h)
    go false q h = rw q h

own_batches : (p n : ℕ) (bs : List TakenBatch) → batches_in p (turns (numbered p n bs)) ≡ bs
own_batches p n [] = refl
own_batches p n (b ∷ bs) = rw (self_equal p) (ap (λ cs. b ∷ cs) (own_batches p (n + 1) bs))

no_batches : (p : ℕ) (es : List Entry) → AllByRecursion (λ e. p ≢ e.turn.place) es → batches_in p (turns es) ≡ []
no_batches p [] h = refl
no_batches p (e ∷ es) h = let no : (p == e.turn.place) ≡ false = ne_eqb p e.turn.place h.0 in rw no (no_batches p es h.1)

split_first : (p place : ℕ) (journal : List TakenBatch) (journals : List (List TakenBatch)) → batches_in p (turns (entries_from place (journal ∷ journals))) ≡ batches_in p (turns (numbered place 0 journal)) ++ batches_in p (turns (entries_from (place + 1) journals))
split_first p place journal journals =
    ap (batches_in p) (map-append (λ e. e.turn) (numbered place 0 journal) (entries_from (place + 1) journals))
    ∙ batches_append p (turns (numbered place 0 journal)) (turns (entries_from (place + 1) journals))

none_past : (place : ℕ) (journals : List (List TakenBatch)) → batches_in place (turns (entries_from (place + 1) journals)) ≡ []
none_past place journals =
    let next : place + 1 ≤ place + 1 = omega arith in
    no_batches place (entries_from (place + 1) journals)
    (all_map (λ e. place + 1 ≤ e.turn.place) (λ e. place ≢ e.turn.place) (λ e le same. absurd (omega arith)) (entries_from (place + 1) journals) (entries_past (place + 1) (place + 1) journals next))

none_before : (place i : ℕ) (journal : List TakenBatch) → batches_in (place + 1 + i) (turns (numbered place 0 journal)) ≡ []
none_before place i journal =
    no_batches (place + 1 + i) (numbered place 0 journal)
    (all_map (λ e. e.turn.place ≡ place) (λ e. place + 1 + i ≢ e.turn.place) (λ e is same. absurd (omega arith)) (numbered place 0 journal) (numbered_place place 0 journal))

entries_parts : (place : ℕ) (journals : List (List TakenBatch)) (i : ℕ) → batches_in (place + i) (turns (entries_from place journals)) ≡ journal_at journals i
entries_parts place [] zero = refl
entries_parts place [] (suc i) = refl
entries_parts place (journal ∷ journals) zero =
    let here : place ≡ place + 0 = omega arith in
    subst (λ p. batches_in p (turns (entries_from place (journal ∷ journals))) ≡ journal) here
    (split_first place place journal journals
    ∙ ap (λ bs. bs ++ batches_in place (turns (entries_from (place + 1) journals))) (own_batches place 0 journal)
    ∙ ap (λ bs. journal ++ bs) (none_past place journals) ∙ append-nil journal)
entries_parts place (journal ∷ journals) (suc i) =
    let here : place + 1 + i ≡ place + suc i = omega arith in
    subst (λ p. batches_in p (turns (entries_from place (journal ∷ journals))) ≡ journal_at journals i) here
    (split_first (place + 1 + i) place journal journals
    ∙ ap (λ bs. bs ++ batches_in (place + 1 + i) (turns (entries_from (place + 1) journals))) (none_before place i journal)
    ∙ entries_parts (place + 1) journals i)

-- among all entries those of a place are its journal
pub parts : (journals : List (List TakenBatch)) (p : ℕ) → batches_in p (turns (entries_from 0 journals)) ≡ journal_at journals p
parts journals p = let same : 0 + p ≡ p = omega arith in subst (λ x. batches_in x (turns (entries_from 0 journals)) ≡ journal_at journals p) same (entries_parts 0 journals p)

-- What the code lists and writes: entries without their batches, in order, each found again by its place and number.
use Rattle.std.proofs.Common.{◌≡◌, ℕ, zero, suc, ◌+◌, ◌<◌, List, [], ◌∷◌, ◌++◌, length, get_or, drop, Some, refl, ap, sym, ◌∙◌, subst, arith, append_assoc}
use Rattle.std.specs.Prelude.{map, slice_get, flat_map, IsSome}
use Rattle.std.specs.List.{AllByRecursion}
use Rattle.std.specs.List.Sorted.{IsPermutation, IsSorted}
use Rattle.std.specs.Ordering.{nat_cmp, ordering_then}
use Rattle.std.specs.declared.cmp.Ordering.{Ordering}
use Rattle.std.specs.declared.cmp.Ordering.TheVariants.{Less, Equal, Greater}
use Rattle.std.specs.Cmp.{IsTotalOrder, nat_cmp_total, on_total, then_total}
use Rattle.std.specs.FinMap.{IsAntisymmetric, nat_cmp-IsAntisymmetric}
use Rattle.std.proofs.lemmas.Option.{slice_get_read}
use Rattle.std.proofs.lemmas.Simd.{map-map}
use Rattle.caf_actor.specs.declared.journal.TakenBatch.{TakenBatch}
use Rattle.caf_record.specs.declared.merged.Listed.{Listed}
use Rattle.caf_record.specs.declared.run_record.RunRecord.{RunRecord}
use Rattle.caf_record.specs.RunRecord.{journal_at}
use Rattle.caf_record.specs.InOrder.{in_order}
use Rattle.caf_record.specs.Merged.{Entry, entries_from, merged, merge_of}
use Rattle.caf_record.specs.Listed.{listed_of}
use Rattle.caf_record.specs.Trace.{line_of}
use Rattle.caf_record.proofs.InOrderLemmas.{sorted_in_order, in_order-map}
use Rattle.caf_record.proofs.EntryLemmas.{turns, IsFound, merged_found}

-- ---- the sort

abbrev pub listed_order : Listed → Listed → Ordering
listed_order a b = ordering_then (nat_cmp a.stamp b.stamp) (ordering_then (nat_cmp a.place b.place) (nat_cmp a.number b.number))

listed_order_total : IsTotalOrder listed_order
listed_order_total =
    then_total (on_total (λ (b : Listed). b.stamp) nat_cmp_total)
    (then_total (on_total (λ (b : Listed). b.place) nat_cmp_total) (on_total (λ (b : Listed). b.number) nat_cmp_total))

both_tie : (r s : Ordering) → ordering_then r s ≡ Equal → (r ≡ Equal) × (s ≡ Equal)
both_tie Less s q = cc
both_tie Equal s q = (refl, q)
both_tie Greater s q = cc

-- a batch is known by its stamp, place and number
listed_same : IsAntisymmetric listed_order
listed_same a b q =
    let first = both_tie (nat_cmp a.stamp b.stamp) (ordering_then (nat_cmp a.place b.place) (nat_cmp a.number b.number)) q in
    let second = both_tie (nat_cmp a.place b.place) (nat_cmp a.number b.number) first.1 in
    let stamp : a.stamp ≡ b.stamp = nat_cmp-IsAntisymmetric a.stamp b.stamp first.0 in
    let place : a.place ≡ b.place = nat_cmp-IsAntisymmetric a.place b.place second.0 in
    let number : a.number ≡ b.number = nat_cmp-IsAntisymmetric a.number b.number second.1 in
    λ i. record { stamp = stamp i; place = place i; number = number i }

pub sorted_listing : (journals : List (List TakenBatch)) (xs ys : List Listed) → xs ≡ map listed_of (entries_from 0 journals) → IsPermutation xs ys → IsSorted listed_order ys → ys ≡ map listed_of (merged journals)
sorted_listing journals xs ys is moved sorted =
    sorted_in_order listed_order listed_order_total listed_same xs ys moved sorted ∙ ap (in_order listed_order) is ∙ in_order-map listed_of listed_order (entries_from 0 journals)

pub listing : (kept : RunRecord) (xs : List Listed) (list : List (ℕ × ℕ)) → xs ≡ map listed_of (merged kept.journals) → list ≡ map (λ b. (b.place, b.number)) xs → list ≡ merge_of kept
listing kept xs list is step = step ∙ ap (map (λ b. (b.place, b.number))) is ∙ map-map (λ b. (b.place, b.number)) listed_of (merged kept.journals)

-- ---- the lines

-- the entry behind a listed batch
entry_at : (P : Entry → Type 0) (es : List Entry) (i : ℕ) (d : Listed) → AllByRecursion P es → i < length (map listed_of es) → (e : Entry) × (P e × ((get_or (map listed_of es) i d ≡ listed_of e) × (drop i es ≡ e ∷ drop (i + 1) es)))
entry_at P [] i d h lt = absurd (omega arith)
entry_at P (e ∷ es) zero d h lt = (e, (h.0, (refl, refl)))
entry_at P (e ∷ es) (suc i) d h lt =
    let below : i < length (map listed_of es) = omega arith in
    let r = entry_at P es i d h.1 below in
    let next : i + 1 ≡ suc i = omega arith in
    (r.0, (r.1.0, (r.1.1.0, r.1.1.1 ∙ ap (λ k. r.0 ∷ drop k es) next ∙ ap (λ k. r.0 ∷ drop k (e ∷ es)) (let more : suc (suc i) ≡ suc i + 1 = omega arith in more))))

module _ (kept : RunRecord) (xs : List Listed) (is : xs ≡ map listed_of (merged kept.journals)) (i : ℕ) (d : Listed) (lt : i < length xs) where
  behind : (e : Entry) × (IsFound (journal_at kept.journals) e × ((get_or (map listed_of (merged kept.journals)) i d ≡ listed_of e) × (drop i (merged kept.journals) ≡ e ∷ drop (i + 1) (merged kept.journals))))
  behind = entry_at (IsFound (journal_at kept.journals)) (merged kept.journals) i d (merged_found kept.journals) (subst (λ ys. i < length ys) is lt)

  item_is : get_or xs i d ≡ listed_of behind.0
  item_is = ap (λ ys. get_or ys i d) is ∙ behind.1.1.0

  -- the record has it
  found : slice_get (journal_at kept.journals (get_or xs i d).place) (get_or xs i d).number ≡ Some behind.0.turn.batch
  found = ap (λ (c : Listed). slice_get (journal_at kept.journals c.place) c.number) item_is ∙ behind.1.0

  pub is_there : IsSome (slice_get (journal_at kept.journals (get_or xs i d).place) (get_or xs i d).number)
  is_there = rw found refl

  -- the text and the lines that are left are the whole, before and after one line
  pub line_more : (batch : TakenBatch) (text next whole : List ℕ) → slice_get (journal_at kept.journals (get_or xs i d).place) (get_or xs i d).number ≡ Some batch → text ++ flat_map line_of (turns (drop i (merged kept.journals))) ≡ whole
      → next ≡ text ++ line_of (record { place = (get_or xs i d).place; batch = batch }) → next ++ flat_map line_of (turns (drop (i + 1) (merged kept.journals))) ≡ whole
  line_more batch text next whole read before step =
      let both : Some batch ≡ Some behind.0.turn.batch = sym read ∙ found in
      let same : batch ≡ behind.0.turn.batch = cc in
      let line : line_of (record { place = (get_or xs i d).place; batch = batch }) ≡ line_of behind.0.turn =
      ap (λ (c : TakenBatch). line_of (record { place = (get_or xs i d).place; batch = c })) same ∙ ap (λ (c : Listed). line_of (record { place = c.place; batch = behind.0.turn.batch })) item_is in
      let later : List ℕ = flat_map line_of (turns (drop (i + 1) (merged kept.journals))) in
      ap (λ t. t ++ later) (step ∙ ap (λ t. text ++ t) line) ∙ append_assoc text (line_of behind.0.turn) later
      ∙ ap (λ es. text ++ flat_map line_of (turns es)) (sym behind.1.1.1) ∙ before

-- ---- reading the record

journal_within : (journals : List (List TakenBatch)) (place number : ℕ) → IsSome (slice_get (journal_at journals place) number) → place < length journals
journal_within [] zero number h = cc
journal_within [] (suc place) number h = cc
journal_within (j ∷ js) zero number h = omega arith
journal_within (j ∷ js) (suc place) number h = let le = journal_within js place number h in omega arith

same_journal : (journals : List (List TakenBatch)) (place : ℕ) (d : List TakenBatch) → place < length journals → journal_at journals place ≡ get_or journals place d
same_journal [] place d lt = absurd (omega arith)
same_journal (j ∷ js) zero d lt = refl
same_journal (j ∷ js) (suc place) d lt = same_journal js place d (omega arith)

batch_within : (journal : List TakenBatch) (number : ℕ) → IsSome (slice_get journal number) → number < length journal
batch_within [] number h = cc
batch_within (b ∷ bs) zero h = omega arith
batch_within (b ∷ bs) (suc number) h = let le = batch_within bs number h in omega arith

-- a batch that is there, read by its place and number
module _ (journals : List (List TakenBatch)) (place number : ℕ) (there : IsSome (slice_get (journal_at journals place) number)) (journal : List TakenBatch) (read : journal ≡ get_or journals place journal) where
  journal_is : journal_at journals place ≡ journal
  journal_is = same_journal journals place journal (journal_within journals place number there) ∙ sym read

  pub number_within : number < length journal
  number_within = batch_within journal number (subst (λ bs. IsSome (slice_get bs number)) journal_is there)

  pub batch_read : (b : TakenBatch) → b ≡ get_or journal number b → slice_get (journal_at journals place) number ≡ Some b
  batch_read b is = ap (λ bs. slice_get bs number) journal_is ∙ slice_get_read journal (length journal) number b refl number_within is

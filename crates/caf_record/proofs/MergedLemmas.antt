-- The turns of a stored record are its merge where its stamps rise, as those of a legal record do.
use Rattle.std.proofs.Common.{◌≡◌, ℕ, ◌+◌, ◌<◌, ◌≤◌, ◌==◌, Bool, true, false, List, [], ◌∷◌, ◌++◌, refl, ap, sym, ◌∙◌, subst, arith, inl, inr}
use Rattle.std.specs.List.{AllByRecursion}
use Rattle.std.specs.Ordering.{nat_cmp, ordering_then, is_lt}
use Rattle.std.specs.declared.cmp.Ordering.{Ordering}
use Rattle.std.specs.declared.cmp.Ordering.TheVariants.{Less, Equal, Greater}
use Rattle.std.specs.Cmp.{IsTotalOrder, nat_cmp_is, nat_cmp_total, on_total, then_total}
use Rattle.std.proofs.lemmas.Bool.{cases_lt}
use Rattle.caf_mailbox.proofs.NextLemmas.{all_append}
use Rattle.caf_actor.specs.declared.journal.TakenBatch.{TakenBatch}
use Rattle.caf_actor.specs.Record.{Machine, AreStamped, IsLegal}
use Rattle.caf_actor.specs.Run.{Turn}
use Rattle.caf_actor.specs.Merge.{ComesBefore, AreInOrder, batches_in, IsMerge}
use Rattle.caf_record.specs.declared.run_record.RunRecord.{RunRecord}
use Rattle.caf_record.specs.RunRecord.{journal_at, record_of}
use Rattle.caf_record.specs.InOrder.{put, in_order}
use Rattle.caf_record.specs.Merged.{Entry, numbered, entries_from, merge_order, merged, merge_of, turns_of, turns_at, StampsRise, HasRisingStamps, AreItsMerge, LegalIsMerged}
use Rattle.caf_record.proofs.ListLemmas.{same_of, all_map}
use Rattle.caf_record.proofs.StandsLemmas.{HasStamps}
use Rattle.caf_record.proofs.InOrderLemmas.{NotAfter, Rises, rises-in_order, all-in_order, each_at}
use Rattle.caf_record.proofs.EntryLemmas.{turns, numbered_all, numbered_place, entries_past, named_turns, parts}

-- ---- the order

pub merge_order_total : IsTotalOrder merge_order
merge_order_total =
    then_total (on_total (λ (e : Entry). e.turn.batch.stamp) nat_cmp_total)
    (then_total (on_total (λ (e : Entry). e.turn.place) nat_cmp_total) (on_total (λ (e : Entry). e.number) nat_cmp_total))

-- a greater stamp comes later
later_stamp : (a b : Entry) → a.turn.batch.stamp < b.turn.batch.stamp → is_lt (merge_order b a) ≡ false
later_stamp a b lt =
    let is : Greater ≡ nat_cmp b.turn.batch.stamp a.turn.batch.stamp = nat_cmp_is b.turn.batch.stamp a.turn.batch.stamp Greater lt in
    ap (λ r. is_lt (ordering_then r (ordering_then (nat_cmp b.turn.place a.turn.place) (nat_cmp b.number a.number)))) (sym is)

-- what isn't later comes before by stamp, then by place
not_later : (a b : Entry) → is_lt (merge_order b a) ≡ false → ComesBefore a.turn b.turn
not_later a b q = elim (cases_lt a.turn.batch.stamp b.turn.batch.stamp) [
  | inl lt ↦ inl lt
  | inr ge ↦ elim (cases_lt b.turn.batch.stamp a.turn.batch.stamp) [
    | inl gt ↦ absurd (first gt)
    | inr le ↦ (let same : b.turn.batch.stamp ≡ a.turn.batch.stamp = omega arith in inr (sym same, by_place same))
  ]
]
  where
    rest : Ordering
    rest = ordering_then (nat_cmp b.turn.place a.turn.place) (nat_cmp b.number a.number)

    first : b.turn.batch.stamp < a.turn.batch.stamp → ⊥
    first gt =
        let is : Less ≡ nat_cmp b.turn.batch.stamp a.turn.batch.stamp = nat_cmp_is b.turn.batch.stamp a.turn.batch.stamp Less gt in
        let wrong : true ≡ false = ap (λ r. is_lt (ordering_then r (ordering_then (nat_cmp b.turn.place a.turn.place) (nat_cmp b.number a.number)))) is ∙ q in
        cc

    by_place : b.turn.batch.stamp ≡ a.turn.batch.stamp → a.turn.place ≤ b.turn.place
    by_place same = elim (cases_lt b.turn.place a.turn.place) [
      | inr le ↦ le
      | inl lt ↦ (
          let tied : Equal ≡ nat_cmp b.turn.batch.stamp a.turn.batch.stamp = nat_cmp_is b.turn.batch.stamp a.turn.batch.stamp Equal same in
          let is : Less ≡ nat_cmp b.turn.place a.turn.place = nat_cmp_is b.turn.place a.turn.place Less lt in
          let wrong : true ≡ false = ap (λ r. is_lt (ordering_then r (nat_cmp b.number a.number))) is ∙ ap (λ r. is_lt (ordering_then r (ordering_then (nat_cmp b.turn.place a.turn.place) (nat_cmp b.number a.number)))) tied ∙ q in
          absurd (let never : ⊥ = cc in never))
    ]

in_order_turns : (es : List Entry) → Rises merge_order es → AreInOrder (turns es)
in_order_turns [] h = tt
in_order_turns (e ∷ es) h = (each es h.0, in_order_turns es h.1)
  where
    each : (fs : List Entry) → AllByRecursion (NotAfter merge_order e) fs → AllByRecursion (ComesBefore e.turn) (turns fs)
    each [] k = tt
    each (f ∷ fs) k = (not_later e f k.0, each fs k.1)

-- ---- those of one place keep their order

-- none of these comes before the first, if it is of the same place
abbrev Leads : Entry → List Entry → Type 0
Leads e es = AllByRecursion (λ f. e.turn.place ≡ f.turn.place → is_lt (merge_order f e) ≡ false) es

abbrev KeepPlaces : List Entry → Type 0
KeepPlaces [] = Unit {0}
KeepPlaces (e ∷ es) = Leads e es × KeepPlaces es

module _ (p : ℕ) where
  put_leads : (e : Entry) (es : List Entry) → Leads e es → batches_in p (turns (put merge_order e es)) ≡ batches_in p (turns (e ∷ es))
  put_leads e [] h = refl
  put_leads e (f ∷ fs) h = go (is_lt (merge_order f e)) refl (p == e.turn.place) refl (p == f.turn.place) refl (put_leads e fs h.1)
    where
      go : (c : Bool) → is_lt (merge_order f e) ≡ c → (d : Bool) → (p == e.turn.place) ≡ d → (g : Bool) → (p == f.turn.place) ≡ g → batches_in p (turns (put merge_order e fs)) ≡ batches_in p (turns (e ∷ fs))
          → batches_in p (turns (put merge_order e (f ∷ fs))) ≡ batches_in p (turns (e ∷ f ∷ fs))
      go false q d r g t k = rw q refl
      go true q true r true t k =
          let one : e.turn.place ≡ f.turn.place = sym (same_of p e.turn.place r) ∙ same_of p f.turn.place t in
          let wrong : true ≡ false = sym q ∙ h.0 one in cc
      go true q true r false t k = rw (q, r, t) (let e : batches_in p (turns (put merge_order e fs)) ≡ e.turn.batch ∷ batches_in p (turns fs) = rw r at k in e)
      go true q false r true t k = rw (q, r, t) (let e : batches_in p (turns (put merge_order e fs)) ≡ batches_in p (turns fs) = rw r at k in ap (λ bs. f.turn.batch ∷ bs) e)
      go true q false r false t k = rw (q, r, t) (let e : batches_in p (turns (put merge_order e fs)) ≡ batches_in p (turns fs) = rw r at k in e)

  same_first : (t : Turn) (ts us : List Turn) → batches_in p ts ≡ batches_in p us → batches_in p (t ∷ ts) ≡ batches_in p (t ∷ us)
  same_first t ts us h = go (p == t.place) refl
    where
      go : (c : Bool) → (p == t.place) ≡ c → batches_in p (t ∷ ts) ≡ batches_in p (t ∷ us)
      go true q = rw q (ap (λ bs. t.batch ∷ bs) h)
      go false q = rw q h

  kept_parts : (es : List Entry) → KeepPlaces es → batches_in p (turns (in_order merge_order es)) ≡ batches_in p (turns es)
  kept_parts [] h = refl
  kept_parts (e ∷ es) h =
      put_leads e (in_order merge_order es) (all-in_order merge_order (λ f. e.turn.place ≡ f.turn.place → is_lt (merge_order f e) ≡ false) es h.0)
      ∙ same_first e.turn (turns (in_order merge_order es)) (turns es) (kept_parts es h.1)

-- ---- where stamps rise

numbered_keep : (place n : ℕ) (bs : List TakenBatch) → StampsRise bs → KeepPlaces (numbered place n bs)
numbered_keep place n [] h = tt
numbered_keep place n (b ∷ bs) h =
    let e : Entry = record { turn = record { place = place; batch = b }; number = n } in (
      all_map (λ f. b.stamp < f.turn.batch.stamp) (λ f. place ≡ f.turn.place → is_lt (merge_order f e) ≡ false) (λ f lt one. later_stamp e f lt) (numbered place (n + 1) bs)
          (numbered_all (λ c. b.stamp < c.stamp) place (n + 1) bs h.0),
      numbered_keep place (n + 1) bs h.1,
    )

-- those of a lower place and those of higher ones
keep_append : (place : ℕ) (es fs : List Entry) → AllByRecursion (λ e. e.turn.place ≡ place) es → AllByRecursion (λ f. place + 1 ≤ f.turn.place) fs → KeepPlaces es → KeepPlaces fs → KeepPlaces (es ++ fs)
keep_append place [] fs p q h k = k
keep_append place (e ∷ es) fs p q h k = (
  all_append (λ f. e.turn.place ≡ f.turn.place → is_lt (merge_order f e) ≡ false) es fs h.0
      (all_map (λ f. place + 1 ≤ f.turn.place) (λ f. e.turn.place ≡ f.turn.place → is_lt (merge_order f e) ≡ false) (λ f past one. let own : e.turn.place ≡ place = p.0 in absurd (omega arith)) fs q),
  keep_append place es fs p.1 q h.1 k,
)

entries_keep : (place : ℕ) (journals : List (List TakenBatch)) → AllByRecursion StampsRise journals → KeepPlaces (entries_from place journals)
entries_keep place [] h = tt
entries_keep place (journal ∷ journals) h =
    let next : place + 1 ≤ place + 1 = omega arith in
    keep_append place (numbered place 0 journal) (entries_from (place + 1) journals) (numbered_place place 0 journal) (entries_past (place + 1) (place + 1) journals next)
    (numbered_keep place 0 journal h.0) (entries_keep (place + 1) journals h.1)

pub is_merge : {S : Type 0} (start : ℕ → S) (kept : RunRecord) → HasRisingStamps kept → IsMerge (record_of start kept) (turns_of kept)
is_merge start kept rising = record {
  parts = λ p. kept_parts p (entries_from 0 kept.journals) (entries_keep 0 kept.journals rising) ∙ parts kept.journals p;
  order = in_order_turns (merged kept.journals) (rises-in_order merge_order merge_order_total (entries_from 0 kept.journals));
}

-- what a list of places and numbers names
pub are_its_merge : (kept : RunRecord) (list : List (ℕ × ℕ)) → list ≡ merge_of kept → HasRisingStamps kept → AreItsMerge kept (turns_at kept list)
are_its_merge kept list is rising =
    subst (λ ts. AreItsMerge kept ts) (sym (named_turns kept) ∙ ap (turns_at kept) (sym is)) (is_merge {S = Unit {0}} (λ place. tt {0}) kept rising)

-- ---- legal records

module _ {S : Type 0} (m : Machine S) (has : HasStamps m) where
  stamped_rises : (s : S) (bs : List TakenBatch) → AreStamped m s bs → AllByRecursion (λ b. m.stamp_of s < b.stamp) bs × StampsRise bs
  stamped_rises s [] h = (tt, tt)
  stamped_rises s (b ∷ bs) h =
      let next : S = (m.play s b.taken).0 in
      let later = stamped_rises (m.play s b.taken).0 bs h.1 in
      let due : b.stamp ≡ m.due s b.taken = h.0 in
      let now : m.stamp_of (m.play s b.taken).0 ≡ m.due s b.taken = has.after s b.taken in
      let rises : m.stamp_of s < m.due s b.taken = has.rises s b.taken in
      let first : m.stamp_of s < b.stamp = omega arith in (
        (
          first,
          all_map (λ c. m.stamp_of (m.play s b.taken).0 < c.stamp) (λ c. m.stamp_of s < c.stamp) (λ c lt. omega arith) bs later.0,
        ),
        (
          all_map (λ c. m.stamp_of (m.play s b.taken).0 < c.stamp) (λ c. b.stamp < c.stamp) (λ c lt. omega arith) bs later.0,
          later.1,
        ),
      )

  pub legal_rises : (ticks : ℕ) (start : ℕ → S) (kept : RunRecord) → IsLegal m ticks (record_of start kept) → HasRisingStamps kept
  legal_rises ticks start kept legal = each_at StampsRise kept.journals [] (λ p lt. (stamped_rises (start p) (journal_at kept.journals p) (legal.stamped p)).1)

  pub legal_merge : LegalIsMerged m
  legal_merge ticks start kept legal = is_merge start kept (legal_rises ticks start kept legal)

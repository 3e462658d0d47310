-- At first Start waits alone: so where all is at rest, place 0 took it first, in a batch of its own.
use Rattle.std.proofs.Common.{◌≡◌, ℕ, ◌==◌, ◌&&◌, Bool, true, false, List, [], ◌∷◌, ◌++◌, refl, sym, subst, ap, ◌∙◌}
use Rattle.std.specs.Prelude.{Contains}
use Rattle.std.specs.List.{AllByRecursion}
use Rattle.caf_index.proofs.ContainsLemmas.{contains-none, contains-here}
use Rattle.caf_message.specs.Envelope.{outside, start_envelope}
use Rattle.caf_message.specs.declared.envelope.Taken.{Taken}
use Rattle.caf_record.proofs.ListLemmas.{nil_left}
use Rattle.caf_carriers.proofs.CountLemmas.{same_number}
use Rattle.caf_actor.specs.Merge.{IsMerge, batches_in, steps_of}
use Rattle.caf_actor.specs.Record.{Kept, Machine, IsLegal, IsAtRest, IsPrefix, from_place, heard, joined, sent, taken_by, when}
use Rattle.caf_actor.specs.Run.{Step, Turn, Take, MayTake, IsRun, opening_state}
use Rattle.caf_actor.specs.declared.journal.TakenBatch.{TakenBatch}
use Rattle.caf_record.proofs.MergeLemmas.{merge_runs}
use Rattle.caf_record.proofs.StandsLemmas.{HasStamps}
use Rattle.caf_pipeline.proofs.ArrivalLemmas.{all_taken}
use Rattle.caf_pipeline.proofs.CutLemmas.{AreQuiet, all_quiet}
use Rattle.caf_pipeline.proofs.WindingLemmas.{all_senders}

own_senders : (a : ℕ) (es : List Taken) → AllByRecursion (λ e. (e.sender == a) ≡ true) (from_place a es)
own_senders a [] = tt
own_senders a (e ∷ es) = go (e.sender == a) refl (own_senders a es)
  where
    go : (b : Bool) → (e.sender == a) ≡ b → AllByRecursion (λ x. (x.sender == a) ≡ true) (from_place a es) → AllByRecursion (λ x. (x.sender == a) ≡ true) (from_place a (e ∷ es))
    go true q rest = rw q (q, rest)
    go false q rest = rw q rest

all_from : (a : ℕ) (es : List Taken) → AllByRecursion (λ e. (e.sender == a) ≡ true) es → from_place a es ≡ es
all_from a [] all = refl
all_from a (e ∷ es) all = rw all.0 (ap (λ xs. e ∷ xs) (all_from a es all.1))

module _ {S : Type 0} (m : Machine S) (places : ℕ) (start : ℕ → S) where
  pub record IsStart (t : Turn) : Type 0 where
    pub place : (0 == t.place) ≡ true
    pub taken : t.batch.taken ≡ start_envelope ∷ []

  pub first_turn : (t : Turn) → MayTake m (opening_state places start) t → IsStart t
  first_turn t may = go t.batch.taken refl
    where
      outsiders : (a : ℕ) (b : Bool) → (outside == a) ≡ b → AllByRecursion (λ x. (x.sender == outside) ≡ true) (from_place a t.batch.taken)
      outsiders a true q = subst (λ (x : ℕ). AllByRecursion (λ e. (e.sender == outside) ≡ true) (from_place x t.batch.taken)) (same_number outside a q) (own_senders outside t.batch.taken)
      outsiders a false q =
          let p : IsPrefix (from_place a t.batch.taken) [] = rw q at (may.next a) in
          subst (AllByRecursion (λ x. (x.sender == outside) ≡ true)) (sym (nil_left (from_place a t.batch.taken) p.0 (sym p.1))) tt

      all_outside : AllByRecursion (λ x. (x.sender == outside) ≡ true) t.batch.taken
      all_outside = all_senders (λ x. (x.sender == outside) ≡ true) t.batch.taken (λ a. outsiders a (outside == a) refl)

      ends : (e : Taken) (es rest : List Taken) (b : Bool) → (0 == t.place) ≡ b → t.batch.taken ≡ e ∷ es → (e ∷ es) ++ rest ≡ when ((outside == outside) && (0 == t.place)) (start_envelope ∷ []) → IsStart t
      ends e es rest true q at all =
          let both : ◌≡◌ {A = List Taken} (e ∷ (es ++ rest)) (start_envelope ∷ []) = rw q at all in
          let first : e ≡ start_envelope = cc in
          let others : es ++ rest ≡ [] = cc in
          record { place = q; taken = at ∙ ap (λ x. x ∷ es) first ∙ ap (λ xs. start_envelope ∷ xs) (nil_left es rest (sym others)) }
      ends e es rest false q at all = let bad : ◌≡◌ {A = List Taken} (e ∷ (es ++ rest)) [] = rw q at all in cc

      go : (es : List Taken) → t.batch.taken ≡ es → IsStart t
      go [] at = absurd (may.filled at)
      go (e ∷ es) at =
          let p = may.next outside in
          let same : from_place outside t.batch.taken ≡ e ∷ es = all_from outside t.batch.taken all_outside ∙ at in
          ends e es p.0 (0 == t.place) refl at (ap (λ xs. xs ++ p.0) (sym same) ∙ p.1)

  pub record BeginsWithStart (bs : List TakenBatch) : Type 0 where
    pub first : TakenBatch
    pub later : List TakenBatch
    pub whole : bs ≡ first ∷ later
    pub taken : first.taken ≡ start_envelope ∷ []

module _ {S : Type 0} (m : Machine S) (has : HasStamps m) (ticks : ℕ) (k : Kept S) (ts : List Turn) (legal : IsLegal m ticks k) (merge : IsMerge k ts) (rest : IsAtRest m k) (silent : heard (k.journal 0) ≡ []) where
  start_taken : Contains (taken_by k outside 0) start_envelope
  start_taken = subst (λ (es : List Taken). Contains es start_envelope) (all_taken m ticks k legal rest outside 0)
      (contains-here start_envelope (joined (heard (k.journal 0)) ++ sent m (k.start outside) (k.journal outside) 0))

  pub starts_first : BeginsWithStart m k.places k.start (k.journal 0)
  starts_first = go ts (all_quiet ts (ap heard (merge.parts 0) ∙ silent)) (merge_runs m has ticks k legal ts merge).0 (sym (merge.parts 0))
    where
      go : (us : List Turn) → AreQuiet us → IsRun m ticks (opening_state k.places k.start) (steps_of us) → k.journal 0 ≡ batches_in 0 us → BeginsWithStart m k.places k.start (k.journal 0)
      go [] quiet runs same = absurd (contains-none start_envelope (subst (λ (bs : List TakenBatch). Contains (from_place outside (joined bs)) start_envelope) same start_taken))
      go (t ∷ us) quiet runs same =
          let steps : steps_of (t ∷ us) ≡ Take t ∷ steps_of us = rw quiet.0 refl in
          let may : IsRun m ticks (opening_state k.places k.start) (Take t ∷ steps_of us) = subst (λ (st : List Step). IsRun m ticks (opening_state k.places k.start) st) steps runs in
          let first = first_turn m k.places k.start t may.0 in
          let now : batches_in 0 (t ∷ us) ≡ t.batch ∷ batches_in 0 us = rw first.place refl in
          record { first = t.batch; later = batches_in 0 us; whole = same ∙ now; taken = first.taken }

-- The record of the merge's steps is the record that was merged.
use Rattle.std.proofs.Common.{◌≡◌, ℕ, ◌==◌, ◌&&◌, Bool, true, false, Option, List, [], ◌∷◌, refl, ap, sym, ◌∙◌}
use Rattle.std.proofs.Math.Path.{fun_ext}
use Rattle.caf_actor.specs.declared.journal.TakenBatch.{TakenBatch}
use Rattle.caf_actor.specs.Record.{Machine, Kept, holds_notice, cut_in, IsLegal}
use Rattle.caf_actor.specs.Run.{Turn, batches_of, kept_of}
use Rattle.caf_actor.specs.Merge.{batches_in, IsMerge, steps_of}

-- the step before a notice takes no batch
same_batches : (p : ℕ) (ts : List Turn) → batches_of p (steps_of ts) ≡ batches_in p ts
same_batches p [] = refl
same_batches p (t ∷ ts) = go ((0 == t.place) && holds_notice t.batch) refl (p == t.place) refl (same_batches p ts)
  where
    go : (c : Bool) → ((0 == t.place) && holds_notice t.batch) ≡ c → (d : Bool) → (p == t.place) ≡ d → batches_of p (steps_of ts) ≡ batches_in p ts → batches_of p (steps_of (t ∷ ts)) ≡ batches_in p (t ∷ ts)
    go true q true r h = rw (q, r) (ap (λ bs. t.batch ∷ bs) h)
    go true q false r h = rw (q, r) h
    go false q true r h = rw (q, r) (ap (λ bs. t.batch ∷ bs) h)
    go false q false r h = rw (q, r) h

module _ {S : Type 0} (m : Machine S) (ticks : ℕ) (k : Kept S) (legal : IsLegal m ticks k) where
  pub same_record : (ts : List Turn) → IsMerge k ts → kept_of k.places k.start (steps_of ts) ≡ k
  same_record ts merge =
      let journals : ◌≡◌ {A = ℕ → List TakenBatch} (λ p. batches_of p (steps_of ts)) k.journal = fun_ext (λ p. same_batches p ts ∙ merge.parts p) in
      ap (λ (j : ℕ → List TakenBatch). record { places = k.places; start = k.start; journal = j; cut = cut_in (j 0) }) journals
      ∙ ap (λ (c : Option ℕ). record { places = k.places; start = k.start; journal = k.journal; cut = c }) (sym legal.cut)

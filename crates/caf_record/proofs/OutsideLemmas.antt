-- What the places take of the outside in a legal record.
use Rattle.std.proofs.Common.{◌≡◌, ℕ, ◌+◌, ◌≤◌, ◌==◌, false, List, [], ◌∷◌, ◌++◌, refl, ap, sym, ◌∙◌, subst, arith, ne_eqb}
use Rattle.std.proofs.lemmas.List.{append-nil}
use Rattle.caf_message.specs.declared.envelope.Taken.{Taken}
use Rattle.caf_message.specs.Envelope.{outside}
use Rattle.caf_actor.specs.declared.journal.TakenBatch.{TakenBatch}
use Rattle.caf_actor.specs.Record.{Machine, joined, sent, Kept, heard, told, taken_by, AreNotices, IsLegal}
use Rattle.caf_actor.specs.Merge.{AreInTurn, HearsInTurn}
use Rattle.caf_record.proofs.ListLemmas.{nil_left}

module _ {S : Type 0} (m : Machine S) (ticks : ℕ) (k : Kept S) where
  turn_joined : (n : ℕ) (bs : List TakenBatch) → AreNotices m ticks k n bs → AreInTurn ticks n (joined bs)
  turn_joined n [] h = tt
  turn_joined n (b ∷ bs) h = subst (λ es. AreInTurn ticks n (es ++ joined bs)) (sym h.0.alone) ((h.0.number, refl), turn_joined (n + 1) bs h.1)

  turn_prefix : (n : ℕ) (xs ys : List Taken) → AreInTurn ticks n (xs ++ ys) → AreInTurn ticks n xs
  turn_prefix n [] ys h = tt
  turn_prefix n (x ∷ xs) ys h = (h.0, turn_prefix (n + 1) xs ys h.1)

  module _ (legal : IsLegal m ticks k) where
    nothing_sent : (b : ℕ) → sent m (k.start outside) (k.journal outside) b ≡ []
    nothing_sent b = ap (λ bs. sent m (k.start outside) bs b) (legal.inside outside legal.places)

    pub hears : HearsInTurn ticks k
    hears = record {
      first =
          let p = legal.pairs outside 0 in
          let e : taken_by k outside 0 ++ p.0 ≡ told (k.journal 0) = p.1 ∙ ap (λ es. told (k.journal 0) ++ es) (nothing_sent 0) ∙ append-nil (told (k.journal 0)) in
          let start : 0 ≤ ticks + 1 = omega arith in
          turn_prefix 0 (taken_by k outside 0) p.0 (subst (λ es. AreInTurn ticks 0 es) (sym e) ((start, refl), turn_joined 1 (heard (k.journal 0)) legal.notices));
      others = λ b other.
          let p = legal.pairs outside b in
          let no : (0 == b) ≡ false = ne_eqb 0 b other in
          let e : taken_by k outside b ++ p.0 ≡ sent m (k.start outside) (k.journal outside) b = rw no at p.1 in
          nil_left (taken_by k outside b) p.0 (sym (e ∙ nothing_sent b));
    }

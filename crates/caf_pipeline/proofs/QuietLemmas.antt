-- Where no tick was to come and Stop wasn't taken, place 0 took nothing of the outside but Start.
use Rattle.std.proofs.Common.{◌≡◌, ℕ, suc, Bool, true, false, List, [], ◌∷◌, Option, Some, None, refl, sym, ap, ◌∙◌}
use Rattle.std.specs.List.{AllByRecursion}
use Rattle.caf_mailbox.proofs.NextLemmas.{all_filter}
use Rattle.caf_message.specs.Outside.{holds_stop}
use Rattle.caf_actor.specs.Record.{Machine, Kept, IsLegal, AreNotices, heard, holds_notice, cut_in}
use Rattle.caf_actor.specs.declared.journal.TakenBatch.{TakenBatch}

no_stops : (bs : List TakenBatch) → cut_in bs ≡ None → AllByRecursion (λ (b : TakenBatch). holds_stop b.taken ≡ false) bs
no_stops [] none = tt
no_stops (b ∷ bs) none = go (holds_stop b.taken) refl (cut_in bs) refl (no_stops bs)
  where
    go : (c : Bool) → holds_stop b.taken ≡ c → (r : Option ℕ) → cut_in bs ≡ r → (cut_in bs ≡ None → AllByRecursion (λ (x : TakenBatch). holds_stop x.taken ≡ false) bs)
        → AllByRecursion (λ (x : TakenBatch). holds_stop x.taken ≡ false) (b ∷ bs)
    go true q r e later = let bad : ◌≡◌ {A = Option ℕ} (Some 0) None = rw q at none in absurd cc
    go false q None e later = (q, later e)
    go false q (Some n) e later = let bad : ◌≡◌ {A = Option ℕ} (Some (suc n)) None = rw (q, e) at none in absurd cc

module _ {S : Type 0} (m : Machine S) (k : Kept S) where
  -- the first notice that is heard would be Stop
  none_heard : (bs : List TakenBatch) → AreNotices m 0 k 1 bs → AllByRecursion (λ (b : TakenBatch). holds_stop b.taken ≡ false) bs → bs ≡ []
  none_heard [] notices quiet = refl
  none_heard (b ∷ bs) notices quiet =
      let stops : holds_stop b.taken ≡ true = ap holds_stop notices.0.alone in
      let bad : true ≡ false = sym stops ∙ quiet.0 in
      absurd cc

  pub is_quiet : IsLegal m 0 k → k.cut ≡ None → heard (k.journal 0) ≡ []
  is_quiet legal none =
      none_heard (heard (k.journal 0)) legal.notices
      (all_filter holds_notice (λ (b : TakenBatch). holds_stop b.taken ≡ false) (k.journal 0) (no_stops (k.journal 0) (sym legal.cut ∙ none)))

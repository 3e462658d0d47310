-- Until Stop, nothing depends on how many ticks there will be.
use Rattle.std.proofs.Common.{◌≡◌, ℕ, suc, ◌+◌, ◌<◌, ◌≤◌, ◌==◌, ◌&&◌, Bool, true, false, List, [], ◌∷◌, ◌++◌, Option, Some, None, refl, ap, sym, ◌∙◌, subst, arith, inl, inr}
use Rattle.std.specs.List.{AllByRecursion}
use Rattle.std.proofs.lemmas.Bool.{cases_lt}
use Rattle.std.proofs.lemmas.Bool.Decides.{nat_tests}
use Rattle.caf_types.specs.declared.notice.Notice.{Notice}
use Rattle.caf_message.specs.Envelope.{outside, from_outside}
use Rattle.caf_actor.specs.declared.journal.TakenBatch.{TakenBatch}
use Rattle.caf_actor.specs.Record.{Machine, Kept, latest, when, holds_notice, heard, latest_before, IsNotice, AreNotices, IsLegal, cut_in}
use Rattle.caf_message.specs.Outside.{notice_at, outside_envelope, holds_stop}
use Rattle.caf_actor.specs.Run.{State, Step, Take, Speak, send_notice, take_batch, IsRun, run}
use Rattle.caf_mailbox.proofs.NextLemmas.{all_filter}

not_next : (n ticks : ℕ) → n ≤ ticks → (n == ticks + 1) ≡ false
not_next n ticks le = grind (arith, nat_tests)

not_zero : (n : ℕ) → 0 < n → (n == 0) ≡ false
not_zero n lt = grind (arith, nat_tests)

same_notice : (ticks more n : ℕ) → ticks ≤ more → n ≤ ticks → notice_at ticks n ≡ notice_at more n
same_notice ticks more n le here =
    let far : n ≤ more = omega arith in
    rw (not_next n ticks here, not_next n more far) refl

-- ---- records

no_stops : (bs : List TakenBatch) → cut_in bs ≡ None → AllByRecursion (λ b. holds_stop b.taken ≡ false) bs
no_stops [] h = tt
no_stops (b ∷ bs) h = go (holds_stop b.taken) refl (cut_in bs) refl (no_stops bs)
  where
    go : (c : Bool) → holds_stop b.taken ≡ c → (r : Option ℕ) → cut_in bs ≡ r → (cut_in bs ≡ None → AllByRecursion (λ b. holds_stop b.taken ≡ false) bs) → AllByRecursion (λ b. holds_stop b.taken ≡ false) (b ∷ bs)
    go true q r e on = let wrong : ◌≡◌ {A = Option ℕ} (Some 0) None = rw q at h in cc
    go false q None e on = (q, on e)
    go false q (Some n) e on = let wrong : ◌≡◌ {A = Option ℕ} (Some (suc n)) None = rw (q, e) at h in cc

module _ {S : Type 0} (m : Machine S) (ticks more : ℕ) (le : ticks ≤ more) where
  -- the last notice is Stop
  last_stops : (k : Kept S) (n : ℕ) (b : TakenBatch) → 0 < n → IsNotice m ticks k n b → holds_stop b.taken ≡ false → n ≤ ticks
  last_stops k n b some is unlike = elim (cases_lt n (ticks + 1)) [ inl lt ↦ omega arith | inr ge ↦ wrong ge ]
    where
      wrong : ticks + 1 ≤ n → n ≤ ticks
      wrong ge =
          let most : n ≤ ticks + 1 = is.number in
          let last : n ≡ ticks + 1 = omega arith in
          let same : (n == ticks + 1) ≡ true = grind (arith, nat_tests) in
          let stops : holds_stop (outside_envelope ticks n (latest_before m k b.stamp) ∷ []) ≡ true = rw (not_zero n some, same) refl in
          let clash : true ≡ false = sym stops ∙ ap holds_stop (sym is.alone) ∙ unlike in cc

  notices_on : (k : Kept S) (n : ℕ) (bs : List TakenBatch) → 0 < n → AllByRecursion (λ b. holds_stop b.taken ≡ false) bs → AreNotices m ticks k n bs → AreNotices m more k n bs
  notices_on k n [] some unlike h = tt
  notices_on k n (b ∷ bs) some unlike h =
      let here : n ≤ ticks = last_stops k n b some h.0 unlike.0 in
      let next : 0 < n + 1 = omega arith in
      let same = same_notice ticks more n le here in (
        record {
          number = omega arith;
          alone = h.0.alone ∙ ap (λ (what : Notice). from_outside n (latest_before m k b.stamp) what ∷ []) same;
          rest = h.0.rest;
        },
        notices_on k (n + 1) bs next unlike.1 h.1,
      )

  pub record_on : (k : Kept S) → k.cut ≡ None → IsLegal m ticks k → IsLegal m more k
  record_on k none legal =
      let some : 0 < 1 = omega arith in
      record {
        places = legal.places;
        inside = legal.inside;
        filled = legal.filled;
        stamped = legal.stamped;
        pairs = legal.pairs;
        notices = notices_on k 1 (heard (k.journal 0)) some
            (all_filter holds_notice (λ b. holds_stop b.taken ≡ false) (k.journal 0) (no_stops (k.journal 0) (sym legal.cut ∙ none))) legal.notices;
        cut = legal.cut;
      }

  -- ---- runs

  grows : (s : State S) (steps : List Step) → s.spoken ≤ (run m ticks s steps).spoken
  grows s [] = omega arith
  grows s (Take t ∷ steps) = grows (take_batch m s t) steps
  grows s (Speak ∷ steps) = let h = grows (send_notice m ticks s) steps in omega arith

  same_send : (s : State S) → s.spoken ≤ ticks → send_notice m ticks s ≡ send_notice m more s
  same_send s here =
      ap (λ (what : Notice). record s {
        waiting = λ a b. s.waiting a b ++ when ((outside == a) && (0 == b)) (from_outside s.spoken (latest m s.places s.snapshot) what ∷ []);
        spoken = s.spoken + 1;
      }) (same_notice ticks more s.spoken le here)

  pub run_on : (s : State S) (steps : List Step) → IsRun m ticks s steps → (run m ticks s steps).spoken ≤ ticks + 1 → IsRun m more s steps × (run m more s steps ≡ run m ticks s steps)
  run_on s [] h low = (tt, refl)
  run_on s (Take t ∷ steps) h low = let later = run_on (take_batch m s t) steps h.1 low in ((h.0, later.0), later.1)
  run_on s (Speak ∷ steps) h low =
      let later = run_on (send_notice m ticks s) steps h.1 low in
      let grown = grows (send_notice m ticks s) steps in
      let here : s.spoken ≤ ticks = omega arith in
      let same = same_send s here in (
        (record { number = omega arith; rest = h.0.rest }, subst (λ u. IsRun m more u steps) same later.0),
        ap (λ u. run m more u steps) (sym same) ∙ later.1,
      )

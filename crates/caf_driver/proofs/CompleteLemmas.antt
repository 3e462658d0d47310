-- A record at rest whose Stop was taken is complete.
use Rattle.std.proofs.Common.{◌≡◌, ℕ, suc, ◌+◌, ◌-◌, ◌<◌, ◌≤◌, ◌==◌, ◌||◌, Bool, true, false, List, [], ◌∷◌, length, filter, refl, ap, ◌∙◌, arith, is_some, Option, None, Some}
use Rattle.std.specs.List.{list_any}
use Rattle.std.specs.Option.{option_map}
use Rattle.std.proofs.lemmas.Bool.Decides.{nat_tests}
use Rattle.caf_types.specs.declared.notice.Notice.TheVariants as notice
use Rattle.caf_message.specs.Outside.{notice_at, outside_envelope, holds_stop}
use Rattle.caf_actor.specs.declared.journal.TakenBatch.{TakenBatch}
use Rattle.caf_actor.specs.declared.snapshot.Snapshot.{Snapshot}
use Rattle.caf_actor.specs.Rules.{Rules}
use Rattle.caf_actor.specs.Record.{Machine, Kept, machine_of, holds_notice, heard, cut_in, AreNotices, IsAtRest, IsComplete, latest_before}
use Rattle.caf_record.specs.RunRecord.{journal_at}
use Rattle.caf_driver.specs.Driver.{DriverState, journals_of, record_in, ticks_in, IsAllHeard, HasLegalRecord}

stop_at : (ticks n : ℕ) → n ≡ ticks + 1 → notice_at ticks n ≡ notice.Stop
stop_at ticks n is =
    let later : (n == 0) ≡ false = grind (arith, nat_tests) in
    let last : (n == ticks + 1) ≡ true = grind (arith, nat_tests) in
    rw (later, last) refl

-- the notice of that number, alone in its batch, is Stop
holds_last : (ticks n stamp : ℕ) → n ≡ ticks + 1 → holds_stop (outside_envelope ticks n stamp ∷ []) ≡ true
holds_last ticks n stamp is = rw (stop_at ticks n is) refl

-- of the notices up to the last one, one is Stop
pub last_is_stop : {S : Type 0} (m : Machine S) (ticks : ℕ) (k : Kept S) (n : ℕ) (bs : List TakenBatch) → AreNotices m ticks k n bs → n + length bs ≡ ticks + 2 → n ≤ ticks + 1 → list_any (λ b. holds_stop b.taken) bs ≡ true
last_is_stop m ticks k n [] are count low = absurd (omega arith)
last_is_stop m ticks k n (b ∷ []) are count low =
    let last : n ≡ ticks + 1 = omega arith in
    let it : holds_stop b.taken ≡ true = ap holds_stop are.0.alone ∙ holds_last ticks n (latest_before m k b.stamp) last in
    rw it refl
last_is_stop m ticks k n (b ∷ c ∷ bs) are count low =
    let later : list_any (λ (x : TakenBatch). holds_stop x.taken) (c ∷ bs) ≡ true = last_is_stop m ticks k (n + 1) (c ∷ bs) are.1 (omega arith) (omega arith) in
    ap (λ q. holds_stop b.taken || q) later ∙ or_true (holds_stop b.taken)
  where
    or_true : (q : Bool) → (q || true) ≡ true
    or_true true = refl
    or_true false = refl

-- what holds of one that is left holds of one
any_of_left : (p q : TakenBatch → Bool) (bs : List TakenBatch) → list_any p (filter q bs) ≡ true → list_any p bs ≡ true
any_of_left p q [] h = h
any_of_left p q (b ∷ bs) h = go (q b) refl (p b) refl (any_of_left p q bs)
  where
    go : (c : Bool) → q b ≡ c → (d : Bool) → p b ≡ d → (list_any p (filter q bs) ≡ true → list_any p bs ≡ true) → (p b || list_any p bs) ≡ true
    go c e true f on = rw f refl
    go true e false f on = rw f (on (let left : list_any p (b ∷ filter q bs) ≡ true = rw e at h in (rw f at left)))
    go false e false f on = rw f (on (rw e at h))

has_cut : (bs : List TakenBatch) → list_any (λ b. holds_stop b.taken) bs ≡ true → is_some (cut_in bs) ≡ true
has_cut [] q = cc
has_cut (b ∷ bs) q = go (holds_stop b.taken) refl q (has_cut bs)
  where
    go : (c : Bool) → holds_stop b.taken ≡ c → (c || list_any (λ (x : TakenBatch). holds_stop x.taken) bs) ≡ true → (list_any (λ (x : TakenBatch). holds_stop x.taken) bs ≡ true → is_some (cut_in bs) ≡ true) → is_some (cut_in (b ∷ bs)) ≡ true
    go true e r on = rw e refl
    go false e r on = rw e (some (cut_in bs) (on r))
      where
        some : (o : Option ℕ) → is_some o ≡ true → is_some (option_map (λ n. suc n) o) ≡ true
        some None h = h
        some (Some n) h = refl

module _ {S : Type 0} (rules : Rules S) (start : ℕ → Snapshot S) (d : DriverState S) where
  pub complete_driven : HasLegalRecord rules start d → IsAtRest (machine_of rules) (record_in start d) → IsAllHeard d → d.has_stopped ≡ true → 1 < d.spoken → IsComplete (machine_of rules) (ticks_in d) (record_in start d)
  complete_driven h rest all stopped said = record {
    legal = h.legal;
    cut = has_cut (journal_at (journals_of d) 0)
        (any_of_left (λ b. holds_stop b.taken) holds_notice (journal_at (journals_of d) 0)
        (last_is_stop (machine_of rules) (ticks_in d) (record_in start d) 1 (heard (journal_at (journals_of d) 0)) h.legal.notices count low));
    rest = rest;
  }
    where
      ticks_are : ticks_in d ≡ d.spoken - 2
      ticks_are = rw stopped refl

      count : 1 + length (heard (journal_at (journals_of d) 0)) ≡ ticks_in d + 2
      count = let is = ticks_are in let told = all in omega arith

      low : 1 ≤ ticks_in d + 1
      low = omega arith

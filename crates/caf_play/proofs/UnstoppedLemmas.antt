-- While Stop wasn't played, no place took it.
use Rattle.std.proofs.Common.{◌≡◌, ℕ, suc, ◌+◌, ◌-◌, ◌<◌, ◌≤◌, ◌==◌, ◌||◌, Bool, true, false, List, [], ◌∷◌, ◌++◌, length, Option, None, refl, sym, ap, subst, ◌∙◌, arith}
use Rattle.std.specs.Prelude.{if◌then◌else◌, max}
use Rattle.std.specs.List.{list_any}
use Rattle.std.specs.Option.{option_map}
use Rattle.std.proofs.lemmas.Bool.Decides.{nat_tests}
use Rattle.caf_types.specs.declared.notice.Notice.TheVariants as notice
use Rattle.caf_message.specs.Envelope.{outside}
use Rattle.caf_message.specs.Outside.{tick, is_stop, is_stop_body, holds_stop, outside_envelope}
use Rattle.caf_message.specs.declared.envelope.Plain.TheVariants as «plain»
use Rattle.caf_message.specs.declared.envelope.Taken.{Taken}
use Rattle.caf_actor.specs.declared.journal.TakenBatch.{TakenBatch}
use Rattle.caf_actor.specs.declared.snapshot.Snapshot.{Snapshot}
use Rattle.caf_actor.specs.Merge.{AreInTurn}
use Rattle.caf_actor.specs.Record.{from_place, joined, cut_in, IsLegal}
use Rattle.caf_actor.specs.Run.{opening_state, run, kept_of, batches_of}
use Rattle.caf_driver.specs.Driver.{DriverState, journals_of, record_in, ticks_in, IsDriven, HasLegalRecord}
use Rattle.caf_kinds.specs.Kinds.{kind_rules}
use Rattle.caf_kinds.specs.declared.kind.Kind.{Kind}
use Rattle.caf_record.proofs.MoreTicksLemmas.{run_on}
use Rattle.caf_record.proofs.OutsideLemmas.{hears}
use Rattle.caf_record.proofs.RunLemmas.{run_legal}
use Rattle.caf_record.proofs.StampedLemmas.{has_stamps}
use Rattle.caf_play.specs.Ending.{machine}

-- ---- what the outside says before Stop

other_body : (b c : Bool) → c ≡ false → is_stop_body («plain».System (if b then notice.Start else if c then notice.Stop else tick)) ≡ false
other_body true c e = refl
other_body false true e = absurd cc
other_body false false e = refl

no_stop_at : (ticks n stamp : ℕ) → n ≤ ticks → is_stop (outside_envelope ticks n stamp) ≡ false
no_stop_at ticks n stamp low =
    let other : (n == ticks + 1) ≡ false = grind (arith, nat_tests) in
    other_body (n == 0) (n == ticks + 1) other

both_false : (a b : Bool) → a ≡ false → b ≡ false → (a || b) ≡ false
both_false a b p q = rw (p, q) refl

-- what is in turn for so many ticks, and for one more, has no Stop
none_stops : (ticks n : ℕ) (es : List Taken) → AreInTurn ticks n es → AreInTurn (ticks + 1) n es → list_any is_stop es ≡ false
none_stops ticks n [] one two = refl
none_stops ticks n (e ∷ es) one two =
    let low = one.0.0 in
    both_false (is_stop e) (list_any is_stop es) (ap is_stop two.0.1 ∙ no_stop_at (ticks + 1) n e.stamp low) (none_stops ticks (n + 1) es one.1 two.1)

-- ---- then no batch holds it

either_false : (a b : Bool) → (a || b) ≡ false → (a ≡ false) × (b ≡ false)
either_false true b h = absurd cc
either_false false b h = (refl, h)

abbrev Splits : List Taken → List Taken → Type 0
Splits xs ys = list_any is_stop (from_place outside (xs ++ ys)) ≡ false → (holds_stop xs ≡ false) × (list_any is_stop (from_place outside ys) ≡ false)

splits : (xs ys : List Taken) → Splits xs ys
splits [] ys h = (refl, h)
splits (e ∷ xs) ys h = go (splits xs ys) (e.sender == outside) refl
  where
    go : Splits xs ys → (b : Bool) → (e.sender == outside) ≡ b → (holds_stop (e ∷ xs) ≡ false) × (list_any is_stop (from_place outside ys) ≡ false)
    go others true q =
        let all : (is_stop e || list_any is_stop (from_place outside (xs ++ ys))) ≡ false = rw q at h in
        let two = either_false (is_stop e) (list_any is_stop (from_place outside (xs ++ ys))) all in
        let rest = others two.1 in
        (both_false (is_stop e) (list_any is_stop xs) two.0 rest.0, rest.1)
    go others false q =
        let all : list_any is_stop (from_place outside (xs ++ ys)) ≡ false = rw q at h in
        let here : is_stop e ≡ false = rw q refl in
        let rest = others all in
        (both_false (is_stop e) (list_any is_stop xs) here rest.0, rest.1)

uncut : (bs : List TakenBatch) → list_any is_stop (from_place outside (joined bs)) ≡ false → cut_in bs ≡ None
uncut [] h = refl
uncut (b ∷ bs) h =
    let two = splits b.taken (joined bs) h in
    rw two.0 (ap (λ (o : Option ℕ). option_map (λ n. suc n) o) (uncut bs two.1))

-- ---- the driver's record

module _ (start : ℕ → Snapshot Kind) (d : DriverState Kind) (driven : IsDriven kind_rules start d) (legal : HasLegalRecord kind_rules start d) (unstopped : d.has_stopped ≡ false) (some : 0 < d.spoken) where
  abbrev ticks : ℕ
  ticks = ticks_in d

  next : ticks + 1 ≡ d.spoken
  next = (let now : ticks_in d ≡ d.spoken - 1 = ap (λ (b : Bool). if b then d.spoken - 2 else d.spoken - 1) unstopped in omega (arith, now, some))

  abbrev places : ℕ
  places = length (journals_of d)

  low : (run machine ticks (opening_state places start) driven.steps).spoken ≤ ticks + 1
  low = (let said = driven.stands.spoken in let more = next in omega (arith, said, more, some))

  small : places ≤ outside
  small = legal.legal.places

  legal_for : IsLegal machine ticks (kept_of places start driven.steps)
  legal_for = (run_legal machine (has_stamps kind_rules) ticks places start small driven.steps driven.possible).0

  legal_on : IsLegal machine (ticks + 1) (kept_of places start driven.steps)
  legal_on = (run_legal machine (has_stamps kind_rules) (ticks + 1) places start small driven.steps
      (run_on machine ticks (ticks + 1) (omega arith) (opening_state places start) driven.steps driven.possible low).0).0

  pub none_cut : (record_in start d).cut ≡ None
  none_cut =
      let one = hears machine ticks (kept_of places start driven.steps) legal_for in
      let two = hears machine (ticks + 1) (kept_of places start driven.steps) legal_on in
      ap cut_in (sym (driven.journals 0)) ∙ uncut (batches_of 0 driven.steps) (none_stops ticks 0 _ one.first two.first)

-- How a play ends, by how its driver stands.
use Rattle.std.proofs.Common.{◌≡◌, ℕ, ◌+◌, ◌-◌, ◌<◌, ◌≤◌, inl, inr, Bool, true, false, cond, sym, ap, subst, ◌∙◌, arith}
use Rattle.caf_actor.specs.declared.snapshot.Snapshot.{Snapshot}
use Rattle.caf_actor.specs.Record.{IsComplete}
use Rattle.caf_driver.specs.declared.drive.DriveEnd.{DriveEnd}
use Rattle.caf_driver.specs.declared.drive.DriveEnd.TheVariants as drives
use Rattle.caf_driver.specs.Driver.{DriverState, record_in, ticks_in, HasLegalRecord}
use Rattle.caf_driver.specs.Ends.{EndsSo}
use Rattle.caf_kinds.specs.Kinds.{kind_rules}
use Rattle.caf_kinds.specs.declared.kind.Kind.{Kind}
use Rattle.caf_play.specs.Ending.{machine, waiting_at, IsEarlyEnd, HasDriven, HasEnded}
use Rattle.caf_play.specs.declared.played.PlayEnd.{PlayEnd}
use Rattle.caf_play.specs.declared.played.PlayEnd.TheVariants as play
use Rattle.caf_play.proofs.DriveLemmas.{waiting_same, spent_shown, shown_spent}
use Rattle.caf_play.proofs.UnstoppedLemmas.{none_cut}

-- ---- how many ticks were played

going : (d : DriverState Kind) → d.has_stopped ≡ false → ticks_in d ≡ d.spoken - 1
going d unstopped = ap (λ (b : Bool). cond b (d.spoken - 2) (d.spoken - 1)) unstopped

stopped : (d : DriverState Kind) → d.has_stopped ≡ true → ticks_in d ≡ d.spoken - 2
stopped d by_now = ap (λ (b : Bool). cond b (d.spoken - 2) (d.spoken - 1)) by_now

-- ---- before Stop

module _ (start : ℕ → Snapshot Kind) (all budget sent : ℕ) (some : 0 < sent) (few : sent ≤ all + 1) (d : DriverState Kind) where
  over : HasDriven budget sent start d drives.Budget → HasEnded all budget start d play.Budget
  over h =
      let at = h.spoken in
      let more : 0 < d.spoken = omega (arith, at, some) in
      let ticks = going d h.unstopped in
      let next : ticks_in d + 1 ≡ d.spoken = omega (arith, ticks, more) in
      record {
        legal = h.legal;
        some = more;
        so = record {
          ticks = ticks_in d;
          few = omega (arith, ticks, at, few);
          legal = h.legal.legal;
          unstopped = none_cut start d h.driven h.legal h.unstopped more;
          waits = (
            h.so.0.0,
            h.so.0.1,
            λ none. h.so.0.2 (waiting_same start d h.legal more h.so.0.0 h.so.0.1
                ∙ ap (λ (n : ℕ). waiting_at (ticks_in d) n (record_in start d) h.so.0.0 h.so.0.1) (sym next) ∙ none),
          );
          spent = h.so.1;
        };
      }

  used_up : (p : ℕ) → HasDriven budget sent start d (drives.Exhausted p) → HasEnded all budget start d (play.Exhausted p)
  used_up p h =
      let at = h.spoken in
      let more : 0 < d.spoken = omega (arith, at, some) in
      let ticks = going d h.unstopped in
      record {
        legal = h.legal;
        some = more;
        so = record {
          ticks = ticks_in d;
          few = omega (arith, ticks, at, few);
          legal = h.legal.legal;
          sent = d.spoken;
          notices = inl (omega (arith, ticks, more));
          spent = spent_shown start d h.legal more p h.so.0.spent;
          first = λ q less spent. h.so.0.first q less (shown_spent start d h.legal more q spent);
          early = h.so.1;
        };
      }

  pub ended_early : (e : DriveEnd) (end : PlayEnd) → HasDriven budget sent start d e → IsEarlyEnd e end → HasEnded all budget start d end
  ended_early drives.Rest end h is = absurd is
  ended_early drives.Budget end h is = subst (HasEnded all budget start d) (sym is) (over h)
  ended_early (drives.Exhausted p) end h is = subst (HasEnded all budget start d) (sym is) (used_up p h)

-- ---- behind Stop

module _ (start : ℕ → Snapshot Kind) (all budget limit : ℕ) (d : DriverState Kind) (legal : HasLegalRecord kind_rules start d) (at : d.spoken ≡ all + 2) (by_now : d.has_stopped ≡ true) where
  pub ended_done : IsComplete machine (ticks_in d) (record_in start d) → EndsSo kind_rules start limit d drives.Rest → HasEnded all budget start d play.Done
  ended_done complete so =
      let ticks = stopped d by_now in
      let same : ticks_in d ≡ all = omega (arith, ticks, at) in
      let heard_all = so.1 in
      record {
        legal = legal;
        some = omega (arith, at);
        so = record {
          complete = subst (λ (n : ℕ). IsComplete machine n (record_in start d)) same complete;
          heard = omega (arith, heard_all, at);
        };
      }

  pub ended_used_up : (p : ℕ) → EndsSo kind_rules start limit d (drives.Exhausted p) → HasEnded all budget start d (play.Exhausted p)
  ended_used_up p so =
      let ticks = stopped d by_now in
      let more : 0 < d.spoken = omega (arith, at) in
      let same : ticks_in d ≡ all = omega (arith, ticks, at) in
      record {
        legal = legal;
        some = more;
        so = record {
          ticks = ticks_in d;
          few = omega (arith, same);
          legal = legal.legal;
          sent = d.spoken;
          notices = inr (same, at);
          spent = spent_shown start d legal more p so.0.spent;
          first = λ q less spent. so.0.first q less (shown_spent start d legal more q spent);
          early = λ one. absurd (omega (arith, one, at));
        };
      }

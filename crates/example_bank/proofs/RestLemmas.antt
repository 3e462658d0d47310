-- Where a drive ended at rest, nothing waits, so Stop may be played.
use Rattle.std.proofs.Common.{◌≡◌, ℕ, ◌+◌, ◌<◌, ◌==◌, ◌&&◌, Bool, true, false, if◌then◌else◌, List, [], ◌∷◌, ◌++◌, length, map, refl, sym, ap, ◌∙◌, arith, inr}
use Rattle.std.specs.Prelude.{nat_lt, slice_index_or}
use Rattle.caf_types.specs.declared.notice.Notice.TheVariants as notice
use Rattle.caf_message.specs.declared.envelope.Taken.{Taken}
use Rattle.caf_message.specs.Envelope.{outside}
use Rattle.caf_actor.specs.declared.snapshot.Snapshot.{Snapshot}
use Rattle.caf_actor.specs.Actor.{ActorState}
use Rattle.caf_actor.specs.Record.{heard, when}
use Rattle.caf_actor.specs.Rules.{Rules}
use Rattle.caf_record.specs.RunRecord.{journal_at}
use Rattle.caf_driver.specs.declared.drive.DriveEnd.TheVariants as ends
use Rattle.caf_driver.specs.Driver.{DriverState, journals_of, unsaid, unheard, HasLegalRecord}
use Rattle.caf_driver.specs.Ends.{EndsSo}
use Rattle.caf_driver.specs.Opening.{StartsAt, MayPlay}
use Rattle.caf_driver.proofs.ListLemmas.{field_at}

-- actors start where they stand
pub starts_of : {S : Type 0} (actors : List (ActorState S)) → length actors ≡ 3 → (start : ℕ → Snapshot S) × StartsAt start actors
starts_of [] three = absurd (omega (arith, three))
starts_of {S} (a ∷ others) three = ((λ p. slice_index_or (map (λ (x : ActorState S). x.snapshot) (a ∷ others)) p a.snapshot), λ p x q. sym (field_at (λ (y : ActorState S). y.snapshot) (a ∷ others) p x a.snapshot q))

none_behind : {A : Type 0} (xs ys : List A) → xs ++ ys ≡ [] → ys ≡ []
none_behind [] ys q = q
none_behind (x ∷ xs) ys q = cc

when_none : (b : Bool) → when b [] ≡ []
when_none true = refl
when_none false = refl

not_less : (n : ℕ) → nat_lt n n ≡ false
not_less n = grind (arith)

pick_none : (b : Bool) (xs : List Taken) → b ≡ false → (if b then xs else []) ≡ []
pick_none true xs h = absurd cc
pick_none false xs h = refl

module _ {S : Type 0} (rules : Rules S) (start : ℕ → Snapshot S) (budget : ℕ) (d : DriverState S) where
  none_waits : HasLegalRecord rules start d → EndsSo rules start budget d ends.Rest → (a b : ℕ) → d.waiting a b ≡ []
  none_waits legal so a b =
      none_behind (unsaid d a b) (d.waiting a b)
      (legal.waiting a b ∙ ap (λ (es : List Taken). es ++ when ((outside == a) && (0 == b)) (unheard rules start d)) (so.0.taken a b)
      ∙ ap (λ (es : List Taken). when ((outside == a) && (0 == b)) es)
      (pick_none (nat_lt (length (heard (journal_at (journals_of d) 0)) + 1) d.spoken) _ (ap (λ n. nat_lt n d.spoken) so.1 ∙ not_less d.spoken))
      ∙ when_none ((outside == a) && (0 == b)))

  pub may_stop : HasLegalRecord rules start d → EndsSo rules start budget d ends.Rest → 0 < d.spoken → d.has_stopped ≡ false → MayPlay d notice.Stop
  may_stop legal so said going = inr (inr refl, (said, (going, none_waits legal so)))

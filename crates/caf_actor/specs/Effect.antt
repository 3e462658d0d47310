-- Whether an envelope may have changed which cached envelopes are eligible.
use Rattle.std.specs.Prelude.{◌≡◌}
use Rattle.caf_mailbox.specs.Passed.{nothing_passed}
use Rattle.caf_mailbox.specs.declared.passed.Passed.{Passed}
use Rattle.caf_actor.specs.declared.handling.Effect.{Effect}
use Rattle.caf_actor.specs.declared.handling.Effect.TheVariants.{Same, Changed}
use Rattle.caf_actor.specs.declared.snapshot.Snapshot.{Snapshot}

-- the same envelopes are cached, and of each is told the same
pub record IsSameTurn {S : Type 0} (old new : Snapshot S) : Type 0 where
  pub behavior : new.behavior ≡ old.behavior
  pub has_begun : new.has_begun ≡ old.has_begun
  pub quit : new.quit ≡ old.quit
  pub pending : new.pending ≡ old.pending
  pub caches : new.caches ≡ old.caches

abbrev pub KeepsTurn : {S : Type 0} → Effect → Snapshot S → Snapshot S → Type 0
KeepsTurn Same old new = IsSameTurn old new
KeepsTurn Changed old new = Unit {0}

-- what is known of the contents holds on, or nothing is
abbrev pub passed_after : Effect → Passed → Passed
passed_after Same passed = passed
passed_after Changed passed = nothing_passed

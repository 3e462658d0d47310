-- How far the contents are known not to be eligible.
use Rattle.std.specs.Prelude.{◌≡◌, ℕ, ◌<◌, Bool, false, List, Some, slice_get, filter}
use Rattle.caf_message.specs.declared.envelope.Taken.{Taken}
use Rattle.caf_message.specs.Envelope.{is_content}
use Rattle.caf_mailbox.specs.Caches.{CachedLists}
use Rattle.caf_mailbox.specs.declared.passed.Passed.{Passed}

-- none of so many items at the front passes
abbrev pub NonePass : {A : Type 0} → (A → Bool) → List A → ℕ → Type 0
NonePass {A} test xs n = (k : ℕ) → k < n → (x : A) → slice_get xs k ≡ Some x → test x ≡ false

abbrev pub nothing_passed : Passed
nothing_passed = record { urgent = 0; normal = 0 }

-- so many contents at the front of each list are not eligible
pub record IsPassed (test : Taken → Bool) (lists : CachedLists) (passed : Passed) : Type 0 where
  pub urgent : NonePass test (filter is_content lists.urgent) passed.urgent
  pub normal : NonePass test (filter is_content lists.normal) passed.normal

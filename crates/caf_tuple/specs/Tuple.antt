-- What `own` does to a reference.
use Rattle.std.specs.Prelude.{◌≡◌, ℕ, ◌≤◌, length}
use Rattle.caf_steps.specs.declared.reference.Reference.{Reference}
use Rattle.caf_steps.specs.Reference.{fresh, tested, looked}
use Rattle.caf_tuple.specs.declared.tuple.Owned.{Owned}
use Rattle.caf_tuple.specs.declared.tuple.Owned.TheVariants.{Kept, Copied}

-- Kept: one test, which read 1. Copied: one test, which read 2 or more, and each word was read once, in
-- order; the new reference is the one to a new block with the same content.
abbrev pub Owns : Owned → Reference → Reference → Type 0
Owns Kept old new = new ≡ tested 1 old
Owns (Copied count before) old new = (2 ≤ count) × (before ≡ looked (length old.content) (tested count old)) × (new ≡ fresh old.content)

-- without memory: one test, which read 2 or more, and then the first words were read
pub record GaveUp (old new : Reference) : Type 0 where
  pub count : ℕ
  pub words : ℕ
  pub shared : 2 ≤ count
  pub within : words ≤ length old.content
  pub steps_are : new ≡ looked words (tested count old)

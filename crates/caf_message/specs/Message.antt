-- What the calls of a message do to its reference.
use Rattle.std.specs.Prelude.{◌≡◌, ◌≢◌, ℕ, ◌≤◌, true, List, [], ◌∷◌, ◌++◌, length, Option, Some, None}
use Rattle.caf_steps.specs.declared.step.Step.{Step}
use Rattle.caf_steps.specs.declared.step.Step.TheVariants.{Test, Read, Write}
use Rattle.caf_steps.specs.declared.reference.Reference.{Reference}
use Rattle.caf_steps.specs.Reference.{fresh, tested, looked}
use Rattle.caf_message.specs.declared.replacing.Replaced.{Replaced}
use Rattle.caf_message.specs.declared.replacing.Replaced.TheVariants.{Fresh, InPlace, Copied}

-- the first words were read, in order, each once
pub record HasLooked (old new : Reference) : Type 0 where
  pub words : ℕ
  pub within : words ≤ length old.content
  pub is : new ≡ looked words old

-- ---- which steps

abbrev pub IsRead : Step → Type 0
IsRead (Read i word) = Unit {0}
IsRead _ = ⊥

abbrev pub IsReadOrWrite : Step → Type 0
IsReadOrWrite (Read i word) = Unit {0}
IsReadOrWrite (Write i word) = Unit {0}
IsReadOrWrite _ = ⊥

abbrev pub Each : (Step → Type 0) → List Step → Type 0
Each P [] = Unit {0}
Each P (s ∷ ss) = P s × Each P ss

-- at most one test, and then reads
abbrev pub IsTestAndReads : List Step → Type 0
IsTestAndReads [] = Unit {0}
IsTestAndReads (Test count ∷ steps) = Each IsRead steps
IsTestAndReads (s ∷ steps) = IsRead s × Each IsRead steps

-- ---- a refused call

-- the content is as before, and so is the room; the steps grew by at most one test and by reads
pub record IsAsBefore (old new : Reference) : Type 0 where
  pub content : new.content ≡ old.content
  pub room : new.room ≡ old.room
  pub more : List Step
  pub steps : new.steps ≡ old.steps ++ more
  pub few : IsTestAndReads more

-- ---- replacing

-- a sole reference, whose words were read and written until the content was this one
pub record Rewrites (words : List ℕ) (old new : Reference) : Type 0 where
  pub content : new.content ≡ words
  pub room : new.room ≡ old.room
  pub sole : new.sole ≡ true
  pub more : List Step
  pub steps : new.steps ≡ old.steps ++ more
  pub only : Each IsReadOrWrite more

-- how `own` made a reference sole, with the content that it had
abbrev pub BecomesSole : Replaced → Reference → Reference → Type 0
BecomesSole Fresh old new = ⊥
BecomesSole InPlace old new = new ≡ tested 1 old
BecomesSole (Copied count) old new = (2 ≤ count) × (new ≡ fresh old.content)

-- Fresh: the length changed, and the reference is the one to a new block. Else the one test of `own`
-- read 1, and the reference was written in place; or it read a count of at least 2, and the reference
-- to the copy was written.
abbrev pub Replaces : Replaced → List ℕ → Reference → Reference → Type 0
Replaces Fresh words old new = (length words ≢ length old.content) × (new ≡ fresh words)
Replaces InPlace words old new = (length words ≡ length old.content) × Rewrites words (tested 1 old) new
Replaces (Copied count) words old new = (length words ≡ length old.content) × (2 ≤ count) × Rewrites words (fresh old.content) new

-- The old reference is handed back where the content is in a new block: after the one test, which read
-- the count, and the reads of the copy, or as it was where the length changed.
abbrev pub HandsBack : Replaced → Option Reference → Reference → Type 0
HandsBack Fresh (Some before) old = before ≡ old
HandsBack InPlace None old = Unit {0}
HandsBack (Copied count) (Some before) old = before ≡ looked (length old.content) (tested count old)
HandsBack _ _ old = ⊥

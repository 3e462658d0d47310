-- What each call does to a reference, as its holder sees it.
use Rattle.std.specs.Prelude.{ℕ, ◌+◌, ◌-◌, ◌/◌, ◌==◌, true, false, List, [], ◌∷◌, ◌++◌, take, slice_set}
use Rattle.caf_steps.specs.declared.step.Step.{Step}
use Rattle.caf_steps.specs.declared.step.Step.TheVariants.{Make, Retain, Test, Read, Write}
use Rattle.caf_steps.specs.declared.reference.Reference.{Reference}

-- the one reference to a new block with this content
abbrev pub fresh : List ℕ → Reference
fresh content = record { content = content; steps = Make ∷ []; room = 4611686018427387904; sole = true }

-- the part of a room that a retain gives to the new reference
abbrev pub share_of : ℕ → ℕ
share_of room = room / 2048

-- a reference after it was retained: of its room one goes for the new reference, and a share with it
abbrev pub retained : Reference → Reference
retained r = record { content = r.content; steps = r.steps ++ Retain ∷ []; room = r.room - 1 - share_of r.room; sole = false }

-- the new reference that a retain gives
abbrev pub second : Reference → Reference
second r = record { content = r.content; steps = Make ∷ []; room = share_of r.room; sole = false }

-- after a test that read this count: sole where it read 1
abbrev pub tested : ℕ → Reference → Reference
tested count r = record { content = r.content; steps = r.steps ++ Test count ∷ []; room = r.room; sole = count == 1 }

-- after a read of this word at the index i
abbrev pub read : ℕ → ℕ → Reference → Reference
read i word r = record { content = r.content; steps = r.steps ++ Read i word ∷ []; room = r.room; sole = r.sole }

-- after a write of this word at the index i
abbrev pub written : ℕ → ℕ → Reference → Reference
written i word r = record { content = slice_set r.content i word; steps = r.steps ++ Write i word ∷ []; room = r.room; sole = r.sole }

-- the reads of these words in order, the first of which has the index i
abbrev pub reads_from : ℕ → List ℕ → List Step
reads_from i [] = []
reads_from i (word ∷ words) = Read i word ∷ reads_from (i + 1) words

-- after reads of the first n words, in order
abbrev pub looked : ℕ → Reference → Reference
looked n r = record { content = r.content; steps = r.steps ++ reads_from 0 (take n r.content); room = r.room; sole = r.sole }

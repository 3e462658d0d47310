-- What each atomic step does to the view of the seat that makes it, and tells its caller. No step changes
-- another seat's view, and a view without references makes none.
use Rattle.std.specs.Prelude.{◌≡◌, ℕ, ◌+◌, ◌-◌, ◌≤◌, true, false, [], ◌∷◌, ◌++◌, slice_index}
use Rattle.atomic_table.specs.Table.{Me, Step as Access}
use Rattle.caf_steps.specs.declared.reference.Reference.{Reference}
use Rattle.caf_steps.specs.declared.step.Step.TheVariants.{Make, Retain}
use Rattle.caf_steps.specs.Reference.{share_of, tested, read, written}
use Rattle.caf_tuple.specs.declared.block.View.{View}

-- retain, first: the count and the references go up by 1, and the room goes down by 1
abbrev pub retained_view : View → View
retained_view v = record { refs = 2; seen = record { content = v.seen.content; steps = v.seen.steps ++ Retain ∷ []; room = v.seen.room - 1; sole = false } }

-- retain, then: a view with two references is split into the old and a new one, which share the room that
-- it had before the retain
abbrev pub old_view : View → View
old_view v = record { refs = 1; seen = record { content = v.seen.content; steps = v.seen.steps; room = v.seen.room - share_of (v.seen.room + 1); sole = false } }

abbrev pub new_view : View → View
new_view v = record { refs = 1; seen = record { content = v.seen.content; steps = Make ∷ []; room = share_of (v.seen.room + 1); sole = false } }

-- a view with as many references as before, seen so
abbrev pub seeing : Reference → View → View
seeing r v = record { refs = v.refs; seen = r }

-- release: no reference is left
abbrev pub released_view : View → View
released_view v = record { refs = 0; seen = record { content = v.seen.content; steps = v.seen.steps; room = v.seen.room; sole = false } }

-- a view, and the slots that its seat holds, of which a block has none
abbrev pub Seated : Type 0
Seated = Me (Unit {0}) View

-- A step tells of its access, the seat before it, the number found, and the seat after it. The index of a
-- payload word is one less than its place in the table.
abbrev pub Retains : Access (Unit {0}) → Seated → ℕ → Seated → Type 0
Retains access before found after = after ≡ (retained_view before.0, before.1)

abbrev pub Tests : Access (Unit {0}) → Seated → ℕ → Seated → Type 0
Tests access before found after = (after ≡ (seeing (tested found before.0.seen) before.0, before.1)) × (1 ≤ found) × (before.0.seen.sole ≡ true → found ≡ 1)

abbrev pub Reads : Access (Unit {0}) → Seated → ℕ → Seated → Type 0
Reads access before found after = (after ≡ (seeing (read (access.word - 1) found before.0.seen) before.0, before.1)) × (found ≡ slice_index before.0.seen.content (access.word - 1))

abbrev pub Writes : Access (Unit {0}) → Seated → ℕ → Seated → Type 0
Writes access before found after = after ≡ (seeing (written (access.word - 1) access.first before.0.seen) before.0, before.1)

abbrev pub Releases : Access (Unit {0}) → Seated → ℕ → Seated → Type 0
Releases access before found after = after ≡ (released_view before.0, before.1)

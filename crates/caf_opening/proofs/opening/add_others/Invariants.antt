use Rattle.std.proofs.Common.{◌≡◌, ◌+◌, ◌++◌, drop, true}
use Rattle.std.specs.List.{AllByRecursion}
use Rattle.caf_kinds.specs.Starting.{has_short_lines}
use Rattle.caf_opening.specs.Opening.{actors_from, AreKnown}
use Rattle.caf_opening.proofs.opening.add_others.Given as goal

-- the actors so far, and those of the setups that are left
abbrev pub invariant-loop-before : goal.invariant-loop-before
invariant-loop-before l =
    (l.actors ++ actors_from l.places l.script (l.before + 1) (drop l.before l.places) l.left ≡ l.initial.actors ++ actors_from l.places l.script 1 l.places l.fn.files)
    × AllByRecursion (λ bytes. has_short_lines 0 bytes ≡ true) l.left
    × AreKnown l.actors

use Rattle.std.proofs.Common.{◌≡◌, ◌++◌, map, length}
use Rattle.std.specs.Prelude.{filter, not}
use Rattle.caf_actor.specs.PlainForms.{plain_output}
use Rattle.caf_kinds.specs.Places.{numbers_of}
use Rattle.caf_kinds.specs.Sights.{is_reached, told}
use Rattle.caf_kinds.proofs.sights.split.Given as goal

-- what was looked at, and what is yet to be
abbrev pub invariant-loop-sought : goal.invariant-loop-sought
invariant-loop-sought l =
    (l.kept ++ filter (λ h. not (is_reached (length l.gone) h)) l.sought-iterator.rest.items ≡ filter (λ h. not (is_reached (length l.gone) h)) l.fn.held)
    × (map plain_output l.outputs ++ map (told (numbers_of l.gone)) (filter (is_reached (length l.gone)) l.sought-iterator.rest.items) ≡ map (told (numbers_of l.gone)) (filter (is_reached (length l.gone)) l.fn.held))

-- A spawner starts its children, one after the other, and lets them add in turn.
use Rattle.std.specs.Prelude.{ℕ, ◌+◌, ◌%◌, ◌==◌, Bool, bytes_eq, List, [], ◌∷◌, slice_get, if◌then◌else◌, Option, Some, None}
use Rattle.caf_types.specs.ShapeTree.{place}
use Rattle.caf_types.specs.declared.sec.Sec.TheVariants as sec
use Rattle.caf_words.specs.Datum.{no_data, more, a_place}
use Rattle.caf_signature.specs.declared.interface.Signature.{Signature}
use Rattle.caf_actor.specs.Numbers.{one_more}
use Rattle.caf_actor.specs.PlainInput.{PlainInput, Content}
use Rattle.caf_actor.specs.PlainOutput as output
use Rattle.caf_actor.specs.PlainReaction.{PlainReaction}
use Rattle.caf_actor.specs.PlainReaction as answer
use Rattle.caf_kinds.specs.Asking.{Types, atom, of_signed, takes, type_ids, has, content}
use Rattle.caf_kinds.specs.Calc.{adding}
use Rattle.caf_kinds.specs.Reacting.{Reacted, quiet, answers, sends, failed}
use Rattle.caf_kinds.specs.declared.spawner.Spawner.{Spawner}

abbrev pub spawning : Types
spawning = atom 223 []

abbrev pub of_place : Types
of_place = (6, place) ∷ []

abbrev pub interface : List Signature
interface = takes spawning of_place ∷ takes adding of_signed ∷ []

-- [add, ..] alone is passed on
abbrev pub delegates : List ℕ → Bool
delegates ids = bytes_eq (type_ids adding) ids

-- ---- its reactions

-- [place]
abbrev pub place_content : ℕ → List ℕ
place_content p = content of_place (more (a_place p) no_data)

abbrev pub begun : ℕ → PlainReaction
begun p = sends (output.Spawn p ∷ []) (answer.Value (place_content p))

-- the next child starts; where all were started, the error `no_place`
abbrev pub begins : Spawner → Option ℕ → Reacted Spawner
begins s (Some p) = (record s { started = s.started + 1 }, begun p)
begins s None = (s, answers (answer.Error sec.NoPlace))

-- the started child whose turn it is
abbrev pub in_turn : Spawner → Option ℕ
in_turn s = if s.started == 0 then None else slice_get s.identity.reserve (s.passed % s.started)

-- where none was started, the error `failed`
abbrev pub passes : Spawner → Option ℕ → Reacted Spawner
passes s (Some p) = (record s { passed = one_more s.passed }, answers (answer.Delegate p))
passes s None = (s, answers failed)

abbrev pub given : Spawner → List ℕ → Reacted Spawner
given s words =
    if has spawning words then begins s (slice_get s.identity.reserve s.started)
    else if has adding words then passes s (in_turn s)
    else (s, answers failed)

abbrev pub reacted : Spawner → PlainInput → Reacted Spawner
reacted s (Content origin words) = given s words
reacted s _ = (s, quiet)

-- An echo answers a text with itself. While it sleeps it keeps texts for later.
use Rattle.std.specs.Prelude.{ℕ, ◌&&◌, Bool, true, false, List, [], ◌∷◌, bytes_eq, if◌then◌else◌}
use Rattle.caf_signature.specs.declared.interface.Signature.{Signature}
use Rattle.caf_actor.specs.PlainInput.{PlainInput, Content}
use Rattle.caf_actor.specs.PlainReaction as answer
use Rattle.caf_kinds.specs.Asking.{Types, atom, of_text, of_unit, takes, type_ids, has}
use Rattle.caf_kinds.specs.Reacting.{Reacted, quiet, answers, done, failed}
use Rattle.caf_kinds.specs.declared.echo.Echo.{Echo}

abbrev pub waking : Types
waking = atom 216 []

abbrev pub resting : Types
resting = atom 217 []

abbrev pub interface : List Signature
interface = takes of_text of_text ∷ takes waking of_unit ∷ takes resting of_unit ∷ []

-- while it is asleep it skips [text]
abbrev pub skips : Echo → List ℕ → Bool
skips s ids = s.is_asleep && bytes_eq (type_ids of_text) ids

abbrev pub asleep : Bool → Echo → Echo
asleep is s = record s { is_asleep = is }

abbrev pub given : Echo → List ℕ → Reacted Echo
given s words =
    if has of_text words then (s, answers (answer.Value words))
    else if has waking words then (asleep false s, answers done)
    else if has resting words then (asleep true s, answers done)
    else (s, answers failed)

abbrev pub reacted : Echo → PlainInput → Reacted Echo
reacted s (Content origin words) = given s words
reacted s _ = (s, quiet)

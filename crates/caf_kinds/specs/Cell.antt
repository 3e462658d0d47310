-- A cell keeps the number that it was given last, 0 at first, and answers it.
use Rattle.std.specs.Prelude.{ℕ, List, [], ◌∷◌, if◌then◌else◌, Option, Some}
use Rattle.caf_words.specs.Datum.{Data, no_data, more, a_unit, a_signed}
use Rattle.caf_signature.specs.declared.interface.Signature.{Signature}
use Rattle.caf_actor.specs.PlainInput.{PlainInput, Content}
use Rattle.caf_kinds.specs.Asking.{Types, atom, of_signed, of_unit, takes, has, asked}
use Rattle.caf_kinds.specs.Reacting.{Reacted, quiet, answers, done, signed, failed}
use Rattle.caf_kinds.specs.declared.cell.Cell.{Cell}

abbrev pub putting : Types
putting = atom 214 of_signed

abbrev pub getting : Types
getting = atom 215 []

abbrev pub interface : List Signature
interface = takes putting of_unit ∷ takes getting of_signed ∷ []

abbrev pub put : Cell → Option Data → Reacted Cell
put s (Some (more a_unit (more (a_signed v) no_data))) = (record s { value = v }, answers done)
put s _ = (s, answers failed)

abbrev pub given : Cell → List ℕ → Reacted Cell
given s words =
    if has putting words then put s (asked putting words)
    else if has getting words then (s, answers (signed s.value))
    else (s, answers failed)

abbrev pub reacted : Cell → PlainInput → Reacted Cell
reacted s (Content origin words) = given s words
reacted s _ = (s, quiet)

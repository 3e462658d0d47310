-- A quitter quits for the reason that it is told, and answers a text with itself.
use Rattle.std.specs.Prelude.{ℕ, List, [], ◌∷◌, if◌then◌else◌, Option, Some, None}
use Rattle.caf_types.specs.Reason.{reason_named}
use Rattle.caf_types.specs.declared.reason.Reason.{Reason}
use Rattle.caf_words.specs.Datum.{Data, no_data, more, a_unit, a_text}
use Rattle.caf_signature.specs.declared.interface.Signature.{Signature}
use Rattle.caf_actor.specs.PlainInput.{PlainInput, Content}
use Rattle.caf_actor.specs.PlainReaction.{PlainReaction}
use Rattle.caf_actor.specs.PlainReaction as answer
use Rattle.caf_kinds.specs.Asking.{Types, atom, of_text, of_unit, takes, has, asked}
use Rattle.caf_kinds.specs.Reacting.{Reacted, quiet, answers, done, failed}
use Rattle.caf_kinds.specs.declared.quitter.Quitter.{Quitter}

abbrev pub leaving : Types
leaving = atom 219 of_text

abbrev pub interface : List Signature
interface = takes leaving of_unit ∷ takes of_text of_text ∷ []

-- a name that is no reason is answered by the error `failed`, and it stays
abbrev pub quits : Option Reason → PlainReaction
quits (Some reason) = record { outputs = []; answer = done; quit = Some reason }
quits None = answers failed

abbrev pub leaves : Option Data → PlainReaction
leaves (Some (more a_unit (more (a_text name) no_data))) = quits (reason_named name)
leaves _ = answers failed

abbrev pub reaction_to : List ℕ → PlainReaction
reaction_to words =
    if has leaving words then leaves (asked leaving words)
    else if has of_text words then answers (answer.Value words)
    else answers failed

abbrev pub reacted : Quitter → PlainInput → Reacted Quitter
reacted s (Content origin words) = (s, reaction_to words)
reacted s _ = (s, quiet)

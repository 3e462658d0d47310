-- A holder holds the texts that it is asked, and delivers them when it is told to settle.
use Rattle.std.specs.Prelude.{ℕ, List, [], ◌∷◌, ◌++◌, length, map, if◌then◌else◌, Option, Some, None}
use Rattle.caf_words.specs.Datum.{Data}
use Rattle.caf_signature.specs.declared.interface.Signature.{Signature}
use Rattle.caf_actor.specs.Answering.{is_asked}
use Rattle.caf_actor.specs.declared.origin.Origin.{Origin}
use Rattle.caf_actor.specs.PlainInput.{PlainInput, Content}
use Rattle.caf_actor.specs.PlainReaction.{PlainReaction}
use Rattle.caf_actor.specs.PlainReaction as answer
use Rattle.caf_kinds.specs.Asking.{Types, atom, of_text, of_unsigned, takes, has, asked, content}
use Rattle.caf_kinds.specs.Reacting.{Reacted, quiet, answers, unsigned, failed}
use Rattle.caf_kinds.specs.Held.{held, delivered}
use Rattle.caf_kinds.specs.declared.holder.Holder.{Holder}

abbrev pub settling : Types
settling = atom 218 []

abbrev pub interface : List Signature
interface = takes of_text of_text ∷ takes settling of_unsigned ∷ []

-- a request is held with its text
abbrev pub holds : Holder → Origin → Option Data → Reacted Holder
holds s origin (Some values) = (record s { held = s.held ++ held origin (content of_text values) ∷ [] }, answers answer.Hold)
holds s origin None = (s, answers failed)

-- every held request is delivered its text, in the order in which they came, and their number is answered
abbrev pub settles : Holder → Reacted Holder
settles s = (record s { held = [] }, record { outputs = map delivered s.held; answer = unsigned (length s.held); quit = None })

-- a [text] that is no request does nothing
abbrev pub given : Holder → Origin → List ℕ → Reacted Holder
given s origin words =
    if has of_text words then (if is_asked origin then holds s origin (asked of_text words) else (s, quiet))
    else if has settling words then settles s
    else (s, answers failed)

abbrev pub reacted : Holder → PlainInput → Reacted Holder
reacted s (Content origin words) = given s origin words
reacted s _ = (s, quiet)

-- A watcher watches and links its peers, and tells which places have quit.
use Rattle.std.specs.Prelude.{ℕ, nat_le, List, [], ◌∷◌, ◌++◌, length, map, if◌then◌else◌, Option, Some}
use Rattle.caf_words.specs.Datum.{Data, no_data, more, a_unit, an_unsigned}
use Rattle.caf_signature.specs.declared.interface.Signature.{Signature}
use Rattle.caf_actor.specs.Answering.{is_asked}
use Rattle.caf_actor.specs.declared.origin.Origin.{Origin}
use Rattle.caf_actor.specs.PlainInput.{PlainInput, Content, Down}
use Rattle.caf_actor.specs.PlainOutput.{PlainOutput}
use Rattle.caf_actor.specs.PlainOutput as output
use Rattle.caf_actor.specs.PlainReaction as answer
use Rattle.caf_kinds.specs.Asking.{Types, atom, of_unit, of_unsigned, takes, has, asked}
use Rattle.caf_kinds.specs.Reacting.{Reacted, quiet, answers, sends, done, failed}
use Rattle.caf_kinds.specs.Who.{IsWho}
use Rattle.caf_kinds.specs.Sights.{of_places, places_content, Sights, AreSights, sought, with_down, notified}
use Rattle.caf_kinds.specs.declared.watcher.Watcher.{Watcher}

abbrev pub watching : Types
watching = atom 220 []

abbrev pub linking : Types
linking = atom 221 []

abbrev pub seeing : Types
seeing = atom 222 of_unsigned

abbrev pub interface : List Signature
interface = takes watching of_unit ∷ takes linking of_unit ∷ takes seeing of_places ∷ []

-- what holds of every value that occurs
pub record IsWatching (s : Watcher) : Type 0 where
  pub who : IsWho s.identity
  pub sights : AreSights s.sights

-- ---- its reactions

abbrev pub watches : Watcher → Reacted Watcher
watches s = (s, sends (map output.Watch s.identity.peers) done)

abbrev pub links : Watcher → Reacted Watcher
links s = (s, sends (map output.Link s.identity.peers) done)

-- answered with the places where they are so many, and else held
abbrev pub seeks : Watcher → Origin → ℕ → Reacted Watcher
seeks s origin least =
    if nat_le least (length s.sights.gone) then (s, answers (answer.Value (places_content s.sights.gone)))
    else if is_asked origin then (record s { sights = record s.sights { held = s.sights.held ++ sought origin least ∷ [] } }, answers answer.Hold)
    else (s, quiet)

abbrev pub sees : Watcher → Origin → Option Data → Reacted Watcher
sees s origin (Some (more a_unit (more (an_unsigned least) no_data))) = seeks s origin least
sees s origin _ = (s, answers failed)

abbrev pub given : Watcher → Origin → List ℕ → Reacted Watcher
given s origin words =
    if has watching words then watches s
    else if has linking words then links s
    else if has seeing words then sees s origin (asked seeing words)
    else (s, answers failed)

abbrev pub tells : Watcher → Sights × List PlainOutput → Reacted Watcher
tells s n = (record s { sights = n.0 }, sends n.1 answer.Nothing)

-- the held requests that are reached now are delivered
abbrev pub downed : Watcher → ℕ → Reacted Watcher
downed s p = tells s (notified s.sights (with_down s.sights.gone p))

abbrev pub reacted : Watcher → PlainInput → Reacted Watcher
reacted s (Content origin words) = given s origin words
reacted s (Down p why) = downed s p
reacted s _ = (s, quiet)

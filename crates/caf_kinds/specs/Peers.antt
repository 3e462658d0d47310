-- What each kind of actor asks of its peers: one line a kind.
use Rattle.std.specs.Prelude.{ℕ, ◌-◌, ◌==◌, if◌then◌else◌, List, [], ◌∷◌}
use Rattle.caf_signature.specs.declared.interface.Signature.{Signature}
use Rattle.caf_kinds.specs.Asking.{Types, of_unit, of_unsigned, takes}
use Rattle.caf_kinds.specs.Pipeline.{of_chunk, of_postings, of_extent, of_finish, counting}
use Rattle.caf_kinds.specs.declared.setup.KindName.{KindName}
use Rattle.caf_kinds.specs.declared.setup.KindName.TheVariants as name

-- it takes content of these types, and answers unit
abbrev pub taker_of : Types → List Signature
taker_of types = takes types of_unit ∷ []

-- the interface that the peer at a position, from 0, of so many peers must have
abbrev pub wanted_of : KindName → ℕ → ℕ → List Signature
wanted_of name.Echo count position = []
wanted_of name.Cell count position = []
wanted_of name.Calc count position = []
wanted_of name.Holder count position = []
wanted_of name.Quitter count position = []
wanted_of name.Source count position = if position == count - 1 then taker_of of_finish else taker_of of_chunk
wanted_of name.Relay count position = takes of_chunk of_unit ∷ takes counting of_unsigned ∷ []
wanted_of name.Counter count position = taker_of of_postings
wanted_of name.Lines count position = taker_of of_extent
wanted_of name.Collector count position = []
wanted_of name.Watcher count position = []
wanted_of name.Spawner count position = []
wanted_of name.Alarm count position = []
wanted_of name.Conductor count position = []

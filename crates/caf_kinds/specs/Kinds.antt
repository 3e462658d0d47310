-- What each kind of actor is: one line a kind in each definition.
use Rattle.std.specs.Prelude.{◌≡◌, ℕ, ◌==◌, ◌&&◌, nat_le, Bool, true, false, List, Option, Some, None}
use Rattle.caf_signature.specs.declared.interface.Signature.{Signature}
use Rattle.caf_words.specs.Datum.{is_i64}
use Rattle.caf_actor.specs.PlainInput.{PlainInput}
use Rattle.caf_actor.specs.Rules.{Rules}
use Rattle.caf_kinds.specs.Who.{Who, IsWho, Fixed, fixed}
use Rattle.caf_kinds.specs.Reacting.{Reacted}
use Rattle.caf_kinds.specs.Held.{AreTexts}
use Rattle.caf_kinds.specs.Echo as echo
use Rattle.caf_kinds.specs.Cell as cell
use Rattle.caf_kinds.specs.Calc as calc
use Rattle.caf_kinds.specs.Holder as holder
use Rattle.caf_kinds.specs.Quitter as quitter
use Rattle.caf_index.specs.Index.{Entries}
use Rattle.caf_kinds.specs.Source as source
use Rattle.caf_kinds.specs.Relay as relay
use Rattle.caf_kinds.specs.Counter as counter
use Rattle.caf_kinds.specs.Lines as lines
use Rattle.caf_kinds.specs.Collector as collector
use Rattle.caf_kinds.specs.Watcher as watcher
use Rattle.caf_kinds.specs.Spawner as spawner
use Rattle.caf_kinds.specs.Alarm as alarm
use Rattle.caf_script.specs.Reply.{Reply}
use Rattle.caf_kinds.specs.Conductor as conductor
use Rattle.caf_kinds.specs.declared.setup.KindName.{KindName}
use Rattle.caf_kinds.specs.declared.setup.KindName.TheVariants as name
use Rattle.caf_kinds.specs.declared.kind.Kind.{Kind}
use Rattle.caf_kinds.specs.declared.kind.Kind.TheVariants as kind

-- what a kind takes
abbrev pub interface_of : KindName → List Signature
interface_of name.Echo = echo.interface
interface_of name.Cell = cell.interface
interface_of name.Calc = calc.interface
interface_of name.Holder = holder.interface
interface_of name.Quitter = quitter.interface
interface_of name.Source = source.interface
interface_of name.Relay = relay.interface
interface_of name.Counter = counter.interface
interface_of name.Lines = lines.interface
interface_of name.Collector = collector.interface
interface_of name.Watcher = watcher.interface
interface_of name.Spawner = spawner.interface
interface_of name.Alarm = alarm.interface
interface_of name.Conductor = conductor.interface

-- how many peers an actor of the kind may have
abbrev pub has_peers : KindName → ℕ → Bool
has_peers name.Echo n = n == 0
has_peers name.Cell n = n == 0
has_peers name.Calc n = n == 0
has_peers name.Holder n = n == 0
has_peers name.Quitter n = n == 0
has_peers name.Source n = nat_le 2 n && nat_le n 17
has_peers name.Relay n = nat_le 1 n && nat_le n 255
has_peers name.Counter n = n == 1
has_peers name.Lines n = n == 1
has_peers name.Collector n = n == 0
has_peers name.Watcher n = nat_le n 255
has_peers name.Spawner n = n == 0
has_peers name.Alarm n = n == 0
-- all others are its peers, whatever it is set up with
has_peers name.Conductor n = true

-- ---- an actor of some kind

abbrev pub name_of : Kind → KindName
name_of (kind.Echo s) = name.Echo
name_of (kind.Cell s) = name.Cell
name_of (kind.Calc s) = name.Calc
name_of (kind.Holder s) = name.Holder
name_of (kind.Quitter s) = name.Quitter
name_of (kind.Source s) = name.Source
name_of (kind.Relay s) = name.Relay
name_of (kind.Counter s) = name.Counter
name_of (kind.Lines s) = name.Lines
name_of (kind.Collector s) = name.Collector
name_of (kind.Watcher s) = name.Watcher
name_of (kind.Spawner s) = name.Spawner
name_of (kind.Alarm s) = name.Alarm
name_of (kind.Conductor s) = name.Conductor

abbrev pub who : Kind → Who
who (kind.Echo s) = s.identity
who (kind.Cell s) = s.identity
who (kind.Calc s) = s.identity
who (kind.Holder s) = s.identity
who (kind.Quitter s) = s.identity
who (kind.Source s) = s.identity
who (kind.Relay s) = s.identity
who (kind.Counter s) = s.identity
who (kind.Lines s) = s.identity
who (kind.Collector s) = s.identity
who (kind.Watcher s) = s.identity
who (kind.Spawner s) = s.identity
who (kind.Alarm s) = s.identity
who (kind.Conductor s) = s.identity

-- what holds of every value that occurs
abbrev pub IsValid : Kind → Type 0
IsValid (kind.Cell s) = is_i64 s.value ≡ true
IsValid (kind.Holder s) = AreTexts s.held
IsValid (kind.Source s) = source.IsValid s
IsValid (kind.Watcher s) = watcher.IsWatching s
IsValid (kind.Spawner s) = IsWho s.identity
IsValid (kind.Conductor s) = conductor.IsConducting s
IsValid _ = Unit {0}

abbrev pub skips : Kind → List ℕ → Bool
skips (kind.Echo s) ids = echo.skips s ids
skips _ ids = false

-- what a collector has put together
abbrev pub index_of : Kind → Option Entries
index_of (kind.Collector s) = Some s.index
index_of _ = None

-- what became of a conductor's steps
abbrev pub replies_of : Kind → Option (List Reply)
replies_of (kind.Conductor s) = Some s.script.replies
replies_of _ = None

-- what a kind passes on
abbrev pub delegates : Kind → List ℕ → Bool
delegates (kind.Relay s) ids = relay.delegates ids
delegates (kind.Spawner s) ids = spawner.delegates ids
delegates _ ids = false

-- a value of one kind, after an input, as one of some kind
abbrev pub as_kind : {S : Type 0} → (S → Kind) → Reacted S → Reacted Kind
as_kind wrap r = (wrap r.0, r.1)

abbrev pub reacted : Kind → PlainInput → Reacted Kind
reacted (kind.Echo s) i = as_kind kind.Echo (echo.reacted s i)
reacted (kind.Cell s) i = as_kind kind.Cell (cell.reacted s i)
reacted (kind.Calc s) i = as_kind kind.Calc (calc.reacted s i)
reacted (kind.Holder s) i = as_kind kind.Holder (holder.reacted s i)
reacted (kind.Quitter s) i = as_kind kind.Quitter (quitter.reacted s i)
reacted (kind.Source s) i = as_kind kind.Source (source.reacted s i)
reacted (kind.Relay s) i = as_kind kind.Relay (relay.reacted s i)
reacted (kind.Counter s) i = as_kind kind.Counter (counter.reacted s i)
reacted (kind.Lines s) i = as_kind kind.Lines (lines.reacted s i)
reacted (kind.Collector s) i = as_kind kind.Collector (collector.reacted s i)
reacted (kind.Watcher s) i = as_kind kind.Watcher (watcher.reacted s i)
reacted (kind.Spawner s) i = as_kind kind.Spawner (spawner.reacted s i)
reacted (kind.Alarm s) i = as_kind kind.Alarm (alarm.reacted s i)
reacted (kind.Conductor s) i = as_kind kind.Conductor (conductor.reacted s i)

abbrev pub interface : Kind → List Signature
interface k = interface_of (name_of k)

abbrev pub fixed_of : Kind → Fixed
fixed_of k = fixed (who k) (interface k)

abbrev pub kind_rules : Rules Kind
kind_rules = record {
  place = λ k. (who k).place;
  interface = interface;
  peers = λ k. (who k).peers;
  reserve = λ k. (who k).reserve;
  skips = skips;
  delegates = delegates;
  next = λ k i. (reacted k i).0;
  reaction = λ k i. (reacted k i).1;
}

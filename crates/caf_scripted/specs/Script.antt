-- Acts of a script.
use Rattle.std.specs.Prelude.{Bool, true, false, Option, Some, None}
use Rattle.caf_scripted.specs.declared.act.Act.{Act}
use Rattle.caf_scripted.specs.declared.act.Cue.{Cue}
use Rattle.caf_scripted.specs.declared.act.Signal.{Signal}
use Rattle.caf_scripted.specs.declared.act.Signal.TheVariants as signal
use Rattle.caf_scripted.specs.declared.act.Reply.{Reply}
use Rattle.caf_scripted.specs.declared.act.Reply.TheVariants as reply

abbrev pub only : Reply → Act
only r = record { sending = None; afterwards = None; reply = r; sleeps = None; quit = None }

abbrev pub is_delegate : Reply → Bool
is_delegate reply.Delegate = true
is_delegate _ = false

-- it passes its content on
abbrev pub passes_on : Act → Bool
passes_on a = is_delegate a.reply

-- what follows the last act
abbrev pub last_act : Act
last_act = only reply.Echo

-- ---- cues

-- what follows the last cue
abbrev pub no_cue : Cue
no_cue = record { sending = None; number = 0; signal = None; quit = None }

abbrev pub no_tick : Option Signal → Option Signal
no_tick None = None
no_tick (Some (signal.Exit why)) = Some (signal.Exit why)
no_tick (Some signal.Tick) = None

-- it hands no tick on
abbrev pub without_ticks : Cue → Cue
without_ticks c = record c { signal = no_tick c.signal }

-- it sends exit notices alone
abbrev pub exits_alone : Cue → Cue
exits_alone c = record c { sending = None; signal = no_tick c.signal }

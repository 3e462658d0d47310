-- What an actor does at a tick.
use Rattle.std.specs.Prelude.{ℕ, zero, suc, ◌==◌, ◌&&◌, nat_le, if◌then◌else◌, List, length, count_by, Option, Some, None, is_none}
use Rattle.caf_types.specs.declared.sec.Sec.TheVariants.{RequestTimeout}
use Rattle.caf_response.specs.declared.pending.Waiting.{Waiting}
use Rattle.caf_response.specs.Pending.{WaitingRequests, expired}
use Rattle.caf_response.specs.Delays.{PlainDelay, next_delay}
use Rattle.caf_actor.specs.declared.snapshot.Snapshot.{Snapshot}
use Rattle.caf_actor.specs.Clock.{next_tick}
use Rattle.caf_actor.specs.PlainInput.{PlainInput, Failed, Tick}
use Rattle.caf_actor.specs.Rules.{Rules}
use Rattle.caf_actor.specs.Snapshot.{Handled, with_snapshot}
use Rattle.caf_actor.specs.Sending.{tell}
use Rattle.caf_actor.specs.Reacting.{give}

-- ---- the requests that are due

abbrev pub timeout_input : Waiting → PlainInput
timeout_input w = Failed w.tag RequestTimeout

-- the request no longer waits, and the behaviour is told
abbrev pub time_out : {S : Type 0} → Rules S → Handled S → Waiting × WaitingRequests → Handled S
time_out rules t found = give rules (with_snapshot t (record t.snapshot { pending = found.1 })) (timeout_input found.0)

-- the next one that is due, if there is one, and on from there
abbrev pub expiry : {S : Type 0} → Rules S → (Handled S → Handled S) → Handled S → Option (Waiting × WaitingRequests) → Handled S
expiry rules go t None = t
expiry rules go t (Some found) = go (time_out rules t found)

abbrev pub next_due : {S : Type 0} → Snapshot S → Option (Waiting × WaitingRequests)
next_due s = expired s.pending s.clock

-- at most so many, one after the other; none is left of an actor that quits
abbrev pub expire_for : {S : Type 0} → Rules S → ℕ → Handled S → Handled S
expire_for rules zero t = t
expire_for rules (suc n) t = expiry rules (expire_for rules n) t (next_due t.snapshot)

-- how many requests are due
abbrev pub due_count : {S : Type 0} → Snapshot S → ℕ
due_count s = count_by (λ (d : ℕ × ℕ). nat_le d.0 s.clock) s.pending.due

-- what is issued meanwhile isn't due before the next tick, so as many as are due do
abbrev pub expire_all : {S : Type 0} → Rules S → Handled S → Handled S
expire_all rules t = expire_for rules (due_count t.snapshot) t

-- ---- the delayed messages that are due

abbrev pub send_delayed : {S : Type 0} → Handled S → PlainDelay × List PlainDelay → Handled S
send_delayed t next = tell (with_snapshot t (record t.snapshot { delays = next.1 })) next.0.to next.0.priority next.0.content

abbrev pub delivery : {S : Type 0} → (Handled S → Handled S) → Handled S → Option (PlainDelay × List PlainDelay) → Handled S
delivery go t None = t
delivery go t (Some next) = go (send_delayed t next)

abbrev pub deliver_for : {S : Type 0} → ℕ → Handled S → Handled S
deliver_for zero t = t
deliver_for (suc n) t = delivery (deliver_for n) t (next_delay t.snapshot.delays t.snapshot.clock)

abbrev pub deliver_all : {S : Type 0} → Handled S → Handled S
deliver_all t = deliver_for (length t.snapshot.delays) t

-- ---- the tick

abbrev pub advance : {S : Type 0} → Handled S → Handled S
advance t = with_snapshot t (record t.snapshot { clock = next_tick t.snapshot.clock })

-- at place 0 the behaviour hears of it, unless it has just quit
abbrev pub hear_tick : {S : Type 0} → Rules S → Handled S → Handled S
hear_tick rules t = if t.snapshot.place == 0 && is_none t.snapshot.quit then give rules t Tick else t

-- the count rises; what waits too long fails; and what was delayed long enough is sent
abbrev pub handle_tick : {S : Type 0} → Rules S → Handled S → Handled S
handle_tick rules t = hear_tick rules (deliver_all (expire_all rules (advance t)))

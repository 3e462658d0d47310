-- How an actor quits, and what is left of it.
use Rattle.std.specs.Prelude.{ℕ, if◌then◌else◌, List, [], ◌∷◌, ◌++◌, Option, Some, None}
use Rattle.caf_types.specs.declared.notice.Notice.{Notice}
use Rattle.caf_types.specs.declared.notice.Notice.TheVariants as notice
use Rattle.caf_types.specs.declared.reason.Reason.{Reason}
use Rattle.caf_types.specs.declared.sec.Sec.TheVariants.{RequestReceiverDown, BrokenPromise}
use Rattle.caf_message.specs.declared.envelope.Taken.{Taken}
use Rattle.caf_message.specs.declared.envelope.Plain.{Plain}
use Rattle.caf_message.specs.declared.envelope.Plain.TheVariants as «plain»
use Rattle.caf_mailbox.specs.Caches.{CachedLists, nothing_cached}
use Rattle.caf_response.specs.Delays.{no_delays}
use Rattle.caf_response.specs.Pending.{forgotten}
use Rattle.caf_response.specs.Promised.{Promised}
use Rattle.caf_observe.specs.Observers.{farewell}
use Rattle.caf_actor.specs.declared.origin.Origin.{Origin}
use Rattle.caf_actor.specs.declared.snapshot.Snapshot.{Snapshot}
use Rattle.caf_actor.specs.Snapshot.{Handled, with_snapshot}
use Rattle.caf_actor.specs.Sending.{notify, reply}
use Rattle.caf_actor.specs.Answering.{origin_of, refuse}

-- ---- the shell of a quit actor

abbrev pub shell_notice : {S : Type 0} → Handled S → Reason → Notice → Handled S
shell_notice t reason (notice.Link from) = notify t from (notice.Exit t.snapshot.place reason)
shell_notice t reason (notice.Watch from) = notify t from (notice.Down t.snapshot.place reason)
shell_notice t reason _ = t

-- it answers a request, a link notice and a watch notice, and drops everything else
abbrev pub handle_shell : {S : Type 0} → Handled S → Reason → Origin → Plain → Handled S
handle_shell t reason origin («plain».Content words) = if origin.mid.response then t else refuse t origin RequestReceiverDown
handle_shell t reason origin («plain».Failure sec) = t
handle_shell t reason origin («plain».System what) = shell_notice t reason what

abbrev pub shell_all : {S : Type 0} → Handled S → Reason → List Taken → Handled S
shell_all t reason [] = t
shell_all t reason (e ∷ es) = shell_all (handle_shell t reason (origin_of e) e.body) reason es

-- ---- the three parts of quitting

abbrev pub break_holds : {S : Type 0} → Handled S → List Promised → Handled S
break_holds t [] = t
break_holds t (p ∷ ps) = break_holds (reply t p («plain».Failure BrokenPromise)) ps

abbrev pub all_cached : CachedLists → List Taken
all_cached lists = lists.urgent ++ lists.normal

abbrev pub notify_all : {S : Type 0} → Handled S → List (ℕ × Notice) → Handled S
notify_all t [] = t
notify_all t (n ∷ ns) = notify_all (notify t n.0 n.1) ns

-- nothing is cached, held or delayed any more, and no own request waits or has a due count
abbrev pub emptied : {S : Type 0} → Snapshot S → Reason → Snapshot S
emptied s reason = record s { caches = nothing_cached; pending = forgotten s.pending; holds = []; delays = no_delays; quit = Some reason }

abbrev pub say_farewell : {S : Type 0} → Handled S → Reason → Handled S
say_farewell t reason = notify_all t (farewell t.snapshot.observers t.snapshot.place reason)

-- its holds are broken, in their order; it meets what is cached as a quit actor does, the urgent list
-- first; and it tells its links and its monitors
abbrev pub quit_with : {S : Type 0} → Handled S → Reason → Handled S
quit_with t reason =
    say_farewell (shell_all (break_holds (with_snapshot t (emptied t.snapshot reason)) t.snapshot.holds) reason (all_cached t.snapshot.caches)) reason

abbrev pub quit_where : {S : Type 0} → Handled S → Option Reason → Handled S
quit_where t None = t
quit_where t (Some reason) = quit_with t reason

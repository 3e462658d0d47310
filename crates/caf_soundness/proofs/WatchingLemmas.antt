-- A watcher and an alarm hold requests, and answer them as they were declared.
use Rattle.std.proofs.Common.{◌≡◌, ℕ, ◌+◌, true, List, [], ◌∷◌, length, map, Option, Some, None, refl, sym, subst}
use Rattle.std.specs.Prelude.{not, nat_le}
use Rattle.std.specs.List.{AllByRecursion}
use Rattle.caf_types.specs.declared.reason.Reason.{Reason}
use Rattle.caf_message.specs.Lists.{pick}
use Rattle.caf_mailbox.proofs.NextLemmas.{all_append, all_filter, all_pick}
use Rattle.caf_words.specs.Datum.{Data, no_data, more, a_unit, an_unsigned}
use Rattle.caf_actor.specs.declared.origin.Origin.{Origin}
use Rattle.caf_actor.specs.Answering.{is_asked}
use Rattle.caf_actor.specs.PlainInput.{PlainInput, Start, Stop, Content, Response, Failed, Down, Tick}
use Rattle.caf_actor.specs.PlainOutput.{PlainOutput}
use Rattle.caf_actor.specs.PlainOutput as output
use Rattle.caf_kinds.specs.Alarm as alarm
use Rattle.caf_kinds.specs.Alarms.{Awaited, has_number}
use Rattle.caf_kinds.specs.Asking.{of_unsigned, type_ids, has, asked}
use Rattle.caf_kinds.specs.Keeping.{on_if}
use Rattle.caf_kinds.specs.Kinds.{reacted, as_kind}
use Rattle.caf_kinds.specs.Reacting.{Reacted}
use Rattle.caf_kinds.specs.Sights.{of_places, is_reached, told, with_down}
use Rattle.caf_kinds.specs.Watcher as watcher
use Rattle.caf_kinds.specs.declared.alarm.AlarmClock.{AlarmClock}
use Rattle.caf_kinds.specs.declared.kind.Kind.TheVariants as kind
use Rattle.caf_kinds.specs.declared.setup.Setup.{Setup}
use Rattle.caf_kinds.specs.declared.sights.Sought.{Sought}
use Rattle.caf_kinds.specs.declared.watcher.Watcher.{Watcher}
use Rattle.caf_soundness.specs.Typed.{face}
use Rattle.caf_soundness.proofs.LogLemmas.{Log, Declares}
use Rattle.caf_soundness.proofs.ComesLemmas.{Accepts, Given, Sends}
use Rattle.caf_soundness.proofs.ServeLemmas.{Takes}
use Rattle.caf_soundness.proofs.KindLemmas.{IsSet, Acts, quiet_acts, failed_acts, value_acts, was_declared}

module _ (setups : List Setup) (l : Log) (place : ℕ) where
  -- ---- watcher

  abbrev WatcherActs : PlainInput → Reacted Watcher → Type 0
  WatcherActs i r = Acts setups l place i (as_kind kind.Watcher r)

  abbrev IsSought : Sought → Type 0
  IsSought h = Declares l h.requester h.number (type_ids of_places)

  places_sent : (gone : List ℕ) (hs : List Sought) → AllByRecursion IsSought hs → AllByRecursion (Sends (face setups) l) (map (told gone) hs)
  places_sent gone [] all = tt
  places_sent gone (h ∷ hs) all = (all.0, places_sent gone hs all.1)

  notices_sent : (send : ℕ → PlainOutput) → ((p : ℕ) → Sends (face setups) l (send p)) → (ps : List ℕ) → AllByRecursion (Sends (face setups) l) (map send ps)
  notices_sent send may [] = tt
  notices_sent send may (p ∷ ps) = (may p, notices_sent send may ps)

  seeks_acts : (s : Watcher) (origin : Origin) (words : List ℕ) → IsSet setups l place (kind.Watcher s) → Given (face setups) l place (Content origin words) → has watcher.seeing words ≡ true → (least : ℕ)
      → WatcherActs (Content origin words) (watcher.seeks s origin least)
  seeks_acts s origin words set given e least =
      let i : PlainInput = Content origin words in
      on_if (WatcherActs i) (nat_le least (length s.sights.gone)) _ _
      (λ _. value_acts setups l place origin words _ (kind.Watcher s) set.holds)
      (λ _. on_if (WatcherActs i) (is_asked origin) _ _
      (λ a. record {
        outputs = tt;
        answer = tt;
        holds = all_append IsSought s.sights.held _ set.holds (was_declared setups l place watcher.interface origin words (type_ids watcher.seeing) (type_ids of_places) set.takes e refl given.1 a, tt);
      })
      (λ _. quiet_acts setups l place i (kind.Watcher s) set.holds))

  sees_acts : (s : Watcher) (origin : Origin) (words : List ℕ) → IsSet setups l place (kind.Watcher s) → Given (face setups) l place (Content origin words) → has watcher.seeing words ≡ true → (o : Option Data)
      → WatcherActs (Content origin words) (watcher.sees s origin o)
  sees_acts s origin words set given e (Some (more a_unit (more (an_unsigned least) no_data))) = seeks_acts s origin words set given e least
  sees_acts s origin words set given e _ = failed_acts setups l place origin words (kind.Watcher s) set.holds

  watcher_given : (s : Watcher) (origin : Origin) (words : List ℕ) → IsSet setups l place (kind.Watcher s) → Given (face setups) l place (Content origin words) → WatcherActs (Content origin words) (watcher.given s origin words)
  watcher_given s origin words set given =
      let i : PlainInput = Content origin words in
      on_if (WatcherActs i) (has watcher.watching words) _ _ (λ _. record { outputs = notices_sent output.Watch (λ p. tt) s.identity.peers; answer = tt; holds = set.holds })
      (λ _. on_if (WatcherActs i) (has watcher.linking words) _ _ (λ _. record { outputs = notices_sent output.Link (λ p. tt) s.identity.peers; answer = tt; holds = set.holds })
      (λ _. on_if (WatcherActs i) (has watcher.seeing words) _ _ (λ e. sees_acts s origin words set given e (asked watcher.seeing words))
      (λ _. failed_acts setups l place origin words (kind.Watcher s) set.holds)))

  downed_acts : (s : Watcher) (from : ℕ) (why : Reason) → AllByRecursion IsSought s.sights.held → WatcherActs (Down from why) (watcher.downed s from)
  downed_acts s from why all =
      let gone : List ℕ = with_down s.sights.gone from in
      record {
        outputs = places_sent gone _ (all_filter (is_reached (length gone)) IsSought s.sights.held all);
        answer = tt;
        holds = all_filter (λ (h : Sought). not (is_reached (length gone) h)) IsSought s.sights.held all;
      }

  pub watcher_acts : (s : Watcher) (i : PlainInput) → IsSet setups l place (kind.Watcher s) → Given (face setups) l place i → Acts setups l place i (reacted (kind.Watcher s) i)
  watcher_acts s (Content origin words) set given = watcher_given s origin words set given
  watcher_acts s (Down from why) set given = downed_acts s from why set.holds
  watcher_acts s Start set given = quiet_acts setups l place Start (kind.Watcher s) set.holds
  watcher_acts s Stop set given = quiet_acts setups l place Stop (kind.Watcher s) set.holds
  watcher_acts s (Response tag words) set given = quiet_acts setups l place (Response tag words) (kind.Watcher s) set.holds
  watcher_acts s (Failed tag why) set given = quiet_acts setups l place (Failed tag why) (kind.Watcher s) set.holds
  watcher_acts s Tick set given = quiet_acts setups l place Tick (kind.Watcher s) set.holds

  -- ---- alarm

  abbrev AlarmActs : PlainInput → Reacted AlarmClock → Type 0
  AlarmActs i r = Acts setups l place i (as_kind kind.Alarm r)

  abbrev IsRung : Awaited → Type 0
  IsRung a = Declares l a.requester a.number (type_ids of_unsigned)

  -- it takes [ring, k] itself
  ring_taken : (s : AlarmClock) → IsSet setups l place (kind.Alarm s) → (k : ℕ) → Accepts (face setups) s.identity.place (alarm.ring_content k)
  ring_taken s set k =
      subst (λ (p : ℕ). Accepts (face setups) p (alarm.ring_content k)) (sym set.own) (subst (Takes (type_ids alarm.ringing)) set.takes refl)

  sets_acts : (s : AlarmClock) (origin : Origin) (words : List ℕ) → IsSet setups l place (kind.Alarm s) → Given (face setups) l place (Content origin words) → has alarm.setting words ≡ true → (ticks : ℕ)
      → AlarmActs (Content origin words) (alarm.alarms_after s origin ticks)
  sets_acts s origin words set given e ticks =
      let i : PlainInput = Content origin words in
      on_if (AlarmActs i) (is_asked origin) _ _
      (λ a. on_if (AlarmActs i) (alarm.can_set s ticks) _ _
      (λ _. record {
        outputs = (ring_taken s set (s.alarms.last + 1), tt);
        answer = tt;
        holds = all_append IsRung s.alarms.held _ set.holds (was_declared setups l place alarm.interface origin words (type_ids alarm.setting) (type_ids of_unsigned) set.takes e refl given.1 a, tt);
      })
      (λ _. failed_acts setups l place origin words (kind.Alarm s) set.holds))
      (λ _. quiet_acts setups l place i (kind.Alarm s) set.holds)

  alarms_act : (s : AlarmClock) (origin : Origin) (words : List ℕ) → IsSet setups l place (kind.Alarm s) → Given (face setups) l place (Content origin words) → has alarm.setting words ≡ true → (o : Option Data)
      → AlarmActs (Content origin words) (alarm.alarms s origin o)
  alarms_act s origin words set given e (Some (more a_unit (more (an_unsigned ticks) no_data))) = sets_acts s origin words set given e ticks
  alarms_act s origin words set given e _ = failed_acts setups l place origin words (kind.Alarm s) set.holds

  delivers_alarm : (s : AlarmClock) (origin : Origin) (words : List ℕ) → AllByRecursion IsRung s.alarms.held → (k : ℕ) (o : Option (Awaited × List Awaited)) → pick (has_number k) s.alarms.held ≡ o
      → AlarmActs (Content origin words) (alarm.delivers s o)
  delivers_alarm s origin words all k (Some found) e =
      let both = all_pick (has_number k) IsRung s.alarms.held found all e in
      record { outputs = (both.0, tt); answer = tt; holds = both.1 }
  delivers_alarm s origin words all k None e = value_acts setups l place origin words _ (kind.Alarm s) all

  rings_act : (s : AlarmClock) (origin : Origin) (words : List ℕ) → AllByRecursion IsRung s.alarms.held → (o : Option Data) → AlarmActs (Content origin words) (alarm.rings s o)
  rings_act s origin words all (Some (more a_unit (more (an_unsigned k) no_data))) = delivers_alarm s origin words all k (pick (has_number k) s.alarms.held) refl
  rings_act s origin words all _ = failed_acts setups l place origin words (kind.Alarm s) all

  alarm_given : (s : AlarmClock) (origin : Origin) (words : List ℕ) → IsSet setups l place (kind.Alarm s) → Given (face setups) l place (Content origin words) → AlarmActs (Content origin words) (alarm.given s origin words)
  alarm_given s origin words set given =
      let i : PlainInput = Content origin words in
      on_if (AlarmActs i) (has alarm.setting words) _ _ (λ e. alarms_act s origin words set given e (asked alarm.setting words))
      (λ _. on_if (AlarmActs i) (has alarm.ringing words) _ _ (λ _. rings_act s origin words set.holds (asked alarm.ringing words))
      (λ _. failed_acts setups l place origin words (kind.Alarm s) set.holds))

  pub alarm_acts : (s : AlarmClock) (i : PlainInput) → IsSet setups l place (kind.Alarm s) → Given (face setups) l place i → Acts setups l place i (reacted (kind.Alarm s) i)
  alarm_acts s (Content origin words) set given = alarm_given s origin words set given
  alarm_acts s Start set given = quiet_acts setups l place Start (kind.Alarm s) set.holds
  alarm_acts s Stop set given = quiet_acts setups l place Stop (kind.Alarm s) set.holds
  alarm_acts s (Response tag words) set given = quiet_acts setups l place (Response tag words) (kind.Alarm s) set.holds
  alarm_acts s (Failed tag why) set given = quiet_acts setups l place (Failed tag why) (kind.Alarm s) set.holds
  alarm_acts s (Down from why) set given = quiet_acts setups l place (Down from why) (kind.Alarm s) set.holds
  alarm_acts s Tick set given = quiet_acts setups l place Tick (kind.Alarm s) set.holds

-- An alarm keeps the laws.
use Rattle.std.specs.Prelude.{◌≡◌, ℕ, ◌+◌, ◌<◌, nat_lt, nat_le, if◌then◌else◌, Bool, true, List, Option, Some, None, refl}
use Rattle.std.proofs.Common.{arith}
use Rattle.std.proofs.lemmas.Bool.{lt-ltb}
use Rattle.std.proofs.lemmas.Bool.Decides.{nat_tests}
use Rattle.caf_message.specs.Lists.{pick}
use Rattle.caf_actor.specs.declared.origin.Origin.{Origin}
use Rattle.caf_actor.specs.PlainInput.{PlainInput, Start, Stop, Content, Response, Failed, Down, Tick}
use Rattle.caf_actor.specs.Answering.{is_asked}
use Rattle.caf_words.specs.Datum.{Data, no_data, more, a_unit, an_unsigned}
use Rattle.caf_kinds.specs.Asking.{type_ids, has, asked}
use Rattle.caf_kinds.specs.Who.{fixed}
use Rattle.caf_kinds.specs.Reacting.{Reacted, answers, quiet, done, failed}
use Rattle.caf_kinds.specs.Lawful.{IsSound, IsLawful}
use Rattle.caf_kinds.specs.Keeping.{on_if, second_of_and, unit_sound, unsigned_sound, answers_by, answer_kept, failed_kept, quiet_kept}
use Rattle.caf_kinds.specs.SendLaws.{self_is_target}
use Rattle.caf_kinds.specs.Alarms.{Awaited, has_number}
use Rattle.caf_kinds.specs.Alarm.{setting, ringing, interface, ring_content, can_set, sets, alarms_after, alarms, delivers, rings, given, reacted}
use Rattle.caf_kinds.specs.declared.alarm.AlarmClock.{AlarmClock}

abbrev pub Keeps : (List ℕ → Bool) → AlarmClock → PlainInput → Reacted AlarmClock → Type 0
Keeps d s i r = IsLawful (fixed s.identity interface) (fixed r.0.identity interface) (Unit {0}) d i r.1

ring_sound : (k : ℕ) → k < 18446744073709551616 → IsSound (ring_content k)
ring_sound k low =
    let below : nat_lt k 18446744073709551616 ≡ true = lt-ltb k 18446744073709551616 low in
    (ringing, record { core = refl; values = more a_unit (more (an_unsigned k) no_data); words_are = refl; fit = refl; range = rw below refl })

sets_keeps : (d : List ℕ → Bool) (s : AlarmClock) (origin : Origin) (words : List ℕ) (ticks : ℕ) → can_set s ticks ≡ true → Keeps d s (Content origin words) (sets s origin ticks)
sets_keeps d s origin words ticks e =
    let left : nat_lt s.alarms.last 18446744073709551615 ≡ true = second_of_and (nat_le ticks 4294967295) (nat_lt s.alarms.last 18446744073709551615) e in
    let low : s.alarms.last < 18446744073709551615 = grind (arith, nat_tests) in
    record {
      same = refl;
      valid = tt;
      outputs = (record { targets = (self_is_target s.identity, tt); content = ring_sound (s.alarms.last + 1) (omega arith); at_stop = λ q. absurd cc; at_ticks = λ q. tt }, tt);
      few = omega arith;
      answer = tt;
    }

after_keeps : (d : List ℕ → Bool) (s : AlarmClock) (origin : Origin) (words : List ℕ) (ticks : ℕ) → Keeps d s (Content origin words) (alarms_after s origin ticks)
after_keeps d s origin words ticks =
    let me = fixed s.identity interface in
    let i = Content origin words in
    on_if (Keeps d s i) (is_asked origin) (if can_set s ticks then sets s origin ticks else (s, answers failed)) (s, quiet)
    (λ _. on_if (Keeps d s i) (can_set s ticks) (sets s origin ticks) (s, answers failed)
    (λ e. sets_keeps d s origin words ticks e)
    (λ _. failed_kept me (Unit {0}) d i tt))
    (λ none. quiet_kept me (Unit {0}) d i tt none)

alarms_keeps : (d : List ℕ → Bool) (s : AlarmClock) (origin : Origin) (words : List ℕ) (o : Option Data) → Keeps d s (Content origin words) (alarms s origin o)
alarms_keeps d s origin words (Some (more a_unit (more (an_unsigned ticks) no_data))) = after_keeps d s origin words ticks
alarms_keeps d s origin words _ = failed_kept (fixed s.identity interface) (Unit {0}) d (Content origin words) tt

delivers_keeps : (d : List ℕ → Bool) (s : AlarmClock) (origin : Origin) (words : List ℕ) → has ringing words ≡ true → (o : Option (Awaited × List Awaited)) → Keeps d s (Content origin words) (delivers s o)
delivers_keeps d s origin words e None =
    answer_kept (fixed s.identity interface) (fixed s.identity interface) (Unit {0}) d (Content origin words) done refl tt
    (answers_by interface (type_ids ringing) origin words _ e refl unit_sound)
delivers_keeps d s origin words e (Some found) = record {
  same = refl;
  valid = tt;
  outputs = (record { targets = tt; content = unsigned_sound found.0.given; at_stop = λ q. absurd cc; at_ticks = λ q. tt }, tt);
  few = omega arith;
  answer = answers_by interface (type_ids ringing) origin words _ e refl unit_sound;
}

rings_keeps : (d : List ℕ → Bool) (s : AlarmClock) (origin : Origin) (words : List ℕ) → has ringing words ≡ true → (o : Option Data) → Keeps d s (Content origin words) (rings s o)
rings_keeps d s origin words e (Some (more a_unit (more (an_unsigned k) no_data))) = delivers_keeps d s origin words e (pick (has_number k) s.alarms.held)
rings_keeps d s origin words e _ = failed_kept (fixed s.identity interface) (Unit {0}) d (Content origin words) tt

given_keeps : (d : List ℕ → Bool) (s : AlarmClock) (origin : Origin) (words : List ℕ) → Keeps d s (Content origin words) (given s origin words)
given_keeps d s origin words =
    let i = Content origin words in
    on_if (Keeps d s i) (has setting words) (alarms s origin (asked setting words)) _
    (λ _. alarms_keeps d s origin words (asked setting words))
    (λ _. on_if (Keeps d s i) (has ringing words) (rings s (asked ringing words)) (s, answers failed)
    (λ e. rings_keeps d s origin words e (asked ringing words))
    (λ _. failed_kept (fixed s.identity interface) (Unit {0}) d i tt))

pub keeps : (d : List ℕ → Bool) (s : AlarmClock) (i : PlainInput) → Keeps d s i (reacted s i)
keeps d s (Content origin words) = given_keeps d s origin words
keeps d s Start = quiet_kept (fixed s.identity interface) (Unit {0}) d Start tt tt
keeps d s Stop = quiet_kept (fixed s.identity interface) (Unit {0}) d Stop tt tt
keeps d s (Response tag words) = quiet_kept (fixed s.identity interface) (Unit {0}) d (Response tag words) tt tt
keeps d s (Failed tag why) = quiet_kept (fixed s.identity interface) (Unit {0}) d (Failed tag why) tt tt
keeps d s (Down place why) = quiet_kept (fixed s.identity interface) (Unit {0}) d (Down place why) tt tt
keeps d s Tick = quiet_kept (fixed s.identity interface) (Unit {0}) d Tick tt tt

-- An echo keeps the laws.
use Rattle.std.specs.Prelude.{◌≡◌, ℕ, bytes_eq, Bool, true, false, List, refl}
use Rattle.caf_actor.specs.declared.origin.Origin.{Origin}
use Rattle.caf_actor.specs.PlainInput.{PlainInput, Start, Stop, Content, Response, Failed, Down, Tick}
use Rattle.caf_actor.specs.PlainReaction as answer
use Rattle.caf_actor.specs.Rules.{is_input}
use Rattle.caf_kinds.specs.Asking.{of_text, type_ids, has}
use Rattle.caf_kinds.specs.Who.{fixed}
use Rattle.caf_kinds.specs.Reacting.{Reacted, answers, done, failed}
use Rattle.caf_kinds.specs.Lawful.{IsLawful}
use Rattle.caf_kinds.specs.Keeping.{on_if, second_of_and, unit_sound, answers_by, answers_itself, answer_kept, failed_kept, quiet_kept}
use Rattle.caf_kinds.specs.Echo.{waking, resting, interface, skips, asleep, given, reacted}
use Rattle.caf_kinds.specs.declared.echo.Echo.{Echo}

abbrev pub Keeps : (List ℕ → Bool) → Echo → PlainInput → Reacted Echo → Type 0
Keeps d s i r = IsLawful (fixed s.identity interface) (fixed r.0.identity interface) (Unit {0}) d i r.1

given_keeps : (d : List ℕ → Bool) (s : Echo) (origin : Origin) (words : List ℕ) → Keeps d s (Content origin words) (given s words)
given_keeps d s origin words =
    let me = fixed s.identity interface in
    let i = Content origin words in
    on_if (Keeps d s i) (has of_text words) _ _
    (λ e. answer_kept me me (Unit {0}) d i (answer.Value words) refl tt (answers_itself interface (type_ids of_text) origin words e refl))
    (λ _. on_if (Keeps d s i) (has waking words) (asleep false s, answers done) _
    (λ e. answer_kept me me (Unit {0}) d i done refl tt (answers_by interface (type_ids waking) origin words _ e refl unit_sound))
    (λ _. on_if (Keeps d s i) (has resting words) (asleep true s, answers done) (s, answers failed)
    (λ e. answer_kept me me (Unit {0}) d i done refl tt (answers_by interface (type_ids resting) origin words _ e refl unit_sound))
    (λ _. failed_kept me (Unit {0}) d i tt)))

pub keeps : (d : List ℕ → Bool) (s : Echo) (i : PlainInput) → Keeps d s i (reacted s i)
keeps d s (Content origin words) = given_keeps d s origin words
keeps d s Start = quiet_kept (fixed s.identity interface) (Unit {0}) d Start tt tt
keeps d s Stop = quiet_kept (fixed s.identity interface) (Unit {0}) d Stop tt tt
keeps d s (Response tag words) = quiet_kept (fixed s.identity interface) (Unit {0}) d (Response tag words) tt tt
keeps d s (Failed tag why) = quiet_kept (fixed s.identity interface) (Unit {0}) d (Failed tag why) tt tt
keeps d s (Down place why) = quiet_kept (fixed s.identity interface) (Unit {0}) d (Down place why) tt tt
keeps d s Tick = quiet_kept (fixed s.identity interface) (Unit {0}) d Tick tt tt

-- only [text] is skipped, which is an input
pub skips_inputs : (s : Echo) (ids : List ℕ) → skips s ids ≡ true → is_input interface ids ≡ true
skips_inputs s ids e = rw (second_of_and s.is_asleep (bytes_eq (type_ids of_text) ids) e) refl

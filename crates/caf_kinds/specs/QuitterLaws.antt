-- A quitter keeps the laws.
use Rattle.std.specs.Prelude.{◌≡◌, ℕ, Bool, true, List, Option, Some, None, refl}
use Rattle.std.proofs.Common.{arith}
use Rattle.caf_actor.specs.declared.origin.Origin.{Origin}
use Rattle.caf_actor.specs.PlainInput.{PlainInput, Start, Stop, Content, Response, Failed, Down, Tick}
use Rattle.caf_actor.specs.PlainReaction.{PlainAnswer}
use Rattle.caf_actor.specs.PlainReaction as answer
use Rattle.caf_types.specs.Reason.{reason_named}
use Rattle.caf_types.specs.declared.reason.Reason.{Reason}
use Rattle.caf_words.specs.Datum.{Data, no_data, more, a_unit, a_text}
use Rattle.caf_actor.specs.PlainReaction.{PlainReaction}
use Rattle.caf_kinds.specs.Asking.{of_text, type_ids, has, asked}
use Rattle.caf_kinds.specs.Who.{fixed}
use Rattle.caf_kinds.specs.Reacting.{Reacted, answers, failed}
use Rattle.caf_kinds.specs.Lawful.{IsLawful}
use Rattle.caf_kinds.specs.Keeping.{on_if, unit_sound, answers_by, answers_itself, answer_kept, failed_kept, quiet_kept}
use Rattle.caf_kinds.specs.Quitter.{leaving, interface, quits, leaves, reaction_to, reacted}
use Rattle.caf_kinds.specs.declared.quitter.Quitter.{Quitter}

abbrev Lawful : (List ℕ → Bool) → Quitter → PlainInput → PlainReaction → Type 0
Lawful d s i r = IsLawful (fixed s.identity interface) (fixed s.identity interface) (Unit {0}) d i r

quits_lawful : (d : List ℕ → Bool) (s : Quitter) (origin : Origin) (words : List ℕ) → has leaving words ≡ true → (reason : Option Reason) → Lawful d s (Content origin words) (quits reason)
quits_lawful d s origin words e (Some reason) = record { same = refl; valid = tt; outputs = tt; few = omega arith; answer = answers_by interface (type_ids leaving) origin words _ e refl unit_sound }
quits_lawful d s origin words e None = failed_kept (fixed s.identity interface) (Unit {0}) d (Content origin words) tt

leaves_lawful : (d : List ℕ → Bool) (s : Quitter) (origin : Origin) (words : List ℕ) → has leaving words ≡ true → (o : Option Data) → Lawful d s (Content origin words) (leaves o)
leaves_lawful d s origin words e (Some (more a_unit (more (a_text name) no_data))) = quits_lawful d s origin words e (reason_named name)
leaves_lawful d s origin words e _ = failed_kept (fixed s.identity interface) (Unit {0}) d (Content origin words) tt

abbrev pub Keeps : (List ℕ → Bool) → Quitter → PlainInput → Reacted Quitter → Type 0
Keeps d s i r = IsLawful (fixed s.identity interface) (fixed r.0.identity interface) (Unit {0}) d i r.1

reaction_lawful : (d : List ℕ → Bool) (s : Quitter) (origin : Origin) (words : List ℕ) → Lawful d s (Content origin words) (reaction_to words)
reaction_lawful d s origin words =
    let me = fixed s.identity interface in
    let i = Content origin words in
    on_if (Lawful d s i) (has leaving words) (leaves (asked leaving words)) _
    (λ e. leaves_lawful d s origin words e (asked leaving words))
    (λ _. on_if (Lawful d s i) (has of_text words) (answers (answer.Value words)) (answers failed)
    (λ e. answer_kept me me (Unit {0}) d i (answer.Value words) refl tt (answers_itself interface (type_ids of_text) origin words e refl))
    (λ _. failed_kept me (Unit {0}) d i tt))

pub keeps : (d : List ℕ → Bool) (s : Quitter) (i : PlainInput) → Keeps d s i (reacted s i)
keeps d s (Content origin words) = reaction_lawful d s origin words
keeps d s Start = quiet_kept (fixed s.identity interface) (Unit {0}) d Start tt tt
keeps d s Stop = quiet_kept (fixed s.identity interface) (Unit {0}) d Stop tt tt
keeps d s (Response tag words) = quiet_kept (fixed s.identity interface) (Unit {0}) d (Response tag words) tt tt
keeps d s (Failed tag why) = quiet_kept (fixed s.identity interface) (Unit {0}) d (Failed tag why) tt tt
keeps d s (Down place why) = quiet_kept (fixed s.identity interface) (Unit {0}) d (Down place why) tt tt
keeps d s Tick = quiet_kept (fixed s.identity interface) (Unit {0}) d Tick tt tt

-- A cell keeps the laws.
use Rattle.std.specs.Prelude.{◌≡◌, ℕ, Bool, true, List, Option, Some, refl}
use Rattle.caf_actor.specs.declared.origin.Origin.{Origin}
use Rattle.caf_actor.specs.PlainInput.{PlainInput, Start, Stop, Content, Response, Failed, Down, Tick}
use Rattle.caf_words.specs.Datum.{Data, no_data, more, a_unit, a_signed, is_i64}
use Rattle.caf_kinds.specs.Asking.{type_ids, type_shapes, has, asked}
use Rattle.caf_kinds.specs.Who.{fixed}
use Rattle.caf_kinds.specs.Reacting.{Reacted, answers, done, signed, failed}
use Rattle.caf_kinds.specs.Lawful.{IsLawful}
use Rattle.caf_kinds.specs.Keeping.{on_if, first_of_and, asked_is, unit_sound, signed_sound, answers_by, answer_kept, failed_kept, quiet_kept}
use Rattle.caf_kinds.specs.Cell.{putting, getting, interface, put, given, reacted}
use Rattle.caf_kinds.specs.declared.cell.Cell.{Cell}

abbrev pub Keeps : (List ℕ → Bool) → Cell → PlainInput → Reacted Cell → Type 0
Keeps d s i r = IsLawful (fixed s.identity interface) (fixed r.0.identity interface) (is_i64 r.0.value ≡ true) d i r.1

put_keeps : (d : List ℕ → Bool) (s : Cell) (origin : Origin) (words : List ℕ) → is_i64 s.value ≡ true → has putting words ≡ true
    → (o : Option Data) → asked putting words ≡ o → Keeps d s (Content origin words) (put s o)
put_keeps d s origin words valid e (Some (more a_unit (more (a_signed v) no_data))) q =
    let fine = (asked_is (type_ids putting) (type_shapes putting) words (more a_unit (more (a_signed v) no_data)) q).range in
    answer_kept (fixed s.identity interface) (fixed s.identity interface) (is_i64 v ≡ true) d (Content origin words) done refl (first_of_and (is_i64 v) true fine)
    (answers_by interface (type_ids putting) origin words _ e refl unit_sound)
put_keeps d s origin words valid e _ q = failed_kept (fixed s.identity interface) (is_i64 s.value ≡ true) d (Content origin words) valid

given_keeps : (d : List ℕ → Bool) (s : Cell) (origin : Origin) (words : List ℕ) → is_i64 s.value ≡ true → Keeps d s (Content origin words) (given s words)
given_keeps d s origin words valid =
    let me = fixed s.identity interface in
    let i = Content origin words in
    on_if (Keeps d s i) (has putting words) (put s (asked putting words)) _
    (λ e. put_keeps d s origin words valid e (asked putting words) refl)
    (λ _. on_if (Keeps d s i) (has getting words) (s, answers (signed s.value)) (s, answers failed)
    (λ e. answer_kept me me (is_i64 s.value ≡ true) d i (signed s.value) refl valid (answers_by interface (type_ids getting) origin words _ e refl (signed_sound s.value valid)))
    (λ _. failed_kept me (is_i64 s.value ≡ true) d i valid))

pub keeps : (d : List ℕ → Bool) (s : Cell) (i : PlainInput) → is_i64 s.value ≡ true → Keeps d s i (reacted s i)
keeps d s (Content origin words) valid = given_keeps d s origin words valid
keeps d s Start valid = quiet_kept (fixed s.identity interface) (is_i64 s.value ≡ true) d Start valid tt
keeps d s Stop valid = quiet_kept (fixed s.identity interface) (is_i64 s.value ≡ true) d Stop valid tt
keeps d s (Response tag words) valid = quiet_kept (fixed s.identity interface) (is_i64 s.value ≡ true) d (Response tag words) valid tt
keeps d s (Failed tag why) valid = quiet_kept (fixed s.identity interface) (is_i64 s.value ≡ true) d (Failed tag why) valid tt
keeps d s (Down place why) valid = quiet_kept (fixed s.identity interface) (is_i64 s.value ≡ true) d (Down place why) valid tt
keeps d s Tick valid = quiet_kept (fixed s.identity interface) (is_i64 s.value ≡ true) d Tick valid tt

-- A calc keeps the laws.
use Rattle.std.specs.Prelude.{◌≡◌, ℕ, ℤ, bytes_eq, Bool, true, List, [], ◌∷◌, Option, Some, refl}
use Rattle.caf_actor.specs.declared.origin.Origin.{Origin}
use Rattle.caf_actor.specs.PlainInput.{PlainInput, Start, Stop, Content, Response, Failed, Down, Tick}
use Rattle.caf_actor.specs.PlainReaction.{PlainAnswer}
use Rattle.caf_words.specs.Datum.{Data, no_data, more, a_unit, a_signed, is_i64}
use Rattle.caf_actor.specs.Rules.{declared_for}
use Rattle.caf_message.specs.Content.{ids_in}
use Rattle.caf_kinds.specs.Asking.{type_ids, has, asked}
use Rattle.caf_kinds.specs.Who.{fixed}
use Rattle.caf_kinds.specs.Reacting.{Reacted, signed, failed}
use Rattle.caf_kinds.specs.Lawful.{IsLawful, IsLawfulAnswer}
use Rattle.caf_kinds.specs.Keeping.{on_if, signed_sound, answers_by, answer_kept, quiet_kept}
use Rattle.caf_kinds.specs.Calc.{adding, subtracting, multiplying, interface, sum, difference, product, number, on_two, answer_to, reacted}
use Rattle.caf_kinds.specs.declared.calc.Calc.{Calc}

abbrev Answers : (List ℕ → Bool) → Calc → Origin → List ℕ → PlainAnswer → Type 0
Answers d s origin words a = IsLawfulAnswer (fixed s.identity interface) d (Content origin words) a

-- an input, by its IDs, is answered by one number
abbrev IsAnsweredBySigned : List ℕ → Type 0
IsAnsweredBySigned input = declared_for interface input ≡ Some (3 ∷ [])

number_answers : (d : List ℕ → Bool) (s : Calc) (origin : Origin) (words input : List ℕ) → bytes_eq input (ids_in words) ≡ true → IsAnsweredBySigned input → (z : ℤ) → Answers d s origin words (number z)
number_answers d s origin words input e declares z =
    on_if (Answers d s origin words) (is_i64 z) (signed z) failed
    (λ fine. answers_by interface input origin words _ e declares (signed_sound z fine)) (λ _. tt)

two_answers : (d : List ℕ → Bool) (s : Calc) (origin : Origin) (words input : List ℕ) → bytes_eq input (ids_in words) ≡ true → IsAnsweredBySigned input → (f : ℤ → ℤ → ℤ) (o : Option Data) → Answers d s origin words (on_two f o)
two_answers d s origin words input e declares f (Some (more a_unit (more (a_signed x) (more (a_signed y) no_data)))) = number_answers d s origin words input e declares (f x y)
two_answers d s origin words input e declares f _ = tt

answers_well : (d : List ℕ → Bool) (s : Calc) (origin : Origin) (words : List ℕ) → Answers d s origin words (answer_to words)
answers_well d s origin words =
    on_if (Answers d s origin words) (has adding words) (on_two sum (asked adding words)) _
    (λ e. two_answers d s origin words (type_ids adding) e refl sum (asked adding words))
    (λ _. on_if (Answers d s origin words) (has subtracting words) (on_two difference (asked subtracting words)) _
    (λ e. two_answers d s origin words (type_ids subtracting) e refl difference (asked subtracting words))
    (λ _. on_if (Answers d s origin words) (has multiplying words) (on_two product (asked multiplying words)) failed
    (λ e. two_answers d s origin words (type_ids multiplying) e refl product (asked multiplying words))
    (λ _. tt)))

abbrev pub Keeps : (List ℕ → Bool) → Calc → PlainInput → Reacted Calc → Type 0
Keeps d s i r = IsLawful (fixed s.identity interface) (fixed r.0.identity interface) (Unit {0}) d i r.1

pub keeps : (d : List ℕ → Bool) (s : Calc) (i : PlainInput) → Keeps d s i (reacted s i)
keeps d s (Content origin words) =
    let me = fixed s.identity interface in
    answer_kept me me (Unit {0}) d (Content origin words) (answer_to words) refl tt (answers_well d s origin words)
keeps d s Start = quiet_kept (fixed s.identity interface) (Unit {0}) d Start tt tt
keeps d s Stop = quiet_kept (fixed s.identity interface) (Unit {0}) d Stop tt tt
keeps d s (Response tag words) = quiet_kept (fixed s.identity interface) (Unit {0}) d (Response tag words) tt tt
keeps d s (Failed tag why) = quiet_kept (fixed s.identity interface) (Unit {0}) d (Failed tag why) tt tt
keeps d s (Down place why) = quiet_kept (fixed s.identity interface) (Unit {0}) d (Down place why) tt tt
keeps d s Tick = quiet_kept (fixed s.identity interface) (Unit {0}) d Tick tt tt

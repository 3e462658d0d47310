-- A calc answers the sum, difference or product of two numbers.
use Rattle.std.specs.Prelude.{ℕ, ℤ, ◌+ℤ◌, ◌-ℤ◌, ◌*ℤ◌, List, [], ◌∷◌, if◌then◌else◌, Option, Some, None}
use Rattle.caf_types.specs.ShapeTree.{signed}
use Rattle.caf_words.specs.Datum.{Data, no_data, more, a_unit, a_signed, is_i64}
use Rattle.caf_signature.specs.declared.interface.Signature.{Signature}
use Rattle.caf_actor.specs.PlainInput.{PlainInput, Content}
use Rattle.caf_actor.specs.PlainReaction.{PlainAnswer}
use Rattle.caf_kinds.specs.Asking.{Types, atom, of_signed, takes, has, asked}
use Rattle.caf_kinds.specs.Reacting.{Reacted, quiet, answers, signed as signed_answer, failed}
use Rattle.caf_kinds.specs.declared.calc.Calc.{Calc}

abbrev pub adding : Types
adding = atom 211 ((3, signed) ∷ (3, signed) ∷ [])

abbrev pub subtracting : Types
subtracting = atom 212 ((3, signed) ∷ (3, signed) ∷ [])

abbrev pub multiplying : Types
multiplying = atom 213 ((3, signed) ∷ (3, signed) ∷ [])

abbrev pub interface : List Signature
interface = takes adding of_signed ∷ takes subtracting of_signed ∷ takes multiplying of_signed ∷ []

abbrev pub sum : ℤ → ℤ → ℤ
sum x y = x +ℤ y

abbrev pub difference : ℤ → ℤ → ℤ
difference x y = x -ℤ y

abbrev pub product : ℤ → ℤ → ℤ
product x y = x *ℤ y

-- the number, where there is one
abbrev pub checked : Option ℤ → PlainAnswer
checked (Some z) = signed_answer z
checked None = failed

-- the number; where it is outside 64 signed bits, the error `failed`
abbrev pub number : ℤ → PlainAnswer
number z = if is_i64 z then signed_answer z else failed

abbrev pub on_two : (ℤ → ℤ → ℤ) → Option Data → PlainAnswer
on_two f (Some (more a_unit (more (a_signed x) (more (a_signed y) no_data)))) = number (f x y)
on_two f _ = failed

abbrev pub answer_to : List ℕ → PlainAnswer
answer_to words =
    if has adding words then on_two sum (asked adding words)
    else if has subtracting words then on_two difference (asked subtracting words)
    else if has multiplying words then on_two product (asked multiplying words)
    else failed

abbrev pub reacted : Calc → PlainInput → Reacted Calc
reacted s (Content origin words) = (s, answers (answer_to words))
reacted s _ = (s, quiet)

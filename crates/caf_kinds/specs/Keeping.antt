-- How one shows that a reaction keeps the laws.
use Rattle.std.specs.Prelude.{◌≡◌, ℕ, ℤ, ◌&&◌, nat_lt, bytes_eq, if◌then◌else◌, Bool, true, false, List, min, Option, Some, None, Ok, Err, refl}
use Rattle.std.proofs.Common.{subst, inl, inr, arith}
use Rattle.std.proofs.lemmas.Bool.{lt-ltb}
use Rattle.std.proofs.lemmas.Slice.Eq.{bytes_eq-Decides}
use Rattle.caf_types.specs.ShapeTree.{ShapeTree}
use Rattle.caf_words.specs.Datum.{Data, no_data, more, a_unit, an_unsigned, a_signed, is_i64, are_in_range}
use Rattle.caf_words.specs.Reading.{Got}
use Rattle.caf_words.specs.Several.{several_fit}
use Rattle.caf_message.specs.Content.{ids_in}
use Rattle.caf_signature.specs.declared.interface.Signature.{Signature}
use Rattle.caf_actor.specs.declared.origin.Origin.{Origin}
use Rattle.caf_actor.specs.PlainInput.{PlainInput, Content}
use Rattle.caf_actor.specs.PlainReaction.{PlainAnswer}
use Rattle.caf_actor.specs.Rules.{declared_for}
use Rattle.caf_kinds.specs.Asking.{of_unit, of_unsigned, of_signed, asked_of, sound, sound_read, unit_content, unsigned_content, signed_content}
use Rattle.caf_kinds.specs.Who.{Fixed}
use Rattle.caf_kinds.specs.Reacting.{quiet, answers, failed}
use Rattle.caf_kinds.specs.Lawful.{IsSound, IsNotAsked, IsLawfulAnswer, AnswersContent, IsLawful}

-- ---- branches

-- what holds on both ways of a branch
pub on_if : {A : Type 0} (P : A → Type 0) (b : Bool) (x y : A) → (b ≡ true → P x) → (b ≡ false → P y) → P (if b then x else y)
on_if P true x y this that = this refl
on_if P false x y this that = that refl

pub first_of_and : (a b : Bool) → (a && b) ≡ true → a ≡ true
first_of_and true b e = refl
first_of_and false b e = e

pub second_of_and : (a b : Bool) → (a && b) ≡ true → b ≡ true
second_of_and true b e = e
second_of_and false b e = absurd cc

-- ---- what is asked is sound

pub record IsOfShapes (shapes : List ShapeTree) (values : Data) : Type 0 where
  pub fit : several_fit shapes values ≡ true
  pub range : are_in_range values ≡ true

sound_is : (shapes : List ShapeTree) (all values : Data) → sound shapes all ≡ Some values → IsOfShapes shapes values
sound_is shapes all values e = go (several_fit shapes all && are_in_range all) refl
  where
    go : (b : Bool) → (several_fit shapes all && are_in_range all) ≡ b → IsOfShapes shapes values
    go true q =
        let here : ◌≡◌ {A = Option Data} (Some all) (Some values) = rw q at e in
        let same : all ≡ values = cc in
        subst (IsOfShapes shapes) same
        (record { fit = first_of_and (several_fit shapes all) (are_in_range all) q; range = second_of_and (several_fit shapes all) (are_in_range all) q })
    go false q = let bad : ◌≡◌ {A = Option Data} None (Some values) = rw q at e in absurd cc

read_is : (shapes : List ShapeTree) (got : Got Data) (values : Data) → sound_read shapes got ≡ Some values → IsOfShapes shapes values
read_is shapes (Err left) values e = absurd cc
read_is shapes (Ok read) values e = sound_is shapes read.0 values e

pub asked_is : (ids : List ℕ) (shapes : List ShapeTree) (words : List ℕ) (values : Data) → asked_of ids shapes words ≡ Some values → IsOfShapes shapes values
unfolding asked_of
asked_is ids shapes words values e = go (bytes_eq ids (ids_in words)) refl
  where
    go : (b : Bool) → bytes_eq ids (ids_in words) ≡ b → IsOfShapes shapes values
    go true q = read_is shapes _ values (rw q at e)
    go false q = let bad : ◌≡◌ {A = Option Data} None (Some values) = rw q at e in absurd cc

-- ---- contents that many kinds answer

pub unit_sound : IsSound unit_content
unit_sound = (of_unit, record { core = refl; values = more a_unit no_data; words_are = refl; fit = refl; range = refl })

pub below : (n : ℕ) → nat_lt (min n 18446744073709551615) 18446744073709551616 ≡ true
below n = lt-ltb (min n 18446744073709551615) 18446744073709551616 (omega arith)

pub unsigned_sound : (n : ℕ) → IsSound (unsigned_content n)
unsigned_sound n = (of_unsigned, record { core = refl; values = more (an_unsigned (min n 18446744073709551615)) no_data; words_are = refl; fit = refl; range = rw (below n) refl })

pub signed_sound : (z : ℤ) → is_i64 z ≡ true → IsSound (signed_content z)
signed_sound z e = (of_signed, record { core = refl; values = more (a_signed z) no_data; words_are = refl; fit = refl; range = rw e refl })

-- ---- answers

-- content with these IDs is answered by what the interface declares for them
pub answers_by : (interface : List Signature) (input : List ℕ) (origin : Origin) (given words : List ℕ) → bytes_eq input (ids_in given) ≡ true
    → declared_for interface input ≡ Some (ids_in words) → IsSound words → AnswersContent interface (Content origin given) words
answers_by interface input origin given words e declares is =
    let same : input ≡ ids_in given = (bytes_eq-Decides input (ids_in given)).0 e in
    (subst (λ (ids : List ℕ). declared_for interface ids ≡ Some (ids_in words)) same declares, inl is)

-- content whose types are the declared ones is answered by itself
pub answers_itself : (interface : List Signature) (input : List ℕ) (origin : Origin) (given : List ℕ) → bytes_eq input (ids_in given) ≡ true
    → declared_for interface input ≡ Some input → AnswersContent interface (Content origin given) given
answers_itself interface input origin given e declares =
    let same : input ≡ ids_in given = (bytes_eq-Decides input (ids_in given)).0 e in
    (subst (λ (ids : List ℕ). declared_for interface ids ≡ Some ids) same declares, inr refl)

-- ---- reactions

-- an answer alone
pub answer_kept : (me : Fixed) (after : Fixed) (V : Type 0) (d : List ℕ → Bool) (i : PlainInput) (a : PlainAnswer) → after ≡ me → V → IsLawfulAnswer me d i a → IsLawful me after V d i (answers a)
answer_kept me after V d i a same v is = record { same = same; valid = v; outputs = tt; few = omega arith; answer = is }

pub failed_kept : (me : Fixed) (V : Type 0) (d : List ℕ → Bool) (i : PlainInput) → V → IsLawful me me V d i (answers failed)
failed_kept me V d i v = record { same = refl; valid = v; outputs = tt; few = omega arith; answer = tt }

pub quiet_kept : (me : Fixed) (V : Type 0) (d : List ℕ → Bool) (i : PlainInput) → V → IsNotAsked i → IsLawful me me V d i quiet
quiet_kept me V d i v is = record { same = refl; valid = v; outputs = tt; few = omega arith; answer = is }

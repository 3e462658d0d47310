-- What keeps the laws: one statement for all of them, about one reaction.
use Rattle.std.specs.Prelude.{◌≡◌, ℕ, ◌≤◌, ◌⊎◌, Bool, true, false, List, ◌∷◌, ◌++◌, Some, Contains}
use Rattle.std.specs.List.{AllByRecursion}
use Rattle.caf_types.specs.ShapeTree.{ShapeTree}
use Rattle.caf_words.specs.Datum.{Data, are_in_range}
use Rattle.caf_words.specs.Several.{several_fit}
use Rattle.caf_message.specs.Content.{content_of, ids_in}
use Rattle.caf_signature.specs.declared.interface.Signature.{Signature}
use Rattle.caf_actor.specs.Answering.{is_asked}
use Rattle.caf_actor.specs.PlainInput.{PlainInput, Stop, Content}
use Rattle.caf_actor.specs.PlainOutput.{PlainOutput, content_sent}
use Rattle.caf_actor.specs.PlainReaction.{PlainAnswer, PlainReaction}
use Rattle.caf_actor.specs.PlainReaction as answer
use Rattle.caf_actor.specs.Rules.{WhereGiven, output_targets, outputs_count, IsExit, IsNoTick, is_tick, is_input, declared_for}
use Rattle.caf_kinds.specs.Asking.{Types, AreCore, type_shapes}
use Rattle.caf_kinds.specs.Asking as asking
use Rattle.caf_kinds.specs.Who.{Who, Fixed}

-- ---- contents

-- the content of values of these types
pub record IsContentOf (types : Types) (words : List ℕ) : Type 0 where
  pub core : AreCore types
  pub values : Data
  pub words_are : words ≡ asking.content types values
  pub fit : several_fit (type_shapes types) values ≡ true
  pub range : are_in_range values ≡ true

-- the content is that of these values, which are of the shapes and in range
pub record IsRowContent (ids : List ℕ) (shapes : List ShapeTree) (words : List ℕ) (values : Data) : Type 0 where
  pub words_are : words ≡ content_of ids values
  pub fit : several_fit shapes values ≡ true
  pub range : are_in_range values ≡ true

-- the content of values of types of the table
abbrev pub IsSound : List ℕ → Type 0
IsSound words = (types : Types) × IsContentOf types words

-- ---- inputs

-- content is only given where its types are an input
abbrev pub IsGiven : List Signature → PlainInput → Type 0
IsGiven interface (Content origin words) = is_input interface (ids_in words) ≡ true
IsGiven interface _ = Unit {0}

abbrev pub is_stop : PlainInput → Bool
is_stop Stop = true
is_stop _ = false

-- ---- answers

abbrev pub IsTarget : Who → ℕ → Type 0
IsTarget who to = Contains (who.place ∷ (who.peers ++ who.reserve)) to

-- content is answered by content of the declared types: by that of sound values, or by itself
abbrev pub AnswersContent : List Signature → PlainInput → List ℕ → Type 0
AnswersContent interface (Content origin given) words =
    (declared_for interface (ids_in given) ≡ Some (ids_in words)) × (IsSound words ⊎ (words ≡ given))
AnswersContent interface _ words = ⊥

-- it is passed on to whom it may be, where that was said of its types
abbrev pub PassesOn : (List ℕ → Bool) → PlainInput → Type 0
PassesOn delegates (Content origin given) = delegates (ids_in given) ≡ true
PassesOn delegates _ = ⊥

-- a request isn't left without an answer
abbrev pub IsNotAsked : PlainInput → Type 0
IsNotAsked (Content origin given) = is_asked origin ≡ false
IsNotAsked _ = Unit {0}

abbrev pub IsLawfulAnswer : Fixed → (List ℕ → Bool) → PlainInput → PlainAnswer → Type 0
IsLawfulAnswer me delegates i (answer.Value words) = AnswersContent me.interface i words
IsLawfulAnswer me delegates i (answer.Error sec) = Unit {0}
IsLawfulAnswer me delegates i (answer.Delegate to) = PassesOn delegates i × IsTarget me.who to
IsLawfulAnswer me delegates i answer.Hold = Unit {0}
IsLawfulAnswer me delegates i answer.Nothing = IsNotAsked i

-- ---- outputs

pub record IsLawfulOutput (who : Who) (i : PlainInput) (o : PlainOutput) : Type 0 where
  pub targets : AllByRecursion (IsTarget who) (output_targets o)
  pub content : WhereGiven IsSound (content_sent o)
  pub at_stop : is_stop i ≡ true → IsExit o
  pub at_ticks : is_tick i ≡ false → IsNoTick o

-- ---- reactions

-- The reaction at the input of one that is `me`, and is `after` it; what holds of its values holds
-- of the next one.
pub record IsLawful (me after : Fixed) (IsValid : Type 0) (delegates : List ℕ → Bool) (i : PlainInput) (r : PlainReaction) : Type 0 where
  pub same : after ≡ me
  pub valid : IsValid
  pub outputs : AllByRecursion (IsLawfulOutput me.who i) r.outputs
  pub few : outputs_count r.outputs ≤ 1024
  pub answer : IsLawfulAnswer me delegates i r.answer

-- Answers that pass nothing on.
use Rattle.std.proofs.Common.{◌≡◌, ℕ, Bool, true, false, List, refl, sym, ap}
use Rattle.caf_response.specs.Promised.{Promised}
use Rattle.caf_actor.specs.declared.origin.Origin.{Origin}
use Rattle.caf_actor.specs.PlainReaction.{PlainAnswer}
use Rattle.caf_actor.specs.PlainReaction as answered
use Rattle.caf_message.specs.Content.{ids_in}
use Rattle.caf_actor.specs.PlainInput.{Content}
use Rattle.caf_actor.specs.Rules.{Rules, DelegatesAsTold, is_input}
use Rattle.caf_actor.specs.Snapshot.{Handled}
use Rattle.caf_actor.specs.Answering.{is_asked, promised_to, is_delegation, answer_request, answer_tell, answer}

module _ {S : Type 0} (t : Handled S) (xs ys : List ℕ) where
  same_request : (p : Promised) (a : PlainAnswer) → is_delegation a ≡ false → answer_request t p xs a ≡ answer_request t p ys a
  same_request p (answered.Value value) h = refl
  same_request p (answered.Error sec) h = refl
  same_request p (answered.Delegate to) h = cc
  same_request p answered.Hold h = refl
  same_request p answered.Nothing h = refl

  same_tell : (origin : Origin) (a : PlainAnswer) → is_delegation a ≡ false → answer_tell t origin xs a ≡ answer_tell t origin ys a
  same_tell origin (answered.Value value) h = refl
  same_tell origin (answered.Error sec) h = refl
  same_tell origin (answered.Delegate to) h = cc
  same_tell origin answered.Hold h = refl
  same_tell origin answered.Nothing h = refl

  -- no word of the content matters
  pub same_answer : (origin : Origin) (a : PlainAnswer) → is_delegation a ≡ false → answer t origin xs a ≡ answer t origin ys a
  same_answer origin a h = go (is_asked origin) refl
    where
      go : (b : Bool) → is_asked origin ≡ b → answer t origin xs a ≡ answer t origin ys a
      go true e = rw e (same_request (promised_to origin) a h)
      go false e = rw e (same_tell origin a h)

-- nor those of what was kept, unless it is passed on
pub kept_answer : {S : Type 0} (t : Handled S) (words kept : List ℕ) (origin : Origin) (a : PlainAnswer) → (is_delegation a ≡ true → kept ≡ words)
    → answer t origin words a ≡ answer t origin kept a
kept_answer t words kept origin a same = go (is_delegation a) refl
  where
    go : (b : Bool) → is_delegation a ≡ b → answer t origin words a ≡ answer t origin kept a
    go true e = ap (λ (ws : List ℕ). answer t origin ws a) (sym (same e))
    go false e = same_answer t words kept origin a e

-- content that is passed on is of types for which the behaviour said so
pub passes_as_told : {S : Type 0} (valid : S → Type 0) (rules : Rules S) → DelegatesAsTold valid rules → (s : S) (origin : Origin) (words : List ℕ) → valid s
    → is_input (rules.interface s) (ids_in words) ≡ true → (a : PlainAnswer) → (rules.reaction s (Content origin words)).answer ≡ a → is_delegation a ≡ true → rules.delegates s (ids_in words) ≡ true
passes_as_told valid rules told s origin words known may (answered.Value value) e h = cc
passes_as_told valid rules told s origin words known may (answered.Error sec) e h = cc
passes_as_told valid rules told s origin words known may (answered.Delegate to) e h = told s origin words to known may e
passes_as_told valid rules told s origin words known may answered.Hold e h = cc
passes_as_told valid rules told s origin words known may answered.Nothing e h = cc

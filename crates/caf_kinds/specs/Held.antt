-- Held requests with their texts.
use Rattle.std.specs.Prelude.{ℕ, List}
use Rattle.std.specs.List.{AllByRecursion}
use Rattle.caf_actor.specs.declared.origin.Origin.{Origin}
use Rattle.caf_actor.specs.PlainOutput.{PlainOutput}
use Rattle.caf_actor.specs.PlainOutput as output
use Rattle.caf_kinds.specs.Asking.{of_text}
use Rattle.caf_kinds.specs.Lawful.{IsContentOf}
use Rattle.caf_kinds.specs.declared.held.HeldRequest.{HeldRequest}

-- the request, and the content that it is answered by
pub record Held : Type 0 where
  pub requester : ℕ
  pub number : ℕ
  pub text : List ℕ

abbrev pub held : Origin → List ℕ → Held
held origin text = record { requester = origin.mid.requester; number = origin.mid.number; text = text }

abbrev pub delivered : Held → PlainOutput
delivered h = output.Deliver h.requester h.number h.text

abbrev pub held_view : HeldRequest → Held
held_view h = record { requester = h.requester; number = h.number; text = h.message.content }

abbrev pub AreTexts : List Held → Type 0
AreTexts hs = AllByRecursion (λ (h : Held). IsContentOf of_text h.text) hs

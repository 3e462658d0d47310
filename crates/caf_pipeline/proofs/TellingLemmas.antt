-- What is sent where content that is no request makes an actor tell things: exactly these, behind what was sent before.
use Rattle.std.proofs.Common.{◌≡◌, ℕ, true, false, List, [], ◌∷◌, ◌++◌, map, refl, sym, ap, ◌∙◌, append_assoc}
use Rattle.std.specs.List.{AllByRecursion}
use Rattle.std.proofs.lemmas.List.{append-nil}
use Rattle.caf_mailbox.proofs.NextLemmas.{all_append}
use Rattle.caf_message.specs.Content.{ids_in}
use Rattle.caf_message.specs.Envelope.{no_request}
use Rattle.caf_message.specs.declared.envelope.Plain.TheVariants as «plain»
use Rattle.caf_types.specs.declared.notice.Priority.{Priority}
use Rattle.caf_actor.specs.Answering.{is_asked}
use Rattle.caf_actor.specs.PlainInput.{PlainInput, Content}
use Rattle.caf_actor.specs.PlainOutput.{PlainOutput, Tell, TellMany, Request, Exit, Link, Unlink, Watch, Unwatch, Deliver, Break, Spawn, Tick, Delay, Within}
use Rattle.caf_actor.specs.PlainReaction.{PlainAnswer}
use Rattle.caf_actor.specs.Rules.{Rules, is_input}
use Rattle.caf_actor.specs.declared.origin.Origin.{Origin}
use Rattle.caf_kinds.specs.Reacting.{done}
use Rattle.caf_steady.specs.Outline.{Outlined, Bare, with_outline, tell, tell_many, send_outputs, answer}
use Rattle.caf_steady.specs.Reading.{react, content}

abbrev pub IsTelling : PlainOutput → Type 0
IsTelling (Tell to priority words) = Unit {0}
IsTelling (TellMany places priority words) = Unit {0}
IsTelling _ = ⊥

-- what a place tells, as an envelope
abbrev pub bare_told : ℕ → Priority → List ℕ → ℕ → Bare
bare_told place priority words to = record { sender = place; to = to; mid = no_request place; priority = priority; body = «plain».Content words }

abbrev pub told_bares : ℕ → List PlainOutput → List Bare
told_bares place [] = []
told_bares place (Tell to priority words ∷ os) = bare_told place priority words to ∷ told_bares place os
told_bares place (TellMany places priority words ∷ os) = map (bare_told place priority words) places ++ told_bares place os
told_bares place (_ ∷ os) = told_bares place os

pub told_append : (place : ℕ) (os ps : List PlainOutput) → AllByRecursion IsTelling os → told_bares place (os ++ ps) ≡ told_bares place os ++ told_bares place ps
told_append place [] ps all = refl
told_append place (Tell to priority words ∷ os) ps all = ap (λ bs. bare_told place priority words to ∷ bs) (told_append place os ps all.1)
told_append place (TellMany places priority words ∷ os) ps all =
    ap (λ bs. map (bare_told place priority words) places ++ bs) (told_append place os ps all.1) ∙ sym (append_assoc (map (bare_told place priority words) places) (told_bares place os) (told_bares place ps))
told_append place (Request to priority mode tag expected words ∷ os) ps all = absurd all.0
told_append place (Exit to why ∷ os) ps all = absurd all.0
told_append place (Link to ∷ os) ps all = absurd all.0
told_append place (Unlink to ∷ os) ps all = absurd all.0
told_append place (Watch to ∷ os) ps all = absurd all.0
told_append place (Unwatch to ∷ os) ps all = absurd all.0
told_append place (Deliver requester number words ∷ os) ps all = absurd all.0
told_append place (Break requester number sec ∷ os) ps all = absurd all.0
told_append place (Spawn p ∷ os) ps all = absurd all.0
told_append place (Tick to ∷ os) ps all = absurd all.0
told_append place (Delay ticks to priority words ∷ os) ps all = absurd all.0
told_append place (Within ticks to priority mode tag expected words ∷ os) ps all = absurd all.0

-- content that neither asks nor answers
pub record IsToldBare (b : Bare) : Type 0 where
  pub number : b.mid.number ≡ 0
  pub response : b.mid.response ≡ false
  pub words : List ℕ
  pub body : b.body ≡ «plain».Content words

many_told : (place : ℕ) (priority : Priority) (words : List ℕ) (places : List ℕ) → AllByRecursion IsToldBare (map (bare_told place priority words) places)
many_told place priority words [] = tt
many_told place priority words (to ∷ places) = (record { number = refl; response = refl; words = words; body = refl }, many_told place priority words places)

pub all_told_bares : (place : ℕ) (os : List PlainOutput) → AllByRecursion IsToldBare (told_bares place os)
all_told_bares place [] = tt
all_told_bares place (Tell to priority words ∷ os) = (record { number = refl; response = refl; words = words; body = refl }, all_told_bares place os)
all_told_bares place (TellMany places priority words ∷ os) = all_append IsToldBare (map (bare_told place priority words) places) (told_bares place os) (many_told place priority words places) (all_told_bares place os)
all_told_bares place (Request to priority mode tag expected words ∷ os) = all_told_bares place os
all_told_bares place (Exit to why ∷ os) = all_told_bares place os
all_told_bares place (Link to ∷ os) = all_told_bares place os
all_told_bares place (Unlink to ∷ os) = all_told_bares place os
all_told_bares place (Watch to ∷ os) = all_told_bares place os
all_told_bares place (Unwatch to ∷ os) = all_told_bares place os
all_told_bares place (Deliver requester number words ∷ os) = all_told_bares place os
all_told_bares place (Break requester number sec ∷ os) = all_told_bares place os
all_told_bares place (Spawn p ∷ os) = all_told_bares place os
all_told_bares place (Tick to ∷ os) = all_told_bares place os
all_told_bares place (Delay ticks to priority words ∷ os) = all_told_bares place os
all_told_bares place (Within ticks to priority mode tag expected words ∷ os) = all_told_bares place os

module _ {S : Type 0} where
  many_sent : (o : Outlined S) (places : List ℕ) (priority : Priority) (words : List ℕ) → (tell_many o places priority words).sent ≡ o.sent ++ map (bare_told o.outline.place priority words) places
  many_sent o [] priority words = sym (append-nil o.sent)
  many_sent o (to ∷ places) priority words =
      many_sent (tell o to priority words) places priority words
      ∙ append_assoc o.sent (bare_told o.outline.place priority words to ∷ []) (map (bare_told o.outline.place priority words) places)

  many_place : (o : Outlined S) (places : List ℕ) (priority : Priority) (words : List ℕ) → (tell_many o places priority words).outline.place ≡ o.outline.place
  many_place o [] priority words = refl
  many_place o (to ∷ places) priority words = many_place (tell o to priority words) places priority words

  pub tells_sent : (o : Outlined S) (os : List PlainOutput) → AllByRecursion IsTelling os → (send_outputs o os).sent ≡ o.sent ++ told_bares o.outline.place os
  tells_sent o [] all = sym (append-nil o.sent)
  tells_sent o (Tell to priority words ∷ os) all =
      tells_sent (tell o to priority words) os all.1 ∙ append_assoc o.sent (bare_told o.outline.place priority words to ∷ []) (told_bares o.outline.place os)
  tells_sent o (TellMany places priority words ∷ os) all =
      tells_sent (tell_many o places priority words) os all.1
      ∙ ap (λ (p : ℕ). (tell_many o places priority words).sent ++ told_bares p os) (many_place o places priority words)
      ∙ ap (λ (bs : List Bare). bs ++ told_bares o.outline.place os) (many_sent o places priority words)
      ∙ append_assoc o.sent (map (bare_told o.outline.place priority words) places) (told_bares o.outline.place os)
  tells_sent o (Request to priority mode tag expected words ∷ os) all = absurd all.0
  tells_sent o (Exit to why ∷ os) all = absurd all.0
  tells_sent o (Link to ∷ os) all = absurd all.0
  tells_sent o (Unlink to ∷ os) all = absurd all.0
  tells_sent o (Watch to ∷ os) all = absurd all.0
  tells_sent o (Unwatch to ∷ os) all = absurd all.0
  tells_sent o (Deliver requester number words ∷ os) all = absurd all.0
  tells_sent o (Break requester number sec ∷ os) all = absurd all.0
  tells_sent o (Spawn p ∷ os) all = absurd all.0
  tells_sent o (Tick to ∷ os) all = absurd all.0
  tells_sent o (Delay ticks to priority words ∷ os) all = absurd all.0
  tells_sent o (Within ticks to priority mode tag expected words ∷ os) all = absurd all.0

  -- content that is no request, and is answered by unit, which is dropped
  pub content_tells : (rules : Rules S) (o : Outlined S) (origin : Origin) (words : List ℕ) → is_input (rules.interface o.outline.behavior) (ids_in words) ≡ true → is_asked origin ≡ false
      → (rules.reaction o.outline.behavior (Content origin words)).answer ≡ done → AllByRecursion IsTelling (rules.reaction o.outline.behavior (Content origin words)).outputs
      → (content rules o origin words).sent ≡ o.sent ++ told_bares o.outline.place (rules.reaction o.outline.behavior (Content origin words)).outputs
  content_tells rules o origin words taken told answered all =
      let i : PlainInput = Content origin words in
      let after = with_outline o (record o.outline { behavior = rules.next o.outline.behavior i }) in
      let same : content rules o origin words ≡ react rules o i =
      rw taken (ap (λ (a : PlainAnswer). answer (react rules o i) origin words a) answered ∙ rw told refl) in
      ap (λ (x : Outlined S). x.sent) same ∙ tells_sent after (rules.reaction o.outline.behavior i).outputs all

-- Reading content: the value after it, and that what was told stays told.
use Rattle.std.proofs.Common.{◌≡◌, ℕ, nat_le, Bool, true, false, List, [], ◌∷◌, Option, Some, None, inl, inr, refl, sym, subst, ap, ◌∙◌}
use Rattle.std.specs.Prelude.{Contains}
use Rattle.std.proofs.lemmas.List.Elements.{Contains-append_left, Contains-push}
use Rattle.caf_types.specs.Limits.{last_count}
use Rattle.caf_types.specs.declared.notice.Mid.{Mid}
use Rattle.caf_types.specs.declared.notice.Priority.{Priority}
use Rattle.caf_types.specs.declared.shape.TypeId.{TypeId}
use Rattle.caf_index.proofs.ContainsLemmas.{contains-none, contains-cases}
use Rattle.caf_message.specs.Content.{ids_in}
use Rattle.caf_message.specs.Envelope.{no_request}
use Rattle.caf_message.specs.declared.envelope.Plain.{Plain}
use Rattle.caf_message.specs.declared.envelope.Plain.TheVariants as «plain»
use Rattle.caf_response.specs.declared.pending.Mode.{Mode}
use Rattle.caf_response.specs.Pending.{issued}
use Rattle.caf_response.specs.Promised.{Promised}
use Rattle.caf_response.specs.Holds.{take_hold}
use Rattle.caf_actor.specs.declared.origin.Origin.{Origin}
use Rattle.caf_actor.specs.Answering.{is_asked, promised_to}
use Rattle.caf_actor.specs.PlainInput.{PlainInput, Content}
use Rattle.caf_actor.specs.PlainOutput.{PlainOutput, Tell, TellMany, Request, Exit, Link, Unlink, Watch, Unwatch, Deliver, Break, Spawn, Tick, Delay, Within}
use Rattle.caf_actor.specs.PlainReaction.{PlainAnswer, Value, Error, Delegate, Hold, Nothing}
use Rattle.caf_actor.specs.Rules.{Rules, is_input}
use Rattle.caf_actor.specs.Sending.{mid_of}
use Rattle.caf_steady.specs.Outline.{Outlined, Bare, with_outline, send, tell, tell_many, request, settle_hold, send_output, send_outputs, answer_request, answer_tell, answer}
use Rattle.caf_steady.specs.Reading.{react, content}

-- ---- the value

module _ {S : Type 0} where
  many_same : (o : Outlined S) (places : List ℕ) (priority : Priority) (words : List ℕ) → (tell_many o places priority words).outline.behavior ≡ o.outline.behavior
  many_same o [] priority words = refl
  many_same o (to ∷ places) priority words = many_same (tell o to priority words) places priority words

  request_same : (o : Outlined S) (to : ℕ) (priority : Priority) (mode : Mode) (tag : ℕ) (expected : List TypeId) (words : List ℕ) → (request o to priority mode tag expected words).outline.behavior ≡ o.outline.behavior
  request_same o to priority mode tag expected words = go (nat_le o.outline.pending.next last_count) refl
    where
      go : (b : Bool) → nat_le o.outline.pending.next last_count ≡ b → (request o to priority mode tag expected words).outline.behavior ≡ o.outline.behavior
      go true q = rw q refl
      go false q = rw q refl

  hold_same : (o : Outlined S) (found : Option (Promised × List Promised)) (body : Plain) → (settle_hold o found body).outline.behavior ≡ o.outline.behavior
  hold_same o None body = refl
  hold_same o (Some found) body = refl

  output_same : (o : Outlined S) (one : PlainOutput) → (send_output o one).outline.behavior ≡ o.outline.behavior
  output_same o (Tell to priority words) = refl
  output_same o (TellMany places priority words) = many_same o places priority words
  output_same o (Request to priority mode tag expected words) = request_same o to priority mode tag expected words
  output_same o (Exit to reason) = refl
  output_same o (Deliver requester number words) = hold_same o (take_hold o.outline.holds requester number) («plain».Content words)
  output_same o (Break requester number sec) = hold_same o (take_hold o.outline.holds requester number) («plain».Failure sec)
  output_same o (Link to) = refl
  output_same o (Unlink to) = refl
  output_same o (Watch to) = refl
  output_same o (Unwatch to) = refl
  output_same o (Spawn place) = refl
  output_same o (Tick to) = refl
  output_same o (Delay ticks to priority words) = refl
  output_same o (Within ticks to priority mode tag expected words) = refl

  pub outputs_same : (o : Outlined S) (all : List PlainOutput) → (send_outputs o all).outline.behavior ≡ o.outline.behavior
  outputs_same o [] = refl
  outputs_same o (one ∷ more) = outputs_same (send_output o one) more ∙ output_same o one

  answer_same : (o : Outlined S) (origin : Origin) (words : List ℕ) (a : PlainAnswer) → (answer o origin words a).outline.behavior ≡ o.outline.behavior
  answer_same o origin words a = go (is_asked origin) refl
    where
      asked : (b : PlainAnswer) → (answer_request o (promised_to origin) words b).outline.behavior ≡ o.outline.behavior
      asked (Value value) = refl
      asked (Error sec) = refl
      asked (Delegate to) = refl
      asked Hold = refl
      asked Nothing = refl

      told : (b : PlainAnswer) → (answer_tell o origin words b).outline.behavior ≡ o.outline.behavior
      told (Value value) = refl
      told (Error sec) = refl
      told (Delegate to) = refl
      told Hold = refl
      told Nothing = refl

      go : (b : Bool) → is_asked origin ≡ b → (answer o origin words a).outline.behavior ≡ o.outline.behavior
      go true q = rw q (asked a)
      go false q = rw q (told a)

pub content_leads : {S : Type 0} (rules : Rules S) (o : Outlined S) (origin : Origin) (words : List ℕ) → is_input (rules.interface o.outline.behavior) (ids_in words) ≡ true
    → (content rules o origin words).outline.behavior ≡ rules.next o.outline.behavior (Content origin words)
content_leads rules o origin words taken =
    let i : PlainInput = Content origin words in
    let after = with_outline o (record o.outline { behavior = rules.next o.outline.behavior i }) in
    rw taken (answer_same (react rules o i) origin words (rules.reaction o.outline.behavior i).answer ∙ outputs_same after (rules.reaction o.outline.behavior i).outputs)

-- ---- what was told

-- the words went to the place, as content
pub record HasTold (to : ℕ) (words : List ℕ) (sent : List Bare) : Type 0 where
  pub bare : Bare
  pub is_sent : Contains sent bare
  pub to_is : bare.to ≡ to
  pub body_is : bare.body ≡ «plain».Content words

-- the output tells them to it
abbrev pub DoesTell : ℕ → List ℕ → PlainOutput → Type 0
DoesTell place said (Tell to priority words) = (to ≡ place) × (words ≡ said)
DoesTell place said (TellMany places priority words) = Contains places place × (words ≡ said)
DoesTell place said _ = ⊥

module _ {S : Type 0} (place : ℕ) (said : List ℕ) where
  abbrev Told : Outlined S → Type 0
  Told o = HasTold place said o.sent

  send_on : (o : Outlined S) (to : ℕ) (mid : Mid) (priority : Priority) (body : Plain) → Told o → Told (send o to mid priority body)
  send_on o to mid priority body h =
      record { bare = h.bare; is_sent = Contains-append_left o.sent (record { sender = o.outline.place; to = to; mid = mid; priority = priority; body = body } ∷ []) h.bare h.is_sent; to_is = h.to_is; body_is = h.body_is }

  tell_now : (o : Outlined S) (to : ℕ) (priority : Priority) (words : List ℕ) → to ≡ place → words ≡ said → Told (tell o to priority words)
  tell_now o to priority words e f = record {
    bare = _;
    is_sent = Contains-push o.sent (record { sender = o.outline.place; to = to; mid = no_request o.outline.place; priority = priority; body = «plain».Content words });
    to_is = e;
    body_is = ap «plain».Content f;
  }

  many_on : (o : Outlined S) (places : List ℕ) (priority : Priority) (words : List ℕ) → Told o → Told (tell_many o places priority words)
  many_on o [] priority words h = h
  many_on o (to ∷ places) priority words h = many_on (tell o to priority words) places priority words (send_on o to (no_request o.outline.place) priority («plain».Content words) h)

  many_now : (o : Outlined S) (places : List ℕ) (priority : Priority) (words : List ℕ) → Contains places place → words ≡ said → Told (tell_many o places priority words)
  many_now o [] priority words has f = absurd (contains-none place has)
  many_now o (to ∷ places) priority words has f = elim (contains-cases to place places has) [
    | inl is ↦ many_on (tell o to priority words) places priority words (tell_now o to priority words is f)
    | inr later ↦ many_now (tell o to priority words) places priority words later f
  ]

  request_on : (o : Outlined S) (to : ℕ) (priority : Priority) (mode : Mode) (tag : ℕ) (expected : List TypeId) (words : List ℕ) → Told o → Told (request o to priority mode tag expected words)
  request_on o to priority mode tag expected words h = go (nat_le o.outline.pending.next last_count) refl
    where
      go : (b : Bool) → nat_le o.outline.pending.next last_count ≡ b → Told (request o to priority mode tag expected words)
      go true q = rw q (send_on (with_outline o (record o.outline { pending = issued o.outline.pending mode tag expected })) to (mid_of o.outline.place o.outline.pending.next) priority («plain».Content words) h)
      go false q = rw q h

  hold_on : (o : Outlined S) (found : Option (Promised × List Promised)) (body : Plain) → Told o → Told (settle_hold o found body)
  hold_on o None body h = h
  hold_on o (Some found) body h = send_on (with_outline o (record o.outline { holds = found.1 })) _ _ _ body h

  output_on : (o : Outlined S) (one : PlainOutput) → Told o → Told (send_output o one)
  output_on o (Tell to priority words) h = send_on o to _ priority _ h
  output_on o (TellMany places priority words) h = many_on o places priority words h
  output_on o (Request to priority mode tag expected words) h = request_on o to priority mode tag expected words h
  output_on o (Exit to reason) h = send_on o to _ _ _ h
  output_on o (Deliver requester number words) h = hold_on o (take_hold o.outline.holds requester number) («plain».Content words) h
  output_on o (Break requester number sec) h = hold_on o (take_hold o.outline.holds requester number) («plain».Failure sec) h
  output_on o (Link to) h = h
  output_on o (Unlink to) h = h
  output_on o (Watch to) h = h
  output_on o (Unwatch to) h = h
  output_on o (Spawn place) h = h
  output_on o (Tick to) h = h
  output_on o (Delay ticks to priority words) h = h
  output_on o (Within ticks to priority mode tag expected words) h = h

  outputs_on : (o : Outlined S) (all : List PlainOutput) → Told o → Told (send_outputs o all)
  outputs_on o [] h = h
  outputs_on o (one ∷ more) h = outputs_on (send_output o one) more (output_on o one h)

  output_now : (o : Outlined S) (one : PlainOutput) → DoesTell place said one → Told (send_output o one)
  output_now o (Tell to priority words) does = tell_now o to priority words does.0 does.1
  output_now o (TellMany places priority words) does = many_now o places priority words does.0 does.1
  output_now o (Request to priority mode tag expected words) does = absurd does
  output_now o (Exit to reason) does = absurd does
  output_now o (Deliver requester number words) does = absurd does
  output_now o (Break requester number sec) does = absurd does
  output_now o (Link to) does = absurd does
  output_now o (Unlink to) does = absurd does
  output_now o (Watch to) does = absurd does
  output_now o (Unwatch to) does = absurd does
  output_now o (Spawn place) does = absurd does
  output_now o (Tick to) does = absurd does
  output_now o (Delay ticks to priority words) does = absurd does
  output_now o (Within ticks to priority mode tag expected words) does = absurd does

  pub outputs_now : (o : Outlined S) (all : List PlainOutput) (one : PlainOutput) → Contains all one → DoesTell place said one → Told (send_outputs o all)
  outputs_now o [] one has does = absurd (contains-none one has)
  outputs_now o (x ∷ xs) one has does = elim (contains-cases x one xs has) [
    | inl is ↦ outputs_on (send_output o x) xs (output_now o x (subst (DoesTell place said) (sym is) does))
    | inr later ↦ outputs_now (send_output o x) xs one later does
  ]

  answer_on : (o : Outlined S) (origin : Origin) (words : List ℕ) (a : PlainAnswer) → Told o → Told (answer o origin words a)
  answer_on o origin words a h = go (is_asked origin) refl
    where
      asked : (b : PlainAnswer) → Told (answer_request o (promised_to origin) words b)
      asked (Value value) = send_on o _ _ _ («plain».Content value) h
      asked (Error sec) = send_on o _ _ _ («plain».Failure sec) h
      asked (Delegate to) = send_on o to origin.mid origin.priority («plain».Content words) h
      asked Hold = h
      asked Nothing = h

      told : (b : PlainAnswer) → Told (answer_tell o origin words b)
      told (Value value) = h
      told (Error sec) = h
      told (Delegate to) = send_on o to _ origin.priority («plain».Content words) h
      told Hold = h
      told Nothing = h

      go : (b : Bool) → is_asked origin ≡ b → Told (answer o origin words a)
      go true q = rw q (asked a)
      go false q = rw q (told a)

  pub content_on : (rules : Rules S) (o : Outlined S) (origin : Origin) (words : List ℕ) → is_input (rules.interface o.outline.behavior) (ids_in words) ≡ true → Told o → Told (content rules o origin words)
  content_on rules o origin words taken h =
      let i : PlainInput = Content origin words in
      let after = with_outline o (record o.outline { behavior = rules.next o.outline.behavior i }) in
      rw taken (answer_on (react rules o i) origin words (rules.reaction o.outline.behavior i).answer (outputs_on after (rules.reaction o.outline.behavior i).outputs h))

  pub content_now : (rules : Rules S) (o : Outlined S) (origin : Origin) (words : List ℕ) → is_input (rules.interface o.outline.behavior) (ids_in words) ≡ true
      → (one : PlainOutput) → Contains (rules.reaction o.outline.behavior (Content origin words)).outputs one → DoesTell place said one → Told (content rules o origin words)
  content_now rules o origin words taken one has does =
      let i : PlainInput = Content origin words in
      let after = with_outline o (record o.outline { behavior = rules.next o.outline.behavior i }) in
      rw taken (answer_on (react rules o i) origin words (rules.reaction o.outline.behavior i).answer (outputs_now after (rules.reaction o.outline.behavior i).outputs one has does))

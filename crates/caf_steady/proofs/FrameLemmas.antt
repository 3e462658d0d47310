-- What was sent before doesn't matter to what is sent next.
use Rattle.std.proofs.Common.{◌≡◌, ℕ, ◌++◌, ◌∙◌, nat_le, Bool, true, false, List, [], ◌∷◌, Option, Some, None, refl, ap, append_assoc, if◌then◌else◌}
use Rattle.caf_types.specs.Limits.{last_count}
use Rattle.caf_types.specs.declared.notice.Mid.{Mid}
use Rattle.caf_types.specs.declared.notice.Notice.{Notice}
use Rattle.caf_types.specs.declared.notice.Notice.TheVariants as notice
use Rattle.caf_types.specs.declared.notice.Priority.{Priority}
use Rattle.caf_types.specs.declared.sec.Sec.{Sec}
use Rattle.caf_types.specs.declared.sec.Sec.TheVariants.{UnexpectedMessage}
use Rattle.caf_types.specs.declared.shape.TypeId.{TypeId}
use Rattle.caf_message.specs.Content.{ids_in}
use Rattle.caf_message.specs.declared.envelope.Plain.{Plain}
use Rattle.caf_message.specs.declared.envelope.Plain.TheVariants as «plain»
use Rattle.caf_message.specs.declared.envelope.Taken.{Taken}
use Rattle.caf_response.specs.declared.pending.Mode.{Mode}
use Rattle.caf_response.specs.declared.pending.Waiting.{Waiting}
use Rattle.caf_response.specs.Pending.{WaitingRequests, resolved}
use Rattle.caf_response.specs.Promised.{Promised}
use Rattle.caf_response.specs.Holds.{take_hold}
use Rattle.caf_actor.specs.declared.origin.Origin.{Origin}
use Rattle.caf_actor.specs.Answering.{origin_of, is_asked, promised_to}
use Rattle.caf_actor.specs.Handling.{response_input, failure_input}
use Rattle.caf_actor.specs.PlainInput.{PlainInput, Start, Stop, Content}
use Rattle.caf_actor.specs.PlainOutput.{PlainOutput, Tell, TellMany, Request, Exit, Link, Unlink, Watch, Unwatch, Deliver, Break, Spawn, Tick, Delay, Within}
use Rattle.caf_actor.specs.PlainReaction.{PlainAnswer, Value, Error, Delegate, Hold, Nothing}
use Rattle.caf_actor.specs.Rules.{Rules, is_input}
use Rattle.caf_steady.specs.Outline.{Outlined, Bare, with_outline, send, tell, tell_many, reply, request, settle_hold, send_output, send_outputs, refuse, answer_request, answer_tell, answer}
use Rattle.caf_steady.specs.Reading.{react, content, resolve, response, notified, read_body, read_one, read}

-- the same with these before
abbrev pub behind : {S : Type 0} → List Bare → Outlined S → Outlined S
behind xs o = record { outline = o.outline; sent = xs ++ o.sent }

module _ {S : Type 0} (xs : List Bare) where
  send_behind : (o : Outlined S) (to : ℕ) (mid : Mid) (priority : Priority) (body : Plain) → send (behind xs o) to mid priority body ≡ behind xs (send o to mid priority body)
  send_behind o to mid priority body =
      ap (λ (more : List Bare). record { outline = o.outline; sent = more }) (append_assoc xs o.sent (record { sender = o.outline.place; to = to; mid = mid; priority = priority; body = body } ∷ []))

  tell_many_behind : (o : Outlined S) (places : List ℕ) (priority : Priority) (words : List ℕ) → tell_many (behind xs o) places priority words ≡ behind xs (tell_many o places priority words)
  tell_many_behind o [] priority words = refl
  tell_many_behind o (to ∷ places) priority words =
      ap (λ (p : Outlined S). tell_many p places priority words) (send_behind o to _ priority («plain».Content words)) ∙ tell_many_behind (tell o to priority words) places priority words

  reply_behind : (o : Outlined S) (p : Promised) (body : Plain) → reply (behind xs o) p body ≡ behind xs (reply o p body)
  reply_behind o p body = send_behind o _ _ _ body

  request_behind : (o : Outlined S) (to : ℕ) (priority : Priority) (mode : Mode) (tag : ℕ) (expected : List TypeId) (words : List ℕ)
      → request (behind xs o) to priority mode tag expected words ≡ behind xs (request o to priority mode tag expected words)
  request_behind o to priority mode tag expected words = go (nat_le o.outline.pending.next last_count) refl
    where
      go : (b : Bool) → nat_le o.outline.pending.next last_count ≡ b
          → request (behind xs o) to priority mode tag expected words ≡ behind xs (request o to priority mode tag expected words)
      go true q = rw q (send_behind (with_outline o _) to _ priority («plain».Content words))
      go false q = rw q refl

  hold_behind : (o : Outlined S) (found : Option (Promised × List Promised)) (body : Plain) → settle_hold (behind xs o) found body ≡ behind xs (settle_hold o found body)
  hold_behind o None body = refl
  hold_behind o (Some found) body = reply_behind (with_outline o (record o.outline { holds = found.1 })) found.0 body

  output_behind : (o : Outlined S) (one : PlainOutput) → send_output (behind xs o) one ≡ behind xs (send_output o one)
  output_behind o (Tell to priority words) = send_behind o to _ priority _
  output_behind o (TellMany places priority words) = tell_many_behind o places priority words
  output_behind o (Request to priority mode tag expected words) = request_behind o to priority mode tag expected words
  output_behind o (Exit to reason) = send_behind o to _ _ _
  output_behind o (Deliver requester number words) = hold_behind o (take_hold o.outline.holds requester number) («plain».Content words)
  output_behind o (Break requester number sec) = hold_behind o (take_hold o.outline.holds requester number) («plain».Failure sec)
  output_behind o (Link to) = refl
  output_behind o (Unlink to) = refl
  output_behind o (Watch to) = refl
  output_behind o (Unwatch to) = refl
  output_behind o (Spawn place) = refl
  output_behind o (Tick to) = refl
  output_behind o (Delay ticks to priority words) = refl
  output_behind o (Within ticks to priority mode tag expected words) = refl

  outputs_behind : (o : Outlined S) (all : List PlainOutput) → send_outputs (behind xs o) all ≡ behind xs (send_outputs o all)
  outputs_behind o [] = refl
  outputs_behind o (one ∷ more) = ap (λ (p : Outlined S). send_outputs p more) (output_behind o one) ∙ outputs_behind (send_output o one) more

  refuse_behind : (o : Outlined S) (origin : Origin) (sec : Sec) → refuse (behind xs o) origin sec ≡ behind xs (refuse o origin sec)
  refuse_behind o origin sec = go (is_asked origin) refl
    where
      go : (b : Bool) → is_asked origin ≡ b → refuse (behind xs o) origin sec ≡ behind xs (refuse o origin sec)
      go true q = rw q (reply_behind o (promised_to origin) («plain».Failure sec))
      go false q = rw q refl

  request_answer_behind : (o : Outlined S) (p : Promised) (words : List ℕ) (a : PlainAnswer) → answer_request (behind xs o) p words a ≡ behind xs (answer_request o p words a)
  request_answer_behind o p words (Value value) = reply_behind o p _
  request_answer_behind o p words (Error sec) = reply_behind o p _
  request_answer_behind o p words (Delegate to) = send_behind o to p.mid p.priority _
  request_answer_behind o p words Hold = refl
  request_answer_behind o p words Nothing = refl

  tell_answer_behind : (o : Outlined S) (origin : Origin) (words : List ℕ) (a : PlainAnswer) → answer_tell (behind xs o) origin words a ≡ behind xs (answer_tell o origin words a)
  tell_answer_behind o origin words (Delegate to) = send_behind o to _ origin.priority _
  tell_answer_behind o origin words (Value value) = refl
  tell_answer_behind o origin words (Error sec) = refl
  tell_answer_behind o origin words Hold = refl
  tell_answer_behind o origin words Nothing = refl

  answer_behind : (o : Outlined S) (origin : Origin) (words : List ℕ) (a : PlainAnswer) → answer (behind xs o) origin words a ≡ behind xs (answer o origin words a)
  answer_behind o origin words a = go (is_asked origin) refl
    where
      go : (b : Bool) → is_asked origin ≡ b → answer (behind xs o) origin words a ≡ behind xs (answer o origin words a)
      go true q = rw q (request_answer_behind o (promised_to origin) words a)
      go false q = rw q (tell_answer_behind o origin words a)

module _ {S : Type 0} (rules : Rules S) (xs : List Bare) where
  react_behind : (o : Outlined S) (i : PlainInput) → react rules (behind xs o) i ≡ behind xs (react rules o i)
  react_behind o i = outputs_behind xs (with_outline o _) (rules.reaction o.outline.behavior i).outputs

  content_behind : (o : Outlined S) (origin : Origin) (words : List ℕ) → content rules (behind xs o) origin words ≡ behind xs (content rules o origin words)
  content_behind o origin words = go (is_input (rules.interface o.outline.behavior) (ids_in words)) refl
    where
      a : PlainAnswer
      a = (rules.reaction o.outline.behavior (Content origin words)).answer

      go : (b : Bool) → is_input (rules.interface o.outline.behavior) (ids_in words) ≡ b → content rules (behind xs o) origin words ≡ behind xs (content rules o origin words)
      go true q = rw q (ap (λ (p : Outlined S). answer p origin words a) (react_behind o (Content origin words)) ∙ answer_behind xs (react rules o (Content origin words)) origin words a)
      go false q = rw q (refuse_behind xs o origin UnexpectedMessage)

  resolve_behind : (o : Outlined S) (input : Waiting → PlainInput) (found : Option (Waiting × WaitingRequests)) → resolve rules (behind xs o) input found ≡ behind xs (resolve rules o input found)
  resolve_behind o input None = refl
  resolve_behind o input (Some found) = react_behind (with_outline o (record o.outline { pending = found.1 })) (input found.0)

  notified_behind : (o : Outlined S) (what : Notice) → notified rules (behind xs o) what ≡ behind xs (notified rules o what)
  notified_behind o notice.Start = react_behind o Start
  notified_behind o notice.Stop = react_behind o Stop
  notified_behind o (notice.Exit from why) = refl
  notified_behind o (notice.Link from) = refl
  notified_behind o (notice.Unlink from) = refl
  notified_behind o (notice.Watch from) = refl
  notified_behind o (notice.Unwatch from) = refl
  notified_behind o (notice.Down from why) = refl
  notified_behind o (notice.Begin from) = refl
  notified_behind o (notice.Tick from) = refl

  body_behind : (o : Outlined S) (origin : Origin) (body : Plain) → read_body rules (behind xs o) origin body ≡ behind xs (read_body rules o origin body)
  body_behind o origin («plain».System what) = notified_behind o what
  body_behind o origin («plain».Failure sec) = resolve_behind o (λ w. failure_input w sec) (resolved o.outline.pending origin.mid.number)
  body_behind o origin («plain».Content words) = go origin.mid.response
    where
      go : (b : Bool) → (if b then response rules (behind xs o) origin.mid.number (λ w. response_input w words) else content rules (behind xs o) origin words)
          ≡ behind xs (if b then response rules o origin.mid.number (λ w. response_input w words) else content rules o origin words)
      go true = resolve_behind o (λ w. response_input w words) (resolved o.outline.pending origin.mid.number)
      go false = content_behind o origin words

  pub read_behind : (o : Outlined S) (es : List Taken) → read rules (behind xs o) es ≡ behind xs (read rules o es)
  read_behind o [] = refl
  read_behind o (e ∷ es) = ap (λ (p : Outlined S). read rules p es) (body_behind o (origin_of e) e.body) ∙ read_behind (read_one rules o e) es

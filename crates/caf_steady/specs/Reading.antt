-- What an actor does with envelopes, one after the other.
use Rattle.std.specs.Prelude.{ℕ, if◌then◌else◌, List, [], ◌∷◌, ◌++◌, filter, Option, Some, None}
use Rattle.caf_types.specs.declared.notice.Notice.{Notice}
use Rattle.caf_types.specs.declared.notice.Notice.TheVariants as notice
use Rattle.caf_types.specs.declared.sec.Sec.TheVariants.{UnexpectedMessage}
use Rattle.caf_message.specs.Content.{ids_in}
use Rattle.caf_message.specs.declared.envelope.Plain.{Plain}
use Rattle.caf_message.specs.declared.envelope.Plain.TheVariants as «plain»
use Rattle.caf_message.specs.declared.envelope.Taken.{Taken}
use Rattle.caf_mailbox.specs.Caches.{is_urgent, is_normal}
use Rattle.caf_response.specs.declared.pending.Waiting.{Waiting}
use Rattle.caf_response.specs.Pending.{WaitingRequests, resolved}
use Rattle.caf_actor.specs.declared.journal.TakenBatch.{TakenBatch}
use Rattle.caf_actor.specs.declared.origin.Origin.{Origin}
use Rattle.caf_actor.specs.Answering.{origin_of}
use Rattle.caf_actor.specs.Handling.{response_input, failure_input}
use Rattle.caf_actor.specs.PlainInput.{PlainInput, Start, Stop, Content}
use Rattle.caf_actor.specs.Rules.{Rules, is_input}
use Rattle.caf_steady.specs.Outline.{Outlined, with_outline, send_outputs, refuse, answer}

module _ {S : Type 0} (rules : Rules S) where
  -- the behaviour takes an input, and its outputs are sent
  abbrev pub react : Outlined S → PlainInput → Outlined S
  react o i =
      send_outputs (with_outline o (record o.outline { behavior = rules.next o.outline.behavior i })) (rules.reaction o.outline.behavior i).outputs

  abbrev pub content : Outlined S → Origin → List ℕ → Outlined S
  content o origin words =
      if is_input (rules.interface o.outline.behavior) (ids_in words)
      then answer (react o (Content origin words)) origin words (rules.reaction o.outline.behavior (Content origin words)).answer
      else refuse o origin UnexpectedMessage

  abbrev pub resolve : Outlined S → (Waiting → PlainInput) → Option (Waiting × WaitingRequests) → Outlined S
  resolve o input None = o
  resolve o input (Some found) = react (with_outline o (record o.outline { pending = found.1 })) (input found.0)

  abbrev pub response : Outlined S → ℕ → (Waiting → PlainInput) → Outlined S
  response o number input = resolve o input (resolved o.outline.pending number)

  -- of the notices a steady actor takes Start and Stop alone
  abbrev pub notified : Outlined S → Notice → Outlined S
  notified o notice.Start = react o Start
  notified o notice.Stop = react o Stop
  notified o _ = o

  abbrev pub read_body : Outlined S → Origin → Plain → Outlined S
  read_body o origin («plain».System what) = notified o what
  read_body o origin («plain».Failure sec) = response o origin.mid.number (λ w. failure_input w sec)
  read_body o origin («plain».Content words) =
      if origin.mid.response then response o origin.mid.number (λ w. response_input w words) else content o origin words

  abbrev pub read_one : Outlined S → Taken → Outlined S
  read_one o e = read_body o (origin_of e) e.body

  abbrev pub read : Outlined S → List Taken → Outlined S
  read o [] = o
  read o (e ∷ es) = read (read_one o e) es

-- ---- the order of reading

-- the urgent ones before the normal ones
abbrev pub in_turn : List Taken → List Taken
in_turn es = filter is_urgent es ++ filter is_normal es

-- each batch in turn
abbrev pub all_in_turn : List TakenBatch → List Taken
all_in_turn [] = []
all_in_turn (b ∷ bs) = in_turn b.taken ++ all_in_turn bs

-- Which envelopes an actor may handle now, and which one is next.
use Rattle.std.specs.Prelude.{ℕ, ◌==◌, ◌&&◌, Bool, true, not, if◌then◌else◌, Option, Some, None, is_some, is_none}
use Rattle.caf_message.specs.declared.envelope.Taken.{Taken}
use Rattle.caf_message.specs.declared.envelope.Plain.{Plain}
use Rattle.caf_message.specs.declared.envelope.Plain.TheVariants as «plain»
use Rattle.caf_message.specs.Content.{ids_in}
use Rattle.caf_message.specs.Envelope.{is_system, is_response}
use Rattle.caf_mailbox.specs.Caches.{CachedLists, next_of}
use Rattle.caf_response.specs.Pending.{top_number}
use Rattle.caf_actor.specs.declared.snapshot.Snapshot.{Snapshot}
use Rattle.caf_actor.specs.Rules.{Rules}

-- ---- which envelopes are eligible

-- the behaviour doesn't keep the content for later
abbrev pub is_wanted : {S : Type 0} → Rules S → S → Plain → Bool
is_wanted rules behavior («plain».Content words) = not (rules.skips behavior (ids_in words))
is_wanted rules behavior («plain».Failure sec) = true
is_wanted rules behavior («plain».System notice) = true

-- a response: while one is awaited, it alone
abbrev pub is_awaited : Option ℕ → ℕ → Bool
is_awaited None number = true
is_awaited (Some top) number = number == top

-- content: while none is awaited, where the behaviour wants it
abbrev pub is_turn : {S : Type 0} → Rules S → S → Option ℕ → Taken → Bool
is_turn rules behavior awaited e =
    if is_response e then is_awaited awaited e.mid.number else is_none awaited && is_wanted rules behavior e.body

-- to a quit actor every envelope; else system notices at any time, and others once it has begun
abbrev pub is_eligible_when : {S : Type 0} → Rules S → S → Bool → Bool → Option ℕ → Taken → Bool
is_eligible_when rules behavior has_begun has_quit awaited e =
    if has_quit then true else if is_system e then true else has_begun && is_turn rules behavior awaited e

abbrev pub is_eligible : {S : Type 0} → Rules S → Snapshot S → Taken → Bool
is_eligible rules s = is_eligible_when rules s.behavior s.has_begun (is_some s.quit) (top_number s.pending.awaited)

-- ---- the next envelope

abbrev pub with_caches : {S : Type 0} → Snapshot S → Option (Taken × CachedLists) → Option (Taken × Snapshot S)
with_caches s None = None
with_caches s (Some p) = Some (p.0, record s { caches = p.1 })

-- the first eligible one of the urgent list, else of the normal list, and the snapshot without it
abbrev pub next_envelope : {S : Type 0} → Rules S → Snapshot S → Option (Taken × Snapshot S)
next_envelope rules s = with_caches s (next_of (is_eligible rules s) s.caches)

-- How requests end.
use Rattle.std.specs.Prelude.{◌≡◌, ◌≢◌, ℕ, zero, suc, ◌+◌, ◌==◌, ◌&&◌, nat_le, nat_lt, Bool, true, false, if◌then◌else◌, List, [], ◌∷◌, ◌++◌, map, count_by, Option, Some, None, is_none}
use Rattle.caf_types.specs.declared.notice.Notice.{Notice}
use Rattle.caf_types.specs.declared.notice.Notice.TheVariants as notice
use Rattle.caf_words.specs.Several.{ids_of}
use Rattle.caf_message.specs.declared.envelope.Taken.{Taken}
use Rattle.caf_message.specs.declared.envelope.Plain.{Plain}
use Rattle.caf_message.specs.declared.envelope.Plain.TheVariants as «plain»
use Rattle.caf_message.specs.Content.{ids_in}
use Rattle.caf_message.specs.Envelope.{is_response}
use Rattle.caf_response.specs.declared.pending.Waiting.{Waiting}
use Rattle.caf_response.specs.Pending.{WaitingRequests, resolved, waiting_count}
use Rattle.caf_actor.specs.declared.snapshot.Snapshot.{Snapshot}
use Rattle.caf_actor.specs.PlainInput.{PlainInput}
use Rattle.caf_actor.specs.PlainInput as input
use Rattle.caf_actor.specs.Rules.{Rules, fed}
use Rattle.caf_actor.specs.Snapshot.{Handled, so_far, with_snapshot, cached}
use Rattle.caf_actor.specs.Eligibility.{next_envelope}
use Rattle.caf_actor.specs.Ticking.{timeout_input, time_out, next_due, due_count, advance}
use Rattle.caf_actor.specs.Handling.{handle_one, response_input, failure_input}
use Rattle.caf_actor.specs.Drain.{with_batch, batch_of}

-- ---- resolutions

-- by a response, or by a tick at which the request was due
pub data Cause : Type 0 where
  Answered : Cause
  TimedOut : Cause

-- a request that was taken out of the waiting ones, and what the behaviour was given for it
pub record Resolution : Type 0 where
  pub cause : Cause
  pub request : Waiting
  pub given : PlainInput

-- by a value of the declared types, or by an error
abbrev pub EndsBy : Waiting → PlainInput → Type 0
EndsBy w (input.Response tag words) = (tag ≡ w.tag) × (ids_in words ≡ ids_of w.expected)
EndsBy w (input.Failed tag sec) = tag ≡ w.tag
EndsBy w _ = ⊥

-- a tick by the error that says so
abbrev pub EndsFor : Cause → Waiting → PlainInput → Type 0
EndsFor Answered w given = EndsBy w given
EndsFor TimedOut w given = given ≡ timeout_input w

abbrev pub Ends : Resolution → Type 0
Ends r = EndsFor r.cause r.request r.given

-- ---- by a response

abbrev pub resolution_where : (Waiting → PlainInput) → Option (Waiting × WaitingRequests) → List Resolution
resolution_where given None = []
resolution_where given (Some found) = record { cause = Answered; request = found.0; given = given found.0 } ∷ []

abbrev pub resolution_of : WaitingRequests → ℕ → Plain → List Resolution
resolution_of pending number («plain».Content words) = resolution_where (λ w. response_input w words) (resolved pending number)
resolution_of pending number («plain».Failure sec) = resolution_where (λ w. failure_input w sec) (resolved pending number)
resolution_of pending number («plain».System what) = []

-- ---- by a tick

abbrev pub expiry_resolves : {S : Type 0} → Rules S → (Handled S → List Resolution) → Handled S → Option (Waiting × WaitingRequests) → List Resolution
expiry_resolves rules go t None = []
expiry_resolves rules go t (Some found) =
    record { cause = TimedOut; request = found.0; given = timeout_input found.0 } ∷ go (time_out rules t found)

abbrev pub expire_resolves : {S : Type 0} → Rules S → ℕ → Handled S → List Resolution
expire_resolves rules zero t = []
expire_resolves rules (suc n) t = expiry_resolves rules (expire_resolves rules n) t (next_due t.snapshot)

abbrev pub tick_resolves : {S : Type 0} → Rules S → Handled S → List Resolution
tick_resolves rules t = expire_resolves rules (due_count t.snapshot) t

abbrev pub notice_resolves : {S : Type 0} → Rules S → Handled S → Notice → List Resolution
notice_resolves rules t (notice.Tick from) = tick_resolves rules (advance t)
notice_resolves rules t _ = []

-- ---- the requests that an envelope resolves

abbrev pub body_resolves : {S : Type 0} → Rules S → Handled S → Taken → Plain → List Resolution
body_resolves rules t e («plain».System what) = notice_resolves rules t what
body_resolves rules t e body = if is_response e then resolution_of t.snapshot.pending e.mid.number body else []

abbrev pub resolves_where : {S : Type 0} → Bool → Rules S → Handled S → Taken → List Resolution
resolves_where true rules t e = body_resolves rules t e e.body
resolves_where false rules t e = []

-- a response that is waited for, or a tick, to an actor that hasn't quit
abbrev pub resolves : {S : Type 0} → Rules S → Handled S → Taken → List Resolution
resolves rules t e = resolves_where (is_none t.snapshot.quit) rules t e

-- those of a drain, in order
abbrev pub turn_resolves : {S : Type 0} → Rules S → (Handled S → List Resolution) → Handled S → Option (Taken × Snapshot S) → List Resolution
turn_resolves rules go t None = []
turn_resolves rules go t (Some p) = resolves rules (with_snapshot t p.1) p.0 ++ go (handle_one rules (with_snapshot t p.1) p.0)

abbrev pub drain_resolves : {S : Type 0} → Rules S → ℕ → Handled S → List Resolution
drain_resolves rules zero t = []
drain_resolves rules (suc n) t = turn_resolves rules (drain_resolves rules n) t (next_envelope rules t.snapshot)

-- those of a batch
abbrev pub batch_resolves : {S : Type 0} → Rules S → Snapshot S → List Taken → List Resolution
batch_resolves rules s batch = drain_resolves rules (cached (with_batch s batch)) (so_far (with_batch s batch) [])

-- ---- how often

abbrev pub has_request : ℕ → Resolution → Bool
has_request n r = r.request.number == n

-- how often request `n` is resolved
abbrev pub times_resolved : ℕ → List Resolution → ℕ
times_resolved n rs = count_by (has_request n) rs

abbrev pub is_answer : Cause → Bool
is_answer Answered = true
is_answer TimedOut = false

-- how often by a response
abbrev pub times_answered : ℕ → List Resolution → ℕ
times_answered n rs = count_by (λ (r : Resolution). is_answer r.cause && has_request n r) rs

-- ---- what is said of one envelope, and of a batch

-- one for a number that was given between these two
abbrev pub given_between : ℕ → ℕ → ℕ → ℕ
given_between first next n = if nat_le first n && nat_lt n next then 1 else 0

-- what the behaviour was given for what was resolved
abbrev pub given_for : List Resolution → List PlainInput
given_for rs = map (λ (r : Resolution). r.given) rs

module _ {S : Type 0} (rules : Rules S) where
  -- an envelope resolves what its handling takes out of the waiting requests; these change else only by
  -- issuing and by a quit
  abbrev pub TakesOutWhatItResolves : Type 0
  TakesOutWhatItResolves = (t : Handled S) (e : Taken) (n : ℕ) → (handle_one rules t e).snapshot.quit ≡ None
      → waiting_count (handle_one rules t e).snapshot.pending n + times_resolved n (resolves rules t e)
      ≡ waiting_count t.snapshot.pending n + given_between t.snapshot.pending.next (handle_one rules t e).snapshot.pending.next n

  -- and where it is a response, the behaviour is given that input, and no other
  abbrev pub GivesWhatItResolves : Type 0
  GivesWhatItResolves = (t : Handled S) (e : Taken) → is_response e ≡ true
      → (handle_one rules t e).snapshot.behavior ≡ fed rules t.snapshot.behavior (given_for (resolves rules t e))

  -- nothing reaches the behaviour of an actor that has quit, and it resolves nothing
  pub record StaysQuit (s : Snapshot S) (batch : List Taken) : Type 0 where
    pub behavior : (batch_of rules s batch).snapshot.behavior ≡ s.behavior
    pub quit : (batch_of rules s batch).snapshot.quit ≡ s.quit
    pub resolves : batch_resolves rules s batch ≡ []

  abbrev pub NoneAfterQuitting : Type 0
  NoneAfterQuitting = (s : Snapshot S) (batch : List Taken) → s.quit ≢ None → StaysQuit s batch

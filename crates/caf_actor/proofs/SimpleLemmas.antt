-- What handling one envelope keeps where nothing has to be known of what is handed on.
use Rattle.std.proofs.Common.{◌≡◌, ℕ, List, [], ◌∷◌, Option, Some, None, map}
use Rattle.std.specs.List.{AllByRecursion}
use Rattle.caf_types.specs.declared.notice.Mid.{Mid}
use Rattle.caf_types.specs.declared.notice.Priority.{Priority}
use Rattle.caf_types.specs.declared.reason.Reason.{Reason}
use Rattle.caf_types.specs.declared.shape.TypeId.{TypeId}
use Rattle.caf_message.specs.declared.envelope.Taken.{Taken}
use Rattle.caf_message.specs.declared.envelope.Plain.{Plain}
use Rattle.caf_response.specs.declared.pending.Waiting.{Waiting}
use Rattle.caf_response.specs.declared.pending.Mode.{Mode}
use Rattle.caf_response.specs.Delays.{PlainDelay}
use Rattle.caf_response.specs.Pending.{WaitingRequests, resolved}
use Rattle.caf_response.specs.Promised.{Promised}
use Rattle.caf_observe.specs.Observers.{ObserverSets}
use Rattle.caf_actor.specs.PlainInput.{PlainInput, content_given}
use Rattle.caf_actor.specs.PlainOutput.{PlainOutput, content_sent}
use Rattle.caf_actor.specs.PlainReaction.{PlainAnswer, PlainReaction, content_answered}
use Rattle.caf_actor.specs.Rules.{Rules, MayBeGiven, WhereGiven, output_targets, answer_targets}
use Rattle.caf_actor.specs.Leads.{leads_to}
use Rattle.caf_actor.specs.Snapshot.{Handled, with_snapshot}
use Rattle.caf_actor.specs.Sending.{post, issue, issue_within}
use Rattle.caf_actor.specs.Quitting.{emptied, quit_where}
use Rattle.caf_actor.specs.Reacting.{give}
use Rattle.caf_actor.specs.Ticking.{next_due, advance}
use Rattle.caf_actor.specs.Handling.{begin, handle_one}
use Rattle.caf_actor.proofs.KeptLemmas as kept

-- what sending, answering and quitting keep
pub record Keeps {S : Type 0} (P : Handled S → Type 0) : Type 0 where
  pub on_post : (t : Handled S) (to : ℕ) (mid : Mid) (priority : Priority) (body : Plain) → P t → P (post t to mid priority body)
  pub on_holds : (t : Handled S) (holds : List Promised) → P t → P (with_snapshot t (record t.snapshot { holds = holds }))
  pub on_issue : (t : Handled S) (mode : Mode) (tag : ℕ) (expected : List TypeId) → P t → P (with_snapshot t (issue t.snapshot mode tag expected))
  pub on_issue_within : (t : Handled S) (ticks : ℕ) (mode : Mode) (tag : ℕ) (expected : List TypeId) → P t
      → P (with_snapshot t (issue_within t.snapshot ticks mode tag expected))
  pub on_observers : (t : Handled S) (observers : ObserverSets) → P t → P (with_snapshot t (record t.snapshot { observers = observers }))
  pub on_unstarted : (t : Handled S) (unstarted : List ℕ) → P t → P (with_snapshot t (record t.snapshot { unstarted = unstarted }))
  pub on_delays : (t : Handled S) (delays : List PlainDelay) → P t → P (with_snapshot t (record t.snapshot { delays = delays }))
  pub on_emptied : (t : Handled S) (why : Reason) → P t → P (with_snapshot t (emptied t.snapshot why))

-- what the other parts of handling an envelope keep
pub record KeepsToo {S : Type 0} (rules : Rules S) (P : Handled S → Type 0) : Type 0 where
  pub on_behavior : (t : Handled S) (i : PlainInput) → MayBeGiven rules t.snapshot.behavior i → P t
      → P (with_snapshot t (record t.snapshot { behavior = rules.next t.snapshot.behavior i }))
  pub on_resolved : (t : Handled S) (number : ℕ) (found : Waiting × WaitingRequests) → resolved t.snapshot.pending number ≡ Some found → P t
      → P (with_snapshot t (record t.snapshot { pending = found.1 }))
  pub on_expired : (t : Handled S) (found : Waiting × WaitingRequests) → next_due t.snapshot ≡ Some found → P t
      → P (with_snapshot t (record t.snapshot { pending = found.1 }))
  pub on_begun : (t : Handled S) → P t → P (begin t)
  pub on_clock : (t : Handled S) → P t → P (advance t)

-- ---- anything is known

pub any : {A : Type 0} (xs : List A) → AllByRecursion (λ (x : A). Unit {0}) xs
any [] = tt
any (x ∷ xs) = (tt, any xs)

pub any_known : (es : List Taken) → AllByRecursion (kept.IsKnown (λ p. Unit {0}) (λ b. Unit {0})) es
any_known [] = tt
any_known (e ∷ es) = ((any (leads_to e.mid e.body), tt), any_known es)

pub any_delay : (ds : List PlainDelay) → AllByRecursion (kept.IsDelayed (λ p. Unit {0}) (λ b. Unit {0})) ds
any_delay [] = tt
any_delay (d ∷ ds) = ((tt, tt), any_delay ds)

pub any_words : (words : Option (List ℕ)) → WhereGiven (λ w. Unit {0}) words
any_words None = tt
any_words (Some words) = tt

any_outputs : (os : List PlainOutput) → AllByRecursion (kept.OutputIs (λ p. Unit {0}) (λ b. Unit {0})) os
any_outputs [] = tt
any_outputs (o ∷ os) = (record { targets = any (output_targets o); content = any_words (content_sent o) }, any_outputs os)

pub any_reaction : (r : PlainReaction) → kept.ReactionIs (λ p. Unit {0}) (λ b. Unit {0}) r
any_reaction r = record {
  outputs = any_outputs r.outputs;
  answer = record { targets = any (answer_targets r.answer); content = any_words (content_answered r.answer) };
}

module _ {S : Type 0} (P : Handled S → Type 0) (keeps : Keeps P) where
  pub with_anything : kept.Keeps (λ p. Unit {0}) (λ b. Unit {0}) P
  with_anything = record {
    failure = λ what. tt;
    system = λ what. tt;
    cached = λ t h. (any_known t.snapshot.caches.urgent, any_known t.snapshot.caches.normal);
    held = λ t h. any t.snapshot.holds;
    links = λ t h. any t.snapshot.observers.links;
    monitors = λ t h. any t.snapshot.observers.monitors;
    delays = λ t h. any_delay t.snapshot.delays;
    on_post = λ t to mid priority body k is h. keeps.on_post t to mid priority body h;
    on_holds = λ t holds all h. keeps.on_holds t holds h;
    on_issue = λ t mode tag expected h. keeps.on_issue t mode tag expected h;
    on_issue_within = λ t ticks mode tag expected h. keeps.on_issue_within t ticks mode tag expected h;
    on_observers = λ t observers l m h. keeps.on_observers t observers h;
    on_unstarted = λ t unstarted h. keeps.on_unstarted t unstarted h;
    on_delays = λ t delays all h. keeps.on_delays t delays h;
    on_emptied = λ t why h. keeps.on_emptied t why h;
  }

  -- what follows once the behaviour took an input
  pub on_reaction : (rules : Rules S) (t : Handled S) (i : PlainInput) → P (with_snapshot t (record t.snapshot { behavior = rules.next t.snapshot.behavior i })) → P (give rules t i)
  on_reaction rules t i h = kept.on_reaction (λ p. Unit {0}) (λ b. Unit {0}) P with_anything _ (rules.reaction t.snapshot.behavior i) (any_reaction (rules.reaction t.snapshot.behavior i)) h

module _ {S : Type 0} (rules : Rules S) (P : Handled S → Type 0) (keeps : Keeps P) (too : KeepsToo rules P) where
  reacts_anyhow : kept.Reacts (λ p. Unit {0}) (λ b. Unit {0}) rules P
  reacts_anyhow = record { on_behavior = λ t i may is h. (any_reaction (rules.reaction t.snapshot.behavior i), too.on_behavior t i may h) }

  with_anything_too : kept.KeepsToo (λ p. Unit {0}) (λ b. Unit {0}) P
  with_anything_too = record {
    on_resolved = λ t number found e h. too.on_resolved t number found e h;
    on_expired = λ t found e h. too.on_expired t found e h;
    on_begun = λ t h. too.on_begun t h;
    on_clock = λ t h. too.on_clock t h;
  }

  pub on_one : (t : Handled S) (e : Taken) → P t → P (handle_one rules t e)
  on_one t e h = kept.on_one rules (λ p. Unit {0}) (λ b. Unit {0}) P (with_anything P keeps) reacts_anyhow with_anything_too t e (any (leads_to e.mid e.body), tt) h

-- What is sent for the outputs of a reaction keeps all as it is to be.
use Rattle.std.proofs.Common.{◌≡◌, ℕ, ◌+◌, ◌==◌, Bool, true, false, List, [], ◌∷◌, length, if◌then◌else◌, refl, sym, ap, subst, ◌∙◌}
use Rattle.std.specs.List.{AllByRecursion}
use Rattle.caf_types.specs.declared.notice.Priority.{Priority}
use Rattle.caf_types.specs.declared.shape.TypeId.{TypeId}
use Rattle.caf_words.specs.Several.{ids_of}
use Rattle.caf_message.specs.Content.{ids_in}
use Rattle.caf_message.specs.declared.envelope.Plain.TheVariants as «plain»
use Rattle.caf_mailbox.proofs.NextLemmas.{all_append}
use Rattle.caf_response.specs.declared.pending.Mode.{Mode}
use Rattle.caf_response.specs.declared.pending.Mode.TheVariants.{Awaited, Multiplexed}
use Rattle.caf_response.specs.Delays.{is_due_before}
use Rattle.caf_response.specs.Holds.{take_hold}
use Rattle.caf_response.specs.Lines.{put_in}
use Rattle.caf_observe.specs.Observers.{with_link, without_link}
use Rattle.caf_observe.specs.Places.{has_place, without_place}
use Rattle.caf_signature.specs.declared.interface.Signature.{Signature}
use Rattle.caf_actor.specs.Clock.{due_after}
use Rattle.caf_actor.specs.PlainOutput.{PlainOutput, Tell, TellMany, Request, Exit, Link, Unlink, Watch, Unwatch, Deliver, Break, Spawn, Tick, Delay, Within}
use Rattle.caf_actor.specs.Rules.{Rules}
use Rattle.caf_actor.specs.Snapshot.{Handled, with_snapshot}
use Rattle.caf_actor.specs.Sending.{mid_of, may_issue, issue, issue_within, request, request_within, send_output, send_outputs}
use Rattle.caf_soundness.proofs.LogLemmas.{Log, Declares, Grows, grows_on, logged, logged_grows, logged_there, logged_long, logged_last}
use Rattle.caf_soundness.proofs.ComesLemmas.{declared_is_input, Accepts, AnswersBy, BodyComes, IsDeclared, IsDelayed, Sends, Behaves, Good, After, at_once, all_cached_come, all_arrive, all_declared, all_send}
use Rattle.caf_soundness.proofs.SendLemmas.{on_if, post_good, tell_good, tell_many_good, notify_good, deliver_good, break_good}

all_put : {A : Type 0} (P : A → Type 0) (before : A → A → Bool) (xs : List A) (x : A) → P x → AllByRecursion P xs → AllByRecursion P (put_in before xs x)
all_put P before [] x h all = (h, tt)
all_put P before (y ∷ ys) x h all = go (before x y) (all_put P before ys x h all.1)
  where
    go : (b : Bool) → AllByRecursion P (put_in before ys x) → AllByRecursion P (if b then x ∷ y ∷ ys else y ∷ put_in before ys x)
    go true rest = (h, all)
    go false rest = (all.0, rest)

module _ (face : ℕ → List Signature) {S : Type 0} (rules : Rules S) (T : Log → ℕ → S → Type 0) (behaves : Behaves face rules T) (first : Log) (place : ℕ) where
  abbrev pub Fine : Log → Handled S → Type 0
  Fine l t = Good face rules T first place l t

  abbrev pub Then : Log → Handled S → Type 0
  Then l t = After face rules T first place l t

  -- ---- requests

  -- the log has what the request declared
  waiting : (l : Log) (t : Handled S) (tag : ℕ) (expected : List TypeId) → Fine l t
      → IsDeclared face (logged l place (ids_of expected)) place (record { number = t.snapshot.pending.next; tag = tag; expected = expected })
  waiting l t tag expected h = logged_last l place t.snapshot.pending.next (ids_of expected) h.numbered

  issued_good : (l : Log) (t : Handled S) (mode : Mode) (tag : ℕ) (expected : List TypeId) → Fine l t → Fine (logged l place (ids_of expected)) (with_snapshot t (issue t.snapshot mode tag expected))
  issued_good l t mode tag expected h = go mode
    where
      m : Log
      m = logged l place (ids_of expected)

      grow : Grows l m
      grow = logged_grows l place (ids_of expected)

      next : t.snapshot.pending.next + 1 ≡ length (m place) + 1
      next = ap (λ (n : ℕ). n + 1) (h.numbered ∙ sym (logged_long l place (ids_of expected)))

      apart : (r : ℕ) → (r == place) ≡ false → m r ≡ first r
      apart r q = logged_there l place r (ids_of expected) q ∙ h.others r q

      go : (how : Mode) → Fine m (with_snapshot t (issue t.snapshot how tag expected))
      go Awaited = record {
        grown = grows_on first l m h.grown grow;
        others = apart;
        at_is = h.at_is;
        typed = behaves.grows l m place t.snapshot.behavior grow h.typed;
        numbered = next;
        awaits = (waiting l t tag expected h, all_declared face l m grow place t.snapshot.pending.awaited h.awaits);
        waits = all_declared face l m grow place t.snapshot.pending.multiplexed h.waits;
        cached = all_cached_come face l m grow place t.snapshot.caches h.cached;
        delayed = h.delayed;
        posted = all_arrive face l m grow t.posts h.posted;
      }
      go Multiplexed = record {
        grown = grows_on first l m h.grown grow;
        others = apart;
        at_is = h.at_is;
        typed = behaves.grows l m place t.snapshot.behavior grow h.typed;
        numbered = next;
        awaits = all_declared face l m grow place t.snapshot.pending.awaited h.awaits;
        waits = all_append (IsDeclared face m place) t.snapshot.pending.multiplexed _ (all_declared face l m grow place t.snapshot.pending.multiplexed h.waits) (waiting l t tag expected h, tt);
        cached = all_cached_come face l m grow place t.snapshot.caches h.cached;
        delayed = h.delayed;
        posted = all_arrive face l m grow t.posts h.posted;
      }

  issued_within_good : (l : Log) (t : Handled S) (ticks : ℕ) (mode : Mode) (tag : ℕ) (expected : List TypeId) → Fine l t
      → Fine (logged l place (ids_of expected)) (with_snapshot t (issue_within t.snapshot ticks mode tag expected))
  issued_within_good l t ticks Awaited tag expected h = issued_good l t Awaited tag expected h
  issued_within_good l t ticks Multiplexed tag expected h = issued_good l t Multiplexed tag expected h

  -- it goes to a place that answers what was declared
  asked_there : (l : Log) (t : Handled S) (to : ℕ) (expected : List TypeId) (words : List ℕ) → AnswersBy face to words (ids_of expected) → Fine l t
      → BodyComes face (logged l place (ids_of expected)) to (mid_of t.snapshot.place t.snapshot.pending.next) («plain».Content words)
  asked_there l t to expected words a h = (
    declared_is_input (face to) (ids_in words) (ids_of expected) a,
    λ e. record {
      ids = ids_of expected;
      answers = a;
      declares = subst (λ (r : ℕ). Declares (logged l place (ids_of expected)) r t.snapshot.pending.next (ids_of expected)) (sym h.at_is)
          (logged_last l place t.snapshot.pending.next (ids_of expected) h.numbered);
    },
  )

  request_good : (l : Log) (t : Handled S) (to : ℕ) (priority : Priority) (mode : Mode) (tag : ℕ) (expected : List TypeId) (words : List ℕ) → AnswersBy face to words (ids_of expected) → Fine l t
      → Then l (request t to priority mode tag expected words)
  request_good l t to priority mode tag expected words a h = go (may_issue t.snapshot) refl
    where
      go : (b : Bool) → may_issue t.snapshot ≡ b → Then l (request t to priority mode tag expected words)
      go true q = rw q (record {
        log = logged l place (ids_of expected);
        on = logged_grows l place (ids_of expected);
        good = post_good face rules T first place (logged l place (ids_of expected)) (with_snapshot t (issue t.snapshot mode tag expected)) to _ priority («plain».Content words)
            (asked_there l t to expected words a h) (issued_good l t mode tag expected h);
      })
      go false q = rw q (at_once face rules T first place l t h)

  request_within_good : (l : Log) (t : Handled S) (ticks to : ℕ) (priority : Priority) (mode : Mode) (tag : ℕ) (expected : List TypeId) (words : List ℕ) → AnswersBy face to words (ids_of expected) → Fine l t
      → Then l (request_within t ticks to priority mode tag expected words)
  request_within_good l t ticks to priority mode tag expected words a h = go (may_issue t.snapshot) refl
    where
      go : (b : Bool) → may_issue t.snapshot ≡ b → Then l (request_within t ticks to priority mode tag expected words)
      go true q = rw q (record {
        log = logged l place (ids_of expected);
        on = logged_grows l place (ids_of expected);
        good = post_good face rules T first place (logged l place (ids_of expected)) (with_snapshot t (issue_within t.snapshot ticks mode tag expected)) to _ priority («plain».Content words)
            (asked_there l t to expected words a h) (issued_within_good l t ticks mode tag expected h);
      })
      go false q = rw q (at_once face rules T first place l t h)

  -- ---- outputs

  delay_good : (l : Log) (t : Handled S) (ticks to : ℕ) (priority : Priority) (words : List ℕ) → Accepts face to words → Fine l t → Fine l (send_output t (Delay ticks to priority words))
  delay_good l t ticks to priority words c h = record {
    grown = h.grown;
    others = h.others;
    at_is = h.at_is;
    typed = h.typed;
    numbered = h.numbered;
    awaits = h.awaits;
    waits = h.waits;
    cached = h.cached;
    delayed = all_put (IsDelayed face) is_due_before t.snapshot.delays (record { due = due_after t.snapshot.clock ticks; to = to; priority = priority; content = words }) c h.delayed;
    posted = h.posted;
  }

  output_good : (l : Log) (t : Handled S) (o : PlainOutput) → Sends face l o → Fine l t → Then l (send_output t o)
  output_good l t (Request to priority mode tag expected words) c h = request_good l t to priority mode tag expected words c h
  output_good l t (Within ticks to priority mode tag expected words) c h = request_within_good l t ticks to priority mode tag expected words c h
  output_good l t (Tell to priority words) c h = at_once face rules T first place l _ (tell_good face rules T first place l t to priority words c h)
  output_good l t (TellMany places priority words) c h = at_once face rules T first place l _ (tell_many_good face rules T first place l t places priority words c h)
  output_good l t (Deliver requester number words) c h =
      at_once face rules T first place l _ (deliver_good face rules T first place l t requester number words c h (take_hold t.snapshot.holds requester number) refl)
  output_good l t (Break requester number why) c h = at_once face rules T first place l _ (break_good face rules T first place l t why c h (take_hold t.snapshot.holds requester number))
  output_good l t (Delay ticks to priority words) c h = at_once face rules T first place l _ (delay_good l t ticks to priority words c h)
  output_good l t (Exit to reason) c h = at_once face rules T first place l _ (notify_good face rules T first place l t to _ h)
  output_good l t (Link to) c h = at_once face rules T first place l _ (on_if face rules T first place l (to == t.snapshot.place) t _ h
      (notify_good face rules T first place l (with_snapshot t (record t.snapshot { observers = with_link t.snapshot.observers to })) to _ h))
  output_good l t (Unlink to) c h = at_once face rules T first place l _
      (notify_good face rules T first place l (with_snapshot t (record t.snapshot { observers = without_link t.snapshot.observers to })) to _ h)
  output_good l t (Watch to) c h = at_once face rules T first place l _ (on_if face rules T first place l (to == t.snapshot.place) t _ h (notify_good face rules T first place l t to _ h))
  output_good l t (Unwatch to) c h = at_once face rules T first place l _ (notify_good face rules T first place l t to _ h)
  output_good l t (Spawn p) c h = at_once face rules T first place l _ (on_if face rules T first place l (has_place t.snapshot.unstarted p) _ t
      (notify_good face rules T first place l (with_snapshot t (record t.snapshot { unstarted = without_place t.snapshot.unstarted p })) p _ h) h)
  output_good l t (Tick to) c h = at_once face rules T first place l _ (notify_good face rules T first place l t to _ h)

  pub outputs_good : (l : Log) (t : Handled S) (os : List PlainOutput) → AllByRecursion (Sends face l) os → Fine l t → Then l (send_outputs t os)
  outputs_good l t [] c h = at_once face rules T first place l t h
  outputs_good l t (o ∷ os) c h =
      let one = output_good l t o c.0 h in
      let more = outputs_good one.log (send_output t o) os (all_send face l one.log one.on os c.1) one.good in
      record { log = more.log; on = grows_on l one.log more.log one.on more.on; good = more.good }

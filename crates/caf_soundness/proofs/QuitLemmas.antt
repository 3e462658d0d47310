-- What is answered, and a quit, keeps all as it is to be.
use Rattle.std.proofs.Common.{◌≡◌, ℕ, Bool, true, false, List, [], ◌∷◌, ◌++◌, Option, Some, None, if◌then◌else◌, refl, ◌∙◌}
use Rattle.caf_types.specs.declared.notice.Mid.{Mid}
use Rattle.caf_types.specs.declared.notice.Notice.{Notice}
use Rattle.caf_types.specs.declared.notice.Notice.TheVariants as notice
use Rattle.caf_types.specs.declared.reason.Reason.{Reason}
use Rattle.caf_types.specs.declared.sec.Sec.{Sec}
use Rattle.caf_types.specs.declared.sec.Sec.TheVariants as sec
use Rattle.caf_message.specs.Content.{ids_in}
use Rattle.caf_message.specs.declared.envelope.Plain.{Plain}
use Rattle.caf_message.specs.declared.envelope.Plain.TheVariants as «plain»
use Rattle.caf_message.specs.declared.envelope.Taken.{Taken}
use Rattle.caf_response.specs.Promised.{Promised}
use Rattle.caf_observe.specs.Observers.{farewell}
use Rattle.caf_signature.specs.declared.interface.Signature.{Signature}
use Rattle.caf_actor.specs.declared.origin.Origin.{Origin}
use Rattle.caf_actor.specs.PlainReaction.{PlainAnswer, Value, Error, Delegate, Hold, Nothing}
use Rattle.caf_actor.specs.Rules.{Rules, declared_for}
use Rattle.caf_actor.specs.Snapshot.{Handled, with_snapshot}
use Rattle.caf_actor.specs.Sending.{notify, reply}
use Rattle.caf_actor.specs.Answering.{origin_of, is_asked, promised_to, refuse, answer_request, answer_tell, answer}
use Rattle.caf_actor.specs.Quitting.{shell_notice, handle_shell, shell_all, break_holds, notify_all, emptied, quit_with, quit_where}
use Rattle.caf_soundness.specs.Typed.{IsExpected}
use Rattle.caf_soundness.proofs.LogLemmas.{Log}
use Rattle.caf_soundness.proofs.ComesLemmas.{declared_is_input, input_is_declared, Accepts, IsAskedWhere, BodyComes, Replies, Behaves, Good}
use Rattle.caf_soundness.proofs.SendLemmas.{on_if, post_good, tell_good, notify_good, error_good, value_good}

pub broken_expected : IsExpected sec.BrokenPromise
broken_expected = record { message = λ e. absurd cc; response = λ e. absurd cc }

pub down_expected : IsExpected sec.RequestReceiverDown
down_expected = record { message = λ e. absurd cc; response = λ e. absurd cc }

module _ (face : ℕ → List Signature) {S : Type 0} (rules : Rules S) (T : Log → ℕ → S → Type 0) (behaves : Behaves face rules T) (first : Log) (place : ℕ) where
  abbrev pub Fine : Log → Handled S → Type 0
  Fine l t = Good face rules T first place l t

  -- ---- answers

  pub refuse_good : (l : Log) (t : Handled S) (origin : Origin) (why : Sec) → IsExpected why → Fine l t → Fine l (refuse t origin why)
  refuse_good l t origin why is h = on_if face rules T first place l (is_asked origin) _ t (error_good face rules T first place l t (promised_to origin) why is h) h

  -- content that another place takes as this one does
  accepts_alike : (to : ℕ) (words : List ℕ) → declared_for (face to) (ids_in words) ≡ declared_for (face place) (ids_in words) → Accepts face place words → Accepts face to words
  accepts_alike to words same c =
      let result = input_is_declared (face place) (ids_in words) c in
      declared_is_input (face to) (ids_in words) result.0 (same ∙ result.1)

  handed_on : (l : Log) (mid : Mid) (to : ℕ) (words : List ℕ) → mid.response ≡ false → declared_for (face to) (ids_in words) ≡ declared_for (face place) (ids_in words) → Accepts face place words → IsAskedWhere face l place mid words
      → BodyComes face l to mid («plain».Content words)
  handed_on l mid to words no_response same c asked = rw no_response (
    accepts_alike to words same c,
    λ e. let is = asked e in record { ids = is.ids; answers = same ∙ is.answers; declares = is.declares },
  )

  pub answer_good : (l : Log) (t : Handled S) (origin : Origin) (words : List ℕ) (a : PlainAnswer) → origin.mid.response ≡ false → Accepts face place words → IsAskedWhere face l place origin.mid words
      → Replies face l place origin words a → Fine l t → Fine l (answer t origin words a)
  answer_good l t origin words a no_response c asked r h = go (is_asked origin) refl
    where
      replied : (b : PlainAnswer) → is_asked origin ≡ true → Replies face l place origin words b → Fine l (answer_request t (promised_to origin) words b)
      replied (Value value) e r = value_good face rules T first place l t (promised_to origin) value (r e) h
      replied (Error why) e r = error_good face rules T first place l t (promised_to origin) why r h
      replied (Delegate to) e r = post_good face rules T first place l t to origin.mid origin.priority («plain».Content words) (handed_on l origin.mid to words no_response r c asked) h
      replied Hold e r = h
      replied Nothing e r = h

      told : (b : PlainAnswer) → Replies face l place origin words b → Fine l (answer_tell t origin words b)
      told (Value value) r = h
      told (Error why) r = h
      told (Delegate to) r = tell_good face rules T first place l t to origin.priority words (accepts_alike to words r c) h
      told Hold r = h
      told Nothing r = h

      go : (b : Bool) → is_asked origin ≡ b → Fine l (if b then answer_request t (promised_to origin) words a else answer_tell t origin words a)
      go true e = replied a e r
      go false e = told a r

  -- ---- quitting

  shell_notice_good : (l : Log) (t : Handled S) (why : Reason) (n : Notice) → Fine l t → Fine l (shell_notice t why n)
  shell_notice_good l t why notice.Start h = h
  shell_notice_good l t why notice.Stop h = h
  shell_notice_good l t why (notice.Exit from reason) h = h
  shell_notice_good l t why (notice.Link from) h = notify_good face rules T first place l t from _ h
  shell_notice_good l t why (notice.Unlink from) h = h
  shell_notice_good l t why (notice.Watch from) h = notify_good face rules T first place l t from _ h
  shell_notice_good l t why (notice.Unwatch from) h = h
  shell_notice_good l t why (notice.Down from reason) h = h
  shell_notice_good l t why (notice.Begin from) h = h
  shell_notice_good l t why (notice.Tick from) h = h

  pub shell_good : (l : Log) (t : Handled S) (why : Reason) (origin : Origin) (body : Plain) → Fine l t → Fine l (handle_shell t why origin body)
  shell_good l t why origin («plain».Content words) h = on_if face rules T first place l origin.mid.response t _ h (refuse_good l t origin sec.RequestReceiverDown down_expected h)
  shell_good l t why origin («plain».Failure what) h = h
  shell_good l t why origin («plain».System n) h = shell_notice_good l t why n h

  shell_all_good : (l : Log) (t : Handled S) (why : Reason) (es : List Taken) → Fine l t → Fine l (shell_all t why es)
  shell_all_good l t why [] h = h
  shell_all_good l t why (e ∷ es) h = shell_all_good l (handle_shell t why (origin_of e) e.body) why es (shell_good l t why (origin_of e) e.body h)

  breaks_good : (l : Log) (t : Handled S) (ps : List Promised) → Fine l t → Fine l (break_holds t ps)
  breaks_good l t [] h = h
  breaks_good l t (p ∷ ps) h = breaks_good l (reply t p («plain».Failure sec.BrokenPromise)) ps (error_good face rules T first place l t p sec.BrokenPromise broken_expected h)

  notify_all_good : (l : Log) (t : Handled S) (ns : List (ℕ × Notice)) → Fine l t → Fine l (notify_all t ns)
  notify_all_good l t [] h = h
  notify_all_good l t (n ∷ ns) h = notify_all_good l (notify t n.0 n.1) ns (notify_good face rules T first place l t n.0 n.1 h)

  emptied_good : (l : Log) (t : Handled S) (why : Reason) → Fine l t → Fine l (with_snapshot t (emptied t.snapshot why))
  emptied_good l t why h = record {
    grown = h.grown;
    others = h.others;
    at_is = h.at_is;
    typed = h.typed;
    numbered = h.numbered;
    awaits = tt;
    waits = tt;
    cached = (tt, tt);
    delayed = tt;
    posted = h.posted;
  }

  pub quit_good : (l : Log) (t : Handled S) (why : Reason) → Fine l t → Fine l (quit_with t why)
  quit_good l t why h =
      let broken = break_holds (with_snapshot t (emptied t.snapshot why)) t.snapshot.holds in
      let shelled = shell_all broken why (t.snapshot.caches.urgent ++ t.snapshot.caches.normal) in
      notify_all_good l shelled (farewell shelled.snapshot.observers shelled.snapshot.place why)
      (shell_all_good l broken why (t.snapshot.caches.urgent ++ t.snapshot.caches.normal) (breaks_good l (with_snapshot t (emptied t.snapshot why)) t.snapshot.holds (emptied_good l t why h)))

  pub quit_where_good : (l : Log) (t : Handled S) (quit : Option Reason) → Fine l t → Fine l (quit_where t quit)
  quit_where_good l t None h = h
  quit_where_good l t (Some why) h = quit_good l t why h

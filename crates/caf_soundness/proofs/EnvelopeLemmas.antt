-- What an actor does with one envelope keeps all as it is to be.
use Rattle.std.proofs.Common.{◌≡◌, ℕ, ◌==◌, Bool, true, false, List, Option, Some, None, if◌then◌else◌, refl}
use Rattle.caf_types.specs.declared.notice.Notice.{Notice}
use Rattle.caf_types.specs.declared.notice.Notice.TheVariants as notice
use Rattle.caf_types.specs.declared.reason.Reason.{Reason}
use Rattle.caf_types.specs.declared.reason.Reason.TheVariants as reason
use Rattle.caf_message.specs.declared.envelope.Plain.{Plain}
use Rattle.caf_message.specs.declared.envelope.Plain.TheVariants as «plain»
use Rattle.caf_message.specs.declared.envelope.Taken.{Taken}
use Rattle.caf_response.specs.Pending.{resolved}
use Rattle.caf_observe.specs.Observers.{without_link}
use Rattle.caf_signature.specs.declared.interface.Signature.{Signature}
use Rattle.caf_actor.specs.declared.origin.Origin.{Origin}
use Rattle.caf_actor.specs.Answering.{origin_of}
use Rattle.caf_actor.specs.Handling.{handle_content, response_input, failure_input, resolve_with, leave_for, handle_exit, handle_notice, handle_body, handle_where, handle_one}
use Rattle.caf_actor.specs.PlainInput.{Start, Stop, Down}
use Rattle.caf_actor.specs.Rules.{Rules}
use Rattle.caf_actor.specs.Snapshot.{Handled, with_snapshot}
use Rattle.caf_soundness.proofs.LogLemmas.{Log}
use Rattle.caf_soundness.proofs.ComesLemmas.{ContentComes, BodyComes, Comes, Behaves, Good, After, at_once}
use Rattle.caf_soundness.proofs.QuitLemmas.{shell_good, quit_good}
use Rattle.caf_soundness.proofs.HandleLemmas.{give_good, content_good, response_given, resolve_good, tick_good}

module _ (face : ℕ → List Signature) {S : Type 0} (rules : Rules S) (T : Log → ℕ → S → Type 0) (behaves : Behaves face rules T) (first : Log) (place : ℕ) where
  abbrev pub Fine : Log → Handled S → Type 0
  Fine l t = Good face rules T first place l t

  abbrev pub Then : Log → Handled S → Type 0
  Then l t = After face rules T first place l t

  once : (l : Log) (t : Handled S) → Fine l t → Then l t
  once l t h = at_once face rules T first place l t h

  -- ---- notices

  leave_good : (l : Log) (t : Handled S) (why : Reason) → Fine l t → Fine l (leave_for t why)
  leave_good l t reason.Normal h = h
  leave_good l t reason.UserShutdown h = quit_good face rules T behaves first place l t _ h
  leave_good l t reason.Kill h = quit_good face rules T behaves first place l t _ h
  leave_good l t reason.Failed h = quit_good face rules T behaves first place l t _ h

  exit_good : (l : Log) (t : Handled S) (from : ℕ) (why : Reason) → Fine l t → Fine l (handle_exit t from why)
  exit_good l t from why h = go (t.snapshot.place == 0)
    where
      gone : Handled S
      gone = with_snapshot t (record t.snapshot { observers = without_link t.snapshot.observers from })

      go : (b : Bool) → Fine l (if b then t else leave_for gone why)
      go true = h
      go false = leave_good l gone why h

  notice_good : (l : Log) (t : Handled S) (n : Notice) → Fine l t → Then l (handle_notice rules t n)
  notice_good l t notice.Start h = give_good face rules T behaves first place l t Start tt h
  notice_good l t notice.Stop h = give_good face rules T behaves first place l t Stop tt h
  notice_good l t (notice.Exit from why) h = once l _ (exit_good l t from why h)
  notice_good l t (notice.Link from) h = once l (handle_notice rules t (notice.Link from)) h
  notice_good l t (notice.Unlink from) h = once l (handle_notice rules t (notice.Unlink from)) h
  notice_good l t (notice.Watch from) h = once l (handle_notice rules t (notice.Watch from)) h
  notice_good l t (notice.Unwatch from) h = once l (handle_notice rules t (notice.Unwatch from)) h
  notice_good l t (notice.Down from why) h = give_good face rules T behaves first place l t (Down from why) tt h
  notice_good l t (notice.Begin from) h = once l (handle_notice rules t (notice.Begin from)) h
  notice_good l t (notice.Tick from) h = tick_good face rules T behaves first place l t h

  -- ---- one envelope

  body_good : (l : Log) (t : Handled S) (origin : Origin) (body : Plain) → BodyComes face l place origin.mid body → Fine l t → Then l (handle_body rules t origin body)
  body_good l t origin («plain».System n) c h = notice_good l t n h
  body_good l t origin («plain».Failure what) c h =
      resolve_good face rules T behaves first place l t origin.mid.number (λ w. failure_input w what) (λ w. tt) h (resolved t.snapshot.pending origin.mid.number) refl
  body_good l t origin («plain».Content words) c h = go origin.mid.response refl c
    where
      go : (b : Bool) → origin.mid.response ≡ b → ContentComes face l place origin.mid b words
          → Then l (if b then resolve_with rules t (λ w. response_input w words) (resolved t.snapshot.pending origin.mid.number) else handle_content rules t origin words)
      go true q c = resolve_good face rules T behaves first place l t origin.mid.number (λ w. response_input w words) (λ w. response_given face rules T behaves first place l w words) h (resolved t.snapshot.pending origin.mid.number) refl
      go false q c = content_good face rules T behaves first place l t origin words q c.0 c.1 h

  pub one_good : (l : Log) (t : Handled S) (e : Taken) → Comes face l place e → Fine l t → Then l (handle_one rules t e)
  one_good l t e c h = go t.snapshot.quit
    where
      go : (quit : Option Reason) → Then l (handle_where rules t quit (origin_of e) e.body)
      go None = body_good l t (origin_of e) e.body c h
      go (Some why) = once l _ (shell_good face rules T behaves first place l t why (origin_of e) e.body h)

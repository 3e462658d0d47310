-- What a kind keeps and does, so that all stays well typed: what it is set up with, and whom it still owes an answer.
use Rattle.std.proofs.Common.{◌≡◌, ◌≢◌, ℕ, true, List, length, Option, Some, refl, ap, sym, subst, ◌∙◌}
use Rattle.std.specs.Prelude.{bytes_eq, slice_get}
use Rattle.std.specs.List.{AllByRecursion}
use Rattle.std.proofs.lemmas.Slice.Eq.{bytes_eq-Decides}
use Rattle.caf_types.specs.declared.sec.Sec.TheVariants as sec
use Rattle.caf_message.specs.Content.{ids_in}
use Rattle.caf_signature.specs.declared.interface.Signature.{Signature}
use Rattle.caf_actor.specs.declared.origin.Origin.{Origin}
use Rattle.caf_actor.specs.Answering.{is_asked}
use Rattle.caf_actor.specs.PlainInput.{PlainInput, Start, Stop, Content, Response, Failed, Down, Tick}
use Rattle.caf_actor.specs.PlainReaction.{PlainAnswer, Value, Error, Delegate, Hold, Nothing}
use Rattle.caf_actor.specs.Rules.{MayBeGiven, is_input, declared_for}
use Rattle.caf_script.specs.Step as planned
use Rattle.caf_script.specs.Step.{sent}
use Rattle.caf_kinds.specs.Alarms.{Awaited}
use Rattle.caf_kinds.specs.Asking.{of_text, of_unsigned, type_ids}
use Rattle.caf_kinds.specs.Held.{Held}
use Rattle.caf_kinds.specs.Kinds.{name_of, who, interface, kind_rules, reacted}
use Rattle.caf_kinds.specs.Peers.{wanted_of}
use Rattle.caf_kinds.specs.Pipeline.{of_summary, of_total}
use Rattle.caf_kinds.specs.Reacting.{Reacted, quiet, answers, failed}
use Rattle.caf_kinds.specs.Setups.{setup_at}
use Rattle.caf_kinds.specs.Sights.{of_places}
use Rattle.caf_kinds.specs.declared.kind.Kind.{Kind}
use Rattle.caf_kinds.specs.declared.kind.Kind.TheVariants as kind
use Rattle.caf_kinds.specs.declared.questions.HeldQuestion.{HeldQuestion}
use Rattle.caf_kinds.specs.declared.questions.Question.{Question}
use Rattle.caf_kinds.specs.declared.questions.Question.TheVariants as question
use Rattle.caf_kinds.specs.declared.setup.KindName.{KindName}
use Rattle.caf_kinds.specs.declared.setup.KindName.TheVariants as name
use Rattle.caf_kinds.specs.declared.setup.Setup.{Setup}
use Rattle.caf_kinds.specs.declared.sights.Sought.{Sought}
use Rattle.caf_record.proofs.ListLemmas.{all_map}
use Rattle.caf_soundness.specs.Typed.{face, child_face, IsExpected, Serves}
use Rattle.caf_soundness.proofs.LogLemmas.{Log, Declares, Grows}
use Rattle.caf_soundness.proofs.LawfulLemmas.{IsUsable, lawful}
use Rattle.caf_soundness.proofs.ComesLemmas.{IsAskedWhere, Given, Sends, RepliesTo, Does, all_send}

pub failed_expected : IsExpected sec.Failed
failed_expected = record { message = λ e. absurd cc; response = λ e. absurd cc }

-- what a question is answered by
abbrev pub question_ids : Question → List ℕ
question_ids question.Index = type_ids of_summary
question_ids question.Totals = type_ids of_total

module _ (setups : List Setup) where
  -- ---- what it keeps

  abbrev pub Plays : Log → planned.Step → Type 0
  Plays l step = AllByRecursion (Sends (face setups) l) (sent step)

  -- the requests that it holds declared what it will answer; the steps that a conductor will play are well typed
  abbrev pub Holds : Log → Kind → Type 0
  Holds l (kind.Holder s) = AllByRecursion (λ (h : Held). Declares l h.requester h.number (type_ids of_text)) s.held
  Holds l (kind.Collector s) = AllByRecursion (λ (h : HeldQuestion). Declares l h.requester h.number (question_ids h.question)) s.held
  Holds l (kind.Watcher s) = AllByRecursion (λ (h : Sought). Declares l h.requester h.number (type_ids of_places)) s.sights.held
  Holds l (kind.Alarm s) = AllByRecursion (λ (h : Awaited). Declares l h.requester h.number (type_ids of_unsigned)) s.alarms.held
  Holds l (kind.Conductor s) = AllByRecursion (Plays l) s.script.plan
  Holds l _ = Unit {0}

  pub record IsSet (l : Log) (place : ℕ) (k : Kind) : Type 0 where
    pub usable : IsUsable k
    pub own : (who k).place ≡ place
    pub takes : interface k ≡ face setups place
    pub peers : name_of k ≢ name.Conductor → (i p : ℕ) → slice_get (who k).peers i ≡ Some p → Serves (setup_at setups p) (wanted_of (name_of k) (length (who k).peers) i)
    pub reserve : AllByRecursion (λ p. Serves (setup_at setups p) child_face) (who k).reserve
    pub holds : Holds l k

  -- ---- what it does

  -- values are answered as declared by the laws of all kinds, so nothing more is to be known of them
  abbrev pub IsFine : ℕ → PlainInput → PlainAnswer → Type 0
  IsFine place (Content origin words) (Error sec) = IsExpected sec
  IsFine place (Content origin words) (Delegate to) = declared_for (face setups to) (ids_in words) ≡ declared_for (face setups place) (ids_in words)
  IsFine place _ a = Unit {0}

  pub record Acts (l : Log) (place : ℕ) (i : PlainInput) (r : Reacted Kind) : Type 0 where
    pub outputs : AllByRecursion (Sends (face setups) l) r.1.outputs
    pub answer : IsFine place i r.1.answer
    pub holds : Holds l r.0

  -- ---- simple reactions

  pub quiet_acts : (l : Log) (place : ℕ) (i : PlainInput) (k : Kind) → Holds l k → Acts l place i (k, quiet)
  quiet_acts l place Start k h = record { outputs = tt; answer = tt; holds = h }
  quiet_acts l place Stop k h = record { outputs = tt; answer = tt; holds = h }
  quiet_acts l place (Content origin words) k h = record { outputs = tt; answer = tt; holds = h }
  quiet_acts l place (Response tag words) k h = record { outputs = tt; answer = tt; holds = h }
  quiet_acts l place (Failed tag why) k h = record { outputs = tt; answer = tt; holds = h }
  quiet_acts l place (Down from why) k h = record { outputs = tt; answer = tt; holds = h }
  quiet_acts l place Tick k h = record { outputs = tt; answer = tt; holds = h }

  pub failed_acts : (l : Log) (place : ℕ) (origin : Origin) (words : List ℕ) (k : Kind) → Holds l k → Acts l place (Content origin words) (k, answers failed)
  failed_acts l place origin words k h = record { outputs = tt; answer = failed_expected; holds = h }

  pub value_acts : (l : Log) (place : ℕ) (origin : Origin) (words value : List ℕ) (k : Kind) → Holds l k → Acts l place (Content origin words) (k, answers (Value value))
  value_acts l place origin words value k h = record { outputs = tt; answer = tt; holds = h }

  -- ---- what a request declared that it is given

  pub was_declared : (l : Log) (place : ℕ) (takes : List Signature) (origin : Origin) (words : List ℕ) (types result : List ℕ) → takes ≡ face setups place → bytes_eq types (ids_in words) ≡ true → declared_for takes types ≡ Some result
      → IsAskedWhere (face setups) l place origin.mid words → is_asked origin ≡ true → Declares l origin.mid.requester origin.mid.number result
  was_declared l place takes origin words types result same e declares asked q =
      let is = asked q in
      let of_words : types ≡ ids_in words = (bytes_eq-Decides types (ids_in words)).0 e in
      let here : declared_for takes (ids_in words) ≡ Some result = ap (declared_for takes) (sym of_words) ∙ declares in
      let there : declared_for takes (ids_in words) ≡ Some is.ids = ap (λ (s : List Signature). declared_for s (ids_in words)) same ∙ is.answers in
      let equal : ◌≡◌ {A = Option (List ℕ)} (Some is.ids) (Some result) = sym there ∙ here in
      let ids : is.ids ≡ result = cc in
      subst (λ (x : List ℕ). Declares l origin.mid.requester origin.mid.number x) ids is.declares

  -- ---- it does what is to be done

  given_may : (l : Log) (place : ℕ) (k : Kind) (i : PlainInput) → interface k ≡ face setups place → Given (face setups) l place i → MayBeGiven kind_rules k i
  given_may l place k (Content origin words) same given = ap (λ (s : List Signature). is_input s (ids_in words)) same ∙ given.0
  given_may l place k Start same given = tt
  given_may l place k Stop same given = tt
  given_may l place k (Response tag words) same given = tt
  given_may l place k (Failed tag why) same given = tt
  given_may l place k (Down from why) same given = tt
  given_may l place k Tick same given = tt

  replies : (l : Log) (place : ℕ) (k : Kind) (i : PlainInput) → IsSet l place k → Given (face setups) l place i → (a : PlainAnswer) → (reacted k i).1.answer ≡ a → IsFine place i a → RepliesTo (face setups) l place i a
  replies l place k (Content origin words) set given (Value value) e fine = λ q.
      let is = given.1 q in
      let declared = (lawful k (Content origin words) set.usable (given_may l place k (Content origin words) set.takes given)).declared origin words value refl e in
      let there : declared_for (interface k) (ids_in words) ≡ Some is.ids = ap (λ (s : List Signature). declared_for s (ids_in words)) set.takes ∙ is.answers in
      let equal : ◌≡◌ {A = Option (List ℕ)} (Some is.ids) (Some (ids_in value)) = sym there ∙ declared in
      let ids : is.ids ≡ ids_in value = cc in
      subst (λ (x : List ℕ). Declares l origin.mid.requester origin.mid.number x) ids is.declares
  replies l place k (Content origin words) set given (Error why) e fine = fine
  replies l place k (Content origin words) set given (Delegate to) e fine = fine
  replies l place k (Content origin words) set given Hold e fine = tt
  replies l place k (Content origin words) set given Nothing e fine = tt
  replies l place k Start set given a e fine = tt
  replies l place k Stop set given a e fine = tt
  replies l place k (Response tag words) set given a e fine = tt
  replies l place k (Failed tag why) set given a e fine = tt
  replies l place k (Down from why) set given a e fine = tt
  replies l place k Tick set given a e fine = tt

  -- a reaction leaves the kind
  same_name : (k : Kind) (i : PlainInput) → name_of (reacted k i).0 ≡ name_of k
  same_name (kind.Echo s) i = refl
  same_name (kind.Cell s) i = refl
  same_name (kind.Calc s) i = refl
  same_name (kind.Holder s) i = refl
  same_name (kind.Quitter s) i = refl
  same_name (kind.Source s) i = refl
  same_name (kind.Relay s) i = refl
  same_name (kind.Counter s) i = refl
  same_name (kind.Lines s) i = refl
  same_name (kind.Collector s) i = refl
  same_name (kind.Watcher s) i = refl
  same_name (kind.Spawner s) i = refl
  same_name (kind.Alarm s) i = refl
  same_name (kind.Conductor s) i = refl

  abbrev ServesAll : KindName → List ℕ → Type 0
  ServesAll n peers = n ≢ name.Conductor → (i p : ℕ) → slice_get peers i ≡ Some p → Serves (setup_at setups p) (wanted_of n (length peers) i)

  pub does : (l : Log) (place : ℕ) (k : Kind) (i : PlainInput) → IsSet l place k → Given (face setups) l place i → Acts l place i (reacted k i) → Does (face setups) kind_rules IsSet l place k i
  does l place k i set given acts =
      let may = given_may l place k i set.takes given in
      let law = lawful k i set.usable may in
      let same = law.same in
      record {
        outputs = acts.outputs;
        answer = replies l place k i set given (reacted k i).1.answer refl acts.answer;
        next = record {
          usable = law.usable;
          own = same.place ∙ set.own;
          takes = same.interface ∙ set.takes;
          peers = subst (λ (n : KindName). ServesAll n (who (reacted k i).0).peers) (sym (same_name k i)) (subst (ServesAll (name_of k)) (sym same.peers) set.peers);
          reserve = subst (AllByRecursion (λ p. Serves (setup_at setups p) child_face)) (sym same.reserve) set.reserve;
          holds = acts.holds;
        };
      }

  -- ---- a log that grows

  pub holds_on : (l m : Log) (k : Kind) → Grows l m → Holds l k → Holds m k
  holds_on l m (kind.Holder s) grow h = all_map (λ (x : Held). Declares l x.requester x.number (type_ids of_text)) _ (λ x d. grow x.requester x.number (type_ids of_text) d) s.held h
  holds_on l m (kind.Collector s) grow h = all_map (λ (x : HeldQuestion). Declares l x.requester x.number (question_ids x.question)) _ (λ x d. grow x.requester x.number (question_ids x.question) d) s.held h
  holds_on l m (kind.Watcher s) grow h = all_map (λ (x : Sought). Declares l x.requester x.number (type_ids of_places)) _ (λ x d. grow x.requester x.number (type_ids of_places) d) s.sights.held h
  holds_on l m (kind.Alarm s) grow h = all_map (λ (x : Awaited). Declares l x.requester x.number (type_ids of_unsigned)) _ (λ x d. grow x.requester x.number (type_ids of_unsigned) d) s.alarms.held h
  holds_on l m (kind.Conductor s) grow h = all_map (Plays l) (Plays m) (λ step. all_send (face setups) l m grow (sent step)) s.script.plan h
  holds_on l m (kind.Echo s) grow h = tt
  holds_on l m (kind.Cell s) grow h = tt
  holds_on l m (kind.Calc s) grow h = tt
  holds_on l m (kind.Quitter s) grow h = tt
  holds_on l m (kind.Source s) grow h = tt
  holds_on l m (kind.Relay s) grow h = tt
  holds_on l m (kind.Counter s) grow h = tt
  holds_on l m (kind.Lines s) grow h = tt
  holds_on l m (kind.Spawner s) grow h = tt

  pub set_on : (l m : Log) (place : ℕ) (k : Kind) → Grows l m → IsSet l place k → IsSet m place k
  set_on l m place k grow h = record { usable = h.usable; own = h.own; takes = h.takes; peers = h.peers; reserve = h.reserve; holds = holds_on l m k grow h.holds }

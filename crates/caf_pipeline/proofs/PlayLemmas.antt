-- What a script expects and has of replies once it is played to its end.
use Rattle.std.proofs.Common.{◌≡◌, ◌≢◌, ℕ, zero, suc, ◌+◌, ◌<◌, Bool, true, List, [], ◌∷◌, ◌++◌, length, map, Some, inl, inr, refl, sym, subst, ap, ◌∙◌, arith, append_assoc}
use Rattle.std.specs.Prelude.{slice_get, slice_set, if◌then◌else◌}
use Rattle.std.specs.List.{AllByRecursion}
use Rattle.std.proofs.lemmas.List.{append-nil, length-append}
use Rattle.caf_types.specs.declared.shape.TypeId.{TypeId}
use Rattle.caf_actor.specs.PlainOutput.{PlainOutput}
use Rattle.caf_script.specs.Reply.{Open}
use Rattle.caf_script.specs.Script.{is_met, replies_after, behind, play}
use Rattle.caf_script.specs.Step as played
use Rattle.caf_script.specs.Step.{sent, expects, waits_for}
use Rattle.caf_script.specs.declared.script.Script.{Script}
use Rattle.caf_kinds.specs.Asking.{Types, type_ids, type_id}
use Rattle.caf_kinds.specs.Collector.{asking_index, asking_totals}
use Rattle.caf_kinds.specs.Kinds.{interface_of}
use Rattle.caf_kinds.specs.Planning.{or_none, answer_types, planned_step, planned_from}
use Rattle.caf_kinds.specs.declared.questions.Question.{Question}
use Rattle.caf_kinds.specs.declared.questions.Question.TheVariants as question
use Rattle.caf_kinds.specs.declared.script.Step.{Step}
use Rattle.caf_kinds.specs.declared.script.Step.TheVariants as step
use Rattle.caf_kinds.specs.declared.setup.KindName.TheVariants as name
use Rattle.caf_kinds.specs.declared.setup.Setup.{Setup}
use Rattle.caf_signature.specs.Interface.{result_for}
use Rattle.caf_pipeline.specs.Undisturbed.{Pipeline, IsPipeline, IsRequested, IsPlainScript}
use Rattle.caf_pipeline.specs.Sent.{summary_types, total_types}
use Rattle.caf_pipeline.proofs.QuestionLemmas.{IsAsked}
use Rattle.caf_pipeline.proofs.SentLemmas.{NeverWaits, answered}

-- ---- lists with one item set

module _ {A : Type 0} where
  pub set_length : (xs : List A) (i : ℕ) (x : A) → length (slice_set xs i x) ≡ length xs
  set_length [] i x = refl
  set_length (y ∷ ys) zero x = refl
  set_length (y ∷ ys) (suc i) x = ap suc (set_length ys i x)

  pub set_here : (xs : List A) (i : ℕ) (x : A) → i < length xs → slice_get (slice_set xs i x) i ≡ Some x
  set_here [] i x low = absurd (omega (arith, low))
  set_here (y ∷ ys) zero x low = refl
  set_here (y ∷ ys) (suc i) x low = set_here ys i x (omega (arith, low))

  pub set_other : (xs : List A) (i j : ℕ) (x : A) → i ≢ j → slice_get (slice_set xs i x) j ≡ slice_get xs j
  set_other [] i j x other = refl
  set_other (y ∷ ys) zero zero x other = absurd (other refl)
  set_other (y ∷ ys) zero (suc j) x other = refl
  set_other (y ∷ ys) (suc i) zero x other = refl
  set_other (y ∷ ys) (suc i) (suc j) x other = set_other ys i j x (λ e. other (ap suc e))

-- ---- playing

pub record PlaysTo (steps : List played.Step) (s end : Script) : Type 0 where
  pub expected : end.expected ≡ s.expected ++ map expects steps
  pub many : length end.replies ≡ length s.replies
  pub kept : (i : ℕ) → i < length s.expected → slice_get end.replies i ≡ slice_get s.replies i

replies_many : (s : Script) (step : played.Step) → length (replies_after s step) ≡ length s.replies
replies_many s (played.Send o) = refl
replies_many s (played.Ask o types) = set_length s.replies (length s.expected) Open
replies_many s played.Sync = refl
replies_many s played.Tick = refl

replies_kept : (s : Script) (step : played.Step) (i : ℕ) → i < length s.expected → slice_get (replies_after s step) i ≡ slice_get s.replies i
replies_kept s (played.Send o) i low = refl
replies_kept s (played.Ask o types) i low = set_other s.replies (length s.expected) i Open (λ e. omega (arith, e, low))
replies_kept s played.Sync i low = refl
replies_kept s played.Tick i low = refl

pub plays_to : (steps : List played.Step) (s : Script) (out : List PlainOutput) → NeverWaits steps → PlaysTo steps s (play steps s out).0
plays_to [] s out never = record { expected = sym (append-nil s.expected); many = refl; kept = λ i low. refl }
plays_to (step ∷ rest) s out never =
    let now = behind s step rest in
    let later = plays_to rest now (out ++ sent step) never.1 in
    let met : is_met s (waits_for step) ≡ true = ap (is_met s) never.0 in
    let goes : play (step ∷ rest) s out ≡ play rest now (out ++ sent step) = ap (λ (b : Bool). if b then play rest now (out ++ sent step) else (s, out)) met in
    let long = length-append s.expected (expects step ∷ []) in
    subst (PlaysTo (step ∷ rest) s) (sym (ap (λ p. p.0) goes)) (record {
      expected = later.expected ∙ append_assoc s.expected (expects step ∷ []) (map expects rest);
      many = later.many ∙ replies_many s step;
      kept = λ i low. later.kept i (omega (arith, low, long)) ∙ replies_kept s step i low;
    })

-- ---- the types that an undisturbed script expects

abbrev pub types_for : Question → List TypeId
types_for question.Index = summary_types
types_for question.Totals = total_types

module _ (setups : List Setup) (p : Pipeline) (is : IsPipeline setups p) where
  asked_expects : (n : ℕ) (atom : Types) (types : List TypeId) → or_none (result_for (interface_of name.Collector) (map type_id (type_ids atom))) ≡ types → (s : Step) → IsRequested p.collector atom s → expects (planned_step setups n s) ≡ types
  asked_expects n atom types e (step.Request place priority mode asked values) r =
      ap (λ (q : ℕ). answer_types setups q asked) r.0 ∙ answered setups name.Collector [] p.collector is.collector atom asked values r.2 ∙ e
  asked_expects n atom types e _ r = absurd r

  totals_expect : (n : ℕ) (steps : List Step) → AllByRecursion (IsRequested p.collector asking_totals) steps → (j : ℕ) → j < length steps → slice_get (map expects (planned_from setups n steps)) j ≡ Some total_types
  totals_expect n [] all j low = absurd (omega (arith, low))
  totals_expect n (s ∷ steps) all zero low = ap (λ ts. Some ts) (asked_expects n asking_totals total_types refl s all.0)
  totals_expect n (s ∷ steps) all (suc j) low = totals_expect (n + 1) steps all.1 j (omega (arith, low))

  pub script_expects : (script : List Step) → IsPlainScript p script → (m : ℕ) (q : Question) → IsAsked m q → m < length script → slice_get (map expects (planned_from setups 1 script)) m ≡ Some (types_for q)
  script_expects [] plays m q asked low = absurd plays
  script_expects (first ∷ []) plays m q asked low = absurd plays
  script_expects (first ∷ second ∷ others) plays zero q asked low = elim asked [
    | inl one ↦ (let bad = one.0 in absurd (omega (arith, bad)))
    | inr more ↦ (let bad = more.0 in absurd (omega (arith, bad)))
  ]
  script_expects (first ∷ second ∷ others) plays (suc zero) q asked low = elim asked [
    | inl one ↦ ap (λ ts. Some ts) (asked_expects 2 asking_index summary_types refl second plays.1) ∙ ap (λ r. Some (types_for r)) (sym one.1)
    | inr more ↦ (let bad = more.0 in absurd (omega (arith, bad)))
  ]
  script_expects (first ∷ second ∷ others) plays (suc (suc j)) q asked low = elim asked [
    | inl one ↦ (let bad = one.0 in absurd (omega (arith, bad)))
    | inr more ↦ totals_expect 3 others plays.2 j (omega (arith, low)) ∙ ap (λ r. Some (types_for r)) (sym more.1)
  ]

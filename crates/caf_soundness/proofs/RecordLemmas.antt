-- A legal record whose places begin so is well typed.
use Rattle.std.proofs.Common.{◌≡◌, ℕ, ◌<◌, ◌∙◌, ◌==◌, ◌&&◌, not, nat_lt, Bool, true, false, List, [], ◌∷◌, Some, ap, subst, if◌then◌else◌}
use Rattle.std.specs.List.{AllByRecursion}
use Rattle.caf_types.specs.declared.notice.Mid.{Mid}
use Rattle.caf_message.specs.Content.{ids_in}
use Rattle.caf_message.specs.Envelope.{is_content_body, is_response_body}
use Rattle.caf_message.specs.declared.envelope.Plain.{Plain}
use Rattle.caf_message.specs.declared.envelope.Plain.TheVariants as «plain»
use Rattle.caf_signature.specs.declared.interface.Signature.{Signature}
use Rattle.caf_actor.specs.Rules.{declared_for}
use Rattle.caf_record.proofs.ListLemmas.{and_left, and_right}
use Rattle.caf_message.specs.declared.envelope.Taken.{Taken}
use Rattle.caf_mailbox.proofs.NextLemmas.{all_append}
use Rattle.caf_actor.specs.declared.journal.TakenBatch.{TakenBatch}
use Rattle.caf_actor.specs.declared.snapshot.Snapshot.{Snapshot}
use Rattle.caf_actor.specs.Merge.{IsMerge, steps_of}
use Rattle.caf_actor.specs.Record.{Machine, Kept, machine_of, IsLegal, joined, from_place, taken_by, sent_by}
use Rattle.caf_actor.specs.Run.{State, Turn, IsRun, run, opening_state, EndsAs, IsHeard}
use Rattle.caf_kinds.specs.Kinds.{kind_rules}
use Rattle.caf_kinds.specs.declared.kind.Kind.{Kind}
use Rattle.caf_kinds.specs.declared.setup.Setup.{Setup}
use Rattle.caf_record.proofs.BatchLemmas.{drop_prefix}
use Rattle.caf_record.proofs.MergeLemmas.{merge_runs}
use Rattle.caf_record.proofs.SameRecordLemmas.{same_record}
use Rattle.caf_record.proofs.StampedLemmas.{has_stamps}
use Rattle.caf_soundness.specs.Typed.{face, IsAnsweredBy, AnswersAsDeclared, IsWellTyped}
use Rattle.caf_soundness.proofs.LogLemmas.{Log, Declares, declares_one}
use Rattle.caf_soundness.proofs.ComesLemmas.{ContentComes, BodyComes, Comes, Behaves, all_typed}
use Rattle.caf_soundness.proofs.RunLemmas.{Stands, Ran, runs_good}

all_from : (P : Taken → Type 0) (a : ℕ) (es : List Taken) → AllByRecursion P es → AllByRecursion P (from_place a es)
all_from P a [] h = tt
all_from P a (e ∷ es) h = go (e.sender == a) (all_from P a es h.1)
  where
    go : (b : Bool) → AllByRecursion P (from_place a es) → AllByRecursion P (if b then e ∷ from_place a es else from_place a es)
    go true k = (h.0, k)
    go false k = k

-- ---- responses

module _ (face : ℕ → List Signature) (l : Log) (q p : ℕ) where
  -- what the request declared, the response has
  response_typed : (asked answered : List ℕ) (request response : Mid) → (b c : Bool) → not b ≡ true → c ≡ true → nat_lt 0 request.number ≡ true → request.requester ≡ p → request.number ≡ response.number
      → ContentComes face l q request b asked → ContentComes face l p response c answered → declared_for (face q) (ids_in asked) ≡ Some (ids_in answered)
  response_typed asked answered request response true c plain is some of same r e = absurd cc
  response_typed asked answered request response false false plain is some of same r e = absurd cc
  response_typed asked answered request response false true plain is some of same r e =
      let by = r.1 some in
      let here : Declares l p response.number by.ids =
      subst (λ (x : ℕ). Declares l x response.number by.ids) of (subst (λ (n : ℕ). Declares l request.requester n by.ids) same by.declares) in
      by.answers ∙ ap (λ (ids : List ℕ). Some ids) (declares_one l p response.number by.ids (ids_in answered) here e)

  body_typed : (request response : Mid) (asked answered : Plain) → (is_content_body request.response asked && nat_lt 0 request.number) ≡ true → is_response_body response.response answered ≡ true → request.requester ≡ p
      → request.number ≡ response.number → BodyComes face l q request asked → BodyComes face l p response answered → IsAnsweredBy (face q) asked answered
  body_typed request response («plain».Content asked) («plain».Content answered) asks is of same r e =
      response_typed asked answered request response request.response response.response (and_left (not request.response) (nat_lt 0 request.number) asks) is
      (and_right (not request.response) (nat_lt 0 request.number) asks) of same r e
  body_typed request response («plain».Content asked) («plain».Failure sec) asks is of same r e = tt
  body_typed request response («plain».Content asked) («plain».System what) asks is of same r e = tt
  body_typed request response («plain».Failure sec) answered asks is of same r e = tt
  body_typed request response («plain».System what) answered asks is of same r e = tt

  each_answered : (request : Taken) → Comes face l q request → (es : List Taken) → AllByRecursion (Comes face l p) es → AllByRecursion (AnswersAsDeclared (face q) p request) es
  each_answered request r [] h = tt
  each_answered request r (e ∷ es) h =
      ((λ is. body_typed request.mid e.mid request.body e.body is.asks is.answers is.requester is.number r h.0), each_answered request r es h.1)

  all_answered : (rs es : List Taken) → AllByRecursion (Comes face l q) rs → AllByRecursion (Comes face l p) es → AllByRecursion (λ request. AllByRecursion (AnswersAsDeclared (face q) p request) es) rs
  all_answered [] es r h = tt
  all_answered (request ∷ rs) es r h = (each_answered request r.0 es h, all_answered rs es r.1 h)

-- ---- a record

module _ (setups : List Setup) (T : Log → ℕ → Kind → Type 0) (behaves : Behaves (face setups) kind_rules T) where
  abbrev m : Machine (Snapshot Kind)
  m = machine_of kind_rules

  pub record_typed : (ticks : ℕ) (k : Kept (Snapshot Kind)) (ts : List Turn) → ((p : ℕ) → p < k.places → Stands (face setups) kind_rules T behaves (λ r. []) p (k.start p))
      → IsLegal m ticks k → IsMerge k ts → IsWellTyped setups ticks k ts
  record_typed ticks k ts begins legal merge = record {
    taken = λ p. all_typed (face setups) ran.log p (joined (k.journal p)) (taken p);
    sent = λ a p. all_typed (face setups) ran.log p (sent_by m k a p) (sent a p);
    answered = λ a q b p. all_answered (face setups) ran.log q p (sent_by m k a q) (sent_by m k b p) (sent a q) (sent b p);
    resolved = ran.resolved;
  }
    where
      opens : State (Snapshot Kind)
      opens = opening_state k.places k.start

      runs : IsRun m ticks opens (steps_of ts) × (EndsAs m k (run m ticks opens (steps_of ts)) × IsHeard k (run m ticks opens (steps_of ts)))
      runs = merge_runs m (has_stamps kind_rules) ticks k legal ts merge

      ran : Ran (face setups) kind_rules T behaves ticks (λ r. []) opens (steps_of ts)
      ran = runs_good (face setups) kind_rules T behaves ticks k.places k.start (steps_of ts) begins runs.0

      taken : (p : ℕ) → AllByRecursion (Comes (face setups) ran.log p) (joined (k.journal p))
      taken p =
          subst (λ (bs : List TakenBatch). AllByRecursion (Comes (face setups) ran.log p) (joined bs))
          (ap (λ (j : Kept (Snapshot Kind)). j.journal p) (same_record m ticks k legal ts merge)) (ran.taken p)

      sent : (a p : ℕ) → AllByRecursion (Comes (face setups) ran.log p) (sent_by m k a p)
      sent a p =
          let pair = legal.pairs a p in
          let rest : (run m ticks opens (steps_of ts)).waiting a p ≡ pair.0 =
          runs.1.0.waiting a p ∙ drop_prefix (taken_by k a p) (sent_by m k a p) pair in
          subst (AllByRecursion (Comes (face setups) ran.log p)) pair.1
          (all_append (Comes (face setups) ran.log p) (taken_by k a p) pair.0
          (all_from (Comes (face setups) ran.log p) a (joined (k.journal p)) (taken p))
          (subst (AllByRecursion (Comes (face setups) ran.log p)) rest (ran.untaken a p)))

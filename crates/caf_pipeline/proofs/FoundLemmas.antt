-- A request that waits, and is resolved; and a conductor with nothing left, which sends nothing.
use Rattle.std.proofs.Common.{◌≡◌, ℕ, ◌≤◌, ◌==◌, Bool, true, false, List, [], count_by, Option, Some, None, inl, inr, refl, sym, ap, ◌∙◌, arith}
use Rattle.std.proofs.lemmas.Bool.Decides.{nat_tests}
use Rattle.caf_message.specs.Lists.{pick}
use Rattle.caf_response.specs.Pending.{WaitingRequests, has_number, from_awaited, without_due, resolved}
use Rattle.caf_response.specs.declared.pending.Waiting.{Waiting}
use Rattle.caf_carriers.proofs.CountLemmas.{same_number}
use Rattle.caf_actor.specs.PlainInput.{PlainInput}
use Rattle.caf_script.specs.Script.{goes_on, Played}
use Rattle.caf_script.specs.declared.script.Script.{Script}
use Rattle.caf_kinds.specs.Conductor.{Conducting, plays}
use Rattle.caf_kinds.specs.Kinds.{kind_rules, reacted, as_kind}
use Rattle.caf_kinds.specs.Reacting.{Reacted}
use Rattle.caf_kinds.specs.declared.kind.Kind.{Kind}
use Rattle.caf_kinds.specs.declared.kind.Kind.TheVariants as kind
use Rattle.caf_kinds.specs.declared.questions.Question.{Question}
use Rattle.caf_steady.specs.Outline.{Outlined, with_outline, send_outputs}
use Rattle.caf_steady.specs.Reading.{react}
use Rattle.caf_pipeline.proofs.QuestionLemmas.{IsAsked}
use Rattle.caf_pipeline.proofs.HoldLemmas.{pick_some}
use Rattle.caf_pipeline.proofs.IdleLemmas.{goes_nowhere}

pub asked_same : (m : ℕ) (q r : Question) → IsAsked m q → IsAsked m r → q ≡ r
asked_same m q r (inl a) (inl b) = a.1 ∙ sym b.1
asked_same m q r (inr a) (inr b) = a.1 ∙ sym b.1
asked_same m q r (inl a) (inr b) = let one_is = a.0 in let more = b.0 in absurd (omega (arith, one_is, more))
asked_same m q r (inr a) (inl b) = let one_is = b.0 in let more = a.0 in absurd (omega (arith, one_is, more))

pub asked_above : (m : ℕ) (q : Question) → IsAsked m q → 1 ≤ m
asked_above m q (inl a) = let e = a.0 in omega (arith, e)
asked_above m q (inr a) = let e = a.0 in omega (arith, e)

-- a conductor with nothing left sends nothing
pub quiet_react : (o : Outlined Kind) (i : PlainInput) (c : Conducting) (next : Script) → o.outline.behavior ≡ kind.Conductor c → reacted (kind.Conductor c) i ≡ as_kind kind.Conductor (plays c (goes_on next)) → next.plan ≡ []
    → react kind_rules o i ≡ with_outline o (record o.outline { behavior = kind.Conductor (record c { script = next }) })
quiet_react o i c next is reacts none =
    let all : reacted o.outline.behavior i ≡ as_kind kind.Conductor (plays c (next, [])) = ap (λ (x : Kind). reacted x i) is ∙ reacts ∙ ap (λ (p : Played). as_kind kind.Conductor (plays c p)) (goes_nowhere next none) in
    ap (λ (x : Reacted Kind). send_outputs (with_outline o (record o.outline { behavior = x.0 })) x.1.outputs) all

-- a request of that number is resolved where it waits
pub record Found (w : WaitingRequests) (number : ℕ) (found : Waiting × WaitingRequests) : Type 0 where
  pub others : List Waiting
  pub picked_so : pick (has_number number) w.multiplexed ≡ Some (found.0, others)
  pub left : found.1 ≡ record w { multiplexed = others; due = without_due number w.due }

pub found_so : (w : WaitingRequests) (number : ℕ) (found : Waiting × WaitingRequests) → w.awaited ≡ [] → resolved w number ≡ Some found → Found w number found
found_so w number found none e = go (pick (has_number number) w.multiplexed) refl
  where
    go : (r : Option (Waiting × List Waiting)) → pick (has_number number) w.multiplexed ≡ r → Found w number found
    go None q =
        let nothing : ◌≡◌ {A = Option (Waiting × WaitingRequests)} (from_awaited w number (pick (has_number number) w.awaited)) (Some found) = rw q at e in
        let bad : ◌≡◌ {A = Option (Waiting × WaitingRequests)} None (Some found) = rw none at nothing in cc
    go (Some r) q =
        let both : ◌≡◌ {A = Option (Waiting × WaitingRequests)} (Some (r.0, record w { multiplexed = r.1; due = without_due number w.due })) (Some found) = rw q at e in
        let first : r.0 ≡ found.0 = cc in
        let second : record w { multiplexed = r.1; due = without_due number w.due } ≡ found.1 = cc in
        record { others = r.1; picked_so = q ∙ ap (λ (x : Waiting). Some (x, r.1)) first; left = sym second }

pub none_found : (w : WaitingRequests) (number : ℕ) → w.awaited ≡ [] → resolved w number ≡ None → count_by (has_number number) w.multiplexed ≡ 0
none_found w number none e = go (count_by (has_number number) w.multiplexed == 0) refl
  where
    go : (b : Bool) → (count_by (has_number number) w.multiplexed == 0) ≡ b → count_by (has_number number) w.multiplexed ≡ 0
    go true q = same_number (count_by (has_number number) w.multiplexed) 0 q
    go false q =
        let some = pick_some (has_number number) w.multiplexed (grind (arith, nat_tests, q)) in
        let bad : ◌≡◌ {A = Option (Waiting × WaitingRequests)} (Some (some.0.0, record w { multiplexed = some.0.1; due = without_due number w.due })) None = rw some.1 at e in cc

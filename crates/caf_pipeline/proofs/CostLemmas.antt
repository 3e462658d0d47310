-- What sending costs a steady actor: each envelope its weight, and each hold that is kept one envelope more.
use Rattle.std.proofs.Common.{◌≡◌, ℕ, suc, ◌+◌, ◌≤◌, ◌==◌, nat_le, Bool, true, false, List, [], ◌∷◌, ◌++◌, length, Option, Some, None, refl, subst, ap, ◌∙◌, arith}
use Rattle.std.specs.Prelude.{if◌then◌else◌}
use Rattle.caf_types.specs.Limits.{last_count}
use Rattle.caf_types.specs.declared.notice.Mid.{Mid}
use Rattle.caf_types.specs.declared.notice.Priority.{Priority}
use Rattle.caf_types.specs.declared.notice.Priority.TheVariants.{Urgent}
use Rattle.caf_types.specs.declared.notice.Notice.TheVariants as notice
use Rattle.caf_types.specs.declared.shape.TypeId.{TypeId}
use Rattle.caf_message.specs.Envelope.{no_request}
use Rattle.caf_message.specs.Lists.{keep, pick}
use Rattle.caf_message.specs.declared.envelope.Plain.{Plain}
use Rattle.caf_message.specs.declared.envelope.Plain.TheVariants as «plain»
use Rattle.caf_response.specs.declared.pending.Mode.{Mode}
use Rattle.caf_response.specs.Holds.{is_before, is_of, take_hold}
use Rattle.caf_response.specs.Lines.{put_in}
use Rattle.caf_response.specs.Pending.{issued}
use Rattle.caf_response.specs.Promise.{response_mid}
use Rattle.caf_response.specs.Promised.{Promised}
use Rattle.caf_actor.specs.declared.origin.Origin.{Origin}
use Rattle.caf_actor.specs.Answering.{is_asked, promised_to}
use Rattle.caf_actor.specs.PlainOutput.{PlainOutput, Tell, TellMany, Request, Exit, Link, Unlink, Watch, Unwatch, Deliver, Break, Spawn, Tick, Delay, Within}
use Rattle.caf_actor.specs.PlainReaction.{PlainAnswer, Value, Error, Delegate, Hold, Nothing}
use Rattle.caf_actor.specs.Sending.{mid_of}
use Rattle.caf_carriers.proofs.CountLemmas.{same_number}
use Rattle.caf_kinds.specs.Keeping.{first_of_and}
use Rattle.caf_steady.specs.Outline.{Outlined, Bare, with_outline, send, tell, tell_many, request, settle_hold, settle, send_output, send_outputs, answer_request, answer_tell, answer}
use Rattle.caf_pipeline.proofs.BurdenLemmas.{weigh, weigh_append}

-- ---- holds

picked : {A : Type 0} (test : A → Bool) (xs : List A) (p : A × List A) → pick test xs ≡ Some p → (test p.0 ≡ true) × (length xs ≡ suc (length p.1))
picked test [] p e = absurd cc
picked {A} test (x ∷ xs) p e = go (test x) refl (pick test xs) refl (picked test xs) e
  where
    Is : A × List A → Type 0
    Is r = (test r.0 ≡ true) × (suc (length xs) ≡ suc (length r.1))

    go : (b : Bool) → test x ≡ b → (found : Option (A × List A)) → pick test xs ≡ found → ((q : A × List A) → pick test xs ≡ Some q → (test q.0 ≡ true) × (length xs ≡ suc (length q.1)))
        → (if b then Some (x, xs) else keep x found) ≡ Some p → Is p
    go true q found r later f = let same : (x, xs) ≡ p = cc in subst Is same (q, refl)
    go false q None r later f = absurd cc
    go false q (Some rest) r later f = let now = later rest r in let same : (rest.0, x ∷ rest.1) ≡ p = cc in subst Is same (now.0, ap suc now.1)

put_long : {A : Type 0} (before : A → A → Bool) (xs : List A) (x : A) → length (put_in before xs x) ≡ suc (length xs)
put_long before [] x = refl
put_long before (y ∷ ys) x = go (before y x) (before x y) refl (put_long before ys x)
  where
    go : (c b : Bool) → before x y ≡ b → length (put_in before ys x) ≡ suc (length ys) → length (put_in before (y ∷ ys) x) ≡ suc (suc (length ys))
    go c true q rest = rw q refl
    go c false q rest = rw q (ap suc rest)

-- ---- what an actor has spent

module _ (v : ℕ → ℕ) where
  -- ---- what is to be paid

  abbrev pub many : List ℕ → ℕ
  many [] = 0
  many (to ∷ places) = suc (v to) + many places

  -- a hold that is settled is one hold less
  abbrev pub cost : PlainOutput → ℕ
  cost (Tell to priority words) = suc (v to)
  cost (TellMany places priority words) = many places
  cost (Request to priority mode tag expected words) = suc (v to)
  cost (Exit to reason) = suc (v to)
  cost (Deliver requester number words) = v requester
  cost (Break requester number sec) = v requester
  cost _ = 0

  abbrev pub costs : List PlainOutput → ℕ
  costs [] = 0
  costs (o ∷ os) = cost o + costs os

  pub costs_append : (xs ys : List PlainOutput) → costs (xs ++ ys) ≡ costs xs + costs ys
  costs_append [] ys = omega arith
  costs_append (x ∷ xs) ys = let rest = costs_append xs ys in omega (arith, rest)

  -- a request that is kept is one hold more
  abbrev pub answer_cost : Bool → Origin → PlainAnswer → ℕ
  answer_cost true origin (Value value) = suc (v origin.mid.requester)
  answer_cost true origin (Error sec) = suc (v origin.mid.requester)
  answer_cost true origin (Delegate to) = suc (v to)
  answer_cost true origin Hold = 1
  answer_cost true origin Nothing = 0
  answer_cost false origin (Delegate to) = suc (v to)
  answer_cost false origin _ = 0

  -- ---- what an actor has spent

  module _ {S : Type 0} where
    abbrev pub spent : Outlined S → ℕ
    spent o = weigh v o.sent + length o.outline.holds

    -- it goes on with the same value, and has spent at most so much more
    pub record Spends (n : ℕ) (o after : Outlined S) : Type 0 where
      pub same : after.outline.behavior ≡ o.outline.behavior
      pub within : spent after ≤ spent o + n

    send_spends : (o : Outlined S) (to : ℕ) (mid : Mid) (priority : Priority) (body : Plain) → Spends (suc (v to)) o (send o to mid priority body)
    send_spends o to mid priority body =
        let one : Bare = record { sender = o.outline.place; to = to; mid = mid; priority = priority; body = body } in
        let all = weigh_append v o.sent (one ∷ []) in
        record { same = refl; within = omega (arith, all) }

    none_spends : (o : Outlined S) → Spends 0 o o
    none_spends o = record { same = refl; within = omega arith }

    -- ---- outputs

    many_spends : (o : Outlined S) (places : List ℕ) (priority : Priority) (words : List ℕ) → Spends (many places) o (tell_many o places priority words)
    many_spends o [] priority words = none_spends o
    many_spends o (to ∷ places) priority words =
        let first = (send_spends o to (no_request o.outline.place) priority («plain».Content words)).within in
        let rest = many_spends (tell o to priority words) places priority words in
        let more = rest.within in
        record { same = rest.same; within = omega (arith, first, more) }

    request_spends : (o : Outlined S) (to : ℕ) (priority : Priority) (mode : Mode) (tag : ℕ) (expected : List TypeId) (words : List ℕ) → Spends (suc (v to)) o (request o to priority mode tag expected words)
    request_spends o to priority mode tag expected words = go (nat_le o.outline.pending.next last_count) refl
      where
        asking : Outlined S
        asking = with_outline o (record o.outline { pending = issued o.outline.pending mode tag expected })

        go : (b : Bool) → nat_le o.outline.pending.next last_count ≡ b → Spends (suc (v to)) o (request o to priority mode tag expected words)
        go true q =
            let one = (send_spends asking to (mid_of o.outline.place o.outline.pending.next) priority («plain».Content words)).within in
            rw q (record { same = refl; within = omega (arith, one) })
        go false q = rw q (record { same = refl; within = omega arith })

    settle_spends : (o : Outlined S) (requester number : ℕ) (body : Plain) → Spends (v requester) o (settle o requester number body)
    settle_spends o requester number body = go (take_hold o.outline.holds requester number) refl
      where
        go : (found : Option (Promised × List Promised)) → take_hold o.outline.holds requester number ≡ found → Spends (v requester) o (settle_hold o found body)
        go None q = record { same = refl; within = omega arith }
        go (Some found) q =
            let is = picked (is_of requester number) o.outline.holds found q in
            let to : v found.0.mid.requester ≡ v requester = ap v (same_number found.0.mid.requester requester (first_of_and (found.0.mid.requester == requester) (found.0.mid.number == number) is.0)) in
            let one = (send_spends (with_outline o (record o.outline { holds = found.1 })) found.0.mid.requester (response_mid found.0.mid) found.0.priority body).within in
            let less = is.1 in
            record { same = refl; within = omega (arith, one, to, less) }

    output_spends : (o : Outlined S) (one : PlainOutput) → Spends (cost one) o (send_output o one)
    output_spends o (Tell to priority words) = send_spends o to (no_request o.outline.place) priority («plain».Content words)
    output_spends o (TellMany places priority words) = many_spends o places priority words
    output_spends o (Request to priority mode tag expected words) = request_spends o to priority mode tag expected words
    output_spends o (Exit to reason) = send_spends o to (no_request o.outline.place) Urgent («plain».System (notice.Exit o.outline.place reason))
    output_spends o (Deliver requester number words) = settle_spends o requester number («plain».Content words)
    output_spends o (Break requester number sec) = settle_spends o requester number («plain».Failure sec)
    output_spends o (Link to) = none_spends o
    output_spends o (Unlink to) = none_spends o
    output_spends o (Watch to) = none_spends o
    output_spends o (Unwatch to) = none_spends o
    output_spends o (Spawn place) = none_spends o
    output_spends o (Tick to) = none_spends o
    output_spends o (Delay ticks to priority words) = none_spends o
    output_spends o (Within ticks to priority mode tag expected words) = none_spends o

    pub outputs_spend : (o : Outlined S) (all : List PlainOutput) → Spends (costs all) o (send_outputs o all)
    outputs_spend o [] = none_spends o
    outputs_spend o (one ∷ more) =
        let first = output_spends o one in
        let rest = outputs_spend (send_output o one) more in
        let now = first.within in
        let later = rest.within in
        record { same = rest.same ∙ first.same; within = omega (arith, now, later) }

    -- ---- answers

    pub answer_spends : (o : Outlined S) (origin : Origin) (words : List ℕ) (a : PlainAnswer) → Spends (answer_cost (is_asked origin) origin a) o (answer o origin words a)
    answer_spends o origin words a = go (is_asked origin) refl
      where
        asked : (b : PlainAnswer) → Spends (answer_cost true origin b) o (answer_request o (promised_to origin) words b)
        asked (Value value) = send_spends o origin.mid.requester (response_mid origin.mid) origin.priority («plain».Content value)
        asked (Error sec) = send_spends o origin.mid.requester (response_mid origin.mid) origin.priority («plain».Failure sec)
        asked (Delegate to) = send_spends o to origin.mid origin.priority («plain».Content words)
        asked Hold = let one = put_long is_before o.outline.holds (promised_to origin) in record { same = refl; within = omega (arith, one) }
        asked Nothing = none_spends o

        told : (b : PlainAnswer) → Spends (answer_cost false origin b) o (answer_tell o origin words b)
        told (Value value) = none_spends o
        told (Error sec) = none_spends o
        told (Delegate to) = send_spends o to (no_request o.outline.place) origin.priority («plain».Content words)
        told Hold = none_spends o
        told Nothing = none_spends o

        go : (b : Bool) → is_asked origin ≡ b → Spends (answer_cost (is_asked origin) origin a) o (answer o origin words a)
        go true q = rw q (asked a)
        go false q = rw q (told a)

-- At Start the conductor of an undisturbed script issues its requests, which have the numbers from 1 on.
use Rattle.std.proofs.Common.{◌≡◌, ℕ, suc, ◌+◌, ◌-◌, ◌≤◌, ◌<◌, ◌==◌, nat_le, Bool, true, false, List, [], ◌∷◌, length, count_by, inl, inr, refl, sym, subst, ap, ◌∙◌, arith}
use Rattle.std.specs.Prelude.{◌⊎◌, Contains}
use Rattle.std.specs.List.{AllByRecursion}
use Rattle.std.proofs.lemmas.Bool.{le-leb}
use Rattle.std.proofs.lemmas.Bool.Decides.{nat_tests}
use Rattle.std.proofs.lemmas.List.Elements.{Contains-append_left, Contains-push}
use Rattle.caf_mailbox.proofs.NextLemmas.{all_append}
use Rattle.caf_message.specs.declared.envelope.Plain.TheVariants as «plain»
use Rattle.caf_response.specs.Pending.{has_number, issued}
use Rattle.caf_response.specs.declared.pending.Mode.{Mode}
use Rattle.caf_response.specs.declared.pending.Mode.TheVariants.{Multiplexed}
use Rattle.caf_response.specs.declared.pending.Waiting.{Waiting}
use Rattle.caf_carriers.proofs.CountLemmas.{one, count-cons, count-append}
use Rattle.caf_types.specs.Limits.{last_count}
use Rattle.caf_types.specs.declared.notice.Priority.{Priority}
use Rattle.caf_types.specs.declared.shape.TypeId.{TypeId}
use Rattle.caf_index.specs.Index.{Entries}
use Rattle.caf_actor.specs.PlainOutput.{PlainOutput, Tell, Request}
use Rattle.caf_actor.specs.Sending.{mid_of}
use Rattle.caf_kinds.specs.declared.kind.Kind.{Kind}
use Rattle.caf_kinds.specs.declared.questions.Question.{Question}
use Rattle.caf_kinds.specs.declared.questions.Question.TheVariants as question
use Rattle.caf_steady.specs.Outline.{Outlined, Bare, with_outline, send, request, send_output, send_outputs}
use Rattle.caf_pipeline.specs.Undisturbed.{Pipeline}
use Rattle.caf_pipeline.specs.Parts.{start_content}
use Rattle.caf_pipeline.specs.Sent.{IsTell, IsRequest, AreTotals, AreSent}
use Rattle.caf_pipeline.proofs.QuestionLemmas.{IsAsked, content_of_question}
use Rattle.caf_pipeline.proofs.AwaitingLemmas.{IsWaitingRight}
use Rattle.caf_pipeline.proofs.PlayLemmas.{types_for}
use Rattle.caf_pipeline.proofs.LightLemmas.{IsLight, start_light, question_light}

-- ---- what was issued

-- no response, which weighs nothing; and where it is a request, one for what its number asks
pub record IsSentRight (b : Bare) : Type 0 where
  pub response : b.mid.response ≡ false
  pub words : List ℕ
  pub body : b.body ≡ «plain».Content words
  pub light : IsLight words
  pub asks : (b.mid.number ≡ 0) ⊎ ((q : Question) × IsAsked b.mid.number q × (words ≡ content_of_question q))

-- the request of that number went to the place
pub record IsAskedOf (to m : ℕ) (sent : List Bare) : Type 0 where
  pub bare : Bare
  pub is_sent : Contains sent bare
  pub to_is : bare.to ≡ to
  pub mid_is : bare.mid ≡ mid_of 0 m

module _ (steps lines bytes : ℕ) (index : Entries) (p : Pipeline) where
  abbrev IsRightlyWaiting : Waiting → Type 0
  IsRightlyWaiting = IsWaitingRight steps lines bytes index []

  -- so many requests were issued
  pub record HasIssued (o : Outlined Kind) (m : ℕ) : Type 0 where
    pub at : o.outline.place ≡ 0
    pub next : o.outline.pending.next ≡ m + 1
    pub awaited : o.outline.pending.awaited ≡ []
    pub waiting : AllByRecursion IsRightlyWaiting o.outline.pending.multiplexed
    pub once : (j : ℕ) → 1 ≤ j → j ≤ m → count_by (has_number j) o.outline.pending.multiplexed ≡ 1
    pub none : (j : ℕ) → (j < 1) ⊎ (m < j) → count_by (has_number j) o.outline.pending.multiplexed ≡ 0
    pub sent : AllByRecursion IsSentRight o.sent
    pub asks : (j : ℕ) → 1 ≤ j → j ≤ m → IsAskedOf p.collector j o.sent

  -- one request more
  module _ (o : Outlined Kind) (m : ℕ) (q : Question) (priority : Priority) (asked : IsAsked (m + 1) q) (below : m + 1 < steps) (small : m + 1 ≤ last_count) (h : HasIssued o m) where
    abbrev w : Waiting
    w = record { number = o.outline.pending.next; tag = m + 2; expected = types_for q }

    abbrev bare : Bare
    bare = record { sender = o.outline.place; to = p.collector; mid = mid_of o.outline.place o.outline.pending.next; priority = priority; body = «plain».Content (content_of_question q) }

    abbrev now : Outlined Kind
    now = send (with_outline o (record o.outline { pending = issued o.outline.pending Multiplexed (m + 2) (types_for q) })) p.collector (mid_of o.outline.place o.outline.pending.next) priority («plain».Content (content_of_question q))

    same : request o p.collector priority Multiplexed (m + 2) (types_for q) (content_of_question q) ≡ now
    same = let may : nat_le o.outline.pending.next last_count ≡ true = (let n = h.next in le-leb o.outline.pending.next last_count (omega (arith, n, small))) in rw may refl

    one_right : IsRightlyWaiting w
    one_right =
        let n = h.next in
        record { question = q; asked = subst (λ (x : ℕ). IsAsked x q) (sym n) asked; tag = omega (arith, n); expected = refl; below = omega (arith, n, below) }

    counts : (j : ℕ) → count_by (has_number j) now.outline.pending.multiplexed ≡ count_by (has_number j) o.outline.pending.multiplexed + one (w.number == j)
    counts j =
        let both = count-append (has_number j) o.outline.pending.multiplexed (w ∷ []) in
        let last = count-cons (has_number j) w [] in
        omega (arith, both, last)

    bare_right : IsSentRight bare
    bare_right = record { response = refl; words = content_of_question q; body = refl; light = question_light q; asks = inr (q, subst (λ (x : ℕ). IsAsked x q) (sym h.next) asked, refl) }

    issued_so : HasIssued now (m + 1)
    issued_so = record {
      at = h.at;
      next = ap (λ x. x + 1) h.next;
      awaited = h.awaited;
      waiting = all_append IsRightlyWaiting o.outline.pending.multiplexed (w ∷ []) h.waiting (one_right, tt);
      once = λ j low high. once_at j low high (w.number == j) refl;
      none = λ j out. none_at j out (w.number == j) refl;
      sent = all_append IsSentRight o.sent (bare ∷ []) h.sent (bare_right, tt);
      asks = λ j low high. asks_at j low high (w.number == j) refl;
    }
      where
        once_at : (j : ℕ) → 1 ≤ j → j ≤ m + 1 → (b : Bool) → (o.outline.pending.next == j) ≡ b → count_by (has_number j) now.outline.pending.multiplexed ≡ 1
        once_at j low high true e =
            let c = counts j in
            let ones = ap one e in
            let n = h.next in
            let here : m < j = grind (arith, nat_tests, e, n) in
            let before = h.none j (inr here) in
            omega (arith, c, ones, before)
        once_at j low high false e =
            let c = counts j in
            let ones = ap one e in
            let n = h.next in
            let less : j ≤ m = grind (arith, nat_tests, e, n, high) in
            let before = h.once j low less in
            omega (arith, c, ones, before)

        none_at : (j : ℕ) → (j < 1) ⊎ (m + 1 < j) → (b : Bool) → (o.outline.pending.next == j) ≡ b → count_by (has_number j) now.outline.pending.multiplexed ≡ 0
        none_at j out true e =
            let n = h.next in
            let here : m + 1 ≡ j = grind (arith, nat_tests, e, n) in
            absurd (elim out [ inl low ↦ omega (arith, low, here) | inr high ↦ omega (arith, high, here) ])
        none_at j out false e =
            let c = counts j in
            let ones = ap one e in
            let before = h.none j (elim out [ inl low ↦ inl low | inr high ↦ inr (omega (arith, high)) ]) in
            omega (arith, c, ones, before)

        asks_at : (j : ℕ) → 1 ≤ j → j ≤ m + 1 → (b : Bool) → (o.outline.pending.next == j) ≡ b → IsAskedOf p.collector j now.sent
        asks_at j low high true e =
            let here : o.outline.pending.next ≡ j = grind (arith, nat_tests, e) in
            record { bare = bare; is_sent = Contains-push o.sent bare; to_is = refl; mid_is = ap (λ x. mid_of x o.outline.pending.next) h.at ∙ ap (mid_of 0) here }
        asks_at j low high false e =
            let n = h.next in
            let less : j ≤ m = grind (arith, nat_tests, e, n, high) in
            let before = h.asks j low less in
            record { bare = before.bare; is_sent = Contains-append_left o.sent (bare ∷ []) before.bare before.is_sent; to_is = before.to_is; mid_is = before.mid_is }

    issues : HasIssued (request o p.collector priority Multiplexed (m + 2) (types_for q) (content_of_question q)) (m + 1)
    issues = subst (λ (x : Outlined Kind). HasIssued x (m + 1)) (sym same) issued_so

  -- whatever of the script's messages it is
  request_issues : (o : Outlined Kind) (m : ℕ) (q : Question) (one_output : PlainOutput) → IsRequest p.collector (m + 2) (types_for q) (content_of_question q) one_output → IsAsked (m + 1) q → m + 1 < steps → m + 1 ≤ last_count → HasIssued o m
      → HasIssued (send_output o one_output) (m + 1)
  request_issues o m q (Request to priority mode tag expected said) is asked below small h =
      let same : request o to priority mode tag expected said ≡ request o p.collector priority Multiplexed (m + 2) (types_for q) (content_of_question q) =
      ap (λ (x : ℕ). request o x priority mode tag expected said) is.0
      ∙ ap (λ (x : Mode). request o p.collector priority x tag expected said) is.1
      ∙ ap (λ (x : ℕ). request o p.collector priority Multiplexed x expected said) is.2
      ∙ ap (λ (x : List TypeId). request o p.collector priority Multiplexed (m + 2) x said) is.3
      ∙ ap (λ (x : List ℕ). request o p.collector priority Multiplexed (m + 2) (types_for q) x) is.4 in
      subst (λ (x : Outlined Kind). HasIssued x (m + 1)) (sym same) (issues o m q priority asked below small h)
  request_issues o m q _ is asked below small h = absurd is

  totals_issue : (o : Outlined Kind) (m : ℕ) (os : List PlainOutput) → 1 ≤ m → AreTotals p.collector (m + 2) os → m + length os < steps → m + length os ≤ last_count → HasIssued o m → HasIssued (send_outputs o os) (m + length os)
  totals_issue o m [] above are below small h = let same : m ≡ m + 0 = omega arith in subst (HasIssued o) same h
  totals_issue o m (x ∷ os) above are below small h =
      let now = request_issues o m question.Totals x are.0 (inr (omega (arith, above), refl)) (omega (arith, below)) (omega (arith, small)) h in
      let tags : m + 2 + 1 ≡ m + 1 + 2 = omega arith in
      let rest = totals_issue (send_output o x) (m + 1) os (omega arith) (subst (λ (n : ℕ). AreTotals p.collector n os) tags are.1) (omega (arith, below)) (omega (arith, small)) now in
      let same : m + 1 + length os ≡ m + suc (length os) = omega arith in
      subst (HasIssued (send_outputs (send_output o x) os)) same rest

  tell_issues : (o : Outlined Kind) (x : PlainOutput) → IsTell p.source start_content x → HasIssued o 0 → HasIssued (send_output o x) 0
  tell_issues o (Tell to priority said) is h =
      let bare : Bare = record { sender = o.outline.place; to = to; mid = record { requester = o.outline.place; number = 0; response = false }; priority = priority; body = «plain».Content said } in
      record {
        at = h.at;
        next = h.next;
        awaited = h.awaited;
        waiting = h.waiting;
        once = λ j low high. absurd (omega (arith, low, high));
        none = h.none;
        sent = all_append IsSentRight o.sent (bare ∷ []) h.sent (record { response = refl; words = said; body = refl; light = subst IsLight (sym is.1) start_light; asks = inl refl }, tt);
        asks = λ j low high. absurd (omega (arith, low, high));
      }
  tell_issues o _ is h = absurd is

  -- all of them
  pub all_issued : (o : Outlined Kind) (os : List PlainOutput) → AreSent p os → length os ≤ steps → length os ≤ last_count → HasIssued o 0 → HasIssued (send_outputs o os) (length os - 1)
  all_issued o [] are below small h = absurd are
  all_issued o (first ∷ []) are below small h = absurd are
  all_issued o (first ∷ second ∷ others) are below small h =
      let told = tell_issues o first are.0 h in
      let asked = request_issues (send_output o first) 0 question.Index second are.1 (inl (refl, refl)) (omega (arith, below)) (omega (arith, small)) told in
      let rest = totals_issue (send_output (send_output o first) second) 1 others (omega arith) are.2 (omega (arith, below)) (omega (arith, small)) asked in
      let same : 1 + length others ≡ suc (suc (length others)) - 1 = omega arith in
      subst (HasIssued (send_outputs (send_output (send_output o first) second) others)) same rest

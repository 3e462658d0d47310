-- What becomes of the conductor's replies while it takes the answers to its requests.
use Rattle.std.proofs.Common.{◌≡◌, ℕ, ◌+◌, ◌-◌, ◌≤◌, ◌<◌, ◌==◌, Bool, true, false, List, [], ◌∷◌, length, drop, count_by, Option, Some, None, inl, inr, refl, sym, subst, ap, ◌∙◌, arith}
use Rattle.std.specs.Prelude.{◌⊎◌, bytes_eq, slice_get, slice_set, Contains}
use Rattle.std.specs.List.{AllByRecursion}
use Rattle.std.proofs.lemmas.Bool.Decides.{nat_tests}
use Rattle.caf_index.specs.Index.{Entries}
use Rattle.caf_index.proofs.ContainsLemmas.{contains-none, contains-cases}
use Rattle.caf_mailbox.proofs.NextLemmas.{all_pick}
use Rattle.caf_message.specs.Content.{ids_in}
use Rattle.caf_message.specs.declared.envelope.Plain.TheVariants as «plain»
use Rattle.caf_message.specs.declared.envelope.Taken.{Taken}
use Rattle.caf_response.specs.Pending.{WaitingRequests, has_number, resolved}
use Rattle.caf_response.specs.declared.pending.Waiting.{Waiting}
use Rattle.caf_words.specs.Several.{ids_of}
use Rattle.caf_carriers.proofs.CountLemmas.{one, self_same, same_number}
use Rattle.caf_types.specs.declared.sec.Sec.{Sec}
use Rattle.caf_actor.specs.Answering.{origin_of}
use Rattle.caf_actor.specs.Handling.{response_input}
use Rattle.caf_actor.specs.PlainInput.{Start, Response}
use Rattle.caf_script.specs.Reply.{Reply, Unsent, Answered}
use Rattle.caf_script.specs.Script.{answered, answered_at, answer_to, step_of}
use Rattle.caf_script.specs.declared.script.Script.{Script}
use Rattle.caf_kinds.specs.Conductor.{Conducting}
use Rattle.caf_kinds.specs.Kinds.{kind_rules}
use Rattle.caf_kinds.specs.declared.contents.Chunk.{Chunk}
use Rattle.caf_kinds.specs.declared.kind.Kind.{Kind}
use Rattle.caf_kinds.specs.declared.kind.Kind.TheVariants as kind
use Rattle.caf_kinds.specs.declared.questions.Question.{Question}
use Rattle.caf_kinds.specs.declared.questions.Question.TheVariants as question
use Rattle.caf_kinds.specs.declared.setup.Setup.{Setup}
use Rattle.caf_steady.specs.Outline.{Outlined, Bare, with_outline}
use Rattle.caf_steady.specs.Reading.{react, resolve, read, read_one, read_body}
use Rattle.caf_steady.specs.Steady.{Brings}
use Rattle.caf_pipeline.specs.Contents.{comes}
use Rattle.caf_pipeline.proofs.QuestionLemmas.{IsAsked}
use Rattle.caf_pipeline.proofs.ConductedLemmas.{IsConducted, without_request, one_conducted, all_conducted}
use Rattle.caf_pipeline.proofs.HoldLemmas.{Picked, picked}
use Rattle.caf_pipeline.proofs.PlayLemmas.{set_length, set_here, set_other, types_for}
use Rattle.caf_pipeline.proofs.TallyLemmas.{final_answer}
use Rattle.caf_pipeline.proofs.FoundLemmas.{asked_same, asked_above, quiet_react, Found, found_so, none_found}

module _ (steps lines bytes : ℕ) (index : Entries) (sent_first : List Bare) where
  abbrev final : Question → List ℕ
  final = final_answer index lines bytes

  abbrev pub right_reply : Question → Reply
  right_reply q = Answered (drop 2 (final q))

  pub record IsWaitingRight (w : Waiting) : Type 0 where
    pub question : Question
    pub asked : IsAsked w.number question
    pub tag : w.tag ≡ w.number + 1
    pub expected : w.expected ≡ types_for question
    pub below : w.number < steps

  -- each request waits, or has its answer
  pub record IsAwaiting (o : Outlined Kind) : Type 0 where
    pub conducting : Conducting
    pub is : o.outline.behavior ≡ kind.Conductor conducting
    pub none_left : conducting.script.plan ≡ []
    pub first : slice_get conducting.script.replies 0 ≡ Some Unsent
    pub many : length conducting.script.replies ≡ steps
    pub expects : (m : ℕ) (q : Question) → IsAsked m q → m < steps → slice_get conducting.script.expected m ≡ Some (types_for q)
    pub awaited : o.outline.pending.awaited ≡ []
    pub waiting : AllByRecursion IsWaitingRight o.outline.pending.multiplexed
    pub once : (m : ℕ) → count_by (has_number m) o.outline.pending.multiplexed ≤ 1
    pub settled : (m : ℕ) (q : Question) → IsAsked m q → m < steps → (0 < count_by (has_number m) o.outline.pending.multiplexed) ⊎ (slice_get conducting.script.replies m ≡ Some (right_reply q))
    pub sent : o.sent ≡ sent_first

  -- a response is the final answer to its request
  pub record IsRightResponse (e : Taken) : Type 0 where
    pub value : (words : List ℕ) → e.body ≡ «plain».Content words → e.mid.response ≡ true → (q : Question) × IsAsked e.mid.number q × (words ≡ final q)
    pub no_error : (sec : Sec) → e.body ≡ «plain».Failure sec → ⊥

  same_types : (q : Question) → bytes_eq (ids_of (types_for q)) (ids_in (final q)) ≡ true
  same_types question.Index = refl
  same_types question.Totals = refl

  as_response : (w : Waiting) (q : Question) → w.expected ≡ types_for q → response_input w (final q) ≡ Response w.tag (final q)
  as_response w q e = let same : bytes_eq (ids_of w.expected) (ids_in (final q)) ≡ true = ap (λ ts. bytes_eq (ids_of ts) (ids_in (final q))) e ∙ same_types q in rw same refl

  answer_is : (q : Question) → answer_to (Some (types_for q)) (final q) ≡ right_reply q
  answer_is question.Index = refl
  answer_is question.Totals = refl

  step_is : (n : ℕ) → step_of (n + 1) ≡ Some n
  step_is n =
      let no : (n + 1 == 0) ≡ false = grind (arith, nat_tests) in
      let same : n + 1 - 1 ≡ n = omega arith in
      rw no (ap (λ x. Some x) same)

  answered_so : (s : Script) (n : ℕ) (q : Question) → slice_get s.expected n ≡ Some (types_for q) → answered s (n + 1) (final q) ≡ record s { replies = slice_set s.replies n (right_reply q) }
  answered_so s n q e =
      ap (λ o. answered_at s o (final q)) (step_is n)
      ∙ ap (λ o. record s { replies = slice_set s.replies n (answer_to o (final q)) }) e
      ∙ ap (λ r. record s { replies = slice_set s.replies n r }) (answer_is q)

  -- ---- one answer

  module _ (o : Outlined Kind) (n : ℕ) (q : Question) (asked : IsAsked n q) (x : IsAwaiting o) (found : Waiting × WaitingRequests) (f : Found o.outline.pending n found) where
    abbrev is_picked : Picked (has_number n) o.outline.pending.multiplexed (found.0, f.others)
    is_picked = picked (has_number n) o.outline.pending.multiplexed (found.0, f.others) f.picked_so

    number_is : found.0.number ≡ n
    number_is = same_number found.0.number n is_picked.passes

    all_right : IsWaitingRight found.0 × AllByRecursion IsWaitingRight f.others
    all_right = all_pick (has_number n) IsWaitingRight o.outline.pending.multiplexed (found.0, f.others) x.waiting f.picked_so

    below : n < steps
    below = let low = all_right.0.below in omega (arith, low, number_is)

    question_is : all_right.0.question ≡ q
    question_is = asked_same n all_right.0.question q (subst (λ (m : ℕ). IsAsked m all_right.0.question) number_is all_right.0.asked) asked

    abbrev after : Script
    after = record x.conducting.script { replies = slice_set x.conducting.script.replies n (right_reply q) }

    abbrev end : Outlined Kind
    end = with_outline (without_request o found.1) (record o.outline { behavior = kind.Conductor (record x.conducting { script = after }); pending = found.1 })

    pub reacts_so : react kind_rules (without_request o found.1) (response_input found.0 (final q)) ≡ end
    reacts_so =
        let tag : found.0.tag ≡ n + 1 = all_right.0.tag ∙ ap (λ m. m + 1) number_is in
        let input : response_input found.0 (final q) ≡ Response (n + 1) (final q) =
        as_response found.0 q (all_right.0.expected ∙ ap types_for question_is) ∙ ap (λ t. Response t (final q)) tag in
        let next = answered_so x.conducting.script n q (x.expects n q asked below) in
        ap (react kind_rules (without_request o found.1)) input
        ∙ quiet_react (without_request o found.1) (Response (n + 1) (final q)) x.conducting (answered x.conducting.script (n + 1) (final q)) x.is refl (ap (λ (s : Script). s.plan) next ∙ x.none_left)
        ∙ ap (λ (s : Script). with_outline (without_request o found.1) (record o.outline { behavior = kind.Conductor (record x.conducting { script = s }); pending = found.1 })) next

    fewer : (m : ℕ) → count_by (has_number m) o.outline.pending.multiplexed ≡ one (found.0.number == m) + count_by (has_number m) found.1.multiplexed
    fewer m = is_picked.counts (has_number m) ∙ ap (λ (w : WaitingRequests). one (found.0.number == m) + count_by (has_number m) w.multiplexed) (sym f.left)

    none_now : count_by (has_number n) found.1.multiplexed ≡ 0
    none_now = let less = fewer n in let most = x.once n in let own = ap one is_picked.passes in omega (arith, less, most, own)

    pub answer_awaits : IsAwaiting end
    answer_awaits = record {
      conducting = record x.conducting { script = after };
      is = refl;
      none_left = x.none_left;
      first = set_other x.conducting.script.replies n 0 (right_reply q) (λ e. (let above = asked_above n q asked in omega (arith, above, e))) ∙ x.first;
      many = set_length x.conducting.script.replies n (right_reply q) ∙ x.many;
      expects = x.expects;
      awaited = ap (λ (w : WaitingRequests). w.awaited) f.left ∙ x.awaited;
      waiting = subst (λ (w : WaitingRequests). AllByRecursion IsWaitingRight w.multiplexed) (sym f.left) all_right.1;
      once = λ m. (let less = fewer m in let most = x.once m in omega (arith, less, most));
      settled = λ m r is low. go m r is low (n == m) refl;
      sent = x.sent;
    }
      where
        go : (m : ℕ) (r : Question) → IsAsked m r → m < steps → (b : Bool) → (n == m) ≡ b → (0 < count_by (has_number m) found.1.multiplexed) ⊎ (slice_get after.replies m ≡ Some (right_reply r))
        go m r is low true e =
            let same = same_number n m e in
            let reply_is : r ≡ q = asked_same m r q is (subst (λ (y : ℕ). IsAsked y q) same asked) in
            let long = x.many in
            inr (subst (λ (y : ℕ). slice_get after.replies y ≡ Some (right_reply r)) same
            (set_here x.conducting.script.replies n (right_reply q) (omega (arith, below, long)) ∙ ap (λ (y : Question). Some (right_reply y)) (sym reply_is)))
        go m r is low false e = elim (x.settled m r is low) [
          | inl some ↦
              (let less = fewer m in
              let other : (found.0.number == m) ≡ false = ap (λ y. y == m) number_is ∙ e in
              let none = ap one other in
              inl (omega (arith, less, none, some)))
          | inr replied ↦ inr (set_other x.conducting.script.replies n m (right_reply q) (λ same. (let yes : (n == m) ≡ true = ap (λ y. n == y) (sym same) ∙ self_same n in let bad : false ≡ true = sym e ∙ yes in cc)) ∙ replied)
        ]

  -- ---- all of them

  pub awaits : IsConducted IsRightResponse IsAwaiting
  awaits = record {
    on_start = λ o x. subst IsAwaiting (sym (quiet_react o Start x.conducting x.conducting.script x.is refl x.none_left)) (record {
      conducting = x.conducting;
      is = refl;
      none_left = x.none_left;
      first = x.first;
      many = x.many;
      expects = x.expects;
      awaited = x.awaited;
      waiting = x.waiting;
      once = x.once;
      settled = x.settled;
      sent = x.sent;
    });
    on_value = λ o e words found x right body response f. value o e words found x body f (right.value words body response);
    on_error = λ o e sec found x right body f. absurd (right.no_error sec body);
  }
    where
      value : (o : Outlined Kind) (e : Taken) (words : List ℕ) (found : Waiting × WaitingRequests) → IsAwaiting o → e.body ≡ «plain».Content words → resolved o.outline.pending e.mid.number ≡ Some found
          → (q : Question) × IsAsked e.mid.number q × (words ≡ final q) → IsAwaiting (react kind_rules (without_request o found.1) (response_input found.0 words))
      value o e words found x body f it =
          let so = found_so o.outline.pending e.mid.number found x.awaited f in
          subst (λ (ws : List ℕ). IsAwaiting (react kind_rules (without_request o found.1) (response_input found.0 ws))) (sym it.2)
          (subst IsAwaiting (sym (reacts_so o e.mid.number it.0 it.1 x found so)) (answer_awaits o e.mid.number it.0 it.1 x found so))

  -- ---- what was answered waits no more

  abbrev pub waiting_of : ℕ → Outlined Kind → ℕ
  waiting_of m o = count_by (has_number m) o.outline.pending.multiplexed

  pub record IsSettled (m : ℕ) (o : Outlined Kind) : Type 0 where
    pub awaiting : IsAwaiting o
    pub none : waiting_of m o ≡ 0

  settled_stays : (m : ℕ) → IsConducted IsRightResponse (IsSettled m)
  settled_stays m = record {
    on_start = λ o x. record {
      awaiting = awaits.on_start o x.awaiting;
      none = ap (waiting_of m) (quiet_react o Start x.awaiting.conducting x.awaiting.conducting.script x.awaiting.is refl x.awaiting.none_left) ∙ x.none;
    };
    on_value = λ o e words found x right body response f.
        let it = right.value words body response in
        let so = found_so o.outline.pending e.mid.number found x.awaiting.awaited f in
        record {
          awaiting = awaits.on_value o e words found x.awaiting right body response f;
          none =
              ap (λ (ws : List ℕ). waiting_of m (react kind_rules (without_request o found.1) (response_input found.0 ws))) it.2
              ∙ ap (waiting_of m) (reacts_so o e.mid.number it.0 it.1 x.awaiting found so)
              ∙ (let less = fewer o e.mid.number it.0 it.1 x.awaiting found so m in let before = x.none in omega (arith, less, before));
        };
    on_error = λ o e sec found x right body f. absurd (right.no_error sec body);
  }

  module _ (setups : List Setup) (cs : List Chunk) where
    one_settles : (o : Outlined Kind) (e : Taken) (words : List ℕ) → IsAwaiting o → IsRightResponse e → e.body ≡ «plain».Content words → e.mid.response ≡ true → waiting_of e.mid.number (read_one kind_rules o e) ≡ 0
    one_settles o e words x right body response =
        let reads : read_one kind_rules o e ≡ resolve kind_rules o (λ w. response_input w words) (resolved o.outline.pending e.mid.number) = ap (read_body kind_rules o (origin_of e)) body ∙ rw response refl in
        ap (waiting_of e.mid.number) reads ∙ go (resolved o.outline.pending e.mid.number) refl
      where
        go : (r : Option (Waiting × WaitingRequests)) → resolved o.outline.pending e.mid.number ≡ r → waiting_of e.mid.number (resolve kind_rules o (λ w. response_input w words) r) ≡ 0
        go None f = none_found o.outline.pending e.mid.number x.awaited f
        go (Some found) f =
            let it = right.value words body response in
            let so = found_so o.outline.pending e.mid.number found x.awaited f in
            ap (λ (ws : List ℕ). waiting_of e.mid.number (react kind_rules (without_request o found.1) (response_input found.0 ws))) it.2
            ∙ ap (waiting_of e.mid.number) (reacts_so o e.mid.number it.0 it.1 x found so) ∙ none_now o e.mid.number it.0 it.1 x found so

    pub record AllSettled (es : List Taken) (end : Outlined Kind) : Type 0 where
      pub awaiting : IsAwaiting end
      pub none : (e : Taken) (words : List ℕ) → Contains es e → e.body ≡ «plain».Content words → e.mid.response ≡ true → waiting_of e.mid.number end ≡ 0

    pub all_settle : (o : Outlined Kind) (es : List Taken) → AllByRecursion (Brings (comes setups cs 0)) es → AllByRecursion IsRightResponse es → IsAwaiting o → AllSettled es (read kind_rules o es)
    all_settle o [] all right x = record { awaiting = x; none = λ e words has. absurd (contains-none e has) }
    all_settle o (e ∷ es) all right x =
        let now = one_conducted setups cs IsRightResponse IsAwaiting awaits o e all.0 right.0 x in
        let rest = all_settle (read_one kind_rules o e) es all.1 right.1 now in
        record {
          awaiting = rest.awaiting;
          none = λ y words has body response. elim (contains-cases e y es has) [
            | inl is ↦
                (let body_is = ap (λ (z : Taken). z.body) is ∙ body in
                let response_is = ap (λ (z : Taken). z.mid.response) is ∙ response in
                let first = one_settles o e words x right.0 body_is response_is in
                let last = all_conducted setups cs IsRightResponse (IsSettled e.mid.number) (settled_stays e.mid.number) (read_one kind_rules o e) es all.1 right.1 (record { awaiting = now; none = first }) in
                subst (λ (z : Taken). waiting_of z.mid.number (read kind_rules o (e ∷ es)) ≡ 0) is last.none)
            | inr later ↦ rest.none y words later body response
          ];
        }

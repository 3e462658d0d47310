-- A collector that is told something answers what it can by then.
use Rattle.std.proofs.Common.{◌≡◌, ℕ, ◌+◌, ◌<◌, ◌==◌, Bool, true, false, List, ◌∷◌, length, map, count_by, Some, inl, inr, refl, sym, subst, ap, ◌∙◌, arith}
use Rattle.std.specs.Prelude.{◌^◌, ◌⊎◌, not, Contains}
use Rattle.std.specs.List.{AllByRecursion, filter}
use Rattle.std.proofs.lemmas.Bool.Decides.{nat_tests}
use Rattle.caf_index.specs.Index.{Entries}
use Rattle.caf_mailbox.proofs.NextLemmas.{all_filter}
use Rattle.caf_message.specs.declared.envelope.Plain.TheVariants as «plain»
use Rattle.caf_message.specs.declared.envelope.Taken.{Taken}
use Rattle.caf_response.specs.Holds.{is_of}
use Rattle.caf_carriers.proofs.CountLemmas.{count-parts, same_number}
use Rattle.caf_kinds.specs.Collector.{is_answerable, reply, delivers}
use Rattle.caf_kinds.specs.FileChunks.{AreChunks}
use Rattle.caf_kinds.specs.Setups.{setup_at}
use Rattle.caf_kinds.specs.declared.collector.Collector.{Collector}
use Rattle.caf_kinds.specs.declared.contents.Chunk.{Chunk}
use Rattle.caf_kinds.specs.declared.kind.Kind.{Kind}
use Rattle.caf_kinds.specs.declared.kind.Kind.TheVariants as kind
use Rattle.caf_kinds.specs.declared.questions.HeldQuestion.{HeldQuestion}
use Rattle.caf_kinds.specs.declared.setup.KindName.TheVariants as name
use Rattle.caf_kinds.specs.declared.setup.Setup.{Setup}
use Rattle.caf_steady.specs.Outline.{Outlined, Bare, with_outline, send_outputs}
use Rattle.caf_pipeline.proofs.HoldLemmas.{has_asked, IsReplyTo, delivery, Delivers, deliver_all}
use Rattle.caf_pipeline.proofs.ListLemmas.{one_of, all_of}
use Rattle.caf_pipeline.proofs.ReadLemmas.{outputs_same}
use Rattle.caf_pipeline.proofs.TallyLemmas.{Tallied, answers_right}
use Rattle.caf_pipeline.proofs.QuestionLemmas.{filter_passes, counted_has, from_not, IsAsked, held_in}
use Rattle.caf_pipeline.proofs.CollectingLemmas as collecting

module _ (setups : List Setup) (cs : List Chunk) (chunks : AreChunks cs) (few : length cs < 2 ^ 64) (place : ℕ) (s : Setup) (there : setup_at setups place ≡ Some s) (kind_is : s.kind ≡ name.Collector)
    (lines bytes : ℕ) (index : Entries) where
  abbrev Collecting : Outlined Kind → List Taken → Type 0
  Collecting = collecting.Collecting setups cs chunks few place s there kind_is lines bytes index

  abbrev IsRight : Bare → Type 0
  IsRight = collecting.IsRight setups cs chunks few place s there kind_is lines bytes index

  abbrev IsHeldRight : HeldQuestion → Type 0
  IsHeldRight = collecting.IsHeldRight setups cs chunks few place s there kind_is lines bytes index

  abbrev IsReplied : ℕ → List Bare → Type 0
  IsReplied = collecting.IsReplied setups cs chunks few place s there kind_is lines bytes index

  abbrev IsKept : ℕ → Outlined Kind → Type 0
  IsKept = collecting.IsKept setups cs chunks few place s there kind_is lines bytes index

  module _ (o : Outlined Kind) (e : Taken) (es : List Taken) (x : Collecting o (e ∷ es)) (after : Collector) (same_held : after.held ≡ x.collector.held)
      (tallied : Tallied (length cs) lines bytes index after.tally after.index es) where
    abbrev pub can : HeldQuestion → Bool
    can h = is_answerable after.tally h.question

    abbrev pub ready : List HeldQuestion
    ready = filter can after.held

    abbrev pub left : List HeldQuestion
    left = filter (λ (h : HeldQuestion). not (can h)) after.held

    abbrev pub begun : Outlined Kind
    begun = with_outline o (record o.outline { behavior = kind.Collector (delivers after).0 })

    abbrev pub end : Outlined Kind
    end = send_outputs begun (map (delivery (reply after.index after.tally)) ready)

    all_held : AllByRecursion IsHeldRight after.held
    all_held = subst (AllByRecursion IsHeldRight) (sym same_held) x.held

    matched : (m : ℕ) → count_by (is_of 0 m) begun.outline.holds ≡ count_by (has_asked m) ready + count_by (has_asked m) left
    matched m =
        let before = x.matches m in
        let parts = count-parts (has_asked m) can after.held in
        let same = ap (count_by (has_asked m)) same_held in
        omega (arith, before, parts, same)

    done_so : Delivers (reply after.index after.tally) IsRight begun ready left end
    done_so = deliver_all (reply after.index after.tally) IsRight begun ready left
        (all_filter can (λ h. h.requester ≡ 0) after.held (all_of IsHeldRight (λ h. h.requester ≡ 0) after.held (λ h r. r.of_0) all_held)) matched

    right_now : (h : HeldQuestion) (b : Bare) → Contains ready h → IsReplyTo h.number (reply after.index after.tally h.question) b → IsRight b
    right_now h b has is =
        let held_right = one_of IsHeldRight ready h (all_filter can IsHeldRight after.held all_held) has in
        let ok = one_of (λ y. can y ≡ true) ready h (filter_passes can after.held) has in
        let final_is = answers_right (length cs) lines bytes index h.question after.tally after.index es tallied ok in
        record {
          to = is.to;
          response = is.response;
          question = h.question;
          asked = subst (λ (m : ℕ). IsAsked m h.question) (sym is.number_is) held_right.asked;
          body = is.body ∙ ap «plain».Content final_is;
        }

    behavior_is : end.outline.behavior ≡ kind.Collector (delivers after).0
    behavior_is = outputs_same begun (map (delivery (reply after.index after.tally)) ready)

    pub told_collecting : Collecting end es
    told_collecting = record {
      collector = (delivers after).0;
      is = behavior_is;
      matches = done_so.holds;
      held = all_filter (λ (h : HeldQuestion). not (can h)) IsHeldRight after.held all_held;
      waits = all_of (λ h. not (can h) ≡ true) (λ h. can h ≡ false) left (λ h q. from_not (can h) q) (filter_passes (λ (h : HeldQuestion). not (can h)) after.held);
      right = done_so.all right_now x.right;
      tallied = tallied;
    }

    replied_now : (m : ℕ) → (h : HeldQuestion) × Contains ready h × (has_asked m h ≡ true) → IsReplied m end.sent
    replied_now m found =
        let r = done_so.replied found.0 found.1 in
        (r.0, r.1, r.2.number_is ∙ same_number found.0.number m found.2)

    pub told_keeps : (m : ℕ) → IsKept m o → IsKept m end
    told_keeps m (inr replied) = inr (replied.0, done_so.grows replied.0 replied.1, replied.2)
    told_keeps m (inl some) = go (count_by (has_asked m) ready) refl
      where
        all : 0 < count_by (has_asked m) ready + count_by (has_asked m) left
        all =
            let parts = count-parts (has_asked m) can after.held in
            let same = ap (count_by (has_asked m)) same_held in
            let was = ap (λ (b : Kind). count_by (has_asked m) (held_in b)) x.is in
            omega (arith, parts, same, was, some)

        held_on : 0 < count_by (has_asked m) left → IsKept m end
        held_on few_left = inl (subst (λ (b : Kind). 0 < count_by (has_asked m) (held_in b)) (sym behavior_is) few_left)

        go : (n : ℕ) → count_by (has_asked m) ready ≡ n → IsKept m end
        go n q = split (nat_cases n)
          where
            nat_cases : (n : ℕ) → (n ≡ 0) ⊎ (0 < n)
            nat_cases n = by_zero (n == 0) refl
              where
                by_zero : (b : Bool) → (n == 0) ≡ b → (n ≡ 0) ⊎ (0 < n)
                by_zero true r = inl (same_number n 0 r)
                by_zero false r = inr (grind (arith, nat_tests, r))

            split : (n ≡ 0) ⊎ (0 < n) → IsKept m end
            split (inl none) = held_on (omega (arith, all, q, none))
            split (inr some_ready) = inr (replied_now m (counted_has (has_asked m) ready (omega (arith, q, some_ready))))

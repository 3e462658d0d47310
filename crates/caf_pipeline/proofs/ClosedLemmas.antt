-- What comes after Stop leaves the conductor's replies as they were.
use Rattle.std.proofs.Common.{◌≡◌, ℕ, zero, suc, ◌<◌, ◌==◌, Bool, true, false, List, [], ◌∷◌, length, count_by, Option, Some, None, refl, sym, subst, ap, ◌∙◌, arith}
use Rattle.std.specs.Prelude.{Contains}
use Rattle.std.proofs.lemmas.Bool.Decides.{nat_tests}
use Rattle.caf_message.specs.Lists.{pick}
use Rattle.caf_response.specs.Pending.{WaitingRequests, has_number, resolved}
use Rattle.caf_response.specs.declared.pending.Waiting.{Waiting}
use Rattle.caf_carriers.proofs.CountLemmas.{one, same_number}
use Rattle.caf_types.specs.declared.sec.Sec.{Sec}
use Rattle.caf_actor.specs.Record.{Kept, Machine, machine_of, IsAtRest, ends, heard}
use Rattle.caf_actor.specs.Run.{Turn}
use Rattle.caf_actor.specs.declared.journal.TakenBatch.{TakenBatch}
use Rattle.caf_actor.specs.declared.snapshot.Snapshot.{Snapshot}
use Rattle.caf_script.specs.Reply as reply
use Rattle.caf_script.specs.Reply.{Reply}
use Rattle.caf_script.specs.Script as script
use Rattle.caf_script.specs.declared.script.Script.{Script}
use Rattle.caf_kinds.specs.Kinds.{kind_rules, replies_of}
use Rattle.caf_kinds.specs.declared.kind.Kind.{Kind}
use Rattle.caf_kinds.specs.declared.script.Step.{Step}
use Rattle.caf_kinds.specs.declared.setup.Setup.{Setup}
use Rattle.caf_steady.specs.Outline.{Outline, Outlined}
use Rattle.caf_steady.specs.Reading.{read}
use Rattle.caf_pipeline.specs.Answered.{AreAnswered, CompleteRequestsAreAnswered}
use Rattle.caf_pipeline.specs.Complete.{IsCompleteRecord}
use Rattle.caf_pipeline.specs.Flow.{IsUndisturbedRecord}
use Rattle.caf_pipeline.proofs.AnsweredLemmas.{later, lines, bytes, index, first_sent_by, settles, waits_no_more, replies_at_end, conductor_stands, has_answers, answered}
use Rattle.caf_pipeline.proofs.QuestionLemmas.{counted_has}
use Rattle.caf_pipeline.proofs.AwaitingLemmas.{IsWaitingRight}
use Rattle.caf_pipeline.proofs.CompleteLemmas.{no_second, up_to_stop}
use Rattle.caf_pipeline.proofs.CutLemmas.{AreParted, parted, kept_early, early_rest, winds_down}
use Rattle.caf_pipeline.proofs.HoldLemmas.{picked}
use Rattle.caf_pipeline.proofs.IdleLemmas.{IsPart, part_stays, HasPlayed, conductor_stays}
use Rattle.caf_pipeline.proofs.LateLemmas.{StaysIdle}
use Rattle.caf_pipeline.proofs.ListLemmas.{one_of}
use Rattle.caf_pipeline.proofs.ScriptLemmas.{none_cached, is_a_part}
use Rattle.caf_pipeline.proofs.StartedLemmas.{started}

-- ---- nothing waits

none_picked : (test : Waiting → Bool) (ws : List Waiting) → count_by test ws ≡ 0 → pick test ws ≡ None
none_picked test ws none = go (pick test ws) refl
  where
    go : (r : Option (Waiting × List Waiting)) → pick test ws ≡ r → pick test ws ≡ None
    go None q = q
    go (Some r) q =
        let is = picked test ws r q in
        let all = is.counts test in
        let first = ap one is.passes in
        absurd (omega (arith, none, all, first))

none_resolved : (w : WaitingRequests) (n : ℕ) → w.awaited ≡ [] → count_by (has_number n) w.multiplexed ≡ 0 → resolved w n ≡ None
none_resolved w n awaited none = rw (none_picked (has_number n) w.multiplexed none, awaited) refl

-- ---- at rest

module _ (setups : List Setup) (steps : List Step) (files : List (List ℕ)) (ticks : ℕ) (k : Kept (Snapshot Kind)) (ts : List Turn) (is : IsUndisturbedRecord setups steps files ticks k ts) (rest : IsAtRest (machine_of kind_rules) k) where
  abbrev end : Outlined Kind
  end = read kind_rules (started setups steps files ticks k ts is) (later setups steps files ticks k ts is rest)

  nothing_waits : (n : ℕ) → resolved end.outline.pending n ≡ None
  nothing_waits n = none_resolved end.outline.pending n (settles setups steps files ticks k ts is rest).awaiting.awaited (go (count_by (has_number n) end.outline.pending.multiplexed == 0) refl)
    where
      none_there : (w : Waiting) → Contains end.outline.pending.multiplexed w → has_number n w ≡ true → count_by (has_number n) end.outline.pending.multiplexed ≡ 0
      none_there w has is_it =
          let right = one_of (IsWaitingRight (length steps) (lines setups steps files ticks k ts is rest) (bytes setups steps files ticks k ts is rest) (index setups steps files ticks k ts is rest) (first_sent_by setups steps files ticks k ts is rest)) end.outline.pending.multiplexed w
          (settles setups steps files ticks k ts is rest).awaiting.waiting has in
          let none = waits_no_more setups steps files ticks k ts is rest w.number right.question right.asked right.below in
          subst (λ (m : ℕ). count_by (has_number m) end.outline.pending.multiplexed ≡ 0) (same_number w.number n is_it) none

      go : (b : Bool) → (count_by (has_number n) end.outline.pending.multiplexed == 0) ≡ b → count_by (has_number n) end.outline.pending.multiplexed ≡ 0
      go true q = same_number (count_by (has_number n) end.outline.pending.multiplexed) 0 q
      go false q = let found = counted_has (has_number n) end.outline.pending.multiplexed (grind (arith, nat_tests, q)) in none_there found.0 found.1 found.2

  -- the replies are these, and no response is waited for
  abbrev pub Known : List Reply → WaitingRequests → Type 0
  Known rs w = (rs ≡ replies_at_end setups steps files ticks k ts is rest) × ((n : ℕ) → resolved w n ≡ None)

  pub has_closed : HasPlayed Known (ends (machine_of kind_rules) k 0).behavior (ends (machine_of kind_rules) k 0).pending
  has_closed =
      let x = (settles setups steps files ticks k ts is rest).awaiting in
      subst (λ (l : Outline Kind). HasPlayed Known l.behavior l.pending) (sym (conductor_stands setups steps files ticks k ts is rest))
      (record { conducting = x.conducting; is = x.is; none_left = x.none_left; known = (refl, nothing_waits) })

  known_fails : (s : Script) (w : WaitingRequests) (number : ℕ) (found : Waiting × WaitingRequests) (sec : Sec) → Known s.replies w → resolved w number ≡ Some found
      → Known (script.resolved s found.0.tag (reply.Failed sec)).replies found.1
  known_fails s w number found sec known e = let bad : ◌≡◌ {A = Option (Waiting × WaitingRequests)} None (Some found) = sym (known.1 number) ∙ e in cc

  pub closed_stays : StaysIdle kind_rules (HasPlayed Known)
  closed_stays = conductor_stays Known known_fails (λ rs w known. (known.0, λ n. refl))

-- ---- complete records

module _ (setups : List Setup) (steps : List Step) (files : List (List ℕ)) (k : Kept (Snapshot Kind)) (ts : List Turn) (is : IsCompleteRecord setups steps files k ts) where
  abbrev m : Machine (Snapshot Kind)
  m = machine_of kind_rules

  module _ (at : AreParted ts) where
    abbrev early : Kept (Snapshot Kind)
    early = kept_early kind_rules k ts is.complete.legal is.merge at

    abbrev before : IsUndisturbedRecord setups steps files 0 early at.early
    before = up_to_stop setups steps files k ts is at

    abbrev at_rest : IsAtRest m early
    at_rest = early_rest kind_rules k ts is.complete.legal is.merge at

    abbrev ClosedIf : Bool → Kind → Kind → WaitingRequests → Type 0
    ClosedIf true v b w = HasPlayed (Known setups steps files 0 early at.early before at_rest) b w
    ClosedIf false v b w = IsPart v b

    all_stay : (b : Bool) (v : Kind) → StaysIdle kind_rules (ClosedIf b v)
    all_stay true v = closed_stays setups steps files 0 early at.early before at_rest
    all_stay false v = part_stays v

    all_closed : (q : ℕ) → q < k.places → ClosedIf (q == 0) (ends m early q).behavior (ends m early q).behavior (ends m early q).pending
    all_closed zero low = has_closed setups steps files 0 early at.early before at_rest
    all_closed (suc q) low = let no : (suc q == 0) ≡ false = grind (arith, nat_tests) in rw no (record { part = is_a_part setups steps files 0 early at.early before q low; is = refl })

    answered_at : AreAnswered k steps files
    answered_at =
        let places = is.opens.places in
        let down = winds_down kind_rules k ts is.complete.legal is.merge at (λ q. ClosedIf (q == 0) (ends m early q).behavior) (λ q. all_stay (q == 0) (ends m early q).behavior) all_closed (none_cached setups steps files 0 early at.early before) 0 (omega (arith, places)) in
        record {
          replies = replies_at_end setups steps files 0 early at.early before at_rest;
          has = ap replies_of down.is ∙ ap (λ rs. Some rs) down.known.0;
          are = has_answers setups steps files 0 early at.early before at_rest;
        }

  all_answered : AreAnswered k steps files
  all_answered = go (heard (k.journal 0)) refl
    where
      go : (bs : List TakenBatch) → heard (k.journal 0) ≡ bs → AreAnswered k steps files
      go [] e =
          answered setups steps files 0 k ts (record { undisturbed = is.undisturbed; indexable = is.indexable; opens = is.opens; legal = is.complete.legal; merge = is.merge; silent = e }) is.complete.rest
      go (b ∷ []) e = answered_at (parted ts b (ap heard (is.merge.parts 0) ∙ e))
      go (b ∷ c ∷ bs) e = absurd (no_second setups steps files k ts is b c bs e)

pub complete_requests_are_answered : CompleteRequestsAreAnswered
complete_requests_are_answered setups steps files k ts is = all_answered setups steps files k ts is

-- What runs take out of what waits for a place.
use Rattle.std.proofs.Common.{◌≡◌, ◌≢◌, ℕ, ◌+◌, ◌<◌, ◌≤◌, ◌==◌, not, nat_lt, Bool, true, false, List, [], ◌∷◌, ◌++◌, length, drop, refl, ap, sym, ◌∙◌, subst, arith, append_assoc, if◌then◌else◌}
use Rattle.std.proofs.lemmas.Bool.Decides.{nat_tests}
use Rattle.std.proofs.lemmas.List.{append-nil}
use Rattle.caf_message.specs.declared.envelope.Taken.{Taken}
use Rattle.caf_actor.specs.Record.{from_place}
use Rattle.caf_record.proofs.BatchLemmas.{from_append}
use Rattle.caf_driver.specs.declared.sender_run.SenderRun.{SenderRun}
use Rattle.caf_driver.specs.Mail.{Waiting, waiting_in, HasGiven}
use Rattle.caf_driver.specs.Delivery.{HasTakenOut}
use Rattle.caf_driver.specs.Runs.{taken_by_run, is_next, without_run, taken_by_runs, are_next}
use Rattle.caf_driver.proofs.MailLemmas.{self_of}
use Rattle.caf_driver.proofs.RunsLemmas.{take_next, drop_next, drop_some, drop_past, same_next, same_taken, and_left, and_right}

-- one batch taken out, and then another
pub taken_more : (old mid new : Waiting) (place : ℕ) (es fs : List Taken) → HasTakenOut old place es mid → HasTakenOut mid place fs new → HasTakenOut old place (es ++ fs) new
taken_more old mid new place es fs first second = record {
  mail = second.mail;
  places = second.places ∙ first.places;
  next = λ a.
      ap (λ xs. xs ++ waiting_in new a place) (from_append a es fs) ∙ append_assoc (from_place a es) (from_place a fs) (waiting_in new a place)
      ∙ ap (λ xs. from_place a es ++ xs) (second.next a) ∙ first.next a;
  others = λ a b q. second.others a b q ∙ first.others a b q;
}

-- ---- one run

module _ (old : Waiting) (place : ℕ) (run : SenderRun) where
  abbrev pub at_first : ℕ → List Taken
  at_first a = waiting_in old a place

  -- the first so many of it
  abbrev pub first_of_run : ℕ → SenderRun
  first_of_run n = record { sender = run.sender; count = n }

  pub none_left : (a : ℕ) → waiting_in old a place ≡ without_run at_first (first_of_run 0) a
  none_left a = go (a == run.sender)
    where
      go : (b : Bool) → waiting_in old a place ≡ (if b then waiting_in old a place else waiting_in old a place)
      go true = refl
      go false = refl

  module _ (n : ℕ) (mid new : Waiting) (e : Taken) (left : (a : ℕ) → waiting_in mid a place ≡ without_run at_first (first_of_run n) a) where
    left_of_sender : waiting_in mid run.sender place ≡ drop n (at_first run.sender)
    left_of_sender = left run.sender ∙ rw (self_of run.sender) refl

    pub waits_still : is_next at_first run ≡ true → n < run.count → waiting_in mid run.sender place ≢ []
    waits_still next less none = drop_some n (at_first run.sender) enough (sym left_of_sender ∙ none)
      where
        enough : n < length (at_first run.sender)
        enough = let bound : not (nat_lt (length (at_first run.sender)) run.count) ≡ true = next in grind (arith, nat_tests)

    module _ (given : HasGiven mid place run.sender e new) where
      first_is : e ∷ waiting_in new run.sender place ≡ drop n (at_first run.sender)
      first_is = let here : e ∷ waiting_in new run.sender place ≡ waiting_in mid run.sender place = rw (self_of run.sender, self_of place) at (given.waiting run.sender place) in here ∙ left_of_sender

      pub named_next : taken_by_run at_first (first_of_run (n + 1)) ≡ taken_by_run at_first (first_of_run n) ++ e ∷ []
      named_next = take_next n (at_first run.sender) (waiting_in new run.sender place) e first_is

      pub left_next : (a : ℕ) → waiting_in new a place ≡ without_run at_first (first_of_run (n + 1)) a
      left_next a = go (a == run.sender) refl
        where
          same_of : (b : ℕ) → (a == b) ≡ true → b ≡ a
          same_of b q = grind (arith, nat_tests)

          go : (b : Bool) → (a == run.sender) ≡ b → waiting_in new a place ≡ (if b then drop (n + 1) (at_first a) else at_first a)
          go true q = subst (λ k. waiting_in new k place ≡ drop (n + 1) (at_first k)) (same_of run.sender q) (sym (drop_next n (at_first run.sender) (waiting_in new run.sender place) e first_is))
          go false q =
              let same : waiting_in new a place ≡ waiting_in mid a place = rw q at (given.waiting a place) in
              same ∙ left a ∙ rw q refl

-- ---- one run after the other

module _ (runs : List SenderRun) (i : ℕ) (run : SenderRun) (here : drop i runs ≡ run ∷ drop (i + 1) runs) (mid new : ℕ → List Taken) where
  pub run_is_next : are_next mid (drop i runs) ≡ true → is_next mid run ≡ true
  run_is_next q = and_left (is_next mid run) (are_next (without_run mid run) (drop (i + 1) runs)) (ap (are_next mid) (sym here) ∙ q)

  pub rest_is_next : are_next mid (drop i runs) ≡ true → ((a : ℕ) → new a ≡ without_run mid run a) → are_next new (drop (i + 1) runs) ≡ true
  rest_is_next q left =
      same_next new (without_run mid run) (drop (i + 1) runs) left
      ∙ and_right (is_next mid run) (are_next (without_run mid run) (drop (i + 1) runs)) (ap (are_next mid) (sym here) ∙ q)

  pub rest_is_named : (so_far all more : List Taken) → so_far ++ taken_by_runs mid (drop i runs) ≡ all → more ≡ so_far ++ taken_by_run mid run → ((a : ℕ) → new a ≡ without_run mid run a)
      → more ++ taken_by_runs new (drop (i + 1) runs) ≡ all
  rest_is_named so_far all more q is left =
      ap (λ es. es ++ taken_by_runs new (drop (i + 1) runs)) is
      ∙ append_assoc so_far (taken_by_run mid run) (taken_by_runs new (drop (i + 1) runs))
      ∙ ap (λ es. so_far ++ (taken_by_run mid run ++ es)) (same_taken new (without_run mid run) (drop (i + 1) runs) left)
      ∙ ap (λ rs. so_far ++ taken_by_runs mid rs) (sym here) ∙ q

pub none_is_named : (runs : List SenderRun) (i : ℕ) (w : ℕ → List Taken) (so_far all : List Taken) → length runs ≤ i → so_far ++ taken_by_runs w (drop i runs) ≡ all → so_far ≡ all
none_is_named runs i w so_far all past q =
    sym (append-nil so_far) ∙ ap (λ rs. so_far ++ taken_by_runs w rs) (sym (drop_past i runs past)) ∙ q

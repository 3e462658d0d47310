-- How many envelopes the actors count as handled, and how many the record has.
use Rattle.std.proofs.Common.{◌≡◌, ℕ, zero, suc, ◌+◌, ◌-◌, ◌≤◌, min, List, [], ◌∷◌, length, Some, refl, ap, sym, ◌∙◌, arith}
use Rattle.std.specs.Prelude.{slice_get}
use Rattle.caf_message.specs.Envelope.{outside}
use Rattle.caf_actor.specs.declared.snapshot.Snapshot.{Snapshot}
use Rattle.caf_actor.specs.Rules.{Rules}
use Rattle.caf_actor.specs.Actor.{ActorState}
use Rattle.caf_actor.specs.Snapshot.{cached}
use Rattle.caf_actor.specs.Record.{Machine, machine_of, joined, ends, handled_at, sum_below, handled}
use Rattle.caf_record.specs.RunRecord.{journal_at}
use Rattle.caf_driver.specs.Population.{handled_by}
use Rattle.caf_driver.specs.Driver.{DriverState, journals_of, record_in, HasCounted, IsDriven}
use Rattle.caf_driver.proofs.ListLemmas.{field_at, fields}
use Rattle.caf_driver.proofs.LegalLemmas.{snapshot_ends}

-- ---- sums from the first place on

sum_front : (n : ℕ) (f : ℕ → ℕ) → sum_below (suc n) f ≡ f 0 + sum_below n (λ p. f (suc p))
sum_front zero f = omega arith
sum_front (suc n) f = let h = sum_front n f in omega arith

more_counted : (top one left rest sum : ℕ) → one ≡ min left top → min rest top ≡ min sum top → min (one + rest) top ≡ min (left + sum) top
more_counted top one left rest sum is h = omega arith

all_counted : {S : Type 0} (top : ℕ) (actors : List (ActorState S)) (f : ℕ → ℕ) → ((p : ℕ) (a : ActorState S) → slice_get actors p ≡ Some a → a.handled ≡ min (f p) top) → min (handled_by actors) top ≡ min (sum_below (length actors) f) top
all_counted top [] f h = refl
all_counted top (x ∷ xs) f h =
    more_counted top x.handled (f 0) (handled_by xs) (sum_below (length xs) (λ p. f (suc p))) (h 0 x refl) (all_counted top xs (λ p. f (suc p)) (λ p a q. h (suc p) a q))
    ∙ ap (λ n. min n top) (sym (sum_front (length xs) f))

within : (budget top counted all : ℕ) → min counted top ≡ min all top → budget ≤ top → (budget ≤ min counted top → budget ≤ all) × (budget ≤ all → budget ≤ min counted top)
within budget top counted all same le = ((λ h. omega arith), (λ h. omega arith))

module _ {S : Type 0} (rules : Rules S) (start : ℕ → Snapshot S) (d : DriverState S) (small : length (journals_of d) ≤ outside) (driven : IsDriven rules start d) where
  abbrev m : Machine (Snapshot S)
  m = machine_of rules

  one_counted : (p : ℕ) (a : ActorState S) → slice_get d.actors p ≡ Some a → a.handled ≡ min (handled_at m (record_in start d) p) 18446744073709551615
  one_counted p a found =
      let h : HasCounted (start p) m a = driven.counted p a found in
      let took : length (joined (journal_at (journals_of d) p)) ≡ length (joined a.journal) = ap (λ bs. length (joined bs)) (field_at (λ (x : ActorState S). x.journal) d.actors p a [] found) in
      let stands : cached (ends m (record_in start d) p) ≡ cached a.snapshot =
      ap (λ (s : Snapshot S). cached s) (sym (snapshot_ends rules start d small driven p) ∙ field_at (λ (x : ActorState S). x.snapshot) d.actors p a (start p) found) in
      let all : cached (start p) + length (joined a.journal) ≡ h.left + cached a.snapshot = h.all in
      let left : h.left ≡ cached (start p) + length (joined (journal_at (journals_of d) p)) - cached (ends m (record_in start d) p) = omega arith in
      h.counted ∙ ap (λ n. min n 18446744073709551615) left

  same_handled : min (handled_by d.actors) 18446744073709551615 ≡ min (handled m (record_in start d)) 18446744073709551615
  same_handled =
      all_counted 18446744073709551615 d.actors (handled_at m (record_in start d)) one_counted
      ∙ ap (λ n. min (sum_below n (handled_at m (record_in start d))) 18446744073709551615) (sym (fields (λ (a : ActorState S). a.journal) d.actors))

  -- a budget that a count can reach is reached by the count exactly where the record reaches it
  pub handled_driven : (budget : ℕ) → budget ≤ 18446744073709551615
      → (budget ≤ min (handled_by d.actors) 18446744073709551615 → budget ≤ handled m (record_in start d)) × (budget ≤ handled m (record_in start d) → budget ≤ min (handled_by d.actors) 18446744073709551615)
  handled_driven budget le = within budget 18446744073709551615 (handled_by d.actors) (handled m (record_in start d)) same_handled le

-- Records of three places, with no tick.
use Rattle.std.proofs.Common.{◌≡◌, ◌≢◌, ℕ, zero, suc, ◌==◌, ◌≤◌, ◌<◌, Bool, true, false, List, [], ◌∷◌, ◌++◌, length, drop, Option, Some, None, refl, ap, subst, ◌∙◌, arith, eqb-true, ne_eqb}
use Rattle.std.specs.List.{AllByRecursion}
use Rattle.caf_types.specs.declared.notice.Notice.TheVariants as notice
use Rattle.caf_types.specs.declared.notice.Priority.TheVariants.{Urgent, Normal}
use Rattle.caf_types.specs.declared.reason.Reason.TheVariants as reason
use Rattle.caf_message.specs.declared.envelope.Taken.{Taken}
use Rattle.caf_message.specs.declared.envelope.Plain.TheVariants as «plain»
use Rattle.caf_message.specs.Envelope.{outside, start_envelope, no_request}
use Rattle.caf_message.specs.Outside.{outside_envelope}
use Rattle.caf_actor.specs.declared.journal.TakenBatch.{TakenBatch}
use Rattle.caf_actor.specs.declared.snapshot.Snapshot.{Snapshot}
use Rattle.caf_actor.specs.PlainPost.{PlainPost}
use Rattle.caf_actor.specs.Record.{Machine, machine_of, IsPrefix, from_place, to_place, joined, posted, AreStamped, Kept, ends, before, taken_by, sent_by, untaken, IsAtRest, IsLegal, IsComplete, handled}
use Rattle.caf_actor.proofs.ExampleActors.{text, Echo, Conductor, Player, rules, new_player, asked, replied}

-- ---- the places

abbrev pub machine : Machine (Snapshot Player)
machine = machine_of rules

abbrev pub three : {A : Type 0} → A → A → A → A → ℕ → A
three x y z rest zero = x
three x y z rest (suc zero) = y
three x y z rest (suc (suc zero)) = z
three x y z rest (suc (suc (suc p))) = rest

-- place 0 requests two texts of place 1, and place 2 is never asked
abbrev pub start : ℕ → Snapshot Player
start = three (new_player (Conductor 3) 0) (new_player Echo 1) (new_player Echo 2) (new_player Echo 3)

abbrev pub kept : List TakenBatch → List TakenBatch → List TakenBatch → Option ℕ → Kept (Snapshot Player)
kept first second third cut = record { places = 3; start = start; journal = three first second third []; cut = cut }

abbrev pub batch : ℕ → List Taken → TakenBatch
batch stamp taken = record { stamp = stamp; taken = taken }

-- ---- what is sent

abbrev pub first_request : Taken
first_request = asked 0 1 Normal (text 97)

abbrev pub second_request : Taken
second_request = asked 1 2 Normal (text 98)

abbrev pub first_response : Taken
first_response = (replied 0 1 Normal («plain».Content (text 97))).envelope

abbrev pub second_response : Taken
second_response = (replied 1 2 Normal («plain».Content (text 98))).envelope

-- the number of the first envelope
abbrev first_seq : List Taken → ℕ
first_seq [] = 0
first_seq (e ∷ es) = e.seq

abbrev pub kill : ℕ → ℕ → Taken
kill seq stamp = record { sender = 0; seq = seq; mid = no_request 0; priority = Urgent; stamp = stamp; body = «plain».System (notice.Exit 0 reason.Kill) }

-- ---- a whole record

abbrev pub whole : Kept (Snapshot Player)
whole = kept
    (batch 1 (start_envelope ∷ []) ∷ batch 3 (first_response ∷ second_response ∷ []) ∷ batch 4 (outside_envelope 0 1 3 ∷ []) ∷ [])
    (batch 2 (first_request ∷ second_request ∷ []) ∷ batch 5 (kill 2 4 ∷ []) ∷ [])
    (batch 5 (kill 0 4 ∷ []) ∷ [])
    (Some 2)

pub each_place : (P : ℕ → Type 0) → P 0 → P 1 → P 2 → ((p : ℕ) → P (suc (suc (suc p)))) → (p : ℕ) → P p
each_place P p q r other zero = p
each_place P p q r other (suc zero) = q
each_place P p q r other (suc (suc zero)) = r
each_place P p q r other (suc (suc (suc n))) = other n

-- each of its eight envelopes left the lists
pub handles_all : handled machine whole ≡ 8
handles_all = refl

some_taken : (e : Taken) (es : List Taken) → (e ∷ es) ≢ []
some_taken e es q = let wrong : suc (length es) ≡ 0 = ap length q in absurd (omega arith)

-- ---- records that are not legal

-- the first batch of place 0 has the stamp 2 where 1 is due
pub wrong_stamp : IsLegal machine 0 (kept (batch 2 (start_envelope ∷ []) ∷ []) [] [] None) → ⊥
wrong_stamp h = let wrong : ◌≡◌ {A = ℕ} 2 1 = (h.stamped 0).0 in absurd (omega arith)

-- place 1 takes the second request and not the first one
pub missing_envelope : IsLegal machine 0 (kept (batch 1 (start_envelope ∷ []) ∷ []) (batch 2 (second_request ∷ []) ∷ []) [] None) → ⊥
missing_envelope h = let wrong : ◌≡◌ {A = ℕ} 1 0 = ap first_seq (h.pairs 0 1).1 in absurd (omega arith)

-- place 1 takes the two requests in the wrong order
pub swapped_envelopes : IsLegal machine 0 (kept (batch 1 (start_envelope ∷ []) ∷ []) (batch 2 (second_request ∷ first_request ∷ []) ∷ []) [] None) → ⊥
swapped_envelopes h = let wrong : ◌≡◌ {A = ℕ} 1 0 = ap first_seq (h.pairs 0 1).1 in absurd (omega arith)

-- place 2 takes a batch of nothing
pub empty_batch : IsLegal machine 0 (kept (batch 1 (start_envelope ∷ []) ∷ []) [] (batch 1 [] ∷ []) None) → ⊥
empty_batch h = absurd ((h.filled 2).0 refl)

-- place 2 takes a request that went to place 1
pub others_envelope : IsLegal machine 0 (kept (batch 1 (start_envelope ∷ []) ∷ []) [] (batch 2 (first_request ∷ []) ∷ []) None) → ⊥
others_envelope h = let wrong : suc (length (h.pairs 0 2).0) ≡ 0 = ap length (h.pairs 0 2).1 in absurd (omega arith)

-- A record of three places with one tick that is legal and complete, and records that are not.
use Rattle.std.proofs.Common.{◌≡◌, ◌≢◌, ℕ, zero, suc, ◌+◌, ◌==◌, ◌≤◌, ◌<◌, Bool, true, false, List, [], ◌∷◌, ◌++◌, length, drop, map, take, Option, Some, None, refl, ap, subst, ◌∙◌, arith, eqb-true, ne_eqb}
use Rattle.std.specs.List.{AllByRecursion}
use Rattle.caf_types.specs.declared.notice.Notice.TheVariants as notice
use Rattle.caf_message.specs.declared.envelope.Taken.{Taken}
use Rattle.caf_message.specs.Envelope.{outside, start_envelope, from_outside}
use Rattle.caf_actor.specs.declared.journal.TakenBatch.{TakenBatch}
use Rattle.caf_actor.specs.declared.snapshot.Snapshot.{Snapshot}
use Rattle.caf_actor.specs.PlainPost.{PlainPost}
use Rattle.caf_actor.proofs.ExampleActors.{Player}
use Rattle.caf_actor.proofs.RecordExamples.{machine, each_place, start, kept, batch, first_request, second_request, first_response, second_response, kill}
use Rattle.caf_message.specs.Outside.{tick, notice_at, outside_envelope, is_stop}
use Rattle.caf_actor.specs.Record.{IsPrefix, from_place, to_place, joined, posted, AreStamped, Kept, ends, before, taken_by, sent_by, untaken, told, IsAtRest, IsLegal, IsComplete}
use Rattle.caf_actor.specs.Run.{Turn, State, Step, Take, Speak, opening_state, run, kept_of}
use Rattle.caf_actor.specs.Merge.{steps_of}

-- ---- the outside's notices

pub two_ticks : map (notice_at 2) (0 ∷ 1 ∷ 2 ∷ 3 ∷ []) ≡ notice.Start ∷ tick ∷ tick ∷ notice.Stop ∷ []
two_ticks = refl

pub start_is_first : (ticks : ℕ) → outside_envelope ticks 0 0 ≡ start_envelope
start_is_first ticks = refl

abbrev a_tick : ℕ → ℕ → Taken
a_tick seq stamp = from_outside seq stamp tick

abbrev a_stop : ℕ → ℕ → Taken
a_stop seq stamp = from_outside seq stamp notice.Stop

-- ---- a record that is legal for one tick, and complete

abbrev pub whole : Kept (Snapshot Player)
whole = kept
    (batch 1 (start_envelope ∷ []) ∷ batch 3 (first_response ∷ second_response ∷ []) ∷ batch 4 (a_tick 1 3 ∷ []) ∷ batch 5 (a_stop 2 4 ∷ []) ∷ [])
    (batch 2 (first_request ∷ second_request ∷ []) ∷ batch 6 (kill 2 5 ∷ []) ∷ [])
    (batch 6 (kill 0 5 ∷ []) ∷ [])
    (Some 3)

pub told_all : told (whole.journal 0) ≡ start_envelope ∷ outside_envelope 1 1 3 ∷ outside_envelope 1 2 4 ∷ []
told_all = refl

-- ---- places and senders that aren't there

zero_no_more : (n : ℕ) → (0 == suc (suc (suc n))) ≡ false
zero_no_more n = ne_eqb 0 (suc (suc (suc n))) (λ q. omega arith)

one_no_more : (n : ℕ) → (1 == suc (suc (suc n))) ≡ false
one_no_more n = ne_eqb 1 (suc (suc (suc n))) (λ q. omega arith)

two_no_more : (n : ℕ) → (2 == suc (suc (suc n))) ≡ false
two_no_more n = ne_eqb 2 (suc (suc (suc n))) (λ q. omega arith)

-- the three places, the outside, and all other numbers
each_sender : (P : ℕ → Type 0) → P 0 → P 1 → P 2 → P 256 → ((a : ℕ) → (256 == suc (suc (suc a))) ≡ false → P (suc (suc (suc a)))) → (a : ℕ) → P a
each_sender P p q r s other zero = p
each_sender P p q r s other (suc zero) = q
each_sender P p q r s other (suc (suc zero)) = r
each_sender P p q r s other (suc (suc (suc a))) = go (256 == suc (suc (suc a))) refl
  where
    go : (b : Bool) → (256 == suc (suc (suc a))) ≡ b → P (suc (suc (suc a)))
    go true e = subst P (eqb-true 256 (suc (suc (suc a))) e) s
    go false e = other a e

none_from : (a : ℕ) (es : List Taken) → AllByRecursion (λ (e : Taken). (e.sender == a) ≡ false) es → from_place a es ≡ []
none_from a [] h = refl
none_from a (e ∷ es) h = rw h.0 (none_from a es h.1)

none_to : (b : ℕ) (ps : List PlainPost) → AllByRecursion (λ (p : PlainPost). (p.to == b) ≡ false) ps → to_place b ps ≡ []
none_to b [] h = refl
none_to b (p ∷ ps) h = rw h.0 (none_to b ps h.1)

drop_none : (n : ℕ) → drop {A = Taken} n [] ≡ []
drop_none zero = refl
drop_none (suc n) = refl

prefix_none : (xs ys : List Taken) → xs ≡ [] → IsPrefix xs ys
prefix_none xs ys h = (ys, ap (λ (zs : List Taken). zs ++ ys) h)

-- a sender that isn't there sent nothing
far_sender : (k : Kept (Snapshot Player)) (a b : ℕ) → k.journal (suc (suc (suc a))) ≡ [] → (256 == suc (suc (suc a))) ≡ false → untaken machine k (suc (suc (suc a))) b ≡ []
far_sender k a b none q =
    let nothing : sent_by machine k (suc (suc (suc a))) b ≡ [] = rw q (rw none refl) in
    ap (drop (length (taken_by k (suc (suc (suc a))) b))) nothing ∙ drop_none (length (taken_by k (suc (suc (suc a))) b))

-- nothing was sent to a place that isn't there
far_place : (k : Kept (Snapshot Player)) (a b : ℕ) → (outside == a) ≡ false
    → AllByRecursion (λ (p : PlainPost). (p.to == suc (suc (suc b))) ≡ false) (posted machine (k.start a) (k.journal a))
    → untaken machine k a (suc (suc (suc b))) ≡ []
far_place k a b q h =
    let nothing : sent_by machine k a (suc (suc (suc b))) ≡ [] = rw q (none_to (suc (suc (suc b))) _ h) in
    ap (drop (length (taken_by k a (suc (suc (suc b)))))) nothing ∙ drop_none (length (taken_by k a (suc (suc (suc b)))))

outside_far : (k : Kept (Snapshot Player)) (b : ℕ) → k.journal 256 ≡ [] → untaken machine k outside (suc (suc (suc b))) ≡ []
outside_far k b none =
    let nothing : sent_by machine k outside (suc (suc (suc b))) ≡ [] = rw (zero_no_more b) (rw none refl) in
    ap (drop (length (taken_by k outside (suc (suc (suc b)))))) nothing ∙ drop_none (length (taken_by k outside (suc (suc (suc b)))))

some_taken : (e : Taken) (es : List Taken) → (e ∷ es) ≢ []
some_taken e es q = let wrong : suc (length es) ≡ 0 = ap length q in absurd (omega arith)

-- ---- it is at rest before the tick, before Stop, and at its end

before_tick : IsAtRest machine (before whole 4)
before_tick = record {
  taken = each_sender (λ a. (b : ℕ) → untaken machine (before whole 4) a b ≡ [])
      (each_place (λ b. untaken machine (before whole 4) 0 b ≡ []) refl refl refl (λ b. far_place (before whole 4) 0 b refl (one_no_more b, (one_no_more b, tt))))
      (each_place (λ b. untaken machine (before whole 4) 1 b ≡ []) refl refl refl (λ b. far_place (before whole 4) 1 b refl (zero_no_more b, (zero_no_more b, tt))))
      (each_place (λ b. untaken machine (before whole 4) 2 b ≡ []) refl refl refl (λ b. far_place (before whole 4) 2 b refl tt))
      (each_place (λ b. untaken machine (before whole 4) 256 b ≡ []) refl refl refl (λ b. outside_far (before whole 4) b refl))
      (λ a q b. far_sender (before whole 4) a b refl q);
  idle = each_place (λ p. p < 3 → machine.is_idle (ends machine (before whole 4) p) ≡ true) (λ h. refl) (λ h. refl) (λ h. refl) (λ p h. absurd (omega arith));
}

before_stop : IsAtRest machine (before whole 5)
before_stop = record {
  taken = each_sender (λ a. (b : ℕ) → untaken machine (before whole 5) a b ≡ [])
      (each_place (λ b. untaken machine (before whole 5) 0 b ≡ []) refl refl refl (λ b. far_place (before whole 5) 0 b refl (one_no_more b, (one_no_more b, tt))))
      (each_place (λ b. untaken machine (before whole 5) 1 b ≡ []) refl refl refl (λ b. far_place (before whole 5) 1 b refl (zero_no_more b, (zero_no_more b, tt))))
      (each_place (λ b. untaken machine (before whole 5) 2 b ≡ []) refl refl refl (λ b. far_place (before whole 5) 2 b refl tt))
      (each_place (λ b. untaken machine (before whole 5) 256 b ≡ []) refl refl refl (λ b. outside_far (before whole 5) b refl))
      (λ a q b. far_sender (before whole 5) a b refl q);
  idle = each_place (λ p. p < 3 → machine.is_idle (ends machine (before whole 5) p) ≡ true) (λ h. refl) (λ h. refl) (λ h. refl) (λ p h. absurd (omega arith));
}

pub rests : IsAtRest machine (whole)
rests = record {
  taken = each_sender (λ a. (b : ℕ) → untaken machine (whole) a b ≡ [])
      (each_place (λ b. untaken machine (whole) 0 b ≡ []) refl refl refl (λ b. far_place (whole) 0 b refl (one_no_more b, (one_no_more b, (one_no_more b, (two_no_more b, tt))))))
      (each_place (λ b. untaken machine (whole) 1 b ≡ []) refl refl refl (λ b. far_place (whole) 1 b refl (zero_no_more b, (zero_no_more b, tt))))
      (each_place (λ b. untaken machine (whole) 2 b ≡ []) refl refl refl (λ b. far_place (whole) 2 b refl tt))
      (each_place (λ b. untaken machine (whole) 256 b ≡ []) refl refl refl (λ b. outside_far (whole) b refl))
      (λ a q b. far_sender (whole) a b refl q);
  idle = each_place (λ p. p < 3 → machine.is_idle (ends machine (whole) p) ≡ true) (λ h. refl) (λ h. refl) (λ h. refl) (λ p h. absurd (omega arith));
}

pub legal : IsLegal machine 1 whole
legal = record {
  places = omega arith;
  inside = each_place (λ p. 3 ≤ p → whole.journal p ≡ []) (λ h. absurd (omega arith)) (λ h. absurd (omega arith)) (λ h. absurd (omega arith)) (λ p h. refl);
  filled = each_place (λ p. AllByRecursion (λ b. b.taken ≢ []) (whole.journal p)) (some_taken _ _, (some_taken _ _, (some_taken _ _, (some_taken _ _, tt)))) (some_taken _ _, (some_taken _ _, tt)) (some_taken _ _, tt) (λ p. tt);
  stamped = each_place (λ p. AreStamped machine (whole.start p) (whole.journal p)) (refl, (refl, (refl, (refl, tt)))) (refl, (refl, tt)) (refl, tt) (λ p. tt);
  pairs = each_sender (λ a. (b : ℕ) → IsPrefix (taken_by whole a b) (sent_by machine whole a b))
      (each_place (λ b. IsPrefix (taken_by whole 0 b) (sent_by machine whole 0 b)) ([], refl) ([], refl) ([], refl) (λ b. prefix_none _ _ refl))
      (each_place (λ b. IsPrefix (taken_by whole 1 b) (sent_by machine whole 1 b)) ([], refl) ([], refl) ([], refl) (λ b. prefix_none _ _ refl))
      (each_place (λ b. IsPrefix (taken_by whole 2 b) (sent_by machine whole 2 b)) ([], refl) ([], refl) ([], refl) (λ b. prefix_none _ _ refl))
      (each_place (λ b. IsPrefix (taken_by whole 256 b) (sent_by machine whole 256 b)) ([], refl) ([], refl) ([], refl) (λ b. prefix_none _ _ refl))
      (λ a q. each_place (λ b. IsPrefix (taken_by whole (suc (suc (suc a))) b) (sent_by machine whole (suc (suc (suc a))) b))
      (prefix_none _ _ (none_from (suc (suc (suc a))) (joined (whole.journal 0)) (q, (one_no_more a, (one_no_more a, (q, (q, tt)))))))
      (prefix_none _ _ (none_from (suc (suc (suc a))) (joined (whole.journal 1)) (zero_no_more a, (zero_no_more a, (zero_no_more a, tt)))))
      (prefix_none _ _ (none_from (suc (suc (suc a))) (joined (whole.journal 2)) (zero_no_more a, tt)))
      (λ b. prefix_none _ _ refl));
  notices = (record { number = omega arith; alone = refl; rest = before_tick }, (record { number = omega arith; alone = refl; rest = before_stop }, tt));
  cut = refl;
}

pub complete : IsComplete machine 1 whole
complete = record { legal = legal; cut = refl; rest = rests }

-- ---- its merge: the outside speaks before the fourth and the fifth batch

abbrev turn : ℕ → ℕ → List Taken → Turn
turn place stamp taken = record { place = place; batch = batch stamp taken }

abbrev merged : List Turn
merged =
    turn 0 1 (start_envelope ∷ [])
    ∷ turn 1 2 (first_request ∷ second_request ∷ [])
    ∷ turn 0 3 (first_response ∷ second_response ∷ [])
    ∷ turn 0 4 (a_tick 1 3 ∷ [])
    ∷ turn 0 5 (a_stop 2 4 ∷ [])
    ∷ turn 1 6 (kill 2 5 ∷ [])
    ∷ turn 2 6 (kill 0 5 ∷ [])
    ∷ []

abbrev speaks : Step → Bool
speaks Speak = true
speaks (Take t) = false

pub steps_are : map (λ (a : Step). speaks a) (steps_of merged) ≡ false ∷ false ∷ false ∷ true ∷ false ∷ true ∷ false ∷ false ∷ false ∷ []
steps_are = refl

abbrev state : ℕ → State (Snapshot Player)
state n = run machine 1 (opening_state 3 start) (take n (steps_of merged))

pub tick_waits : (state 4).waiting 256 0 ≡ a_tick 1 3 ∷ []
tick_waits = refl

pub stop_waits : (state 6).waiting 256 0 ≡ a_stop 2 4 ∷ []
stop_waits = refl

pub all_spoken : (state 9).spoken ≡ 3
all_spoken = refl

pub same_cut : (kept_of 3 start (steps_of merged)).cut ≡ Some 3
same_cut = refl

-- ---- records that are not legal

abbrev up_to_rest : List TakenBatch → List TakenBatch
up_to_rest bs = batch 1 (start_envelope ∷ []) ∷ batch 3 (first_response ∷ second_response ∷ []) ∷ bs

abbrev then_notices : List TakenBatch → Option ℕ → Kept (Snapshot Player)
then_notices bs cut = kept (up_to_rest bs) (batch 2 (first_request ∷ second_request ∷ []) ∷ []) [] cut

abbrev first_stamp : List Taken → ℕ
first_stamp [] = 0
first_stamp (e ∷ es) = e.stamp

abbrev is_stop_first : List Taken → Bool
is_stop_first [] = false
is_stop_first (e ∷ es) = is_stop e

-- a tick has the stamp 2, and the greatest stamp is 3
pub tick_of_other_stamp : IsLegal machine 1 (then_notices (batch 4 (a_tick 1 2 ∷ []) ∷ []) None) → ⊥
tick_of_other_stamp h = let wrong : ◌≡◌ {A = ℕ} 2 3 = ap first_stamp h.notices.0.alone in absurd (omega arith)

-- a tick is taken while both requests are untaken
pub tick_before_rest : IsLegal machine 1 (kept (batch 1 (start_envelope ∷ []) ∷ batch 2 (a_tick 1 1 ∷ []) ∷ []) [] [] None) → ⊥
tick_before_rest h = let wrong : ◌≡◌ {A = ℕ} 2 0 = ap length (h.notices.0.rest.taken 0 1) in absurd (omega arith)

-- a tick and Stop are taken in one batch
pub tick_with_stop : IsLegal machine 1 (then_notices (batch 4 (a_tick 1 3 ∷ a_stop 2 3 ∷ []) ∷ []) (Some 2)) → ⊥
tick_with_stop h = let wrong : ◌≡◌ {A = ℕ} 2 1 = ap length h.notices.0.alone in absurd (omega arith)

-- Stop is taken where the tick is due
pub stop_for_tick : IsLegal machine 1 (then_notices (batch 4 (a_stop 1 3 ∷ []) ∷ []) (Some 2)) → ⊥
stop_for_tick h = let wrong : true ≡ false = ap is_stop_first h.notices.0.alone in cc

-- a tick is taken where there is none
pub tick_for_stop : IsLegal machine 0 (then_notices (batch 4 (a_tick 1 3 ∷ []) ∷ []) None) → ⊥
tick_for_stop h = let wrong : false ≡ true = ap is_stop_first h.notices.0.alone in cc

-- a tick is taken after Stop
pub tick_after_stop : IsLegal machine 0 (then_notices (batch 4 (a_stop 1 3 ∷ []) ∷ batch 5 (a_tick 2 4 ∷ []) ∷ []) (Some 2)) → ⊥
tick_after_stop h = let wrong : 2 ≤ 0 + 1 = h.notices.1.0.number in absurd (omega arith)

-- The run of the record of three places, step by step.
use Rattle.std.proofs.Common.{◌≡◌, ℕ, Bool, true, false, List, [], ◌∷◌, length, take, Some, None, refl, ap, map, arith, suc, ◌==◌, ne_eqb, inl, inr}
use Rattle.caf_types.specs.declared.notice.Priority.TheVariants.{Normal}
use Rattle.caf_types.specs.declared.reason.Reason.TheVariants as reason
use Rattle.caf_types.specs.declared.sec.Sec.TheVariants as sec
use Rattle.caf_message.specs.declared.envelope.Plain.TheVariants as «plain»
use Rattle.caf_message.specs.declared.envelope.Taken.{Taken}
use Rattle.caf_message.specs.Envelope.{start_envelope}
use Rattle.caf_message.specs.Outside.{outside_envelope}
use Rattle.caf_actor.specs.declared.snapshot.Snapshot.{Snapshot}
use Rattle.caf_actor.specs.PlainInput.{Response, Failed}
use Rattle.caf_actor.specs.Run.{State, Turn, Step, Take, Speak, opening_state, run, MaySpeak, kept_of}
use Rattle.caf_actor.specs.Merge.{batches_in, IsMerge, steps_of}
use Rattle.caf_actor.specs.Resolutions.{Resolution, times_resolved}
use Rattle.caf_actor.specs.Carriers.{carriers, waits, run_resolves}
use Rattle.caf_actor.proofs.ExampleActors.{text, Role, Echo, Sleeper, Keeper, Forwarder, Quitter, Conductor, Player, rules, new_player, replied}
use Rattle.caf_actor.proofs.RecordExamples.{machine, three, each_place, start, batch, first_request, second_request, first_response, second_response, kill, whole}

-- the batches of the record by stamp, then by place
abbrev turn : ℕ → ℕ → List Taken → Turn
turn place stamp taken = record { place = place; batch = batch stamp taken }

abbrev merged : List Turn
merged =
    turn 0 1 (start_envelope ∷ [])
    ∷ turn 1 2 (first_request ∷ second_request ∷ [])
    ∷ turn 0 3 (first_response ∷ second_response ∷ [])
    ∷ turn 0 4 (outside_envelope 0 1 3 ∷ [])
    ∷ turn 1 5 (kill 2 4 ∷ [])
    ∷ turn 2 5 (kill 0 4 ∷ [])
    ∷ []

abbrev is_spoken : Step → Bool
is_spoken Speak = true
is_spoken (Take t) = false

-- the outside sends Stop before the fourth of them
pub stop_is_fourth : map (λ (a : Step). is_spoken a) (steps_of merged) ≡ false ∷ false ∷ false ∷ true ∷ false ∷ false ∷ false ∷ []
stop_is_fourth = refl

-- ---- where the steps lead

abbrev state : List Step → State (Snapshot Player)
state steps = run machine 0 (opening_state 3 start) steps

abbrev first_steps : ℕ → List Step
first_steps n = take n (steps_of merged)

-- at first Start waits, so the outside can't send Stop
pub start_waits : (state []).waiting 256 0 ≡ start_envelope ∷ []
start_waits = refl

pub no_stop_at_first : MaySpeak machine 0 (state []) → ⊥
no_stop_at_first h = let wrong : ◌≡◌ {A = ℕ} 1 0 = ap length (h.rest.taken 256 0) in absurd (omega arith)

pub requests_wait : (state (first_steps 1)).waiting 0 1 ≡ first_request ∷ second_request ∷ []
requests_wait = refl

pub responses_wait : (state (first_steps 2)).waiting 1 0 ≡ first_response ∷ second_response ∷ []
responses_wait = refl

-- Stop has the greatest stamp that there is
pub stop_waits : (state (first_steps 4)).waiting 256 0 ≡ outside_envelope 0 1 3 ∷ []
stop_waits = refl

pub all_killed : map (λ (p : ℕ). ((state (steps_of merged)).snapshot p).quit) (0 ∷ 1 ∷ 2 ∷ []) ≡ None ∷ Some reason.Kill ∷ Some reason.Kill ∷ []
all_killed = refl

-- ---- the record of the run is the record

pub same_cut : (kept_of 3 start (steps_of merged)).cut ≡ Some 2
same_cut = refl

pub same_first : (kept_of 3 start (steps_of merged)).journal 0 ≡ whole.journal 0
same_first = refl

pub same_second : (kept_of 3 start (steps_of merged)).journal 1 ≡ whole.journal 1
same_second = refl

-- ---- the first request of place 0

abbrev carried : ℕ → ℕ
carried n = carriers 0 1 (state (first_steps n))

-- before it is issued, while it is untaken, while its response is, and once it is resolved
pub one_carrier : map carried (0 ∷ 1 ∷ 2 ∷ 3 ∷ 7 ∷ []) ≡ 0 ∷ 1 ∷ 1 ∷ 0 ∷ 0 ∷ []
one_carrier = refl

pub it_waits : map (λ (n : ℕ). waits 0 1 (state (first_steps n))) (0 ∷ 1 ∷ 2 ∷ 3 ∷ 7 ∷ []) ≡ false ∷ true ∷ true ∷ false ∷ false ∷ []
it_waits = refl

pub resolutions : map (λ (r : Resolution). r.given) (run_resolves rules 0 0 (opening_state 3 start) (steps_of merged)) ≡ Response 7 (text 97) ∷ Response 8 (text 98) ∷ []
resolutions = refl

pub resolved_once : times_resolved 1 (run_resolves rules 0 0 (opening_state 3 start) (steps_of merged)) ≡ 1
resolved_once = refl

abbrev broken : Taken
broken = (replied 0 1 Normal («plain».Failure sec.BrokenPromise)).envelope

abbrev bounced : Taken
bounced = (replied 1 2 Normal («plain».Failure sec.RequestReceiverDown)).envelope

-- ---- the same request at other receivers: after two steps it is held, or cached, or its receiver has quit

abbrev with_receiver : Role → List Step → State (Snapshot Player)
with_receiver role steps = run machine 0 (opening_state 3 (three (new_player (Conductor 3) 0) (new_player role 1) (new_player Echo 2) (new_player Echo 3))) steps

pub held_carrier : carriers 0 1 (with_receiver Keeper (first_steps 2)) ≡ 1
held_carrier = refl

pub held_there : length ((with_receiver Keeper (first_steps 2)).snapshot 1).holds ≡ 2
held_there = refl

-- delegated, it waits for place 2
pub delegated_carrier : carriers 0 1 (with_receiver Forwarder (first_steps 2)) ≡ 1
delegated_carrier = refl

pub delegated_there : length ((with_receiver Forwarder (first_steps 2)).waiting 1 2) ≡ 2
delegated_there = refl

pub cached_carrier : carriers 0 1 (with_receiver Sleeper (first_steps 2)) ≡ 1
cached_carrier = refl

pub cached_there : length ((with_receiver Sleeper (first_steps 2)).snapshot 1).caches.normal ≡ 2
cached_there = refl

pub quit_carriers : carriers 0 1 (with_receiver Quitter (first_steps 2)) ≡ 1
quit_carriers = refl

pub bounced_carrier : carriers 0 2 (with_receiver Quitter (first_steps 2)) ≡ 1
bounced_carrier = refl

-- the receiver quit, and its answers end both requests by errors
pub ends_by_errors : map (λ (r : Resolution). r.given)
    (run_resolves rules 0 0 (opening_state 3 (three (new_player (Conductor 3) 0) (new_player Quitter 1) (new_player Echo 2) (new_player Echo 3)))
    (Take (turn 0 1 (start_envelope ∷ [])) ∷ Take (turn 1 2 (first_request ∷ second_request ∷ [])) ∷ Take (turn 0 3 (broken ∷ bounced ∷ [])) ∷ []))
    ≡ Failed 7 sec.BrokenPromise ∷ Failed 8 sec.RequestReceiverDown ∷ []
ends_by_errors = refl

-- ---- the order

nothing_there : (p : ℕ) → batches_in (suc (suc (suc p))) merged ≡ []
nothing_there p =
    let q : (suc (suc (suc p)) == 0) ≡ false = ne_eqb (suc (suc (suc p))) 0 (λ e. omega arith) in
    let r : (suc (suc (suc p)) == 1) ≡ false = ne_eqb (suc (suc (suc p))) 1 (λ e. omega arith) in
    let s : (suc (suc (suc p)) == 2) ≡ false = ne_eqb (suc (suc (suc p))) 2 (λ e. omega arith) in
    rw (q, r, s) refl

-- all batches of the record, by stamp, then by place
pub is_merge : IsMerge whole merged
is_merge = record {
  parts = each_place (λ p. batches_in p merged ≡ whole.journal p) refl refl refl (λ p. nothing_there p);
  order = (
    (inl (omega arith), (inl (omega arith), (inl (omega arith), (inl (omega arith), (inl (omega arith), tt))))),
    (
      (inl (omega arith), (inl (omega arith), (inl (omega arith), (inl (omega arith), tt)))),
      (
        (inl (omega arith), (inl (omega arith), (inl (omega arith), tt))),
        ((inl (omega arith), (inl (omega arith), tt)), ((inr (refl, omega arith), tt), (tt, tt))),
      ),
    ),
  );
}

-- The machine of all places on one thread, and its runs.
use Rattle.std.specs.Prelude.{◌≡◌, ◌≢◌, ℕ, ◌+◌, ◌≤◌, ◌<◌, ◌==◌, ◌&&◌, Bool, true, false, if◌then◌else◌, List, [], ◌∷◌, ◌++◌, length, drop}
use Rattle.caf_message.specs.declared.envelope.Taken.{Taken}
use Rattle.caf_message.specs.Envelope.{outside, start_envelope}
use Rattle.caf_message.specs.Outside.{outside_envelope}
use Rattle.caf_actor.specs.declared.journal.TakenBatch.{TakenBatch}
use Rattle.caf_actor.specs.Record.{Machine, IsPrefix, from_place, to_place, when, latest, IsStill, Kept, ends, untaken, heard, cut_in}

-- ---- states

-- a snapshot for each place, for each pair of a sender and a receiver what waits to be taken, and how
-- many envelopes the outside has sent
pub record State (S : Type 0) : Type 0 where
  pub places : ℕ
  pub snapshot : ℕ → S
  pub waiting : ℕ → ℕ → List Taken
  pub spoken : ℕ

-- at first Start waits for place 0
abbrev pub opening_state : {S : Type 0} → ℕ → (ℕ → S) → State S
opening_state places start = record {
  places = places;
  snapshot = start;
  waiting = λ a b. when ((outside == a) && (0 == b)) (start_envelope ∷ []);
  spoken = 1;
}

-- ---- steps

-- a place takes a batch
pub record Turn : Type 0 where
  pub place : ℕ
  pub batch : TakenBatch

-- or the outside sends its next notice
pub data Step : Type 0 where
  Take : Turn → Step
  Speak : Step

-- the batch isn't empty, it has the next envelopes of each sender, and its stamp is the one due
pub record MayTake {S : Type 0} (m : Machine S) (s : State S) (t : Turn) : Type 0 where
  pub place : t.place < s.places
  pub filled : t.batch.taken ≢ []
  pub next : (a : ℕ) → IsPrefix (from_place a t.batch.taken) (s.waiting a t.place)
  pub stamp : t.batch.stamp ≡ m.due (s.snapshot t.place) t.batch.taken

-- where all is at rest, until Stop is sent
pub record MaySpeak {S : Type 0} (m : Machine S) (ticks : ℕ) (s : State S) : Type 0 where
  pub number : s.spoken ≤ ticks + 1
  pub rest : IsStill m s.places s.snapshot s.waiting

abbrev pub IsPossible : {S : Type 0} → Machine S → ℕ → State S → Step → Type 0
IsPossible m ticks s (Take t) = MayTake m s t
IsPossible m ticks s Speak = MaySpeak m ticks s

abbrev pub without : Bool → List Taken → List Taken → List Taken
without true xs waiting = drop (length xs) waiting
without false xs waiting = waiting

-- the batch no longer waits, the place handles it, and what it posts waits
abbrev pub take_batch : {S : Type 0} → Machine S → State S → Turn → State S
take_batch m s t = record s {
  snapshot = λ p. if p == t.place then (m.play (s.snapshot p) t.batch.taken).0 else s.snapshot p;
  waiting = λ a b.
      without (b == t.place) (from_place a t.batch.taken) (s.waiting a b) ++
      when (a == t.place) (to_place b (m.play (s.snapshot a) t.batch.taken).1);
}

-- the next notice waits for place 0, with the greatest stamp of all places
abbrev pub next_notice : {S : Type 0} → Machine S → ℕ → State S → Taken
next_notice m ticks s = outside_envelope ticks s.spoken (latest m s.places s.snapshot)

abbrev pub send_notice : {S : Type 0} → Machine S → ℕ → State S → State S
send_notice m ticks s = record s {
  waiting = λ a b. s.waiting a b ++ when ((outside == a) && (0 == b)) (next_notice m ticks s ∷ []);
  spoken = s.spoken + 1;
}

abbrev pub step : {S : Type 0} → Machine S → ℕ → State S → Step → State S
step m ticks s (Take t) = take_batch m s t
step m ticks s Speak = send_notice m ticks s

-- ---- runs

abbrev pub run : {S : Type 0} → Machine S → ℕ → State S → List Step → State S
run m ticks s [] = s
run m ticks s (a ∷ steps) = run m ticks (step m ticks s a) steps

-- each step is possible where it stands
abbrev pub IsRun : {S : Type 0} → Machine S → ℕ → State S → List Step → Type 0
IsRun m ticks s [] = Unit {0}
IsRun m ticks s (a ∷ steps) = IsPossible m ticks s a × IsRun m ticks (step m ticks s a) steps

-- ---- runs and records

-- the run ends in the record's snapshots, and what waits is what the record has untaken
pub record EndsAs {S : Type 0} (m : Machine S) (k : Kept S) (s : State S) : Type 0 where
  pub snapshots : (p : ℕ) → s.snapshot p ≡ ends m k p
  pub waiting : (a b : ℕ) → s.waiting a b ≡ untaken m k a b

-- all that the outside has sent was taken
abbrev pub IsHeard : {S : Type 0} → Kept S → State S → Type 0
IsHeard k s = length (heard (k.journal 0)) + 1 ≡ s.spoken

-- the batches of one place
abbrev pub batches_of : ℕ → List Step → List TakenBatch
batches_of p [] = []
batches_of p (Take t ∷ steps) = if p == t.place then t.batch ∷ batches_of p steps else batches_of p steps
batches_of p (Speak ∷ steps) = batches_of p steps

-- what the places took in a run
abbrev pub kept_of : {S : Type 0} → ℕ → (ℕ → S) → List Step → Kept S
kept_of places start steps = record {
  places = places;
  start = start;
  journal = λ p. batches_of p steps;
  cut = cut_in (batches_of 0 steps);
}

-- A legal record without ticks in which Stop was taken: up to Stop it is a record at rest, and from there it winds down.
use Rattle.std.proofs.Common.{◌≡◌, ℕ, ◌<◌, ◌==◌, ◌&&◌, ◌+◌, Bool, true, false, List, [], ◌∷◌, ◌++◌, length, refl, sym, subst, ap, ◌∙◌}
use Rattle.std.specs.List.{AllByRecursion}
use Rattle.std.proofs.Math.Path.{fun_ext}
use Rattle.caf_message.specs.Envelope.{outside}
use Rattle.caf_mailbox.specs.Caches.{nothing_cached}
use Rattle.caf_mailbox.proofs.NextLemmas.{AllCached, all_append}
use Rattle.caf_response.specs.Pending.{WaitingRequests}
use Rattle.caf_record.proofs.ListLemmas.{all_left}
use Rattle.caf_record.proofs.MergeLemmas.{merge_runs}
use Rattle.caf_record.proofs.RunLemmas.{run_legal}
use Rattle.caf_record.proofs.StampedLemmas.{has_stamps}
use Rattle.caf_actor.specs.Merge.{ComesBefore, AreInOrder, IsMerge, batches_in, steps_of}
use Rattle.caf_actor.specs.Record.{Kept, Machine, machine_of, IsLegal, IsAtRest, IsStill, ends, heard, holds_notice, cut_in, when}
use Rattle.caf_actor.specs.Rules.{Rules}
use Rattle.caf_actor.specs.Run.{State, Step, Turn, Take, Speak, IsRun, EndsAs, IsHeard, run, step, opening_state, send_notice, next_notice, batches_of}
use Rattle.caf_actor.specs.declared.journal.TakenBatch.{TakenBatch}
use Rattle.caf_actor.specs.declared.snapshot.Snapshot.{Snapshot}
use Rattle.caf_pipeline.proofs.LateLemmas.{IsLate, StaysIdle}
use Rattle.caf_pipeline.proofs.WindingLemmas.{AreWindingDown, take_winds, all_wind}

-- ---- turns

-- the turn takes a notice of the outside behind Start
abbrev pub speaks : Turn → Bool
speaks t = (0 == t.place) && holds_notice t.batch

abbrev pub AreQuiet : List Turn → Type 0
AreQuiet ts = AllByRecursion (λ t. speaks t ≡ false) ts

heard_on : (t : Turn) (ts : List Turn) → speaks t ≡ false → heard (batches_in 0 (t ∷ ts)) ≡ heard (batches_in 0 ts)
heard_on t ts e = go (0 == t.place) refl (holds_notice t.batch) refl
  where
    go : (b : Bool) → (0 == t.place) ≡ b → (c : Bool) → holds_notice t.batch ≡ c → heard (batches_in 0 (t ∷ ts)) ≡ heard (batches_in 0 ts)
    go true q true r = let bad : true ≡ false = rw (q, r) at e in cc
    go true q false r = rw (q, r) refl
    go false q c r = rw q refl

heard_now : (t : Turn) (ts : List Turn) → speaks t ≡ true → heard (batches_in 0 (t ∷ ts)) ≡ t.batch ∷ heard (batches_in 0 ts)
heard_now t ts e = go (0 == t.place) refl (holds_notice t.batch) refl
  where
    go : (b : Bool) → (0 == t.place) ≡ b → (c : Bool) → holds_notice t.batch ≡ c → heard (batches_in 0 (t ∷ ts)) ≡ t.batch ∷ heard (batches_in 0 ts)
    go true q true r = rw (q, r) refl
    go true q false r = let bad : false ≡ true = rw (q, r) at e in cc
    go false q c r = let bad : false ≡ true = rw q at e in cc

pub all_quiet : (ts : List Turn) → heard (batches_in 0 ts) ≡ [] → AreQuiet ts
all_quiet [] none = tt
all_quiet (t ∷ ts) none = go (speaks t) refl (all_quiet ts)
  where
    go : (b : Bool) → speaks t ≡ b → (heard (batches_in 0 ts) ≡ [] → AreQuiet ts) → AreQuiet (t ∷ ts)
    go true q later = let bad : ◌≡◌ {A = List TakenBatch} (t.batch ∷ heard (batches_in 0 ts)) [] = sym (heard_now t ts q) ∙ none in cc
    go false q later = (q, later (sym (heard_on t ts q) ∙ none))

none_heard : (ts : List Turn) → AreQuiet ts → heard (batches_in 0 ts) ≡ []
none_heard [] quiet = refl
none_heard (t ∷ ts) quiet = heard_on t ts quiet.0 ∙ none_heard ts quiet.1

-- parted at the one turn that takes such a notice
pub record AreParted (ts : List Turn) : Type 0 where
  pub early : List Turn
  pub turn : Turn
  pub late : List Turn
  pub whole : ts ≡ early ++ turn ∷ late
  pub quiet_early : AreQuiet early
  pub loud : speaks turn ≡ true
  pub quiet_late : AreQuiet late

pub parted : (ts : List Turn) (b : TakenBatch) → heard (batches_in 0 ts) ≡ b ∷ [] → AreParted ts
parted [] b e = cc
parted (t ∷ ts) b e = go (speaks t) refl (parted ts b)
  where
    go : (c : Bool) → speaks t ≡ c → (heard (batches_in 0 ts) ≡ b ∷ [] → AreParted ts) → AreParted (t ∷ ts)
    go true q later =
        let both : ◌≡◌ {A = List TakenBatch} (t.batch ∷ heard (batches_in 0 ts)) (b ∷ []) = sym (heard_now t ts q) ∙ e in
        let none : heard (batches_in 0 ts) ≡ [] = cc in
        record { early = []; turn = t; late = ts; whole = refl; quiet_early = tt; loud = q; quiet_late = all_quiet ts none }
    go false q later =
        let rest = later (sym (heard_on t ts q) ∙ e) in
        record { early = t ∷ rest.early; turn = rest.turn; late = rest.late; whole = ap (λ us. t ∷ us) rest.whole; quiet_early = (q, rest.quiet_early); loud = rest.loud; quiet_late = rest.quiet_late }

steps_append : (xs ys : List Turn) → steps_of (xs ++ ys) ≡ steps_of xs ++ steps_of ys
steps_append [] ys = refl
steps_append (t ∷ xs) ys = go (speaks t) refl (steps_append xs ys)
  where
    go : (b : Bool) → speaks t ≡ b → steps_of (xs ++ ys) ≡ steps_of xs ++ steps_of ys → steps_of (t ∷ (xs ++ ys)) ≡ steps_of (t ∷ xs) ++ steps_of ys
    go true q rest = rw q (ap (λ st. Speak ∷ Take t ∷ st) rest)
    go false q rest = rw q (ap (λ st. Take t ∷ st) rest)

in_order_early : (xs ys : List Turn) → AreInOrder (xs ++ ys) → AreInOrder xs
in_order_early [] ys order = tt
in_order_early (t ∷ xs) ys order = (all_left (ComesBefore t) xs ys order.0, in_order_early xs ys order.1)

same_batches : (p : ℕ) (ts : List Turn) → batches_of p (steps_of ts) ≡ batches_in p ts
same_batches p [] = refl
same_batches p (t ∷ ts) = go (speaks t) refl (p == t.place) refl (same_batches p ts)
  where
    go : (c : Bool) → speaks t ≡ c → (d : Bool) → (p == t.place) ≡ d → batches_of p (steps_of ts) ≡ batches_in p ts → batches_of p (steps_of (t ∷ ts)) ≡ batches_in p (t ∷ ts)
    go true q true r h = rw (q, r) (ap (λ bs. t.batch ∷ bs) h)
    go true q false r h = rw (q, r) h
    go false q true r h = rw (q, r) (ap (λ bs. t.batch ∷ bs) h)
    go false q false r h = rw (q, r) h

-- ---- runs

module _ {S : Type 0} (m : Machine S) (ticks : ℕ) where
  run_append : (s : State S) (xs ys : List Step) → run m ticks s (xs ++ ys) ≡ run m ticks (run m ticks s xs) ys
  run_append s [] ys = refl
  run_append s (x ∷ xs) ys = run_append (step m ticks s x) xs ys

  runs_append : (s : State S) (xs ys : List Step) → IsRun m ticks s (xs ++ ys) → IsRun m ticks s xs × IsRun m ticks (run m ticks s xs) ys
  runs_append s [] ys runs = (tt, runs)
  runs_append s (x ∷ xs) ys runs = let rest = runs_append (step m ticks s x) xs ys runs.1 in ((runs.0, rest.0), rest.1)

  run_places : (s : State S) (xs : List Step) → (run m ticks s xs).places ≡ s.places
  run_places s [] = refl
  run_places s (Take t ∷ xs) = run_places (step m ticks s (Take t)) xs
  run_places s (Speak ∷ xs) = run_places (step m ticks s Speak) xs

-- ---- the record up to Stop

module _ {S : Type 0} (rules : Rules S) (k : Kept (Snapshot S)) (ts : List Turn) (legal : IsLegal (machine_of rules) 0 k) (merge : IsMerge k ts) (at : AreParted ts) where
  abbrev m : Machine (Snapshot S)
  m = machine_of rules

  abbrev pub kept_early : Kept (Snapshot S)
  kept_early = record { places = k.places; start = k.start; journal = λ p. batches_in p at.early; cut = cut_in (batches_in 0 at.early) }

  abbrev begins : State (Snapshot S)
  begins = opening_state k.places k.start

  abbrev at_stop : State (Snapshot S)
  at_stop = run m 0 begins (steps_of at.early)

  abbrev left : List Step
  left = Speak ∷ Take at.turn ∷ steps_of at.late

  steps_are : steps_of ts ≡ steps_of at.early ++ left
  steps_are =
      ap steps_of at.whole ∙ steps_append at.early (at.turn ∷ at.late)
      ∙ ap (λ (st : List Step). steps_of at.early ++ st) (let both : steps_of (at.turn ∷ at.late) ≡ left = rw at.loud refl in both)

  parts : IsRun m 0 begins (steps_of at.early) × IsRun m 0 at_stop left
  parts = runs_append m 0 begins (steps_of at.early) left (subst (λ (st : List Step). IsRun m 0 begins st) steps_are (merge_runs m (has_stamps rules) 0 k legal ts merge).0)

  pub early_legal : IsLegal m 0 kept_early
  early_legal =
      let same : ◌≡◌ {A = ℕ → List TakenBatch} (λ p. batches_of p (steps_of at.early)) (λ p. batches_in p at.early) = fun_ext (λ p. same_batches p at.early) in
      subst (λ (j : ℕ → List TakenBatch). IsLegal m 0 (record { places = k.places; start = k.start; journal = j; cut = cut_in (j 0) })) same
      (run_legal m (has_stamps rules) 0 k.places k.start legal.places (steps_of at.early) parts.0).0

  pub early_merge : IsMerge kept_early at.early
  early_merge = record { parts = λ p. refl; order = in_order_early at.early (at.turn ∷ at.late) (subst AreInOrder at.whole merge.order) }

  early_ends : EndsAs m kept_early at_stop × IsHeard kept_early at_stop
  early_ends = (merge_runs m (has_stamps rules) 0 kept_early early_legal at.early early_merge).1

  pub early_silent : heard (kept_early.journal 0) ≡ []
  early_silent = none_heard at.early at.quiet_early

  pub early_rest : IsAtRest m kept_early
  early_rest =
      let still : IsStill m at_stop.places at_stop.snapshot at_stop.waiting = parts.1.0.rest in
      record {
        taken = λ a b. sym (early_ends.0.waiting a b) ∙ still.taken a b;
        idle = λ p low. subst (λ (s : Snapshot S). m.is_idle s ≡ true) (early_ends.0.snapshots p) (still.idle p (subst (λ (n : ℕ). p < n) (sym (run_places m 0 begins (steps_of at.early))) low));
      }

  -- ---- and behind it

  last_is : (p : ℕ) → (run m 0 at_stop left).snapshot p ≡ ends m k p
  last_is p =
      ap (λ (s : State (Snapshot S)). s.snapshot p) (sym (run_append m 0 begins (steps_of at.early) left) ∙ ap (run m 0 begins) (sym steps_are))
      ∙ (merge_runs m (has_stamps rules) 0 k legal ts merge).1.0.snapshots p

  module _ (Idle : ℕ → S → WaitingRequests → Type 0) (stays : (p : ℕ) → StaysIdle rules (Idle p))
      (idle : (p : ℕ) → p < k.places → Idle p (ends m kept_early p).behavior (ends m kept_early p).pending) (empty : (p : ℕ) → p < k.places → (ends m kept_early p).caches ≡ nothing_cached) where
    told_stop : AreWindingDown rules Idle stays k.places (send_notice m 0 at_stop)
    told_stop = record {
      places_are = run_places m 0 begins (steps_of at.early);
      idle = λ p low. subst (λ (s : Snapshot S). Idle p s.behavior s.pending) (sym (early_ends.0.snapshots p)) (idle p low);
      cached = λ p low. subst (AllCached IsLate) (sym (ap (λ (s : Snapshot S). s.caches) (early_ends.0.snapshots p) ∙ empty p low)) (tt, tt);
      waits = λ a b. all_append IsLate (at_stop.waiting a b) _
          (subst (AllByRecursion IsLate) (sym (early_ends.0.waiting a b ∙ early_rest.taken a b)) tt) (only_stop ((outside == a) && (0 == b)));
    }
      where
        spoken : at_stop.spoken ≡ 1
        spoken = sym early_ends.1 ∙ ap (λ (bs : List TakenBatch). length bs + 1) early_silent

        stop_late : IsLate (next_notice m 0 at_stop)
        stop_late = rw spoken tt

        only_stop : (c : Bool) → AllByRecursion IsLate (when c (next_notice m 0 at_stop ∷ []))
        only_stop true = (stop_late, tt)
        only_stop false = tt

    pub winds_down : (p : ℕ) → p < k.places → Idle p (ends m k p).behavior (ends m k p).pending
    winds_down p low =
        let first = take_winds rules Idle stays k.places (send_notice m 0 at_stop) at.turn told_stop parts.1.1.0 in
        let all = all_wind rules Idle stays 0 k.places at.late _ first at.quiet_late parts.1.1.1 in
        subst (λ (s : Snapshot S). Idle p s.behavior s.pending) (last_is p) (all.idle p low)

-- The actors of a run at its beginning: how they are listed, and whom they send to.
use Rattle.std.proofs.Common.{◌≡◌, ◌≢◌, ℕ, zero, suc, ◌+◌, ◌<◌, ◌≤◌, true, List, [], ◌∷◌, ◌++◌, length, drop, get_or, Some, refl, sym, ap, subst, ◌∙◌, add-one, append_assoc, arith}
use Rattle.std.specs.Prelude.{slice_get, Contains}
use Rattle.std.proofs.Math.Seq.{drop-cons}
use Rattle.std.proofs.lemmas.List.{append-nil, drop_all}
use Rattle.std.specs.List.{AllByRecursion}
use Rattle.caf_actor.specs.Actor.{ActorState}
use Rattle.caf_driver.specs.Opening.{IsFresh, AreFresh}
use Rattle.caf_kinds.specs.Kinds.{who, kind_rules}
use Rattle.caf_kinds.specs.Planning.{places_from}
use Rattle.caf_kinds.specs.Starting.{CanStart, has_short_lines, started, who_of}
use Rattle.caf_kinds.specs.Who.{Who}
use Rattle.caf_kinds.specs.ConductorLaws.{all_joined}
use Rattle.caf_kinds.proofs.PlanningLemmas.{one_of_all}
use Rattle.caf_kinds.specs.declared.kind.Kind.{Kind}
use Rattle.caf_kinds.specs.declared.script.Step.{Step}
use Rattle.caf_kinds.specs.declared.setup.KindName.{KindName}
use Rattle.caf_kinds.specs.declared.setup.KindName.TheVariants as name
use Rattle.caf_kinds.specs.declared.setup.Setup.{Setup}
use Rattle.caf_opening.specs.Opening.{CanStand, CanOpen, own_files, files_left, actor_at, actors_from, conductor_at_0, opening_of, IsKnown, AreKnown}

-- ---- whom they send to

-- an actor of any kind but the conductor is who its setup says
who_started : (w : Who) (s : Setup) (places : List Setup) (script : List Step) (files : List (List ℕ)) (k : KindName) → k ≢ name.Conductor → who (started w s places script files k) ≡ w
who_started w s places script files name.Echo other = refl
who_started w s places script files name.Cell other = refl
who_started w s places script files name.Calc other = refl
who_started w s places script files name.Holder other = refl
who_started w s places script files name.Quitter other = refl
who_started w s places script files name.Source other = refl
who_started w s places script files name.Relay other = refl
who_started w s places script files name.Counter other = refl
who_started w s places script files name.Lines other = refl
who_started w s places script files name.Collector other = refl
who_started w s places script files name.Watcher other = refl
who_started w s places script files name.Spawner other = refl
who_started w s places script files name.Alarm other = refl
who_started w s places script files name.Conductor other = absurd (other refl)

one_of : (P : ℕ → Type 0) (ps : List ℕ) → AllByRecursion P ps → (p : ℕ) → Contains ps p → P p
one_of P ps all p (k, within, is) = subst P is (one_of_all P ps k p within all)

targets_below : (w : Who) (n : ℕ) → w.place < n → AllByRecursion (λ p. p < n) w.peers → AllByRecursion (λ p. p < n) w.reserve → (q : ℕ) → Contains (w.place ∷ (w.peers ++ w.reserve)) q → q < n
targets_below w n own peers reserve q target =
    one_of (λ p. p < n) (w.place ∷ (w.peers ++ w.reserve)) (own, all_joined (λ p. p < n) w.peers w.reserve peers reserve) q target

is_fresh : (places : List Setup) (script : List Step) (n p : ℕ) (s : Setup) (files : List (List ℕ)) → CanStand n s → p < n → IsFresh kind_rules n p (actor_at places script p s files)
is_fresh places script n p s files can within = record {
  journal = refl;
  whole = refl;
  place = refl;
  targets = λ q target.
      let me = who_started (who_of p s) s places script files s.kind can.kind in
      targets_below (who_of p s) n within can.peers_below can.reserve_below q (subst (λ (w : Who). Contains (w.place ∷ (w.peers ++ w.reserve)) q) me target);
}

fresh_from : (places : List Setup) (script : List Step) (n p : ℕ) (ss : List Setup) (files : List (List ℕ)) → AllByRecursion (CanStand n) ss → p + length ss ≡ n
    → (k : ℕ) (a : ActorState Kind) → slice_get (actors_from places script p ss files) k ≡ Some a → IsFresh kind_rules n (p + k) a
fresh_from places script n p [] files all count k a e = absurd cc
fresh_from places script n p (s ∷ ss) files all count zero a e =
    let same : actor_at places script p s (own_files s.kind files) ≡ a = cc in
    let here : p ≡ p + 0 = omega arith in
    subst (IsFresh kind_rules n (p + 0)) same (subst (λ (q : ℕ). IsFresh kind_rules n q (actor_at places script p s (own_files s.kind files))) here (is_fresh places script n p s (own_files s.kind files) all.0 (omega (arith, count))))
fresh_from places script n p (s ∷ ss) files all count (suc k) a e =
    let there : (p + 1) + k ≡ p + suc k = omega arith in
    subst (λ (q : ℕ). IsFresh kind_rules n q a) there (fresh_from places script n (p + 1) ss (files_left s.kind files) all.1 (omega (arith, count)) k a e)

places_below : (p n : ℕ) → AllByRecursion (λ q. q < p + n) (places_from p n)
places_below p zero = tt
places_below p (suc n) =
    let same : (p + 1) + n ≡ p + suc n = omega arith in
    (omega arith, subst (λ (m : ℕ). AllByRecursion (λ q. q < m) (places_from (p + 1) n)) same (places_below (p + 1) n))

actors_length : (places : List Setup) (script : List Step) (p : ℕ) (ss : List Setup) (files : List (List ℕ)) → length (actors_from places script p ss files) ≡ length ss
actors_length places script p [] files = refl
actors_length places script p (s ∷ ss) files = ap suc (actors_length places script (p + 1) ss (files_left s.kind files))

pub opening_length : (places : List Setup) (script : List Step) (files : List (List ℕ)) → length (opening_of places script files) ≡ length places + 1
opening_length places script files = ap suc (actors_length places script 1 places files) ∙ sym (add-one (length places))

conductor_fresh : (places : List Setup) (script : List Step) → IsFresh kind_rules (length places + 1) 0 (conductor_at_0 places script)
conductor_fresh places script = record {
  journal = refl;
  whole = refl;
  place = refl;
  targets = λ q target.
      let n = length places in
      let same : 1 + n ≡ n + 1 = omega arith in
      targets_below (record { place = 0; peers = places_from 1 n; reserve = [] }) (n + 1) (omega arith) (subst (λ (m : ℕ). AllByRecursion (λ r. r < m) (places_from 1 n)) same (places_below 1 n)) tt q target;
}

pub opening_fresh : (places : List Setup) (script : List Step) (files : List (List ℕ)) → CanOpen places script files → AreFresh kind_rules (opening_of places script files)
opening_fresh places script files can p a e =
    subst (λ (n : ℕ). IsFresh kind_rules n p a) (sym (opening_length places script files)) (go p a e)
  where
    go : (p : ℕ) (a : ActorState Kind) → slice_get (opening_of places script files) p ≡ Some a → IsFresh kind_rules (length places + 1) p a
    go zero a e = let same : conductor_at_0 places script ≡ a = cc in subst (IsFresh kind_rules (length places + 1) 0) same (conductor_fresh places script)
    go (suc k) a e =
        let there : 1 + k ≡ suc k = omega arith in
        let count : 1 + length places ≡ length places + 1 = omega arith in
        subst (λ (q : ℕ). IsFresh kind_rules (length places + 1) q a) there (fresh_from places script (length places + 1) 1 places files can.each count k a e)

-- ---- one after the other

own_short : (k : KindName) (files : List (List ℕ)) → AllByRecursion (λ bytes. has_short_lines 0 bytes ≡ true) files → AllByRecursion (λ bytes. has_short_lines 0 bytes ≡ true) (own_files k files)
own_short name.Source files short = short
own_short name.Echo files short = tt
own_short name.Cell files short = tt
own_short name.Calc files short = tt
own_short name.Holder files short = tt
own_short name.Quitter files short = tt
own_short name.Relay files short = tt
own_short name.Counter files short = tt
own_short name.Lines files short = tt
own_short name.Collector files short = tt
own_short name.Watcher files short = tt
own_short name.Spawner files short = tt
own_short name.Alarm files short = tt
own_short name.Conductor files short = tt

pub left_short : (k : KindName) (files : List (List ℕ)) → AllByRecursion (λ bytes. has_short_lines 0 bytes ≡ true) files → AllByRecursion (λ bytes. has_short_lines 0 bytes ≡ true) (files_left k files)
left_short name.Source files short = tt
left_short name.Echo files short = short
left_short name.Cell files short = short
left_short name.Calc files short = short
left_short name.Holder files short = short
left_short name.Quitter files short = short
left_short name.Relay files short = short
left_short name.Counter files short = short
left_short name.Lines files short = short
left_short name.Collector files short = short
left_short name.Watcher files short = short
left_short name.Spawner files short = short
left_short name.Alarm files short = short
left_short name.Conductor files short = short

below_256 : (n : ℕ) (ps : List ℕ) → n ≤ 256 → AllByRecursion (λ p. p < n) ps → AllByRecursion (λ p. p < 256) ps
below_256 n [] few all = tt
below_256 n (p ∷ ps) few all = (let low = all.0 in omega (arith, few, low), below_256 n ps few all.1)

pub can_start : (places : List Setup) (script : List Step) (files left : List (List ℕ)) (n : ℕ) (d : Setup) → CanOpen places script files → n < length places → AllByRecursion (λ bytes. has_short_lines 0 bytes ≡ true) left
    → CanStart (n + 1) (get_or places n d) places script (own_files (get_or places n d).kind left)
can_start places script files left n d can within short =
    let s = one_of_all (CanStand (length places + 1)) places n d within can.each in
    let few = can.few in
    record {
      place_is = omega (arith, few, within);
      reserve = below_256 (length places + 1) (get_or places n d).reserve (omega (arith, few)) s.reserve_below;
      peers = s.peers;
      conducts = λ e. absurd (s.kind e);
      few = can.few;
      steps = can.steps;
      typed = can.typed;
      lines = own_short (get_or places n d).kind left short;
    }

pub no_conductor : (places : List Setup) (script : List Step) (files : List (List ℕ)) (n : ℕ) (d : Setup) → CanOpen places script files → n < length places → (get_or places n d).kind ≢ name.Conductor
no_conductor places script files n d can within = (one_of_all (CanStand (length places + 1)) places n d within can.each).kind

-- with one actor more, those that are to come are one fewer
pub one_more_actor : (places : List Setup) (script : List Step) (n : ℕ) (d : Setup) (before after all : List (ActorState Kind)) (left rest : List (List ℕ)) (a : ActorState Kind) → n < length places
    → before ++ actors_from places script (n + 1) (drop n places) left ≡ all
    → after ≡ before ++ a ∷ [] → a ≡ actor_at places script (n + 1) (get_or places n d) (own_files (get_or places n d).kind left) → rest ≡ files_left (get_or places n d).kind left
    → after ++ actors_from places script (n + 1 + 1) (drop (n + 1) places) rest ≡ all
one_more_actor places script n d before after all left rest a within so_far added is gone =
    let next : suc n ≡ n + 1 = omega arith in
    let front : drop n places ≡ get_or places n d ∷ drop (n + 1) places = drop-cons places n d within ∙ ap (λ (m : ℕ). get_or places n d ∷ drop m places) next in
    let s = get_or places n d in
    let behind = actors_from places script (n + 1 + 1) (drop (n + 1) places) (files_left s.kind left) in
    ap (λ (fs : List (List ℕ)). after ++ actors_from places script (n + 1 + 1) (drop (n + 1) places) fs) gone
    ∙ ap (λ (them : List (ActorState Kind)). them ++ behind) (added ∙ ap (λ (x : ActorState Kind). before ++ x ∷ []) is)
    ∙ append_assoc before (actor_at places script (n + 1) s (own_files s.kind left) ∷ []) behind
    ∙ ap (λ (ss : List Setup). before ++ actors_from places script (n + 1) ss left) (sym front)
    ∙ so_far

pub one_more_known : (actors : List (ActorState Kind)) (a : ActorState Kind) → AreKnown actors → IsKnown a → AreKnown (actors ++ a ∷ [])
one_more_known [] a all last = (last, tt)
one_more_known (x ∷ xs) a all last = (all.0, one_more_known xs a all.1 last)

pub none_left : (places : List Setup) (script : List Step) (p n : ℕ) (before all : List (ActorState Kind)) (left : List (List ℕ)) → length places ≤ n → before ++ actors_from places script p (drop n places) left ≡ all → before ≡ all
none_left places script p n before all left over e =
    sym (append-nil before) ∙ ap (λ (ss : List Setup). before ++ actors_from places script p ss left) (sym (drop_all n places over)) ∙ e

pub opened : (places : List Setup) (script : List Step) (files : List (List ℕ)) (none first all : List (ActorState Kind)) (a : ActorState Kind) → none ≡ [] → first ≡ none ++ a ∷ [] → a ≡ conductor_at_0 places script
    → all ≡ first ++ actors_from places script 1 places files → all ≡ opening_of places script files
opened places script files none first all a empty pushed is added =
    added
    ∙ ap (λ (them : List (ActorState Kind)). them ++ actors_from places script 1 places files) (pushed ∙ ap (λ (them : List (ActorState Kind)). them ++ a ∷ []) empty)
    ∙ ap (λ (x : ActorState Kind). x ∷ actors_from places script 1 places files) is

-- Each place begins as it is to be.
use Rattle.std.proofs.Common.{◌≡◌, ◌≢◌, ℕ, zero, suc, ◌+◌, ◌-◌, ◌<◌, ◌≤◌, Bool, true, List, [], ◌∷◌, length, Some, None, cond, refl, ap, sym, subst, ◌∙◌, arith}
use Rattle.std.specs.Prelude.{nat_le, not, slice_get}
use Rattle.std.specs.List.{AllByRecursion}
use Rattle.std.proofs.Math.Dec.{eqb-suc-zero}
use Rattle.std.proofs.lemmas.Bool.Decides.{nat_tests}
use Rattle.caf_actor.specs.Record.{Kept}
use Rattle.caf_actor.specs.Snapshot.{fresh}
use Rattle.caf_actor.specs.declared.snapshot.Snapshot.{Snapshot}
use Rattle.caf_record.proofs.ListLemmas.{same_of}
use Rattle.caf_kinds.specs.Kinds.{has_peers, interface_of, kind_rules}
use Rattle.caf_kinds.specs.Peers.{wanted_of}
use Rattle.caf_kinds.specs.Planning.{conductor_of}
use Rattle.caf_kinds.specs.SendLaws.{all_at}
use Rattle.caf_kinds.specs.Setups.{setup_at}
use Rattle.caf_kinds.specs.Starting.{started, who_of}
use Rattle.caf_kinds.specs.Who.{IsWho}
use Rattle.caf_kinds.specs.declared.kind.Kind.{Kind}
use Rattle.caf_kinds.specs.declared.kind.Kind.TheVariants as kind
use Rattle.caf_kinds.specs.declared.script.Step.{Step}
use Rattle.caf_kinds.specs.declared.setup.KindName.{KindName}
use Rattle.caf_kinds.specs.declared.setup.KindName.TheVariants as name
use Rattle.caf_kinds.specs.declared.setup.Setup.{Setup}
use Rattle.caf_opening.specs.Opening.{CanStand, CanOpen, own_files, files_left, is_child, actor_at, actors_from, conductor_at_0, who_conducts}
use Rattle.caf_soundness.specs.Typed.{face_of, face, child_face, Serves, IsWellSet, Begins, WellSetIsWellTyped}
use Rattle.caf_soundness.proofs.LogLemmas.{Log, stays}
use Rattle.caf_soundness.proofs.KindLemmas.{IsSet}
use Rattle.caf_soundness.proofs.BehavesLemmas.{kinds_behave}
use Rattle.caf_soundness.proofs.RunLemmas.{Stands}
use Rattle.caf_soundness.proofs.RecordLemmas.{record_typed}
use Rattle.caf_soundness.proofs.ScriptLemmas.{script_typed}

-- ---- lists

got_at : (xs : List Setup) (k : ℕ) → k < length xs → (x : Setup) × (slice_get xs k ≡ Some x)
got_at [] k low = absurd (omega (arith, low))
got_at (x ∷ xs) zero low = (x, refl)
got_at (x ∷ xs) (suc k) low = got_at xs k (omega (arith, low))

low_enough : (n : ℕ) → nat_le n 255 ≡ true → n ≤ 255
low_enough n e = grind (arith, nat_tests)

below_256 : (n : ℕ) (ps : List ℕ) → n ≤ 256 → AllByRecursion (λ p. p < n) ps → AllByRecursion (λ p. p < 256) ps
below_256 n [] few all = tt
below_256 n (p ∷ ps) few all = (let low = all.0 in omega (arith, few, low), below_256 n ps few all.1)

-- the actor behind that many setups, whatever files it has
actor_there : (places : List Setup) (script : List Step) (p : ℕ) (ss : List Setup) (files : List (List ℕ)) (j : ℕ) (s : Setup) → slice_get ss j ≡ Some s
    → (own : List (List ℕ)) × (slice_get (actors_from places script p ss files) j ≡ Some (actor_at places script (p + j) s own))
actor_there places script p [] files j s e = absurd cc
actor_there places script p (t ∷ ss) files zero s e =
    let same : t ≡ s = cc in
    let here : p ≡ p + 0 = omega arith in (
      own_files s.kind files,
      ap (λ (x : Setup). Some (actor_at places script p x (own_files x.kind files))) same ∙ ap (λ (q : ℕ). Some (actor_at places script q s (own_files s.kind files))) here,
    )
actor_there places script p (t ∷ ss) files (suc j) s e =
    let there : p + 1 + j ≡ p + suc j = omega arith in
    let found = actor_there places script (p + 1) ss (files_left t.kind files) j s e in
    (found.0, found.1 ∙ ap (λ (q : ℕ). Some (actor_at places script q s found.0)) there)

at_suc : (setups : List Setup) (i : ℕ) → setup_at setups (suc i) ≡ slice_get setups i
at_suc setups i =
    let less : suc i - 1 ≡ i = omega arith in
    ap (λ (b : Bool). cond b None (slice_get setups (suc i - 1))) (eqb-suc-zero i) ∙ ap (slice_get setups) less

module _ (setups : List Setup) (script : List Step) where
  abbrev none : Log
  none r = []

  -- ---- one actor

  -- what is known of an actor of that kind, set up so at the place
  record Facts (place : ℕ) (s : Setup) (k : KindName) : Type 0 where
    pub takes : interface_of k ≡ face setups place
    pub peers : (i p : ℕ) → slice_get s.peers i ≡ Some p → Serves (setup_at setups p) (wanted_of k (length s.peers) i)
    pub reserve : AllByRecursion (λ p. Serves (setup_at setups p) child_face) s.reserve
    pub below : AllByRecursion (λ p. p < 256) s.reserve
    pub many : has_peers k (length s.peers) ≡ true

  few_peers : (place : ℕ) (s : Setup) → AllByRecursion (λ p. p < 256) s.reserve → length s.peers ≤ 255 → IsWho (who_of place s)
  few_peers place s below few = record { peers = few; reserve = below }

  begun : (place : ℕ) (s : Setup) (own : List (List ℕ)) (k : KindName) → k ≢ name.Conductor → Facts place s k → IsSet setups none place (started (who_of place s) s setups script own k)
  begun place s own name.Echo other f = record { usable = tt; own = refl; takes = f.takes; peers = λ e. f.peers; reserve = f.reserve; holds = tt }
  begun place s own name.Cell other f = record { usable = refl; own = refl; takes = f.takes; peers = λ e. f.peers; reserve = f.reserve; holds = tt }
  begun place s own name.Calc other f = record { usable = tt; own = refl; takes = f.takes; peers = λ e. f.peers; reserve = f.reserve; holds = tt }
  begun place s own name.Holder other f = record { usable = tt; own = refl; takes = f.takes; peers = λ e. f.peers; reserve = f.reserve; holds = tt }
  begun place s own name.Quitter other f = record { usable = tt; own = refl; takes = f.takes; peers = λ e. f.peers; reserve = f.reserve; holds = tt }
  begun place s own name.Source other f = record { usable = tt; own = refl; takes = f.takes; peers = λ e. f.peers; reserve = f.reserve; holds = tt }
  begun place s own name.Relay other f = record { usable = tt; own = refl; takes = f.takes; peers = λ e. f.peers; reserve = f.reserve; holds = tt }
  begun place s own name.Counter other f = record { usable = tt; own = refl; takes = f.takes; peers = λ e. f.peers; reserve = f.reserve; holds = tt }
  begun place s own name.Lines other f = record { usable = tt; own = refl; takes = f.takes; peers = λ e. f.peers; reserve = f.reserve; holds = tt }
  begun place s own name.Collector other f = record { usable = tt; own = refl; takes = f.takes; peers = λ e. f.peers; reserve = f.reserve; holds = tt }
  begun place s own name.Watcher other f = record {
    usable = record { who = few_peers place s f.below (low_enough (length s.peers) f.many); sights = record { gone = omega arith; held = tt } };
    own = refl;
    takes = f.takes;
    peers = λ e. f.peers;
    reserve = f.reserve;
    holds = tt;
  }
  begun place s own name.Spawner other f = record {
    usable = few_peers place s f.below (let zero_peers = same_of (length s.peers) 0 f.many in omega (arith, zero_peers));
    own = refl;
    takes = f.takes;
    peers = λ e. f.peers;
    reserve = f.reserve;
    holds = tt;
  }
  begun place s own name.Alarm other f = record { usable = tt; own = refl; takes = f.takes; peers = λ e. f.peers; reserve = f.reserve; holds = tt }
  begun place s own name.Conductor other f = absurd (other refl)

  conducts : CanOpen setups script [] → IsSet setups none 0 (kind.Conductor (conductor_of who_conducts setups script))
  conducts can = record {
    usable = tt;
    own = refl;
    takes = refl;
    peers = λ other. absurd (other refl);
    reserve = tt;
    holds = script_typed setups none 1 script can.typed;
  }

  -- ---- each place

  fresh_stands : (place : ℕ) (k : Kind) (has_begun : Bool) → IsSet setups none place k → Stands (face setups) kind_rules (IsSet setups) (kinds_behave setups) none place (fresh kind_rules has_begun place k 0)
  fresh_stands place k has_begun set = record {
    grown = stays none;
    others = λ r q. refl;
    at_is = refl;
    typed = set;
    numbered = refl;
    awaits = tt;
    waits = tt;
    cached = (tt, tt);
    delayed = tt;
    posted = tt;
  }

  module _ (files : List (List ℕ)) (can : CanOpen setups script files) (well : AllByRecursion (IsWellSet setups) setups) where
    facts : (j : ℕ) (s : Setup) → slice_get setups j ≡ Some s → Facts (suc j) s s.kind
    facts j s e =
        let stand = all_at (CanStand (length setups + 1)) setups j s can.each e in
        let set = all_at (IsWellSet setups) setups j s well e in
        let few = can.few in
        record {
          takes = ap face_of (sym (at_suc setups j ∙ e));
          peers = set.peers;
          reserve = set.reserve;
          below = below_256 (length setups + 1) s.reserve (omega (arith, few)) stand.reserve_below;
          many = stand.peers;
        }

    pub begins : (k : Kept (Snapshot Kind)) → Begins setups script files k → (p : ℕ) → p < k.places → Stands (face setups) kind_rules (IsSet setups) (kinds_behave setups) none p (k.start p)
    begins k opens zero low =
        subst (Stands (face setups) kind_rules (IsSet setups) (kinds_behave setups) none 0) (sym (opens.start 0 (conductor_at_0 setups script) refl))
        (fresh_stands 0 (kind.Conductor (conductor_of who_conducts setups script)) true
        (conducts (record { each = can.each; few = can.few; steps = can.steps; typed = can.typed; lines = tt })))
    begins k opens (suc j) low =
        let places = opens.places in
        let s = got_at setups j (omega (arith, low, places)) in
        let stand = all_at (CanStand (length setups + 1)) setups j s.0 can.each s.1 in
        let found = actor_there setups script 1 setups files j s.0 s.1 in
        let same : 1 + j ≡ suc j = omega arith in
        let actor = actor_at setups script (suc j) s.0 found.0 in
        let there : slice_get (actors_from setups script 1 setups files) j ≡ Some actor = found.1 ∙ ap (λ (q : ℕ). Some (actor_at setups script q s.0 found.0)) same in
        subst (Stands (face setups) kind_rules (IsSet setups) (kinds_behave setups) none (suc j)) (sym (opens.start (suc j) actor there))
        (fresh_stands (suc j) (started (who_of (suc j) s.0) s.0 setups script found.0 s.0.kind) (not (is_child setups (suc j)))
        (begun (suc j) s.0 found.0 s.0.kind stand.kind (facts j s.0 s.1)))

-- ---- the law

pub well_typed : WellSetIsWellTyped
well_typed setups script files can well ticks k ts opens legal merge =
    record_typed setups (IsSet setups) (kinds_behave setups) ticks k ts (begins setups script files can well k opens) legal merge

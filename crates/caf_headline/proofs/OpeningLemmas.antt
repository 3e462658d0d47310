-- Who stands where at the beginning, and whether it is a child.
use Rattle.std.proofs.Common.{◌≡◌, ◌≢◌, ℕ, zero, suc, ◌+◌, ◌-◌, ◌<◌, ◌≤◌, ◌==◌, ◌||◌, ◌⊎◌, Bool, true, false, not, List, [], ◌∷◌, ◌++◌, length, Some, inl, inr, refl, sym, subst, ap, ◌∙◌, arith, eqb-true, eq-eqb}
use Rattle.std.specs.Prelude.{slice_get, Contains, ◌↔◌}
use Rattle.std.specs.List.{AllByRecursion, list_any}
use Rattle.caf_actor.specs.Carriers.{AreFresh, IsReserved}
use Rattle.caf_actor.specs.Record.{Kept, IsCloser}
use Rattle.caf_actor.specs.Snapshot.{fresh}
use Rattle.caf_actor.specs.declared.snapshot.Snapshot.{Snapshot}
use Rattle.caf_index.proofs.ContainsLemmas.{contains-none, contains-here, contains-later, contains-cases}
use Rattle.caf_kinds.specs.Closing.{ConductorCloses}
use Rattle.caf_kinds.specs.Conductor.{Conducting}
use Rattle.caf_kinds.specs.ConductorLaws.{all_joined}
use Rattle.caf_kinds.specs.Kinds.{IsValid, who, kind_rules}
use Rattle.caf_kinds.specs.Planning.{conductor_of, places_from}
use Rattle.caf_kinds.specs.Starting.{started, who_of}
use Rattle.caf_kinds.specs.Who.{Who}
use Rattle.caf_kinds.specs.declared.kind.Kind.{Kind}
use Rattle.caf_kinds.specs.declared.kind.Kind.TheVariants as kind
use Rattle.caf_kinds.specs.declared.script.Step.{Step}
use Rattle.caf_kinds.specs.declared.setup.Setup.{Setup}
use Rattle.caf_opening.specs.Opening.{CanStand, IsSpared, IsKnown, is_child, own_files, files_left, actor_at, actors_from, who_conducts}
use Rattle.caf_pipeline.proofs.ListLemmas.{one_of, got_within, got_at}
use Rattle.caf_pipeline.specs.Contents.{OpensAs}
use Rattle.caf_headline.specs.Fresh.{IsOpening, BeginsWell, OpeningIsFresh}
use Rattle.caf_headline.proofs.StartedLemmas.{who_started}

-- ---- children

one_of_both : (b c : Bool) → (b || c) ≡ true → (b ≡ true) ⊎ (c ≡ true)
one_of_both true c e = inl refl
one_of_both false c e = inr e

or_later : (b c : Bool) → c ≡ true → (b || c) ≡ true
or_later true c e = refl
or_later false c e = e

or_here : (b c : Bool) → b ≡ true → (b || c) ≡ true
or_here b c e = ap (λ (x : Bool). x || c) e

among : (p : ℕ) (ps : List ℕ) → list_any (λ q. q == p) ps ≡ true → Contains ps p
among p [] e = absurd cc
among p (q ∷ qs) e = elim (one_of_both (q == p) (list_any (λ r. r == p) qs) e) [
  | inl here ↦ (let same : q ≡ p = eqb-true q p here in subst (λ (x : ℕ). Contains (q ∷ qs) x) same (contains-here q qs))
  | inr more ↦ contains-later q p qs (among p qs more)
]

is_among : (p : ℕ) (ps : List ℕ) → Contains ps p → list_any (λ q. q == p) ps ≡ true
is_among p [] has = absurd (contains-none p has)
is_among p (q ∷ qs) has = elim (contains-cases q p qs has) [
  | inl here ↦ or_here (q == p) (list_any (λ r. r == p) qs) (eq-eqb q p here)
  | inr more ↦ or_later (q == p) (list_any (λ r. r == p) qs) (is_among p qs more)
]

-- who keeps the place for a child
record Keeps (setups : List Setup) (p : ℕ) : Type 0 where
  pub at : ℕ
  pub setup : Setup
  pub stands : slice_get setups at ≡ Some setup
  pub has : Contains setup.reserve p

abbrev keeps_place : ℕ → Setup → Bool
keeps_place p s = list_any (λ q. q == p) s.reserve

keeper : (p : ℕ) (setups : List Setup) → list_any (keeps_place p) setups ≡ true → Keeps setups p
keeper p [] e = absurd cc
keeper p (s ∷ setups) e = elim (one_of_both (keeps_place p s) (list_any (keeps_place p) setups) e) [
  | inl here ↦ record { at = 0; setup = s; stands = refl; has = among p s.reserve here }
  | inr more ↦ (let k = keeper p setups more in record { at = suc k.at; setup = k.setup; stands = k.stands; has = k.has })
]

kept_by : (p : ℕ) (setups : List Setup) (j : ℕ) (s : Setup) → slice_get setups j ≡ Some s → Contains s.reserve p → list_any (keeps_place p) setups ≡ true
kept_by p [] j s e has = absurd cc
kept_by p (t ∷ setups) zero s e has =
    let same : t ≡ s = cc in
    or_here (keeps_place p t) (list_any (keeps_place p) setups) (is_among p t.reserve (subst (λ (x : Setup). Contains x.reserve p) (sym same) has))
kept_by p (t ∷ setups) (suc j) s e has = or_later (keeps_place p t) (list_any (keeps_place p) setups) (kept_by p setups j s e has)

-- ---- who stands there

holds_at : {A : Type 0} (P : A → Type 0) (xs : List A) (j : ℕ) (x : A) → AllByRecursion P xs → slice_get xs j ≡ Some x → P x
holds_at P [] j x all e = absurd cc
holds_at P (y ∷ ys) zero x all e = (let same : y ≡ x = cc in subst P same all.0)
holds_at P (y ∷ ys) (suc j) x all e = holds_at P ys j x all.1 e

-- the actor behind so many setups, with the files that it has
record Listed (places : List Setup) (script : List Step) (p : ℕ) (ss : List Setup) (files : List (List ℕ)) (j : ℕ) (s : Setup) : Type 0 where
  pub own : List (List ℕ)
  pub there : slice_get (actors_from places script p ss files) j ≡ Some (actor_at places script (p + j) s own)

listed : (places : List Setup) (script : List Step) (p : ℕ) (ss : List Setup) (files : List (List ℕ)) (j : ℕ) (s : Setup) → slice_get ss j ≡ Some s → Listed places script p ss files j s
listed places script p [] files j s e = absurd cc
listed places script p (t ∷ ss) files zero s e =
    let same : t ≡ s = cc in
    let here : p ≡ p + 0 = omega arith in
    record {
      own = own_files t.kind files;
      there = ap (λ (x : Setup). Some (actor_at places script p x (own_files t.kind files))) same ∙ ap (λ (q : ℕ). Some (actor_at places script q s (own_files t.kind files))) here;
    }
listed places script p (t ∷ ss) files (suc j) s e =
    let later = listed places script (p + 1) ss (files_left t.kind files) j s e in
    let there : p + 1 + j ≡ p + suc j = omega arith in
    record { own = later.own; there = later.there ∙ ap (λ (q : ℕ). Some (actor_at places script q s later.own)) there }

places_below : (p n m : ℕ) → p + n ≤ m → AllByRecursion (λ q. q < m) (places_from p n)
places_below p zero m room = tt
places_below p (suc n) m room = (omega (arith, room), places_below (p + 1) n m (omega (arith, room)))

places_up : (p n : ℕ) → 0 < p → AllByRecursion (λ q. 0 < q) (places_from p n)
places_up p zero some = tt
places_up p (suc n) some = (some, places_up (p + 1) n (omega (arith, some)))

-- where each of them is above 0, 0 isn't among them
none_is_0 : (ps qs : List ℕ) → AllByRecursion (λ p. 0 < p) ps → AllByRecursion (λ p. 0 < p) qs → Contains (ps ++ qs) 0 → ⊥
none_is_0 ps qs up too has = (let low = one_of (λ p. 0 < p) (ps ++ qs) 0 (all_joined (λ p. 0 < p) ps qs up too) has in absurd (omega (arith, low)))

module _ (setups : List Setup) (script : List Step) (files : List (List ℕ)) (k : Kept (Snapshot Kind)) (is : IsOpening setups script files) (opens : OpensAs setups script files k) where
  conductor : Conducting
  conductor = conductor_of who_conducts setups script

  at_0 : k.start 0 ≡ fresh kind_rules true 0 (kind.Conductor conductor) 0
  unfolding conductor
  at_0 = opens.start 0 _ refl

  behind : (j : ℕ) (s : Setup) → slice_get setups j ≡ Some s → Listed setups script 1 setups files j s
  behind j s e = listed setups script 1 setups files j s e

  behavior_at : (j : ℕ) (s : Setup) → slice_get setups j ≡ Some s → Kind
  behavior_at j s e = started (who_of (1 + j) s) s setups script (behind j s e).own s.kind

  at_suc : (j : ℕ) (s : Setup) (e : slice_get setups j ≡ Some s) → k.start (suc j) ≡ fresh kind_rules (not (is_child setups (1 + j))) (1 + j) (behavior_at j s e) 0
  unfolding behavior_at
  at_suc j s e = opens.start (suc j) (actor_at setups script (1 + j) s (behind j s e).own) (behind j s e).there

  me : (j : ℕ) (s : Setup) (e : slice_get setups j ≡ Some s) → who (behavior_at j s e) ≡ who_of (1 + j) s
  unfolding behavior_at
  me j s e = who_started (who_of (1 + j) s) s setups script (behind j s e).own s.kind (holds_at (CanStand (length setups + 1)) setups j s is.opens.each e).kind

  who_is : (j : ℕ) (s : Setup) → slice_get setups j ≡ Some s → who (k.start (suc j)).behavior ≡ who_of (1 + j) s
  who_is j s e = ap (λ (x : Snapshot Kind). who x.behavior) (at_suc j s e) ∙ me j s e

  valid_at : (j : ℕ) (s : Setup) (e : slice_get setups j ≡ Some s) → IsValid (behavior_at j s e)
  unfolding behavior_at
  valid_at j s e = holds_at IsKnown (actors_from setups script 1 setups files) j (actor_at setups script (1 + j) s (behind j s e).own) is.known.1 (behind j s e).there

  in_setups : (j : ℕ) → suc j < k.places → (s : Setup) × (slice_get setups j ≡ Some s)
  in_setups j low = (let count = opens.places in got_at setups j (omega (arith, low, count)))

  -- ---- children

  of_keeper : (p : ℕ) → list_any (keeps_place p) setups ≡ true → IsReserved kind_rules k.places k.start p
  of_keeper p e =
      let kept = keeper p setups e in
      let within = got_within setups kept.at kept.setup kept.stands in
      let count = opens.places in
      (suc kept.at, omega (arith, within, count), subst (λ (w : Who). Contains w.reserve p) (sym (who_is kept.at kept.setup kept.stands)) kept.has)

  to_keeper : (p : ℕ) → IsReserved kind_rules k.places k.start p → list_any (keeps_place p) setups ≡ true
  unfolding conductor
  to_keeper p (zero, low, has) = absurd (contains-none p (subst (λ (x : Snapshot Kind). Contains (who x.behavior).reserve p) at_0 has))
  to_keeper p (suc j, low, has) =
      let it = in_setups j low in
      kept_by p setups j it.0 it.1 (subst (λ (w : Who). Contains w.reserve p) (who_is j it.0 it.1) has)

  begun_if : (p : ℕ) → (not (is_child setups p) ≡ false) ↔ IsReserved kind_rules k.places k.start p
  begun_if p = (λ e. of_keeper p (was_true (list_any (keeps_place p) setups) e), λ kept. ap not (to_keeper p kept))
    where
      was_true : (b : Bool) → not b ≡ false → b ≡ true
      was_true true e = refl
      was_true false e = absurd cc

  spared_at : (j : ℕ) (s : Setup) → slice_get setups j ≡ Some s → Contains (s.peers ++ s.reserve) 0 → ⊥
  spared_at j s e = none_is_0 s.peers s.reserve (holds_at IsSpared setups j s is.spared e).peers (holds_at IsSpared setups j s is.spared e).reserve

  none_for_0 : IsReserved kind_rules k.places k.start 0 → ⊥
  none_for_0 kept =
      let by = keeper 0 setups (to_keeper 0 kept) in
      let low = one_of (λ p. 0 < p) by.setup.reserve 0 (holds_at IsSpared setups by.at by.setup is.spared by.stands).reserve by.has in
      absurd (omega (arith, low))

  -- ---- at each place

  record AtPlace (p : ℕ) : Type 0 where
    pub has_begun : Bool
    pub behavior : Kind
    pub start : k.start p ≡ fresh kind_rules has_begun p behavior 0
    pub begun : (has_begun ≡ false) ↔ IsReserved kind_rules k.places k.start p
    pub own : (who behavior).place ≡ p
    pub known : IsValid behavior
    pub targets : AllByRecursion (λ q. q < k.places) ((who behavior).peers ++ (who behavior).reserve)
    pub unnamed : Contains ((who behavior).peers ++ (who behavior).reserve) 0 → ⊥

  first_place : AtPlace 0
  unfolding conductor
  first_place =
      let count = opens.places in
      record {
        has_begun = true;
        behavior = kind.Conductor conductor;
        start = at_0;
        begun = (λ e. absurd cc, λ kept. absurd (none_for_0 kept));
        own = refl;
        known = is.known.0;
        targets = all_joined (λ q. q < k.places) (places_from 1 (length setups)) [] (places_below 1 (length setups) k.places (omega (arith, count))) tt;
        unnamed = none_is_0 (places_from 1 (length setups)) [] (places_up 1 (length setups) (omega arith)) tt;
      }

  later_place : (j : ℕ) (s : Setup) → slice_get setups j ≡ Some s → AtPlace (suc j)
  later_place j s e =
      let same : 1 + j ≡ suc j = omega arith in
      let stand = holds_at (CanStand (length setups + 1)) setups j s is.opens.each e in
      let count : length setups + 1 ≡ k.places = sym opens.places in
      record {
        has_begun = not (is_child setups (suc j));
        behavior = behavior_at j s e;
        start = at_suc j s e ∙ ap (λ (p : ℕ). fresh kind_rules (not (is_child setups p)) p (behavior_at j s e) 0) same;
        begun = begun_if (suc j);
        own = ap (λ (w : Who). w.place) (me j s e) ∙ same;
        known = valid_at j s e;
        targets = subst (λ (w : Who). AllByRecursion (λ q. q < k.places) (w.peers ++ w.reserve)) (sym (me j s e))
            (subst (λ (n : ℕ). AllByRecursion (λ q. q < n) (s.peers ++ s.reserve)) count
            (all_joined (λ q. q < length setups + 1) s.peers s.reserve stand.peers_below stand.reserve_below));
        unnamed = subst (λ (w : Who). Contains (w.peers ++ w.reserve) 0 → ⊥) (sym (me j s e)) (spared_at j s e);
      }

  each_place : (p : ℕ) → p < k.places → AtPlace p
  each_place zero low = first_place
  each_place (suc j) low = (let it = in_setups j low in later_place j it.0 it.1)

  -- ---- all of them

  abbrev IsFreshAt : ℕ → Snapshot Kind → Type 0
  IsFreshAt p x = x ≡ fresh kind_rules x.has_begun p x.behavior x.stamp

  begins_fresh : AreFresh IsValid kind_rules k.places k.start
  begins_fresh =
      let count = opens.places in
      let few = is.opens.few in
      record {
        few = omega (arith, count, few);
        fresh = λ p low. subst (IsFreshAt p) (sym (each_place p low).start) refl;
        begun = λ p low. subst (λ (x : Snapshot Kind). (x.has_begun ≡ false) ↔ IsReserved kind_rules k.places k.start p) (sym (each_place p low).start) (each_place p low).begun;
        place = λ p low. subst (λ (x : Snapshot Kind). (who x.behavior).place ≡ p) (sym (each_place p low).start) (each_place p low).own;
        known = λ p low. subst (λ (x : Snapshot Kind). IsValid x.behavior) (sym (each_place p low).start) (each_place p low).known;
        targets = λ p low. subst (λ (x : Snapshot Kind). AllByRecursion (λ q. q < k.places) ((who x.behavior).peers ++ (who x.behavior).reserve)) (sym (each_place p low).start) (each_place p low).targets;
      }

  begins_closed : ConductorCloses → IsCloser kind_rules k.places (λ p. (k.start p).behavior)
  unfolding conductor
  begins_closed closes =
      let count = opens.places in
      let others : length setups ≡ k.places - 1 = omega (arith, count) in
      closes k.places (λ p. (k.start p).behavior) conductor (record {
        first = ap (λ (x : Snapshot Kind). x.behavior) at_0;
        valid = is.known.0;
        peers = ap (places_from 1) others;
        unnamed = λ p low. subst (λ (x : Snapshot Kind). Contains ((who x.behavior).peers ++ (who x.behavior).reserve) 0 → ⊥) (sym (each_place p low).start) (each_place p low).unnamed;
      })

pub begins_well : ConductorCloses → OpeningIsFresh
begins_well closes setups script files k is opens = record { fresh = begins_fresh setups script files k is opens; closer = begins_closed setups script files k is opens closes }

-- Who is found under a name has a place among the setups, which are of the kinds that were found.
use Rattle.std.proofs.Common.{◌≡◌, ◌≢◌, ℕ, zero, suc, ◌+◌, ◌-◌, ◌<◌, ◌≤◌, Bool, true, false, cond, List, [], ◌∷◌, ◌++◌, length, Option, Some, None, codes, refl, sym, ap, subst, ◌∙◌, arith}
use Rattle.std.specs.Prelude.{slice_get, bytes_eq, unwrap_or}
use Rattle.std.specs.List.{AllByRecursion, range_with_len}
use Rattle.std.proofs.Math.Dec.{eqb-suc-zero}
use Rattle.std.proofs.lemmas.List.{length-map}
use Rattle.caf_kinds.specs.Kinds.{has_peers}
use Rattle.caf_kinds.specs.Setups.{setup_at}
use Rattle.caf_kinds.specs.declared.setup.KindName.{KindName}
use Rattle.caf_kinds.specs.declared.setup.KindName.TheVariants as name
use Rattle.caf_kinds.specs.declared.setup.Setup.{Setup}
use Rattle.caf_opening.specs.Opening.{CanStand}
use Rattle.caf_scenario.specs.declared.written.WrittenActor.{WrittenActor}
use Rattle.caf_scenario.specs.Actors.{Finder, kind_named, kind_of, named_from}
use Rattle.caf_scenario.specs.Many.{all_children}
use Rattle.caf_scenario.specs.Scenario.{place_in, place_of, setup_said, setups_said, children}
use Rattle.caf_typing.proofs.FaultLemmas.{all_to, all_mapped}

-- ---- kinds

chosen : (b : Bool) (k : KindName) (rest : Option KindName) → k ≢ name.Conductor → unwrap_or rest name.Calc ≢ name.Conductor
    → unwrap_or (cond b (Some k) rest) name.Calc ≢ name.Conductor
chosen true k rest this others = this
chosen false k rest this others = others

-- no text names the conductor's kind
other_kind : (text : List ℕ) → unwrap_or (kind_named text) name.Calc ≢ name.Conductor
other_kind text =
    chosen (bytes_eq text (codes "echo")) name.Echo _ (λ e. absurd cc) (
    chosen (bytes_eq text (codes "cell")) name.Cell _ (λ e. absurd cc) (
    chosen (bytes_eq text (codes "calc")) name.Calc _ (λ e. absurd cc) (
    chosen (bytes_eq text (codes "holder")) name.Holder _ (λ e. absurd cc) (
    chosen (bytes_eq text (codes "quitter")) name.Quitter _ (λ e. absurd cc) (
    chosen (bytes_eq text (codes "source")) name.Source _ (λ e. absurd cc) (
    chosen (bytes_eq text (codes "relay")) name.Relay _ (λ e. absurd cc) (
    chosen (bytes_eq text (codes "counter")) name.Counter _ (λ e. absurd cc) (
    chosen (bytes_eq text (codes "lines")) name.Lines _ (λ e. absurd cc) (
    chosen (bytes_eq text (codes "collector")) name.Collector _ (λ e. absurd cc) (
    chosen (bytes_eq text (codes "watcher")) name.Watcher _ (λ e. absurd cc) (
    chosen (bytes_eq text (codes "spawner")) name.Spawner _ (λ e. absurd cc) (
    chosen (bytes_eq text (codes "alarm")) name.Alarm None (λ e. absurd cc) (λ e. absurd cc)))))))))))))

-- ---- who is found

below_or_later : (place n : ℕ) (a : WrittenActor) (found : ℕ × KindName) (rest : Option (ℕ × KindName)) → (rest ≡ Some found → found.0 < (place + 1) + n)
    → (b : Bool) → cond b (Some (place, kind_of a)) rest ≡ Some found → found.0 < place + suc n
below_or_later place n a found rest later true e =
    let same : (place, kind_of a) ≡ found = cc in
    let at : place ≡ found.0 = ap (λ (f : ℕ × KindName). f.0) same in
    omega (arith, at)
below_or_later place n a found rest later false e = let below = later e in omega (arith, below)

pub named_below : (place : ℕ) (actors : List WrittenActor) (text : List ℕ) (found : ℕ × KindName) → named_from place actors text ≡ Some found
    → found.0 < place + length actors
named_below place [] text found h = absurd cc
named_below place (a ∷ others) text found h =
    below_or_later place (length others) a found (named_from (place + 1) others text) (named_below (place + 1) others text found) (bytes_eq a.name text) h

-- the setup of the actor that was found
pub record IsSetUp (setups : List Setup) (place : ℕ) (found : ℕ × KindName) : Type 0 where
  pub before : ℕ
  pub at : found.0 ≡ place + before
  pub setup : Setup
  pub stands : slice_get setups before ≡ Some setup
  pub kind : setup.kind ≡ found.1

up_or_later : (who : Finder) (place first : ℕ) (a : WrittenActor) (setups : List Setup) (found : ℕ × KindName) (rest : Option (ℕ × KindName))
    → (rest ≡ Some found → IsSetUp setups (place + 1) found) → (b : Bool) → cond b (Some (place, kind_of a)) rest ≡ Some found
    → IsSetUp (setup_said who first a ∷ setups) place found
up_or_later who place first a setups found rest later true e =
    let same : (place, kind_of a) ≡ found = cc in
    let at : place ≡ found.0 = ap (λ (f : ℕ × KindName). f.0) same in
    record { before = 0; at = omega (arith, at); setup = setup_said who first a; stands = refl; kind = ap (λ (f : ℕ × KindName). f.1) same }
up_or_later who place first a setups found rest later false e =
    let up = later e in
    let at = up.at in
    record { before = suc up.before; at = omega (arith, at); setup = up.setup; stands = up.stands; kind = up.kind }

pub named_setup : (who : Finder) (place first : ℕ) (actors : List WrittenActor) (text : List ℕ) (found : ℕ × KindName)
    → named_from place actors text ≡ Some found → IsSetUp (setups_said who first actors) place found
named_setup who place first [] text found h = absurd cc
named_setup who place first (a ∷ others) text found h =
    up_or_later who place first a (setups_said who (first + a.children) others) found (named_from (place + 1) others text)
    (named_setup who (place + 1) (first + a.children) others text found) (bytes_eq a.name text) h

in_front : (xs ys : List Setup) (i : ℕ) (s : Setup) → slice_get xs i ≡ Some s → slice_get (xs ++ ys) i ≡ Some s
in_front [] ys i s h = absurd cc
in_front (x ∷ xs) ys zero s h = h
in_front (x ∷ xs) ys (suc i) s h = in_front xs ys i s h

-- actors have the places from 1 on
pub at_suc : (setups : List Setup) (i : ℕ) → setup_at setups (suc i) ≡ slice_get setups i
at_suc setups i =
    let less : suc i - 1 ≡ i = omega arith in
    ap (λ (b : Bool). cond b None (slice_get setups (suc i - 1))) (eqb-suc-zero i) ∙ ap (slice_get setups) less

pub setup_found : (xs ys : List Setup) (found : ℕ × KindName) (up : IsSetUp xs 1 found) → setup_at (xs ++ ys) found.0 ≡ Some up.setup
setup_found xs ys found up =
    let at = up.at in
    let place : found.0 ≡ suc up.before = omega (arith, at) in
    ap (setup_at (xs ++ ys)) place ∙ at_suc (xs ++ ys) up.before ∙ in_front xs ys up.before up.setup up.stands

-- ---- who can stand there

pub range_below : (first n count : ℕ) → first + n ≤ count → AllByRecursion (λ p. p < count) (range_with_len first n)
range_below first zero count room = tt
range_below first (suc n) count room = (omega (arith, room), range_below (first + 1) n count (omega (arith, room)))

-- what an actor without faults is
pub record IsWhole (who : Finder) (a : WrittenActor) : Type 0 where
  pub counted : has_peers (kind_of a) (length a.peers) ≡ true
  pub peers : AllByRecursion (λ text. (found : ℕ × KindName) × (who text ≡ Some found)) a.peers

abbrev pub AreBelow : Finder → ℕ → Type 0
AreBelow who count = (text : List ℕ) (found : ℕ × KindName) → who text ≡ Some found → found.0 < count

peer_below : (who : Finder) (count : ℕ) → AreBelow who count → (text : List ℕ) → (found : ℕ × KindName) × (who text ≡ Some found) → place_of who text < count
peer_below who count below text found =
    subst (λ (o : Option (ℕ × KindName)). place_in o < count) (sym found.1) (below text found.0 found.1)

stands : (who : Finder) (count first : ℕ) (a : WrittenActor) → IsWhole who a → AreBelow who count → first + a.children ≤ count → CanStand count (setup_said who first a)
stands who count first a whole below room = record {
  kind = other_kind a.kind;
  peers = ap (has_peers (kind_of a)) (length-map a.peers (place_of who)) ∙ whole.counted;
  peers_below = all_mapped (place_of who) (λ p. p < count) a.peers
      (all_to (λ text. (found : ℕ × KindName) × (who text ≡ Some found)) (λ text. place_of who text < count) (peer_below who count below) a.peers whole.peers);
  reserve_below = range_below first a.children count room;
}

pub all_stand : (who : Finder) (count first : ℕ) (actors : List WrittenActor) → AllByRecursion (IsWhole who) actors → AreBelow who count
    → first + all_children actors ≤ count → AllByRecursion (CanStand count) (setups_said who first actors)
all_stand who count first [] whole below room = tt
all_stand who count first (a ∷ others) whole below room =
    (stands who count first a whole.0 below (omega (arith, room)), all_stand who count (first + a.children) others whole.1 below (omega (arith, room)))

pub children_stand : (count n : ℕ) → AllByRecursion (CanStand count) (children n)
children_stand count zero = tt
children_stand count (suc n) = (record { kind = λ e. absurd cc; peers = refl; peers_below = tt; reserve_below = tt }, children_stand count n)

-- ---- how many

pub length_said : (who : Finder) (first : ℕ) (actors : List WrittenActor) → length (setups_said who first actors) ≡ length actors
length_said who first [] = refl
length_said who first (a ∷ others) = ap suc (length_said who (first + a.children) others)

pub length_children : (n : ℕ) → length (children n) ≡ n
length_children zero = refl
length_children (suc n) = ap suc (length_children n)

-- Messages that are built of values, and what the steps of a script send.
use Rattle.std.proofs.Common.{◌≡◌, ℕ, zero, suc, ◌+◌, ◌-◌, ◌<◌, ◌≤◌, Bool, true, false, List, [], ◌∷◌, ◌++◌, length, map, take, get_or, replicate, Option, Some, None, Err, refl, sym, ap, subst, ◌∙◌, add-one, arith}
use Rattle.std.specs.Prelude.{◌==◌, slice_get, is_some, if◌then◌else◌, Contains}
use Rattle.std.specs.List.{AllByRecursion}
use Rattle.std.proofs.lemmas.List.{map-append, take_all, length-take-le}
use Rattle.std.proofs.Math.Seq.{take-suc, take-length}
use Rattle.caf_types.specs.ShapeTree.{ShapeTree}
use Rattle.caf_types.specs.Table.{shape_at}
use Rattle.caf_types.specs.declared.shape.TypeId.{TypeId}
use Rattle.caf_words.specs.Datum.{Datum, data_of, fits}
use Rattle.caf_words.specs.Value.{datum}
use Rattle.caf_words.specs.declared.value.Value.{Value}
use Rattle.caf_words.specs.Spelling.{spelling, spellings}
use Rattle.caf_words.specs.Several.{ids_of, several_fit}
use Rattle.caf_words.proofs.SeveralLemmas.{several_kept}
use Rattle.caf_message.specs.Content.{content_of}
use Rattle.caf_message.specs.Fits.{HaveShapes, Fits}
use Rattle.caf_message.specs.Builder.{Built, BuiltFits, built_content}
use Rattle.caf_message.proofs.ContentLemmas.{spellings-push}
use Rattle.caf_message.proofs.FitsLemmas.{length_shapes}
use Rattle.caf_message.specs.Answers.{LargeExactly}
use Rattle.caf_message.specs.declared.fault.MessageFault.{MessageFault}
use Rattle.caf_message.specs.declared.fault.MessageFault.TheVariants.{Large}
use Rattle.caf_kinds.specs.Core.{core}
use Rattle.caf_kinds.specs.Asking.{Types, type_ids, type_shapes}
use Rattle.caf_kinds.specs.Lawful.{IsSound}
use Rattle.caf_kinds.specs.Keeping.{first_of_and, second_of_and}
use Rattle.std.proofs.lemmas.List.Elements.{Contains-append_right}
use Rattle.std.proofs.lemmas.Bool.Decides.{nat_tests}
use Rattle.caf_kinds.specs.SendLaws.{contains_first}
use Rattle.caf_kinds.specs.Setups.{setup_at}
use Rattle.caf_kinds.specs.Starting.{IsThere, IsTyped, Takes}
use Rattle.caf_kinds.specs.declared.setup.Setup.{Setup}
use Rattle.caf_script.specs.Step as played
use Rattle.caf_script.specs.Reply.{Reply, Unsent}
use Rattle.caf_script.specs.Script.{no_script, planned}
use Rattle.caf_script.specs.declared.script.Script.{Script}
use Rattle.caf_kinds.specs.declared.script.Step.{Step}
use Rattle.caf_kinds.specs.Conductor.{MayPlay, IsPlan}
use Rattle.caf_kinds.specs.Planning.{content_for, places_from, planned_step, planned_from, script_of, PlannedSoFar, IsBuiltTo}

-- ---- the values of a message, one by one

-- the shape that one of the types has, which one of the values is of
pub record HasShape (t : TypeId) (v : Value) : Type 0 where
  pub shape : ShapeTree
  pub known : shape_at core t.0 ≡ Some shape
  pub fit : fits shape (datum v) ≡ true

pub shape_of : (types : List TypeId) (values : List Value) (shapes : List ShapeTree) → HaveShapes (shape_at core) (ids_of types) shapes → several_fit shapes (data_of (map datum values)) ≡ true
    → (i : ℕ) (t : TypeId) (v : Value) → i < length types → HasShape (get_or types i t) (get_or values i v)
shape_of [] values shapes known fit i t v within = absurd (omega (arith, within))
shape_of (x ∷ xs) values [] known fit i t v within = absurd cc
shape_of (x ∷ xs) [] (f ∷ fs) known fit i t v within = absurd cc
shape_of (x ∷ xs) (y ∷ ys) (f ∷ fs) known fit zero t v within = record { shape = f; known = (let head : shape_at core x.0 ≡ Some f = cc in head); fit = first_of_and (fits f (datum y)) (several_fit fs (data_of (map datum ys))) fit }
shape_of (x ∷ xs) (y ∷ ys) (f ∷ fs) known fit (suc i) t v within =
    let tails : map (shape_at core) (ids_of xs) ≡ map (λ (f : ShapeTree). Some f) fs = cc in
    shape_of xs ys fs tails (second_of_and (fits f (datum y)) (several_fit fs (data_of (map datum ys))) fit) i t v (omega (arith, within))

pub as_many : (types : List TypeId) (values : List Value) (shapes : List ShapeTree) → HaveShapes (shape_at core) (ids_of types) shapes → several_fit shapes (data_of (map datum values)) ≡ true → length values ≡ length types
as_many [] [] [] known fit = refl
as_many [] [] (f ∷ fs) known fit = absurd cc
as_many [] (y ∷ ys) [] known fit = absurd cc
as_many [] (y ∷ ys) (f ∷ fs) known fit = absurd cc
as_many (x ∷ xs) values [] known fit = absurd cc
as_many (x ∷ xs) [] (f ∷ fs) known fit = absurd cc
as_many (x ∷ xs) (y ∷ ys) (f ∷ fs) known fit =
    let tails : map (shape_at core) (ids_of xs) ≡ map (λ (f : ShapeTree). Some f) fs = cc in
    let rest = as_many xs ys fs tails (second_of_and (fits f (datum y)) (several_fit fs (data_of (map datum ys))) fit) in
    omega (arith, rest)

-- ---- the builder

pub built_none : (types : List TypeId) (values : List Value) (b : Built) → b.ids ≡ [] → b.words ≡ [] → IsBuiltTo 0 types values b
built_none types values b ids words = record {
  ids = ids;
  words = words;
  fits = record { values = []; shapes = []; have_shapes = ap (map (shape_at core)) ids; are_values = (refl, refl); words_are = words };
}

-- the first of all of them are all of them
pub built_all : (types : List TypeId) (values : List Value) (n : ℕ) (b : Built) → n ≡ length types → length values ≡ length types → IsBuiltTo n types values b → built_content b ≡ content_for types values
built_all types values n b all same built =
    let ids : b.ids ≡ ids_of types = built.ids ∙ ap ids_of (ap (λ (m : ℕ). take m types) all ∙ take-length types) in
    let words : b.words ≡ spellings (data_of (map datum values)) =
    built.words ∙ ap (λ (vs : List Value). spellings (data_of (map datum vs))) (ap (λ (m : ℕ). take m values) (all ∙ sym same) ∙ take-length values) in
    ap (λ (xs : List ℕ). length xs ∷ (xs ++ b.words)) ids ∙ ap (λ (ws : List ℕ). length (ids_of types) ∷ (ids_of types ++ ws)) words

pub built_more : (types : List TypeId) (values : List Value) (i : ℕ) (t : TypeId) (v : Value) (before after : Built) → i < length types → i < length values → IsBuiltTo i types values before
    → after.ids ≡ before.ids ++ (get_or types i t).0 ∷ [] → after.words ≡ before.words ++ spelling (datum (get_or values i v)) → BuiltFits (shape_at core) after
    → IsBuiltTo (i + 1) types values after
built_more types values i t v before after types_left values_left built ids words fits =
    let id = get_or types i t in
    let value = get_or values i v in
    subst (λ (n : ℕ). IsBuiltTo n types values after) (sym (add-one i))
    (record {
      ids = ids ∙ ap (λ (xs : List ℕ). xs ++ id.0 ∷ []) built.ids ∙ sym (map-append (λ (x : TypeId). x.0) (take i types) (id ∷ [])) ∙ sym (ap ids_of (take-suc types i t types_left));
      words = words ∙ ap (λ (ws : List ℕ). ws ++ spelling (datum value)) built.words
          ∙ sym (spellings-push (map datum (take i values)) (datum value))
          ∙ ap (λ (ds : List Datum). spellings (data_of ds)) (sym (map-append datum (take i values) (value ∷ [])) ∙ ap (map datum) (sym (take-suc values i v values_left)));
      fits = fits;
    })

pub built_message : (types these : List TypeId) (values those : List Value) (b : Built) → these ≡ types → those ≡ values → length values ≡ length types → IsBuiltTo (length these) these those b → built_content b ≡ content_for types values
built_message types these values those b e f same built =
    built_all types values (length these) b (ap length e) same
    (subst (λ (vs : List Value). IsBuiltTo (length these) types vs b) f (subst (λ (ts : List TypeId). IsBuiltTo (length these) ts those b) e built))

pub never_large : (A : Type 0) (fault : MessageFault) (content : List ℕ) → fault ≡ Large → LargeExactly {A = A} (Err fault) content → length content ≤ 4194304 → ⊥
never_large A fault content e large small =
    let over = subst (λ (f : MessageFault). LargeExactly {A = A} (Err f) content) e large in
    absurd (omega (arith, over, small))

-- ---- contents that fit the table

abbrev typed : List ℕ → List ShapeTree → Types
typed [] fs = []
typed (id ∷ ids) [] = []
typed (id ∷ ids) (f ∷ fs) = (id, f) ∷ typed ids fs

typed_ids : (ids : List ℕ) (fs : List ShapeTree) → length ids ≡ length fs → type_ids (typed ids fs) ≡ ids
typed_ids [] fs e = refl
typed_ids (id ∷ ids) [] e = absurd (omega (arith, e))
typed_ids (id ∷ ids) (f ∷ fs) e = ap (λ (xs : List ℕ). id ∷ xs) (typed_ids ids fs (omega (arith, e)))

typed_shapes : (ids : List ℕ) (fs : List ShapeTree) → length ids ≡ length fs → type_shapes (typed ids fs) ≡ fs
typed_shapes [] [] e = refl
typed_shapes [] (f ∷ fs) e = absurd (omega (arith, e))
typed_shapes (id ∷ ids) [] e = absurd (omega (arith, e))
typed_shapes (id ∷ ids) (f ∷ fs) e = ap (λ (xs : List ShapeTree). f ∷ xs) (typed_shapes ids fs (omega (arith, e)))

-- content that fits the table of the kinds is that of values of its types
pub sound_of : (words : List ℕ) → Fits (shape_at core) words → IsSound words
sound_of words fit =
    let fs = fit.means.shapes in
    let ids = typed_ids fit.ids fs (length_shapes (shape_at core) fit.ids fs fit.means.have_shapes) in
    let shapes = typed_shapes fit.ids fs (length_shapes (shape_at core) fit.ids fs fit.means.have_shapes) in
    let kept = several_kept fs fit.values (spellings fit.values) fit.means.are_values in (
      typed fit.ids fs,
      record {
        core = ap (map (shape_at core)) ids ∙ fit.means.have_shapes ∙ ap (map (λ (f : ShapeTree). Some f)) (sym shapes);
        values = fit.values;
        words_are = fit.means.words_are ∙ ap (λ (xs : List ℕ). content_of xs fit.values) (sym ids);
        fit = ap (λ (gs : List ShapeTree). several_fit gs fit.values) shapes ∙ kept.fits;
        range = kept.range;
      },
    )

-- ---- places

places_on : (p n : ℕ) → places_from p (suc n) ≡ places_from p n ++ (n + p) ∷ []
places_on p zero = ap (λ (q : ℕ). q ∷ []) (let same : p ≡ 0 + p = omega arith in same)
places_on p (suc n) = ap (λ (ps : List ℕ). p ∷ ps) (places_on (p + 1) n ∙ ap (λ (q : ℕ). places_from (p + 1) n ++ q ∷ []) (let same : n + (p + 1) ≡ suc n + p = omega arith in same))

pub places_more : (n : ℕ) → places_from 1 (n + 1) ≡ places_from 1 n ++ (n + 1) ∷ []
places_more n = ap (places_from 1) (add-one n) ∙ places_on 1 n

-- each of so many places, from that one on, is among them
pub has_place : (p n k : ℕ) → k < n → Contains (places_from p n) (k + p)
has_place p zero k within = absurd (omega (arith, within))
has_place p (suc n) zero within = subst (Contains (places_from p (suc n))) (let same : p ≡ 0 + p = omega arith in same) (contains_first p (places_from (p + 1) n))
has_place p (suc n) (suc k) within =
    subst (Contains (places_from p (suc n))) (let same : k + (p + 1) ≡ suc k + p = omega arith in same)
    (Contains-append_right (p ∷ []) (places_from (p + 1) n) (k + (p + 1)) (has_place (p + 1) n k (omega (arith, within))))

-- ---- receivers

in_range : {A : Type 0} (xs : List A) (k : ℕ) → is_some (slice_get xs k) ≡ true → k < length xs
in_range [] k e = absurd cc
in_range (x ∷ xs) zero e = omega arith
in_range (x ∷ xs) (suc k) e = let rest = in_range xs k e in omega (arith, rest)

there_some : (o : Option Setup) → IsThere o → is_some o ≡ true
there_some None there = absurd there
there_some (Some setup) there = refl

takes_there : (o : Option Setup) (types : List TypeId) → Takes o types → IsThere o
takes_there None types takes = takes
takes_there (Some setup) types takes = tt

-- an actor of the run is a peer of the conductor
pub is_peer : (places : List Setup) (to : ℕ) → IsThere (setup_at places to) → Contains (places_from 1 (length places)) to
is_peer places to there = go (to == 0) refl
  where
    go : (b : Bool) → (to == 0) ≡ b → Contains (places_from 1 (length places)) to
    go true q = let none : IsThere None = subst (λ (c : Bool). IsThere (if c then None else slice_get places (to - 1))) q there in absurd none
    go false q =
        let one : IsThere (slice_get places (to - 1)) = subst (λ (c : Bool). IsThere (if c then None else slice_get places (to - 1))) q there in
        let within = in_range places (to - 1) (there_some (slice_get places (to - 1)) one) in
        let same : (to - 1) + 1 ≡ to = grind (arith, nat_tests, q) in
        subst (Contains (places_from 1 (length places))) same (has_place 1 (length places) (to - 1) within)

-- what goes to an actor of the run, and is of the table's types
pub record IsSent (places : List Setup) (to : ℕ) (words : List ℕ) : Type 0 where
  pub peer : Contains (places_from 1 (length places)) to
  pub sound : IsSound words

pub is_sent : (places : List Setup) (to : ℕ) (types : List TypeId) (values : List Value) (words : List ℕ) → IsTyped places to types values → words ≡ content_for types values → IsSound (content_for types values) → IsSent places to words
is_sent places to types values words typed e sound = record {
  peer = is_peer places to (takes_there (setup_at places to) types typed.taken);
  sound = subst IsSound (sym e) sound;
}

-- ---- steps, one by one

planned_last : (places : List Setup) (n : ℕ) (xs : List Step) (x : Step) → planned_from places n (xs ++ x ∷ []) ≡ planned_from places n xs ++ planned_step places (length xs + n) x ∷ []
planned_last places n [] x = ap (λ (m : ℕ). planned_step places m x ∷ []) (let same : n ≡ 0 + n = omega arith in same)
planned_last places n (y ∷ ys) x =
    ap (λ (ps : List played.Step). planned_step places n y ∷ ps)
    (planned_last places (n + 1) ys x ∙ ap (λ (m : ℕ). planned_from places (n + 1) ys ++ planned_step places m x ∷ []) (let same : length ys + (n + 1) ≡ suc (length ys) + n = omega arith in same))

unsent_last : {A : Type 0} (xs : List A) (x : A) → replicate (length (xs ++ x ∷ [])) Unsent ≡ replicate (length xs) Unsent ++ Unsent ∷ []
unsent_last [] x = refl
unsent_last (y ∷ ys) x = ap (λ (rs : List Reply). Unsent ∷ rs) (unsent_last ys x)

abbrev unplayed : List played.Step → List Reply → Script
unplayed plan replies = record { plan = plan; expected = []; replies = replies; ticks = 0; is_over = false }

script_last : (places : List Setup) (xs : List Step) (x : Step) → script_of places (xs ++ x ∷ []) ≡ planned (script_of places xs) (planned_step places (length xs + 1) x)
script_last places xs x =
    ap (λ (plan : List played.Step). unplayed plan (replicate (length (xs ++ x ∷ [])) Unsent)) (planned_last places 1 xs x)
    ∙ ap (unplayed (planned_from places 1 xs ++ planned_step places (length xs + 1) x ∷ [])) (unsent_last xs x)

all_and_last : {A : Type 0} (P : A → Type 0) (xs : List A) (x : A) → AllByRecursion P xs → P x → AllByRecursion P (xs ++ x ∷ [])
all_and_last P [] x all last = (last, tt)
all_and_last P (y ∷ ys) x all last = (all.0, all_and_last P ys x all.1 last)

pub planned_none : (places : List Setup) (steps : List Step) (s : Script) → s ≡ no_script → PlannedSoFar places steps 0 s
planned_none places steps s e = record { script = e; plan = subst (λ (t : Script). AllByRecursion (MayPlay (places_from 1 (length places))) t.plan) (sym e) tt }

pub planned_more : (places : List Setup) (steps : List Step) (n : ℕ) (d : Step) (s after : Script) (p : played.Step) → n < length steps → PlannedSoFar places steps n s
    → after ≡ planned s p → p ≡ planned_step places (n + 1) (get_or steps n d) → MayPlay (places_from 1 (length places)) p → PlannedSoFar places steps (n + 1) after
planned_more places steps n d s after p within so_far e step may =
    let first = take n steps in
    let long : length first ≡ n = length-take-le n steps (omega (arith, within)) in
    let all : take (n + 1) steps ≡ first ++ get_or steps n d ∷ [] = ap (λ (m : ℕ). take m steps) (add-one n) ∙ take-suc steps n d within in
    let last : p ≡ planned_step places (length first + 1) (get_or steps n d) = step ∙ ap (λ (m : ℕ). planned_step places (m + 1) (get_or steps n d)) (sym long) in
    record {
      script = e ∙ ap (λ (t : Script). planned t p) so_far.script ∙ ap (planned (script_of places first)) last ∙ sym (script_last places first (get_or steps n d)) ∙ sym (ap (script_of places) all);
      plan = subst (λ (t : Script). AllByRecursion (MayPlay (places_from 1 (length places))) t.plan) (sym e) (all_and_last (MayPlay (places_from 1 (length places))) s.plan p so_far.plan may);
    }

planned_length : (places : List Setup) (n : ℕ) (steps : List Step) → length (planned_from places n steps) ≡ length steps
planned_length places n [] = refl
planned_length places n (x ∷ xs) = ap suc (planned_length places (n + 1) xs)

-- all of them were planned
pub planned_all : (places : List Setup) (steps : List Step) (n : ℕ) (s : Script) → length steps ≤ n → length steps ≤ 1000 → PlannedSoFar places steps n s → (s ≡ script_of places steps) × IsPlan (places_from 1 (length places)) s.plan
planned_all places steps n s over few so_far =
    let same : s ≡ script_of places steps = so_far.script ∙ ap (script_of places) (take_all n steps over) in
    let long = ap (λ (t : Script). length t.plan) same ∙ planned_length places 1 steps in
    (same, record { steps = so_far.plan; few = omega (arith, long, few) })

pub one_of_all : {A : Type 0} (P : A → Type 0) (xs : List A) (n : ℕ) (d : A) → n < length xs → AllByRecursion P xs → P (get_or xs n d)
one_of_all P [] n d within all = absurd (omega (arith, within))
one_of_all P (x ∷ xs) zero d within all = all.0
one_of_all P (x ∷ xs) (suc n) d within all = one_of_all P xs n d (omega (arith, within)) all.1

pub places_length : (p n : ℕ) → length (places_from p n) ≡ n
places_length p zero = refl
places_length p (suc n) = ap suc (places_length (p + 1) n)

-- Reading the values of several types: what is read is spelled so, and how far a fault can lie.
use Rattle.std.proofs.Common.{◌≡◌, ℕ, zero, suc, ◌+◌, ◌-◌, ◌<◌, ◌≤◌, ltb, eqb, cond, Bool, true, false, List, [], ◌∷◌, ◌++◌, length, take, drop, get_or, Option, Some, None, Result, Ok, Err, refl, sym, ap, subst, ◌∙◌, arith}
use Rattle.std.specs.Prelude.{is_some}
use Rattle.std.specs.Int.{w64, cast_signed}
use Rattle.std.specs.Option.{option_map}
use Rattle.std.specs.Str.{is_utf8}
use Rattle.std.proofs.lemmas.List.{length-drop, append-nil, drop_more}
use Rattle.caf_types.specs.ShapeTree.{ShapeTree, unit, flag, unsigned, signed, text, bytes, place, list, object, Parts, no_parts, part, count_parts}
use Rattle.caf_types.specs.Table.{Table, Named, shape_at, shape_in, type_at, type_in, numbered, or_else, with_block}
use Rattle.caf_types.specs.declared.shape.TypeId.{TypeId}
use Rattle.caf_words.specs.Datum.{Datum, a_text, some_bytes, a_list, an_object, an_unsigned, a_signed, Data, no_data, more, fits, is_none, are_in_range}
use Rattle.caf_words.specs.Spelling.{Spells, spellings, words_for}
use Rattle.caf_words.specs.Reading.{Got, ◌>>=◌, first_of, taken, one_word, unit_in, flag_in, place_in, are_zeros, bytes_in, unpacked, bytes_at, text_at, some_bytes_at, then_more, many, list_at, fields_after, object_at, reading, each_reading}
use Rattle.caf_words.specs.Several.{ids_of, several, several_fit, SeveralSpell, joined, shapes_at, ShapesSpell, TypesSpell, shapes_reading, ended, whole_reading}
use Rattle.caf_types.proofs.TableLemmas.{type_joins, map_or_else}
use Rattle.caf_words.proofs.PackingLemmas.{AreWords}
use Rattle.caf_words.proofs.RangeLemmas.{is_spelled, is_kept, none_spelled, first_spelled, first_kept, AreKept, AllKeep}
use Rattle.caf_words.proofs.SpellingLemmas.{Takes, is_sound, is_read, more_sound, more_again, bind_ok, ok_is, pair_is, got}

pub several_sound : (fs : List ShapeTree) (ws : List ℕ) (ds : Data) (rest : List ℕ) → AreWords ws → several fs ws ≡ Ok (ds, rest) → Takes (SeveralSpell fs) ws ds rest
several_sound [] ws ds rest h e = subst (λ (x : Data × List ℕ). Takes (SeveralSpell []) ws x.0 x.1) (ok_is (no_data, ws) (ds, rest) e) (record { front = []; spells = (refl, refl); parts = refl; rest_words = h })
several_sound (f ∷ fs) ws ds rest h e =
    more_sound (Spells f) (SeveralSpell fs) (SeveralSpell (f ∷ fs)) (reading f) (several fs) (is_sound f) (several_sound fs) (λ d ds a b p q. (d, ds, refl, a, b, p, q, refl)) ws ds rest h e

pub several_again : (fs : List ShapeTree) (ds : Data) (front rest : List ℕ) → SeveralSpell fs ds front → several fs (front ++ rest) ≡ Ok (ds, rest)
several_again [] ds front rest s = rw (s.0, s.1) refl
several_again (f ∷ fs) ds front rest s =
    subst (λ (x : Data × List ℕ). several (f ∷ fs) (x.1 ++ rest) ≡ Ok (x.0, rest)) (pair_is s.2 s.7)
    (more_again s.0 s.1 s.3 s.4 rest (reading f) (several fs) (is_read f s.0 s.3 (s.4 ++ rest) s.5) (several_again fs s.1 s.4 rest s.6))

-- ---- the whole of the words

abbrev all : Data → Result Data ℕ
all ds = Ok ds

ended_ok : (ds : Data) (rest : List ℕ) (es : Data) → ended ds rest ≡ Ok es → (ds ≡ es) × (rest ≡ [])
ended_ok ds [] es e = (ok_is ds es e, refl)
ended_ok ds (w ∷ ws) es e = absurd cc

shapes_sound : (o : Option (List ShapeTree)) (ws : List ℕ) (ds : Data) → AreWords ws → (shapes_reading o ws >>= λ x. ended x.0 x.1) ≡ Ok ds → ShapesSpell o ds ws
shapes_sound None ws ds h e = absurd cc
shapes_sound (Some fs) ws ds h e =
    let b = bind_ok (several fs ws) (λ x. ended x.0 x.1) ds e in
    let n = ended_ok b.0.0 b.0.1 ds b.2 in
    let t = several_sound fs ws b.0.0 b.0.1 h b.1 in
    let same : ws ≡ t.front = t.parts ∙ ap (λ (r : List ℕ). t.front ++ r) n.1 ∙ append-nil t.front in
    subst (λ es. SeveralSpell fs es ws) n.0 (subst (λ vs. SeveralSpell fs b.0.0 vs) (sym same) t.spells)

pub whole_sound : (t : Table) (ids ws : List ℕ) (ds : Data) → AreWords ws → whole_reading t ids ws ≡ Ok ds → TypesSpell t ids ds ws
whole_sound t ids ws ds h e = shapes_sound (shapes_at t ids) ws ds h e

shapes_again : (o : Option (List ShapeTree)) (ws : List ℕ) (ds : Data) → ShapesSpell o ds ws → (shapes_reading o ws >>= λ x. ended x.0 x.1) ≡ Ok ds
shapes_again None ws ds s = absurd s
shapes_again (Some fs) ws ds s =
    let e : several fs ws ≡ Ok (ds, []) = subst (λ vs. several fs vs ≡ Ok (ds, [])) (append-nil ws) (several_again fs ds ws [] s) in
    rw e refl

pub whole_again : (t : Table) (ids ws : List ℕ) (ds : Data) → TypesSpell t ids ds ws → whole_reading t ids ws ≡ Ok ds
whole_again t ids ws ds s = shapes_again (shapes_at t ids) ws ds s

differ : (ds : Data) (n : ℕ) → all ds ≡ Err n → ⊥
differ ds n e = cc

-- where a fault lies, no values have the words as their spellings
pub no_values : (t : Table) (ids ws : List ℕ) (left : ℕ) → whole_reading t ids ws ≡ Err left → (ds : Data) → TypesSpell t ids ds ws → ⊥
no_values t ids ws left e ds s = differ ds left (sym (whole_again t ids ws ds s) ∙ e)

-- ---- a fault lies within the words or at their end

abbrev left : {A : Type 0} → Got A → ℕ
left (Ok x) = length x.1
left (Err n) = n

abbrev IsBound : {A : Type 0} → (List ℕ → Got A) → Type 0
IsBound {A} read = (ws : List ℕ) → left (read ws) ≤ length ws

bind_bound : {A B : Type 0} (r : Got A) (f : A × List ℕ → Got B) (m : ℕ) → left r ≤ m → ((x : A × List ℕ) → length x.1 ≤ m → left (f x) ≤ m) → left (r >>= f) ≤ m
bind_bound (Ok x) f m le h = h x le
bind_bound (Err n) f m le h = le

first_bound : IsBound first_of
first_bound [] = omega arith
first_bound (w ∷ ws) = omega arith

taken_bound : (o : Option Datum) (ws rest : List ℕ) → length rest ≤ length ws → left (taken o ws rest) ≤ length ws
taken_bound None ws rest le = omega arith
taken_bound (Some d) ws rest le = le

word_bound : (meaning : ℕ → Option Datum) → IsBound (one_word meaning)
word_bound meaning ws = bind_bound (first_of ws) (λ x. taken (meaning x.0) ws x.1) (length ws) (first_bound ws) (λ x le. taken_bound (meaning x.0) ws x.1 le)

zeros_bound : (b : Bool) (bs : List ℕ) (k m : ℕ) (rest : List ℕ) → length rest ≤ m → 0 < k → left (cond b (Ok (bs, rest)) (Err (m + 1 - k))) ≤ m
zeros_bound true bs k m rest le lt = le
zeros_bound false bs k m rest le lt = omega arith

guard_bound : {A : Type 0} (b : Bool) (r : Got A) (m : ℕ) → left r ≤ m → left (cond b (Err 0) r) ≤ m
guard_bound true r m le = omega arith
guard_bound false r m le = le

none_left : (n : ℕ) → are_zeros (drop n []) ≡ true
none_left zero = refl
none_left (suc n) = refl

unpacked_bound : (n k : ℕ) → IsBound (unpacked n k)
unpacked_bound n zero ws =
    let le : length ws ≤ length ws = omega arith in
    let bs : List ℕ = take n [] in
    guard_bound (ltb (length ws) 0) (cond (are_zeros (drop n [])) (got bs ws) (Err (length ws + 1 - 0))) (length ws)
    (subst (λ b. left (cond b (got bs ws) (Err (length ws + 1 - 0))) ≤ length ws) (sym (none_left n)) le)
unpacked_bound n (suc k) ws =
    let vs : List ℕ = take (suc k) ws in
    guard_bound (ltb (length ws) (suc k)) (cond (are_zeros (drop n (bytes_in vs))) (Ok (take n (bytes_in vs), drop (suc k) ws)) (Err (length ws + 1 - suc k))) (length ws)
    (zeros_bound (are_zeros (drop n (bytes_in vs))) (take n (bytes_in vs)) (suc k) (length ws) (drop (suc k) ws) (omega (arith, length-drop (suc k) ws)) (omega arith))

within : {A : Type 0} (read : List ℕ → Got A) (ws : List ℕ) (m : ℕ) → IsBound read → length ws ≤ m → left (read ws) ≤ m
within read ws m b le = let h = b ws in omega (arith, h, le)

bytes_bound : IsBound bytes_at
bytes_bound ws = bind_bound (first_of ws) (λ x. unpacked x.0 (words_for x.0) x.1) (length ws) (first_bound ws) (λ x le. within (unpacked x.0 (words_for x.0)) x.1 (length ws) (unpacked_bound x.0 (words_for x.0)) le)

chosen_bound : {A : Type 0} (b : Bool) (r : Got A) (m : ℕ) → left r ≤ m → left (cond b r (Err m)) ≤ m
chosen_bound true r m le = le
chosen_bound false r m le = omega arith

text_bound : IsBound text_at
text_bound ws = bind_bound (bytes_at ws) (λ x. cond (is_utf8 x.0) (Ok (a_text x.0, x.1)) (Err (length ws))) (length ws) (bytes_bound ws) (λ x le. chosen_bound (is_utf8 x.0) (Ok (a_text x.0, x.1)) (length ws) le)

some_bytes_bound : IsBound some_bytes_at
some_bytes_bound ws = bind_bound (bytes_at ws) (λ x. Ok (some_bytes x.0, x.1)) (length ws) (bytes_bound ws) (λ x le. le)

more_bound : (read : List ℕ → Got Datum) (others : List ℕ → Got Data) → IsBound read → IsBound others → IsBound (λ ws. then_more (read ws) others)
more_bound read others b c ws =
    bind_bound (read ws) (λ x. others x.1 >>= λ y. Ok (more x.0 y.0, y.1)) (length ws) (b ws)
    (λ x le. bind_bound (others x.1) (λ y. Ok (more x.0 y.0, y.1)) (length ws) (within others x.1 (length ws) c le) (λ y k. k))

many_bound : (read : List ℕ → Got Datum) → IsBound read → (n : ℕ) → IsBound (many read n)
many_bound read b zero ws = omega arith
many_bound read b (suc n) ws = more_bound read (many read n) b (many_bound read b n) ws

list_bound : (items : ℕ → List ℕ → Got Data) → ((n : ℕ) → IsBound (items n)) → IsBound (list_at items)
list_bound items b ws =
    bind_bound (first_of ws) (λ n. items n.0 n.1 >>= λ x. Ok (a_list x.0, x.1)) (length ws) (first_bound ws)
    (λ n le. bind_bound (items n.0 n.1) (λ x. Ok (a_list x.0, x.1)) (length ws) (within (items n.0) n.1 (length ws) (b n.0) le) (λ x k. k))

after_bound : (b : Bool) (fields : List ℕ → Got Data) → IsBound fields → (ws rest : List ℕ) → length rest ≤ length ws → left (fields_after b fields ws rest) ≤ length ws
after_bound false fields h ws rest le = omega arith
after_bound true fields h ws rest le = bind_bound (fields rest) (λ x. Ok (an_object x.0, x.1)) (length ws) (within fields rest (length ws) h le) (λ x k. k)

object_bound : (n : ℕ) (fields : List ℕ → Got Data) → IsBound fields → IsBound (object_at n fields)
object_bound n fields h ws =
    bind_bound (first_of ws) (λ x. fields_after (eqb x.0 n) fields ws x.1) (length ws) (first_bound ws) (λ x le. after_bound (eqb x.0 n) fields h ws x.1 le)

mutual
  pub is_bound : (f : ShapeTree) → IsBound (reading f)
  is_bound unit = word_bound unit_in
  is_bound flag = word_bound flag_in
  is_bound unsigned = word_bound (λ w. Some (an_unsigned w))
  is_bound signed = word_bound (λ w. Some (a_signed (cast_signed w64 w)))
  is_bound text = text_bound
  is_bound bytes = some_bytes_bound
  is_bound place = word_bound place_in
  is_bound (list f) = list_bound (many (reading f)) (many_bound (reading f) (is_bound f))
  is_bound (object ps) = object_bound (count_parts ps) (each_reading ps) (parts_bound ps)

  parts_bound : (ps : Parts) → IsBound (each_reading ps)
  parts_bound no_parts = λ ws. omega arith
  parts_bound (part n f ps) = more_bound (reading f) (each_reading ps) (is_bound f) (parts_bound ps)

several_bound : (fs : List ShapeTree) → IsBound (several fs)
several_bound [] = λ ws. omega arith
several_bound (f ∷ fs) = more_bound (reading f) (several fs) (is_bound f) (several_bound fs)

ended_bound : (r : Got Data) (m : ℕ) → left r ≤ m → (n : ℕ) → (r >>= λ x. ended x.0 x.1) ≡ Err n → n ≤ m
ended_bound (Err k) m le n e = let same : k ≡ n = cc in omega (arith, same, le)
ended_bound (Ok x) m le n e = rest_bound x.0 x.1 m le n e
  where
    rest_bound : (ds : Data) (rest : List ℕ) (m : ℕ) → length rest ≤ m → (n : ℕ) → ended ds rest ≡ Err n → n ≤ m
    rest_bound ds [] m le n e = absurd cc
    rest_bound ds (w ∷ ws) m le n e = let same : length (w ∷ ws) ≡ n = cc in omega (arith, same, le)

shapes_bound : (o : Option (List ShapeTree)) (ws : List ℕ) → left (shapes_reading o ws) ≤ length ws
shapes_bound None ws = omega arith
shapes_bound (Some fs) ws = several_bound fs ws

pub whole_bound : (t : Table) (ids ws : List ℕ) (n : ℕ) → whole_reading t ids ws ≡ Err n → n ≤ length ws
whole_bound t ids ws n e = ended_bound (shapes_reading (shapes_at t ids) ws) (length ws) (shapes_bound (shapes_at t ids) ws) n e

-- ---- the walk over types

pub record Step (o : Option ShapeTree) (os : Option (List ShapeTree)) (ws : List ℕ) : Type 0 where
  pub shape : ShapeTree
  pub here : o ≡ Some shape
  pub others : is_some os ≡ true
  pub reads : shapes_reading (joined o os) ws ≡ then_more (reading shape ws) (shapes_reading os)

pub shapes_step : (o : Option ShapeTree) (os : Option (List ShapeTree)) (ws : List ℕ) → is_some (joined o os) ≡ true → Step o os ws
shapes_step None os ws h = absurd cc
shapes_step (Some f) None ws h = absurd cc
shapes_step (Some f) (Some fs) ws h = record { shape = f; here = refl; others = refl; reads = refl }

pub record TypeStep (t : Table) (ids : List TypeId) (i : ℕ) (d : TypeId) (ws : List ℕ) : Type 0 where
  pub shape : ShapeTree
  pub here : shape_at t (get_or ids i d).0 ≡ Some shape
  pub others : is_some (shapes_at t (ids_of (drop (i + 1) ids))) ≡ true
  pub reads : shapes_reading (shapes_at t (ids_of (drop i ids))) ws ≡ then_more (reading shape ws) (shapes_reading (shapes_at t (ids_of (drop (i + 1) ids))))

pub type_step : (t : Table) (ids : List TypeId) (i : ℕ) (d : TypeId) (ws : List ℕ) → i < length ids → is_some (shapes_at t (ids_of (drop i ids))) ≡ true → TypeStep t ids i d ws
type_step t ids i d ws lt h =
    let e : drop i ids ≡ get_or ids i d ∷ drop (i + 1) ids = drop_more ids i d lt in
    let s = shapes_step (shape_at t (get_or ids i d).0) (shapes_at t (ids_of (drop (i + 1) ids))) ws (subst (λ (xs : List TypeId). is_some (shapes_at t (ids_of xs)) ≡ true) e h) in
    record { shape = s.shape; here = s.here; others = s.others; reads = ap (λ (xs : List TypeId). shapes_reading (shapes_at t (ids_of xs)) ws) e ∙ s.reads }

-- ---- what fits several shapes is spelled, and nothing else

pub several_spelled : (fs : List ShapeTree) (ds : Data) → several_fit fs ds ≡ true → are_in_range ds ≡ true → SeveralSpell fs ds (spellings ds)
several_spelled [] = λ ds e r. none_spelled ds e
several_spelled (f ∷ fs) = first_spelled (fits f) (several_fit fs) (Spells f) (SeveralSpell fs) (is_spelled f) (several_spelled fs)

pub several_kept : (fs : List ShapeTree) → AreKept (several_fit fs) (SeveralSpell fs)
several_kept [] = λ ds ws s. subst (λ xs. AllKeep is_none xs ws) (sym s.0) (record { fits = refl; range = refl; words = s.1 })
several_kept (f ∷ fs) = first_kept (fits f) (several_fit fs) (Spells f) (SeveralSpell fs) (is_kept f) (several_kept fs)

-- ---- types stay

joined_both : (o : Option ShapeTree) (os : Option (List ShapeTree)) (fs : List ShapeTree) → joined o os ≡ Some fs → (f : ShapeTree) × (gs : List ShapeTree) × (o ≡ Some f) × (os ≡ Some gs) × (joined (Some f) (Some gs) ≡ Some fs)
joined_both None os fs e = absurd cc
joined_both (Some f) None fs e = absurd cc
joined_both (Some f) (Some gs) fs e = (f, gs, refl, refl, e)

shape_stays : (t : Table) (first : ℕ) (ns : List Named) (id : ℕ) (f : ShapeTree) → shape_at t id ≡ Some f → option_map (λ (n : Named). n.shape) (type_at (t.types ++ numbered first ns) id) ≡ Some f
shape_stays t first ns id f e =
    ap (option_map (λ (n : Named). n.shape)) (type_joins t.types first id ns) ∙ map_or_else (λ (n : Named). n.shape) (type_at t.types id) (type_in first ns id)
    ∙ ap (λ (o : Option ShapeTree). or_else o (shape_in first ns id)) e

pub types_stay : (t : Table) (block : List ℕ) (first : ℕ) (ns : List Named) (ids : List ℕ) (fs : List ShapeTree) → shapes_at t ids ≡ Some fs → shapes_at (with_block t block first ns) ids ≡ Some fs
types_stay t block first ns [] fs e = e
types_stay t block first ns (id ∷ ids) fs e =
    let p = joined_both (shape_at t id) (shapes_at t ids) fs e in
    rw (shape_stays t first ns id p.0 p.2, types_stay t block first ns ids p.1 p.3) p.4

-- What is read is spelled so, and what is spelled so is read, whatever follows it.
use Rattle.std.proofs.Common.{◌≡◌, ℕ, zero, suc, ◌+◌, ◌^◌, ◌<◌, Bool, true, false, cond, eqb, ltb, List, [], ◌∷◌, ◌++◌, length, Option, Some, None, Result, Ok, Err, refl, sym, ap, subst, ◌∙◌, append_assoc, eq-eqb, arith, ℤ, rules}
use Rattle.std.proofs.Math.Facts.{eqb_yes}
use Rattle.std.proofs.lemmas.Int.{ints, to_z-of_z, of_z-to_z}
use Rattle.std.specs.Int.{w64, cast_signed, cast_unsigned}
use Rattle.std.specs.Int.RustNames.{FitsSigned}
use Rattle.std.specs.Str.{is_utf8}
use Rattle.std.proofs.lemmas.Bool.{ltb-true, lt-ltb}
use Rattle.std.proofs.lemmas.Str.{IsUtf8-from_is_utf8, is_utf8-from_IsUtf8}
use Rattle.std.proofs.lemmas.List.{append_cancel_right}
use Rattle.caf_types.specs.ShapeTree.{ShapeTree, unit, flag, unsigned, signed, text, bytes, place, list, object, Parts, no_parts, part, count_parts}
use Rattle.caf_words.specs.Datum.{Datum, a_unit, a_flag, an_unsigned, a_signed, a_text, some_bytes, a_place, a_list, an_object, Data, no_data, more, count}
use Rattle.caf_words.specs.Spelling.{words_for, packed, packed_in, bit, AreBytes, Spells, EachSpells, PartsSpell}
use Rattle.caf_words.specs.Reading.{Got, ◌>>=◌, first_of, taken, one_word, unit_in, flag_in, place_in, bytes_at, unpacked, text_at, some_bytes_at, then_more, many, list_at, fields_after, object_at, reading, each_reading}
use Rattle.caf_words.proofs.PackingLemmas.{AreWords, unpack_sound, unpack_again}

pub bind_ok : {A B : Type 0} (r : Result A ℕ) (f : A → Result B ℕ) (y : B) → (r >>= f) ≡ Ok y → (x : A) × (r ≡ Ok x) × (f x ≡ Ok y)
bind_ok (Ok x) f y e = (x, refl, e)
bind_ok (Err d) f y e = absurd cc

abbrev pub got : {D : Type 0} → D → List ℕ → Got D
got d ws = Ok (d, ws)

abbrev pub done : {A : Type 0} → A → Result A ℕ
done x = Ok x

pub ok_is : {A : Type 0} (x y : A) → done x ≡ done y → x ≡ y
ok_is x y e = cc

-- what was taken from the front of words
pub record Takes {D : Type 0} (S : D → List ℕ → Type 0) (ws : List ℕ) (d : D) (rest : List ℕ) : Type 0 where
  pub front : List ℕ
  pub spells : S d front
  pub parts : ws ≡ front ++ rest
  pub rest_words : AreWords rest

abbrev pub Sound : {D : Type 0} → (D → List ℕ → Type 0) → (List ℕ → Got D) → Type 0
Sound {D} S read = (ws : List ℕ) (d : D) (rest : List ℕ) → AreWords ws → read ws ≡ Ok (d, rest) → Takes S ws d rest

abbrev pub Again : {D : Type 0} → (D → List ℕ → Type 0) → (List ℕ → Got D) → Type 0
Again {D} S read = (d : D) (front rest : List ℕ) → S d front → read (front ++ rest) ≡ Ok (d, rest)

-- ---- one word

first_sound : (ws : List ℕ) (w : ℕ) (rest : List ℕ) → AreWords ws → first_of ws ≡ Ok (w, rest) → (ws ≡ w ∷ rest) × (w < 2 ^ 64) × AreWords rest
first_sound [] w rest h e = absurd cc
first_sound (v ∷ vs) w rest h e =
    let p = ok_is (v, vs) (w, rest) e in
    subst (λ (x : ℕ × List ℕ). ((v ∷ vs) ≡ (x.0 ∷ x.1)) × (x.0 < 2 ^ 64) × AreWords x.1) p (refl, h.0, h.1)

taken_ok : (o : Option Datum) (ws rest : List ℕ) (d : Datum) (rest' : List ℕ) → taken o ws rest ≡ Ok (d, rest') → (o ≡ Some d) × (rest ≡ rest')
taken_ok None ws rest d rest' e = absurd cc
taken_ok (Some c) ws rest d rest' e = let p = ok_is (c, rest) (d, rest') e in (ap (λ (q : Datum × List ℕ). Some q.0) p, ap (λ (q : Datum × List ℕ). q.1) p)

word_sound : (S : Datum → List ℕ → Type 0) (meaning : ℕ → Option Datum) → ((w : ℕ) (d : Datum) → w < 2 ^ 64 → meaning w ≡ Some d → S d (w ∷ [])) → Sound S (one_word meaning)
word_sound S meaning each ws d rest h e =
    let b = bind_ok (first_of ws) (λ x. taken (meaning x.0) ws x.1) (d, rest) e in
    let f = first_sound ws b.0.0 b.0.1 h b.1 in
    let t = taken_ok (meaning b.0.0) ws b.0.1 d rest b.2 in
    record { front = b.0.0 ∷ []; spells = each b.0.0 d f.1 t.0; parts = f.0 ∙ ap (λ (r : List ℕ). b.0.0 ∷ r) t.1; rest_words = subst AreWords t.1 f.2 }

unit_one : (w : ℕ) (d : Datum) → unit_in w ≡ Some d → (d ≡ a_unit) × (w ≡ 0)
unit_one zero d e = (cc, refl)
unit_one (suc w) d e = grind arith

flag_one : (w : ℕ) (d : Datum) → flag_in w ≡ Some d → (b : Bool) × (d ≡ a_flag b) × (w ≡ bit b)
flag_one zero d e = (false, cc, refl)
flag_one (suc zero) d e = (true, cc, refl)
flag_one (suc (suc w)) d e = absurd (grind arith)

go_place : (w : ℕ) (d : Datum) (b : Bool) → ltb w 256 ≡ b → cond b (Some (a_place w)) None ≡ Some d → (w < 256) × (d ≡ a_place w)
go_place w d true q e = (ltb-true _ _ q, cc)
go_place w d false q e = absurd cc

-- ---- texts and bytes

abbrev IsPacked : List ℕ → List ℕ → Type 0
IsPacked bs ws = AreBytes bs × (length bs < 2 ^ 64) × (ws ≡ length bs ∷ packed bs)

bytes_sound : Sound IsPacked bytes_at
bytes_sound ws bs rest h e =
    let b = bind_ok (first_of ws) (λ x. unpacked x.0 (words_for x.0) x.1) (bs, rest) e in
    let n = b.0.0 in
    let f = first_sound ws n b.0.1 h b.1 in
    let u = unpack_sound n (words_for n) b.0.1 bs rest f.2 (omega arith) b.2 in
    let whole : ws ≡ (length bs ∷ packed bs) ++ rest = f.0 ∙ subst (λ m. (n ∷ b.0.1) ≡ (m ∷ (packed_in (words_for m) bs ++ rest))) (sym u.len) (ap (λ (r : List ℕ). n ∷ r) u.parts) in
    record { front = length bs ∷ packed bs; spells = (u.bytes, omega (arith, u.len, f.1), refl); parts = whole; rest_words = u.rest_words }

bytes_again : Again IsPacked bytes_at
bytes_again bs front rest s = rw (s.2) (unpack_again (words_for (length bs)) bs rest s.0 (omega arith))

text_go : (x : List ℕ × List ℕ) (ws : List ℕ) (d : Datum) (rest : List ℕ) (b : Bool) → is_utf8 x.0 ≡ b → cond b (got (a_text x.0) x.1) (Err (length ws)) ≡ got d rest → (is_utf8 x.0 ≡ true) × (d ≡ a_text x.0) × (x.1 ≡ rest)
text_go x ws d rest true q e = let p = ok_is (a_text x.0, x.1) (d, rest) e in (q, sym (ap (λ (q : Datum × List ℕ). q.0) p), ap (λ (q : Datum × List ℕ). q.1) p)
text_go x ws d rest false q e = absurd cc

text_sound : Sound (Spells text) text_at
text_sound ws d rest h e =
    let b = bind_ok (bytes_at ws) (λ x. cond (is_utf8 x.0) (Ok (a_text x.0, x.1)) (Err (length ws))) (d, rest) e in
    let t = bytes_sound ws b.0.0 b.0.1 h b.1 in
    let g = text_go b.0 ws d rest (is_utf8 b.0.0) refl b.2 in
    record { front = t.front; spells = (b.0.0, t.spells.0, t.spells.1, IsUtf8-from_is_utf8 b.0.0 g.0, g.1, t.spells.2); parts = t.parts ∙ ap (λ (r : List ℕ). t.front ++ r) g.2; rest_words = subst AreWords g.2 t.rest_words }

some_bytes_sound : Sound (Spells bytes) some_bytes_at
some_bytes_sound ws d rest h e =
    let b = bind_ok (bytes_at ws) (λ x. Ok (some_bytes x.0, x.1)) (d, rest) e in
    let t = bytes_sound ws b.0.0 b.0.1 h b.1 in
    let g = ok_is (some_bytes b.0.0, b.0.1) (d, rest) b.2 in
    let same : b.0.1 ≡ rest = ap (λ (p : Datum × List ℕ). p.1) g in
    record { front = t.front; spells = (b.0.0, t.spells.0, t.spells.1, sym (ap (λ (p : Datum × List ℕ). p.0) g), t.spells.2); parts = t.parts ∙ ap (λ (r : List ℕ). t.front ++ r) same; rest_words = subst AreWords same t.rest_words }

-- ---- several

abbrev Several : (Datum → List ℕ → Type 0) → ℕ → Data → List ℕ → Type 0
Several S n ds ws = (count ds ≡ n) × EachSpells S ds ws

-- one and then others
pub more_sound : (S : Datum → List ℕ → Type 0) (T : Data → List ℕ → Type 0) (U : Data → List ℕ → Type 0) (read : List ℕ → Got Datum) (others : List ℕ → Got Data)
    → Sound S read → Sound T others → ((d : Datum) (ds : Data) (a b : List ℕ) → S d a → T ds b → U (more d ds) (a ++ b)) → Sound U (λ ws. then_more (read ws) others)
more_sound S T U read others s t joins ws ds rest h e =
    let b = bind_ok (read ws) (λ x. others x.1 >>= λ y. Ok (more x.0 y.0, y.1)) (ds, rest) e in
    let p = s ws b.0.0 b.0.1 h b.1 in
    let c = bind_ok (others b.0.1) (λ y. Ok (more b.0.0 y.0, y.1)) (ds, rest) b.2 in
    let q = t b.0.1 c.0.0 c.0.1 p.rest_words c.1 in
    subst (λ (x : Data × List ℕ). Takes U ws x.0 x.1) (ok_is (more b.0.0 c.0.0, c.0.1) (ds, rest) c.2) (record {
      front = p.front ++ q.front;
      spells = joins b.0.0 c.0.0 p.front q.front p.spells q.spells;
      parts = p.parts ∙ ap (λ (r : List ℕ). p.front ++ r) q.parts ∙ sym (append_assoc p.front q.front c.0.1);
      rest_words = q.rest_words;
    })

no_more_sound : (S : Datum → List ℕ → Type 0) (read : List ℕ → Got Datum) → Sound (Several S 0) (many read 0)
no_more_sound S read ws ds rest h e =
    subst (λ (x : Data × List ℕ). Takes (Several S 0) ws x.0 x.1) (ok_is (no_data, ws) (ds, rest) e) (record { front = []; spells = (refl, refl); parts = refl; rest_words = h })

many_sound : (S : Datum → List ℕ → Type 0) (read : List ℕ → Got Datum) → Sound S read → (n : ℕ) → Sound (Several S n) (many read n)
many_sound S read s zero = no_more_sound S read
many_sound S read s (suc n) = more_sound S (Several S n) (Several S (suc n)) read (many read n) s (many_sound S read s n) (λ d ds a b p q. (omega (arith, q.0), (a, b, p, q.1, refl)))

pub more_again : (d : Datum) (ds : Data) (a b rest : List ℕ) (read : List ℕ → Got Datum) (others : List ℕ → Got Data)
    → read (a ++ (b ++ rest)) ≡ Ok (d, b ++ rest) → others (b ++ rest) ≡ Ok (ds, rest) → then_more (read ((a ++ b) ++ rest)) others ≡ Ok (more d ds, rest)
more_again d ds a b rest read others p q = rw (append_assoc a b rest, p, q) refl

many_again : (S : Datum → List ℕ → Type 0) (read : List ℕ → Got Datum) → Again S read → (ds : Data) (front rest : List ℕ) → EachSpells S ds front → many read (count ds) (front ++ rest) ≡ Ok (ds, rest)
many_again S read g no_data front rest s = rw s refl
many_again S read g (more d ds) front rest s =
    let one = g d s.0 (s.1 ++ rest) s.2 in
    let others = many_again S read g ds s.1 rest s.3 in
    let k : suc (count ds) ≡ count ds + 1 = omega arith in
    subst (λ n. many read n (front ++ rest) ≡ Ok (more d ds, rest)) k (subst (λ (f : List ℕ). many read (suc (count ds)) (f ++ rest) ≡ Ok (more d ds, rest)) (sym s.4) (more_again d ds s.0 s.1 rest read (many read (count ds)) one others))

list_sound : (S : Datum → List ℕ → Type 0) (read : List ℕ → Got Datum) → Sound S read
    → Sound (λ d ws. (ds : Data) × (count ds < 2 ^ 64) × (d ≡ a_list ds) × (rest : List ℕ) × EachSpells S ds rest × (ws ≡ count ds ∷ rest)) (list_at (many read))
list_sound S read s ws d rest h e =
    let b = bind_ok (first_of ws) (λ n. many read n.0 n.1 >>= λ x. Ok (a_list x.0, x.1)) (d, rest) e in
    let n = b.0.0 in
    let f = first_sound ws n b.0.1 h b.1 in
    let c = bind_ok (many read n b.0.1) (λ x. Ok (a_list x.0, x.1)) (d, rest) b.2 in
    let m = many_sound S read s n b.0.1 c.0.0 c.0.1 f.2 c.1 in
    let g = ok_is (a_list c.0.0, c.0.1) (d, rest) c.2 in
    let same : c.0.1 ≡ rest = ap (λ (p : Datum × List ℕ). p.1) g in
    record {
      front = n ∷ m.front;
      spells = (c.0.0, omega (arith, m.spells.0, f.1), sym (ap (λ (p : Datum × List ℕ). p.0) g), m.front, m.spells.1, ap (λ k. k ∷ m.front) (sym m.spells.0));
      parts = f.0 ∙ ap (λ (r : List ℕ). n ∷ r) (m.parts ∙ ap (λ (r : List ℕ). m.front ++ r) same);
      rest_words = subst AreWords same m.rest_words;
    }

fields_ok : (b : Bool) (fields : List ℕ → Got Data) (ws r : List ℕ) (d : Datum) (rest : List ℕ) → fields_after b fields ws r ≡ Ok (d, rest) → (b ≡ true) × (x : Data × List ℕ) × (fields r ≡ Ok x) × (got (an_object x.0) x.1 ≡ got d rest)
fields_ok false fields ws r d rest e = absurd cc
fields_ok true fields ws r d rest e =
    let c = bind_ok (fields r) (λ x. Ok (an_object x.0, x.1)) (d, rest) e in
    (refl, c.0, c.1, c.2)

parts_count : (ps : Parts) (ds : Data) (ws : List ℕ) → PartsSpell ps ds ws → count ds ≡ count_parts ps
parts_count no_parts ds ws s = ap count s.0
parts_count (part n f ps) ds ws s = ap count s.2 ∙ (let h = parts_count ps s.1 s.4 s.6 in omega (arith, h))

eqb_is : (a b : ℕ) → eqb a b ≡ true → a ≡ b
eqb_is a b q = eqb_yes (rw q tt)

object_sound : (ps : Parts) → Sound (PartsSpell ps) (each_reading ps) → Sound (Spells (object ps)) (object_at (count_parts ps) (each_reading ps))
object_sound ps s ws d rest h e =
    let b = bind_ok (first_of ws) (λ x. fields_after (eqb x.0 (count_parts ps)) (each_reading ps) ws x.1) (d, rest) e in
    let n = b.0.0 in
    let f = first_sound ws n b.0.1 h b.1 in
    let c = fields_ok (eqb n (count_parts ps)) (each_reading ps) ws b.0.1 d rest b.2 in
    let x = c.1 in
    let g = ok_is (an_object x.0, x.1) (d, rest) c.3 in
    let m = s b.0.1 x.0 x.1 f.2 c.2 in
    let same : x.1 ≡ rest = ap (λ (p : Datum × List ℕ). p.1) g in
    let len : count x.0 ≡ n = parts_count ps x.0 m.front m.spells ∙ sym (eqb_is n (count_parts ps) c.0) in
    record {
      front = n ∷ m.front;
      spells = (x.0, omega (arith, len, f.1), sym (ap (λ (p : Datum × List ℕ). p.0) g), m.front, m.spells, ap (λ k. k ∷ m.front) (sym len));
      parts = f.0 ∙ ap (λ (r : List ℕ). n ∷ r) (m.parts ∙ ap (λ (r : List ℕ). m.front ++ r) same);
      rest_words = subst AreWords same m.rest_words;
    }

none_sound : Sound (PartsSpell no_parts) (each_reading no_parts)
none_sound ws ds rest h e = subst (λ (x : Data × List ℕ). Takes (PartsSpell no_parts) ws x.0 x.1) (ok_is (no_data, ws) (ds, rest) e) (record { front = []; spells = (refl, refl); parts = refl; rest_words = h })

flag_again : (b : Bool) (rest : List ℕ) → one_word flag_in (bit b ∷ rest) ≡ Ok (a_flag b, rest)
flag_again true rest = refl
flag_again false rest = refl

signed_fits : (w : ℕ) → w < 2 ^ 64 → FitsSigned w64 (cast_signed w64 w)
signed_fits w lt = search (rules, ints)

signed_back : (w : ℕ) → w < 2 ^ 64 → cast_unsigned w64 (cast_signed w64 w) ≡ w
signed_back w lt = of_z-to_z w64 w lt

signed_again : (z : ℤ) (rest : List ℕ) → FitsSigned w64 z → one_word (λ w. Some (a_signed (cast_signed w64 w))) (cast_unsigned w64 z ∷ rest) ≡ Ok (a_signed z, rest)
signed_again z rest h = ap (λ y. Ok (a_signed y, rest)) (to_z-of_z w64 z h)

place_again : (n : ℕ) (rest : List ℕ) → n < 256 → one_word place_in (n ∷ rest) ≡ Ok (a_place n, rest)
place_again n rest lt = rw (lt-ltb n 256 lt) refl

text_again : Again (Spells text) text_at
text_again d front rest s =
    let e = bytes_again s.0 front rest (s.1, s.2, s.5) in
    rw (e, is_utf8-from_IsUtf8 s.0 s.3, s.4) refl

some_bytes_again : Again (Spells bytes) some_bytes_at
some_bytes_again d front rest s = rw (bytes_again s.0 front rest (s.1, s.2, s.4), s.3) refl

list_again : (S : Datum → List ℕ → Type 0) (read : List ℕ → Got Datum) → Again S read → (ds : Data) (front rest : List ℕ) → EachSpells S ds front → list_at (many read) ((count ds ∷ front) ++ rest) ≡ Ok (a_list ds, rest)
list_again S read g ds front rest s = rw (many_again S read g ds front rest s) refl

object_again : (ps : Parts) → Again (PartsSpell ps) (each_reading ps) → (ds : Data) (front rest : List ℕ) → PartsSpell ps ds front → object_at (count_parts ps) (each_reading ps) ((count ds ∷ front) ++ rest) ≡ Ok (an_object ds, rest)
object_again ps g ds front rest s = rw (eq-eqb (count ds) (count_parts ps) (parts_count ps ds front s), g ds front rest s) refl

abbrev pub pair : Data → List ℕ → Data × List ℕ
pair ds ws = (ds, ws)

pub pair_is : {x y : Data} {a b : List ℕ} → x ≡ y → a ≡ b → pair y b ≡ pair x a
pair_is p q = cc

mutual
  pub is_sound : (f : ShapeTree) → Sound (Spells f) (reading f)
  is_sound unit = word_sound (Spells unit) unit_in (λ w d lt e. let p = unit_one w d e in (p.0, ap (λ v. v ∷ []) p.1))
  is_sound flag = word_sound (Spells flag) flag_in (λ w d lt e. let p = flag_one w d e in (p.0, p.1, ap (λ v. v ∷ []) p.2))
  is_sound unsigned = word_sound (Spells unsigned) (λ w. Some (an_unsigned w)) (λ w d lt e. (w, lt, cc, refl))
  is_sound signed = word_sound (Spells signed) (λ w. Some (a_signed (cast_signed w64 w))) (λ w d lt e. (cast_signed w64 w, signed_fits w lt, cc, ap (λ v. v ∷ []) (sym (signed_back w lt))))
  is_sound text = text_sound
  is_sound bytes = some_bytes_sound
  is_sound place = word_sound (Spells place) place_in (λ w d lt e. let p = go_place w d (ltb w 256) refl e in (w, p.0, p.1, refl))
  is_sound (list f) = list_sound (Spells f) (reading f) (is_sound f)
  is_sound (object ps) = object_sound ps (parts_sound ps)

  parts_sound : (ps : Parts) → Sound (PartsSpell ps) (each_reading ps)
  parts_sound no_parts = λ ws ds rest h e. none_sound ws ds rest h e
  parts_sound (part n f ps) = more_sound (Spells f) (PartsSpell ps) (PartsSpell (part n f ps)) (reading f) (each_reading ps) (is_sound f) (parts_sound ps) (λ d ds a b p q. (d, ds, refl, a, b, p, q, refl))

mutual
  pub is_read : (f : ShapeTree) → Again (Spells f) (reading f)
  is_read unit d front rest s = rw (s.0, s.1) refl
  is_read flag d front rest s = rw (s.1, s.2) (flag_again s.0 rest)
  is_read unsigned d front rest s = rw (s.2, s.3) refl
  is_read signed d front rest s = rw (s.2, s.3) (signed_again s.0 rest s.1)
  is_read text d front rest s = text_again d front rest s
  is_read bytes d front rest s = some_bytes_again d front rest s
  is_read place d front rest s = rw (s.2, s.3) (place_again s.0 rest s.1)
  is_read (list f) d front rest s = rw (s.2, s.5) (list_again (Spells f) (reading f) (is_read f) s.0 s.3 rest s.4)
  is_read (object ps) d front rest s = rw (s.2, s.5) (object_again ps (parts_read ps) s.0 s.3 rest s.4)

  parts_read : (ps : Parts) → Again (PartsSpell ps) (each_reading ps)
  parts_read no_parts ds front rest s = rw (s.0, s.1) refl
  parts_read (part n f ps) ds front rest s =
      subst (λ (x : Data × List ℕ). each_reading (part n f ps) (x.1 ++ rest) ≡ Ok (x.0, rest)) (pair_is s.2 s.7)
      (more_again s.0 s.1 s.3 s.4 rest (reading f) (each_reading ps) (is_read f s.0 s.3 (s.4 ++ rest) s.5) (parts_read ps s.1 s.4 rest s.6))

-- ---- what follows from the two

cancel : (a b : List ℕ) (rest : List ℕ) → a ++ rest ≡ b ++ rest → a ≡ b
cancel a b rest e = append_cancel_right a b rest e

-- no spelling of a shape begins another: the two are equal, and so are the values
pub one_spelling : (f : ShapeTree) (d e : Datum) (a b x y : List ℕ) → Spells f d a → Spells f e b → a ++ x ≡ b ++ y → (d ≡ e) × (x ≡ y) × (a ≡ b)
one_spelling f d e a b x y s t same =
    let p : got d x ≡ got e y = sym (is_read f d a x s) ∙ ap (reading f) same ∙ is_read f e b y t in
    let q = ok_is (d, x) (e, y) p in
    let rest : x ≡ y = ap (λ (z : Datum × List ℕ). z.1) q in
    (ap (λ (z : Datum × List ℕ). z.0) q, rest, cancel a b x (same ∙ ap (λ (r : List ℕ). b ++ r) (sym rest)))

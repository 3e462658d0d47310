-- What was written is read again.
use Rattle.std.proofs.Common.{◌≡◌, ℕ, zero, suc, ◌+◌, ◌-◌, ◌*◌, ◌/◌, ◌%◌, ◌^◌, ◌<◌, ◌≤◌, ◌||◌, eqb, eqb-true, eq-eqb, nat_lt, ltb-true, ltb-false, ℤ, pos, negsuc, Bool, true, false, List, [], ◌∷◌, ◌++◌, length, length-append, slice_index, flat_map, Some, Ok, Err, decimal, IsUtf8, refl, sym, ap, subst, ◌∙◌, append_assoc, append-nil, arith}
use lib.Signed.{mag}
use Rattle.std.proofs.lemmas.Fmt.{decimal_digit}
use Rattle.std.proofs.lemmas.Str.{is_utf8-from_IsUtf8}
use Rattle.hex.specs.Hex.{lower_digits, encode_lower, encode_with}
use Rattle.caf_types.specs.ShapeTree.{ShapeTree, unit, flag, unsigned, signed, text, bytes, place, list, object, Parts, no_parts, part}
use Rattle.caf_words.specs.Datum.{Datum, a_flag, a_signed, a_text, some_bytes, a_list, an_object, Data, no_data, more}
use Rattle.caf_words.specs.Reading.{Got}
use Rattle.caf_words.specs.Spelling.{AreBytes}
use Rattle.caf_text.specs.TextForm.{comma, colon, escape, is_escaped, joined, text_form, fields_text}
use Rattle.caf_text.specs.TextReading.{literal, number, nonzero, is_digit, signed_at, unquoted, digit_value, pair_value, values, values_or_none, reading, field_at, fields_at}
use Rattle.caf_text.specs.declared.quoted.Mark.TheVariants as marks
use Rattle.caf_text.proofs.DigitLemmas.{digit_back, sixteen}
use Rattle.caf_text.proofs.NumberLemmas.{NoDigit, nonzero_again}
use Rattle.caf_text.proofs.StopLemmas.{heads}
use Rattle.caf_text.proofs.Utf8Lemmas.{plain_escape, escaped_is}
use Rattle.caf_text.proofs.ValueLemmas.{IsValue, AreValues, AllAre}

abbrev got : {A : Type 0} → A → List ℕ → Got A
got x rest = Ok (x, rest)

literal_again : (xs rest : List ℕ) → literal xs (xs ++ rest) ≡ got tt rest
literal_again [] rest = refl
literal_again (x ∷ xs) rest = rw (eq-eqb x x refl) (literal_again xs rest)

-- ---- numbers

no_got : {A : Type 0} (n : ℕ) (x : A) (rest : List ℕ) → Err n ≡ got x rest → ⊥
no_got n x rest h = absurd cc

nonzero_number : (g n : ℕ) (cs rest : List ℕ) → nonzero g cs ≡ got n rest → number g cs ≡ got n rest
nonzero_number g n [] rest h = h
nonzero_number g n (c ∷ cs) rest h = go (eqb c 48) refl
  where
    go : (b : Bool) → eqb c 48 ≡ b → number g (c ∷ cs) ≡ got n rest
    go true q = absurd (no_got (length (48 ∷ cs)) n rest (subst (λ x. nonzero g (x ∷ cs) ≡ got n rest) (eqb-true _ _ q) h))
    go false q = rw q h

number_again : (g n : ℕ) → g < 2 ^ 64 → n ≤ g → (rest : List ℕ) → NoDigit rest → number g (decimal n ++ rest) ≡ got n rest
number_again g zero small high rest h = rw (decimal_digit 0 (omega arith)) refl
number_again g (suc n) small high rest h = nonzero_number g (suc n) (decimal (suc n) ++ rest) rest (nonzero_again g (suc n) small (omega arith) high rest h)

above_again : (g n : ℕ) (cs rest : List ℕ) → number (2 ^ 63 - 1) cs ≡ got n rest → signed_at cs ≡ got (a_signed (pos n)) rest
above_again g n [] rest h = absurd (no_got 0 n rest h)
above_again g n (c ∷ cs) rest h = go (eqb c 45) refl
  where
    go : (b : Bool) → eqb c 45 ≡ b → signed_at (c ∷ cs) ≡ got (a_signed (pos n)) rest
    go true q = absurd (no_got (length (45 ∷ cs)) n rest (subst (λ x. number (2 ^ 63 - 1) (x ∷ cs) ≡ got n rest) (eqb-true _ _ q) h))
    go false q = rw (q, h) refl

below_again : (n : ℕ) (rest : List ℕ) → n < 2 ^ 63 → NoDigit rest → signed_at ((45 ∷ decimal (suc n)) ++ rest) ≡ got (a_signed (negsuc n)) rest
below_again n rest lt h =
    let e : suc n - 1 ≡ n = omega arith in
    rw (nonzero_again (2 ^ 63) (suc n) (omega arith) (omega arith) (omega arith) rest h, e) refl

-- ---- texts

escaped_again : (b : ℕ) (ys bs : List ℕ) → is_escaped b ≡ true → b < 32 → unquoted (escape b ++ ys) marks.Text bs ≡ unquoted ys marks.Text (bs ++ b ∷ [])
escaped_again b ys bs e lt =
    rw (escaped_is b e) (go (nat_lt b 16) refl)
  where
    value : pair_value (digit_value (slice_index lower_digits (b / 16))) (digit_value (slice_index lower_digits (b % 16))) ≡ Some b
    value = let h : b / 16 < 16 = omega arith in let l : b % 16 < 16 = omega arith in let whole : b / 16 * 16 + b % 16 ≡ b = omega arith in rw (digit_back (b / 16) h, digit_back (b % 16) l) (ap (λ n. Some n) whole)

    at : (x : ℕ) → x ≡ slice_index lower_digits (b / 16) → (eqb x 48 || eqb x 49 || eqb x 55) ≡ true
        → unquoted (92 ∷ 120 ∷ x ∷ slice_index lower_digits (b % 16) ∷ ys) marks.Text bs ≡ unquoted ys marks.Text (bs ++ b ∷ [])
    at x is first = let v : pair_value (digit_value x) (digit_value (slice_index lower_digits (b % 16))) ≡ Some b = rw is value in rw (first, v, e) refl

    go : (t : Bool) → nat_lt b 16 ≡ t → unquoted (92 ∷ 120 ∷ slice_index lower_digits (b / 16) ∷ slice_index lower_digits (b % 16) ∷ ys) marks.Text bs ≡ unquoted ys marks.Text (bs ++ b ∷ [])
    go true q = let low : b < 16 = ltb-true _ _ q in let z : b / 16 ≡ 0 = omega arith in at (slice_index lower_digits (b / 16)) refl (rw z refl)
    go false q = let high : 16 ≤ b = ltb-false _ _ q in let z : b / 16 ≡ 1 = omega arith in at (slice_index lower_digits (b / 16)) refl (rw z refl)

byte_again : (b : ℕ) (ys bs : List ℕ) → unquoted (escape b ++ ys) marks.Text bs ≡ unquoted ys marks.Text (bs ++ b ∷ [])
byte_again b ys bs = go (eqb b 34) refl (eqb b 92) refl (eqb b 10) refl (nat_lt b 32) refl (eqb b 127) refl
  where
    go : (p : Bool) → eqb b 34 ≡ p → (q : Bool) → eqb b 92 ≡ q → (r : Bool) → eqb b 10 ≡ r → (l : Bool) → nat_lt b 32 ≡ l → (d : Bool) → eqb b 127 ≡ d → unquoted (escape b ++ ys) marks.Text bs ≡ unquoted ys marks.Text (bs ++ b ∷ [])
    go true e q f r g l h d i = subst (λ x. unquoted (escape x ++ ys) marks.Text bs ≡ unquoted ys marks.Text (bs ++ x ∷ [])) (sym (eqb-true _ _ e)) refl
    go false e true f r g l h d i = subst (λ x. unquoted (escape x ++ ys) marks.Text bs ≡ unquoted ys marks.Text (bs ++ x ∷ [])) (sym (eqb-true _ _ f)) refl
    go false e false f true g l h d i = subst (λ x. unquoted (escape x ++ ys) marks.Text bs ≡ unquoted ys marks.Text (bs ++ x ∷ [])) (sym (eqb-true _ _ g)) refl
    go false e false f false g true h d i = escaped_again b ys bs (rw (g, h) refl) (ltb-true _ _ h)
    go false e false f false g false h true i = subst (λ x. unquoted (escape x ++ ys) marks.Text bs ≡ unquoted ys marks.Text (bs ++ x ∷ [])) (sym (eqb-true _ _ i)) refl
    go false e false f false g false h false i = rw (plain_escape b e f h i, e, f, h, i) refl

content_again : (bs acc rest : List ℕ) → unquoted (flat_map escape bs ++ 34 ∷ rest) marks.Text acc ≡ got (acc ++ bs) rest
content_again [] acc rest = ap (λ xs. got xs rest) (sym (append-nil acc))
content_again (b ∷ bs) acc rest =
    ap (λ xs. unquoted xs marks.Text acc) (append_assoc (escape b) (flat_map escape bs) (34 ∷ rest))
    ∙ byte_again b (flat_map escape bs ++ 34 ∷ rest) acc ∙ content_again bs (acc ++ b ∷ []) rest ∙ ap (λ xs. got xs rest) (append_assoc acc (b ∷ []) bs)

text_again : (bs rest : List ℕ) → IsUtf8 bs → reading text (text_form text (a_text bs) ++ rest) ≡ got (a_text bs) rest
text_again bs rest u =
    let e : (flat_map escape bs ++ 34 ∷ []) ++ rest ≡ flat_map escape bs ++ 34 ∷ rest = append_assoc (flat_map escape bs) (34 ∷ []) rest in
    rw (e, content_again bs [] rest, is_utf8-from_IsUtf8 bs u) refl

-- ---- bytes

digit_no_quote : (n : ℕ) → n < 16 → eqb (slice_index lower_digits n) 34 ≡ false
digit_no_quote = sixteen (λ n. eqb (slice_index lower_digits n) 34 ≡ false) refl refl refl refl refl refl refl refl refl refl refl refl refl refl refl refl

pair_again : (b : ℕ) (ys acc : List ℕ) → b < 256 → unquoted (slice_index lower_digits (b / 16) ∷ slice_index lower_digits (b % 16) ∷ ys) marks.Bytes acc ≡ unquoted ys marks.Bytes (acc ++ b ∷ [])
pair_again b ys acc lt =
    let h : b / 16 < 16 = omega arith in
    let l : b % 16 < 16 = omega arith in
    let whole : b / 16 * 16 + b % 16 ≡ b = omega arith in
    let value : pair_value (digit_value (slice_index lower_digits (b / 16))) (digit_value (slice_index lower_digits (b % 16))) ≡ Some b = rw (digit_back (b / 16) h, digit_back (b % 16) l) (ap (λ n. Some n) whole) in
    at (slice_index lower_digits (b / 16)) (slice_index lower_digits (b % 16)) (digit_no_quote (b / 16) h) (digit_back (b / 16) h) value
  where
    at : (x y : ℕ) → eqb x 34 ≡ false → digit_value x ≡ Some (b / 16) → pair_value (digit_value x) (digit_value y) ≡ Some b → unquoted (x ∷ y ∷ ys) marks.Bytes acc ≡ unquoted ys marks.Bytes (acc ++ b ∷ [])
    at x y q d v = rw (q, d, v) refl

digits_again : (bs acc rest : List ℕ) → AreBytes bs → unquoted (encode_lower bs ++ 34 ∷ rest) marks.Bytes acc ≡ got (acc ++ bs) rest
unfolding encode_with
digits_again [] acc rest h = ap (λ xs. got xs rest) (sym (append-nil acc))
digits_again (b ∷ bs) acc rest h =
    pair_again b (encode_lower bs ++ 34 ∷ rest) acc h.0 ∙ digits_again bs (acc ++ b ∷ []) rest h.1 ∙ ap (λ xs. got xs rest) (append_assoc acc (b ∷ []) bs)

bytes_again : (bs rest : List ℕ) → AreBytes bs → reading bytes (text_form bytes (some_bytes bs) ++ rest) ≡ got (some_bytes bs) rest
bytes_again bs rest h =
    let e : (encode_lower bs ++ 34 ∷ []) ++ rest ≡ encode_lower bs ++ 34 ∷ rest = append_assoc (encode_lower bs) (34 ∷ []) rest in
    rw (e, digits_again bs [] rest h) refl

-- ---- lists

-- no form begins with a closing bracket, and none is empty
no_bracket : (f : ShapeTree) (cs : List ℕ) → reading f (93 ∷ cs) ≡ Err (length (93 ∷ cs))
no_bracket unit cs = refl
no_bracket flag cs = refl
no_bracket unsigned cs = refl
no_bracket signed cs = refl
no_bracket text cs = refl
no_bracket bytes cs = refl
no_bracket place cs = refl
no_bracket (list f) cs = refl
no_bracket (object ps) cs = refl

not_empty : (f : ShapeTree) → reading f [] ≡ Err 0
not_empty unit = refl
not_empty flag = refl
not_empty unsigned = refl
not_empty signed = refl
not_empty text = refl
not_empty bytes = refl
not_empty place = refl
not_empty (list f) = refl
not_empty (object ps) = refl

-- behind a value: a comma or a bracket, which are no digits
delimited : (c : ℕ) (r : List ℕ) → is_digit c ≡ false → NoDigit (c ∷ r)
delimited c r h d s e = subst (λ x. is_digit x ≡ false) (let q : c ≡ d = heads e in q) h

abbrev Again : ShapeTree → Type 0
Again f = (d : Datum) → IsValue f d → (rest : List ℕ) → NoDigit rest → reading f (text_form f d ++ rest) ≡ got d rest

values_again : (f : ShapeTree) → Again f → (d : Datum) (ds : Data) → IsValue f d → AllAre (IsValue f) ds → (rest : List ℕ) (n : ℕ) → length (joined (text_form f) [] (more d ds)) + 1 ≤ n
    → values (reading f) n (joined (text_form f) [] (more d ds) ++ 93 ∷ rest) ≡ got (more d ds) rest
values_again f again d no_data h hs rest zero l = absurd (omega arith)
values_again f again d (more e es) h hs rest zero l = absurd (omega arith)
values_again f again d no_data h hs rest (suc n) l =
    let t : (text_form f d ++ []) ++ 93 ∷ rest ≡ text_form f d ++ 93 ∷ rest = ap (λ xs. xs ++ 93 ∷ rest) (append-nil (text_form f d)) in
    rw (t, again d h (93 ∷ rest) (delimited 93 rest refl)) refl
values_again f again d (more e es) h hs rest (suc n) l =
    let inner = joined (text_form f) [] (more e es) in
    let t : (text_form f d ++ (comma ++ inner)) ++ 93 ∷ rest ≡ text_form f d ++ 44 ∷ 32 ∷ (inner ++ 93 ∷ rest) = append_assoc (text_form f d) (comma ++ inner) (93 ∷ rest) in
    let s : length (text_form f d ++ (comma ++ inner)) ≡ length (text_form f d) + length (comma ++ inner) = length-append (text_form f d) (comma ++ inner) in
    let c : length (comma ++ inner) ≡ length inner + 2 = omega arith in
    rw (t, again d h (44 ∷ 32 ∷ (inner ++ 93 ∷ rest)) (delimited 44 (32 ∷ (inner ++ 93 ∷ rest)) refl), values_again f again e es hs.0 hs.1 rest n (omega arith)) refl

open_list : (f : ShapeTree) (cs : List ℕ) (ds : Data) (rest : List ℕ) → values (reading f) (length cs) cs ≡ got ds rest → values_or_none (reading f) cs ≡ got ds rest
open_list f [] ds rest h = h
open_list f (c ∷ cs) ds rest h = go (eqb c 93) refl
  where
    go : (b : Bool) → eqb c 93 ≡ b → values_or_none (reading f) (c ∷ cs) ≡ got ds rest
    go true q = absurd (no_got (length (93 ∷ cs)) ds rest (sym (rw (no_bracket f cs) refl) ∙ subst (λ x. values (reading f) (length (x ∷ cs)) (x ∷ cs) ≡ got ds rest) (eqb-true _ _ q) h))
    go false q = rw q h

list_again : (f : ShapeTree) → Again f → (ds : Data) → AllAre (IsValue f) ds → (rest : List ℕ) → reading (list f) (text_form (list f) (a_list ds) ++ rest) ≡ got (a_list ds) rest
list_again f again no_data h rest = refl
list_again f again (more d ds) h rest =
    let whole = joined (text_form f) [] (more d ds) in
    let t : (whole ++ 93 ∷ []) ++ rest ≡ whole ++ 93 ∷ rest = append_assoc whole (93 ∷ []) rest in
    let l : length (whole ++ 93 ∷ rest) ≡ length whole + length (93 ∷ rest) = length-append whole (93 ∷ rest) in
    rw (t, open_list f (whole ++ 93 ∷ rest) (more d ds) rest (values_again f again d ds h.0 h.1 rest (length (whole ++ 93 ∷ rest)) (omega arith))) refl

-- ---- objects

field_again : (before name : List ℕ) (f : ShapeTree) → Again f → (d : Datum) → IsValue f d → (rest : List ℕ) → NoDigit rest → field_at before name (reading f) (before ++ (name ++ (colon ++ (text_form f d ++ rest)))) ≡ got d rest
field_again before name f again d h rest n =
    rw (literal_again before (name ++ (colon ++ (text_form f d ++ rest))), literal_again name (colon ++ (text_form f d ++ rest))) (again d h rest n)

abbrev AllAgain : Parts → Type 0
AllAgain ps = (ds : Data) → AreValues ps ds → (rest : List ℕ) → fields_at ps comma (fields_text ps comma ds ++ 125 ∷ rest) ≡ got ds (125 ∷ rest)

-- behind a field stand a comma or the closing brace
behind_field : (ps : Parts) (ds : Data) → AreValues ps ds → (rest : List ℕ) → NoDigit (fields_text ps comma ds ++ 125 ∷ rest)
behind_field no_parts ds h rest = delimited 125 rest refl
behind_field (part name f ps) ds h rest = rw (h.4) (delimited 44 _ refl)

fields_again : (before name : List ℕ) (f : ShapeTree) (ps : Parts) → Again f → AllAgain ps → (d : Datum) (ds : Data) → IsValue f d → AreValues ps ds → (rest : List ℕ)
    → fields_at (part name f ps) before (fields_text (part name f ps) before (more d ds) ++ 125 ∷ rest) ≡ got (more d ds) (125 ∷ rest)
fields_again before name f ps again all d ds h hs rest =
    let tail = fields_text ps comma ds in
    let t : (before ++ (name ++ (colon ++ (text_form f d ++ tail)))) ++ 125 ∷ rest ≡ before ++ (name ++ (colon ++ (text_form f d ++ (tail ++ 125 ∷ rest)))) =
    append_assoc before (name ++ (colon ++ (text_form f d ++ tail))) (125 ∷ rest)
    ∙ ap (λ xs. before ++ xs) (append_assoc name (colon ++ (text_form f d ++ tail)) (125 ∷ rest)
    ∙ ap (λ xs. name ++ xs) (append_assoc colon (text_form f d ++ tail) (125 ∷ rest)
    ∙ ap (λ xs. colon ++ xs) (append_assoc (text_form f d) tail (125 ∷ rest)))) in
    rw (t, field_again before name f again d h (tail ++ 125 ∷ rest) (behind_field ps ds hs rest), all ds hs rest) refl

object_again : (ps : Parts) → ((ds : Data) → AreValues ps ds → (rest : List ℕ) → fields_at ps [] (fields_text ps [] ds ++ 125 ∷ rest) ≡ got ds (125 ∷ rest)) → (ds : Data) → AreValues ps ds → (rest : List ℕ)
    → reading (object ps) (text_form (object ps) (an_object ds) ++ rest) ≡ got (an_object ds) rest
object_again ps all ds h rest =
    let t : (fields_text ps [] ds ++ 125 ∷ []) ++ rest ≡ fields_text ps [] ds ++ 125 ∷ rest = append_assoc (fields_text ps [] ds) (125 ∷ []) rest in
    rw (t, all ds h rest) refl

flag_again : (b : Bool) (rest : List ℕ) → reading flag (text_form flag (a_flag b) ++ rest) ≡ got (a_flag b) rest
flag_again true rest = refl
flag_again false rest = refl

signed_again : (z : ℤ) → mag z < 2 ^ 63 → (rest : List ℕ) → NoDigit rest → reading signed (text_form signed (a_signed z) ++ rest) ≡ got (a_signed z) rest
signed_again (pos n) lt rest h = above_again 0 n (decimal n ++ rest) rest (number_again (2 ^ 63 - 1) n (omega arith) (omega arith) rest h)
signed_again (negsuc n) lt rest h = below_again n rest lt h

mutual
  pub reading_again : (f : ShapeTree) (d : Datum) → IsValue f d → (rest : List ℕ) → NoDigit rest → reading f (text_form f d ++ rest) ≡ got d rest
  reading_again unit d h rest n = rw h refl
  reading_again flag d h rest n = rw (h.1) (flag_again h.0 rest)
  reading_again unsigned d h rest n = let lt : h.0 < 2 ^ 64 = h.1 in rw (h.2) (rw (number_again (2 ^ 64 - 1) h.0 (omega arith) (omega arith) rest n) refl)
  reading_again signed d h rest n = rw (h.2) (signed_again h.0 h.1.sfits rest n)
  reading_again text d h rest n = rw (h.2) (text_again h.0 rest h.1)
  reading_again bytes d h rest n = rw (h.2) (bytes_again h.0 rest h.1)
  reading_again place d h rest n = let lt : h.0 < 256 = h.1 in rw (h.2) (rw (number_again 255 h.0 (omega arith) (omega arith) rest n) refl)
  reading_again (list f) d h rest n = rw (h.2) (list_again f (reading_again f) h.0 h.1 rest)
  reading_again (object ps) d h rest n = rw (h.2) (object_again ps (all_again ps []) h.0 h.1 rest)

  all_again : (ps : Parts) (before : List ℕ) (ds : Data) → AreValues ps ds → (rest : List ℕ) → fields_at ps before (fields_text ps before ds ++ 125 ∷ rest) ≡ got ds (125 ∷ rest)
  all_again no_parts before ds h rest = rw h refl
  all_again (part name f ps) before ds h rest = rw (h.4) (fields_again before name f ps (reading_again f) (all_again ps comma) h.0 h.1 h.2 h.3 rest)

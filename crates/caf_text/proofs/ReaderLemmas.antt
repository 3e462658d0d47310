-- How far the reader of each shape goes.
use Rattle.std.proofs.Common.{◌≡◌, ℕ, suc, ◌-◌, ◌^◌, ◌<◌, ◌≤◌, pos, negsuc, true, false, List, [], ◌∷◌, ◌++◌, drop, Ok, codes, decimal, refl, sym, ap, subst, ◌∙◌, append_assoc, arith}
use Rattle.caf_types.specs.ShapeTree.{ShapeTree, unit, flag, unsigned, signed, text, bytes, place, list, object, Parts, no_parts, part}
use Rattle.caf_words.specs.Datum.{Datum, a_unit, a_flag, an_unsigned, a_signed, a_text, some_bytes, a_place, a_list, an_object, Data, no_data, more}
use Rattle.caf_words.specs.Reading.{◌>>=◌}
use Rattle.caf_text.specs.TextForm.{comma, colon, joined, text_form, scalar_text, fields_text}
use Rattle.caf_text.specs.TextReading.{literal, word, number, nonzero, values_or_none, reading, field_at, fields_at}
use Rattle.caf_text.proofs.StopLemmas.{Stops, pure_stops, literal_stops, then_stops, make_stops, choice_stops, as_stops, literal_then}
use Rattle.std.proofs.lemmas.Str.{IsUtf8-nil}
use Rattle.caf_text.proofs.ListLemmas.{items_stops}
use Rattle.caf_text.proofs.QuotedLemmas.{text_stops, bytes_stops}
use Rattle.caf_text.proofs.NumberLemmas.{IsNonzero, nonzero_stops, number_stops}
use Rattle.caf_text.proofs.ValueLemmas.{IsValue, AreValues, AllAre}

-- ---- numbers

unsigned_stops : (cs : List ℕ) → Stops (IsValue unsigned) (text_form unsigned) (reading unsigned) cs
unsigned_stops cs = make_stops (λ n. n ≤ 2 ^ 64 - 1) decimal (number (2 ^ 64 - 1)) an_unsigned (IsValue unsigned) (text_form unsigned)
    (λ n h. ((n, (let lt : n < 2 ^ 64 = omega arith in lt), refl), refl)) cs (number_stops (2 ^ 64 - 1) (omega arith) (omega arith) cs)

place_stops : (cs : List ℕ) → Stops (IsValue place) (text_form place) (reading place) cs
place_stops cs = as_stops (IsValue place) (λ d. (64 ∷ []) ++ drop 1 (text_form place d)) (IsValue place) (text_form place)
    (λ d h. (h, subst (λ e. text_form place e ≡ (64 ∷ []) ++ drop 1 (text_form place e)) (sym h.2) refl))
    (reading place) cs
    (literal_then (64 ∷ []) (λ ys. number 255 ys >>= λ y. Ok (a_place y.0, y.1)) (IsValue place) (λ d. drop 1 (text_form place d)) (a_place 0, (0, omega arith, refl))
    (λ ys. make_stops (λ n. n ≤ 255) decimal (number 255) a_place (IsValue place) (λ d. drop 1 (text_form place d))
    (λ n h. ((n, (let lt : n < 256 = omega arith in lt), refl), refl)) ys (number_stops 255 (omega arith) (omega arith) ys)) cs)

abbrev IsBelow : Datum → Type 0
IsBelow d = (n : ℕ) × (1 ≤ n) × (n ≤ 2 ^ 63) × (d ≡ a_signed (negsuc (n - 1)))

abbrev IsAbove : Datum → Type 0
IsAbove d = (n : ℕ) × (n ≤ 2 ^ 63 - 1) × (d ≡ a_signed (pos n))

signed_stops : (cs : List ℕ) → Stops (IsValue signed) (text_form signed) (reading signed) cs
signed_stops =
    choice_stops 45 (λ cs. nonzero (2 ^ 63) cs >>= λ x. Ok (a_signed (negsuc (x.0 - 1)), x.1)) (λ cs. number (2 ^ 63 - 1) cs >>= λ x. Ok (a_signed (pos x.0), x.1))
    IsBelow IsAbove (IsValue signed) (λ d. drop 1 (text_form signed d)) (text_form signed) (text_form signed)
    (λ cs. make_stops (IsNonzero (2 ^ 63)) decimal (nonzero (2 ^ 63)) (λ n. a_signed (negsuc (n - 1))) IsBelow (λ d. drop 1 (text_form signed d))
    (λ n h. ((n, h.0, h.1, refl), (let low : 1 ≤ n = h.0 in let e : suc (n - 1) ≡ n = omega arith in ap decimal e))) cs (nonzero_stops (2 ^ 63) (omega arith) (omega arith) cs))
    (λ cs. make_stops (λ n. n ≤ 2 ^ 63 - 1) decimal (number (2 ^ 63 - 1)) (λ n. a_signed (pos n)) IsAbove (text_form signed)
    (λ n h. ((n, h, refl), refl)) cs (number_stops (2 ^ 63 - 1) (omega arith) (omega arith) cs))
    (λ d h. let low : 1 ≤ h.0 = h.1 in let high : h.0 ≤ 2 ^ 63 = h.2 in
    ((negsuc (h.0 - 1), record { sfits = omega arith }, h.3), subst (λ e. text_form signed e ≡ 45 ∷ drop 1 (text_form signed e)) (sym h.3) refl))
    (λ d h. let high : h.0 ≤ 2 ^ 63 - 1 = h.1 in ((pos h.0, record { sfits = omega arith }, h.2), refl))
    (a_signed (pos 0), (pos 0, record { sfits = omega arith }, refl))

-- ---- words

unit_stops : (cs : List ℕ) → Stops (IsValue unit) (text_form unit) (reading unit) cs
unit_stops cs = make_stops (λ u. Unit {0}) (λ u. codes "unit") (literal (codes "unit")) (λ u. a_unit) (IsValue unit) (text_form unit) (λ u v. (refl, refl)) cs (literal_stops (codes "unit") cs)

word_stops : (xs : List ℕ) (d : Datum) (cs : List ℕ) → Stops (λ e. e ≡ d) (λ e. xs) (word xs d) cs
word_stops xs d cs = make_stops (λ u. Unit {0}) (λ u. xs) (literal xs) (λ u. d) (λ e. e ≡ d) (λ e. xs) (λ u v. (refl, refl)) cs (literal_stops xs cs)

flag_stops : (cs : List ℕ) → Stops (IsValue flag) (text_form flag) (reading flag) cs
flag_stops =
    choice_stops 116 (word (codes "rue") (a_flag true)) (word (codes "false") (a_flag false)) (λ e. e ≡ a_flag true) (λ e. e ≡ a_flag false) (IsValue flag)
    (λ e. codes "rue") (λ e. codes "false") (text_form flag)
    (word_stops (codes "rue") (a_flag true)) (word_stops (codes "false") (a_flag false))
    (λ d e. ((true, e), ap scalar_text e)) (λ d e. ((false, e), ap scalar_text e)) (a_flag true, (true, refl))

-- ---- lists

-- the text of a list begins with its opening bracket
list_stops : (f : ShapeTree) → ((cs : List ℕ) → Stops (IsValue f) (text_form f) (reading f) cs) → (d : Datum) × IsValue f d → (cs : List ℕ) → Stops (IsValue (list f)) (text_form (list f)) (reading (list f)) cs
list_stops f ones some cs = as_stops (IsValue (list f)) (λ d. (91 ∷ []) ++ drop 1 (text_form (list f) d)) (IsValue (list f)) (text_form (list f))
    (λ d h. (h, subst (λ e. text_form (list f) e ≡ (91 ∷ []) ++ drop 1 (text_form (list f) e)) (sym h.2) refl))
    (reading (list f)) cs
    (literal_then (91 ∷ []) (λ ys. values_or_none (reading f) ys >>= λ y. Ok (a_list y.0, y.1)) (IsValue (list f)) (λ d. drop 1 (text_form (list f) d)) (a_list no_data, (no_data, tt, refl))
    (λ ys. make_stops (AllAre (IsValue f)) (λ ds. joined (text_form f) [] ds ++ 93 ∷ []) (values_or_none (reading f)) a_list (IsValue (list f)) (λ d. drop 1 (text_form (list f) d))
    (λ ds h. ((ds, h, refl), refl)) ys (items_stops (IsValue f) (text_form f) (reading f) ones some ys)) cs)

-- ---- objects

abbrev others_of : Data → Data
others_of no_data = no_data
others_of (more d ds) = ds

field_stops : (before name : List ℕ) (f : ShapeTree) → ((cs : List ℕ) → Stops (IsValue f) (text_form f) (reading f) cs) → (d : Datum) × IsValue f d
    → (cs : List ℕ) → Stops (IsValue f) (λ d. before ++ (name ++ (colon ++ text_form f d))) (field_at before name (reading f)) cs
field_stops before name f ones some =
    literal_then before (λ ys. literal name ys >>= λ b. literal colon b.1 >>= λ c. reading f c.1) (IsValue f) (λ d. name ++ (colon ++ text_form f d)) some
    (literal_then name (λ ys. literal colon ys >>= λ c. reading f c.1) (IsValue f) (λ d. colon ++ text_form f d) some
    (literal_then colon (reading f) (IsValue f) (text_form f) some ones))

object_stops : (ps : Parts) → ((cs : List ℕ) → Stops (AreValues ps) (fields_text ps []) (fields_at ps []) cs) → (ds : Data) × AreValues ps ds → (cs : List ℕ) → Stops (IsValue (object ps)) (text_form (object ps)) (reading (object ps)) cs
object_stops ps all some cs = as_stops (IsValue (object ps)) (λ d. (123 ∷ []) ++ drop 1 (text_form (object ps) d)) (IsValue (object ps)) (text_form (object ps))
    (λ d h. (h, subst (λ e. text_form (object ps) e ≡ (123 ∷ []) ++ drop 1 (text_form (object ps) e)) (sym h.2) refl))
    (reading (object ps)) cs
    (literal_then (123 ∷ []) (λ ys. fields_at ps [] ys >>= λ x. literal (125 ∷ []) x.1 >>= λ b. Ok (an_object x.0, b.1)) (IsValue (object ps)) (λ d. drop 1 (text_form (object ps) d)) (an_object some.0, (some.0, some.1, refl))
    (λ ys. then_stops (AreValues ps) (fields_text ps []) (fields_at ps []) (λ ds zs. literal (125 ∷ []) zs >>= λ b. Ok (an_object ds, b.1)) (λ ds d. d ≡ an_object ds) (λ ds d. 125 ∷ []) (IsValue (object ps)) (λ d. drop 1 (text_form (object ps) d))
    (λ ds d v e. ((ds, v, e), ap (λ x. drop 1 (text_form (object ps) x)) e))
    (λ ds v. (an_object ds, refl))
    ys (all ys) (λ ds e. word_stops (125 ∷ []) (an_object ds) (all ys).2)) cs)

fields_stops : (before name : List ℕ) (f : ShapeTree) (ps : Parts) → ((cs : List ℕ) → Stops (IsValue f) (text_form f) (reading f) cs) → (d : Datum) × IsValue f d
    → ((cs : List ℕ) → Stops (AreValues ps) (fields_text ps comma) (fields_at ps comma) cs) → (ds : Data) × AreValues ps ds
    → (cs : List ℕ) → Stops (AreValues (part name f ps)) (fields_text (part name f ps) before) (fields_at (part name f ps) before) cs
fields_stops before name f ps ones some all somes cs =
    then_stops (IsValue f) (λ d. before ++ (name ++ (colon ++ text_form f d))) (field_at before name (reading f)) (λ d ys. fields_at ps comma ys >>= λ y. Ok (more d y.0, y.1))
    (λ d ds. (es : Data) × AreValues ps es × (ds ≡ more d es)) (λ d ds. fields_text ps comma (others_of ds)) (AreValues (part name f ps)) (fields_text (part name f ps) before)
    (λ d ds v w. ((d, w.0, v, w.1, w.2), ap (fields_text (part name f ps) before) w.2 ∙ regroup (text_form f d) (fields_text ps comma w.0) ∙ ap (λ es. (before ++ (name ++ (colon ++ text_form f d))) ++ fields_text ps comma (others_of es)) (sym w.2)))
    (λ d v. (more d somes.0, (somes.0, somes.1, refl)))
    cs (field_stops before name f ones some cs)
    (λ d e. make_stops (AreValues ps) (fields_text ps comma) (fields_at ps comma) (more d) (λ ds. (es : Data) × AreValues ps es × (ds ≡ more d es)) (λ ds. fields_text ps comma (others_of ds)) (λ es h. ((es, h, refl), refl)) _ (all _))
  where
    regroup : (xs ys : List ℕ) → before ++ (name ++ (colon ++ (xs ++ ys))) ≡ (before ++ (name ++ (colon ++ xs))) ++ ys
    regroup xs ys = sym (append_assoc before (name ++ (colon ++ xs)) ys ∙ ap (λ zs. before ++ zs) (append_assoc name (colon ++ xs) ys ∙ ap (λ zs. name ++ zs) (append_assoc colon xs ys)))

-- ---- every shape

mutual
  pub some_value : (f : ShapeTree) → (d : Datum) × IsValue f d
  some_value unit = (a_unit, refl)
  some_value flag = (a_flag true, (true, refl))
  some_value unsigned = (an_unsigned 0, (0, omega arith, refl))
  some_value signed = (a_signed (pos 0), (pos 0, record { sfits = omega arith }, refl))
  some_value text = (a_text [], ([], IsUtf8-nil, refl))
  some_value bytes = (some_bytes [], ([], tt, refl))
  some_value place = (a_place 0, (0, omega arith, refl))
  some_value (list f) = (a_list no_data, (no_data, tt, refl))
  some_value (object ps) = let s = some_values ps in (an_object s.0, (s.0, s.1, refl))

  some_values : (ps : Parts) → (ds : Data) × AreValues ps ds
  some_values no_parts = (no_data, refl)
  some_values (part name f ps) = let s = some_value f in let t = some_values ps in (more s.0 t.0, (s.0, t.0, s.1, t.1, refl))

mutual
  pub reading_stops : (f : ShapeTree) (cs : List ℕ) → Stops (IsValue f) (text_form f) (reading f) cs
  reading_stops unit = unit_stops
  reading_stops flag = flag_stops
  reading_stops unsigned = unsigned_stops
  reading_stops signed = signed_stops
  reading_stops text = text_stops
  reading_stops bytes = bytes_stops
  reading_stops place = place_stops
  reading_stops (list f) = list_stops f (reading_stops f) (some_value f)
  reading_stops (object ps) = object_stops ps (all_stops ps []) (some_values ps)

  all_stops : (ps : Parts) (before cs : List ℕ) → Stops (AreValues ps) (fields_text ps before) (fields_at ps before) cs
  all_stops no_parts before = λ cs. pure_stops (λ ds. ds ≡ no_data) no_data cs refl
  all_stops (part name f ps) before = fields_stops before name f ps (reading_stops f) (some_value f) (all_stops ps comma) (some_values ps)

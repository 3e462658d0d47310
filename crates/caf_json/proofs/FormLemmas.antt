-- What is read from JSON is the value whose form it is, and the form of a value is read as it.
use Rattle.std.proofs.Common.{◌≡◌, ℕ, ◌+◌, ◌<◌, Bool, true, false, cond, List, ltb, Option, Some, None, is_some, option_and_then, Ok, Err, refl, sym, ap, subst, ◌∙◌, lt-ltb}
use borrow.Author.Tests.{ltb-true}
use Rattle.serde_json.specs.Data.{Data as Json, null, boolean, string, array, object as members_in, Items, no_items, item, Members}
use Rattle.serde_json.specs.Find.{get, as_null, as_bool, as_str, as_array, as_object}
use Rattle.caf_types.specs.ShapeTree.{ShapeTree, unit, flag, unsigned, signed, text, bytes, place, list, object, Parts, no_parts, part}
use Rattle.caf_words.specs.Datum.{Datum, a_unit, a_flag, an_unsigned, a_signed, a_text, some_bytes, a_place, a_list, an_object, Data, no_data, more}
use Rattle.caf_json.specs.Digits.{unhex}
use Rattle.caf_json.specs.Form.{unsigned_in, signed_in, are_declared, HasJson, EachHasJson, PartsHaveJson}
use Rattle.caf_json.specs.Reading.{Read, ◌>>=◌, inside, found, below_places, then_more, each_read, list_read, member_read, no_others, object_read, unjson, parts_read}
use Rattle.caf_events.proofs.OfShapeLemmas.{IsOf, PartsAre, AllAre}
use Rattle.caf_json.proofs.DigitsLemmas.{unhex_is, unhex_back}

-- ---- what each step of the reading found

abbrev read_ok : {A : Type 0} → A → Read A
read_ok x = Ok x

ok_is : {A : Type 0} (x y : A) → read_ok x ≡ read_ok y → x ≡ y
ok_is x y e = cc

found_is : {A : Type 0} (make : A → Datum) (o : Option A) (d : Datum) → found make o ≡ Ok d → (x : A) × (o ≡ Some x) × (d ≡ make x)
found_is make (Some x) d e = (x, refl, sym (ok_is (make x) d e))
found_is make None d e = absurd cc

then_is : {A B : Type 0} (f : A → Option B) (o : Option A) (y : B) → option_and_then f o ≡ Some y → (x : A) × (o ≡ Some x) × (f x ≡ Some y)
then_is f (Some x) y e = (x, refl, e)
then_is f None y e = absurd cc

null_is : (j : Json) → is_some (as_null j) ≡ true → j ≡ null
null_is null h = refl
null_is _ h = absurd cc

bool_is : (j : Json) (b : Bool) → as_bool j ≡ Some b → j ≡ boolean b
bool_is (boolean c) b e = let is : c ≡ b = cc in ap boolean is
bool_is _ b e = absurd cc

str_is : (j : Json) (s : List ℕ) → as_str j ≡ Some s → j ≡ string s
str_is (string t) s e = let is : t ≡ s = cc in ap string is
str_is _ s e = absurd cc

array_is : (j : Json) (js : Items) → as_array j ≡ Some js → j ≡ array js
array_is (array ks) js e = let is : ks ≡ js = cc in ap array is
array_is _ js e = absurd cc

object_is : (j : Json) (ms : Members) → as_object j ≡ Some ms → j ≡ members_in ms
object_is (members_in ns) ms e = let is : ns ≡ ms = cc in ap members_in is
object_is _ ms e = absurd cc

small_is : (n m : ℕ) (b : Bool) → ltb n 256 ≡ b → cond b (Some n) None ≡ Some m → (n ≡ m) × (m < 256)
small_is n m true q e = let is : n ≡ m = cc in (is, subst (λ k. k < 256) is (ltb-true _ _ q))
small_is n m false q e = absurd cc

inside_is : {A : Type 0} (i : ℕ) (r : Read A) (x : A) → inside i r ≡ Ok x → r ≡ Ok x
inside_is i (Ok y) x e = e
inside_is i (Err path) x e = absurd cc

more_is : (one : Read Datum) (others : Read Data) (ds : Data) → then_more one others ≡ Ok ds → (e : Datum) × (es : Data) × (one ≡ Ok e) × (others ≡ Ok es) × (ds ≡ more e es)
more_is (Ok e) (Ok es) ds h = (e, es, refl, refl, sym (ok_is (more e es) ds h))
more_is (Ok e) (Err path) ds h = absurd cc
more_is (Err path) others ds h = absurd cc

items_is : (r : Read Data) (d : Datum) → (r >>= λ ds. Ok (a_list ds)) ≡ Ok d → (ds : Data) × (r ≡ Ok ds) × (d ≡ a_list ds)
items_is (Ok ds) d h = (ds, refl, sym (ok_is (a_list ds) d h))
items_is (Err path) d h = absurd cc

list_is : (items : Items → Read Data) (o : Option Items) (d : Datum) → list_read items o ≡ Ok d → (js : Items) × (o ≡ Some js) × (ds : Data) × (items js ≡ Ok ds) × (d ≡ a_list ds)
list_is items (Some js) d h = let p = items_is (items js) d h in (js, refl, p.0, p.1, p.2)
list_is items None d h = absurd cc

others_is : (b : Bool) (ds : Data) (d : Datum) → no_others b ds ≡ Ok d → (b ≡ true) × (d ≡ an_object ds)
others_is true ds d h = (refl, sym (ok_is (an_object ds) d h))
others_is false ds d h = absurd cc

fields_is : (b : Bool) (r : Read Data) (d : Datum) → (r >>= no_others b) ≡ Ok d → (ds : Data) × (r ≡ Ok ds) × (b ≡ true) × (d ≡ an_object ds)
fields_is b (Ok ds) d h = let p = others_is b ds d h in (ds, refl, p.0, p.1)
fields_is b (Err path) d h = absurd cc

whole_is : (test : Members → Bool) (fields : Read Data) (o : Option Members) (d : Datum) → object_read test fields o ≡ Ok d
    → (ms : Members) × (o ≡ Some ms) × (ds : Data) × (fields ≡ Ok ds) × (test ms ≡ true) × (d ≡ an_object ds)
whole_is test fields (Some ms) d h = let p = fields_is (test ms) fields d h in (ms, refl, p.0, p.1, p.2, p.3)
whole_is test fields None d h = absurd cc

member_is : (one : Json → Read Datum) (o : Option Json) (d : Datum) → member_read one o ≡ Ok d → (m : Json) × (o ≡ Some m) × (one m ≡ Ok d)
member_is one (Some m) d h = (m, refl, h)
member_is one None d h = absurd cc

-- ---- what was read has that form

each_has : (one : Json → Read Datum) (P : Datum → Json → Type 0) → ((j : Json) (d : Datum) → one j ≡ Ok d → P d j)
    → (i : ℕ) (js : Items) (ds : Data) → each_read one i js ≡ Ok ds → EachHasJson P ds js
each_has one P s i no_items ds h = subst (λ (xs : Data). EachHasJson P xs no_items) (ok_is no_data ds h) refl
each_has one P s i (item j js) ds h =
    let p = more_is (inside i (one j)) (each_read one (i + 1) js) ds h in
    subst (λ (xs : Data). EachHasJson P xs (item j js)) (sym p.4) (j, js, s j p.0 (inside_is i (one j) p.0 p.2), each_has one P s (i + 1) js p.1 p.3, refl)

mutual
  pub has_json : (f : ShapeTree) (j : Json) (d : Datum) → unjson f j ≡ Ok d → HasJson f d j
  has_json unit j d h = let p = found_is (λ _. a_unit) (as_null j) d h in (p.2, null_is j (ap is_some p.1))
  has_json flag j d h = let p = found_is a_flag (as_bool j) d h in (p.0, p.2, bool_is j p.0 p.1)
  has_json unsigned j d h = let p = found_is an_unsigned (unsigned_in j) d h in (p.0, p.2, p.1)
  has_json signed j d h = let p = found_is a_signed (signed_in j) d h in (p.0, p.2, p.1)
  has_json text j d h = let p = found_is a_text (as_str j) d h in (p.0, p.2, str_is j p.0 p.1)
  has_json bytes j d h =
      let p = found_is some_bytes (option_and_then unhex (as_str j)) d h in
      let q = then_is unhex (as_str j) p.0 p.1 in
      let u = unhex_is q.0 p.0 q.2 in
      (p.0, u.0, p.2, str_is j q.0 q.1 ∙ ap string u.1)
  has_json place j d h =
      let p = found_is a_place (option_and_then below_places (unsigned_in j)) d h in
      let q = then_is below_places (unsigned_in j) p.0 p.1 in
      let s = small_is q.0 p.0 (ltb q.0 256) refl q.2 in
      (p.0, s.1, p.2, q.1 ∙ ap (λ n. Some n) s.0)
  has_json (list f) j d h =
      let p = list_is (each_read (unjson f) 0) (as_array j) d h in
      (p.2, p.0, each_has (unjson f) (HasJson f) (has_json f) 0 p.0 p.2 p.3, p.4, array_is j p.0 p.1)
  has_json (object ps) j d h =
      let p = whole_is (are_declared ps) (parts_read ps 0 j) (as_object j) d h in
      (p.2, p.0, parts_have ps 0 j p.2 p.3, p.4, p.5, object_is j p.0 p.1)

  parts_have : (ps : Parts) (i : ℕ) (j : Json) (ds : Data) → parts_read ps i j ≡ Ok ds → PartsHaveJson ps ds j
  parts_have no_parts i j ds h = sym (ok_is no_data ds h)
  parts_have (part name f ps) i j ds h =
      let p = more_is (inside i (member_read (unjson f) (get name j))) (parts_read ps (i + 1) j) ds h in
      let m = member_is (unjson f) (get name j) p.0 (inside_is i (member_read (unjson f) (get name j)) p.0 p.2) in
      (p.0, p.1, m.0, m.1, has_json f m.0 p.0 m.2, parts_have ps (i + 1) j p.1 p.3, p.4)

-- ---- what has the form is read

inside_ok : {A : Type 0} (i : ℕ) (r : Read A) (x : A) → r ≡ Ok x → inside i r ≡ Ok x
inside_ok i r x h = ap (inside i) h

more_ok : (one : Read Datum) (others : Read Data) (e : Datum) (es : Data) → one ≡ Ok e → others ≡ Ok es → then_more one others ≡ Ok (more e es)
more_ok one others e es p q = rw (p, q) refl

each_read_ok : (one : Json → Read Datum) (P : Datum → Json → Type 0) → ((d : Datum) (j : Json) → P d j → one j ≡ Ok d)
    → (i : ℕ) (ds : Data) (js : Items) → EachHasJson P ds js → each_read one i js ≡ Ok ds
each_read_ok one P s i no_data js h = rw h refl
each_read_ok one P s i (more d ds) js h =
    rw (h.4) (more_ok (inside i (one h.0)) (each_read one (i + 1) h.1) d ds (inside_ok i (one h.0) d (s d h.0 h.2)) (each_read_ok one P s (i + 1) ds h.1 h.3))

mutual
  pub read_back : (f : ShapeTree) (d : Datum) (j : Json) → HasJson f d j → unjson f j ≡ Ok d
  read_back unit d j h = rw (h.0, h.1) refl
  read_back flag d j h = rw (h.1, h.2) refl
  read_back unsigned d j h = ap (found an_unsigned) h.2 ∙ ap read_ok (sym h.1)
  read_back signed d j h = ap (found a_signed) h.2 ∙ ap read_ok (sym h.1)
  read_back text d j h = rw (h.1, h.2) refl
  read_back bytes d j h = rw (h.2, h.3, unhex_back h.0 h.1) refl
  read_back place d j h = ap (λ o. found a_place (option_and_then below_places o)) h.3 ∙ ap (λ (b : Bool). found a_place (cond b (Some h.0) None)) (lt-ltb h.0 256 h.1) ∙ ap read_ok (sym h.2)
  read_back (list f) d j h =
      let e = each_read_ok (unjson f) (HasJson f) (read_back f) 0 h.0 h.1 h.2 in
      rw (h.3, h.4, e) refl
  read_back (object ps) d j h =
      let e = subst (λ (k : Json). parts_read ps 0 k ≡ Ok h.0) h.5 (parts_read_ok ps 0 h.0 j h.2) in
      rw (h.4, h.5, e, h.3) refl

  parts_read_ok : (ps : Parts) (i : ℕ) (ds : Data) (j : Json) → PartsHaveJson ps ds j → parts_read ps i j ≡ Ok ds
  parts_read_ok no_parts i ds j h = rw h refl
  parts_read_ok (part name f ps) i ds j h =
      rw (h.6) (more_ok (inside i (member_read (unjson f) (get name j))) (parts_read ps (i + 1) j) h.0 h.1
      (inside_ok i (member_read (unjson f) (get name j)) h.0 (ap (member_read (unjson f)) h.3 ∙ read_back f h.0 h.2 h.4)) (parts_read_ok ps (i + 1) h.1 j h.5))

-- ---- what is no form is refused

pub no_form : (f : ShapeTree) (j : Json) (path : List ℕ) → unjson f j ≡ Err path → (d : Datum) → HasJson f d j → ⊥
no_form f j path e d h = let q : read_ok d ≡ Err path = sym (read_back f d j h) ∙ e in absurd cc

pub one_value : (f : ShapeTree) (d e : Datum) (j : Json) → HasJson f d j → HasJson f e j → d ≡ e
one_value f d e j h g = ok_is d e (sym (read_back f d j h) ∙ read_back f e j g)

-- ---- a value with a form is of the shape

each_is : (P : Datum → Json → Type 0) (Q : Datum → Type 0) → ((d : Datum) (j : Json) → P d j → Q d) → (ds : Data) (js : Items) → EachHasJson P ds js → AllAre Q ds
each_is P Q s no_data js h = tt
each_is P Q s (more d ds) js h = (s d h.0 h.2, each_is P Q s ds h.1 h.3)

mutual
  pub json_is_of : (f : ShapeTree) (d : Datum) (j : Json) → HasJson f d j → IsOf f d
  json_is_of unit d j h = h.0
  json_is_of flag d j h = (h.0, h.1)
  json_is_of unsigned d j h = (h.0, h.1)
  json_is_of signed d j h = (h.0, h.1)
  json_is_of text d j h = (h.0, h.1)
  json_is_of bytes d j h = (h.0, h.2)
  json_is_of place d j h = (h.0, h.1, h.2)
  json_is_of (list f) d j h = (h.0, each_is (HasJson f) (IsOf f) (json_is_of f) h.0 h.1 h.2, h.3)
  json_is_of (object ps) d j h = (h.0, parts_are_of ps h.0 j h.2, h.4)

  parts_are_of : (ps : Parts) (ds : Data) (j : Json) → PartsHaveJson ps ds j → PartsAre ps ds
  parts_are_of no_parts ds j h = h
  parts_are_of (part name f ps) ds j h = (h.0, h.1, json_is_of f h.0 h.2 h.4, parts_are_of ps h.1 j h.5, h.6)

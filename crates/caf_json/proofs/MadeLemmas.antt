-- What the saver builds has the form of the value.
use Rattle.std.proofs.Common.{◌≡◌, ℕ, ◌<◌, ◌^◌, Bool, true, false, cond, bytes_eq, lt-ltb, pos, negsuc, ℤ, Ordering, Less, Equal, Greater, nat_cmp, List, Some, refl, sym, ap, subst, ◌∙◌, arith}
use Rattle.std.proofs.lemmas.Slice.Eq.{bytes_eq-Decides}
use Rattle.std.proofs.lemmas.Int.{ints}
use Rattle.std.specs.Cmp.Lexicographic.{slice_cmp}
use Rattle.std.specs.Int.{w64}
use Rattle.std.specs.Int.RustNames.{FitsSigned}
use Rattle.std.specs.Ordering.{match_ordering}
use Rattle.serde_json.specs.Data.{Data as Json, object as members_in, Members, no_members, member, put}
use Rattle.serde_json.specs.Find.{get_member, as_i64, of_integer}
use Rattle.serde_json.proofs.Views.{get_member-put, get_member-put_other}
use Rattle.caf_types.specs.ShapeTree.{ShapeTree, unit, flag, unsigned, signed, text, bytes, place, list, object, Parts, no_parts, part}
use Rattle.caf_words.specs.Datum.{Datum, Data, no_data, more}
use Rattle.caf_events.specs.Event.{Event, events, each_events, part_events}
use Rattle.caf_json.specs.Form.{is_declared, are_declared, names_differ, parts_differ, HasJson, EachHasJson, PartsHaveJson}
use Rattle.caf_json.specs.Stack.{json, each_json, members_json}
use Rattle.caf_events.proofs.OfShapeLemmas.{IsOf, PartsAre, AllAre}
use Rattle.caf_events.specs.Range.{AreInRange}
use Rattle.caf_events.proofs.RangeLemmas.{range_split}

both_differ : (a b : Bool) → cond a b false ≡ true → (a ≡ true) × (b ≡ true)
both_differ true b h = (refl, h)
both_differ false b h = absurd cc

none_of : (a b : Bool) → cond a false b ≡ true → (a ≡ false) × (b ≡ true)
none_of true b h = absurd cc
none_of false b h = (refl, h)

-- ---- names

same : (k : List ℕ) → bytes_eq k k ≡ true
same k = (bytes_eq-Decides k k).1 refl

apart : (name q : List ℕ) (ps : Parts) (f : ShapeTree) → is_declared (part name f ps) q ≡ false → (q ≡ name → ⊥) × (is_declared ps q ≡ false)
apart name q ps f h = go (bytes_eq name q) refl h
  where
    go : (b : Bool) → bytes_eq name q ≡ b → cond b true (is_declared ps q) ≡ false → (q ≡ name → ⊥) × (is_declared ps q ≡ false)
    go true e g = absurd cc
    go false e g = ((λ s. let t : bytes_eq name name ≡ false = subst (λ (x : List ℕ). bytes_eq name x ≡ false) s e in let u = same name in absurd cc), g)

-- ---- members that others beside them leave alone

kept : (ps : Parts) (q : List ℕ) (ds : Data) (ms : Members) → is_declared ps q ≡ false → get_member q (members_json ps ds ms) ≡ get_member q ms
kept no_parts q ds ms h = refl
kept (part name f ps) q no_data ms h = refl
kept (part name f ps) q (more d ds) ms h =
    let a = apart name q ps f h in
    kept ps q ds (put name (json f d) ms) a.1 ∙ get_member-put_other q name (json f d) ms a.0

-- ---- no member but the declared ones

put_declared : (o : Ordering) (qs : Parts) (k l : List ℕ) (d e : Json) (ms rest : Members) → is_declared qs k ≡ true → (is_declared qs l ≡ true) × (are_declared qs ms ≡ true) → are_declared qs rest ≡ true
    → are_declared qs (match_ordering o (member k d (member l e ms)) (member l d ms) (member l e rest)) ≡ true
put_declared Less qs k l d e ms rest h p r = rw (h, p.0) p.1
put_declared Equal qs k l d e ms rest h p r = rw (p.0) p.1
put_declared Greater qs k l d e ms rest h p r = rw (p.0) r

keeps_declared : (qs : Parts) (k : List ℕ) (d : Json) (ms : Members) → is_declared qs k ≡ true → are_declared qs ms ≡ true → are_declared qs (put k d ms) ≡ true
keeps_declared qs k d no_members h g = rw h refl
keeps_declared qs k d (member l e ms) h g =
    let p = both_differ (is_declared qs l) (are_declared qs ms) g in
    put_declared (slice_cmp nat_cmp k l) qs k l d e ms (put k d ms) h p (keeps_declared qs k d ms h p.1)

abbrev AllDeclared : Parts → Parts → Type 0
AllDeclared qs no_parts = Unit {0}
AllDeclared qs (part name f ps) = (is_declared qs name ≡ true) × AllDeclared qs ps

one_more : (b c : Bool) → c ≡ true → cond b true c ≡ true
one_more true c h = refl
one_more false c h = h

wider : (n : List ℕ) (g : ShapeTree) (qs ps : Parts) → AllDeclared qs ps → AllDeclared (part n g qs) ps
wider n g qs no_parts h = tt
wider n g qs (part name f ps) h = (one_more (bytes_eq n name) (is_declared qs name) h.0, wider n g qs ps h.1)

all_declared : (ps : Parts) → AllDeclared ps ps
all_declared no_parts = tt
all_declared (part name f ps) = (ap (λ (b : Bool). cond b true (is_declared ps name)) (same name), wider name f ps ps (all_declared ps))

only_declared : (qs ps : Parts) (ds : Data) (ms : Members) → AllDeclared qs ps → are_declared qs ms ≡ true → are_declared qs (members_json ps ds ms) ≡ true
only_declared qs no_parts ds ms h g = g
only_declared qs (part name f ps) no_data ms h g = g
only_declared qs (part name f ps) (more d ds) ms h g = only_declared qs ps ds (put name (json f d) ms) h.1 (keeps_declared qs name (json f d) ms h.0 g)

-- ---- numbers

whole_back : (z : ℤ) → FitsSigned w64 z → as_i64 (of_integer z) ≡ Some z
whole_back (pos n) h = let lt : n < 2 ^ 63 = omega (arith, ints) in rw (lt-ltb n (2 ^ 63) lt) refl
whole_back (negsuc n) h = refl

-- ---- the whole form

each_made : (P : Datum → Type 0) (one : Datum → List Event) (form_of : Datum → Json) (Q : Datum → Json → Type 0) → ((d : Datum) → P d → AreInRange (one d) → Q d (form_of d))
    → (ds : Data) → AllAre P ds → AreInRange (each_events one ds) → EachHasJson Q ds (each_json form_of ds)
each_made P one form_of Q s no_data h r = refl
each_made P one form_of Q s (more d ds) h r =
    let p = range_split (one d) (each_events one ds) r in
    (form_of d, each_json form_of ds, s d h.0 p.0, each_made P one form_of Q s ds h.1 p.1, refl)

mutual
  pub made_has : (f : ShapeTree) (d : Datum) → IsOf f d → AreInRange (events f d) → names_differ f ≡ true → HasJson f d (json f d)
  made_has unit d h r n = (h, ap (json unit) h)
  made_has flag d h r n = (h.0, h.1, ap (json flag) h.1)
  made_has unsigned d h r n = rw (h.1) (h.0, refl, refl)
  made_has signed d h r n = let q = subst (λ x. AreInRange (events signed x)) h.1 r in rw (h.1) (h.0, refl, whole_back h.0 q.0)
  made_has text d h r n = (h.0, h.1, ap (json text) h.1)
  made_has bytes d h r n = let q = subst (λ x. AreInRange (events bytes x)) h.1 r in (h.0, q.0.0, h.1, ap (json bytes) h.1)
  made_has place d h r n = rw (h.2) (h.0, h.1, refl, refl)
  made_has (list f) d h r n =
      let q = subst (λ x. AreInRange (events (list f) x)) h.2 r in
      (h.0, each_json (json f) h.0, each_made (IsOf f) (events f) (json f) (HasJson f) (λ e p s. made_has f e p s n) h.0 h.1 q.1, h.2, ap (json (list f)) h.2)
  made_has (object ps) d h r n =
      let q = subst (λ x. AreInRange (events (object ps) x)) h.2 r in
      let ms = members_json ps h.0 no_members in
      let is : json (object ps) d ≡ members_in ms = ap (json (object ps)) h.2 in
      (h.0, ms, subst (PartsHaveJson ps h.0) (sym is) (parts_made ps h.0 no_members h.1 q.1 n), only_declared ps ps h.0 no_members (all_declared ps) refl, h.2, is)

  parts_made : (ps : Parts) (ds : Data) (ms : Members) → PartsAre ps ds → AreInRange (part_events ps ds) → parts_differ ps ≡ true
      → PartsHaveJson ps ds (members_in (members_json ps ds ms))
  parts_made no_parts ds ms h r n = h
  parts_made (part name f ps) ds ms h r n =
      let q = subst (λ x. AreInRange (part_events (part name f ps) x)) h.4 r in
      let p = range_split (events f h.0) (part_events ps h.1) q.1 in
      let a = none_of (is_declared ps name) (cond (names_differ f) (parts_differ ps) false) n in
      let b = both_differ (names_differ f) (parts_differ ps) a.1 in
      let one = put name (json f h.0) ms in
      let found : get_member name (members_json ps h.1 one) ≡ Some (json f h.0) = kept ps name h.1 one a.0 ∙ get_member-put name (json f h.0) ms in
      subst (λ x. PartsHaveJson (part name f ps) ds (members_in (members_json (part name f ps) x ms))) (sym h.4)
      (h.0, h.1, json f h.0, found, made_has f h.0 h.2 p.0 b.0, parts_made ps h.1 one h.3 p.1 b.1, h.4)

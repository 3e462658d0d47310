-- What maps that file a table's types find: exactly what the list of types tells.
use Rattle.std.proofs.Common.{◌≡◌, ◌≢◌, ℕ, zero, suc, ◌+◌, ◌<◌, eqb, cond, Bool, true, false, List, [], ◌∷◌, ◌++◌, length, take, drop, get_or, Option, Some, None, refl, sym, ap, subst, ◌∙◌, zero-add, append_assoc, length-append, arith}
use Rattle.std.specs.Prelude.{slice_get, bytes_eq, is_some, find}
use Rattle.std.specs.Option.{option_map}
use Rattle.std.proofs.lemmas.Bool.{cond-true, cond-false, false_from_ne_true, eqb-true, eq-eqb, ne_eqb}
use Rattle.std.proofs.lemmas.Slice.Eq.{bytes_eq-Decides}
use Rattle.caf_types.specs.Table.{Named, type_at, id_of, has_id, has_name}
use Rattle.std.proofs.lemmas.Option.{slice_get-map}
use Rattle.std.proofs.lemmas.List.{drop_more, take_more, map-append, length-map, length-take-le}
use Rattle.caf_types.specs.New.{AreNew}
use Rattle.caf_types.specs.Listing.{AreFiled, type_of, types_of}
use Rattle.caf_types.specs.declared.listed.Listed.{Listed}

-- ---- the first element that passes a test, where a look-up tells its position

-- an element that passes stands where the look-up says; the first stands at this position
abbrev pub IsPlaced : {A : Type 0} → ℕ → (A → Bool) → List A → Option ℕ → Type 0
IsPlaced from test [] o = Unit {0}
IsPlaced from test (x ∷ xs) o = (test x ≡ true → o ≡ Some from) × IsPlaced (from + 1) test xs o

abbrev pub passing : {A : Type 0} → (A → Bool) → Option A → Option A
passing test None = None
passing test (Some x) = cond (test x) (Some x) None

none_is : (n : ℕ) → None ≡ Some n → ⊥
none_is n e = let no : true ≡ false = ap (λ (o : Option ℕ). is_some o) (sym e) in absurd cc

some_is : (m n : ℕ) → Some m ≡ Some n → m ≡ n
some_is m n e = cc

skipped : {A : Type 0} (test : A → Bool) (x : A) (xs : List A) → (test x ≡ true → ⊥) → find test (x ∷ xs) ≡ find test xs
skipped test x xs fails = cond-false (test x) (Some x) (find test xs) (false_from_ne_true (test x) fails)

pub none_placed : {A : Type 0} (from : ℕ) (test : A → Bool) (xs : List A) → IsPlaced from test xs None → find test xs ≡ None
none_placed from test [] p = refl
none_placed from test (x ∷ xs) p = skipped test x xs (λ e. none_is from (p.0 e)) ∙ none_placed (from + 1) test xs p.1

pub placed_below : {A : Type 0} (from q : ℕ) (test : A → Bool) (xs : List A) → IsPlaced from test xs (Some q) → q < from → find test xs ≡ None
placed_below from q test [] p lt = refl
placed_below from q test (x ∷ xs) p lt =
    skipped test x xs (λ e. let same = some_is q from (p.0 e) in omega (arith, same, lt)) ∙ placed_below (from + 1) q test xs p.1 (omega arith)

placed_here : {A : Type 0} (from : ℕ) (test : A → Bool) (x : A) (xs : List A) (b : Bool) → test x ≡ b → IsPlaced (from + 1) test xs (Some from)
    → find test (x ∷ xs) ≡ passing test (Some x)
placed_here from test x xs true e p = rw e refl
placed_here from test x xs false e p = rw e (placed_below (from + 1) from test xs p (omega arith))

pub placed_at : {A : Type 0} (k from q : ℕ) (test : A → Bool) (xs : List A) → IsPlaced from test xs (Some q) → from + k ≡ q → find test xs ≡ passing test (slice_get xs k)
placed_at k from q test [] p e = refl
placed_at zero from q test (x ∷ xs) p e =
    let same : q ≡ from = omega (arith, e) in
    placed_here from test x xs (test x) refl (subst (λ n. IsPlaced (from + 1) test xs (Some n)) same p.1)
placed_at (suc k) from q test (x ∷ xs) p e =
    skipped test x xs (λ passes. let same = some_is q from (p.0 passes) in omega (arith, same, e)) ∙ placed_at k (from + 1) q test xs p.1 (omega (arith, e))

-- ---- look-ups by ID and by name

abbrev pub has_that_id : ℕ → ℕ × Named → Bool
has_that_id id t = eqb t.0 id

abbrev pub has_that_name : List ℕ → ℕ × Named → Bool
has_that_name name t = bytes_eq t.1.name name

type_at-step : (id : ℕ) (t : ℕ × Named) (ts : List (ℕ × Named)) (b : Bool) → eqb t.0 id ≡ b → type_at ts id ≡ option_map (λ u. u.1) (find (has_that_id id) ts)
    → type_at (t ∷ ts) id ≡ option_map (λ u. u.1) (find (has_that_id id) (t ∷ ts))
type_at-step id t ts true e h = rw e refl
type_at-step id t ts false e h = rw e h

pub type_at-find : (id : ℕ) (ts : List (ℕ × Named)) → type_at ts id ≡ option_map (λ u. u.1) (find (has_that_id id) ts)
type_at-find id [] = refl
type_at-find id (t ∷ ts) = type_at-step id t ts (eqb t.0 id) refl (type_at-find id ts)

id_of-step : (name : List ℕ) (t : ℕ × Named) (ts : List (ℕ × Named)) (b : Bool) → bytes_eq t.1.name name ≡ b → id_of ts name ≡ option_map (λ u. u.0) (find (has_that_name name) ts)
    → id_of (t ∷ ts) name ≡ option_map (λ u. u.0) (find (has_that_name name) (t ∷ ts))
id_of-step name t ts true e h = rw e refl
id_of-step name t ts false e h = rw e h

pub id_of-find : (name : List ℕ) (ts : List (ℕ × Named)) → id_of ts name ≡ option_map (λ u. u.0) (find (has_that_name name) ts)
id_of-find name [] = refl
id_of-find name (t ∷ ts) = id_of-step name t ts (bytes_eq t.1.name name) refl (id_of-find name ts)

pub placed_by_id : (from id : ℕ) (ts : List (ℕ × Named)) (ids : ℕ → Option ℕ) (names : List ℕ → Option ℕ) → AreFiled from ts ids names → IsPlaced from (has_that_id id) ts (ids id)
placed_by_id from id [] ids names f = tt
placed_by_id from id (t ∷ ts) ids names f =
    (λ e. subst (λ n. ids n ≡ Some from) (eqb-true t.0 id e) f.0, placed_by_id (from + 1) id ts ids names f.2)

pub placed_by_name : (from : ℕ) (name : List ℕ) (ts : List (ℕ × Named)) (ids : ℕ → Option ℕ) (names : List ℕ → Option ℕ) → AreFiled from ts ids names → IsPlaced from (has_that_name name) ts (names name)
placed_by_name from name [] ids names f = tt
placed_by_name from name (t ∷ ts) ids names f =
    (λ e. subst (λ n. names n ≡ Some from) ((bytes_eq-Decides t.1.name name).0 e) f.1, placed_by_name (from + 1) name ts ids names f.2)

-- ---- a type more

pub filed_first : (from : ℕ) (ts us : List (ℕ × Named)) (ids : ℕ → Option ℕ) (names : List ℕ → Option ℕ) → AreFiled from (ts ++ us) ids names → AreFiled from ts ids names
filed_first from [] us ids names f = tt
filed_first from (t ∷ ts) us ids names f = (f.0, f.1, filed_first (from + 1) ts us ids names f.2)

pub filed_more : (from q : ℕ) (ts : List (ℕ × Named)) (u : ℕ × Named) (ids : ℕ → Option ℕ) (names : List ℕ → Option ℕ) → AreFiled from ts ids names
    → from + length ts ≡ q → ids u.0 ≡ Some q → names u.1.name ≡ Some q → AreFiled from (ts ++ u ∷ []) ids names
filed_more from q [] u ids names f e h k =
    let same : q ≡ from = omega (arith, e) in
    (subst (λ n. ids u.0 ≡ Some n) same h, subst (λ n. names u.1.name ≡ Some n) same k, tt)
filed_more from q (t ∷ ts) u ids names f e h k = (f.0, f.1, filed_more (from + 1) q ts u ids names f.2 (omega (arith, e)) h k)

other_id : (t : ℕ × Named) (ts : List (ℕ × Named)) (id : ℕ) → has_id (t ∷ ts) id ≡ false → (t.0 ≢ id) × (has_id ts id ≡ false)
other_id t ts id h = other (eqb t.0 id) refl h
  where
    other : (b : Bool) → eqb t.0 id ≡ b → is_some (cond b (Some t.1) (type_at ts id)) ≡ false → (t.0 ≢ id) × (has_id ts id ≡ false)
    other true e n = absurd cc
    other false e n = (λ same. let yes = eq-eqb t.0 id same in absurd cc, n)

other_name : (t : ℕ × Named) (ts : List (ℕ × Named)) (name : List ℕ) → has_name (t ∷ ts) name ≡ false → (t.1.name ≢ name) × (has_name ts name ≡ false)
other_name t ts name h = other (bytes_eq t.1.name name) refl h
  where
    other : (b : Bool) → bytes_eq t.1.name name ≡ b → is_some (cond b (Some t.0) (id_of ts name)) ≡ false → (t.1.name ≢ name) × (has_name ts name ≡ false)
    other true e n = absurd cc
    other false e n = (λ same. let yes = (bytes_eq-Decides t.1.name name).1 same in absurd cc, n)

pub filed_still : (from : ℕ) (ts : List (ℕ × Named)) (u : ℕ × Named) (ids ids' : ℕ → Option ℕ) (names names' : List ℕ → Option ℕ) → AreFiled from ts ids names
    → ((id : ℕ) → id ≢ u.0 → ids' id ≡ ids id) → ((name : List ℕ) → name ≢ u.1.name → names' name ≡ names name)
    → has_id ts u.0 ≡ false → has_name ts u.1.name ≡ false → AreFiled from ts ids' names'
filed_still from [] u ids ids' names names' f i n no_id no_name = tt
filed_still from (t ∷ ts) u ids ids' names names' f i n no_id no_name =
    let by_id = other_id t ts u.0 no_id in
    let by_name = other_name t ts u.1.name no_name in (
      i t.0 by_id.0 ∙ f.0,
      n t.1.name by_name.0 ∙ f.1,
      filed_still (from + 1) ts u ids ids' names names' f.2 i n by_id.1 by_name.1,
    )

-- ---- what the maps find

-- a type stands in both maps
pub filed_at : (k from : ℕ) (ts : List (ℕ × Named)) (t : ℕ × Named) (ids : ℕ → Option ℕ) (names : List ℕ → Option ℕ) → AreFiled from ts ids names → slice_get ts k ≡ Some t
    → (ids t.0 ≡ Some (from + k)) × (names t.1.name ≡ Some (from + k))
filed_at k from [] t ids names f e = let no : true ≡ false = ap (λ (o : Option (ℕ × Named)). is_some o) (sym e) in absurd cc
filed_at zero from (u ∷ ts) t ids names f e =
    let same : u ≡ t = some_same e in
    subst (λ v. (ids v.0 ≡ Some (from + zero)) × (names v.1.name ≡ Some (from + zero))) same (f.0 ∙ ap (λ n. Some n) (omega arith), f.1 ∙ ap (λ n. Some n) (omega arith))
  where
    some_same : {A : Type 0} {x y : A} → Some x ≡ Some y → x ≡ y
    some_same {A} {x} {y} h = cc
filed_at (suc k) from (u ∷ ts) t ids names f e =
    let later = filed_at k (from + 1) ts t ids names f.2 e in
    let moved : from + 1 + k ≡ from + suc k = omega arith in
    (subst (λ n. ids t.0 ≡ Some n) moved later.0, subst (λ n. names t.1.name ≡ Some n) moved later.1)

found_id : (ts : List (ℕ × Named)) (k id : ℕ) (ids : ℕ → Option ℕ) (names : List ℕ → Option ℕ) → AreFiled 0 ts ids names → ids id ≡ Some k
    → find (has_that_id id) ts ≡ passing (has_that_id id) (slice_get ts k)
found_id ts k id ids names f e = placed_at k 0 k (has_that_id id) ts (subst (λ o. IsPlaced 0 (has_that_id id) ts o) e (placed_by_id 0 id ts ids names f)) (omega arith)

found_name : (ts : List (ℕ × Named)) (k : ℕ) (name : List ℕ) (ids : ℕ → Option ℕ) (names : List ℕ → Option ℕ) → AreFiled 0 ts ids names → names name ≡ Some k
    → find (has_that_name name) ts ≡ passing (has_that_name name) (slice_get ts k)
found_name ts k name ids names f e = placed_at k 0 k (has_that_name name) ts (subst (λ o. IsPlaced 0 (has_that_name name) ts o) e (placed_by_name 0 name ts ids names f)) (omega arith)

pub type_at-none : (ts : List (ℕ × Named)) (id : ℕ) (ids : ℕ → Option ℕ) (names : List ℕ → Option ℕ) → AreFiled 0 ts ids names → ids id ≡ None → type_at ts id ≡ None
type_at-none ts id ids names f e =
    type_at-find id ts ∙ ap (option_map (λ (u : ℕ × Named). u.1)) (none_placed 0 (has_that_id id) ts (subst (λ o. IsPlaced 0 (has_that_id id) ts o) e (placed_by_id 0 id ts ids names f)))

pub id_of-none : (ts : List (ℕ × Named)) (name : List ℕ) (ids : ℕ → Option ℕ) (names : List ℕ → Option ℕ) → AreFiled 0 ts ids names → names name ≡ None → id_of ts name ≡ None
id_of-none ts name ids names f e =
    id_of-find name ts ∙ ap (option_map (λ (u : ℕ × Named). u.0)) (none_placed 0 (has_that_name name) ts (subst (λ o. IsPlaced 0 (has_that_name name) ts o) e (placed_by_name 0 name ts ids names f)))

pub type_at-past : (ts : List (ℕ × Named)) (k id : ℕ) (ids : ℕ → Option ℕ) (names : List ℕ → Option ℕ) → AreFiled 0 ts ids names → ids id ≡ Some k → slice_get ts k ≡ None → type_at ts id ≡ None
type_at-past ts k id ids names f e n =
    type_at-find id ts ∙ ap (option_map (λ (u : ℕ × Named). u.1)) (found_id ts k id ids names f e ∙ ap (passing (has_that_id id)) n)

pub id_of-past : (ts : List (ℕ × Named)) (k : ℕ) (name : List ℕ) (ids : ℕ → Option ℕ) (names : List ℕ → Option ℕ) → AreFiled 0 ts ids names → names name ≡ Some k → slice_get ts k ≡ None → id_of ts name ≡ None
id_of-past ts k name ids names f e n =
    id_of-find name ts ∙ ap (option_map (λ (u : ℕ × Named). u.0)) (found_name ts k name ids names f e ∙ ap (passing (has_that_name name)) n)

pub type_at-other : (ts : List (ℕ × Named)) (k id : ℕ) (t : ℕ × Named) (ids : ℕ → Option ℕ) (names : List ℕ → Option ℕ) → AreFiled 0 ts ids names → ids id ≡ Some k → slice_get ts k ≡ Some t → t.0 ≢ id → type_at ts id ≡ None
type_at-other ts k id t ids names f e at apart =
    type_at-find id ts ∙ ap (option_map (λ (u : ℕ × Named). u.1)) (found_id ts k id ids names f e ∙ ap (passing (has_that_id id)) at ∙ cond-false (eqb t.0 id) (Some t) None (ne_eqb t.0 id apart))

pub id_of-other : (ts : List (ℕ × Named)) (k : ℕ) (name : List ℕ) (t : ℕ × Named) (ids : ℕ → Option ℕ) (names : List ℕ → Option ℕ) → AreFiled 0 ts ids names → names name ≡ Some k → slice_get ts k ≡ Some t → bytes_eq t.1.name name ≡ false → id_of ts name ≡ None
id_of-other ts k name t ids names f e at apart =
    id_of-find name ts ∙ ap (option_map (λ (u : ℕ × Named). u.0)) (found_name ts k name ids names f e ∙ ap (passing (has_that_name name)) at ∙ cond-false (bytes_eq t.1.name name) (Some t) None apart)

pub type_at-there : (ts : List (ℕ × Named)) (k : ℕ) (t : ℕ × Named) (ids : ℕ → Option ℕ) (names : List ℕ → Option ℕ) → AreFiled 0 ts ids names → slice_get ts k ≡ Some t → type_at ts t.0 ≡ Some t.1
type_at-there ts k t ids names f at =
    type_at-find t.0 ts ∙ ap (option_map (λ (u : ℕ × Named). u.1)) (found_id ts k t.0 ids names f ((filed_at k 0 ts t ids names f at).0 ∙ ap (λ n. Some n) (omega arith)) ∙ ap (passing (has_that_id t.0)) at ∙ cond-true (eqb t.0 t.0) (Some t) None (eq-eqb t.0 t.0 refl))

pub id_of-there : (ts : List (ℕ × Named)) (k : ℕ) (t : ℕ × Named) (ids : ℕ → Option ℕ) (names : List ℕ → Option ℕ) → AreFiled 0 ts ids names → slice_get ts k ≡ Some t → id_of ts t.1.name ≡ Some t.0
id_of-there ts k t ids names f at =
    id_of-find t.1.name ts ∙ ap (option_map (λ (u : ℕ × Named). u.0)) (found_name ts k t.1.name ids names f ((filed_at k 0 ts t ids names f at).1 ∙ ap (λ n. Some n) (omega arith)) ∙ ap (passing (has_that_name t.1.name)) at ∙ cond-true (bytes_eq t.1.name t.1.name) (Some t) None ((bytes_eq-Decides t.1.name t.1.name).1 refl))

-- what stands at a position of a slice, as a table shows it
pub listed_there : (ls slice : List Listed) (k : ℕ) (l : Listed) → slice ≡ ls → Some l ≡ slice_get slice k → slice_get (types_of ls) k ≡ Some (type_of l)
listed_there ls slice k l same e = slice_get-map type_of ls k ∙ ap (λ xs. option_map type_of (slice_get xs k)) (sym same) ∙ ap (option_map type_of) (sym e)

pub listed_past : (ls slice : List Listed) (k : ℕ) → slice ≡ ls → None ≡ slice_get slice k → slice_get (types_of ls) k ≡ None
listed_past ls slice k same e = slice_get-map type_of ls k ∙ ap (λ xs. option_map type_of (slice_get xs k)) (sym same) ∙ ap (option_map type_of) (sym e)

-- ---- filing types one by one

drop_step : (us : List Listed) (i : ℕ) (x : Listed) → i < length us → x ≡ get_or us i x → types_of (drop i us) ≡ type_of x ∷ types_of (drop (i + 1) us)
drop_step us i x lt is = ap types_of (drop_more us i x lt) ∙ ap (λ y. type_of y ∷ types_of (drop (i + 1) us)) (sym is)

take_step : (us : List Listed) (i : ℕ) (x : Listed) → i < length us → x ≡ get_or us i x → types_of (take (i + 1) us) ≡ types_of (take i us) ++ type_of x ∷ []
take_step us i x lt is = ap types_of (take_more us i x lt ∙ ap (λ y. take i us ++ y ∷ []) (sym is)) ∙ map-append type_of (take i us) (x ∷ [])

-- after a type was filed, or not wholly
pub still_filed : (ts : List (ℕ × Named)) (us : List Listed) (i : ℕ) (x : Listed) (ids ids' : ℕ → Option ℕ) (names names' : List ℕ → Option ℕ) → i < length us → x ≡ get_or us i x
    → AreFiled 0 (ts ++ types_of (take i us)) ids names → AreNew (ts ++ types_of (take i us)) (types_of (drop i us))
    → ((id : ℕ) → id ≢ x.id → ids' id ≡ ids id) → ((name : List ℕ) → name ≢ x.entry.name → names' name ≡ names name)
    → AreFiled 0 (ts ++ types_of (take i us)) ids' names'
still_filed ts us i x ids ids' names names' lt is filed new other_ids other_names =
    let next = subst (λ vs. AreNew (ts ++ types_of (take i us)) vs) (drop_step us i x lt is) new in
    filed_still 0 (ts ++ types_of (take i us)) (type_of x) ids ids' names names' filed other_ids other_names next.0 next.1

-- after a type was filed
pub one_filed : (ls us : List Listed) (i : ℕ) (x : Listed) (ids ids' : ℕ → Option ℕ) (names names' : List ℕ → Option ℕ) → i < length us → x ≡ get_or us i x
    → AreFiled 0 (types_of ls ++ types_of (take i us)) ids names → AreNew (types_of ls ++ types_of (take i us)) (types_of (drop i us))
    → ((id : ℕ) → id ≢ x.id → ids' id ≡ ids id) → ((name : List ℕ) → name ≢ x.entry.name → names' name ≡ names name)
    → ids' x.id ≡ Some (length ls + i) → names' x.entry.name ≡ Some (length ls + i)
    → (AreFiled 0 (types_of ls ++ types_of (take (i + 1) us)) ids' names') × AreNew (types_of ls ++ types_of (take (i + 1) us)) (types_of (drop (i + 1) us))
one_filed ls us i x ids ids' names names' lt is filed new other_ids other_names by_id by_name =
    let ts = types_of ls ++ types_of (take i us) in
    let next = subst (λ vs. AreNew ts vs) (drop_step us i x lt is) new in
    let still = still_filed (types_of ls) us i x ids ids' names names' lt is filed new other_ids other_names in
    let long : 0 + length ts ≡ length ls + i =
    zero-add (length ts) ∙ length-append (types_of ls) (types_of (take i us)) ∙ ap (λ n. n + length (types_of (take i us))) (length-map ls type_of)
    ∙ ap (λ n. length ls + n) (length-map (take i us) type_of ∙ length-take-le i us (omega (arith, lt))) in
    let more = filed_more 0 (length ls + i) ts (type_of x) ids' names' still long by_id by_name in
    let joined : ts ++ type_of x ∷ [] ≡ types_of ls ++ types_of (take (i + 1) us) =
    append_assoc (types_of ls) (types_of (take i us)) (type_of x ∷ []) ∙ ap (λ vs. types_of ls ++ vs) (sym (take_step us i x lt is)) in
    (subst (λ vs. AreFiled 0 vs ids' names') joined more, subst (λ vs. AreNew vs (types_of (drop (i + 1) us))) joined next.2)

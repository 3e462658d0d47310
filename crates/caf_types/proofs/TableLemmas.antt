-- Looking up in tables: lists joined, blocks, and the walk over blocks.
use Rattle.std.proofs.Common.{add-zero, length-append, ◌≡◌, ℕ, zero, suc, ◌+◌, ◌-◌, ◌<◌, ◌≤◌, eqb, ltb, cond, add-one, Bool, true, false, List, [], ◌∷◌, ◌++◌, length, drop, get_or, Option, Some, None, refl, sym, ap, ◌∙◌, arith}
use Rattle.std.specs.Prelude.{slice_get, bytes_eq, find as find_first}
use Rattle.std.specs.List.{position_from}
use Rattle.std.specs.Option.{option_map, option_copied}
use Rattle.std.specs.Borrow.{Bor}
use Rattle.std.proofs.lemmas.List.{drop_more, map-append, length-map}
use Rattle.std.proofs.lemmas.Bool.{ne_eqb, eq-eqb, ltb-true, ltb-false}
use Rattle.std.proofs.lemmas.Option.{slice_get_read}
use Rattle.caf_types.specs.Table.{Named, type_at, id_of, numbered, type_in, find_in, or_else}
use Rattle.caf_types.specs.Shape.{entry_view, entry_views}
use Rattle.caf_types.specs.Listing.{type_of, types_of}
use Rattle.caf_types.specs.declared.listed.Listed.{Listed}
use Rattle.caf_types.specs.declared.shape.Entry.{Entry}
use Rattle.caf_types.specs.declared.shape.Entry.{Entry}

-- ---- two lists of types

type_at-cons : (t : ℕ × Named) (ts us : List (ℕ × Named)) (id : ℕ) (b : Bool) → eqb t.0 id ≡ b → type_at (ts ++ us) id ≡ or_else (type_at ts id) (type_at us id) → type_at ((t ∷ ts) ++ us) id ≡ or_else (type_at (t ∷ ts) id) (type_at us id)
type_at-cons t ts us id true e h = rw e refl
type_at-cons t ts us id false e h = rw e h

pub type_at-append : (ts us : List (ℕ × Named)) (id : ℕ) → type_at (ts ++ us) id ≡ or_else (type_at ts id) (type_at us id)
type_at-append [] us id = refl
type_at-append (t ∷ ts) us id = type_at-cons t ts us id (eqb t.0 id) refl (type_at-append ts us id)

id_of-cons : (t : ℕ × Named) (ts us : List (ℕ × Named)) (name : List ℕ) (b : Bool) → bytes_eq t.1.name name ≡ b → id_of (ts ++ us) name ≡ or_else (id_of ts name) (id_of us name) → id_of ((t ∷ ts) ++ us) name ≡ or_else (id_of (t ∷ ts) name) (id_of us name)
id_of-cons t ts us name true e h = rw e refl
id_of-cons t ts us name false e h = rw e h

pub id_of-append : (ts us : List (ℕ × Named)) (name : List ℕ) → id_of (ts ++ us) name ≡ or_else (id_of ts name) (id_of us name)
id_of-append [] us name = refl
id_of-append (t ∷ ts) us name = id_of-cons t ts us name (bytes_eq t.1.name name) refl (id_of-append ts us name)

-- ---- a block

pub type_at_below : (first : ℕ) (ns : List Named) (id : ℕ) → id < first → type_at (numbered first ns) id ≡ None
type_at_below first [] id h = refl
type_at_below first (n ∷ ns) id h =
    let other : eqb first id ≡ false = ne_eqb first id (λ e. absurd (omega (arith, e))) in
    rw other (type_at_below (first + 1) ns id (omega arith))

pub type_at_block : (k first id : ℕ) (ns : List Named) → first + k ≡ id → type_at (numbered first ns) id ≡ slice_get ns k
type_at_block k first id [] e = refl
type_at_block zero first id (n ∷ ns) e =
    let here : eqb first id ≡ true = eq-eqb first id (omega (arith, e)) in
    rw here refl
type_at_block (suc k) first id (n ∷ ns) e =
    let other : eqb first id ≡ false = ne_eqb first id (λ same. absurd (omega (arith, e, same))) in
    rw other (type_at_block k (first + 1) id ns (omega (arith, e)))

-- a look-up by reference, as what it shows
pub option_map_copied : {X Y : Type 0} (f : X → Y) (r : Option (Bor X)) → option_map (λ (x : Bor X). f x.now) r ≡ option_map f (option_copied r)
option_map_copied f None = refl
option_map_copied f (Some x) = refl

pub at_get : (es : List Entry) (i : ℕ) (e : Entry) → i < length es → e ≡ get_or es i e → slice_get es i ≡ Some e
at_get es i e lt is = slice_get_read es (length es) i e refl lt is

-- ---- what a block adds

pub type_at_in : (first id : ℕ) (ns : List Named) (b : Bool) → ltb id first ≡ b → type_at (numbered first ns) id ≡ cond b None (slice_get ns (id - first))
type_at_in first id ns true e = type_at_below first ns id (ltb-true id first e)
type_at_in first id ns false e =
    let le : first ≤ id = ltb-false id first e in
    type_at_block (id - first) first id ns (omega arith)

pub type_joins : (ts : List (ℕ × Named)) (first id : ℕ) (ns : List Named) → type_at (ts ++ numbered first ns) id ≡ or_else (type_at ts id) (type_in first ns id)
type_joins ts first id ns =
    type_at-append ts (numbered first ns) id ∙ ap (λ (o : Option Named). or_else (type_at ts id) o) (type_at_in first id ns (ltb id first) refl)

pub map_or_else : {X Y : Type 0} (f : X → Y) (a b : Option X) → option_map f (or_else a b) ≡ or_else (option_map f a) (option_map f b)
map_or_else f (Some x) b = refl
map_or_else f None b = refl

id_at : (first : ℕ) (n : Named) (ns : List Named) (name : List ℕ) (b : Bool) → bytes_eq n.name name ≡ b
    → id_of (numbered (suc first) ns) name ≡ position_from (λ (m : Named). bytes_eq m.name name) (suc first) ns
    → id_of (numbered first (n ∷ ns)) name ≡ position_from (λ (m : Named). bytes_eq m.name name) first (n ∷ ns)
id_at first n ns name true e h = rw e refl
id_at first n ns name false e h = rw (e, add-one) h

pub id_of_block : (first : ℕ) (ns : List Named) (name : List ℕ) → id_of (numbered first ns) name ≡ position_from (λ (m : Named). bytes_eq m.name name) first ns
id_of_block first [] name = refl
id_of_block first (n ∷ ns) name = id_at first n ns name (bytes_eq n.name name) refl (id_of_block (suc first) ns name)

pub id_joins : (ts : List (ℕ × Named)) (first : ℕ) (ns : List Named) (name : List ℕ) → id_of (ts ++ numbered first ns) name ≡ or_else (id_of ts name) (find_in first ns name)
id_joins ts first ns name =
    id_of-append ts (numbered first ns) name ∙ ap (λ (o : Option ℕ). or_else (id_of ts name) o) (id_of_block first ns name)

-- what a look-up by reference found
pub some_read : {X : Type 0} (r : Option (Bor X)) (x : Bor X) (o : Option X) → r ≡ Some x → option_copied r ≡ o → o ≡ Some x.now
some_read r x o is e = sym e ∙ ap (λ s. option_copied s) is

pub none_read : {X : Type 0} (r : Option (Bor X)) (o : Option X) → r ≡ None → option_copied r ≡ o → o ≡ None
none_read r o is e = sym e ∙ ap (λ s. option_copied s) is

-- ---- the first name that clashes

entries_step : (es : List Entry) (i : ℕ) (e : Entry) → i < length es → e ≡ get_or es i e → entry_views (drop i es) ≡ entry_view e ∷ entry_views (drop (i + 1) es)
entries_step es i e lt is = ap entry_views (drop_more es i e lt ∙ ap (λ x. x ∷ drop (i + 1) es) (sym is))

pub clash_here : (test : Named → Bool) (es : List Entry) (i : ℕ) (e : Entry) → i < length es → e ≡ get_or es i e
    → find_first test (entry_views (drop i es)) ≡ find_first test (entry_views es) → test (entry_view e) ≡ true → find_first test (entry_views es) ≡ Some (entry_view e)
clash_here test es i e lt is so_far h = sym so_far ∙ ap (find_first test) (entries_step es i e lt is) ∙ rw h refl

pub clash_later : (test : Named → Bool) (es : List Entry) (i : ℕ) (e : Entry) → i < length es → e ≡ get_or es i e
    → find_first test (entry_views (drop i es)) ≡ find_first test (entry_views es) → test (entry_view e) ≡ false → find_first test (entry_views (drop (i + 1) es)) ≡ find_first test (entry_views es)
clash_later test es i e lt is so_far h =
    let step : find_first test (entry_views (drop i es)) ≡ find_first test (entry_views (drop (i + 1) es)) = ap (find_first test) (entries_step es i e lt is) ∙ rw h refl in
    sym step ∙ so_far

-- ---- entries under IDs that rise by one

pub numbered-more : (first : ℕ) (ns : List Named) (n : Named) → numbered first (ns ++ n ∷ []) ≡ numbered first ns ++ (first + length ns, n) ∷ []
numbered-more first [] n = ap (λ id. (id, n) ∷ []) (sym (add-zero first))
numbered-more first (m ∷ ns) n =
    let here : first + 1 + length ns ≡ first + length (m ∷ ns) = omega arith in
    ap (λ ts. (first, m) ∷ ts) (numbered-more (first + 1) ns n ∙ ap (λ id. numbered (first + 1) ns ++ (id, n) ∷ []) here)

pub listed-more : (ls : List Listed) (first : ℕ) (es : List Entry) (l : Listed) (e : Entry) → types_of ls ≡ numbered first (entry_views es) → l.id ≡ first + length es → l.entry ≡ e
    → types_of (ls ++ l ∷ []) ≡ numbered first (entry_views (es ++ e ∷ []))
listed-more ls first es l e so_far id is =
    let same : type_of l ≡ (first + length (entry_views es), entry_view e) =
    ap (λ n. (n, entry_view l.entry)) (id ∙ ap (λ n. first + n) (sym (length-map es entry_view))) ∙ ap (λ x. (first + length (entry_views es), entry_view x)) is in
    map-append type_of ls (l ∷ []) ∙ ap (λ ts. ts ++ type_of l ∷ []) so_far ∙ ap (λ t. numbered first (entry_views es) ++ t ∷ []) same
    ∙ sym (ap (numbered first) (map-append entry_view es (e ∷ [])) ∙ numbered-more first (entry_views es) (entry_view e))

pub id-more : (id first : ℕ) (es : List Entry) (e : Entry) → id ≡ first + length es → id + 1 ≡ first + length (es ++ e ∷ [])
id-more id first es e is = omega (arith, is, length-append es (e ∷ []))

-- Lines by their keys, seen as one list.
use Rattle.std.proofs.Common.{◌≡◌, ℕ, suc, ◌<◌, ◌≤◌, length, Bool, true, false, cond, List, [], ◌∷◌, ◌++◌, Option, Some, None, refl, sym, ap, ◌∙◌, subst, arith, append_assoc}
use Rattle.std.specs.List.{All, AllByRecursion, slice_get}
use Rattle.std.specs.Option.{MatchOption, IfSome, IfNone, option_map}
use Rattle.std.specs.Prelude.{Result, Ok, Err, OnOk, OnErr, nat_le}
use Rattle.std.specs.List.Sorted.{IsStrictlySortedBy}
use Rattle.std.specs.Ordering.{is_lt, is_gt, is_eq, ordering_reverse, match_ordering}
use Rattle.std.specs.declared.cmp.Ordering.{Ordering}
use Rattle.std.specs.declared.cmp.Ordering.TheVariants.{Less, Equal, Greater}
use Rattle.std.specs.Cmp.{IsTotalOrder}
use Rattle.std.specs.Map.{lookup, remove_entry, set_value, keys_of}
use Rattle.std.specs.BTreeMap.{insert_entry, is_at}
use Rattle.std.specs.BTreeMap.Range.{IsLeBy}
use Rattle.std.proofs.lemmas.Bool.Decides.{nat_tests}
use Rattle.std.proofs.lemmas.Cmp.{nat_cmp_total, on_total, then_total, tied_itself}
use Rattle.std.proofs.lemmas.Map.{lookup-none}
use Rattle.std.proofs.lemmas.Map.Entries.{none_below_head}
use Rattle.std.proofs.lemmas.Map.Keys.{sorted_head, sorted_tail}
use Rattle.caf_message.specs.Lists.{pick}
use Rattle.caf_response.specs.declared.line.Line.{Line}
use Rattle.caf_response.specs.Lines.{key_order, in_line, in_lines, put_in, first_of, first_within, comes_before, has_key, HaveKey, AreFiled}
use Rattle.caf_response.proofs.PickLemmas.{pick-past, pick-past_none}

abbrev pub Key : Type 0
Key = ℕ × ℕ

abbrev pub Entries : Type 0 → Type 0
Entries A = List (Key × Line A)

abbrev pub AreInOrder : {A : Type 0} → Entries A → Type 0
AreInOrder es = IsStrictlySortedBy key_order (keys_of es)

abbrev pub at : Key → Key → Bool
at key = is_at (key_order key)

pub order_total : IsTotalOrder key_order
order_total = then_total (on_total (λ (t : Key). t.0) nat_cmp_total) (on_total (λ (t : Key). t.1) nat_cmp_total)

same_first : (a b c d : ℕ) → is_eq (key_order (a, b) (c, d)) ≡ true → a ≡ c
same_first a b c d h = grind (arith, nat_tests)

same_second : (a b c d : ℕ) → is_eq (key_order (a, b) (c, d)) ≡ true → b ≡ d
same_second a b c d h = grind (arith, nat_tests)

pub same_key : (a b : Key) → at a b ≡ true → a ≡ b
same_key a b h =
    ap (λ n. (n, a.1)) (same_first a.0 a.1 b.0 b.1 h) ∙ ap (λ n. (b.0, n)) (same_second a.0 a.1 b.0 b.1 h)

module _ {A : Type 0} (key_of : A → Key) where
  -- ---- one line: all in it are alike

  line_of : (key line_key : Key) (b : Bool) (ps : List A) → HaveKey key_of line_key ps → at key line_key ≡ b → AllByRecursion (λ p. has_key key_of key p ≡ b) ps
  line_of key line_key b [] has e = tt
  line_of key line_key b (p ∷ ps) has e = (ap (at key) has.0 ∙ e, line_of key line_key b ps has.1 e)

  line_before : (h : A) (line_key : Key) (b : Bool) (ps : List A) → HaveKey key_of line_key ps → is_lt (key_order (key_of h) line_key) ≡ b → AllByRecursion (λ p. comes_before key_of h p ≡ b) ps
  line_before h line_key b [] has e = tt
  line_before h line_key b (p ∷ ps) has e = (ap (λ k. is_lt (key_order (key_of h) k)) has.0 ∙ e, line_before h line_key b ps has.1 e)

  -- ---- taking out

  -- the first one of a line, before others
  pub taken-set : (key : Key) (es : Entries A) (l l' : Line A) (p : A) → AreFiled key_of es → lookup (at key) es ≡ Some l → in_line l ≡ p ∷ in_line l'
      → pick (has_key key_of key) (in_lines es) ≡ Some (p, in_lines (set_value (at key) es l'))
  taken-set key [] l l' p filed found e = cc
  taken-set key (x ∷ es) l l' p filed found e = go (at key x.0) refl (λ f. taken-set key es l l' p filed.1 f e) found where
    go : (b : Bool) → at key x.0 ≡ b → (lookup (at key) es ≡ Some l → pick (has_key key_of key) (in_lines es) ≡ Some (p, in_lines (set_value (at key) es l')))
        → cond b (Some x.1) (lookup (at key) es) ≡ Some l
        → pick (has_key key_of key) (in_lines (x ∷ es)) ≡ Some (p, in_lines (cond b ((x.0, l') ∷ es) (x ∷ set_value (at key) es l')))
    go true q rest f =
        let same : in_line x.1 ≡ p ∷ in_line l' = let here : x.1 ≡ l = cc in ap in_line here ∙ e in
        let tests : AllByRecursion (λ r. has_key key_of key r ≡ true) (p ∷ in_line l') =
        subst (λ (ps : List A). AllByRecursion (λ r. has_key key_of key r ≡ true) ps) same (line_of key x.0 true (in_line x.1) filed.0 q) in
        subst (λ (ps : List A). pick (has_key key_of key) (ps ++ in_lines es) ≡ Some (p, in_line l' ++ in_lines es)) (sym same) (rw tests.0 refl)
    go false q rest f = pick-past (has_key key_of key) (in_line x.1) (in_lines es) p _ (line_of key x.0 false (in_line x.1) filed.0 q) (rest f)

  -- the only one of a line
  pub taken-remove : (key : Key) (es : Entries A) (l : Line A) → AreFiled key_of es → lookup (at key) es ≡ Some l → l.later.items ≡ []
      → pick (has_key key_of key) (in_lines es) ≡ Some (l.first, in_lines (remove_entry (at key) es))
  taken-remove key [] l filed found e = cc
  taken-remove key (x ∷ es) l filed found e = go (at key x.0) refl (λ f. taken-remove key es l filed.1 f e) found where
    go : (b : Bool) → at key x.0 ≡ b → (lookup (at key) es ≡ Some l → pick (has_key key_of key) (in_lines es) ≡ Some (l.first, in_lines (remove_entry (at key) es)))
        → cond b (Some x.1) (lookup (at key) es) ≡ Some l
        → pick (has_key key_of key) (in_lines (x ∷ es)) ≡ Some (l.first, in_lines (cond b es (x ∷ remove_entry (at key) es)))
    go true q rest f =
        let same : x.1 ≡ l = cc in
        let tests : AllByRecursion (λ r. has_key key_of key r ≡ true) (in_line l) =
        subst (λ (m : Line A). AllByRecursion (λ r. has_key key_of key r ≡ true) (in_line m)) same (line_of key x.0 true (in_line x.1) filed.0 q) in
        subst (λ (m : Line A). pick (has_key key_of key) (in_line m ++ in_lines es) ≡ Some (l.first, in_lines es)) (sym same) (rw (tests.0, e) refl)
    go false q rest f = pick-past (has_key key_of key) (in_line x.1) (in_lines es) l.first _ (line_of key x.0 false (in_line x.1) filed.0 q) (rest f)

  -- what `take_alone` leaves
  pub alone-taken : (key : Key) (es es' : Entries A) (l : Line A) (p : A) → AreFiled key_of es → lookup (at key) es ≡ Some l → IfSome (lookup (at key) es) (λ m. m.later.items ≡ []) → es' ≡ remove_entry (at key) es → p ≡ l.first
      → Some (p, in_lines es') ≡ pick (has_key key_of key) (in_lines es)
  alone-taken key es es' l p filed found alone set is =
      let one : l.later.items ≡ [] = subst (λ (o : Option (Line A)). IfSome o (λ m. m.later.items ≡ [])) found alone in
      rw (set, is) (sym (taken-remove key es l filed found one))

  pub taken-none : (key : Key) (es : Entries A) → AreFiled key_of es → lookup (at key) es ≡ None → pick (has_key key_of key) (in_lines es) ≡ None
  taken-none key [] filed none = refl
  taken-none key (x ∷ es) filed none = go (at key x.0) refl (λ f. taken-none key es filed.1 f) none where
    go : (b : Bool) → at key x.0 ≡ b → (lookup (at key) es ≡ None → pick (has_key key_of key) (in_lines es) ≡ None)
        → cond b (Some x.1) (lookup (at key) es) ≡ None → pick (has_key key_of key) (in_lines (x ∷ es)) ≡ None
    go true q rest f = cc
    go false q rest f = pick-past_none (has_key key_of key) (in_line x.1) (in_lines es) (line_of key x.0 false (in_line x.1) filed.0 q) (rest f)

  -- ---- the lines stay in form

  pub filed-set : (key : Key) (es : Entries A) (l l' : Line A) → AreFiled key_of es → lookup (at key) es ≡ Some l → (at key key ≡ true → HaveKey key_of key (in_line l) → HaveKey key_of key (in_line l')) → AreFiled key_of (set_value (at key) es l')
  filed-set key [] l l' filed found holds = tt
  filed-set key (x ∷ es) l l' filed found holds = go (at key x.0) refl (λ f. filed-set key es l l' filed.1 f holds) found where
    go : (b : Bool) → at key x.0 ≡ b → (lookup (at key) es ≡ Some l → AreFiled key_of (set_value (at key) es l')) → cond b (Some x.1) (lookup (at key) es) ≡ Some l
        → AreFiled key_of (cond b ((x.0, l') ∷ es) (x ∷ set_value (at key) es l'))
    go true q rest f =
        let here : x.1 ≡ l = cc in
        let same : key ≡ x.0 = same_key key x.0 q in
        let old : HaveKey key_of key (in_line l) = subst (λ (k : Key). HaveKey key_of k (in_line l)) (sym same) (subst (λ (m : Line A). HaveKey key_of x.0 (in_line m)) here filed.0) in
        (subst (λ (k : Key). HaveKey key_of k (in_line l')) same (holds (ap (at key) same ∙ q) old), filed.1)
    go false q rest f = (filed.0, rest f)

  pub filed-remove : (test : Key → Bool) (es : Entries A) → AreFiled key_of es → AreFiled key_of (remove_entry test es)
  filed-remove test [] filed = tt
  filed-remove test (x ∷ es) filed = go (test x.0) (filed-remove test es filed.1) where
    go : (b : Bool) → AreFiled key_of (remove_entry test es) → AreFiled key_of (cond b es (x ∷ remove_entry test es))
    go true rest = filed.1
    go false rest = (filed.0, rest)

  pub same-set : (test : Key → Bool) (es : Entries A) (l l' : Line A) → lookup test es ≡ Some l → in_line l' ≡ in_line l → in_lines (set_value test es l') ≡ in_lines es
  same-set test [] l l' found e = refl
  same-set test (x ∷ es) l l' found e = go (test x.0) (λ f. same-set test es l l' f e) found where
    go : (b : Bool) → (lookup test es ≡ Some l → in_lines (set_value test es l') ≡ in_lines es) → cond b (Some x.1) (lookup test es) ≡ Some l
        → in_lines (cond b ((x.0, l') ∷ es) (x ∷ set_value test es l')) ≡ in_lines (x ∷ es)
    go true rest f = let here : x.1 ≡ l = cc in ap (λ ps. ps ++ in_lines es) (e ∙ sym (ap in_line here))
    go false rest f = ap (λ ps. in_line x.1 ++ ps) (rest f)

  -- ---- putting in

  -- those that don't come after it stay before it
  passes : (h : A) (ps rest : List A) → AllByRecursion (λ p. comes_before key_of h p ≡ false) ps → put_in (comes_before key_of) (ps ++ rest) h ≡ ps ++ put_in (comes_before key_of) rest h
  passes h [] rest all = refl
  passes h (p ∷ ps) rest all = rw all.0 (ap (λ qs. p ∷ qs) (passes h ps rest all.1))

  -- it stands before the lines of greater keys
  stops : (h : A) (es : Entries A) → AreFiled key_of es → AllByRecursion (λ k. key_order (key_of h) k ≡ Less) (keys_of es) → put_in (comes_before key_of) (in_lines es) h ≡ h ∷ in_lines es
  stops h [] filed all = refl
  stops h (x ∷ es) filed all =
      let first : comes_before key_of h x.1.first ≡ true = (line_before h x.0 true (in_line x.1) filed.0 (ap is_lt all.0)).0 in
      rw first refl

  -- behind the others of its line
  pub held-set : (h : A) (es : Entries A) (l l' : Line A) → AreInOrder es → AreFiled key_of es → lookup (at (key_of h)) es ≡ Some l → in_line l' ≡ in_line l ++ h ∷ []
      → in_lines (set_value (at (key_of h)) es l') ≡ put_in (comes_before key_of) (in_lines es) h
  held-set h [] l l' order filed found e = cc
  held-set h (x ∷ es) l l' order filed found e = go (key_order (key_of h) x.0) refl (λ f. held-set h es l l' (sorted_tail key_order x.0 (keys_of es) order) filed.1 f e) found where
    go : (o : Ordering) → key_order (key_of h) x.0 ≡ o → (lookup (at (key_of h)) es ≡ Some l → in_lines (set_value (at (key_of h)) es l') ≡ put_in (comes_before key_of) (in_lines es) h)
        → cond (is_eq o) (Some x.1) (lookup (at (key_of h)) es) ≡ Some l
        → in_lines (cond (is_eq o) ((x.0, l') ∷ es) (x ∷ set_value (at (key_of h)) es l')) ≡ put_in (comes_before key_of) (in_lines (x ∷ es)) h
    go Less q rest f =
        let none : lookup (at (key_of h)) es ≡ None = lookup-none (at (key_of h)) es (none_below_head order_total (key_of h) x es order q).1 in
        cc
    go Equal q rest f =
        let here : x.1 ≡ l = cc in
        let same : key_of h ≡ x.0 = same_key (key_of h) x.0 (ap is_eq q) in
        let over : AllByRecursion (λ k. key_order (key_of h) k ≡ Less) (keys_of es) =
        subst (λ (k : Key). AllByRecursion (λ j. key_order k j ≡ Less) (keys_of es)) (sym same) (sorted_head key_order x.0 (keys_of es) order) in
        ap (λ ps. ps ++ in_lines es) (e ∙ sym (ap (λ m. in_line m ++ h ∷ []) here))
        ∙ append_assoc (in_line x.1) (h ∷ []) (in_lines es)
        ∙ ap (λ ps. in_line x.1 ++ ps) (sym (stops h es filed.1 over))
        ∙ sym (passes h (in_line x.1) (in_lines es) (line_before h x.0 false (in_line x.1) filed.0 (ap is_lt q)))
    go Greater q rest f =
        ap (λ ps. in_line x.1 ++ ps) (rest f)
        ∙ sym (passes h (in_line x.1) (in_lines es) (line_before h x.0 false (in_line x.1) filed.0 (ap is_lt q)))

  -- as a line of its own
  pub held-insert : (h : A) (es : Entries A) (l : Line A) → AreFiled key_of es → lookup (at (key_of h)) es ≡ None → l.first ≡ h → l.later.items ≡ []
      → in_lines (insert_entry key_order es (key_of h) l) ≡ put_in (comes_before key_of) (in_lines es) h
  held-insert h [] l filed none first later = rw (first, later) refl
  held-insert h (x ∷ es) l filed none first later = go (key_order (key_of h) x.0) refl (λ f. held-insert h es l filed.1 f first later) none where
    go : (o : Ordering) → key_order (key_of h) x.0 ≡ o → (lookup (at (key_of h)) es ≡ None → in_lines (insert_entry key_order es (key_of h) l) ≡ put_in (comes_before key_of) (in_lines es) h)
        → cond (is_eq o) (Some x.1) (lookup (at (key_of h)) es) ≡ None
        → in_lines (match_ordering o ((key_of h, l) ∷ x ∷ es) ((x.0, l) ∷ es) (x ∷ insert_entry key_order es (key_of h) l)) ≡ put_in (comes_before key_of) (in_lines (x ∷ es)) h
    go Less q rest f =
        let before : comes_before key_of h x.1.first ≡ true = (line_before h x.0 true (in_line x.1) filed.0 (ap is_lt q)).0 in
        rw (before, first, later) refl
    go Equal q rest f = cc
    go Greater q rest f =
        ap (λ ps. in_line x.1 ++ ps) (rest f)
        ∙ sym (passes h (in_line x.1) (in_lines es) (line_before h x.0 false (in_line x.1) filed.0 (ap is_lt q)))

  pub filed-insert : (key : Key) (es : Entries A) (l : Line A) → AreFiled key_of es → lookup (at key) es ≡ None → HaveKey key_of key (in_line l) → AreFiled key_of (insert_entry key_order es key l)
  filed-insert key [] l filed none has = (has, tt)
  filed-insert key (x ∷ es) l filed none has = go (key_order key x.0) (λ f. filed-insert key es l filed.1 f has) none where
    go : (o : Ordering) → (lookup (at key) es ≡ None → AreFiled key_of (insert_entry key_order es key l)) → cond (is_eq o) (Some x.1) (lookup (at key) es) ≡ None
        → AreFiled key_of (match_ordering o ((key, l) ∷ x ∷ es) ((x.0, l) ∷ es) (x ∷ insert_entry key_order es key l))
    go Less rest f = (has, filed)
    go Equal rest f = cc
    go Greater rest f = (filed.0, rest f)

  -- ---- the first one

  -- the first one is the first of the least key
  pub first-least_key : (key : Key) (x : Key × (Line A)) (es : Entries A) → AreFiled key_of (x ∷ es) → x.0 ≡ key → pick (has_key key_of key) (in_lines (x ∷ es)) ≡ first_of (in_lines (x ∷ es))
  first-least_key key x es filed e =
      let tie : at key x.0 ≡ true = ap (at key) e ∙ ap is_eq (tied_itself order_total key) in
      let first : has_key key_of key x.1.first ≡ true = (line_of key x.0 true (in_line x.1) filed.0 tie).0 in
      rw first refl

  -- what `(Line A)::take_first` says of the line before and after
  abbrev pub FirstTaken : (Line A) → (Line A) → Option A → Type 0
  FirstTaken l l' r = MatchOption r ((in_line l' ≡ in_line l) × (l'.later.items ≡ [])) (λ first. in_line l ≡ first ∷ in_line l')

  module _ (key : Key) (es es' : Entries A) (l l' : Line A) (filed : AreFiled key_of es) (found : lookup (at key) es ≡ Some l) (set : es' ≡ set_value (at key) es l') where
    pub several-taken : (r : Option A) → FirstTaken l l' r → IfSome r (λ p. pick (has_key key_of key) (in_lines es) ≡ Some (p, in_lines es'))
    several-taken None e = tt
    several-taken (Some p) e = rw set (taken-set key es l l' p filed found e)

    pub several-kept : (r : Option A) → FirstTaken l l' r → IfNone r (in_lines es' ≡ in_lines es)
    several-kept None e = rw set (same-set (at key) es l l' found e.0)
    several-kept (Some p) e = tt

    pub several-filed : (r : Option A) → FirstTaken l l' r → AreFiled key_of es'
    several-filed None e = rw set (filed-set key es l l' filed found (λ same has. subst (λ (ps : List A). HaveKey key_of key ps) (sym e.0) has))
    several-filed (Some p) e =
        rw set (filed-set key es l l' filed found (λ same has. let all : HaveKey key_of key (p ∷ in_line l') = subst (λ (ps : List A). HaveKey key_of key ps) e has in all.1))

  joined : (P : A → Type 0) (ps qs : List A) → AllByRecursion P ps → AllByRecursion P qs → AllByRecursion P (ps ++ qs)
  joined P [] qs all more = more
  joined P (p ∷ ps) qs all more = (all.0, joined P ps qs all.1 more)

  module _ (key : Key) (h : A) (same : key_of h ≡ key) (es es' : Entries A) (filed : AreFiled key_of es) where
    -- what a line of its own leaves
    module _ (none : lookup (at key) es ≡ None) (l : Line A) (first : l.first ≡ h) (later : l.later.items ≡ []) (set : es' ≡ insert_entry key_order es key l) where
      pub begun-held : in_lines es' ≡ put_in (comes_before key_of) (in_lines es) h
      begun-held =
          rw set (subst (λ (k : Key). in_lines (insert_entry key_order es k l) ≡ put_in (comes_before key_of) (in_lines es) h) same
          (held-insert h es l filed (subst (λ (k : Key). lookup (at k) es ≡ None) (sym same) none) first later))

      pub begun-filed : AreFiled key_of es'
      begun-filed = rw set (filed-insert key es l filed none (ap key_of first ∙ same, subst (λ (ps : List A). HaveKey key_of key ps) (sym later) tt))

    -- what `(Line A)::add` leaves
    module _ (order : AreInOrder es) (l l' : Line A) (found : lookup (at key) es ≡ Some l) (set : es' ≡ set_value (at key) es l') where
      added : in_line l' ≡ in_line l ++ h ∷ [] → in_lines es' ≡ put_in (comes_before key_of) (in_lines es) h
      added e =
          rw set (subst (λ (k : Key). in_lines (set_value (at k) es l') ≡ put_in (comes_before key_of) (in_lines es) h) same
          (held-set h es l l' order filed (subst (λ (k : Key). lookup (at k) es ≡ Some l) (sym same) found) e))

      pub added-held : {T E : Type 0} (r : Result T E) → OnOk r (in_line l' ≡ in_line l ++ h ∷ []) → OnOk r (in_lines es' ≡ put_in (comes_before key_of) (in_lines es) h)
      added-held (Ok x) e = added e
      added-held (Err x) e = tt

      pub added-kept : {T E : Type 0} (r : Result T E) → OnErr r (in_line l' ≡ in_line l) → OnErr r (in_lines es' ≡ in_lines es)
      added-kept (Ok x) e = tt
      added-kept (Err x) e = rw set (same-set (at key) es l l' found e)

      pub added-filed : {T E : Type 0} (r : Result T E) → OnOk r (in_line l' ≡ in_line l ++ h ∷ []) → OnErr r (in_line l' ≡ in_line l) → AreFiled key_of es'
      added-filed (Ok x) e e' =
          rw set (filed-set key es l l' filed found (λ tie has. subst (λ (ps : List A). HaveKey key_of key ps) (sym e) (joined (λ p. key_of p ≡ key) (in_line l) (h ∷ []) has (same, tt))))
      added-filed (Err x) e e' =
          rw set (filed-set key es l l' filed found (λ tie has. subst (λ (ps : List A). HaveKey key_of key ps) (sym e') has))

  -- ---- the least key

  not_gt : (o : Ordering) → is_gt o ≡ false → is_lt (ordering_reverse o) ≡ false
  not_gt Less e = refl
  not_gt Equal e = refl
  not_gt Greater e = cc

  all_from : {A : Type 0} (P : A → Type 0) (xs : List A) → All P xs → AllByRecursion P xs
  all_from P [] all = tt
  all_from P (x ∷ xs) all = (all 0 x (omega arith), all_from P xs (λ k d l. all (suc k) d (let m : suc k < suc (length xs) = omega arith in m)))

  -- nothing comes before a promise of the least key
  none_before : (p : A) (key : Key) (es : Entries A) → key_of p ≡ key → AreFiled key_of es → AllByRecursion (λ k. is_gt (key_order key k) ≡ false) (keys_of es) → AllByRecursion (λ q. comes_before key_of q p ≡ false) (in_lines es)
  none_before p key [] same filed all = tt
  none_before p key (x ∷ es) same filed all =
      joined (λ q. comes_before key_of q p ≡ false) (in_line x.1) (in_lines es) (in_this (in_line x.1) filed.0) (none_before p key es same filed.1 all.1) where
        turned : is_lt (key_order x.0 (key_of p)) ≡ false
        turned =
            ap is_lt (order_total.antisymm x.0 (key_of p)) ∙ ap (λ k. is_lt (ordering_reverse (key_order k x.0))) same ∙ not_gt (key_order key x.0) all.0

        in_this : (ps : List A) → HaveKey key_of x.0 ps → AllByRecursion (λ q. comes_before key_of q p ≡ false) ps
        in_this [] has = tt
        in_this (q ∷ qs) has = (ap (λ k. is_lt (key_order k (key_of p))) has.0 ∙ turned, in_this qs has.1)

  abbrev taken_or : A → Option (A × List A) → A
  taken_or p None = p
  taken_or p (Some taken) = taken.0

  module _ (key : Key) where
    abbrev pub IsFirstKey : Entries A → Type 0
    IsFirstKey es = option_map (λ e. e.0) (slice_get es 0) ≡ Some key

    pub taken-first : (es : Entries A) → AreFiled key_of es → IsFirstKey es → pick (has_key key_of key) (in_lines es) ≡ first_of (in_lines es)
    taken-first [] filed e = cc
    taken-first (x ∷ es) filed e = let same : x.0 ≡ key = cc in first-least_key key x es filed same

    pub least-first : (es : Entries A) → AreFiled key_of es → IsFirstKey es → All (IsLeBy key_order key) (keys_of es) → (r : Option A) (rest : List A)
        → option_map (λ p. (p, rest)) r ≡ first_of (in_lines es) → IfSome r (λ p. AllByRecursion (λ q. comes_before key_of q p ≡ false) (in_lines es))
    least-first es filed e all None rest t = tt
    least-first [] filed e all (Some p) rest t = cc
    least-first (x ∷ es) filed e all (Some p) rest t =
        let first : x.1.first ≡ p = sym (ap (taken_or p) t) in
        let key_is : x.0 ≡ key = cc in
        let same : key_of p ≡ key = sym (ap key_of first) ∙ filed.0.0 ∙ key_is in
        none_before p key (x ∷ es) same filed (all_from (IsLeBy key_order key) (keys_of (x ∷ es)) all)

  -- ---- the least key, where it is within a limit

  module _ (most : ℕ) (key : Key) where
    pub within-first : (es : Entries A) → AreFiled key_of es → IsFirstKey key es → key.0 ≤ most → pick (has_key key_of key) (in_lines es) ≡ first_within key_of most (in_lines es)
    within-first [] filed e le = cc
    within-first (x ∷ es) filed e le =
        let at : x.0 ≡ key = cc in
        let small : nat_le (key_of x.1.first).0 most ≡ true = ap (λ (k : Key). nat_le k.0 most) (filed.0.0 ∙ at) ∙ le_test key.0 most le in
        taken-first key (x ∷ es) filed e ∙ sym (rw small refl)
      where
        le_test : (a b : ℕ) → a ≤ b → nat_le a b ≡ true
        le_test a b l = grind (arith, nat_tests)

    pub not_within-first : (es : Entries A) → AreFiled key_of es → IsFirstKey key es → most < key.0 → None ≡ first_within key_of most (in_lines es)
    not_within-first [] filed e gt = refl
    not_within-first (x ∷ es) filed e gt =
        let at : x.0 ≡ key = cc in
        let large : nat_le (key_of x.1.first).0 most ≡ false = ap (λ (k : Key). nat_le k.0 most) (filed.0.0 ∙ at) ∙ gt_test key.0 most gt in
        sym (rw large refl)
      where
        gt_test : (a b : ℕ) → b < a → nat_le a b ≡ false
        gt_test a b l = grind (arith, nat_tests)

  pub none_within : (most : ℕ) (es : Entries A) → es ≡ [] → None ≡ first_within key_of most (in_lines es)
  none_within most es e = rw e refl

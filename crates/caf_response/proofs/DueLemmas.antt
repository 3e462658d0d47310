-- Due counts in order, each found under its number.
use Rattle.std.proofs.Common.{◌≡◌, ℕ, ◌+◌, ◌≤◌, Bool, true, false, cond, List, [], ◌∷◌, Option, Some, None, refl, sym, ap, ◌∙◌, subst, arith, eqb-true}
use Rattle.std.specs.Prelude.{◌==◌, not, filter, count_by}
use Rattle.std.specs.List.{AllByRecursion}
use Rattle.std.specs.List.Sorted.{IsStrictlySortedBy}
use Rattle.std.specs.Ordering.{nat_cmp, is_eq, match_ordering}
use Rattle.std.specs.declared.cmp.Ordering.{Ordering}
use Rattle.std.specs.declared.cmp.Ordering.TheVariants.{Less, Equal, Greater}
use Rattle.std.specs.Map.{lookup}
use Rattle.std.specs.BTreeMap.{is_at}
use Rattle.std.specs.BTreeSet.{insert_key}
use Rattle.std.specs.Set.{remove_key}
use Rattle.std.proofs.lemmas.Bool.Decides.{nat_tests}
use Rattle.std.proofs.lemmas.Cmp.{tied_itself}
use Rattle.std.proofs.lemmas.List.Sums.{sum_by-cons}
use Rattle.std.proofs.lemmas.Map.Keys.{sorted_head, sorted_tail}
use Rattle.caf_response.specs.Lines.{key_order}
use Rattle.caf_response.specs.Pending.{is_due, without_due}
use Rattle.caf_response.proofs.LineLemmas.{Key, at, order_total, same_key}

-- ---- what is found

abbrev count_of : List Key → ℕ → Option ℕ
count_of counts number = lookup (is_at (nat_cmp number)) counts

abbrev pub AreFound : List Key → List Key → Type 0
AreFound counts due = AllByRecursion (λ d. count_of counts d.1 ≡ Some d.0) due

abbrev pub NoneDue : ℕ → List Key → Type 0
NoneDue number due = AllByRecursion (λ d. is_due number d ≡ false) due

abbrev one : Bool → ℕ
one b = cond b 1 0

pub count-due : (number : ℕ) (d : Key) (ds : List Key) → count_by (is_due number) (d ∷ ds) ≡ one (is_due number d) + count_by (is_due number) ds
count-due number d ds = sum_by-cons (λ e. one (is_due number e)) d ds

pub none_due : (number : ℕ) (ds : List Key) → count_by (is_due number) ds ≡ 0 → NoneDue number ds
none_due number [] e = tt
none_due number (d ∷ ds) e = go (is_due number d) refl (sym (count-due number d ds) ∙ e) (none_due number ds) where
  go : (b : Bool) → is_due number d ≡ b → one b + count_by (is_due number) ds ≡ 0 → (count_by (is_due number) ds ≡ 0 → NoneDue number ds) → NoneDue number (d ∷ ds)
  go true q f rest = absurd (omega arith)
  go false q f rest = (q, rest (omega arith))

pub without-none : (number : ℕ) (ds : List Key) → NoneDue number ds → without_due number ds ≡ ds
without-none number [] none = refl
without-none number (d ∷ ds) none = rw none.0 (ap (λ xs. d ∷ xs) (without-none number ds none.1))

some_same : {A : Type 0} {a b : A} → Some a ≡ Some b → a ≡ b
some_same e = cc

same_test : (m n : ℕ) → is_at (nat_cmp n) m ≡ (m == n)
same_test m n = grind (arith, nat_tests)

-- ---- ending

-- a number has one count
one_count : (counts : List Key) (number count : ℕ) (d : Key) → count_of counts number ≡ Some count → count_of counts d.1 ≡ Some d.0 → is_due number d ≡ true → d ≡ (count, number)
one_count counts number count d found this q =
    let same : d.1 ≡ number = eqb-true d.1 number q in
    let c : d.0 ≡ count = some_same (sym this ∙ ap (count_of counts) same ∙ found) in
    ap (λ n. (n, d.1)) c ∙ ap (λ n. (count, n)) same

later_none : (counts : List Key) (number count : ℕ) (ds : List Key) → count_of counts number ≡ Some count → AreFound counts ds
    → AllByRecursion (λ k. key_order (count, number) k ≡ Less) ds → NoneDue number ds
later_none counts number count [] found all above = tt
later_none counts number count (d ∷ ds) found all above = (go (is_due number d) refl, later_none counts number count ds found all.1 above.1) where
  go : (b : Bool) → is_due number d ≡ b → b ≡ false
  go false q = refl
  go true q =
      let same : d ≡ (count, number) = one_count counts number count d found all.0 q in
      let less : key_order (count, number) (count, number) ≡ Less = subst (λ (k : Key). key_order (count, number) k ≡ Less) same above.0 in
      let tied : is_eq (key_order (count, number) (count, number)) ≡ true = ap is_eq (tied_itself order_total (count, number)) in
      let wrong : is_eq Less ≡ true = ap is_eq (sym less) ∙ tied in
      cc

pub ended : (counts : List Key) (number count : ℕ) (ds : List Key) → IsStrictlySortedBy key_order ds → AreFound counts ds → count_of counts number ≡ Some count
    → remove_key (at (count, number)) ds ≡ without_due number ds
ended counts number count [] order all found = refl
ended counts number count (d ∷ ds) order all found = go (is_due number d) refl (ended counts number count ds (sorted_tail key_order d ds order) all.1 found) where
  go : (b : Bool) → is_due number d ≡ b → remove_key (at (count, number)) ds ≡ without_due number ds → remove_key (at (count, number)) (d ∷ ds) ≡ without_due number (d ∷ ds)
  go true q rest =
      let same : d ≡ (count, number) = one_count counts number count d found all.0 q in
      let hit : at (count, number) d ≡ true = ap (at (count, number)) same ∙ ap is_eq (tied_itself order_total (count, number)) in
      let above : AllByRecursion (λ k. key_order (count, number) k ≡ Less) ds =
      subst (λ (k : Key). AllByRecursion (λ j. key_order k j ≡ Less) ds) same (sorted_head key_order d ds order) in
      rw (hit, q) (sym (without-none number ds (later_none counts number count ds found all.1 above)))
  go false q rest = miss (at (count, number) d) refl where
    miss : (b : Bool) → at (count, number) d ≡ b → remove_key (at (count, number)) (d ∷ ds) ≡ without_due number (d ∷ ds)
    miss true h =
        let same : (count, number) ≡ d = same_key (count, number) d h in
        let hit : (d.1 == number) ≡ true = ap (λ (k : Key). k.1 == number) (sym same) ∙ equal number in
        let wrong : true ≡ false = sym hit ∙ q in
        cc
      where
        equal : (n : ℕ) → (n == n) ≡ true
        equal n = grind (arith, nat_tests)
    miss false h = rw (h, q) (ap (λ xs. d ∷ xs) rest)

-- where a number has no count, nothing ends
pub no_count : (counts : List Key) (number : ℕ) (ds : List Key) → AreFound counts ds → count_of counts number ≡ None → NoneDue number ds
no_count counts number [] all none = tt
no_count counts number (d ∷ ds) all none = (go (is_due number d) refl, no_count counts number ds all.1 none) where
  go : (b : Bool) → is_due number d ≡ b → b ≡ false
  go false q = refl
  go true q =
      let same : d.1 ≡ number = eqb-true d.1 number q in
      let wrong : Some d.0 ≡ None = sym all.0 ∙ ap (count_of counts) same ∙ none in
      cc

-- ---- the counts of others stay

-- at all numbers but one the counts are the same
abbrev pub SameElsewhere : List Key → List Key → ℕ → Type 0
SameElsewhere counts others number = (q : ℕ) → (q == number) ≡ false → count_of others q ≡ count_of counts q

pub found-elsewhere : (counts others : List Key) (number : ℕ) (ds : List Key) → SameElsewhere counts others number → NoneDue number ds → AreFound counts ds → AreFound others ds
found-elsewhere counts others number [] same none all = tt
found-elsewhere counts others number (d ∷ ds) same none all = (same d.1 none.0 ∙ all.0, found-elsewhere counts others number ds same none.1 all.1)

pub found-without : (counts others : List Key) (number : ℕ) (ds : List Key) → SameElsewhere counts others number → AreFound counts ds → AreFound others (without_due number ds)
found-without counts others number [] same all = tt
found-without counts others number (d ∷ ds) same all = go (is_due number d) refl (found-without counts others number ds same all.1) where
  go : (b : Bool) → is_due number d ≡ b → AreFound others (without_due number ds) → AreFound others (cond (not b) (d ∷ without_due number ds) (without_due number ds))
  go true q rest = rest
  go false q rest = (same d.1 q ∙ all.0, rest)

pub found-insert : (counts : List Key) (d : Key) (ds : List Key) → count_of counts d.1 ≡ Some d.0 → AreFound counts ds → AreFound counts (insert_key key_order ds d)
found-insert counts d [] this all = (this, tt)
found-insert counts d (e ∷ ds) this all = go (key_order d e) (found-insert counts d ds this all.1) where
  go : (o : Ordering) → AreFound counts (insert_key key_order ds d) → AreFound counts (match_ordering o (d ∷ e ∷ ds) (e ∷ ds) (e ∷ insert_key key_order ds d))
  go Less rest = (this, all)
  go Equal rest = all
  go Greater rest = (all.0, rest)

-- by what an update says
pub updated-elsewhere : (counts others : List Key) (number : ℕ) (w : Option ℕ) → ((q : ℕ) → count_of others q ≡ cond (is_at (nat_cmp number) q) w (count_of counts q)) → SameElsewhere counts others number
updated-elsewhere counts others number w update q apart = update q ∙ rw (same_test q number ∙ apart) refl

-- ---- how often a number is due

pub count-insert : (number : ℕ) (d : Key) (ds : List Key) → count_by (is_due number) (insert_key key_order ds d) ≤ count_by (is_due number) ds + one (is_due number d)
count-insert number d [] = let a = count-due number d [] in omega arith
count-insert number d (e ∷ ds) = go (key_order d e) (count-insert number d ds) where
  go : (o : Ordering) → count_by (is_due number) (insert_key key_order ds d) ≤ count_by (is_due number) ds + one (is_due number d)
      → count_by (is_due number) (match_ordering o (d ∷ e ∷ ds) (e ∷ ds) (e ∷ insert_key key_order ds d)) ≤ count_by (is_due number) (e ∷ ds) + one (is_due number d)
  go Less rest = let a = count-due number d (e ∷ ds) in omega arith
  go Equal rest = omega arith
  go Greater rest = let a = count-due number e (insert_key key_order ds d) in let b = count-due number e ds in omega arith

pub count-without : (number other : ℕ) (ds : List Key) → count_by (is_due other) (without_due number ds) ≤ count_by (is_due other) ds
count-without number other [] = omega arith
count-without number other (d ∷ ds) = go (is_due number d) (count-without number other ds) where
  go : (b : Bool) → count_by (is_due other) (without_due number ds) ≤ count_by (is_due other) ds
      → count_by (is_due other) (cond (not b) (d ∷ without_due number ds) (without_due number ds)) ≤ count_by (is_due other) (d ∷ ds)
  go true rest = let a = count-due other d ds in omega arith
  go false rest = let a = count-due other d (without_due number ds) in let b = count-due other d ds in omega arith

pub count-ended : (number : ℕ) (ds : List Key) → count_by (is_due number) (without_due number ds) ≡ 0
count-ended number [] = refl
count-ended number (d ∷ ds) = go (is_due number d) refl (count-ended number ds) where
  go : (b : Bool) → is_due number d ≡ b → count_by (is_due number) (without_due number ds) ≡ 0
      → count_by (is_due number) (cond (not b) (d ∷ without_due number ds) (without_due number ds)) ≡ 0
  go true q rest = rest
  go false q rest = let a = count-due number d (without_due number ds) in let z : one (is_due number d) ≡ 0 = ap one q in omega arith

-- a new one ends again
pub without-insert : (number count : ℕ) (ds : List Key) → NoneDue number ds → without_due number (insert_key key_order ds (count, number)) ≡ ds
without-insert number count [] none = rw (same number) refl where
  same : (n : ℕ) → (n == n) ≡ true
  same n = grind (arith, nat_tests)
without-insert number count (d ∷ ds) none = go (key_order (count, number) d) refl (without-insert number count ds none.1) where
  same : (n : ℕ) → (n == n) ≡ true
  same n = grind (arith, nat_tests)

  go : (o : Ordering) → key_order (count, number) d ≡ o → without_due number (insert_key key_order ds (count, number)) ≡ ds
      → without_due number (match_ordering o ((count, number) ∷ d ∷ ds) (d ∷ ds) (d ∷ insert_key key_order ds (count, number))) ≡ d ∷ ds
  go Less q rest = rw (same number, none.0) (ap (λ xs. d ∷ xs) (without-none number ds none.1))
  go Equal q rest = rw none.0 (ap (λ xs. d ∷ xs) (without-none number ds none.1))
  go Greater q rest = rw none.0 (ap (λ xs. d ∷ xs) rest)
